-- A table that is read with reasons is the one that the grammar reads.
use Rattle.std.proofs.Common.{◌≡◌, ◌∙◌, sym, ap, ap₂, subst, ℕ, zero, suc, List, [], ◌∷◌, ◌++◌, length, Option, Some, None, Bool, true, false, not, ◌&&◌, Ok, Err, Result, ℤ, refl, nat_eq, if◌then◌else◌, append_assoc, append-nil, inl, inr, ⊎_elim}
use borrow.Author.Tests.{ne_eqb, eq-eqb}
use Rattle.dw_read.proofs.Indexed.{same_or_apart}
use Rattle.dw_read.proofs.Items.{one_step, no_fuel}
use Rattle.std.specs.Result.{result_ok}
use Rattle.dw_base.specs.Numbers.{◌>>=◌, when}
use Rattle.dw_base.specs.Leb128.{uleb_at, uleb16_at, sleb_at}
use Rattle.dw_base.specs.Forms.{implicit_const}
use Rattle.dw_base.specs.Abbreviations.{Specification, Shape, Declaration, constant_at, specifications_at, children_at, shape_at, is_new_code, declarations_at, table_at}
use Rattle.dw_read.specs.Reading.{Reading, Read, left}
use Rattle.dw_read.specs.Took.{RefusesOrFull}
use Rattle.dw_read.specs.Tables.{RefusesTable}
use Rattle.dw_read.specs.Reasons.{◌=>>◌, if_so, uleb_read, uleb16_read, sleb_read}
use Rattle.dw_read.specs.Declarations.{items_after, items_read, constant_read, specification_read, specifications_read, children_read, shape_read, declaration_read, table_read}
use Rattle.dw_read.specs.declared.error.ReadError.{ReadError}
use Rattle.dw_read.specs.declared.error.ReadError.TheVariants.{AbbreviationTagZero, AttributeNameZero, DuplicateAbbreviationCode}
use Rattle.dw_read.proofs.Laws.{IsReadOf, refuses, then_ok, if_so_ok, uleb_law, uleb16_law, sleb_law}

-- a value, a step and one more
bind_law : {A B C D : Type 0} (r : Result A ReadError) (o : Option A) (f : A → Result B ReadError) (g : A → Option D) (k : B → Result C ReadError) (l : D → Option C)
    → result_ok r ≡ o → ((a : A) → result_ok (f a =>> k) ≡ (g a >>= l)) → result_ok ((r =>> f) =>> k) ≡ ((o >>= g) >>= l)
bind_law (Ok a) o f g k l h s = s a ∙ ap (λ p. (p >>= g) >>= l) h
bind_law (Err e) o f g k l h s = ap (λ p. (p >>= g) >>= l) h

-- specifications with more before them
abbrev pub after : {A : Type 0} → List A → List A × List ℕ → Option (List A × List ℕ)
after front more = Some (front ++ more.0, more.1)

constant_law_by : (t : Bool) (bytes : List ℕ) → result_ok {T = Option ℤ × List ℕ} (if t then (sleb_read bytes =>> λ x. Ok (Some x.0, x.1)) else Ok (None, bytes)) ≡ (if t then (sleb_at bytes >>= λ x. Some (Some x.0, x.1)) else Some (None, bytes))
constant_law_by true bytes = then_ok (sleb_read bytes) (sleb_at bytes) _ _ (sleb_law bytes) (λ x. refl)
constant_law_by false bytes = refl

constant_law : (form : ℕ) → IsReadOf (Option ℤ) (constant_at form) (constant_read form)
unfolding constant_read
constant_law form bytes = constant_law_by (nat_eq form implicit_const) bytes

one_before : (o : Option (List Specification × List ℕ)) (before : List Specification) (s : Specification) → (o >>= after (before ++ s ∷ [])) ≡ ((o >>= λ more. Some (s ∷ more.0, more.1)) >>= after before)
one_before None before s = refl
one_before (Some x) before s = ap (λ (z : List Specification). Some (z, x.1)) (append_assoc before (s ∷ []) x.0)

specification_end : (b : Bool) (before : List Specification) (bytes : List ℕ) (more : List Specification → Read (List Specification))
    → result_ok (if_so b AttributeNameZero (Ok (None, bytes)) =>> items_after more before) ≡ (when b (Some ([], bytes)) >>= after before)
specification_end true before bytes more = ap (λ (z : List Specification). Some (z, bytes)) (sym (append-nil before))
specification_end false before bytes more = refl

abbrev pub form_read : ℕ → ℕ × List ℕ → Result (Option Specification × List ℕ) ReadError
form_read name form =
    if nat_eq name 0 then if_so (nat_eq form.0 0) AttributeNameZero (Ok (None, form.1))
    else (constant_read form.0 form.1 =>> λ constant. Ok (Some (record { name = name; form = form.0; constant = constant.0 }), constant.1))

abbrev pub form_of : (List ℕ → Option (List Specification × List ℕ)) → ℕ → ℕ × List ℕ → Option (List Specification × List ℕ)
form_of rest name form =
    if nat_eq name 0 then when (nat_eq form.0 0) (Some ([], form.1))
    else (constant_at form.0 form.1 >>= λ constant. rest constant.1 >>= λ more. Some (record { name = name; form = form.0; constant = constant.0 } ∷ more.0, more.1))

specification_step : (t : Bool) (name form : ℕ) (before : List Specification) (bytes : List ℕ) (more : List Specification → Read (List Specification)) (rest : List ℕ → Option (List Specification × List ℕ))
    → ((front : List Specification) (bs : List ℕ) → result_ok (more front bs) ≡ (rest bs >>= after front))
    → result_ok ((if t then if_so (nat_eq form 0) AttributeNameZero (Ok (None, bytes)) else (constant_read form bytes =>> λ constant. Ok (Some (record { name = name; form = form; constant = constant.0 }), constant.1))) =>> items_after more before)
    ≡ ((if t then when (nat_eq form 0) (Some ([], bytes)) else (constant_at form bytes >>= λ constant. rest constant.1 >>= λ more. Some (record { name = name; form = form; constant = constant.0 } ∷ more.0, more.1))) >>= after before)
specification_step true name form before bytes more rest h = specification_end (nat_eq form 0) before bytes more
specification_step false name form before bytes more rest h =
    bind_law (constant_read form bytes) (constant_at form bytes) (λ (constant : Option ℤ × List ℕ). Ok (Some (record { name = name; form = form; constant = constant.0 }), constant.1))
    (λ (constant : Option ℤ × List ℕ). rest constant.1 >>= λ more. Some (record { name = name; form = form; constant = constant.0 } ∷ more.0, more.1)) (items_after more before) (after before) (constant_law form bytes)
    (λ c. h (before ++ record { name = name; form = form; constant = c.0 } ∷ []) c.1 ∙ one_before (rest c.1) before (record { name = name; form = form; constant = c.0 }))

specification_is : (bytes : List ℕ) → specification_read bytes ≡ (uleb16_read bytes =>> λ name. uleb16_read name.1 =>> form_read name.0)
unfolding specification_read
specification_is bytes = refl

specifications_are : (fuel : ℕ) (bytes : List ℕ) → specifications_at (suc fuel) bytes ≡ (uleb16_at bytes >>= λ name. uleb16_at name.1 >>= form_of (specifications_at fuel) name.0)
unfolding specifications_at
specifications_are fuel bytes = refl

specifications_law_after : (fuel : ℕ) (before : List Specification) (bytes : List ℕ) → result_ok (items_read (λ b. specification_read) fuel before bytes) ≡ (specifications_at fuel bytes >>= after before)
unfolding specifications_at
specifications_law_after zero before bytes = ap result_ok (no_fuel Specification (λ b. specification_read) before bytes)
specifications_law_after (suc fuel) before bytes =
    let more : List Specification → Read (List Specification) = items_read (λ b. specification_read) fuel in
    ap result_ok (one_step Specification (λ b. specification_read) fuel before bytes ∙ ap (λ o. o =>> items_after more before) (specification_is bytes))
    ∙ bind_law (uleb16_read bytes) (uleb16_at bytes) (λ (name : ℕ × List ℕ). uleb16_read name.1 =>> form_read name.0) (λ (name : ℕ × List ℕ). uleb16_at name.1 >>= form_of (specifications_at fuel) name.0) (items_after more before) (after before) (uleb16_law bytes) (λ name.
    bind_law (uleb16_read name.1) (uleb16_at name.1) (form_read name.0) (form_of (specifications_at fuel) name.0) (items_after more before) (after before) (uleb16_law name.1) (λ form.
    specification_step (nat_eq name.0 0) name.0 form.0 before form.1 more (specifications_at fuel) (specifications_law_after fuel)))
    ∙ ap (λ o. o >>= after before) (sym (specifications_are fuel bytes))

none_before : {A : Type 0} (o : Option (List A × List ℕ)) → (o >>= after []) ≡ o
none_before None = refl
none_before (Some x) = refl

specifications_law : (bytes : List ℕ) → result_ok (specifications_read bytes) ≡ specifications_at (length bytes) bytes
specifications_law bytes = specifications_law_after (length bytes) [] bytes ∙ none_before (specifications_at (length bytes) bytes)

children_law : IsReadOf Bool children_at children_read
unfolding children_read
children_law [] = refl
children_law (zero ∷ bs) = refl
children_law (suc zero ∷ bs) = refl
children_law (suc (suc n) ∷ bs) = refl

pub shape_law : IsReadOf Shape shape_at shape_read
unfolding shape_at shape_read
shape_law bytes =
    then_ok (uleb16_read bytes) (uleb16_at bytes) _ _ (uleb16_law bytes) (λ tag.
    if_so_ok (not (nat_eq tag.0 0)) AbbreviationTagZero _ _ (then_ok (children_read tag.1) (children_at tag.1) _ _ (children_law tag.1) (λ children.
    then_ok (specifications_read children.1) (specifications_at (length children.1) children.1) _ _ (specifications_law children.1) (λ attributes. refl))))

-- none of the codes stands in those before
abbrev pub are_new : List Declaration → List Declaration → Bool
are_new [] before = true
are_new (d ∷ ds) before = is_new_code d.code before && are_new ds before

abbrev pub after_new : List Declaration → List Declaration × List ℕ → Option (List Declaration × List ℕ)
after_new before more = when (are_new more.0 before) (after before more)

same_either_way : (n m : ℕ) → nat_eq n m ≡ nat_eq m n
same_either_way n m = ⊎_elim (λ e. eq-eqb n m e ∙ sym (eq-eqb m n (sym e))) (λ f. ne_eqb n m f ∙ sym (ne_eqb m n (λ e. f (sym e)))) (same_or_apart n m)

and_swap : (a b c : Bool) → (a && (b && c)) ≡ (b && (a && c))
and_swap true true c = refl
and_swap true false c = refl
and_swap false true c = refl
and_swap false false c = refl

and_four : (a b c d : Bool) → ((a && b) && (c && d)) ≡ ((a && c) && (b && d))
and_four true true c d = refl
and_four true false true d = refl
and_four true false false d = refl
and_four false b c d = refl

new_in_more : (code : ℕ) (before : List Declaration) (d : Declaration) → is_new_code code (before ++ d ∷ []) ≡ (not (nat_eq code d.code) && is_new_code code before)
new_in_more code [] d = ap (λ b. not b && true) (same_either_way d.code code)
new_in_more code (x ∷ xs) d = ap (λ b. not (nat_eq x.code code) && b) (new_in_more code xs d) ∙ and_swap (not (nat_eq x.code code)) (not (nat_eq code d.code)) (is_new_code code xs)

new_after_more : (ds before : List Declaration) (d : Declaration) → are_new ds (before ++ d ∷ []) ≡ (is_new_code d.code ds && are_new ds before)
new_after_more [] before d = refl
new_after_more (m ∷ ms) before d =
    ap₂ (λ a b. a && b) (new_in_more m.code before d) (new_after_more ms before d)
    ∙ and_four (not (nat_eq m.code d.code)) (is_new_code m.code before) (is_new_code d.code ms) (are_new ms before)

bind_when : {A B : Type 0} (b : Bool) (x : A) (f : A → Option B) → (when b (Some x) >>= f) ≡ when b (f x)
bind_when true x f = refl
bind_when false x f = refl

when_and : {A : Type 0} (a b c : Bool) (x : Option A) → true ≡ c → when (a && b) x ≡ when a (when (c && b) x)
when_and true b true x h = refl
when_and false b true x h = refl
when_and a b false x h = absurd (cc)

when_none : {A : Type 0} (a b c : Bool) (x : Option A) → false ≡ c → None ≡ when a (when (c && b) x)
when_none true b false x h = refl
when_none false b false x h = refl
when_none a b true x h = absurd (cc)

abbrev pub when_new : Declaration → List Declaration × List ℕ → Option (List Declaration × List ℕ)
when_new d more = when (is_new_code d.code more.0) (Some (d ∷ more.0, more.1))

new_kept : (before : List Declaration) (d : Declaration) (o : Option (List Declaration × List ℕ)) → true ≡ is_new_code d.code before → (o >>= after_new (before ++ d ∷ [])) ≡ ((o >>= when_new d) >>= after_new before)
new_kept before d None h = refl
new_kept before d (Some x) h =
    ap₂ (λ (b : Bool) (z : List Declaration). when b (Some (z, x.1))) (new_after_more x.0 before d) (append_assoc before (d ∷ []) x.0)
    ∙ when_and (is_new_code d.code x.0) (are_new x.0 before) (is_new_code d.code before) (Some (before ++ d ∷ x.0, x.1)) h
    ∙ sym (bind_when (is_new_code d.code x.0) (d ∷ x.0, x.1) (after_new before))

new_refused : (before : List Declaration) (d : Declaration) (o : Option (List Declaration × List ℕ)) → false ≡ is_new_code d.code before → None ≡ ((o >>= when_new d) >>= after_new before)
new_refused before d None h = refl
new_refused before d (Some x) h =
    when_none (is_new_code d.code x.0) (are_new x.0 before) (is_new_code d.code before) (Some (before ++ d ∷ x.0, x.1)) h
    ∙ sym (bind_when (is_new_code d.code x.0) (d ∷ x.0, x.1) (after_new before))

new_step : (b : Bool) (before : List Declaration) (d : Declaration) (o : Option (List Declaration × List ℕ)) (r : Result (List Declaration × List ℕ) ReadError) → b ≡ is_new_code d.code before
    → result_ok r ≡ (o >>= after_new (before ++ d ∷ [])) → result_ok (if_so b (DuplicateAbbreviationCode d.code) r) ≡ ((o >>= when_new d) >>= after_new before)
new_step true before d o r h e = e ∙ new_kept before d o h
new_step false before d o r h e = new_refused before d o h

if_so_then : {A B : Type 0} (b : Bool) (e : ReadError) (x : A) (f : A → Result B ReadError) → (if_so b e (Ok x) =>> f) ≡ if_so b e (f x)
if_so_then true e x f = refl
if_so_then false e x f = refl

declaration_step : (t : Bool) (code : ℕ) (before : List Declaration) (bytes : List ℕ) (more : List Declaration → Read (List Declaration)) (rest : List ℕ → Option (List Declaration × List ℕ))
    → ((front : List Declaration) (bs : List ℕ) → result_ok (more front bs) ≡ (rest bs >>= after_new front))
    → result_ok ((if t then Ok (None, bytes) else (shape_read bytes =>> λ shape. if_so (is_new_code code before) (DuplicateAbbreviationCode code) (Ok (Some (record { code = code; shape = shape.0 }), shape.1)))) =>> items_after more before)
    ≡ ((if t then Some ([], bytes) else (shape_at bytes >>= λ shape. rest shape.1 >>= λ more. when (is_new_code code more.0) (Some (record { code = code; shape = shape.0 } ∷ more.0, more.1)))) >>= after_new before)
declaration_step true code before bytes more rest h = ap (λ (z : List Declaration). Some (z, bytes)) (sym (append-nil before))
declaration_step false code before bytes more rest h =
    bind_law (shape_read bytes) (shape_at bytes) (λ (shape : Shape × List ℕ). if_so (is_new_code code before) (DuplicateAbbreviationCode code) (Ok (Some (record { code = code; shape = shape.0 }), shape.1)))
    (λ (shape : Shape × List ℕ). rest shape.1 >>= λ more. when (is_new_code code more.0) (Some (record { code = code; shape = shape.0 } ∷ more.0, more.1))) (items_after more before) (after_new before) (shape_law bytes)
    (λ s. let d : Declaration = record { code = code; shape = s.0 } in
    ap result_ok (if_so_then (is_new_code code before) (DuplicateAbbreviationCode code) (Some d, s.1) (items_after more before))
    ∙ new_step (is_new_code code before) before d (rest s.1) (more (before ++ d ∷ []) s.1) refl (h (before ++ d ∷ []) s.1))

abbrev pub code_read : List Declaration → ℕ × List ℕ → Result (Option Declaration × List ℕ) ReadError
code_read before code =
    if nat_eq code.0 0 then Ok (None, code.1)
    else (shape_read code.1 =>> λ shape. if_so (is_new_code code.0 before) (DuplicateAbbreviationCode code.0) (Ok (Some (record { code = code.0; shape = shape.0 }), shape.1)))

abbrev pub code_of : (List ℕ → Option (List Declaration × List ℕ)) → ℕ × List ℕ → Option (List Declaration × List ℕ)
code_of rest code =
    if nat_eq code.0 0 then Some ([], code.1)
    else (shape_at code.1 >>= λ shape. rest shape.1 >>= λ more. when (is_new_code code.0 more.0) (Some (record { code = code.0; shape = shape.0 } ∷ more.0, more.1)))

declaration_is : (before : List Declaration) (bytes : List ℕ) → declaration_read before bytes ≡ (uleb_read bytes =>> code_read before)
unfolding declaration_read
declaration_is before bytes = refl

declarations_are : (fuel : ℕ) (bytes : List ℕ) → declarations_at (suc fuel) bytes ≡ (uleb_at bytes >>= code_of (declarations_at fuel))
unfolding declarations_at
declarations_are fuel bytes = refl

declarations_law_after : (fuel : ℕ) (before : List Declaration) (bytes : List ℕ) → result_ok (items_read declaration_read fuel before bytes) ≡ (declarations_at fuel bytes >>= after_new before)
unfolding declarations_at
declarations_law_after zero before bytes = ap result_ok (no_fuel Declaration declaration_read before bytes)
declarations_law_after (suc fuel) before bytes =
    let more : List Declaration → Read (List Declaration) = items_read declaration_read fuel in
    ap result_ok (one_step Declaration declaration_read fuel before bytes ∙ ap (λ o. o =>> items_after more before) (declaration_is before bytes))
    ∙ bind_law (uleb_read bytes) (uleb_at bytes) (code_read before) (code_of (declarations_at fuel)) (items_after more before) (after_new before) (uleb_law bytes) (λ code.
    declaration_step (nat_eq code.0 0) code.0 before code.1 more (declarations_at fuel) (declarations_law_after fuel))
    ∙ ap (λ o. o >>= after_new before) (sym (declarations_are fuel bytes))

all_new : (ds : List Declaration) → are_new ds [] ≡ true
all_new [] = refl
all_new (d ∷ ds) = all_new ds

none_before_new : (o : Option (List Declaration × List ℕ)) → (o >>= after_new []) ≡ o
none_before_new None = refl
none_before_new (Some x) = ap (λ b. when b (Some x)) (all_new x.0)

pub table_law : IsReadOf (List Declaration) table_at table_read
unfolding table_at table_read
table_law bytes = declarations_law_after (length bytes) [] bytes ∙ none_before_new (declarations_at (length bytes) bytes)

pub refuses_table : (old dup : Reading) (e : ReadError) → dup ≡ old → RefusesOrFull (List Declaration) table_read dup e → RefusesTable old e
refuses_table old dup e q (inl h) = inl h
refuses_table old dup e q (inr h) = inr (refuses (List Declaration) table_at table_read old e table_law (subst (λ (r : Reading). table_read (left r) ≡ Err e) q h))
