-- The parts of a declaration, from what was read of it.
use Rattle.std.proofs.Common.{◌≡◌, ◌∙◌, ap, ℕ, zero, suc, ◌<◌, ◌≤◌, ◌^◌, List, [], ◌∷◌, length, Option, Some, None, Ok, Err, Result, Bool, true, false, not, ◌&&◌, ℤ, refl, arith, nat_lt, nat_eq, if◌then◌else◌, ap₂}
use Rattle.std.proofs.lemmas.Bool.{lt-ltb, le-ltb}
use borrow.Author.Tests.{ne_eqb, eq-eqb}
use Rattle.dw_base.specs.Numbers.{when, number_at, bytes_at}
use Rattle.dw_base.proofs.NumberLaws.{bind_parts, when_same}
use Rattle.dw_base.proofs.HeaderLaws.{byte-again}
use Rattle.dw_read.proofs.Laws.{grammar_is, uleb_law, sleb_law}
use Rattle.dw_read.proofs.Groups.{groups_shorter, signed_groups_shorter}
use Rattle.dw_read.proofs.Items.{IsOne, Collects, collects_err, collects_end, then_parts, if_so_parts, items_shorter}
use Rattle.dw_base.specs.Forms.{implicit_const}
use Rattle.dw_base.specs.Leb128.{groups_at, uleb_at, signed_groups_at, fits_i64, sleb_at}
use Rattle.dw_base.specs.Abbreviations.{Specification, Shape, Declaration, is_new_code, shape_of_code}
use Rattle.dw_read.specs.Reasons.{◌=>>◌, or_refuse, if_so, uleb_read, uleb16_read, sleb_read, number_read}
use Rattle.dw_read.specs.Declarations.{constant_read, specification_read, specifications_read, children_read, shape_read, declaration_read, table_read}
use Rattle.dw_read.specs.declared.error.ReadError.{ReadError}
use Rattle.dw_read.specs.declared.error.ReadError.TheVariants.{UnexpectedEof, BadLeb128, AbbreviationTagZero, AttributeNameZero, BadHasChildren, DuplicateAbbreviationCode}

pub uleb16_is : (n : ℕ) (bs rest : List ℕ) → uleb_read bs ≡ Ok (n, rest) → n < 2 ^ 16 → uleb16_read bs ≡ Ok (n, rest)
unfolding uleb16_read
uleb16_is n bs rest h l = rw (h, lt-ltb n (2 ^ 16) l) refl

pub uleb16_big : (n : ℕ) (bs rest : List ℕ) → uleb_read bs ≡ Ok (n, rest) → 2 ^ 16 ≤ n → uleb16_read bs ≡ Err BadLeb128
unfolding uleb16_read
uleb16_big n bs rest h l = rw (h, le-ltb n (2 ^ 16) l) refl

pub uleb16_err : (bs : List ℕ) (e : ReadError) → uleb_read bs ≡ Err e → uleb16_read bs ≡ Err e
unfolding uleb16_read
uleb16_err bs e h = rw h refl

pub constant_none : (form : ℕ) (bs : List ℕ) → (form ≡ implicit_const → ⊥) → constant_read form bs ≡ Ok (None, bs)
unfolding constant_read
constant_none form bs h = rw (ne_eqb form implicit_const h) refl

pub constant_some : (form : ℕ) (z : ℤ) (bs rest : List ℕ) → form ≡ implicit_const → sleb_read bs ≡ Ok (z, rest) → constant_read form bs ≡ Ok (Some z, rest)
unfolding constant_read
constant_some form z bs rest h e = rw (eq-eqb form implicit_const h, e) refl

pub constant_err : (form : ℕ) (bs : List ℕ) (e : ReadError) → form ≡ implicit_const → sleb_read bs ≡ Err e → constant_read form bs ≡ Err e
unfolding constant_read
constant_err form bs e h r = rw (eq-eqb form implicit_const h, r) refl

pub no_name : (bs : List ℕ) (e : ReadError) → uleb16_read bs ≡ Err e → specification_read bs ≡ Err e
unfolding specification_read
no_name bs e h = rw h refl

pub no_form : (name : ℕ) (bs mid : List ℕ) (e : ReadError) → uleb16_read bs ≡ Ok (name, mid) → uleb16_read mid ≡ Err e → specification_read bs ≡ Err e
unfolding specification_read
no_form name bs mid e h k = rw (h, k) refl

pub name_zero : (name form : ℕ) (bs mid rest : List ℕ) → uleb16_read bs ≡ Ok (name, mid) → uleb16_read mid ≡ Ok (form, rest) → name ≡ 0 → (form ≡ 0 → ⊥) → specification_read bs ≡ Err AttributeNameZero
unfolding specification_read
name_zero name form bs mid rest h k z n = rw (h, k, eq-eqb name 0 z, ne_eqb form 0 n) refl

pub two_zeros : (name form : ℕ) (bs mid rest : List ℕ) → uleb16_read bs ≡ Ok (name, mid) → uleb16_read mid ≡ Ok (form, rest) → name ≡ 0 → form ≡ 0 → specification_read bs ≡ Ok (None, rest)
unfolding specification_read
two_zeros name form bs mid rest h k z n = rw (h, k, eq-eqb name 0 z, eq-eqb form 0 n) refl

pub no_constant : (name form : ℕ) (bs mid rest : List ℕ) (e : ReadError) → uleb16_read bs ≡ Ok (name, mid) → uleb16_read mid ≡ Ok (form, rest) → (name ≡ 0 → ⊥) → constant_read form rest ≡ Err e → specification_read bs ≡ Err e
unfolding specification_read
no_constant name form bs mid rest e h k z r = rw (h, k, ne_eqb name 0 z, r) refl

pub one_specification : (name form : ℕ) (constant : Option ℤ) (bs mid rest more : List ℕ) → uleb16_read bs ≡ Ok (name, mid) → uleb16_read mid ≡ Ok (form, rest) → (name ≡ 0 → ⊥) → constant_read form rest ≡ Ok (constant, more)
    → specification_read bs ≡ Ok (Some (record { name = name; form = form; constant = constant }), more)
unfolding specification_read
one_specification name form constant bs mid rest more h k z r = rw (h, k, ne_eqb name 0 z, r) refl

-- the byte on children
byte_of : (big : Bool) (b : ℕ) (bs : List ℕ) → number_read big 1 (b ∷ bs) ≡ Ok (b, bs)
unfolding number_read
byte_of big b bs = ap (or_refuse UnexpectedEof) (byte-again big b bs)

byte_end : (big : Bool) → number_read big 1 [] ≡ Err UnexpectedEof
unfolding number_read number_at bytes_at
byte_end big = refl

first_byte : (big : Bool) (b : ℕ) (bs rest : List ℕ) → number_read big 1 bs ≡ Ok (b, rest) → bs ≡ b ∷ rest
first_byte big b [] rest h = let e : number_read big 1 [] ≡ Err UnexpectedEof = byte_end big in absurd (cc)
first_byte big b (c ∷ cs) rest h = let e : number_read big 1 (c ∷ cs) ≡ Ok (c, cs) = byte_of big c cs in let r : (c, cs) ≡ (b, rest) = cc in ap₂ (λ (x : ℕ) (xs : List ℕ). x ∷ xs) (ap (λ (y : ℕ × List ℕ). y.0) r) (ap (λ (y : ℕ × List ℕ). y.1) r)

children_end : children_read [] ≡ Err UnexpectedEof
unfolding children_read
children_end = refl

pub no_children_byte : (big : Bool) (bs : List ℕ) (e : ReadError) → number_read big 1 bs ≡ Err e → children_read bs ≡ Err e
no_children_byte big [] e h = let z : number_read big 1 [] ≡ Err UnexpectedEof = byte_end big in let q : UnexpectedEof ≡ e = cc in children_end ∙ ap (λ (y : ReadError). Err y) q
no_children_byte big (b ∷ bs) e h = let q : number_read big 1 (b ∷ bs) ≡ Ok (b, bs) = byte_of big b bs in absurd (cc)

children_at_0 : (rest : List ℕ) → children_read (0 ∷ rest) ≡ Ok (false, rest)
unfolding children_read
children_at_0 rest = refl

children_at_1 : (rest : List ℕ) → children_read (1 ∷ rest) ≡ Ok (true, rest)
unfolding children_read
children_at_1 rest = refl

children_at_2 : (b : ℕ) (rest : List ℕ) → 2 ≤ b → children_read (b ∷ rest) ≡ Err (BadHasChildren b)
unfolding children_read
children_at_2 zero rest h = absurd (omega arith)
children_at_2 (suc zero) rest h = absurd (omega arith)
children_at_2 (suc (suc n)) rest h = refl

pub children_false : (big : Bool) (bs rest : List ℕ) → number_read big 1 bs ≡ Ok (0, rest) → children_read bs ≡ Ok (false, rest)
children_false big bs rest h = ap children_read (first_byte big 0 bs rest h) ∙ children_at_0 rest

pub children_true : (big : Bool) (bs rest : List ℕ) → number_read big 1 bs ≡ Ok (1, rest) → children_read bs ≡ Ok (true, rest)
children_true big bs rest h = ap children_read (first_byte big 1 bs rest h) ∙ children_at_1 rest

pub children_bad : (big : Bool) (b : ℕ) (bs rest : List ℕ) → number_read big 1 bs ≡ Ok (b, rest) → 2 ≤ b → children_read bs ≡ Err (BadHasChildren b)
children_bad big b bs rest h l = ap children_read (first_byte big b bs rest h) ∙ children_at_2 b rest l

pub children_shorter : (bs : List ℕ) (x : Bool × List ℕ) → children_read bs ≡ Ok x → length x.1 < length bs
unfolding children_read
children_shorter [] x h = absurd (cc)
children_shorter (zero ∷ bs) x h = let q : (false, bs) ≡ x = cc in let r : bs ≡ x.1 = ap (λ (y : Bool × List ℕ). y.1) q in omega (arith, ap length r)
children_shorter (suc zero ∷ bs) x h = let q : (true, bs) ≡ x = cc in let r : bs ≡ x.1 = ap (λ (y : Bool × List ℕ). y.1) q in omega (arith, ap length r)
children_shorter (suc (suc n) ∷ bs) x h = absurd (cc)

-- a specification takes a byte at least
pub uleb_shorter : (bs : List ℕ) (x : ℕ × List ℕ) → uleb_read bs ≡ Ok x → length x.1 < length bs
unfolding uleb_at
uleb_shorter bs x e =
    let p = bind_parts (groups_at bs) (λ (y : ℕ × List ℕ). when (nat_lt y.0 (2 ^ 64)) (Some y)) x (grammar_is ℕ uleb_at uleb_read bs x uleb_law e) in
    groups_shorter bs x (p.1 ∙ when_same (nat_lt p.0.0 (2 ^ 64)) (Some p.0) x p.2)

pub uleb16_shorter : (bs : List ℕ) (x : ℕ × List ℕ) → uleb16_read bs ≡ Ok x → length x.1 < length bs
unfolding uleb16_read
uleb16_shorter bs x e =
    let p = then_parts (uleb_read bs) (λ (y : ℕ × List ℕ). if_so (nat_lt y.0 (2 ^ 16)) BadLeb128 (Ok y)) x e in
    let q : Ok p.0 ≡ Ok x = if_so_parts (nat_lt p.0.0 (2 ^ 16)) BadLeb128 (Ok p.0) x p.2 in
    let r : p.0 ≡ x = cc in
    let s : length p.0.1 < length bs = uleb_shorter bs p.0 p.1 in
    omega (arith, s, ap (λ (y : ℕ × List ℕ). length y.1) r)

pub sleb_shorter : (bs : List ℕ) (x : ℤ × List ℕ) → sleb_read bs ≡ Ok x → length x.1 < length bs
unfolding sleb_at
sleb_shorter bs x e =
    let p = bind_parts (signed_groups_at bs) (λ (y : ℤ × List ℕ). when (fits_i64 y.0) (Some y)) x (grammar_is ℤ sleb_at sleb_read bs x sleb_law e) in
    signed_groups_shorter bs x (p.1 ∙ when_same (fits_i64 p.0.0) (Some p.0) x p.2)

constant_shorter_by : (t : Bool) (bs : List ℕ) (x : Option ℤ × List ℕ) → (if t then (sleb_read bs =>> λ y. Ok (Some y.0, y.1)) else Ok (None, bs)) ≡ Ok x → length x.1 ≤ length bs
constant_shorter_by true bs x e =
    let f : ℤ × List ℕ → Result (Option ℤ × List ℕ) ReadError = λ y. Ok (Some y.0, y.1) in
    let p = then_parts (sleb_read bs) f x e in
    let v : Option ℤ × List ℕ = (Some p.0.0, p.0.1) in
    let q : v ≡ x = cc (p.2) in
    let s : length p.0.1 < length bs = sleb_shorter bs p.0 p.1 in
    omega (arith, s, ap (λ (y : Option ℤ × List ℕ). length y.1) q)
constant_shorter_by false bs x e = let v : Option ℤ × List ℕ = (None, bs) in let q : v ≡ x = cc in omega (arith, ap (λ (y : Option ℤ × List ℕ). length y.1) q)

constant_shorter : (form : ℕ) (bs : List ℕ) (x : Option ℤ × List ℕ) → constant_read form bs ≡ Ok x → length x.1 ≤ length bs
unfolding constant_read
constant_shorter form bs x e = constant_shorter_by (nat_eq form implicit_const) bs x e

specification_rest : (t : Bool) (name form : ℕ) (bs : List ℕ) (x : Option Specification × List ℕ)
    → (if t then if_so (nat_eq form 0) AttributeNameZero (Ok (None, bs)) else (constant_read form bs =>> λ constant. Ok (Some (record { name = name; form = form; constant = constant.0 }), constant.1))) ≡ Ok x → length x.1 ≤ length bs
specification_rest true name form bs x e =
    let v : Option Specification × List ℕ = (None, bs) in
    let o : Result (Option Specification × List ℕ) ReadError = Ok v in
    let q : o ≡ Ok x = if_so_parts (nat_eq form 0) AttributeNameZero o x e in
    let r : v ≡ x = cc in
    omega (arith, ap (λ (y : Option Specification × List ℕ). length y.1) r)
specification_rest false name form bs x e =
    let f : Option ℤ × List ℕ → Result (Option Specification × List ℕ) ReadError = λ c. Ok (Some (record { name = name; form = form; constant = c.0 }), c.1) in
    let p = then_parts (constant_read form bs) f x e in
    let v : Option Specification × List ℕ = (Some (record { name = name; form = form; constant = p.0.0 }), p.0.1) in
    let r : v ≡ x = cc (p.2) in
    let s : length p.0.1 ≤ length bs = constant_shorter form bs p.0 p.1 in
    omega (arith, s, ap (λ (y : Option Specification × List ℕ). length y.1) r)

specification_shorter : (bs : List ℕ) (x : Option Specification × List ℕ) → specification_read bs ≡ Ok x → length x.1 < length bs
unfolding specification_read
specification_shorter bs x e =
    let p = then_parts (uleb16_read bs) _ x e in
    let q = then_parts (uleb16_read p.0.1) _ x p.2 in
    let a : length p.0.1 < length bs = uleb16_shorter bs p.0 p.1 in
    let b : length q.0.1 < length p.0.1 = uleb16_shorter p.0.1 q.0 q.1 in
    let c : length x.1 ≤ length q.0.1 = specification_rest (nat_eq p.0.0 0) p.0.0 q.0.0 q.0.1 x q.2 in
    omega (arith, a, b, c)

specification_empty : specification_read [] ≡ Err UnexpectedEof
unfolding specification_read uleb16_read uleb_read groups_at
specification_empty = refl

pub one_is_specification : IsOne Specification (λ before. specification_read)
one_is_specification = record { empty = λ before. specification_empty; shorter = λ before bytes x e. specification_shorter bytes x e }

-- a declaration after its code
pub no_tag : (bs : List ℕ) (e : ReadError) → uleb16_read bs ≡ Err e → shape_read bs ≡ Err e
unfolding shape_read
no_tag bs e h = rw h refl

pub tag_zero : (tag : ℕ) (bs rest : List ℕ) → uleb16_read bs ≡ Ok (tag, rest) → tag ≡ 0 → shape_read bs ≡ Err AbbreviationTagZero
unfolding shape_read
tag_zero tag bs rest h z = rw (h, eq-eqb tag 0 z) refl

pub no_children : (tag : ℕ) (bs rest : List ℕ) (e : ReadError) → uleb16_read bs ≡ Ok (tag, rest) → (tag ≡ 0 → ⊥) → children_read rest ≡ Err e → shape_read bs ≡ Err e
unfolding shape_read
no_children tag bs rest e h z r = rw (h, ne_eqb tag 0 z, r) refl

pub no_attributes : (tag : ℕ) (children : Bool) (bs rest more : List ℕ) (e : ReadError) → uleb16_read bs ≡ Ok (tag, rest) → (tag ≡ 0 → ⊥) → children_read rest ≡ Ok (children, more) → specifications_read more ≡ Err e → shape_read bs ≡ Err e
unfolding shape_read
no_attributes tag children bs rest more e h z r a = rw (h, ne_eqb tag 0 z, r, a) refl

pub one_shape : (tag : ℕ) (children : Bool) (attributes : List Specification) (bs rest more last : List ℕ) → uleb16_read bs ≡ Ok (tag, rest) → (tag ≡ 0 → ⊥) → children_read rest ≡ Ok (children, more) → specifications_read more ≡ Ok (attributes, last)
    → shape_read bs ≡ Ok (record { tag = tag; has_children = children; attributes = attributes }, last)
unfolding shape_read
one_shape tag children attributes bs rest more last h z r a = rw (h, ne_eqb tag 0 z, r, a) refl

shape_shorter : (bs : List ℕ) (x : Shape × List ℕ) → shape_read bs ≡ Ok x → length x.1 ≤ length bs
unfolding shape_read
shape_shorter bs x e =
    let p = then_parts (uleb16_read bs) _ x e in
    let t = if_so_parts (not (nat_eq p.0.0 0)) AbbreviationTagZero _ x p.2 in
    let q = then_parts (children_read p.0.1) _ x t in
    let f : List Specification × List ℕ → Result (Shape × List ℕ) ReadError = λ attributes. Ok (record { tag = p.0.0; has_children = q.0.0; attributes = attributes.0 }, attributes.1) in
    let r = then_parts (specifications_read q.0.1) f x q.2 in
    let v : Shape × List ℕ = (record { tag = p.0.0; has_children = q.0.0; attributes = r.0.0 }, r.0.1) in
    let w : v ≡ x = cc (r.2) in
    let a : length p.0.1 < length bs = uleb16_shorter bs p.0 p.1 in
    let b : length q.0.1 < length p.0.1 = children_shorter p.0.1 q.0 q.1 in
    let c : length r.0.1 ≤ length q.0.1 = items_shorter Specification (λ before. specification_read) (length q.0.1) [] q.0.1 r.0 one_is_specification r.1 in
    omega (arith, a, b, c, ap (λ (y : Shape × List ℕ). length y.1) w)

-- a declaration
pub no_code : (before : List Declaration) (bs : List ℕ) (e : ReadError) → uleb_read bs ≡ Err e → declaration_read before bs ≡ Err e
unfolding declaration_read
no_code before bs e h = rw h refl

pub table_end : (before : List Declaration) (code : ℕ) (bs rest : List ℕ) → uleb_read bs ≡ Ok (code, rest) → code ≡ 0 → declaration_read before bs ≡ Ok (None, rest)
unfolding declaration_read
table_end before code bs rest h z = rw (h, eq-eqb code 0 z) refl

pub no_shape : (before : List Declaration) (code : ℕ) (bs rest : List ℕ) (e : ReadError) → uleb_read bs ≡ Ok (code, rest) → (code ≡ 0 → ⊥) → shape_read rest ≡ Err e → declaration_read before bs ≡ Err e
unfolding declaration_read
no_shape before code bs rest e h z r = rw (h, ne_eqb code 0 z, r) refl

is_new_by : (t : Bool) (x y : Option Shape) (b : Bool) → (if t then x else y) ≡ None → (x ≡ None → ⊥) → (y ≡ None → b ≡ true) → (not t && b) ≡ true
is_new_by true x y b h k l = absurd (k h)
is_new_by false x y b h k l = l h

is_not_new_by : (t : Bool) (x y : Option Shape) (b : Bool) (s : Shape) → (if t then x else y) ≡ Some s → (y ≡ Some s → b ≡ false) → (not t && b) ≡ false
is_not_new_by true x y b s h l = refl
is_not_new_by false x y b s h l = l h

is_new_of : (before : List Declaration) (code : ℕ) → shape_of_code before code ≡ None → is_new_code code before ≡ true
unfolding shape_of_code
is_new_of [] code h = refl
is_new_of (d ∷ ds) code h = is_new_by (nat_eq d.code code) (Some d.shape) (shape_of_code ds code) (is_new_code code ds) h (λ e. cc) (is_new_of ds code)

is_not_new : (before : List Declaration) (code : ℕ) (s : Shape) → shape_of_code before code ≡ Some s → is_new_code code before ≡ false
unfolding shape_of_code
is_not_new [] code s h = absurd (cc)
is_not_new (d ∷ ds) code s h = is_not_new_by (nat_eq d.code code) (Some d.shape) (shape_of_code ds code) (is_new_code code ds) s h (is_not_new ds code s)

pub doubled : (before : List Declaration) (code : ℕ) (s t : Shape) (bs rest more : List ℕ) → uleb_read bs ≡ Ok (code, rest) → (code ≡ 0 → ⊥) → shape_read rest ≡ Ok (s, more) → shape_of_code before code ≡ Some t → declaration_read before bs ≡ Err (DuplicateAbbreviationCode code)
unfolding declaration_read
doubled before code s t bs rest more h z r q = rw (h, ne_eqb code 0 z, r, is_not_new before code t q) refl

pub one_declaration : (before : List Declaration) (code : ℕ) (s : Shape) (bs rest more : List ℕ) → uleb_read bs ≡ Ok (code, rest) → (code ≡ 0 → ⊥) → shape_read rest ≡ Ok (s, more) → shape_of_code before code ≡ None
    → declaration_read before bs ≡ Ok (Some (record { code = code; shape = s }), more)
unfolding declaration_read
one_declaration before code s bs rest more h z r q = rw (h, ne_eqb code 0 z, r, is_new_of before code q) refl

declaration_rest : (t : Bool) (code : ℕ) (before : List Declaration) (bs : List ℕ) (x : Option Declaration × List ℕ)
    → (if t then Ok (None, bs) else (shape_read bs =>> λ shape. if_so (is_new_code code before) (DuplicateAbbreviationCode code) (Ok (Some (record { code = code; shape = shape.0 }), shape.1)))) ≡ Ok x → length x.1 ≤ length bs
declaration_rest true code before bs x e =
    let v : Option Declaration × List ℕ = (None, bs) in
    let r : v ≡ x = cc in
    omega (arith, ap (λ (y : Option Declaration × List ℕ). length y.1) r)
declaration_rest false code before bs x e =
    let f : Shape × List ℕ → Result (Option Declaration × List ℕ) ReadError = λ shape. if_so (is_new_code code before) (DuplicateAbbreviationCode code) (Ok (Some (record { code = code; shape = shape.0 }), shape.1)) in
    let p = then_parts (shape_read bs) f x e in
    let v : Option Declaration × List ℕ = (Some (record { code = code; shape = p.0.0 }), p.0.1) in
    let o : Result (Option Declaration × List ℕ) ReadError = Ok v in
    let q : o ≡ Ok x = if_so_parts (is_new_code code before) (DuplicateAbbreviationCode code) o x p.2 in
    let r : v ≡ x = cc in
    let s : length p.0.1 ≤ length bs = shape_shorter bs p.0 p.1 in
    omega (arith, s, ap (λ (y : Option Declaration × List ℕ). length y.1) r)

declaration_shorter : (before : List Declaration) (bs : List ℕ) (x : Option Declaration × List ℕ) → declaration_read before bs ≡ Ok x → length x.1 < length bs
unfolding declaration_read
declaration_shorter before bs x e =
    let p = then_parts (uleb_read bs) _ x e in
    let a : length p.0.1 < length bs = uleb_shorter bs p.0 p.1 in
    let b : length x.1 ≤ length p.0.1 = declaration_rest (nat_eq p.0.0 0) p.0.0 before p.0.1 x p.2 in
    omega (arith, a, b)

declaration_empty : (before : List Declaration) → declaration_read before [] ≡ Err UnexpectedEof
unfolding declaration_read uleb_read groups_at
declaration_empty before = refl

pub one_is_declaration : IsOne Declaration declaration_read
one_is_declaration = record { empty = declaration_empty; shorter = declaration_shorter }

pub table_err : (bytes : List ℕ) (front : List Declaration) (rest : List ℕ) (e : ReadError) → Collects Declaration declaration_read bytes front rest → declaration_read front rest ≡ Err e → table_read bytes ≡ Err e
unfolding table_read
table_err bytes front rest e c h = collects_err Declaration declaration_read bytes front rest e one_is_declaration c h

pub table_whole : (bytes : List ℕ) (front : List Declaration) (rest more : List ℕ) → Collects Declaration declaration_read bytes front rest → declaration_read front rest ≡ Ok (None, more) → table_read bytes ≡ Ok (front, more)
unfolding table_read
table_whole bytes front rest more c h = collects_end Declaration declaration_read bytes front rest more one_is_declaration c h
