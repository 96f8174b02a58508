-- One table of operations after the other.
use Rattle.std.proofs.Common.{◌≡◌, ◌∙◌, sym, ap, ap₂, subst, IfSome, ℕ, List, Option, Some, None, Ok, Err, Result, Bool, refl, arith, ◌+◌, ◌<◌}
use Rattle.dw_base.specs.Numbers.{number_at}
use Rattle.dw_base.specs.declared.common.Encoding.{Encoding}
use Rattle.dw_read.specs.Reading.{Reading, IsReading, Passes, Reads, Read, left}
use Rattle.dw_read.specs.Reasons.{◌=>>◌, number_read}
use Rattle.dw_read.specs.Took.{Took, option_of}
use Rattle.dw_read.specs.declared.error.ReadError.{ReadError}
use Rattle.dw_read.proofs.Laws.{IsReadOf, number_law}
use Rattle.dw_read.proofs.Chain.{Went, took_of, took, went, went_none, went_then, went_order}
use Rattle.dw_sources.specs.Operations.{Operation}
use Rattle.dw_sources.specs.OperationTable.{first_of, plain_of, literals, stack_operations, entry_operations, typed_operations, locations, invalid, behind, operation_read, operation_at}
use Rattle.dw_sources.specs.OperationViews.{operation_of, HoldsParts}
use Rattle.dw_sources.specs.Tries.{tried}
use Rattle.dw_sources.specs.declared.operation.Operation.{Operation as HeldOperation}
use Rattle.dw_sources.specs.declared.operation.Operation.TheVariants as held
use Rattle.dw_sources.proofs.OperandLaws.{within_after}

-- what is read behind a code from a place is what further tables read from here on
pub record Still (whole more : Read Operation) (old now : Reading) : Type 0 where
  pub went : Went old now
  pub same : whole (left old) ≡ more (left now)

abbrev Tried : Type 0
Tried = Result (Option Operation × List ℕ) ReadError

abbrev ok : Option Operation → List ℕ → Tried
ok o rest = Ok (o, rest)

abbrev err : ReadError → Tried
err e = Err e

abbrev found : Result (Operation × List ℕ) ReadError → Tried
found r = r =>> λ x. Ok (Some x.0, x.1)

same_pair : (p q : Option Operation × List ℕ) → ok p.0 p.1 ≡ ok q.0 q.1 → p ≡ q
same_pair p q h = cc

same_option : (a b : Option Operation) (x y : List ℕ) → ok a x ≡ ok b y → a ≡ b
same_option a b x y h = let e : (a, x) ≡ (b, y) = same_pair (a, x) (b, y) h in ap (λ (z : Option Operation × List ℕ). z.0) e

same_rest : (a b : Option Operation) (x y : List ℕ) → ok a x ≡ ok b y → x ≡ y
same_rest a b x y h = let e : (a, x) ≡ (b, y) = same_pair (a, x) (b, y) h in ap (λ (z : Option Operation × List ℕ). z.1) e

not_both : (a : Option Operation) (x : Operation) → a ≡ None → a ≡ Some x → ⊥
not_both a x h k = absurd (cc)

not_err : (a : Option Operation) (x : List ℕ) (e : ReadError) → ok a x ≡ err e → ⊥
not_err a x e h = absurd (cc)

none_found : (r : Result (Operation × List ℕ) ReadError) (rest : List ℕ) → found r ≡ ok None rest → ⊥
none_found (Ok x) rest h = not_both (Some x.0) x.0 (same_option (Some x.0) None x.1 rest h) refl
none_found (Err e) rest h = not_err None rest e (sym h)

some_found : (r : Result (Operation × List ℕ) ReadError) (x : Operation) (rest : List ℕ) → found r ≡ ok (Some x) rest → r ≡ Ok (x, rest)
some_found (Ok y) x rest h =
    let e : Some y.0 ≡ Some x = same_option (Some y.0) (Some x) y.1 rest h in
    let d : y.0 ≡ x = cc in
    ap₂ (λ (a : Operation) (b : List ℕ). Ok (a, b)) d (same_rest (Some y.0) (Some x) y.1 rest h)
some_found (Err e) x rest h = absurd (not_err (Some x) rest e (sym h))

none_read : (r : Result (Operation × List ℕ) ReadError) (e : ReadError) → found r ≡ err e → r ≡ Err e
none_read (Ok y) e h = absurd (not_err (Some y.0) y.1 e h)
none_read (Err y) e h = let q : err y ≡ err e = h in let d : y ≡ e = cc in ap (λ (z : ReadError). Err z) d

-- what the first of tables reads, by what was tried of it
first_none : (o : Option (Read Operation)) (more : Read Operation) (bs rest : List ℕ) → tried o bs ≡ ok None rest → first_of o more bs ≡ more rest
unfolding tried
first_none None more bs rest h = ap more (same_rest None None bs rest h)
first_none (Some p) more bs rest h = absurd (none_found (p bs) rest h)

first_some : (o : Option (Read Operation)) (more : Read Operation) (x : Operation) (bs rest : List ℕ) → tried o bs ≡ ok (Some x) rest → first_of o more bs ≡ Ok (x, rest)
unfolding tried
first_some None more x bs rest h = absurd (not_both None x refl (same_option None (Some x) bs rest h))
first_some (Some p) more x bs rest h = some_found (p bs) x rest h

first_err : (o : Option (Read Operation)) (more : Read Operation) (bs : List ℕ) (e : ReadError) → tried o bs ≡ err e → first_of o more bs ≡ Err e
unfolding tried
first_err None more bs e h = absurd (not_err None bs e h)
first_err (Some p) more bs e h = none_read (p bs) e h

module _ (table : Bool → Option (Read Operation)) (whole more : Read Operation) (old now : Reading) (still : Still whole (first_of (table old.is_big) more) old now) where
  -- the table in the order of the reader before
  ordered : table now.is_big ≡ table old.is_big
  ordered = ap table (went_order old now still.went)

  pub still_none : (next : Reading) → Took (Option Operation) (tried (table now.is_big)) now next None → Still whole more old next
  still_none next h = record {
    went = went_then old now next still.went (went (Option Operation) (tried (table now.is_big)) now next None h);
    same = still.same ∙ first_none (table old.is_big) more (left now) (left next) (ap (λ (o : Option (Read Operation)). tried o (left now)) (sym ordered) ∙ h.value);
  }

  pub still_some : (next : Reading) (x : Operation) → Took (Option Operation) (tried (table now.is_big)) now next (Some x) → Took Operation whole old next x
  still_some next x h =
      took Operation whole old next x (went_then old now next still.went (went (Option Operation) (tried (table now.is_big)) now next (Some x) h))
      (still.same ∙ first_some (table old.is_big) more x (left now) (left next) (ap (λ (o : Option (Read Operation)). tried o (left now)) (sym ordered) ∙ h.value))

  pub still_err : (e : ReadError) → tried (table now.is_big) (left now) ≡ Err e → whole (left old) ≡ Err e
  still_err e h = still.same ∙ first_err (table old.is_big) more (left now) e (ap (λ (o : Option (Read Operation)). tried o (left now)) (sym ordered) ∙ h)

-- at the first table with operands, once the code has no operation without them
pub still_begun : (e : Encoding) (code : ℕ) (old : Reading) → IsReading old → plain_of code ≡ None
    → Still (behind old.is_big e code) (first_of (literals old.is_big e code) (first_of (stack_operations old.is_big e code) (first_of (entry_operations old.is_big e code) (first_of (typed_operations old.is_big e code) (first_of (locations old.is_big e code) (λ bytes. Err (invalid (record { 0 = code }))))))))
    old old
unfolding behind
still_begun e code old is h = record { went = went_none old is; same = rw h refl }

pub behind_plain : (e : Encoding) (code : ℕ) (old : Reading) (x : Operation) → IsReading old → plain_of code ≡ Some x → Took Operation (behind old.is_big e code) old old x
unfolding behind
behind_plain e code old x is h = took Operation (behind old.is_big e code) old old x (went_none old is) (rw h refl)

-- a code and what stands behind it
whole_is : (big : Bool) (e : Encoding) (code : ℕ) (bs mid : List ℕ) → number_read big 1 bs ≡ Ok (code, mid) → operation_read big e bs ≡ behind big e code mid
unfolding operation_read
whole_is big e code bs mid h = ap (λ r. r =>> λ c. behind big e c.0 c.1) h

pub no_code : (big : Bool) (e : Encoding) (bs : List ℕ) (y : ReadError) → number_read big 1 bs ≡ Err y → operation_read big e bs ≡ Err y
unfolding operation_read
no_code big e bs y h = ap (λ r. r =>> λ c. behind big e c.0 c.1) h

module _ (e : Encoding) (code : ℕ) (old mid : Reading) (read : Reads ℕ (number_at old.is_big 1) old mid code) where
  known : Took ℕ (number_read old.is_big 1) old mid code
  known = took_of ℕ (number_at old.is_big 1) (number_read old.is_big 1) old mid code (number_law old.is_big 1) read

  went_code : Went old mid
  went_code = went ℕ (number_read old.is_big 1) old mid code known

  pub operation_took : (new : Reading) (x : Operation) → Took Operation (behind mid.is_big e code) mid new x → Took Operation (operation_read old.is_big e) old new x
  operation_took new x h =
      took Operation (operation_read old.is_big e) old new x (went_then old mid new went_code (went Operation (behind mid.is_big e code) mid new x h))
      (whole_is old.is_big e code (left old) (left mid) known.value ∙ ap (λ (b : Bool). behind b e code (left mid)) (sym (went_order old mid went_code)) ∙ h.value)

  pub operation_not : (y : ReadError) → behind mid.is_big e code (left mid) ≡ Err y → operation_read old.is_big e (left old) ≡ Err y
  operation_not y h = whole_is old.is_big e code (left old) (left mid) known.value ∙ ap (λ (b : Bool). behind b e code (left mid)) (sym (went_order old mid went_code)) ∙ h

-- what a table was found to have
pub took_none : (A B : Type 0) (f : A → B) (read : Read (Option B)) (old new : Reading) (o : Option A) → Took (Option B) read old new (option_of f o) → o ≡ None → Took (Option B) read old new None
took_none A B f read old new o h e = subst (λ (x : Option A). Took (Option B) read old new (option_of f x)) e h

pub took_some : (A B : Type 0) (f : A → B) (read : Read (Option B)) (old new : Reading) (o : Option A) (x : A) → Took (Option B) read old new (option_of f o) → o ≡ Some x → Took (Option B) read old new (Some (f x))
took_some A B f read old new o x h e = subst (λ (y : Option A). Took (Option B) read old new (option_of f y)) e h

pub plain_none : (A B : Type 0) (f : A → B) (o : Option A) (p : Option B) → option_of f o ≡ p → o ≡ None → p ≡ None
plain_none A B f o p h e = sym h ∙ ap (option_of f) e

pub plain_some : (A B : Type 0) (f : A → B) (o : Option A) (x : A) (p : Option B) → option_of f o ≡ p → o ≡ Some x → p ≡ Some (f x)
plain_some A B f o x p h e = sym h ∙ ap (option_of f) e

-- what an operation holds lies behind the place
pub if_some : (A : Type 0) (P : A → Type 0) (o : Option A) (x : A) → IfSome o P → o ≡ Some x → P x
if_some A P o x h e = subst (λ (y : Option A). IfSome y P) e h

pub holds_after : {R E : Type 0} (reading : R → Reading) (old mid : Reading) (o : HeldOperation R E) → Went old mid → HoldsParts reading mid o → HoldsParts reading old o
holds_after reading old mid (held.ConstantType base r) w h = within_after old mid (reading r) w h
holds_after reading old mid (held.EntryValue x) w h = within_after old mid (reading x.0) w h
holds_after reading old mid (held.ImplicitValue r) w h = within_after old mid (reading r) w h
holds_after reading old mid o w h = tt

-- a place behind a byte that was passed
pub beyond : (n m : ℕ) (old mid new : Reading) → Passes n old mid → Passes m mid new → 0 < n → old.place < new.place
beyond n m old mid new h k l =
    let d : mid.place ≡ old.place + n = ap (λ (r : Reading). r.place) h.is in
    let e : new.place ≡ mid.place + m = ap (λ (r : Reading). r.place) k.is in
    omega arith

-- the grammar and its reasons
pub operation_law : (big : Bool) (e : Encoding) → IsReadOf Operation (operation_at big e) (operation_read big e)
unfolding operation_at
operation_law big e bytes = refl

-- an operation that was read
pub record IsRead {R E : Type 0} (reading : R → Reading) (e : Encoding) (old new : Reading) (o : HeldOperation R E) : Type 0 where
  pub ok : Took Operation (operation_read old.is_big e) old new (operation_of reading o)
  pub parts : HoldsParts reading old o
  pub progress : old.place < new.place
