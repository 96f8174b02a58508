-- What the reasons are for which sets aren't read.
use Rattle.std.proofs.Common.{◌≡◌, sym, subst, ℕ, zero, suc, List, [], ◌∷◌, length, Option, Some, None, Bool, true, false, Result, Ok, Err, refl, inl, inr, nat_eq, nat_lt, if◌then◌else◌}
use Rattle.std.proofs.lemmas.Bool.{eq-eqb}
use Rattle.dw_base.specs.Numbers.{bytes_at, number_at, word_of}
use Rattle.dw_base.specs.declared.common.Format.{Format}
use Rattle.dw_base.specs.declared.common.Format.TheVariants.{Dwarf32, Dwarf64}
use Rattle.dw_read.specs.Reading.{Reading, left}
use Rattle.dw_read.specs.Reasons.{◌=>>◌, or_refuse, if_so, bytes_read, number_read, initial_length_read}
use Rattle.dw_read.specs.declared.error.ReadError.{ReadError}
use Rattle.dw_read.specs.declared.error.ReadError.TheVariants.{UnexpectedEof, UnknownReservedLength}
use Rattle.dw_arange_table.specs.Sets.{RangeSet}
use Rattle.dw_arange_table.specs.Bytes.{padding}
use Rattle.dw_arange_table.specs.Reading.{fields_read, set_read, unless_empty, sets_up_to, SetsRefused, IsReason}

-- each error of a result is a reason
abbrev HasReason : {A : Type 0} → Result A ReadError → Type 0
HasReason r = (e : ReadError) → r ≡ Err e → IsReason e

ok_reason : {A : Type 0} (x : A) → HasReason {A = A} (Ok x)
ok_reason x e h = absurd (cc)

err_reason : {A : Type 0} (y : ReadError) → IsReason y → HasReason {A = A} (Err y)
err_reason y is e h = let q : y ≡ e = cc in subst IsReason q is

then_reason : {A B : Type 0} (r : Result A ReadError) (f : A → Result B ReadError) → HasReason r → ((x : A) → HasReason (f x)) → HasReason (r =>> f)
then_reason (Ok x) f h k = k x
then_reason {B = B} (Err y) f h k = err_reason {A = B} y (h y refl)

test_reason : {A : Type 0} (b : Bool) (y : ReadError) (r : Result A ReadError) → (b ≡ false → IsReason y) → HasReason r → HasReason (if_so b y r)
test_reason true y r is h = h
test_reason {A = A} false y r is h = err_reason {A = A} y (is refl)

there_reason : {A : Type 0} (o : Option A) → HasReason (or_refuse UnexpectedEof o)
there_reason {A = A} None = err_reason {A = A} UnexpectedEof tt
there_reason (Some x) = ok_reason x

number_reason : (big : Bool) (w : ℕ) (bs : List ℕ) → HasReason (number_read big w bs)
unfolding number_read
number_reason big w bs = there_reason (number_at big w bs)

bytes_reason : (n : ℕ) (bs : List ℕ) → HasReason (bytes_read n bs)
unfolding bytes_read
bytes_reason n bs = there_reason (bytes_at n bs)

not_equal : (n m : ℕ) → nat_eq n m ≡ false → n ≡ m → ⊥
not_equal n m h e = let t : nat_eq n m ≡ true = eq-eqb n m e in absurd (cc)

fields_reason : (big : Bool) (f : Format) (bs : List ℕ) → HasReason (fields_read big f bs)
unfolding fields_read
fields_reason big f bs =
    then_reason _ _ (number_reason big 2 bs) (λ version. test_reason _ _ _ (not_equal version.0 2)
    (then_reason _ _ (number_reason big (word_of f) version.1) (λ unit. then_reason _ _ (number_reason big 1 unit.1) (λ size. test_reason _ _ _ (λ h. h)
    (then_reason _ _ (number_reason big 1 size.1) (λ selector. test_reason _ _ _ (not_equal selector.0 0)
    (then_reason _ _ (bytes_reason (padding f size.0) selector.1) (λ unused. ok_reason ((unit.0, size.0), unused.1)))))))))

length_rest : (big short : Bool) (x : ℕ × List ℕ) → HasReason {A = (Format × ℕ) × List ℕ} (if short then Ok ((Dwarf32, x.0), x.1) else if_so (nat_eq x.0 0xffff_ffff) UnknownReservedLength (number_read big 8 x.1 =>> λ y. Ok ((Dwarf64, y.0), y.1)))
length_rest big true x = ok_reason ((Dwarf32, x.0), x.1)
length_rest big false x = test_reason _ _ _ (λ h. tt) (then_reason _ _ (number_reason big 8 x.1) (λ y. ok_reason ((Dwarf64, y.0), y.1)))

length_reason : (big : Bool) (bs : List ℕ) → HasReason (initial_length_read big bs)
unfolding initial_length_read
length_reason big bs = then_reason _ _ (number_reason big 4 bs) (λ x. length_rest big (nat_lt x.0 0xffff_fff0) x)

set_reason : (big : Bool) (bs : List ℕ) → HasReason (set_read big bs)
unfolding set_read
set_reason big bs =
    then_reason _ _ (length_reason big bs) (λ start. then_reason _ _ (bytes_reason start.0.1 start.1) (λ content.
    then_reason _ _ (fields_reason big start.0.0 content.0) (λ fields. ok_reason _)))

empty_reason : (bs : List ℕ) (r : Result (List RangeSet) ReadError) → HasReason r → HasReason (unless_empty bs r)
empty_reason [] r h = ok_reason []
empty_reason (b ∷ bs) r h = h

sets_reason : (most : ℕ) (big : Bool) (bs : List ℕ) → HasReason (sets_up_to most big bs)
unfolding sets_up_to
sets_reason zero big bs = empty_reason bs (Err UnexpectedEof) (err_reason {A = List RangeSet} UnexpectedEof tt)
sets_reason (suc most) big bs = empty_reason bs _ (then_reason _ _ (set_reason big bs) (λ s. then_reason _ _ (sets_reason most big s.1) (λ others. ok_reason _)))

-- a section is refused for a reason
pub is_reason : (r : Reading) (e : ReadError) → SetsRefused r e → IsReason e
is_reason r e (inl h) = subst IsReason (sym h) tt
is_reason r e (inr h) = sets_reason (length (left r)) r.is_big (left r) e h
