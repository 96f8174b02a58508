-- Values that are no bytes have no byte order.
use Rattle.std.proofs.Common.{◌≡◌, ◌∙◌, ap, ℕ, ◌%◌, ◌^◌, ℤ, Bool, true, false, not, ◌&&◌, ◌==◌, nat_lt, if◌then◌else◌, List, [], ◌∷◌, Option, Some, None, refl}
use Rattle.std.specs.List.{list_all}
use Rattle.dw_read.specs.Reading.{Reading}
use Rattle.dw_read.specs.Took.{option_of}
use Rattle.dw_read.specs.Orders.{value_order}
use Rattle.dw_read.specs.Values.{Value, value_of, row_among, index_rows, index_value, number_rows, number_value, place_rows, place_value, absent_value, lookup, byte_rows, byte_value, wide_rows, wide_or, typed_value, value_or, constant_in, constant_value, named_value}
use Rattle.dw_read.specs.declared.value.AttributeValue.{AttributeValue}
use Rattle.dw_read.specs.declared.value.AttributeValue.TheVariants.{Block, Exprloc, String, Udata, SecOffset}

-- a value hands out a part of the section
abbrev pub has_bytes : {R E : Type 0} → AttributeValue R E → Bool
has_bytes (Block r) = true
has_bytes (Exprloc x) = true
has_bytes (String r) = true
has_bytes v = false

pub no_order : {R E : Type 0} (reading : R → Reading) (v : AttributeValue R E) → has_bytes (value_of reading v) ≡ false → value_order reading v ≡ None
no_order reading (Block r) h = absurd (let x : true ≡ false = h in cc)
no_order reading (Exprloc r) h = absurd (let x : true ≡ false = h in cc)
no_order reading (String r) h = absurd (let x : true ≡ false = h in cc)
no_order reading v h = refl

-- from what the value is
pub none_of : {R E : Type 0} (reading : R → Reading) (v : AttributeValue R E) (w : Value) → value_of reading v ≡ w → has_bytes w ≡ false → value_order reading v ≡ None
none_of reading v w e h = no_order reading v (ap has_bytes e ∙ h)

-- rows that make no bytes of a number
abbrev pub are_plain : ℕ → List (ℕ × (ℕ → Value)) → Bool
are_plain n rows = list_all (λ r. not (has_bytes (r.1 n))) rows

first_plain : (b : Bool) (rest : Bool) → (not b && rest) ≡ true → b ≡ false
first_plain true rest h = absurd (let x : false ≡ true = h in cc)
first_plain false rest h = refl

rest_plain : (b : Bool) (rest : Bool) → (not b && rest) ≡ true → rest ≡ true
rest_plain true rest h = absurd (let x : false ≡ true = h in cc)
rest_plain false rest h = h

pub among_plain : (k n : ℕ) (other : ℕ → Value) (rows : List (ℕ × (ℕ → Value))) → has_bytes (other n) ≡ false → are_plain n rows ≡ true → has_bytes (row_among other k rows n) ≡ false
among_plain k n other [] p h = p
among_plain k n other (r ∷ rs) p h = by (k == r.0) (among_plain k n other rs p (rest_plain (has_bytes (r.1 n)) (are_plain n rs) h))
  where
    by : (b : Bool) → has_bytes (row_among other k rs n) ≡ false → has_bytes ((if b then r.1 else row_among other k rs) n) ≡ false
    by true rest = first_plain (has_bytes (r.1 n)) (are_plain n rs) h
    by false rest = rest

pub index_plain : (form n : ℕ) → has_bytes (index_value form n) ≡ false
unfolding index_value
index_plain form n = among_plain form n (λ m. Udata (m % 2 ^ 64)) index_rows refl refl

pub number_plain : (form n : ℕ) → has_bytes (number_value form n) ≡ false
unfolding number_value
number_plain form n = among_plain form n (index_value form) number_rows (index_plain form n) refl

pub place_plain : (name p : ℕ) → has_bytes (place_value name p) ≡ false
unfolding place_value
place_plain name p = among_plain name p (λ m. SecOffset m) place_rows refl refl

pub absent_plain : (o : Option ℤ) → has_bytes (absent_value o) ≡ false
absent_plain None = refl
absent_plain (Some z) = refl

-- a constant under a name that has a type of its own
abbrev pub plain_or_none : Option Value → Bool
plain_or_none None = true
plain_or_none (Some v) = not (has_bytes v)

lookup_plain : (name n : ℕ) (rows : List (ℕ × (ℕ → Value))) → are_plain n rows ≡ true → plain_or_none (option_of (λ f. f n) (lookup name rows)) ≡ true
lookup_plain name n [] h = refl
lookup_plain name n (r ∷ rs) h = by (name == r.0) (lookup_plain name n rs (rest_plain (has_bytes (r.1 n)) (are_plain n rs) h))
  where
    by : (b : Bool) → plain_or_none (option_of (λ f. f n) (lookup name rs)) ≡ true → plain_or_none (option_of (λ f. f n) (if b then Some r.1 else lookup name rs)) ≡ true
    by true rest = ap not (first_plain (has_bytes (r.1 n)) (are_plain n rs) h)
    by false rest = rest

byte_plain : (name n : ℕ) → plain_or_none (byte_value name n) ≡ true
unfolding byte_value
byte_plain name n = by (nat_lt n (2 ^ 8))
  where
    by : (b : Bool) → plain_or_none (if b then option_of (λ f. f n) (lookup name byte_rows) else None) ≡ true
    by true = lookup_plain name n byte_rows refl
    by false = refl

abbrev pub are_wide_plain : ℕ → List (ℕ × (ℕ × (ℕ → Value))) → Bool
are_wide_plain n rows = list_all (λ r. not (has_bytes (r.1.1 n))) rows

fitting_plain : (b : Bool) (v : Value) → has_bytes v ≡ false → plain_or_none (if b then Some v else None) ≡ true
fitting_plain true v h = ap not h
fitting_plain false v h = refl

wide_plain : (name n : ℕ) (rows : List (ℕ × (ℕ × (ℕ → Value)))) (other : Option Value) → are_wide_plain n rows ≡ true → plain_or_none other ≡ true → plain_or_none (wide_or n (lookup name rows) other) ≡ true
wide_plain name n [] other h p = p
wide_plain name n (r ∷ rs) other h p = by (name == r.0) (wide_plain name n rs other (rest_plain (has_bytes (r.1.1 n)) (are_wide_plain n rs) h) p)
  where
    by : (b : Bool) → plain_or_none (wide_or n (lookup name rs) other) ≡ true → plain_or_none (wide_or n (if b then Some r.1 else lookup name rs) other) ≡ true
    by true rest = fitting_plain (nat_lt n (2 ^ r.1.0)) (r.1.1 n) (first_plain (has_bytes (r.1.1 n)) (are_wide_plain n rs) h)
    by false rest = rest

pub typed_plain : (name n : ℕ) → plain_or_none (typed_value name n) ≡ true
unfolding typed_value
typed_plain name n = wide_plain name n wide_rows (byte_value name n) refl (byte_plain name n)

plain_of : (b : Bool) → not b ≡ true → b ≡ false
plain_of true h = absurd (let x : false ≡ true = h in cc)
plain_of false h = refl

pub or_plain : (v : Value) (o : Option Value) → has_bytes v ≡ false → plain_or_none o ≡ true → has_bytes (value_or v o) ≡ false
or_plain v None h p = h
or_plain v (Some w) h p = plain_of (has_bytes w) p

pub constant_plain : (name : ℕ) (o : Option ℕ) (v : Value) → has_bytes v ≡ false → has_bytes (constant_value name o v) ≡ false
constant_plain name None v h = h
constant_plain name (Some n) v h = or_plain v (typed_value name n) h (typed_plain name n)

-- what is no bytes becomes none under a name
pub named_plain : (name : ℕ) (v : Value) → has_bytes v ≡ false → has_bytes (named_value name v) ≡ false
named_plain name (Block xs) h = absurd (let x : true ≡ false = h in cc)
named_plain name (SecOffset p) h = place_plain name p
named_plain name v h = constant_plain name (constant_in v) v h
