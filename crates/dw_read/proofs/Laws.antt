-- A reading with reasons reads what the grammar reads.
use Rattle.std.proofs.Common.{◌≡◌, ◌∙◌, sym, ap, ℕ, ◌^◌, Bool, true, false, List, Option, Some, None, Result, Ok, Err, ℤ, refl, nat_lt, nat_eq, if◌then◌else◌}
use Rattle.std.specs.Result.{result_ok}
use Rattle.dw_base.specs.Numbers.{Parser, ◌>>=◌, when, bytes_at, number_at, is_width, initial_length_at}
use Rattle.dw_base.specs.Leb128.{groups_at, uleb_at, uleb16_at, signed_groups_at, fits_i64, sleb_at}
use Rattle.dw_base.specs.Forms.{text_at}
use Rattle.dw_base.specs.declared.common.Format.{Format}
use Rattle.dw_base.specs.declared.common.Format.TheVariants.{Dwarf32, Dwarf64}
use Rattle.dw_read.specs.Reading.{Reading, Read, Refuses, left}
use Rattle.dw_read.specs.Reasons.{◌=>>◌, or_refuse, if_so, bytes_read, number_read, uleb_read, uleb16_read, sleb_read, text_read, address_at, address_read, initial_length_read}
use Rattle.dw_read.specs.declared.error.ReadError.{ReadError}
use Rattle.dw_read.specs.declared.error.ReadError.TheVariants.{UnexpectedEof, BadLeb128, UnknownReservedLength, UnsupportedAddressSize}

-- the law of a grammar and its reading with reasons
abbrev pub IsReadOf : (A : Type 0) → Parser A → Read A → Type 0
IsReadOf A grammar read = (bytes : List ℕ) → result_ok (read bytes) ≡ grammar bytes

pub or_refuse_ok : {A : Type 0} (e : ReadError) (o : Option A) → result_ok (or_refuse e o) ≡ o
or_refuse_ok e None = refl
or_refuse_ok e (Some x) = refl

pub then_ok : {A B : Type 0} (r : Result A ReadError) (o : Option A) (f : A → Result B ReadError) (g : A → Option B) → result_ok r ≡ o → ((x : A) → result_ok (f x) ≡ g x) → result_ok (r =>> f) ≡ (o >>= g)
then_ok (Ok x) o f g h k = k x ∙ ap (λ p. p >>= g) h
then_ok (Err e) o f g h k = ap (λ p. p >>= g) h

pub if_so_ok : {A : Type 0} (b : Bool) (e : ReadError) (r : Result A ReadError) (o : Option A) → result_ok r ≡ o → result_ok (if_so b e r) ≡ when b o
if_so_ok true e r o h = h
if_so_ok false e r o h = refl

pub bytes_law : (n : ℕ) → IsReadOf (List ℕ) (bytes_at n) (bytes_read n)
unfolding bytes_read
bytes_law n bytes = or_refuse_ok UnexpectedEof (bytes_at n bytes)

pub number_law : (big : Bool) (w : ℕ) → IsReadOf ℕ (number_at big w) (number_read big w)
unfolding number_read
number_law big w bytes = or_refuse_ok UnexpectedEof (number_at big w bytes)

pub uleb_law : IsReadOf ℕ uleb_at uleb_read
unfolding uleb_read uleb_at
uleb_law bytes = then_ok (or_refuse UnexpectedEof (groups_at bytes)) (groups_at bytes) _ _ (or_refuse_ok UnexpectedEof (groups_at bytes)) (λ x. if_so_ok (nat_lt x.0 (2 ^ 64)) BadLeb128 (Ok x) (Some x) refl)

pub uleb16_law : IsReadOf ℕ uleb16_at uleb16_read
unfolding uleb16_read uleb16_at
uleb16_law bytes = then_ok (uleb_read bytes) (uleb_at bytes) _ _ (uleb_law bytes) (λ x. if_so_ok (nat_lt x.0 (2 ^ 16)) BadLeb128 (Ok x) (Some x) refl)

pub sleb_law : IsReadOf ℤ sleb_at sleb_read
unfolding sleb_read sleb_at
sleb_law bytes = then_ok (or_refuse UnexpectedEof (signed_groups_at bytes)) (signed_groups_at bytes) _ _ (or_refuse_ok UnexpectedEof (signed_groups_at bytes)) (λ x. if_so_ok (fits_i64 x.0) BadLeb128 (Ok x) (Some x) refl)

pub text_law : IsReadOf (List ℕ) text_at text_read
unfolding text_read
text_law bytes = or_refuse_ok UnexpectedEof (text_at bytes)

pub address_law : (big : Bool) (size : ℕ) → IsReadOf ℕ (address_at big size) (address_read big size)
unfolding address_at address_read
address_law big size bytes = if_so_ok (is_width size) (UnsupportedAddressSize size) (number_read big size bytes) (number_at big size bytes) (number_law big size bytes)

length_after_law : (big short : Bool) (x : ℕ × List ℕ) → result_ok {T = (Format × ℕ) × List ℕ} (if short then Ok ((Dwarf32, x.0), x.1) else if_so (nat_eq x.0 0xffff_ffff) UnknownReservedLength (number_read big 8 x.1 =>> λ y. Ok ((Dwarf64, y.0), y.1)))
    ≡ (if short then Some ((Dwarf32, x.0), x.1) else when (nat_eq x.0 0xffff_ffff) (number_at big 8 x.1 >>= λ y. Some ((Dwarf64, y.0), y.1)))
length_after_law big true x = refl
length_after_law big false x = if_so_ok (nat_eq x.0 0xffff_ffff) UnknownReservedLength _ _ (then_ok (number_read big 8 x.1) (number_at big 8 x.1) _ _ (number_law big 8 x.1) (λ y. refl))

pub initial_length_law : (big : Bool) → IsReadOf (Format × ℕ) (initial_length_at big) (initial_length_read big)
unfolding initial_length_at initial_length_read
initial_length_law big bytes = then_ok (number_read big 4 bytes) (number_at big 4 bytes) _ _ (number_law big 4 bytes) (λ x. length_after_law big (nat_lt x.0 0xffff_fff0) x)

-- what the grammar reads, the reading with reasons reads
ok_of : {A : Type 0} (r : Result A ReadError) (x : A) → result_ok r ≡ Some x → r ≡ Ok x
ok_of (Ok y) x h = let e : y ≡ x = cc in ap (λ z. Ok z) e
ok_of (Err e) x h = absurd (cc)

pub read_is : (A : Type 0) (grammar : Parser A) (read : Read A) (bytes : List ℕ) (x : A × List ℕ) → IsReadOf A grammar read → grammar bytes ≡ Some x → read bytes ≡ Ok x
read_is A grammar read bytes x law h = ok_of (read bytes) x (law bytes ∙ h)

pub grammar_is : (A : Type 0) (grammar : Parser A) (read : Read A) (bytes : List ℕ) (x : A × List ℕ) → IsReadOf A grammar read → read bytes ≡ Ok x → grammar bytes ≡ Some x
grammar_is A grammar read bytes x law h = sym (law bytes) ∙ ap result_ok h

-- a reason is there only where the grammar reads nothing
pub refuses : (A : Type 0) (grammar : Parser A) (read : Read A) (old : Reading) (e : ReadError) → IsReadOf A grammar read → read (left old) ≡ Err e → Refuses A grammar read old e
refuses A grammar read old e law h = record { none = sym (law (left old)) ∙ ap result_ok h; reason = h }
