-- What sums put in their places.
use Rattle.std.specs.Prelude.{◌≡◌, ℕ, ◌+◌, ◌-◌, ◌%◌, ◌^◌, ◌<◌, ◌==◌, Bool, true, false, ◌&&◌, ◌||◌, List, Option, Some, None, ℤ, pos, negsuc, IsTrue, if◌then◌else◌, bit_and, nat_lt, refl}
use Rattle.std.specs.Option.{ForSome}
use Rattle.std.proofs.Common.{sym, ◌∙◌, ap, subst, arith}
use Rattle.std.proofs.Math.Nat.{mod-eq_of_lt}
use Rattle.std.proofs.lemmas.Bool.{and_parts}
use Rattle.std.proofs.lemmas.Bool.Decides.{nat_tests}
use Rattle.dw_base.specs.Numbers.{◌>>=◌, when, num, is_width, fits}
use Rattle.dw_base.specs.Pointers.{format_of, application_of, from_zero, from_place, pointer_width, is_signed, signed_of, distance}
use Rattle.dw_base.specs.declared.constants.DwEhPe.{DwEhPe}
use Rattle.dw_writer.specs.Texts.{Text, num_text, int_text}
use Rattle.dw_writer.specs.SignedNumbers.{signed_fits, signed_num, twos_complement}
use Rattle.dw_writer.specs.Pointers.{signed_text, address_of, formatted, pointer_text}
use Rattle.dw_writer.specs.Resolved.{sum_text}
use Rattle.dw_writer.proofs.PointerSteps.{application-and, format-and}
use Rattle.dw_link.specs.Faults.{is_counted, is_width_of, is_linkable}
use Rattle.dw_link.specs.Bits.{AreBitsOf}

no_both : (a b : Bool) (xs : List ℕ) → (IsTrue b → ⊥) → ◌≡◌ {A = Text} (if a && b then Some xs else None) None
no_both true true xs h = absurd (h refl)
no_both true false xs h = refl
no_both false b xs h = refl

both : (a b : Bool) (xs : List ℕ) → IsTrue a → IsTrue b → ◌≡◌ {A = Text} (if a && b then Some xs else None) (Some xs)
both true true xs h k = refl
both true false xs h k = cc
both false b xs h k = cc

pub num-none : (big : Bool) (w n : ℕ) → (IsTrue (fits w n) → ⊥) → num_text big w n ≡ None
unfolding num_text
num-none big w n h = no_both (is_width w) (fits w n) (num big w n) h

pub signed-none : (big : Bool) (w : ℕ) (z : ℤ) → (IsTrue (signed_fits w z) → ⊥) → signed_text big w z ≡ None
unfolding signed_text
signed-none big w z h = no_both (is_width w) (signed_fits w z) (signed_num big w z) h

pub signed-shown : (big : Bool) (w : ℕ) (z : ℤ) → IsTrue (is_width w) → IsTrue (signed_fits w z) → signed_text big w z ≡ Some (num big w (twos_complement w z))
unfolding signed_text signed_num
signed-shown big w z h k = both (is_width w) (signed_fits w z) (num big w (twos_complement w z)) h k

pub linkable-and : (w encoding a f : ℕ) → a ≡ bit_and encoding 0x70 → f ≡ bit_and encoding 0x0f →
    (((a == from_zero) || (a == from_place)) && is_width_of w (pointer_width w f)) ≡ is_linkable w encoding
linkable-and w encoding a f e d =
    ap (λ k. ((k == from_zero) || (k == from_place)) && is_width_of w (pointer_width w f)) (e ∙ application-and encoding)
    ∙ ap (λ k. is_counted encoding && is_width_of w (pointer_width w k)) (d ∙ format-and encoding)

pub distance-small : (place n : ℕ) → place < 2 ^ 64 → distance place n ≡ (n + (2 ^ 64 - place)) % 2 ^ 64
distance-small place n h = ap (λ k. (n + (2 ^ 64 - k)) % 2 ^ 64) (mod-eq_of_lt h)

is_false : (b : Bool) → (IsTrue b → ⊥) → b ≡ false
is_false true h = absurd (h refl)
is_false false h = refl

pub counted-place : (encoding a place n : ℕ) → a ≡ bit_and encoding 0x70 → a ≡ 16 → place < 2 ^ 64 →
    (n + (2 ^ 64 - place)) % 2 ^ 64 ≡ (if application_of encoding == from_place then distance place n else n)
counted-place encoding a place n e f h =
    sym (distance-small place n h) ∙ ap (λ k. if k == from_place then distance place n else n) (sym f ∙ e ∙ application-and encoding)

pub counted-zero : (encoding a place n : ℕ) → a ≡ bit_and encoding 0x70 → (a ≡ 16 → ⊥) →
    n ≡ (if application_of encoding == from_place then distance place n else n)
counted-zero encoding a place n e f =
    sym (ap (λ b. if b then distance place n else n) (is_false (application_of encoding == from_place) (λ h. f (e ∙ application-and encoding ∙ grind (arith, nat_tests)))))

if_either : (p q : Bool) (x y : Text) → IsTrue (p || q) → (IsTrue p → IsTrue q → ⊥) → (if p then x else (if q then y else None)) ≡ (if q then y else x)
if_either true true x y h k = absurd (k refl refl)
if_either true false x y h k = refl
if_either false true x y h k = refl
if_either false false x y h k = cc

if_inside : (q : Bool) (f : ℕ → Text) (x y : ℕ) → (if q then f x else f y) ≡ f (if q then x else y)
if_inside true f x y = refl
if_inside false f x y = refl

width_shown : (w : ℕ) (o : Option ℕ) (t : Text) → IsTrue (is_width_of w o) → (o >>= λ k. when (k == w) t) ≡ t
width_shown w None t h = cc
width_shown w (Some k) t h = when_true (k == w) t h
  where
    when_true : (b : Bool) (t : Text) → IsTrue b → when b t ≡ t
    when_true true t h = refl
    when_true false t h = cc

apart : (a : ℕ) → IsTrue (a == from_zero) → IsTrue (a == from_place) → ⊥
apart a h k = grind (arith, nat_tests)

-- a pointer that can be linked is the number that is counted, by its format
pointer_text-is : (big : Bool) (w encoding place n k : ℕ) → IsTrue (is_linkable w encoding) → k ≡ (if application_of encoding == from_place then distance place n else n) →
    pointer_text big w encoding place n ≡ (if is_signed (format_of encoding) then signed_text big w (signed_of k) else num_text big w k)
unfolding pointer_text formatted
pointer_text-is big w encoding place n k h e =
    if_either (application_of encoding == from_zero) (application_of encoding == from_place) (formatted big w (format_of encoding) n) (formatted big w (format_of encoding) (distance place n))
    (and_parts (is_counted encoding) (is_width_of w (pointer_width w (format_of encoding))) h).0 (apart (application_of encoding))
    ∙ if_inside (application_of encoding == from_place) (formatted big w (format_of encoding)) (distance place n) n
    ∙ ap (formatted big w (format_of encoding)) (sym e)
    ∙ width_shown w (pointer_width w (format_of encoding)) _ (and_parts (is_counted encoding) (is_width_of w (pointer_width w (format_of encoding))) h).1

-- the same text is spelled by the same bits
pub AreBitsOf-same : (w : ℕ) (t u : Bool → Text) (o : Option ℕ) → ((big : Bool) → u big ≡ t big) → AreBitsOf w t o → AreBitsOf w u o
AreBitsOf-same w t u None e h = λ big. e big ∙ h big
AreBitsOf-same w t u (Some n) e h = (h.0, λ big. e big ∙ h.1 big)

pub pointer_bits-signed : (w encoding f place n k : ℕ) (z : ℤ) (o : Option ℕ) → IsTrue (is_linkable w encoding) → k ≡ (if application_of encoding == from_place then distance place n else n) →
    f ≡ bit_and encoding 0x0f → is_signed f ≡ true → z ≡ signed_of k → AreBitsOf w (λ big. signed_text big w z) o → AreBitsOf w (λ big. pointer_text big w encoding place n) o
pointer_bits-signed w encoding f place n k z o h e d b same bits =
    AreBitsOf-same w (λ big. signed_text big w z) (λ big. pointer_text big w encoding place n) o
    (λ big. pointer_text-is big w encoding place n k h e
    ∙ ap (λ b. if b then signed_text big w (signed_of k) else num_text big w k) (ap is_signed (sym (d ∙ format-and encoding)) ∙ b)
    ∙ ap (signed_text big w) (sym same)) bits

pub pointer_bits-unsigned : (w encoding f place n k : ℕ) (o : Option ℕ) → IsTrue (is_linkable w encoding) → k ≡ (if application_of encoding == from_place then distance place n else n) →
    f ≡ bit_and encoding 0x0f → is_signed f ≡ false → AreBitsOf w (λ big. num_text big w k) o → AreBitsOf w (λ big. pointer_text big w encoding place n) o
pointer_bits-unsigned w encoding f place n k o h e d b bits =
    AreBitsOf-same w (λ big. num_text big w k) (λ big. pointer_text big w encoding place n) o
    (λ big. pointer_text-is big w encoding place n k h e
    ∙ ap (λ b. if b then signed_text big w (signed_of k) else num_text big w k) (ap is_signed (sym (d ∙ format-and encoding)) ∙ b)) bits

-- a number of 64 bits is an address; one of fewer bytes is one of 64 bits
int-address : (big : Bool) (w : ℕ) (z : ℤ) (n : ℕ) → address_of z ≡ Some n → int_text big w z ≡ num_text big w n
unfolding int_text
int-address big w (pos m) n e = ap (num_text big w) (some_when (nat_lt m (2 ^ 64)) m n e)
  where
    some_when : (b : Bool) (m n : ℕ) → ◌≡◌ {A = Option ℕ} (when b (Some m)) (Some n) → m ≡ n
    some_when true m n e = cc
    some_when false m n e = cc
int-address big w (negsuc m) n e = cc

int-no_address : (big : Bool) (w : ℕ) (z : ℤ) → IsTrue (is_width w) → address_of z ≡ None → int_text big w z ≡ None
unfolding int_text
int-no_address big w (pos m) h e = num-none big w m (λ fit. too_large w m h fit (none_when (nat_lt m (2 ^ 64)) m e))
  where
    none_when : (b : Bool) (m : ℕ) → ◌≡◌ {A = Option ℕ} (when b (Some m)) None → b ≡ false
    none_when true m e = cc
    none_when false m e = refl

    too_large : (w m : ℕ) → IsTrue (is_width w) → IsTrue (fits w m) → nat_lt m (2 ^ 64) ≡ false → ⊥
    too_large w m h fit e = grind (arith, nat_tests)
int-no_address big w (negsuc m) h e = refl

pub int_bits-none : (w : ℕ) (z : ℤ) (o a : Option ℕ) → IsTrue (is_width w) → a ≡ None → a ≡ address_of z → o ≡ None → AreBitsOf w (λ big. int_text big w z) o
int_bits-none w z o a h e f g = subst (AreBitsOf w (λ big. int_text big w z)) (sym g) (λ big. int-no_address big w z h (sym f ∙ e))

pub int_bits-some : (w : ℕ) (z : ℤ) (n : ℕ) (o a : Option ℕ) → a ≡ Some n → a ≡ address_of z → AreBitsOf w (λ big. num_text big w n) o → AreBitsOf w (λ big. int_text big w z) o
int_bits-some w z n o a e f bits = AreBitsOf-same w (λ big. num_text big w n) (λ big. int_text big w z) o (λ big. int-address big w z n (sym f ∙ e)) bits

pub linkable-not : (w encoding a : ℕ) (b : Bool) → a ≡ bit_and encoding 0x70 → b ≡ ((a == from_zero) || (a == from_place)) → b ≡ false → b ≡ is_linkable w encoding
linkable-not w encoding a b e d f =
    f ∙ ap (λ c. c && is_width_of w (pointer_width w (format_of encoding)))
    (sym f ∙ d ∙ ap (λ k. (k == from_zero) || (k == from_place)) (e ∙ application-and encoding))

-- the sum of a relocation without an encoding, and of one with it
pub sum_bits-plain : (w place : ℕ) (z : ℤ) (e : Option DwEhPe) (o : Option ℕ) → e ≡ None → AreBitsOf w (λ big. int_text big w z) o → AreBitsOf w (λ big. sum_text big w place true e z) o
unfolding sum_text
sum_bits-plain w place z e o f bits = AreBitsOf-same w (λ big. int_text big w z) (λ big. sum_text big w place true e z) o (λ big. ap (λ k. sum_text big w place true k z) f) bits

sum_text-address : (big : Bool) (w place n : ℕ) (z : ℤ) (e : DwEhPe) → address_of z ≡ Some n → sum_text big w place true (Some e) z ≡ pointer_text big w e.0 place n
unfolding sum_text
sum_text-address big w place n z e f = ap (λ o. o >>= pointer_text big w e.0 place) f

sum_text-no_address : (big : Bool) (w place : ℕ) (z : ℤ) (e : DwEhPe) → address_of z ≡ None → sum_text big w place true (Some e) z ≡ None
unfolding sum_text
sum_text-no_address big w place z e f = ap (λ o. o >>= pointer_text big w e.0 place) f

pub sum_bits-pointer : (w place n : ℕ) (z : ℤ) (e : Option DwEhPe) (p : DwEhPe) (a o : Option ℕ) → e ≡ Some p → a ≡ Some n → a ≡ address_of z →
    AreBitsOf w (λ big. pointer_text big w p.0 place n) o → AreBitsOf w (λ big. sum_text big w place true e z) o
sum_bits-pointer w place n z e p a o f g h bits =
    AreBitsOf-same w (λ big. pointer_text big w p.0 place n) (λ big. sum_text big w place true e z) o
    (λ big. ap (λ k. sum_text big w place true k z) f ∙ sum_text-address big w place n z p (sym h ∙ g)) bits

pub sum_bits-none : (w place : ℕ) (z : ℤ) (e : Option DwEhPe) (p : DwEhPe) (a o : Option ℕ) → e ≡ Some p → a ≡ None → a ≡ address_of z → o ≡ None →
    AreBitsOf w (λ big. sum_text big w place true e z) o
sum_bits-none w place z e p a o f g h i =
    subst (AreBitsOf w (λ big. sum_text big w place true e z)) (sym i)
    (λ big. ap (λ k. sum_text big w place true k z) f ∙ sum_text-no_address big w place z p (sym h ∙ g))

pub linkable_at : (e : Option DwEhPe) (p : DwEhPe) (w : ℕ) → e ≡ Some p → ForSome e (λ k. IsTrue (is_linkable w k.0)) → IsTrue (is_linkable w p.0)
linkable_at e p w f h = h p f
