-- What calls that write the addresses of items come to.
use Rattle.std.specs.Prelude.{◌≡◌, ℕ, zero, suc, ◌+◌, ◌<◌, ◌≤◌, Bool, true, false, List, [], ◌∷◌, ◌++◌, length, nat_lt, ◌%◌, ◌/◌, Option, Some, None, refl, IsTrue, ℤ, pos, negsuc, ◌+ℤ◌, slice_get, if◌then◌else◌}
use Rattle.std.proofs.Common.{sym, ◌∙◌, ap, subst, arith}
use Rattle.std.proofs.Math.IntN.{+ℤ_assoc, +ℤ_comm}
use Rattle.std.proofs.lemmas.Option.{none-some}
use Rattle.dw_base.specs.Numbers.{◌>>=◌, num, is_width, fits}
use Rattle.dw_base.specs.Leb128.{uleb, uleb_groups}
use Rattle.dw_base.specs.declared.address.Address.{Address}
use Rattle.dw_base.specs.declared.address.Address.TheVariants.{Constant, Symbol}
use Rattle.dw_base.proofs.NumberLaws.{length-num}
use Rattle.dw_writer.specs.Texts.{Text, num_text, int_text, followed}
use Rattle.dw_writer.specs.Meaning.{Meaning, Layout, Adds, Appends}
use Rattle.dw_writer.specs.SectionTexts.{address_text}
use Rattle.dw_writer.specs.Drafts.{Draft}
use Rattle.dw_writer.proofs.Laws.{length-num_text, followed-none}
use Rattle.dw_writer.proofs.Plain.{num-shown, num-byte}
use Rattle.dw_writer.proofs.Steps.{Adds-appends, Appends-then, Appends-as, Appends-by}
use Rattle.dw_lists.specs.declared.kinds.Kinds.{Kinds}
use Rattle.dw_lists.specs.declared.range.Range.{Range}
use Rattle.dw_lists.specs.declared.range.Range.TheVariants as built
use Rattle.dw_lists.specs.Kinds.{kinds_of, AreBytes}
use Rattle.dw_lists.specs.Items.{Base, Pair, StartEnd, StartLength, marker}
use Rattle.dw_lists.specs.Pieces.{IsWritten, ends_text, kind_of, operands_size, operands_text}
use Rattle.dw_lists.specs.Texts.{natural, address_in, plus, span_text, span_draft}

-- Calls

pub written-is : {a b : Meaning} (d e : Draft) → IsWritten a b d → d ≡ e → IsWritten a b e
written-is {a} {b} d e h is = subst (λ x. IsWritten a b x) is h

pub written-byte : {a b : Meaning} (n : ℕ) → n < 256 → Adds a b (num a.is_big 1 n) → Appends a b 1 (λ big l. Some (n ∷ []))
written-byte {a} {b} n small p = Adds-appends (subst (λ xs. Adds a b xs) (num-byte a.is_big n small) p)

pub written-number : {a b : Meaning} (w n : ℕ) → IsTrue (is_width w) × IsTrue (fits w n) → Adds a b (num a.is_big w n) → Appends a b w (λ big l. num_text big w n)
written-number {a} {b} w n h p =
    Appends-by (Adds-appends p) (length-num a.is_big w n) (λ l. sym (num-shown a.is_big w n h.0 h.1)) (λ big l xs e. length-num_text big w n xs e)

pub written-marker : {a b : Meaning} (w n m : ℕ) → n ≡ m → IsTrue (is_width w) × IsTrue (fits w n) → Adds a b (num a.is_big w n) → Appends a b w (λ big l. num_text big w m)
written-marker {a} {b} w n m e h p = subst (λ k. Appends a b w (λ big l. num_text big w k)) e (written-number w n h p)

-- Addresses

integer : (big : Bool) (w : ℕ) (z : ℤ) → int_text big w z ≡ (natural z >>= num_text big w)
unfolding int_text
integer big w (pos n) = refl
integer big w (negsuc n) = refl

symbol : (big : Bool) (w : ℕ) (a : ℤ) (o : Option ℕ) →
    ◌≡◌ {A = Text} (elim o [ None ↦ None | Some v ↦ int_text big w (a +ℤ pos v) ]) ((o >>= λ v. natural (a +ℤ pos v)) >>= num_text big w)
symbol big w a None = refl
symbol big w a (Some v) = integer big w (a +ℤ pos v)

pub address_is : (big : Bool) (w : ℕ) (l : Layout) (a : Address) → address_text w a big l ≡ (address_in l a >>= num_text big w)
unfolding address_text
address_is big w l (Constant n) = refl
address_is big w l (Symbol s a) = symbol big w a (slice_get l.symbols s)

natural_plus : (m k : ℕ) (z y : ℤ) → natural z ≡ Some m → y ≡ z +ℤ pos k → natural y ≡ Some (m + k)
natural_plus m k (pos n) y e f = let same : n ≡ m = cc in ap natural f ∙ ap (λ x. Some (x + k)) same
natural_plus m k (negsuc n) y e f = absurd (none-some m e)

natural_of : (o : Option ℕ) (a : ℤ) (k m : ℕ) → (o >>= λ v. natural (a +ℤ pos v)) ≡ Some m → (o >>= λ v. natural ((a +ℤ pos k) +ℤ pos v)) ≡ Some (m + k)
natural_of None a k m e = absurd (none-some m e)
natural_of (Some v) a k m e = natural_plus m k (a +ℤ pos v) ((a +ℤ pos k) +ℤ pos v) e (+ℤ_assoc a (pos k) (pos v) ∙ ap (λ x. a +ℤ x) (+ℤ_comm (pos k) (pos v)) ∙ sym (+ℤ_assoc a (pos v) (pos k)))

-- an address that lies further on
pub plus_in : (l : Layout) (a : Address) (k m : ℕ) → address_in l a ≡ Some m → address_in l (plus a k) ≡ Some (m + k)
plus_in l (Constant n) k m e = let same : n ≡ m = cc in ap (λ x. Some (x + k)) same
plus_in l (Symbol s a) k m e = natural_of (slice_get l.symbols s) a k m e

none-followed : (t : Text) → followed None t ≡ None
unfolding followed
none-followed t = refl

three : (xs ys zs : List ℕ) → followed (Some xs) (followed (Some ys) (Some zs)) ≡ Some (xs ++ (ys ++ zs))
unfolding followed
three xs ys zs = refl

two_addresses : (w : ℕ) (big : Bool) (l : Layout) (x y : Address) → followed (address_text w x big l) (address_text w y big l) ≡ followed (address_in l x >>= num_text big w) (address_in l y >>= num_text big w)
two_addresses w big l x y = ap (λ t. followed t (address_text w y big l)) (address_is big w l x) ∙ ap (followed (address_in l x >>= num_text big w)) (address_is big w l y)

-- Ranges

module _ (k : Kinds) (w : ℕ) {a b : Meaning} where
  new_base : {c : Meaning} (x : Address) → k.base_address < 256 → Adds a b (num a.is_big 1 k.base_address) → Appends b c w (address_text w x) → IsWritten a c (span_draft true k w (Some (built.BaseAddress x)))
  new_base {c} x small p q =
      Appends-as (Appends-then (written-byte k.base_address small p) q) refl
      (λ big l. ap (followed (Some (k.base_address ∷ []))) (address_is big w l x) ∙ by big (address_in l x))
    where
      by : (big : Bool) (o : Option ℕ) → followed (Some (k.base_address ∷ [])) (o >>= num_text big w) ≡ ((o >>= λ n. Some (Base n)) >>= span_text true k big w)
      by big None = followed-none (Some (k.base_address ∷ []))
      by big (Some n) = refl

  new_pair : {c : Meaning} (m n : ℕ) → k.offset_pair < 256 → Adds a b (num a.is_big 1 k.offset_pair) → Appends b c (length (uleb m) + length (uleb n)) (λ big l. followed (Some (uleb m)) (Some (uleb n))) → IsWritten a c (span_draft true k w (Some (built.OffsetPair m n)))
  new_pair m n small p q = Appends-as (Appends-then (written-byte k.offset_pair small p) q) refl (λ big l. three (k.offset_pair ∷ []) (uleb m) (uleb n))

  new_ends : {d : Meaning} (x y : Address) → k.start_end < 256 → Adds a b (num a.is_big 1 k.start_end) → Appends b d (w + w) (ends_text w x y) → IsWritten a d (span_draft true k w (Some (built.StartEnd x y)))
  new_ends x y small p q =
      Appends-as (Appends-then (written-byte k.start_end small p) q) refl
      (λ big l. ap (followed (Some (k.start_end ∷ []))) (ap (λ t. followed t (address_text w y big l)) (address_is big w l x) ∙ ap (followed (address_in l x >>= num_text big w)) (address_is big w l y)) ∙ by big (address_in l x) (address_in l y))
    where
      by : (big : Bool) (o p : Option ℕ) → followed (Some (k.start_end ∷ [])) (followed (o >>= num_text big w) (p >>= num_text big w)) ≡ ((o >>= λ m. p >>= λ n. Some (StartEnd m n)) >>= span_text true k big w)
      by big None p = ap (followed (Some (k.start_end ∷ []))) (none-followed (p >>= num_text big w)) ∙ followed-none (Some (k.start_end ∷ []))
      by big (Some m) None = ap (followed (Some (k.start_end ∷ []))) (followed-none (num_text big w m)) ∙ followed-none (Some (k.start_end ∷ []))
      by big (Some m) (Some n) = refl

  new_length : {c : Meaning} (x : Address) (n : ℕ) → k.start_length < 256 → Adds a b (num a.is_big 1 k.start_length) → Appends b c (w + length (uleb n)) (λ big l. followed (address_text w x big l) (Some (uleb n))) → IsWritten a c (span_draft true k w (Some (built.StartLength x n)))
  new_length x n small p q =
      Appends-as (Appends-then (written-byte k.start_length small p) q) refl
      (λ big l. ap (λ t. followed (Some (k.start_length ∷ [])) (followed t (Some (uleb n)))) (address_is big w l x) ∙ by big (address_in l x))
    where
      by : (big : Bool) (o : Option ℕ) → followed (Some (k.start_length ∷ [])) (followed (o >>= num_text big w) (Some (uleb n))) ≡ ((o >>= λ m. Some (StartLength m n)) >>= span_text true k big w)
      by big None = ap (followed (Some (k.start_length ∷ []))) (none-followed (Some (uleb n))) ∙ followed-none (Some (k.start_length ∷ []))
      by big (Some m) = refl

  -- the kind of an item, and its operands
  pub new_item : {c : Meaning} (r : Range) → AreBytes k → Adds a b (num a.is_big 1 (kind_of k r)) → Appends b c (operands_size w r) (operands_text w r) → IsWritten a c (span_draft true k w (Some r))
  new_item (built.BaseAddress x) bytes p q = new_base x bytes.1.1.0 p q
  new_item (built.OffsetPair m n) bytes p q = new_pair m n bytes.1.0 p q
  new_item (built.StartEnd x y) bytes p q = new_ends x y bytes.1.1.1.0 p q
  new_item (built.StartLength x n) bytes p q = new_length x n bytes.1.1.1.1 p q

  pub old_base : {c : Meaning} (x : Address) → Appends a b w (λ big l. num_text big w (marker w)) → Appends b c w (address_text w x) → IsWritten a c (span_draft false k w (Some (built.BaseAddress x)))
  old_base x p q = Appends-as (Appends-then p q) refl (λ big l. ap (followed (num_text big w (marker w))) (address_is big w l x) ∙ by big (address_in l x))
    where
      by : (big : Bool) (o : Option ℕ) → followed (num_text big w (marker w)) (o >>= num_text big w) ≡ ((o >>= λ n. Some (Base n)) >>= span_text false k big w)
      by big None = followed-none (num_text big w (marker w))
      by big (Some n) = refl

  pub old_pair : {c : Meaning} (m n : ℕ) → Appends a b w (λ big l. num_text big w m) → Appends b c w (λ big l. num_text big w n) → IsWritten a c (span_draft false k w (Some (built.OffsetPair m n)))
  old_pair m n p q = Appends-then p q

  pub old_ends : (x y : Address) → Appends a b (w + w) (ends_text w x y) → IsWritten a b (span_draft false k w (Some (built.StartEnd x y)))
  old_ends x y p = Appends-as p refl (λ big l. two_addresses w big l x y ∙ by big (address_in l x) (address_in l y))
    where
      by : (big : Bool) (o p : Option ℕ) → followed (o >>= num_text big w) (p >>= num_text big w) ≡ ((o >>= λ m. p >>= λ n. Some (Pair m n)) >>= span_text false k big w)
      by big None p = none-followed (p >>= num_text big w)
      by big (Some m) None = followed-none (num_text big w m)
      by big (Some m) (Some n) = refl

  pub old_length : (x y : Address) (n : ℕ) → y ≡ plus x n → Appends a b (w + w) (ends_text w x y) → IsWritten a b (span_draft false k w (Some (built.StartLength x n)))
  old_length x y n is p = Appends-as (subst (λ z. Appends a b (w + w) (ends_text w x z)) is p) refl (λ big l. two_addresses w big l x (plus x n) ∙ by big (address_in l x) (address_in l (plus x n)) (plus_in l x n))
    where
      by : (big : Bool) (o p : Option ℕ) → ((m : ℕ) → o ≡ Some m → p ≡ Some (m + n)) → followed (o >>= num_text big w) (p >>= num_text big w) ≡ ((o >>= λ m. Some (Pair m (m + n))) >>= span_text false k big w)
      by big None p f = none-followed (p >>= num_text big w)
      by big (Some m) p f = ap (λ x. followed (num_text big w m) (x >>= num_text big w)) (f m refl)

-- Sizes

short_by : (b : Bool) (n y k : ℕ) (xs : List ℕ) → length xs ≤ suc k → length (if b then n ∷ [] else y ∷ xs) ≤ suc (suc k)
short_by true n y k xs h = omega arith
short_by false n y k xs h = omega (arith, h)

groups_short : (k n : ℕ) → length (uleb_groups k n) ≤ suc k
unfolding uleb_groups
groups_short zero n = omega arith
groups_short (suc k) n = short_by (nat_lt n 128) n (128 + n % 128) k (uleb_groups k (n / 128)) (groups_short k (n / 128))

pub uleb_short : (n : ℕ) → length (uleb n) ≤ 10
unfolding uleb
uleb_short n = groups_short 9 n

-- Kinds are bytes

pub kinds_are_bytes : (loc : Bool) → AreBytes (kinds_of loc)
kinds_are_bytes true = (omega arith, (omega arith, (omega arith, (omega arith, omega arith))))
kinds_are_bytes false = (omega arith, (omega arith, (omega arith, (omega arith, omega arith))))
