-- What a header adds whose own length is put in last, and why it is refused.
use Rattle.std.proofs.Common.{◌≡◌, ◌∙◌, sym, ap, subst, ℕ, ◌+◌, ◌≤◌, Bool, true, false, not, nat_le, List, [], ◌∷◌, ◌++◌, length, Some, refl, arith, IsTrue, IsFalse, length-append, if◌then◌else◌}
use Rattle.dw_base.specs.Numbers.{num, word_of, length_fits}
use Rattle.dw_base.proofs.NumberLaws.{length-num}
use Rattle.dw_base.specs.declared.common.Encoding.{Encoding}
use Rattle.dw_base.specs.declared.common.Format.{Format}
use Rattle.dw_base.specs.declared.error.Error.{Error}
use Rattle.dw_base.specs.declared.error.Error.TheVariants as errors
use Rattle.dw_writer.specs.Texts.{followed, zeros}
use Rattle.dw_writer.specs.Meaning.{Meaning, Model, IsSameWriter, Adds, Replaces, Appends}
use Rattle.dw_writer.specs.Causes.{PatchRefused, LengthRefused}
use Rattle.dw_writer.specs.SectionTexts.{number_text}
use Rattle.dw_writer.proofs.Places.{length-zeros}
use Rattle.dw_writer.proofs.Plain.{Replaces-number}
use Rattle.dw_writer.proofs.Steps.{Adds-appends, Appends-as, Appends-by, Appends-filled, Adds-filled, Patches-by}
use Rattle.dw_line.specs.Headers.{version_bytes, version_size, length_fails}
use Rattle.dw_line.specs.Parts.{Refused}
use Rattle.dw_line.specs.RowTexts.{where_needed}
use Rattle.dw_line.proofs.Steps.{risen_before}

-- a number that is put over zeros, once what follows it is known
pub open_filled : {a b c d e : Meaning} {m n : ℕ} {t g : Model} (w k p : ℕ) → Appends a b m t → Adds b c (zeros w) → Appends c d n g → Replaces d e p (num d.is_big w k) → p ≡ b.size →
    Appends a e (m + (w + n)) (λ big l. followed (t big l) (followed (Some (num big w k)) (g big l)))
unfolding number_text
open_filled {a} {b} {c} {d} {e} {m} {n} {t} {g} w k p front place rest len at =
    let width : length (zeros w) ≡ w = length-zeros w in
    let patch = Replaces-number w k len in
    let patch1 = Patches-by patch at (sym width) (λ l. refl) (λ big l xs h. patch.wide big l xs h ∙ sym width) in
    Appends-as (Appends-filled front place rest patch1) (omega arith) (λ big l. refl)

-- the same where the zeros and what stands before them are added at once
pub first_filled : {a c d e : Meaning} {n : ℕ} {g : Model} (x : List ℕ) (w k p : ℕ) → Adds a c (x ++ zeros w) → Appends c d n g → Replaces d e p (num d.is_big w k) → p ≡ a.size + length x →
    Appends a e (length x + (w + n)) (λ big l. followed (Some x) (followed (Some (num big w k)) (g big l)))
unfolding number_text
first_filled {a} {c} {d} {e} {n} {g} x w k p place rest len at =
    let width : length (zeros w) ≡ w = length-zeros w in
    let patch = Replaces-number w k len in
    let patch1 = Patches-by patch at (sym width) (λ l. refl) (λ big l xs h. patch.wide big l xs h ∙ sym width) in
    Appends-as (Adds-filled x (zeros w) place rest patch1) (omega arith) (λ big l. refl)

pub length-version : (big : Bool) (e : Encoding) → length (version_bytes big e) ≡ version_size e.version
length-version big e = length-append (num big 2 e.version) (where_needed (nat_le 5 e.version) (e.address_size ∷ 0 ∷ [])) ∙ ap (λ n. n + length (where_needed (nat_le 5 e.version) (e.address_size ∷ 0 ∷ []))) (length-num big 2 e.version) ∙ by (nat_le 5 e.version)
  where
    by : (b : Bool) → 2 + length (where_needed b (e.address_size ∷ 0 ∷ [])) ≡ (if b then 4 else 2)
    by true = refl
    by false = refl

pub version_added : {a b : Meaning} (e : Encoding) → Adds a b (version_bytes a.is_big e) → Appends a b (version_size e.version) (λ big l. Some (version_bytes big e))
version_added {a} {b} e p =
    Appends-by (Adds-appends p) (length-version a.is_big e) (λ l. refl) (λ big l xs h. let f : version_bytes big e ≡ xs = cc in sym (ap length f) ∙ length-version big e)

-- why putting in a length is refused: it is too long
pub length_refused : {a b : Meaning} (c : Meaning) (format : Format) (k n p : ℕ) (fails : Error → Bool) → IsSameWriter a b → k ≡ n → p + word_of format ≤ b.size →
    ((e : Error) → IsTrue (length_fails format n e) → IsTrue (fails e)) → (e : Error) → LengthRefused format k (PatchRefused b c p (word_of format)) e → Refused a c fails e
length_refused c format k n p fails same at within f errors.NoMemory h = tt
length_refused c format k n p fails same at within f errors.WriteFault h = risen_before c same h.1
length_refused c format k n p fails same at within f errors.InitialLengthOverflow h = f errors.InitialLengthOverflow (ap not (subst (λ j. IsFalse (length_fits format j)) at h))
length_refused c format k n p fails same at within f errors.OffsetOutOfBounds h = absurd (omega (arith, h.1, within))
length_refused c format k n p fails same at within f errors.LengthOutOfBounds h = absurd (omega (arith, h.1, within))
length_refused c format k n p fails same at within f _ h = absurd h.1

-- a length that fits
pub length_sound : (format : Format) (n : ℕ) → IsTrue (length_fits format n) → (e : Error) → IsFalse (length_fails format n e)
length_sound format n h errors.InitialLengthOverflow = ap not h
length_sound format n h _ = refl
