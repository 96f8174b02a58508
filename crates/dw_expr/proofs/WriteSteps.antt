-- What calls that write parts of an expression come to.
use Rattle.std.specs.Prelude.{◌≡◌, ℕ, zero, suc, ◌<◌, Bool, true, false, not, ◌||◌, List, [], ◌∷◌, length, get_or, slice_get, Option, Some, None, is_none, Result, Ok, Err, OnOk, IfErr, IsTrue, IsFalse, refl, ℤ, pos, ◌-ℤ◌}
use Rattle.std.proofs.Common.{sym, ◌∙◌, ap, subst, arith}
use Rattle.std.proofs.lemmas.Bool.{or_from}
use Rattle.dw_base.specs.Numbers.{◌>>=◌, when, num, is_width, fits}
use Rattle.dw_base.specs.declared.common.Encoding.{Encoding}
use Rattle.dw_base.specs.declared.error.Error.{Error}
use Rattle.dw_base.specs.declared.error.Error.TheVariants as errors
use Rattle.dw_base.proofs.NumberLaws.{length-num}
use Rattle.dw_writer.specs.Texts.{Text, num_text}
use Rattle.dw_writer.specs.SignedNumbers.{signed_fits, signed_num, twos_complement}
use Rattle.dw_writer.specs.Meaning.{Meaning, IsSameWriter, Adds, Appends}
use Rattle.dw_writer.specs.SectionTexts.{bytes_text}
use Rattle.dw_writer.specs.Drafts.{whole, then_draft, Drafts}
use Rattle.dw_writer.specs.declared.fixup.DebugInfoFixup.{DebugInfoFixup}
use Rattle.dw_writer.proofs.FaultLaws.{HasRisen-from}
use Rattle.dw_writer.proofs.Laws.{length-num_text}
use Rattle.dw_writer.proofs.Plain.{num-shown, num-byte}
use Rattle.dw_writer.proofs.Steps.{Adds-appends, Appends-by}
use Rattle.dw_writer.proofs.DraftLaws.{then-nothing, nothing-then}
use Rattle.dw_writer.proofs.WriteLaws.{Drafts-is, Drafts-then, Drafts-whole}
use Rattle.dw_expr.specs.Operands.{Operand, Nothing, dense}
use Rattle.dw_expr.specs.Places.{place_by, Refused}
use Rattle.dw_expr.specs.Spelling.{bytes, distance_text, operand_draft, operands_draft}
use Rattle.dw_expr.specs.Causes.{is_unset, is_distant, target_place, distance_fails, operand_fails, operands_fail}

-- Bytes and numbers

pub Drafts-bytes : {a b : Meaning} {xs : List ℕ} (k : List DebugInfoFixup) → Adds a b xs → Drafts a b k k (bytes xs)
unfolding bytes_text
Drafts-bytes k p = Drafts-whole k (Adds-appends p)

pub Drafts-byte : {a b : Meaning} (k : List DebugInfoFixup) (n : ℕ) → n < 256 → Adds a b (num a.is_big 1 n) → Drafts a b k k (bytes (n ∷ []))
Drafts-byte {a} {b} k n small p = Drafts-bytes k (subst (λ xs. Adds a b xs) (num-byte a.is_big n small) p)

pub Drafts-number : {a b : Meaning} (k : List DebugInfoFixup) (w n : ℕ) → Adds a b (num a.is_big w n) → IsTrue (is_width w) → IsTrue (fits w n) → Drafts a b k k (whole w (λ big l. num_text big w n))
Drafts-number {a} {b} k w n p width fit =
    Drafts-whole k (Appends-by (Adds-appends p) (length-num a.is_big w n) (λ l. sym (num-shown a.is_big w n width fit)) (λ big l xs e. length-num_text big w n xs e))

pub OnOk-both : {T E P Q R : Type 0} (r : Result T E) → OnOk r P → OnOk r Q → (P → Q → R) → OnOk r R
OnOk-both (Ok x) p q f = f p q
OnOk-both (Err e) p q f = tt

-- Distances

pub length-signed_num : (big : Bool) (w : ℕ) (z : ℤ) → length (signed_num big w z) ≡ w
unfolding signed_num
length-signed_num big w z = length-num big w (twos_complement w z)

fits_then : (b : Bool) (xs : List ℕ) → IsTrue b → ◌≡◌ {A = Text} (Some xs) (when b (Some xs))
fits_then true xs h = refl
fits_then false xs h = absurd (let k : IsTrue false = h in cc)

when-wide : (b : Bool) (ys xs : List ℕ) → when b (Some ys) ≡ Some xs → ys ≡ xs
when-wide true ys xs h = cc
when-wide false ys xs h = absurd (let k : ◌≡◌ {A = Text} None (Some xs) = h in cc)

pub distance_written : {a b : Meaning} (starts : List ℕ) (from k to : ℕ) (target : Option ℕ) (z : ℤ) → target ≡ Some k → slice_get starts k ≡ Some to → z ≡ pos to -ℤ pos from → IsTrue (signed_fits 2 z) →
    Adds a b (signed_num a.is_big 2 z) → Appends a b 2 (λ big l. distance_text big starts from target)
distance_written {a} {b} starts from k to target z at there is fit p =
    let text : Bool → ℤ → Text = λ big d. when (signed_fits 2 d) (Some (signed_num big 2 d)) in
    let shape : (big : Bool) → text big z ≡ distance_text big starts from target = λ big.
    ap (text big) is
    ∙ ap (λ o. let t : Text = o >>= λ n. when (signed_fits 2 (pos n -ℤ pos from)) (Some (signed_num big 2 (pos n -ℤ pos from))) in t) (sym there)
    ∙ ap (λ o. let t : Text = o >>= λ j. slice_get starts j >>= λ n. when (signed_fits 2 (pos n -ℤ pos from)) (Some (signed_num big 2 (pos n -ℤ pos from))) in t) (sym at) in
    Appends-by (Adds-appends p) (length-signed_num a.is_big 2 z) (λ l. fits_then (signed_fits 2 z) (signed_num a.is_big 2 z) fit ∙ shape a.is_big)
    (λ big l xs h. sym (ap length (when-wide (signed_fits 2 z) (signed_num big 2 z) xs (shape big ∙ h))) ∙ length-signed_num big 2 z)

pub distance_sound : {a b : Meaning} (starts : List ℕ) (from k to : ℕ) (target : Option ℕ) (z : ℤ) → target ≡ Some k → slice_get starts k ≡ Some to → z ≡ pos to -ℤ pos from → IsTrue (signed_fits 2 z) →
    Adds a b (signed_num a.is_big 2 z) → (err : Error) → IsFalse (distance_fails starts from target err)
distance_sound starts from k to target z at there is fit p errors.UnsetBranchTarget = ap (is_unset starts) at ∙ ap (λ o. is_none o) there
distance_sound starts from k to target z at there is fit p errors.ValueTooLarge =
    ap (λ t. is_distant from (target_place starts t)) at ∙ ap (is_distant from) there ∙ ap not (ap (signed_fits 2) (sym is) ∙ fit)
distance_sound starts from k to target z at there is fit p err = refl

pub got_there : (xs : List ℕ) (i : ℕ) → i < length xs → slice_get xs i ≡ Some (get_or xs i 0)
got_there [] i h = absurd (omega arith)
got_there (x ∷ xs) zero h = refl
got_there (x ∷ xs) (suc i) h = got_there xs i (omega arith)

-- Refusals

pub IsSameWriter-refl : (m : Meaning) → IsSameWriter m m
IsSameWriter-refl m = record { order = refl; kind = refl; faults = omega arith }

-- a call after others of the same writer, which is refused for a cause of a larger kind
pub refused_after : (a b c : Meaning) (f g : Error → Bool) → IsSameWriter a b → ((err : Error) → IsTrue (f err) → IsTrue (g err)) → (err : Error) → Refused b c f err → Refused a c g err
refused_after a b c f g same more errors.NoMemory h = tt
refused_after a b c f g same more errors.WriteFault h = HasRisen-from a b c same.faults h
refused_after a b c f g same more err h = more err h

pub err_at : (r : Result (Unit {0}) Error) (F : Error → Type 0) (e : Error) → r ≡ Err e → F e → IfErr r F
err_at r F e is h = subst (λ q. IfErr q F) (sym is) h

pub IfErr-more : (r : Result (Unit {0}) Error) (F G : Error → Type 0) → ((e : Error) → F e → G e) → IfErr r F → IfErr r G
IfErr-more (Ok u) F G f h = tt
IfErr-more (Err e) F G f h = f e h

-- Operands in a row, some of which are nothing

module _ (e : Encoding) (known : Option (ℕ → Option ℕ)) (starts : List ℕ) (to : ℕ) where
  draft_dense : (os : List Operand) → operands_draft e (place_by known) starts to (dense os) ≡ operands_draft e (place_by known) starts to os
  draft_dense [] = refl
  draft_dense (Nothing ∷ os) = draft_dense os ∙ sym (nothing-then (operands_draft e (place_by known) starts to os))
  draft_dense (o ∷ os) = ap (then_draft (operand_draft e (place_by known) starts to o)) (draft_dense os)

  pub four_drafts : {m n o p q : Meaning} {v w x y z : List DebugInfoFixup} (a b c d : Operand) →
      Drafts m n v w (operand_draft e (place_by known) starts to a) → Drafts n o w x (operand_draft e (place_by known) starts to b) →
      Drafts o p x y (operand_draft e (place_by known) starts to c) → Drafts p q y z (operand_draft e (place_by known) starts to d) →
      Drafts m q v z (operands_draft e (place_by known) starts to (dense (a ∷ b ∷ c ∷ d ∷ [])))
  four_drafts a b c d f g h k =
      Drafts-is (Drafts-then f (Drafts-then g (Drafts-then h (Drafts-is k (sym (then-nothing (operand_draft e (place_by known) starts to d)))))))
      (sym (draft_dense (a ∷ b ∷ c ∷ d ∷ [])))

  module _ (keeps : Bool) where
    fails_dense : (is_plain : Bool) (os : List Operand) (err : Error) → operands_fail e known keeps is_plain starts to (dense os) err ≡ operands_fail e known keeps is_plain starts to os err
    fails_dense is_plain [] err = refl
    fails_dense is_plain (Nothing ∷ os) err = fails_dense is_plain os err
    fails_dense is_plain (o ∷ os) err = ap (λ b. operand_fails e known keeps is_plain starts to o err || b) (fails_dense is_plain os err)

    pub four_writes_fail : (is_plain : Bool) (a b c d : Operand) (err : Error) →
        IsTrue (operand_fails e known keeps is_plain starts to a err || (operand_fails e known keeps is_plain starts to b err || (operand_fails e known keeps is_plain starts to c err || (operand_fails e known keeps is_plain starts to d err || false)))) →
        IsTrue (operands_fail e known keeps is_plain starts to (dense (a ∷ b ∷ c ∷ d ∷ [])) err)
    four_writes_fail is_plain a b c d err h = fails_dense is_plain (a ∷ b ∷ c ∷ d ∷ []) err ∙ h

    pub four_writes_sound : (is_plain : Bool) (a b c d : Operand) → ((err : Error) → IsFalse (operand_fails e known keeps is_plain starts to a err)) → ((err : Error) → IsFalse (operand_fails e known keeps is_plain starts to b err)) →
        ((err : Error) → IsFalse (operand_fails e known keeps is_plain starts to c err)) → ((err : Error) → IsFalse (operand_fails e known keeps is_plain starts to d err)) →
        (err : Error) → IsFalse (operands_fail e known keeps is_plain starts to (dense (a ∷ b ∷ c ∷ d ∷ [])) err)
    four_writes_sound is_plain a b c d p q r s err =
        let F = λ (o : Operand). operand_fails e known keeps is_plain starts to o err in
        fails_dense is_plain (a ∷ b ∷ c ∷ d ∷ []) err ∙ or_from (F a) (F b || (F c || (F d || false))) (p err) (or_from (F b) (F c || (F d || false)) (q err) (or_from (F c) (F d || false) (r err) (or_from (F d) false (s err) refl)))

    -- the same of a writer of the same kind
    pub same_kind : {a b : Bool} (o : Operand) (err : Error) → b ≡ a → operand_fails e known keeps b starts to o err ≡ operand_fails e known keeps a starts to o err
    same_kind o err is = ap (λ k. operand_fails e known keeps k starts to o err) is
