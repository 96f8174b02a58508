-- What is added to a writer that holds nothing.
use Rattle.std.specs.Prelude.{◌≡◌, ℕ, List, [], ◌++◌, Some, None, true, refl}
use Rattle.std.proofs.Common.{sym, ◌∙◌, ap}
use Rattle.dw_writer.specs.Contents.{Meaning}
use Rattle.dw_writer.specs.Drafts.{Info, Draft, filled_text}
use Rattle.dw_writer.specs.Layout.{Layout}
use Rattle.dw_writer.specs.New.{IsEmptyPlainWriter, IsEmptyWriter}
use Rattle.dw_writer.specs.Resolved.{resolved}
use Rattle.dw_writer.specs.Texts.{Text, followed}
use Rattle.dw_writer.proofs.NewLemmas.{IsEmptyWriter-from_plain}
use Rattle.dw_tree.specs.Built.{at_zero}
use Rattle.dw_tree.specs.Pending.{AddsFilled}
use Rattle.dw_unit.proofs.Files.{empty_tidy, resolved-empty, resolved-plain}

pub followed_by : (t : Text) → followed (Some []) t ≡ t
unfolding followed
followed_by None = refl
followed_by (Some xs) = refl

-- what is told behind nothing is what was added
pub behind_nothing : (t u : Text) (bytes : List ℕ) → ((ys : List ℕ) → t ≡ Some ys → ys ≡ []) → followed t u ≡ Some bytes → u ≡ Some bytes
unfolding followed
behind_nothing None u bytes none h = absurd (let x : ◌≡◌ {A = Text} None (Some bytes) = h in cc)
behind_nothing (Some ys) None bytes none h = absurd (let x : ◌≡◌ {A = Text} None (Some bytes) = h in cc)
behind_nothing (Some ys) (Some xs) bytes none h = ap (λ zs. Some (zs ++ xs)) (sym (none ys refl)) ∙ h

-- a text with its references filled in is all that resolves in a section that was empty
pub filled_alone : (old new : Meaning) (info : Info) (d : Draft) → IsEmptyWriter old old.is_big → AddsFilled old new info d → (l : Layout) (xs : List ℕ) → resolved l new ≡ Some xs → filled_text info d new.is_big l ≡ Some xs
filled_alone old new info d empty p l xs h =
    ap (λ b. filled_text info d b l) p.same.order
    ∙ behind_nothing (resolved l old) (filled_text info d old.is_big l) xs (λ ys is. resolved-empty old.is_big l old ys empty is) (sym (p.resolves (empty_tidy old.is_big old empty) l) ∙ h)

-- over an empty plain writer one that is there stands there
pub filled_told : (old new : Meaning) (info : Info) (d : Draft) (xs : List ℕ) → IsEmptyPlainWriter old old.is_big → (new.is_plain ≡ true → new.records ≡ []) → AddsFilled old new info d → filled_text info d old.is_big at_zero ≡ Some xs → new.bytes ≡ Some xs
filled_told old new info d xs empty law p is =
    let tidy = empty_tidy old.is_big old (IsEmptyWriter-from_plain old old.is_big empty) in
    let plain : new.is_plain ≡ true = p.same.kind ∙ empty.plain in
    sym (resolved-plain new plain (law plain))
    ∙ p.resolves tidy at_zero
    ∙ ap (λ t. followed t (filled_text info d old.is_big at_zero)) (resolved-plain old empty.plain empty.records ∙ empty.bytes)
    ∙ followed_by (filled_text info d old.is_big at_zero)
    ∙ is
