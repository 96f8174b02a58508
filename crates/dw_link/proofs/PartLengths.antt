-- How long parts are, and where those behind them start.
use Rattle.std.specs.Prelude.{◌≡◌, ℕ, ◌+◌, Bool, true, false, not, ◌&&◌, List, [], ◌∷◌, ◌++◌, length, take, Some, None, refl, if◌then◌else◌}
use Rattle.std.proofs.Common.{sym, ◌∙◌, ap, arith, length-append, append-nil}
use Rattle.std.proofs.Math.Seq.{take-append_seam}
use Rattle.std.proofs.lemmas.Option.{none-some}
use Rattle.dw_base.specs.declared.section_id.SectionId.{SectionId}
use Rattle.dw_writer.specs.Texts.{Text}
use Rattle.dw_writer.specs.Layout.{Layout, is_at_zero}
use Rattle.dw_writer.specs.Meaning.{Meaning, IsTidy, spelled_text}
use Rattle.dw_writer.specs.Resolved.{put_records, resolved}
use Rattle.dw_writer.proofs.Laws.{resolved-wide}
use Rattle.dw_link.specs.Sets.{Parts, bytes_of, concatenated, start_in}
use Rattle.dw_link.proofs.Faultless.{none_put}

nowhere : (b : Bool) (t : Text) → t ≡ None → (if b then None else t) ≡ None
nowhere true t h = refl
nowhere false t h = h

-- what a part resolves to is as long as its bytes
pub part_length : (l : Layout) (m : Meaning) (xs : List ℕ) → IsTidy m → resolved l m ≡ Some xs → length (spelled_text m.bytes) ≡ length xs
unfolding resolved
part_length l m xs tidy h = by_text m.bytes refl
  where
    by_text : (t : Text) → m.bytes ≡ t → length (spelled_text m.bytes) ≡ length xs
    by_text None is =
        let none = ap (put_records m.is_big l m.records) is ∙ none_put m.is_big l m.records in
        absurd (none-some xs (sym (nowhere (m.is_plain && not (is_at_zero l)) (put_records m.is_big l m.records m.bytes) none) ∙ h))
    by_text (Some b) is = ap (λ t. length (spelled_text t)) is ∙ tidy.sized b is ∙ sym (resolved-wide l m tidy xs h)

pub concatenated-more : (s : SectionId) (before : List Parts) (set : Parts) → length (concatenated s (before ++ set ∷ [])) ≡ length (concatenated s before) + length (bytes_of (set s))
concatenated-more s [] set = omega (arith, ap length (append-nil (bytes_of (set s))))
concatenated-more s (p ∷ before) set =
    omega (arith, length-append (bytes_of (p s)) (concatenated s (before ++ set ∷ [])), length-append (bytes_of (p s)) (concatenated s before), concatenated-more s before set)

-- where the parts of the set behind these start
pub behind : (sets before after : List Parts) (n : ℕ) (s : SectionId) → sets ≡ before ++ after → n ≡ length before → start_in sets n s ≡ length (concatenated s before)
behind sets before after n s is at =
    ap (λ xs. length (concatenated s xs)) (ap (take n) is ∙ ap (λ k. take k (before ++ after)) at ∙ take-append_seam before after)
