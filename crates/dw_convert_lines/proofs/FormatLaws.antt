-- Parts by which directories and files are described: how they are told one after the other.
use Rattle.std.proofs.Common.{◌≡◌, ℕ, ◌+◌, ◌≤◌, cond, List, [], ◌∷◌, refl, arith}
use Rattle.std.specs.Prelude.{◌==◌, All}
use Rattle.std.proofs.lemmas.List.Elements.{All-nil}
use Rattle.std.proofs.lemmas.List.Sums.{sum_by-cons}
use Rattle.dw_base.specs.declared.constants.DwLnct.{DwLnct}
use Rattle.dw_convert_lines.specs.FormatLists.{known_contents, times_told, IsConvertible}

pub times_told-nil : (content : DwLnct) → times_told content [] ≡ 0
times_told-nil content = refl

pub times_told-cons : (content : DwLnct) (part : ℕ × ℕ) (parts : List (ℕ × ℕ)) → times_told content (part ∷ parts) ≡ cond (part.0 == content.0) 1 0 + times_told content parts
times_told-cons content part parts = sum_by-cons (λ (p : ℕ × ℕ). cond (p.0 == content.0) 1 0) part parts

once_in_none : All (λ (content : DwLnct). times_told content [] ≤ 1) known_contents
once_in_none = λ k d h. omega arith

-- no entries without a part
pub none_described : IsConvertible [] 0
none_described = record { no_constants = All-nil _; once = once_in_none; named = λ h. absurd (omega arith) }
