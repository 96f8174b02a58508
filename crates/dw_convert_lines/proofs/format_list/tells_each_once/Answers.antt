use Rattle.std.proofs.Common.{◌≡◌, ap, refl, ℕ, ◌<◌, ◌≤◌, List, get_or, arith}
use Rattle.std.specs.List.{All}
use Rattle.std.proofs.lemmas.List.{get_or_default}
use Rattle.std.proofs.lemmas.List.Elements.{AllWithin-more}
use Rattle.dw_base.specs.declared.constants.DwLnct.{DwLnct}
use Rattle.dw_read_lines.specs.FileEntryFormatIters.{parts_in}
use Rattle.dw_read_lines.specs.FileEntryIters.{layout_of}
use Rattle.dw_convert_lines.specs.FormatLists.{times_told, known_contents}
use Rattle.dw_convert_lines.proofs.format_list.tells_each_once.Goals as goal

abbrev IsOnce : List (ℕ × ℕ) → DwLnct → Type 0
IsOnce parts content = times_told content parts ≤ 1

-- the content of a turn, whatever stands for those that aren't there
once_here : (parts : List (ℕ × ℕ)) (k times : ℕ) (d e : DwLnct) → times ≡ times_told (get_or known_contents k e) parts → k < 6 → times ≤ 1 → IsOnce parts (get_or known_contents k d)
once_here parts k times d e t h l =
    let q : times_told (get_or known_contents k e) parts ≡ times_told (get_or known_contents k d) parts = ap (λ (content : DwLnct). times_told content parts) (get_or_default known_contents k e d h) in
    omega arith

once_at : (parts : List (ℕ × ℕ)) (k times : ℕ) (e : DwLnct) → times ≡ times_told (get_or known_contents k e) parts → k < 6 → All (IsOnce parts) known_contents → times ≤ 1
once_at parts k times e t h a = let q : IsOnce parts (get_or known_contents k e) = a k e h in omega arith

pub contents-init : goal.contents-init
contents-init g c = λ parts has k d low high. absurd (omega arith)

pub contents-preserved : goal.contents-preserved
contents-preserved g c = λ parts has.
    let listed : List (ℕ × ℕ) = parts_in (layout_of g.R.Reader.reading c.args.entries.now.layout parts) in
    AllWithin-more (IsOnce listed) known_contents 0 c.contents.content-index (c.contents.invariant parts has)
    (λ d. once_here listed c.contents.content-index c.times_told.result d _ (c.times_told.ensures parts has) c.contents-test.true c.if-times_told-gt1.false)

pub returns-then-times_told-gt1 : goal.returns-then-times_told-gt1
returns-then-times_told-gt1 g c = λ parts has.
    let listed : List (ℕ × ℕ) = parts_in (layout_of g.R.Reader.reading c.args.entries.now.layout parts) in
    (λ t. absurd (cc), λ a. absurd (omega (arith, once_at listed c.contents.content-index c.times_told.result _ (c.times_told.ensures parts has) c.contents-test.true a)))

pub returns : goal.returns
returns g c = λ parts has. (λ t k d h. c.contents.invariant parts has k d (omega arith) (omega arith), λ a. refl)
