use Rattle.std.proofs.Common.{◌≡◌, Some, drop}
use Rattle.dw_writer.specs.Sections.{section_of}
use Rattle.dw_writer.specs.Visits.{Visits, written_ids}
use Rattle.dw_writer.proofs.sections.Sections.for_each.Given as goal

-- what the calls at the ids that are left do, the calls at all of them do
abbrev pub invariant-loop-id : goal.invariant-loop-id
invariant-loop-id g l =
    goal.F-IsAlwaysCallable g l.f
    × ((r : _) (last : _) → Visits (λ id w. section_of l.self id ≡ Some w.now) (goal.F-step g) l.f (drop l.id-index written_ids) r last
    → Visits (λ id w. section_of l.self id ≡ Some w.now) (goal.F-step g) l.fn.f written_ids r last)
