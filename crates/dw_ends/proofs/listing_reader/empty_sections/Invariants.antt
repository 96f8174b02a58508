use Rattle.std.proofs.Common.{◌≡◌, [], replicate}
use Rattle.dw_ends.proofs.listing_reader.empty_sections.Given as goal

abbrev pub invariant-loop : goal.invariant-loop
invariant-loop l = l.sections.items ≡ replicate l.counter []
