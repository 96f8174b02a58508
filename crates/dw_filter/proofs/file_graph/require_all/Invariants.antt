use Rattle.std.proofs.Common.{take}
use Rattle.dw_filter.specs.Links.{IsRequired}
use Rattle.dw_filter.proofs.file_graph.require_all.Given as goal

abbrev pub invariant-entries : goal.invariant-entries
invariant-entries l = IsRequired l.initial.dependencies l.dependencies (take l.entry-index l.required)
