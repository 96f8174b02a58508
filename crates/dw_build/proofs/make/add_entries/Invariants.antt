use Rattle.std.proofs.Common.{◌≡◌}
use Rattle.dw_build.proofs.Drafts.{IsDraft}
use Rattle.dw_build.specs.Generated.{base_type_id}
use Rattle.dw_build.proofs.make.add_entries.Given as goal

abbrev pub invariant-loop-index : goal.invariant-loop-index
invariant-loop-index l = record {
  draft : IsDraft l.from l.index l.unit;
  base : l.base_type.0 ≡ base_type_id;
}
