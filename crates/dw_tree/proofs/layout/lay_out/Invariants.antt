use Rattle.std.proofs.Common.{◌≡◌, [], take, drop}
use Rattle.dw_base.specs.declared.error.Error.{Error}
use Rattle.dw_base.specs.Spelling.{header_size}
use Rattle.dw_entries.specs.Tree.{marks}
use Rattle.dw_tree.specs.Coded.{shapes_of}
use Rattle.dw_tree.specs.Early.{is_forward}
use Rattle.dw_tree.specs.Laid.{sized}
use Rattle.dw_tree.specs.Laying.{layout_value}
use Rattle.dw_tree.proofs.LaidSoFar.{IsLaid}
use Rattle.dw_tree.proofs.layout.lay_out.Given as goal

abbrev pub invariant-loop-k : goal.invariant-loop-k
invariant-loop-k l =
    IsLaid (sized l.encoding l.entries (shapes_of l.encoding l.entries [] (marks l.items))) l.entries (header_size l.encoding) (marks l.items) (drop l.k (marks l.items)) (layout_value l.layout)
    × ((err : Error) → is_forward l.encoding l.entries (take l.k (marks l.items)) (drop l.k (marks l.items)) err ≡ is_forward l.encoding l.entries [] (marks l.items) err)
