use Rattle.std.proofs.Common.{◌<◌, length, subst, Bool, get_or, arith}
use Rattle.std.proofs.lemmas.List.{get_or_default}
use Rattle.dw_writer.specs.Meaning.{Adds}
use Rattle.dw_writer.proofs.Parts.{Adds-none}
use Rattle.dw_arange_table.specs.declared.range.RangeDescriptor.{RangeDescriptor}
use Rattle.dw_arange_table.specs.Bytes.{range_bytes}
use Rattle.dw_arange_table.proofs.WriteSteps.{element_after}
use Rattle.dw_arange_table.proofs.write.write_ranges.Goals as goal

pub loop-range-init : goal.loop-range-init
loop-range-init g c = Adds-none (g.W.Writer.meaning c.args.w.now)

pub loop-range-preserved : goal.loop-range-preserved
loop-range-preserved g c =
    let ranges = c.args.ranges.now in
    let i = c.loop-range.range-index in
    let below : i < length ranges = omega arith in
    let range : RangeDescriptor = get_or ranges i (record { address = 0; length = 0 }) in
    let added = subst (λ (big : Bool). Adds (g.W.Writer.meaning c.loop-range.w) (g.W.Writer.meaning c.write_range.new.w) (range_bytes big c.args.size range)) c.loop-range.invariant.same.order c.in_ok-write_range.ensures.ok in
    element_after (range_bytes (g.W.Writer.meaning c.args.w.now).is_big c.args.size) ranges i range below (get_or_default ranges i _ _ below) c.loop-range.invariant added
