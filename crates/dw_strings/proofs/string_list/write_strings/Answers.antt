use Rattle.std.proofs.Common.{◌<◌, length, arith}
use Rattle.dw_writer.proofs.Outcomes.{OnErr-always}
use Rattle.dw_writer.proofs.Plain.{num-byte}
use Rattle.dw_writer.proofs.Steps.{Adds-then}
use Rattle.dw_strings.specs.Strings.{closed}
use Rattle.dw_strings.proofs.Steps.{Adds-none, Adds-element, AddsSome-more, AddsSome-then, AddsSome-element}
use Rattle.dw_strings.proofs.string_list.write_strings.Goals as goal

pub loop-string-init : goal.loop-string-init
loop-string-init g c = Adds-none _

pub returns-in_err-write-clause-partly : goal.returns-in_err-write-clause-partly
returns-in_err-write-clause-partly g c =
    let below : c.loop-string.string-index < length c.args.strings.now = omega arith in
    let some = rw c.slice.ensures at c.in_err-write.ensures.partly in
    OnErr-always c.from_residual.result
    (AddsSome-element closed c.args.strings.now c.loop-string.string-index c.string-item.result below c.string-item.is c.loop-string.invariant (AddsSome-more _ _ some))

pub returns-in_err-write_u8-clause-partly : goal.returns-in_err-write_u8-clause-partly
returns-in_err-write_u8-clause-partly g c =
    let below : c.loop-string.string-index < length c.args.strings.now = omega arith in
    let text = rw c.slice.ensures at c.in_ok-write.ensures.ok in
    let zero = rw (num-byte _ 0 (omega arith)) at c.in_err-write_u8.ensures.partly in
    OnErr-always c.from_residual-in_err-write_u8.result
    (AddsSome-element closed c.args.strings.now c.loop-string.string-index c.string-item.result below c.string-item.is c.loop-string.invariant (AddsSome-then text zero))

pub loop-string-preserved : goal.loop-string-preserved
loop-string-preserved g c =
    let below : c.loop-string.string-index < length c.args.strings.now = omega arith in
    let text = rw c.slice.ensures at c.in_ok-write.ensures.ok in
    let zero = rw (num-byte _ 0 (omega arith)) at c.in_ok-write_u8.ensures.ok in
    Adds-element closed c.args.strings.now c.loop-string.string-index c.string-item.result below c.string-item.is c.loop-string.invariant (Adds-then text zero)
