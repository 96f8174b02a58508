use Rattle.std.specs.Prelude.{List}
use Rattle.std.proofs.Common.{◌∙◌, subst}
use Rattle.std.proofs.lemmas.List.{take_all}
use Rattle.dw_link.proofs.Held.{held_beside}
use Rattle.dw_frame.specs.declared.table.FrameTable.{FrameTable}
use Rattle.dw_link_frames.specs.Placed.{kind_of}
use Rattle.dw_link_frames.specs.Written.{AreWritten}
use Rattle.dw_link_frames.proofs.Steps.{written_next, taken_next, told_next, refused_by, taken_here, refused_memory}
use Rattle.dw_link_frames.proofs.tables.write_tables.Goals as goal

pub returns-in-Err-clause-err : goal.returns-in-Err-clause-err
returns-in-Err-clause-err g c =
    rw c.refused.ensures (refused_by (kind_of c.args.eh_frame) c.args.tables.now c.each.number c.index-tables-number.result c.in-Err.error c.each-test.true c.index-tables-number.is c.each.invariant.taken c.in-Err.ensures.err)

pub returns-in-Err-clause-complete : goal.returns-in-Err-clause-complete
returns-in-Err-clause-complete g c =
    λ taken.
    c.refused.ensures ∙ refused_memory c.each.number c.in-Err.error
    (c.in-Err.ensures.complete (taken_here (kind_of c.args.eh_frame) c.args.tables.now c.each.number c.index-tables-number.result taken c.each-test.true c.index-tables-number.is))

pub each-preserved : goal.each-preserved
each-preserved g c =
    let kind = kind_of c.args.eh_frame in
    let tables = c.args.tables.now in
    let t = c.index-tables-number.result in
    let before = c.each.invariant in
    record {
      written = written_next (held_beside g.E.Endianity.is_big) (g.E.Endianity.is_big c.args.endian) kind tables c.each.number t c.each.sets.items c.push.new.self.items c.in-Ok.set c.each-test.true c.index-tables-number.is c.in_ok-push-in-Ok.ensures.items before.written c.in-Ok.ensures.ok;
      taken = taken_next kind tables c.each.number t c.each-test.true c.index-tables-number.is before.taken c.in-Ok.ensures.sound;
      told = told_next kind tables c.each.number t c.each-test.true c.index-tables-number.is before.told c.in-Ok.ensures.told;
    }

pub returns-clause-ok : goal.returns-clause-ok
returns-clause-ok g c =
    let kind = kind_of c.args.eh_frame in
    subst (λ (ts : List FrameTable). AreWritten (held_beside g.E.Endianity.is_big) (g.E.Endianity.is_big c.args.endian) kind ts c.each.sets.items) (take_all c.each.number c.args.tables.now c.each-test.false) c.each.invariant.written
