use Rattle.std.proofs.Common.{None, false, subst}
use Rattle.std.specs.Prelude.{IfErr, OnOk}
use Rattle.dw_writer.proofs.Outcomes.{IfErr-map}
use Rattle.dw_lists.specs.Causes.{Refused, Is, IsNone, table_fails}
use Rattle.dw_lists.specs.Items.{is_five}
use Rattle.dw_lists.specs.Pieces.{IsWritten}
use Rattle.dw_lists.specs.Tables.{OthersStay, ranges_in, ranges_of}
use Rattle.dw_tree.specs.Elsewhere.{AreFound, has_base_address, range_draft}
use Rattle.dw_tree.specs.UnitValue.{UnitValue}
use Rattle.dw_tree.proofs.Faults.{OnOk-both}
use Rattle.dw_unit.proofs.RangeSteps.{ranges_added, ranges_others, ranges_because}
use Rattle.dw_unit.proofs.unit.Unit.write_ranges.Goals as goal

pub returns-clause-ok : goal.returns-clause-ok
returns-clause-ok g c =
    let m = g.W.Writer.meaning in
    let old = c.args.sections.now in
    let new = c.write.new.sections in
    let others = subst (λ (u : UnitValue). OthersStay (is_five u.encoding) old new) c.self.view_is c.write.ensures.others in
    OnOk-both c.write.result
    (subst (λ (u : UnitValue). OnOk c.write.result (IsWritten (ranges_of m u.encoding old) (ranges_of m u.encoding new) (range_draft u))) c.self.view_is c.write.ensures.ok)
    (subst (λ (u : UnitValue). OnOk c.write.result (AreFound u)) c.self.view_is c.write.ensures.again)
    (λ added again. ranges_added m old new c.args.self.now again others added)

pub returns-clause-err : goal.returns-clause-err
returns-clause-err g c =
    let m = g.W.Writer.meaning in
    let old = c.args.sections.now in
    let new = c.write.new.sections in
    let e = c.self.inside.encoding in
    let based = has_base_address c.args.self.now.entries in
    let refused = subst (λ b. IfErr c.write.result (Refused (ranges_of m e old) (ranges_of m e new) (Is (table_fails false e None b (ranges_of m e old).is_plain (ranges_in c.self.inside.ranges))))) c.has_base_address.ensures c.write.ensures.err in
    IfErr-map c.write.result
    (subst (λ (u : UnitValue). IfErr c.write.result (Refused (ranges_of m u.encoding old) (ranges_of m u.encoding new) (Is (table_fails false u.encoding None based (ranges_of m u.encoding old).is_plain (ranges_in u.ranges))))) c.self.view_is refused)
    (ranges_because m old new c.args.self.now)

pub returns-clause-sound : goal.returns-clause-sound
returns-clause-sound g c =
    let m = g.W.Writer.meaning in
    let old = c.args.sections.now in
    let e = c.self.inside.encoding in
    let based = has_base_address c.args.self.now.entries in
    let sound = subst (λ b. OnOk c.write.result (IsNone (table_fails false e None b (ranges_of m e old).is_plain (ranges_in c.self.inside.ranges)))) c.has_base_address.ensures c.write.ensures.sound in
    subst (λ (u : UnitValue). OnOk c.write.result (IsNone (table_fails false u.encoding None based (ranges_of m u.encoding old).is_plain (ranges_in u.ranges)))) c.self.view_is sound

pub returns-clause-others : goal.returns-clause-others
returns-clause-others g c =
    let old = c.args.sections.now in
    let new = c.write.new.sections in
    ranges_others g.W.Writer.meaning old new c.args.self.now (subst (λ (u : UnitValue). OthersStay (is_five u.encoding) old new) c.self.view_is c.write.ensures.others)
