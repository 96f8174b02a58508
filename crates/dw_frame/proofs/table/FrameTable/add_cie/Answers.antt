use Rattle.std.specs.Prelude.{length}
use Rattle.dw_frame.proofs.TableSteps.{have_more, grown}
use Rattle.dw_frame.proofs.table.FrameTable.add_cie.Goals as goal

pub invariant_of-self : goal.invariant_of-self
invariant_of-self c =
    let old = c.args.self.now.cies.keys in
    let new = c.insert_full.new.self.keys in
    let le = grown c.insert_full.result old new c.args.cie _ c.insert_full.ensures.keys c.insert_full.ensures.err in
    record { complete = have_more (length old) (length new) c.args.self.now.fdes.items le c.args.self.now.complete }
