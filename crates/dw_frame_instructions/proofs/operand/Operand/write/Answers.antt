use Rattle.std.specs.Prelude.{refl}
use Rattle.std.proofs.Common.{◌≡◌, rules, to_z, of_z, w64}
use Rattle.dw_frame_instructions.proofs.Steps.{Writes-bytes, written-nothing}
use Rattle.dw_frame_instructions.proofs.operand.Operand.write.Goals as goal

pub returns-in-Nothing : goal.returns-in-Nothing
returns-in-Nothing g c = rw c.in-Nothing.is (written-nothing (g.W.Writer.meaning c.args.w.now), λ e. refl)

pub returns-in-Uleb : goal.returns-in-Uleb
returns-in-Uleb g c = rw c.in-Uleb.is (Writes-bytes c.write_uleb128.result _ _ _ c.write_uleb128.ensures.ok c.write_uleb128.ensures.err)

pub returns-in-Sleb : goal.returns-in-Sleb
returns-in-Sleb g c =
    let value : to_z w64 (of_z w64 c.in-Sleb.val) ≡ c.in-Sleb.val = search rules in
    let ok = rw value at c.write_sleb128.ensures.ok in
    rw c.in-Sleb.is (Writes-bytes c.write_sleb128.result _ _ _ ok c.write_sleb128.ensures.err)
