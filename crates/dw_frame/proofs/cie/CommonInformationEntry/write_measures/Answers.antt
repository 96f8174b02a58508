use Rattle.std.proofs.Common.{◌≡◌, rules, to_z, of_z, w8, w64}
use Rattle.dw_base.specs.Leb128.{uleb, sleb}
use Rattle.dw_frame.specs.Parts.{free, in_turn}
use Rattle.dw_frame_instructions.proofs.Steps.{bytes_written}
use Rattle.dw_frame.proofs.PartSteps.{Puts-then}
use Rattle.dw_frame_instructions.specs.Pieces.{bytes}
use Rattle.dw_frame.specs.Cies.{register_part}
use Rattle.dw_frame.proofs.cie.CommonInformationEntry.write_measures.Goals as goal

pub returns : goal.returns
returns g c =
    let factor : to_z w8 (of_z w8 c.args.self.now.data_alignment_factor) ≡ c.args.self.now.data_alignment_factor = search rules in
    let factor64 : to_z w64 (of_z w64 c.args.self.now.data_alignment_factor) ≡ c.args.self.now.data_alignment_factor = search rules in
    Puts-then {T = Unit {0}} c.write_register.result (g.W.Writer.meaning c.args.w.now) (g.W.Writer.meaning c.write_uleb128.new.self) (g.W.Writer.meaning c.write_register.new.w) (free (bytes (uleb c.args.self.now.code_alignment_factor))) (in_turn (free (bytes (sleb c.args.self.now.data_alignment_factor))) ((register_part c.args.kind c.args.self.now.encoding.version c.args.self.now.return_address_register.0))) (bytes_written (rw c.from.ensures at c.in_ok-write_uleb128.ensures.ok))
    (Puts-then {T = Unit {0}} c.write_register.result (g.W.Writer.meaning c.write_uleb128.new.self) (g.W.Writer.meaning c.write_sleb128.new.self) (g.W.Writer.meaning c.write_register.new.w) (free (bytes (sleb c.args.self.now.data_alignment_factor))) ((register_part c.args.kind c.args.self.now.encoding.version c.args.self.now.return_address_register.0)) (bytes_written (rw (c.from-2.ensures, factor, factor64) at c.in_ok-write_sleb128.ensures.ok))
    (c.write_register.ensures))
