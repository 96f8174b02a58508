use Rattle.std.specs.Prelude.{Err}
use Rattle.std.proofs.lemmas.Result.{err_from_is_err_and}
use Rattle.dw_frame.specs.Parts.{free, in_turn}
use Rattle.dw_frame_instructions.proofs.Steps.{bytes_written}
use Rattle.dw_frame.proofs.PartSteps.{Puts-then, Puts-first}
use Rattle.dw_frame_instructions.specs.Pieces.{bytes}
use Rattle.dw_frame.specs.Cies.{cie_id, version_part, letters, sizes}
use Rattle.dw_frame.proofs.cie.CommonInformationEntry.write_head.Goals as goal

pub returns-in_err-write_version : goal.returns-in_err-write_version
returns-in_err-write_version g c =
    let e = c.in_err-write_version.field-0.0 in
    let p = err_from_is_err_and c.from_residual-in_err-write_version.result c.from_residual-in_err-write_version.ensures.1 in
    rw (p.1, p.2) (Puts-then {T = Unit {0}} (Err e) (g.W.Writer.meaning c.args.w.now) (g.W.Writer.meaning c.write.new.self) (g.W.Writer.meaning c.write_version.new.w) (free (bytes (cie_id c.args.kind c.args.self.now.encoding.format))) (in_turn (version_part c.args.kind c.args.self.now.encoding.version) (in_turn (free (letters c.args.self.now)) ((free (sizes c.args.self.now.encoding.version c.args.self.now.encoding.address_size))))) (bytes_written (rw c.cie_id.ensures at c.in_ok-write.ensures.ok))
    (Puts-first (Unit {0}) (g.W.Writer.meaning c.write.new.self) (g.W.Writer.meaning c.write_version.new.w) (version_part c.args.kind c.args.self.now.encoding.version) (in_turn (free (letters c.args.self.now)) ((free (sizes c.args.self.now.encoding.version c.args.self.now.encoding.address_size)))) e c.in_err-write_version.ensures))

pub returns : goal.returns
returns g c =
    Puts-then {T = Unit {0}} c.write_sizes.result (g.W.Writer.meaning c.args.w.now) (g.W.Writer.meaning c.write.new.self) (g.W.Writer.meaning c.write_sizes.new.w) (free (bytes (cie_id c.args.kind c.args.self.now.encoding.format))) (in_turn (version_part c.args.kind c.args.self.now.encoding.version) (in_turn (free (letters c.args.self.now)) ((free (sizes c.args.self.now.encoding.version c.args.self.now.encoding.address_size))))) (bytes_written (rw c.cie_id.ensures at c.in_ok-write.ensures.ok))
    (Puts-then {T = Unit {0}} c.write_sizes.result (g.W.Writer.meaning c.write.new.self) (g.W.Writer.meaning c.write_version.new.w) (g.W.Writer.meaning c.write_sizes.new.w) (version_part c.args.kind c.args.self.now.encoding.version) (in_turn (free (letters c.args.self.now)) ((free (sizes c.args.self.now.encoding.version c.args.self.now.encoding.address_size)))) c.in_ok-write_version.ensures
    (Puts-then {T = Unit {0}} c.write_sizes.result (g.W.Writer.meaning c.write_version.new.w) (g.W.Writer.meaning c.write_letters.new.w) (g.W.Writer.meaning c.write_sizes.new.w) (free (letters c.args.self.now)) ((free (sizes c.args.self.now.encoding.version c.args.self.now.encoding.address_size))) c.in_ok-write_letters.ensures
    (c.write_sizes.ensures)))
