use Rattle.std.specs.Prelude.{Err}
use Rattle.std.proofs.lemmas.Result.{err_from_is_err_and}
use Rattle.dw_frame.specs.Parts.{free, in_turn}
use Rattle.dw_frame.proofs.PartSteps.{Puts-then, Puts-first}
use Rattle.dw_frame.specs.Cies.{encoding_if, personality_part, byte_if, has_encoding}
use Rattle.dw_frame.proofs.cie.CommonInformationEntry.write_data.Goals as goal

pub returns-in_err-write_personality : goal.returns-in_err-write_personality
returns-in_err-write_personality g c =
    let e = c.in_err-write_personality.field-0.0 in
    let p = err_from_is_err_and c.from_residual-in_err-write_personality.result c.from_residual-in_err-write_personality.ensures.1 in
    rw (p.1, p.2) (Puts-then {T = Unit {0}} (Err e) (g.W.Writer.meaning c.args.w.now) (g.W.Writer.meaning c.write_encoding.new.w) (g.W.Writer.meaning c.write_personality.new.w) (free (encoding_if c.args.self.now.lsda_encoding)) (in_turn (personality_part c.args.self.now.encoding.address_size c.args.self.now.personality) ((free (byte_if (has_encoding c.args.self.now) c.args.self.now.fde_address_encoding.0)))) c.in_ok-write_encoding.ensures
    (Puts-first (Unit {0}) (g.W.Writer.meaning c.write_encoding.new.w) (g.W.Writer.meaning c.write_personality.new.w) (personality_part c.args.self.now.encoding.address_size c.args.self.now.personality) ((free (byte_if (has_encoding c.args.self.now) c.args.self.now.fde_address_encoding.0))) e c.in_err-write_personality.ensures))

pub returns : goal.returns
returns g c =
    Puts-then {T = Unit {0}} c.write_byte_if.result (g.W.Writer.meaning c.args.w.now) (g.W.Writer.meaning c.write_encoding.new.w) (g.W.Writer.meaning c.write_byte_if.new.w) (free (encoding_if c.args.self.now.lsda_encoding)) (in_turn (personality_part c.args.self.now.encoding.address_size c.args.self.now.personality) ((free (byte_if (has_encoding c.args.self.now) c.args.self.now.fde_address_encoding.0)))) c.in_ok-write_encoding.ensures
    (Puts-then {T = Unit {0}} c.write_byte_if.result (g.W.Writer.meaning c.write_encoding.new.w) (g.W.Writer.meaning c.write_personality.new.w) (g.W.Writer.meaning c.write_byte_if.new.w) (personality_part c.args.self.now.encoding.address_size c.args.self.now.personality) ((free (byte_if (has_encoding c.args.self.now) c.args.self.now.fde_address_encoding.0))) c.in_ok-write_personality.ensures
    ((rw c.has_encoding.ensures at c.write_byte_if.ensures)))
