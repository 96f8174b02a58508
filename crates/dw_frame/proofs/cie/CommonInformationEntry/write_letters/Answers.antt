use Rattle.std.specs.Prelude.{[], ◌∷◌, is_some}
use Rattle.dw_frame_instructions.specs.Pieces.{bytes, both}
use Rattle.dw_frame_instructions.specs.Causes.{never}
use Rattle.dw_frame.specs.Cies.{byte_if, is_augmented, has_encoding}
use Rattle.dw_frame_instructions.proofs.Steps.{Writes-then, Writes-bytes}
use Rattle.dw_frame.proofs.cie.CommonInformationEntry.write_letters.Goals as goal

pub returns : goal.returns
returns g c =
    (Writes-then c.write.result (g.W.Writer.meaning c.args.w.now) (g.W.Writer.meaning c.write_byte_if.new.w) (g.W.Writer.meaning c.write.new.self) (byte_if (is_augmented c.args.self.now) 0x7a) (both (byte_if (is_some c.args.self.now.lsda_encoding) 0x4c) (both (byte_if (is_some c.args.self.now.personality) 0x50) (both (byte_if (has_encoding c.args.self.now) 0x52) (both (byte_if c.args.self.now.signal_trampoline 0x53) (bytes (0 ∷ [])))))) never never (rw c.is_augmented.ensures at c.in_ok-write_byte_if.ensures)
    (Writes-then c.write.result (g.W.Writer.meaning c.write_byte_if.new.w) (g.W.Writer.meaning c.write_byte_if-2.new.w) (g.W.Writer.meaning c.write.new.self) (byte_if (is_some c.args.self.now.lsda_encoding) 0x4c) (both (byte_if (is_some c.args.self.now.personality) 0x50) (both (byte_if (has_encoding c.args.self.now) 0x52) (both (byte_if c.args.self.now.signal_trampoline 0x53) (bytes (0 ∷ []))))) never never (rw c.is_some.ensures at c.in_ok-write_byte_if-2.ensures)
    (Writes-then c.write.result (g.W.Writer.meaning c.write_byte_if-2.new.w) (g.W.Writer.meaning c.write_byte_if-3.new.w) (g.W.Writer.meaning c.write.new.self) (byte_if (is_some c.args.self.now.personality) 0x50) (both (byte_if (has_encoding c.args.self.now) 0x52) (both (byte_if c.args.self.now.signal_trampoline 0x53) (bytes (0 ∷ [])))) never never (rw c.is_some-2.ensures at c.in_ok-write_byte_if-3.ensures)
    (Writes-then c.write.result (g.W.Writer.meaning c.write_byte_if-3.new.w) (g.W.Writer.meaning c.write_byte_if-4.new.w) (g.W.Writer.meaning c.write.new.self) (byte_if (has_encoding c.args.self.now) 0x52) (both (byte_if c.args.self.now.signal_trampoline 0x53) (bytes (0 ∷ []))) never never (rw c.has_encoding.ensures at c.in_ok-write_byte_if-4.ensures)
    (Writes-then c.write.result (g.W.Writer.meaning c.write_byte_if-4.new.w) (g.W.Writer.meaning c.write_byte_if-5.new.w) (g.W.Writer.meaning c.write.new.self) (byte_if c.args.self.now.signal_trampoline 0x53) (bytes (0 ∷ [])) never never c.in_ok-write_byte_if-5.ensures
    (Writes-bytes c.write.result (g.W.Writer.meaning c.write_byte_if-5.new.w) (g.W.Writer.meaning c.write.new.self) (0 ∷ []) c.write.ensures.ok c.write.ensures.err))))))
