use Rattle.std.proofs.Common.{◌≡◌, rules, to_z, of_z, w8}
use Rattle.std.specs.Prelude.{Err}
use Rattle.std.proofs.lemmas.Result.{err_from_is_err_and}
use Rattle.dw_frame.specs.Parts.{in_turn, only_if}
use Rattle.dw_frame.proofs.PartSteps.{Puts-then, Puts-first}
use Rattle.dw_frame.specs.Entries.{counted}
use Rattle.dw_frame.specs.Cies.{is_augmented}
use Rattle.dw_frame.specs.Fdes.{cie_pointer, range_part, lsda_part, instructions}
use Rattle.dw_frame.proofs.fde.FrameDescriptionEntry.write_contents.Goals as goal

pub returns-in_err-write_cie_pointer : goal.returns-in_err-write_cie_pointer
returns-in_err-write_cie_pointer g c =
    let e = c.in_err-write_cie_pointer.field-0.0 in
    let p = err_from_is_err_and c.from_residual.result c.from_residual.ensures.1 in
    rw (p.1, p.2) (Puts-first (Unit {0}) (g.W.Writer.meaning c.args.w.now) (g.W.Writer.meaning c.write_cie_pointer.new.w) (cie_pointer c.args.kind c.args.cie.now.encoding.format c.args.cie_at) (in_turn (range_part c.args.cie.now c.args.self.now) (in_turn (only_if (is_augmented c.args.cie.now) (counted (lsda_part c.args.cie.now.encoding.address_size c.args.cie.now.lsda_encoding c.args.self.now.lsda))) ((instructions c.args.cie.now c.args.self.now)))) e c.in_err-write_cie_pointer.ensures)

pub returns-in_err-write_range : goal.returns-in_err-write_range
returns-in_err-write_range g c =
    let e = c.in_err-write_range.field-0.0 in
    let p = err_from_is_err_and c.from_residual-in_err-write_range.result c.from_residual-in_err-write_range.ensures.1 in
    rw (p.1, p.2) (Puts-then {T = Unit {0}} (Err e) (g.W.Writer.meaning c.args.w.now) (g.W.Writer.meaning c.write_cie_pointer.new.w) (g.W.Writer.meaning c.write_range.new.w) (cie_pointer c.args.kind c.args.cie.now.encoding.format c.args.cie_at) (in_turn (range_part c.args.cie.now c.args.self.now) (in_turn (only_if (is_augmented c.args.cie.now) (counted (lsda_part c.args.cie.now.encoding.address_size c.args.cie.now.lsda_encoding c.args.self.now.lsda))) ((instructions c.args.cie.now c.args.self.now)))) c.in_ok-write_cie_pointer.ensures
    (Puts-first (Unit {0}) (g.W.Writer.meaning c.write_cie_pointer.new.w) (g.W.Writer.meaning c.write_range.new.w) (range_part c.args.cie.now c.args.self.now) (in_turn (only_if (is_augmented c.args.cie.now) (counted (lsda_part c.args.cie.now.encoding.address_size c.args.cie.now.lsda_encoding c.args.self.now.lsda))) ((instructions c.args.cie.now c.args.self.now))) e c.in_err-write_range.ensures))

pub returns-in_err-write_block : goal.returns-in_err-write_block
returns-in_err-write_block g c =
    let e = c.in_err-write_block.field-0.0 in
    let p = err_from_is_err_and c.from_residual-in_err-write_block.result c.from_residual-in_err-write_block.ensures.1 in
    rw (p.1, p.2) (Puts-then {T = Unit {0}} (Err e) (g.W.Writer.meaning c.args.w.now) (g.W.Writer.meaning c.write_cie_pointer.new.w) (g.W.Writer.meaning c.write_block.new.w) (cie_pointer c.args.kind c.args.cie.now.encoding.format c.args.cie_at) (in_turn (range_part c.args.cie.now c.args.self.now) (in_turn (only_if (is_augmented c.args.cie.now) (counted (lsda_part c.args.cie.now.encoding.address_size c.args.cie.now.lsda_encoding c.args.self.now.lsda))) ((instructions c.args.cie.now c.args.self.now)))) c.in_ok-write_cie_pointer.ensures
    (Puts-then {T = Unit {0}} (Err e) (g.W.Writer.meaning c.write_cie_pointer.new.w) (g.W.Writer.meaning c.write_range.new.w) (g.W.Writer.meaning c.write_block.new.w) (range_part c.args.cie.now c.args.self.now) (in_turn (only_if (is_augmented c.args.cie.now) (counted (lsda_part c.args.cie.now.encoding.address_size c.args.cie.now.lsda_encoding c.args.self.now.lsda))) ((instructions c.args.cie.now c.args.self.now))) c.in_ok-write_range.ensures
    (Puts-first (Unit {0}) (g.W.Writer.meaning c.write_range.new.w) (g.W.Writer.meaning c.write_block.new.w) (only_if (is_augmented c.args.cie.now) (counted (lsda_part c.args.cie.now.encoding.address_size c.args.cie.now.lsda_encoding c.args.self.now.lsda))) ((instructions c.args.cie.now c.args.self.now)) e c.in_err-write_block.ensures)))

pub returns : goal.returns
returns g c =
    let factor : to_z w8 (of_z w8 c.args.cie.now.data_alignment_factor) ≡ c.args.cie.now.data_alignment_factor = search rules in
    Puts-then {T = Unit {0}} c.write_steps.result (g.W.Writer.meaning c.args.w.now) (g.W.Writer.meaning c.write_cie_pointer.new.w) (g.W.Writer.meaning c.write_steps.new.w) (cie_pointer c.args.kind c.args.cie.now.encoding.format c.args.cie_at) (in_turn (range_part c.args.cie.now c.args.self.now) (in_turn (only_if (is_augmented c.args.cie.now) (counted (lsda_part c.args.cie.now.encoding.address_size c.args.cie.now.lsda_encoding c.args.self.now.lsda))) ((instructions c.args.cie.now c.args.self.now)))) c.in_ok-write_cie_pointer.ensures
    (Puts-then {T = Unit {0}} c.write_steps.result (g.W.Writer.meaning c.write_cie_pointer.new.w) (g.W.Writer.meaning c.write_range.new.w) (g.W.Writer.meaning c.write_steps.new.w) (range_part c.args.cie.now c.args.self.now) (in_turn (only_if (is_augmented c.args.cie.now) (counted (lsda_part c.args.cie.now.encoding.address_size c.args.cie.now.lsda_encoding c.args.self.now.lsda))) ((instructions c.args.cie.now c.args.self.now))) c.in_ok-write_range.ensures
    (Puts-then {T = Unit {0}} c.write_steps.result (g.W.Writer.meaning c.write_range.new.w) (g.W.Writer.meaning c.write_block.new.w) (g.W.Writer.meaning c.write_steps.new.w) (only_if (is_augmented c.args.cie.now) (counted (lsda_part c.args.cie.now.encoding.address_size c.args.cie.now.lsda_encoding c.args.self.now.lsda))) ((instructions c.args.cie.now c.args.self.now)) c.in_ok-write_block.ensures
    ((rw (factor, c.as_slice.ensures.value) at c.write_steps.ensures))))
