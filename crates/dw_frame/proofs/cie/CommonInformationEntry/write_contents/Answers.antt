use Rattle.std.proofs.Common.{◌≡◌, rules, to_z, of_z, w8}
use Rattle.std.specs.Prelude.{Err}
use Rattle.std.proofs.lemmas.Result.{err_from_is_err_and}
use Rattle.dw_frame.specs.Parts.{in_turn, only_if}
use Rattle.dw_frame.proofs.PartSteps.{Puts-then, Puts-first}
use Rattle.dw_frame.specs.Entries.{counted}
use Rattle.dw_frame.specs.Cies.{cie_head, cie_measures, is_augmented, cie_data, first_instructions}
use Rattle.dw_frame.proofs.cie.CommonInformationEntry.write_contents.Goals as goal

pub returns-in_err-write_head : goal.returns-in_err-write_head
returns-in_err-write_head g c =
    let e = c.in_err-write_head.field-0.0 in
    let p = err_from_is_err_and c.from_residual.result c.from_residual.ensures.1 in
    rw (p.1, p.2) (Puts-first (Unit {0}) (g.W.Writer.meaning c.args.w.now) (g.W.Writer.meaning c.write_head.new.w) (cie_head c.args.kind c.args.self.now) (in_turn (cie_measures c.args.kind c.args.self.now) (in_turn (only_if (is_augmented c.args.self.now) (counted (cie_data c.args.self.now))) ((first_instructions c.args.self.now)))) e c.in_err-write_head.ensures)

pub returns-in_err-write_measures : goal.returns-in_err-write_measures
returns-in_err-write_measures g c =
    let e = c.in_err-write_measures.field-0.0 in
    let p = err_from_is_err_and c.from_residual-in_err-write_measures.result c.from_residual-in_err-write_measures.ensures.1 in
    rw (p.1, p.2) (Puts-then {T = Unit {0}} (Err e) (g.W.Writer.meaning c.args.w.now) (g.W.Writer.meaning c.write_head.new.w) (g.W.Writer.meaning c.write_measures.new.w) (cie_head c.args.kind c.args.self.now) (in_turn (cie_measures c.args.kind c.args.self.now) (in_turn (only_if (is_augmented c.args.self.now) (counted (cie_data c.args.self.now))) ((first_instructions c.args.self.now)))) c.in_ok-write_head.ensures
    (Puts-first (Unit {0}) (g.W.Writer.meaning c.write_head.new.w) (g.W.Writer.meaning c.write_measures.new.w) (cie_measures c.args.kind c.args.self.now) (in_turn (only_if (is_augmented c.args.self.now) (counted (cie_data c.args.self.now))) ((first_instructions c.args.self.now))) e c.in_err-write_measures.ensures))

pub returns-in_err-write_block : goal.returns-in_err-write_block
returns-in_err-write_block g c =
    let e = c.in_err-write_block.field-0.0 in
    let p = err_from_is_err_and c.from_residual-in_err-write_block.result c.from_residual-in_err-write_block.ensures.1 in
    rw (p.1, p.2) (Puts-then {T = Unit {0}} (Err e) (g.W.Writer.meaning c.args.w.now) (g.W.Writer.meaning c.write_head.new.w) (g.W.Writer.meaning c.write_block.new.w) (cie_head c.args.kind c.args.self.now) (in_turn (cie_measures c.args.kind c.args.self.now) (in_turn (only_if (is_augmented c.args.self.now) (counted (cie_data c.args.self.now))) ((first_instructions c.args.self.now)))) c.in_ok-write_head.ensures
    (Puts-then {T = Unit {0}} (Err e) (g.W.Writer.meaning c.write_head.new.w) (g.W.Writer.meaning c.write_measures.new.w) (g.W.Writer.meaning c.write_block.new.w) (cie_measures c.args.kind c.args.self.now) (in_turn (only_if (is_augmented c.args.self.now) (counted (cie_data c.args.self.now))) ((first_instructions c.args.self.now))) c.in_ok-write_measures.ensures
    (Puts-first (Unit {0}) (g.W.Writer.meaning c.write_measures.new.w) (g.W.Writer.meaning c.write_block.new.w) (only_if (is_augmented c.args.self.now) (counted (cie_data c.args.self.now))) ((first_instructions c.args.self.now)) e c.in_err-write_block.ensures)))

pub returns : goal.returns
returns g c =
    let factor : to_z w8 (of_z w8 c.args.self.now.data_alignment_factor) ≡ c.args.self.now.data_alignment_factor = search rules in
    Puts-then {T = Unit {0}} c.write_instructions.result (g.W.Writer.meaning c.args.w.now) (g.W.Writer.meaning c.write_head.new.w) (g.W.Writer.meaning c.write_instructions.new.w) (cie_head c.args.kind c.args.self.now) (in_turn (cie_measures c.args.kind c.args.self.now) (in_turn (only_if (is_augmented c.args.self.now) (counted (cie_data c.args.self.now))) ((first_instructions c.args.self.now)))) c.in_ok-write_head.ensures
    (Puts-then {T = Unit {0}} c.write_instructions.result (g.W.Writer.meaning c.write_head.new.w) (g.W.Writer.meaning c.write_measures.new.w) (g.W.Writer.meaning c.write_instructions.new.w) (cie_measures c.args.kind c.args.self.now) (in_turn (only_if (is_augmented c.args.self.now) (counted (cie_data c.args.self.now))) ((first_instructions c.args.self.now))) c.in_ok-write_measures.ensures
    (Puts-then {T = Unit {0}} c.write_instructions.result (g.W.Writer.meaning c.write_measures.new.w) (g.W.Writer.meaning c.write_block.new.w) (g.W.Writer.meaning c.write_instructions.new.w) (only_if (is_augmented c.args.self.now) (counted (cie_data c.args.self.now))) ((first_instructions c.args.self.now)) c.in_ok-write_block.ensures
    ((rw (factor, c.as_slice-instructions.ensures.value) at c.write_instructions.ensures))))
