use Rattle.std.specs.Prelude.{true}
use Rattle.std.proofs.Common.{◌≡◌, refl, to_z, of_z, w64}
use Rattle.std.proofs.Math.Facts.{to_z-of_z}
use Rattle.dw_writer.specs.Causes.{BytesRefused}
use Rattle.dw_writer.proofs.Outcomes.{IfErr-exit}
use Rattle.dw_writer.proofs.Refusals.{NumberRefused-exit, NumberRefused-bytes}
use Rattle.dw_writer.proofs.Parts.{AddsSomeWith-none}
use Rattle.dw_writer.proofs.Relocating.{pointer_added, pointer_zeros-are, pointer_record-is, symbol-fits, RecordRefused-none, RecordRefused-some, AddsWith-is, AddsSomeWith-is}
use Rattle.dw_writer.proofs.relocate.AnyWriter.write_symbol_pointer.Goals as goal

pub returns-in_err-width-clause-err : goal.returns-in_err-width-clause-err
returns-in_err-width-clause-err g c =
    let h = c.in_err-width.ensures in
    IfErr-exit c.from_residual.result _ c.from_residual.ensures.1 (RecordRefused-none c.args.size c.args.eh_pe.0 (g.T.Writer.Writer.meaning (g.T.RelocateWriter.inner c.args.self.now)).size c.args.symbol c.args.addend (BytesRefused (g.T.Writer.Writer.meaning (g.T.RelocateWriter.inner c.args.self.now)) (g.T.Writer.Writer.meaning (g.T.RelocateWriter.inner c.args.self.now))) _ h.0 h.1)

pub returns-in_err-width-clause-partly : goal.returns-in_err-width-clause-partly
returns-in_err-width-clause-partly g c = AddsSomeWith-none _ _ _

pub returns-in_err-check_width-clause-err : goal.returns-in_err-check_width-clause-err
returns-in_err-check_width-clause-err g c =
    RecordRefused-some c.from_residual-in_err-check_width.result c.args.size c.args.eh_pe.0 (g.T.Writer.Writer.meaning (g.T.RelocateWriter.inner c.args.self.now)).size c.args.symbol c.in_ok-width.width c.args.addend (BytesRefused (g.T.Writer.Writer.meaning (g.T.RelocateWriter.inner c.args.self.now)) (g.T.Writer.Writer.meaning (g.T.RelocateWriter.inner c.args.self.now))) c.in_ok-width.ensures
    (NumberRefused-exit c.from_residual-in_err-check_width.result c.in_ok-width.width true (BytesRefused (g.T.Writer.Writer.meaning (g.T.RelocateWriter.inner c.args.self.now)) (g.T.Writer.Writer.meaning (g.T.RelocateWriter.inner c.args.self.now))) _ c.from_residual-in_err-check_width.ensures.1 c.in_err-check_width.ensures.err)

pub returns-in_err-check_width-clause-partly : goal.returns-in_err-check_width-clause-partly
returns-in_err-check_width-clause-partly g c = AddsSomeWith-none _ _ _

pub returns-clause-fits : goal.returns-clause-fits
returns-clause-fits g c =
    symbol-fits c.add_relocated.result (g.T.Writer.Writer.meaning (g.T.RelocateWriter.inner c.args.self.now)).is_big c.args.size c.args.eh_pe.0 (g.T.Writer.Writer.meaning (g.T.RelocateWriter.inner c.args.self.now)).size c.args.symbol c.in_ok-width.width c.args.addend c.in_ok-width.ensures c.in_ok-check_width.ensures.width

pub returns-clause-ok : goal.returns-clause-ok
returns-clause-ok g c =
    let value : to_z w64 (of_z w64 c.args.addend) ≡ c.args.addend = to_z-of_z {w = w64} c.ranges.addend in
    let width = c.in_ok-width.ensures in
    let is = c.in_ok-check_width.ensures.width in
    pointer_added c.add_relocated.result _ _ c.args.size c.in_ok-width.width c.args.symbol c.args.eh_pe c.args.addend _ c.add_relocated.ensures.ok value is width

pub returns-clause-err : goal.returns-clause-err
returns-clause-err g c =
    RecordRefused-some c.add_relocated.result c.args.size c.args.eh_pe.0 (g.T.Writer.Writer.meaning (g.T.RelocateWriter.inner c.args.self.now)).size c.args.symbol c.in_ok-width.width c.args.addend (BytesRefused (g.T.Writer.Writer.meaning (g.T.RelocateWriter.inner c.args.self.now)) (g.T.Writer.Writer.meaning (g.T.RelocateWriter.inner c.add_relocated.new.w))) c.in_ok-width.ensures
    (NumberRefused-bytes c.add_relocated.result c.in_ok-width.width true c.add_relocated.ensures.same c.in_ok-check_width.ensures.width refl c.add_relocated.ensures.err)

pub returns-clause-raw : goal.returns-clause-raw
returns-clause-raw g c =
    let value : to_z w64 (of_z w64 c.args.addend) ≡ c.args.addend = to_z-of_z {w = w64} c.ranges.addend in
    let width = c.in_ok-width.ensures in
    let is = c.in_ok-check_width.ensures.width in
    AddsWith-is c.add_relocated.result _ _ _ _ _ _ c.add_relocated.ensures.ok (pointer_zeros-are c.args.size (g.T.Writer.Writer.meaning (g.T.RelocateWriter.inner c.args.self.now)).size c.in_ok-width.width c.args.symbol (g.T.Writer.Writer.meaning (g.T.RelocateWriter.inner c.args.self.now)).is_big c.args.eh_pe c.args.addend is width) (pointer_record-is c.args.size (g.T.Writer.Writer.meaning (g.T.RelocateWriter.inner c.args.self.now)).size c.in_ok-width.width c.args.symbol c.args.eh_pe c.args.addend _ value width)

pub returns-clause-partly : goal.returns-clause-partly
returns-clause-partly g c =
    let value : to_z w64 (of_z w64 c.args.addend) ≡ c.args.addend = to_z-of_z {w = w64} c.ranges.addend in
    let width = c.in_ok-width.ensures in
    let is = c.in_ok-check_width.ensures.width in
    AddsSomeWith-is _ _ _ _ _ _ c.add_relocated.ensures.partly (pointer_zeros-are c.args.size (g.T.Writer.Writer.meaning (g.T.RelocateWriter.inner c.args.self.now)).size c.in_ok-width.width c.args.symbol (g.T.Writer.Writer.meaning (g.T.RelocateWriter.inner c.args.self.now)).is_big c.args.eh_pe c.args.addend is width) (pointer_record-is c.args.size (g.T.Writer.Writer.meaning (g.T.RelocateWriter.inner c.args.self.now)).size c.in_ok-width.width c.args.symbol c.args.eh_pe c.args.addend _ value width)
