use Rattle.std.proofs.Common.{◌≡◌, ◌∙◌, rules, to_z, of_z, w64}
use Rattle.dw_writer.proofs.Parts.{AddsSomeWith-none}
use Rattle.dw_writer.proofs.PointerSteps.{format-and, PointerRefused-none, PointerRefused-some, pointer_fits-constant, pointer_ok-constant, pointer_raw-constant, pointer_partly-constant}
use Rattle.dw_base.specs.declared.address.Address.TheVariants.{Constant}
use Rattle.dw_writer.specs.Causes.{BytesRefused, PointerRefused}
use Rattle.dw_writer.proofs.Outcomes.{IfErr-exit}
use Rattle.dw_writer.proofs.writer.Writer.write_eh_pointer.Goals as goal

pub returns-in_err-number-in-Constant-clause-partly : goal.returns-in_err-number-in-Constant-clause-partly
returns-in_err-number-in-Constant-clause-partly g c = AddsSomeWith-none _ _ _

pub returns-in_ok-number-in-Constant-clause-fits : goal.returns-in_ok-number-in-Constant-clause-fits
returns-in_ok-number-in-Constant-clause-fits g c =
    let counts = rw c.len.ensures at c.in_ok-number-in-Constant.ensures in
    let format = c.format.ensures ∙ format-and c.args.eh_pe.0 in
    let w = c.write_eh_pointer_data in
    rw c.in-Constant.is
    (pointer_fits-constant w.result (g.Self.Writer.meaning c.args.self.now).is_plain (g.Self.Writer.meaning c.args.self.now).is_big c.args.size c.args.eh_pe.0 _ (g.Self.Writer.meaning c.args.self.now).size c.in-Constant.val _ w.ensures.fits format counts)

pub returns-in_ok-number-in-Constant-clause-ok : goal.returns-in_ok-number-in-Constant-clause-ok
returns-in_ok-number-in-Constant-clause-ok g c =
    let counts = rw c.len.ensures at c.in_ok-number-in-Constant.ensures in
    let format = c.format.ensures ∙ format-and c.args.eh_pe.0 in
    let w = c.write_eh_pointer_data in
    rw c.in-Constant.is
    (pointer_ok-constant w.result _ _ c.args.size c.args.eh_pe.0 c.format.result.0 c.in-Constant.val c.in_ok-number-in-Constant.number w.ensures.ok w.ensures.fits format counts)

pub returns-in_ok-number-in-Constant-clause-raw : goal.returns-in_ok-number-in-Constant-clause-raw
returns-in_ok-number-in-Constant-clause-raw g c =
    let counts = rw c.len.ensures at c.in_ok-number-in-Constant.ensures in
    let format = c.format.ensures ∙ format-and c.args.eh_pe.0 in
    let w = c.write_eh_pointer_data in
    rw c.in-Constant.is
    (pointer_raw-constant w.result _ _ c.args.size c.format.result.0 c.in-Constant.val c.in_ok-number-in-Constant.number c.args.eh_pe w.ensures.ok format counts)

pub returns-in_ok-number-in-Constant-clause-partly : goal.returns-in_ok-number-in-Constant-clause-partly
returns-in_ok-number-in-Constant-clause-partly g c =
    let counts = rw c.len.ensures at c.in_ok-number-in-Constant.ensures in
    let format = c.format.ensures ∙ format-and c.args.eh_pe.0 in
    let w = c.write_eh_pointer_data in
    rw c.in-Constant.is
    (pointer_partly-constant w.result _ _ c.args.size c.format.result.0 c.in-Constant.val c.in_ok-number-in-Constant.number c.args.eh_pe w.ensures.ok w.ensures.partly format counts)

pub returns-in_err-number-in-Constant-clause-err : goal.returns-in_err-number-in-Constant-clause-err
returns-in_err-number-in-Constant-clause-err g c =
    let m = g.Self.Writer.meaning c.args.self.now in
    let h = c.in_err-number-in-Constant.ensures in
    let counts = rw c.len.ensures at h.1 in
    rw c.in-Constant.is
    (IfErr-exit c.from_residual.result (PointerRefused m.is_plain c.args.size c.args.eh_pe.0 m.size (Constant c.in-Constant.val) (BytesRefused m m)) c.from_residual.ensures.1
    (PointerRefused-none m.is_plain c.args.size c.args.eh_pe.0 m.size c.in-Constant.val (BytesRefused m m) _ h.0 counts))

pub returns-in_ok-number-in-Constant-clause-err : goal.returns-in_ok-number-in-Constant-clause-err
returns-in_ok-number-in-Constant-clause-err g c =
    let m = g.Self.Writer.meaning c.args.self.now in
    let counts = rw c.len.ensures at c.in_ok-number-in-Constant.ensures in
    let format = c.format.ensures ∙ format-and c.args.eh_pe.0 in
    let w = c.write_eh_pointer_data in
    rw c.in-Constant.is
    (PointerRefused-some w.result m.is_plain c.args.size c.args.eh_pe.0 c.format.result.0 m.size c.in-Constant.val c.in_ok-number-in-Constant.number (BytesRefused m (g.Self.Writer.meaning c.write_eh_pointer_data.new.self)) w.ensures.err format counts)

pub returns-in-Symbol-clause-fits : goal.returns-in-Symbol-clause-fits
returns-in-Symbol-clause-fits g c =
    let value : to_z w64 (of_z w64 c.in-Symbol.addend) ≡ c.in-Symbol.addend = search rules in
    rw c.in-Symbol.is (rw value at c.write_symbol_pointer.ensures.fits)

pub returns-in-Symbol-clause-ok : goal.returns-in-Symbol-clause-ok
returns-in-Symbol-clause-ok g c =
    let value : to_z w64 (of_z w64 c.in-Symbol.addend) ≡ c.in-Symbol.addend = search rules in
    rw c.in-Symbol.is (rw value at c.write_symbol_pointer.ensures.ok)

pub returns-in-Symbol-clause-err : goal.returns-in-Symbol-clause-err
returns-in-Symbol-clause-err g c =
    let value : to_z w64 (of_z w64 c.in-Symbol.addend) ≡ c.in-Symbol.addend = search rules in
    rw c.in-Symbol.is (rw value at c.write_symbol_pointer.ensures.err)

pub returns-in-Symbol-clause-raw : goal.returns-in-Symbol-clause-raw
returns-in-Symbol-clause-raw g c =
    let value : to_z w64 (of_z w64 c.in-Symbol.addend) ≡ c.in-Symbol.addend = search rules in
    rw c.in-Symbol.is (rw value at c.write_symbol_pointer.ensures.raw)

pub returns-in-Symbol-clause-partly : goal.returns-in-Symbol-clause-partly
returns-in-Symbol-clause-partly g c =
    let value : to_z w64 (of_z w64 c.in-Symbol.addend) ≡ c.in-Symbol.addend = search rules in
    rw c.in-Symbol.is (rw value at c.write_symbol_pointer.ensures.partly)
