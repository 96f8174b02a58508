use Rattle.std.specs.Prelude.{OnOk, IfErr, [], true}
use Rattle.std.proofs.Common.{◌≡◌, refl, ap, rules, to_z, of_z, w64}
use Rattle.dw_base.specs.Numbers.{fits}
use Rattle.dw_base.specs.declared.address.Address.TheVariants.{Constant}
use Rattle.dw_writer.specs.Causes.{BytesRefused, NumberRefused}
use Rattle.dw_writer.specs.Meaning.{IsSameWriter, AddsWith, AddsSomeWith, Appends, spelled_num}
use Rattle.dw_writer.specs.SectionTexts.{address_text}
use Rattle.dw_writer.specs.Relocating.{record_at}
use Rattle.dw_writer.specs.declared.relocate.RelocationTarget.TheVariants as to
use Rattle.dw_writer.proofs.Outcomes.{OnOk-always, OnOk-map}
use Rattle.dw_writer.proofs.Refusals.{NumberRefused-exit, NumberRefused-bytes}
use Rattle.dw_writer.proofs.Plain.{constant-fits}
use Rattle.dw_writer.proofs.Parts.{AddsSomeWith-none, Adds-number_with}
use Rattle.dw_writer.proofs.Relocating.{behind, relocated, relocated_same, constant_added, constant_either, symbol_added, symbol_zeros-are, AddsWith-is, AddsSomeWith-is}
use Rattle.dw_writer.proofs.relocate.AnyWriter.write_address.Goals as goal

pub returns-in_err-check_width-in-Symbol-clause-err : goal.returns-in_err-check_width-in-Symbol-clause-err
returns-in_err-check_width-in-Symbol-clause-err g c =
    rw c.in-Symbol.is (NumberRefused-exit c.from_residual.result c.args.size true (BytesRefused (g.T.Writer.Writer.meaning (g.T.RelocateWriter.inner c.args.self.now)) (g.T.Writer.Writer.meaning (g.T.RelocateWriter.inner c.args.self.now))) _ c.from_residual.ensures.1 c.in_err-check_width-in-Symbol.ensures.err)

pub returns-in_err-check_width-in-Symbol-clause-partly : goal.returns-in_err-check_width-in-Symbol-clause-partly
returns-in_err-check_width-in-Symbol-clause-partly g c = AddsSomeWith-none _ _ _

pub returns-in-Constant-clause-fits : goal.returns-in-Constant-clause-fits
returns-in-Constant-clause-fits g c = rw c.in-Constant.is (constant-fits c.write_udata.result c.args.size c.in-Constant.val c.write_udata.ensures.fits)

pub returns-in-Constant-clause-ok : goal.returns-in-Constant-clause-ok
returns-in-Constant-clause-ok g c =
    let laws = g.met.T.RelocateWriter in
    let inner_is = laws.inner_with c.args.self.now c.write_udata.new.self in
    let relocations_are = laws.relocations_with c.args.self.now c.write_udata.new.self in
    rw c.in-Constant.is
    (behind g.T.Writer.Writer.meaning (λ a b. OnOk c.write_udata.result (Appends a b c.args.size (address_text c.args.size (Constant c.in-Constant.val)))) (g.T.RelocateWriter.relocations c.args.self.now) c.writer_mut.ensures.value inner_is relocations_are
    (constant_added c.write_udata.result _ _ (g.T.RelocateWriter.relocations c.args.self.now) (g.T.RelocateWriter.relocations c.args.self.now) c.args.size c.in-Constant.val c.write_udata.ensures.ok refl c.write_udata.ensures.fits))

pub returns-in-Constant-clause-err : goal.returns-in-Constant-clause-err
returns-in-Constant-clause-err g c =
    let laws = g.met.T.RelocateWriter in
    let inner_is = laws.inner_with c.args.self.now c.write_udata.new.self in
    let relocations_are = laws.relocations_with c.args.self.now c.write_udata.new.self in
    rw c.in-Constant.is
    (behind g.T.Writer.Writer.meaning (λ a b. IfErr c.write_udata.result (NumberRefused c.args.size (fits c.args.size c.in-Constant.val) (BytesRefused a b))) (g.T.RelocateWriter.relocations c.args.self.now) c.writer_mut.ensures.value inner_is relocations_are
    (c.write_udata.ensures.err))

pub returns-in-Constant-clause-raw : goal.returns-in-Constant-clause-raw
returns-in-Constant-clause-raw g c =
    let laws = g.met.T.RelocateWriter in
    let inner_is = laws.inner_with c.args.self.now c.write_udata.new.self in
    let relocations_are = laws.relocations_with c.args.self.now c.write_udata.new.self in
    rw c.in-Constant.is
    (behind g.T.Writer.Writer.meaning (λ a b. OnOk c.write_udata.result (AddsWith a b (spelled_num a.is_big c.args.size c.in-Constant.val) [])) (g.T.RelocateWriter.relocations c.args.self.now) c.writer_mut.ensures.value inner_is relocations_are
    (Adds-number_with c.write_udata.result _ _ c.args.size c.in-Constant.val (OnOk-map c.write_udata.result c.write_udata.ensures.ok (relocated _ _ (g.T.RelocateWriter.relocations c.args.self.now) _)) c.write_udata.ensures.fits))

pub returns-in-Constant-clause-partly : goal.returns-in-Constant-clause-partly
returns-in-Constant-clause-partly g c =
    let laws = g.met.T.RelocateWriter in
    let inner_is = laws.inner_with c.args.self.now c.write_udata.new.self in
    let relocations_are = laws.relocations_with c.args.self.now c.write_udata.new.self in
    rw c.in-Constant.is
    (behind g.T.Writer.Writer.meaning (λ a b. AddsSomeWith a b (spelled_num a.is_big c.args.size c.in-Constant.val) []) (g.T.RelocateWriter.relocations c.args.self.now) c.writer_mut.ensures.value inner_is relocations_are
    (constant_either c.write_udata.result _ _ (g.T.RelocateWriter.relocations c.args.self.now) (g.T.RelocateWriter.relocations c.args.self.now) c.args.size c.in-Constant.val c.write_udata.ensures.ok c.write_udata.ensures.partly refl c.write_udata.ensures.fits))

pub returns-in-Constant-clause-same : goal.returns-in-Constant-clause-same
returns-in-Constant-clause-same g c =
    let laws = g.met.T.RelocateWriter in
    let inner_is = laws.inner_with c.args.self.now c.write_udata.new.self in
    let relocations_are = laws.relocations_with c.args.self.now c.write_udata.new.self in
    behind g.T.Writer.Writer.meaning (λ a b. IsSameWriter a b) (g.T.RelocateWriter.relocations c.args.self.now) c.writer_mut.ensures.value inner_is relocations_are
    (relocated_same _ _ (g.T.RelocateWriter.relocations c.args.self.now) (g.T.RelocateWriter.relocations c.args.self.now) c.write_udata.ensures.same)

pub returns-in_ok-check_width-in-Symbol-clause-fits : goal.returns-in_ok-check_width-in-Symbol-clause-fits
returns-in_ok-check_width-in-Symbol-clause-fits g c = rw c.in-Symbol.is (OnOk-always c.add_relocated.result c.in_ok-check_width-in-Symbol.ensures.width)

pub returns-in_ok-check_width-in-Symbol-clause-ok : goal.returns-in_ok-check_width-in-Symbol-clause-ok
returns-in_ok-check_width-in-Symbol-clause-ok g c =
    let value : to_z w64 (of_z w64 c.in-Symbol.addend) ≡ c.in-Symbol.addend = search rules in
    let width = c.in_ok-check_width-in-Symbol.ensures.width in
    rw c.in-Symbol.is
    (symbol_added c.add_relocated.result _ _ c.args.size c.in-Symbol.symbol c.in-Symbol.addend _ c.add_relocated.ensures.ok value width)

pub returns-in_ok-check_width-in-Symbol-clause-err : goal.returns-in_ok-check_width-in-Symbol-clause-err
returns-in_ok-check_width-in-Symbol-clause-err g c =
    rw c.in-Symbol.is (NumberRefused-bytes c.add_relocated.result c.args.size true c.add_relocated.ensures.same c.in_ok-check_width-in-Symbol.ensures.width refl c.add_relocated.ensures.err)

pub returns-in_ok-check_width-in-Symbol-clause-raw : goal.returns-in_ok-check_width-in-Symbol-clause-raw
returns-in_ok-check_width-in-Symbol-clause-raw g c =
    let value : to_z w64 (of_z w64 c.in-Symbol.addend) ≡ c.in-Symbol.addend = search rules in
    let width = c.in_ok-check_width-in-Symbol.ensures.width in
    rw c.in-Symbol.is (AddsWith-is c.add_relocated.result _ _ _ _ _ _ c.add_relocated.ensures.ok (symbol_zeros-are (g.T.Writer.Writer.meaning (g.T.RelocateWriter.inner c.args.self.now)).is_big c.args.size c.in-Symbol.symbol c.in-Symbol.addend width) (ap (record_at (g.T.Writer.Writer.meaning (g.T.RelocateWriter.inner c.args.self.now)).size c.args.size (to.Symbol c.in-Symbol.symbol)) value))

pub returns-in_ok-check_width-in-Symbol-clause-partly : goal.returns-in_ok-check_width-in-Symbol-clause-partly
returns-in_ok-check_width-in-Symbol-clause-partly g c =
    let value : to_z w64 (of_z w64 c.in-Symbol.addend) ≡ c.in-Symbol.addend = search rules in
    let width = c.in_ok-check_width-in-Symbol.ensures.width in
    rw c.in-Symbol.is (AddsSomeWith-is _ _ _ _ _ _ c.add_relocated.ensures.partly (symbol_zeros-are (g.T.Writer.Writer.meaning (g.T.RelocateWriter.inner c.args.self.now)).is_big c.args.size c.in-Symbol.symbol c.in-Symbol.addend width) (ap (record_at (g.T.Writer.Writer.meaning (g.T.RelocateWriter.inner c.args.self.now)).size c.args.size (to.Symbol c.in-Symbol.symbol)) value))
