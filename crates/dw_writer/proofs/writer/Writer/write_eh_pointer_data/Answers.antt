use Rattle.std.specs.Prelude.{Some}
use Rattle.std.proofs.Common.{◌≡◌, ◌∙◌, ap, rules, to_z, of_z, w64}
use Rattle.dw_base.specs.Pointers.{signed_of}
use Rattle.dw_base.specs.Leb128.{uleb, sleb}
use Rattle.dw_base.specs.Numbers.{num}
use Rattle.dw_writer.specs.SignedNumbers.{signed_num}
use Rattle.dw_writer.specs.Pointers.{data_text}
use Rattle.dw_writer.proofs.Parts.{OnErr-none}
use Rattle.dw_writer.proofs.PointerSteps.{DataRefused-none, DataRefused-by, data_ok, data_fits, data_partly, uleb_there, sleb_there, num_there, signed_there, uleb_spelling, sleb_spelling, num_spelling, signed_spelling}
use Rattle.dw_writer.specs.Causes.{BytesRefused, DataRefused}
use Rattle.dw_writer.specs.declared.pointer.PointerLayout.TheVariants.{Uleb128, Sleb128, Unsigned, Signed}
use Rattle.dw_writer.proofs.Outcomes.{IfErr-exit}
use Rattle.dw_writer.proofs.writer.Writer.write_eh_pointer_data.Goals as goal

pub returns-in_err-layout_of-clause-partly : goal.returns-in_err-layout_of-clause-partly
returns-in_err-layout_of-clause-partly g c = OnErr-none c.from_residual.result (g.Self.Writer.meaning c.args.self.now) _

pub returns-in-Uleb128-clause-fits : goal.returns-in-Uleb128-clause-fits
returns-in-Uleb128-clause-fits g c =
    let e = c.in_ok-layout_of.ensures ∙ ap Some c.in-Uleb128.is in
    data_fits c.write_uleb128.result (uleb c.args.val) _ (uleb_there c.write_uleb128.result (g.Self.Writer.meaning c.args.self.now).is_big c.args.size c.args.format.0 c.args.val e)

pub returns-in-Uleb128-clause-ok : goal.returns-in-Uleb128-clause-ok
returns-in-Uleb128-clause-ok g c =
    let e = c.in_ok-layout_of.ensures ∙ ap Some c.in-Uleb128.is in
    data_ok c.write_uleb128.result _ _ (uleb c.args.val) _ c.write_uleb128.ensures.ok (uleb_there c.write_uleb128.result (g.Self.Writer.meaning c.args.self.now).is_big c.args.size c.args.format.0 c.args.val e)

pub returns-in-Uleb128-clause-partly : goal.returns-in-Uleb128-clause-partly
returns-in-Uleb128-clause-partly g c =
    let e = c.in_ok-layout_of.ensures ∙ ap Some c.in-Uleb128.is in
    data_partly c.write_uleb128.result _ _ _ (data_text (g.Self.Writer.meaning c.args.self.now).is_big c.args.size c.args.format.0 c.args.val) c.write_uleb128.ensures.partly (uleb_spelling (g.Self.Writer.meaning c.args.self.now).is_big c.args.size c.args.format.0 c.args.val e)

pub returns-in-Sleb128-clause-fits : goal.returns-in-Sleb128-clause-fits
returns-in-Sleb128-clause-fits g c =
    let e = c.in_ok-layout_of.ensures ∙ ap Some c.in-Sleb128.is in
    let back : to_z w64 (of_z w64 c.cast_signed.result) ≡ c.cast_signed.result = search rules in
    let same : to_z w64 (of_z w64 c.cast_signed.result) ≡ signed_of c.args.val = back ∙ c.cast_signed.ensures in
    data_fits c.write_sleb128.result (sleb (signed_of c.args.val)) _ (sleb_there c.write_sleb128.result (g.Self.Writer.meaning c.args.self.now).is_big c.args.size c.args.format.0 c.args.val e)

pub returns-in-Sleb128-clause-ok : goal.returns-in-Sleb128-clause-ok
returns-in-Sleb128-clause-ok g c =
    let e = c.in_ok-layout_of.ensures ∙ ap Some c.in-Sleb128.is in
    let back : to_z w64 (of_z w64 c.cast_signed.result) ≡ c.cast_signed.result = search rules in
    let same : to_z w64 (of_z w64 c.cast_signed.result) ≡ signed_of c.args.val = back ∙ c.cast_signed.ensures in
    let did = rw same at c.write_sleb128.ensures.ok in
    data_ok c.write_sleb128.result _ _ (sleb (signed_of c.args.val)) _ did (sleb_there c.write_sleb128.result (g.Self.Writer.meaning c.args.self.now).is_big c.args.size c.args.format.0 c.args.val e)

pub returns-in-Sleb128-clause-partly : goal.returns-in-Sleb128-clause-partly
returns-in-Sleb128-clause-partly g c =
    let e = c.in_ok-layout_of.ensures ∙ ap Some c.in-Sleb128.is in
    let back : to_z w64 (of_z w64 c.cast_signed.result) ≡ c.cast_signed.result = search rules in
    let same : to_z w64 (of_z w64 c.cast_signed.result) ≡ signed_of c.args.val = back ∙ c.cast_signed.ensures in
    let did = rw same at c.write_sleb128.ensures.partly in
    data_partly c.write_sleb128.result _ _ _ (data_text (g.Self.Writer.meaning c.args.self.now).is_big c.args.size c.args.format.0 c.args.val) did (sleb_spelling (g.Self.Writer.meaning c.args.self.now).is_big c.args.size c.args.format.0 c.args.val e)

pub returns-in-Unsigned-clause-fits : goal.returns-in-Unsigned-clause-fits
returns-in-Unsigned-clause-fits g c =
    let e = c.in_ok-layout_of.ensures ∙ ap Some c.in-Unsigned.is in
    data_fits c.write_udata.result (num (g.Self.Writer.meaning c.args.self.now).is_big c.in-Unsigned.width c.args.val) _ (num_there c.write_udata.result (g.Self.Writer.meaning c.args.self.now).is_big c.args.size c.args.format.0 c.in-Unsigned.width c.args.val c.write_udata.ensures.fits e)

pub returns-in-Unsigned-clause-ok : goal.returns-in-Unsigned-clause-ok
returns-in-Unsigned-clause-ok g c =
    let e = c.in_ok-layout_of.ensures ∙ ap Some c.in-Unsigned.is in
    data_ok c.write_udata.result _ _ (num (g.Self.Writer.meaning c.args.self.now).is_big c.in-Unsigned.width c.args.val) _ c.write_udata.ensures.ok (num_there c.write_udata.result (g.Self.Writer.meaning c.args.self.now).is_big c.args.size c.args.format.0 c.in-Unsigned.width c.args.val c.write_udata.ensures.fits e)

pub returns-in-Unsigned-clause-partly : goal.returns-in-Unsigned-clause-partly
returns-in-Unsigned-clause-partly g c =
    let e = c.in_ok-layout_of.ensures ∙ ap Some c.in-Unsigned.is in
    data_partly c.write_udata.result _ _ _ (data_text (g.Self.Writer.meaning c.args.self.now).is_big c.args.size c.args.format.0 c.args.val) c.write_udata.ensures.partly (num_spelling (g.Self.Writer.meaning c.args.self.now).is_big c.args.size c.args.format.0 c.in-Unsigned.width c.args.val e)

pub returns-in-Signed-clause-fits : goal.returns-in-Signed-clause-fits
returns-in-Signed-clause-fits g c =
    let e = c.in_ok-layout_of.ensures ∙ ap Some c.in-Signed.is in
    let back : to_z w64 (of_z w64 c.cast_signed-in-Signed.result) ≡ c.cast_signed-in-Signed.result = search rules in
    let same : to_z w64 (of_z w64 c.cast_signed-in-Signed.result) ≡ signed_of c.args.val = back ∙ c.cast_signed-in-Signed.ensures in
    let fits = rw same at c.write_sdata.ensures.fits in
    data_fits c.write_sdata.result (signed_num (g.Self.Writer.meaning c.args.self.now).is_big c.in-Signed.width (signed_of c.args.val)) _ (signed_there c.write_sdata.result (g.Self.Writer.meaning c.args.self.now).is_big c.args.size c.args.format.0 c.in-Signed.width c.args.val fits e)

pub returns-in-Signed-clause-ok : goal.returns-in-Signed-clause-ok
returns-in-Signed-clause-ok g c =
    let e = c.in_ok-layout_of.ensures ∙ ap Some c.in-Signed.is in
    let back : to_z w64 (of_z w64 c.cast_signed-in-Signed.result) ≡ c.cast_signed-in-Signed.result = search rules in
    let same : to_z w64 (of_z w64 c.cast_signed-in-Signed.result) ≡ signed_of c.args.val = back ∙ c.cast_signed-in-Signed.ensures in
    let fits = rw same at c.write_sdata.ensures.fits in
    let did = rw same at c.write_sdata.ensures.ok in
    data_ok c.write_sdata.result _ _ (signed_num (g.Self.Writer.meaning c.args.self.now).is_big c.in-Signed.width (signed_of c.args.val)) _ did (signed_there c.write_sdata.result (g.Self.Writer.meaning c.args.self.now).is_big c.args.size c.args.format.0 c.in-Signed.width c.args.val fits e)

pub returns-in-Signed-clause-partly : goal.returns-in-Signed-clause-partly
returns-in-Signed-clause-partly g c =
    let e = c.in_ok-layout_of.ensures ∙ ap Some c.in-Signed.is in
    let back : to_z w64 (of_z w64 c.cast_signed-in-Signed.result) ≡ c.cast_signed-in-Signed.result = search rules in
    let same : to_z w64 (of_z w64 c.cast_signed-in-Signed.result) ≡ signed_of c.args.val = back ∙ c.cast_signed-in-Signed.ensures in
    let did = rw same at c.write_sdata.ensures.partly in
    data_partly c.write_sdata.result _ _ _ (data_text (g.Self.Writer.meaning c.args.self.now).is_big c.args.size c.args.format.0 c.args.val) did (signed_spelling (g.Self.Writer.meaning c.args.self.now).is_big c.args.size c.args.format.0 c.in-Signed.width c.args.val e)

pub returns-in_err-layout_of-clause-err : goal.returns-in_err-layout_of-clause-err
returns-in_err-layout_of-clause-err g c =
    let m = g.Self.Writer.meaning c.args.self.now in
    let h = c.in_err-layout_of.ensures in
    IfErr-exit c.from_residual.result (DataRefused c.args.size c.args.format.0 c.args.val (BytesRefused m m)) c.from_residual.ensures.1 (DataRefused-none c.args.size c.args.format.0 c.args.val (BytesRefused m m) _ h.0 h.1)

pub returns-in-Uleb128-clause-err : goal.returns-in-Uleb128-clause-err
returns-in-Uleb128-clause-err g c =
    let e = c.in_ok-layout_of.ensures ∙ ap Some c.in-Uleb128.is in
    DataRefused-by c.write_uleb128.result c.args.size c.args.format.0 c.args.val (BytesRefused (g.Self.Writer.meaning c.args.self.now) (g.Self.Writer.meaning c.write_uleb128.new.self)) Uleb128 e c.write_uleb128.ensures.err

pub returns-in-Sleb128-clause-err : goal.returns-in-Sleb128-clause-err
returns-in-Sleb128-clause-err g c =
    let e = c.in_ok-layout_of.ensures ∙ ap Some c.in-Sleb128.is in
    DataRefused-by c.write_sleb128.result c.args.size c.args.format.0 c.args.val (BytesRefused (g.Self.Writer.meaning c.args.self.now) (g.Self.Writer.meaning c.write_sleb128.new.self)) Sleb128 e c.write_sleb128.ensures.err

pub returns-in-Unsigned-clause-err : goal.returns-in-Unsigned-clause-err
returns-in-Unsigned-clause-err g c =
    let e = c.in_ok-layout_of.ensures ∙ ap Some c.in-Unsigned.is in
    DataRefused-by c.write_udata.result c.args.size c.args.format.0 c.args.val (BytesRefused (g.Self.Writer.meaning c.args.self.now) (g.Self.Writer.meaning c.write_udata.new.self)) (Unsigned c.in-Unsigned.width) e c.write_udata.ensures.err

pub returns-in-Signed-clause-err : goal.returns-in-Signed-clause-err
returns-in-Signed-clause-err g c =
    let e = c.in_ok-layout_of.ensures ∙ ap Some c.in-Signed.is in
    let back : to_z w64 (of_z w64 c.cast_signed-in-Signed.result) ≡ c.cast_signed-in-Signed.result = search rules in
    let same : to_z w64 (of_z w64 c.cast_signed-in-Signed.result) ≡ signed_of c.args.val = back ∙ c.cast_signed-in-Signed.ensures in
    DataRefused-by c.write_sdata.result c.args.size c.args.format.0 c.args.val (BytesRefused (g.Self.Writer.meaning c.args.self.now) (g.Self.Writer.meaning c.write_sdata.new.self)) (Signed c.in-Signed.width) e (rw same at c.write_sdata.ensures.err)
