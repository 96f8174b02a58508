use mir.Syntax.{w64}
use mir.Val.{to_z, of_z}
use Rattle.std.proofs.Common.{rules, ◌≡◌, ◌∙◌, Ok, Err, refl, ap, sym, arith}
use Rattle.std.proofs.lemmas.Result.{err_from_is_err_and}
use Rattle.dw_base.specs.Numbers.{◌>>=◌}
use Rattle.dw_base.specs.Leb128.{sleb}
use Rattle.dw_writer.specs.Texts.{num_text}
use Rattle.dw_writer.specs.Drafts.{whole}
use Rattle.dw_writer.proofs.Outcomes.{OnOk-map}
use Rattle.dw_writer.proofs.WriteLaws.{Drafts-is, Drafts-nothing, Drafts-whole}
use Rattle.dw_expr.specs.OperandViews.{operand_in}
use Rattle.dw_expr.specs.Causes.{operand_fails}
use Rattle.dw_expr.specs.Places.{known_by, place_by}
use Rattle.dw_expr.specs.Spelling.{bytes, operand_draft, place_draft}
use Rattle.dw_expr.proofs.OperandLaws.{sound_by, unfailing, refused_by, bytes_cause, count_sound, count_cause, address_sound, address_cause, entry_cause, place_cause, place_sound, place_number_cause}
use Rattle.dw_expr.proofs.WriteSteps.{OnOk-both, err_at, Drafts-byte, Drafts-bytes, Drafts-number}
use Rattle.dw_expr.proofs.op.write.write_operand.Goals as goal

pub returns-in-Nothing-clause-ok : goal.returns-in-Nothing-clause-ok
returns-in-Nothing-clause-ok g c =
    let draft = operand_draft c.args.encoding (place_by (known_by g.P.EntryPlaces.places c.args.places)) c.args.starts.now c.args.end in
    Drafts-is (Drafts-nothing (g.W.Writer.meaning c.args.w.now) c.args.fixups.now) (ap (λ o. draft (operand_in o)) (sym c.in-Nothing.is))

pub returns-in-Byte-clause-ok : goal.returns-in-Byte-clause-ok
returns-in-Byte-clause-ok g c =
    let draft = operand_draft c.args.encoding (place_by (known_by g.P.EntryPlaces.places c.args.places)) c.args.starts.now c.args.end in
    OnOk-map c.write_u8.result c.write_u8.ensures.ok
    (λ p. Drafts-is (Drafts-byte c.args.fixups.now c.in-Byte.byte (omega arith) p) (ap (λ o. draft (operand_in o)) (sym c.in-Byte.is)))

pub returns-in-Bytes-clause-ok : goal.returns-in-Bytes-clause-ok
returns-in-Bytes-clause-ok g c =
    let draft = operand_draft c.args.encoding (place_by (known_by g.P.EntryPlaces.places c.args.places)) c.args.starts.now c.args.end in
    OnOk-map c.write.result c.write.ensures.ok (λ p. Drafts-is (Drafts-bytes c.args.fixups.now p) (ap (λ o. draft (operand_in o)) (sym c.in-Bytes.is)))

pub returns-in-Uleb-clause-ok : goal.returns-in-Uleb-clause-ok
returns-in-Uleb-clause-ok g c =
    let draft = operand_draft c.args.encoding (place_by (known_by g.P.EntryPlaces.places c.args.places)) c.args.starts.now c.args.end in
    OnOk-map c.write_uleb128.result c.write_uleb128.ensures.ok (λ p. Drafts-is (Drafts-bytes c.args.fixups.now p) (ap (λ o. draft (operand_in o)) (sym c.in-Uleb.is)))

pub returns-in-Sleb-clause-ok : goal.returns-in-Sleb-clause-ok
returns-in-Sleb-clause-ok g c =
    let draft = operand_draft c.args.encoding (place_by (known_by g.P.EntryPlaces.places c.args.places)) c.args.starts.now c.args.end in
    let kept : to_z w64 (of_z w64 c.in-Sleb.number) ≡ c.in-Sleb.number = search rules in
    OnOk-map c.write_sleb128.result c.write_sleb128.ensures.ok
    (λ p. Drafts-is (Drafts-bytes c.args.fixups.now p) (ap (λ z. bytes (sleb z)) kept ∙ ap (λ o. draft (operand_in o)) (sym c.in-Sleb.is)))

pub returns-in-Count-clause-ok : goal.returns-in-Count-clause-ok
returns-in-Count-clause-ok g c =
    let draft = operand_draft c.args.encoding (place_by (known_by g.P.EntryPlaces.places c.args.places)) c.args.starts.now c.args.end in
    OnOk-both c.write_udata.result c.write_udata.ensures.ok c.write_udata.ensures.fits
    (λ p fit. Drafts-is (Drafts-number c.args.fixups.now 1 c.in-Count.count p fit.0 fit.1) (ap (λ o. draft (operand_in o)) (sym c.in-Count.is)))

pub returns-in-Target-clause-ok : goal.returns-in-Target-clause-ok
returns-in-Target-clause-ok g c =
    let draft = operand_draft c.args.encoding (place_by (known_by g.P.EntryPlaces.places c.args.places)) c.args.starts.now c.args.end in
    OnOk-map c.write_address.result c.write_address.ensures.ok (λ p. Drafts-is (Drafts-whole c.args.fixups.now p) (ap (λ o. draft (operand_in o)) (sym c.in-Target.is)))

pub returns-in_ok-place-in-Base-clause-ok : goal.returns-in_ok-place-in-Base-clause-ok
returns-in_ok-place-in-Base-clause-ok g c =
    let draft = operand_draft c.args.encoding (place_by (known_by g.P.EntryPlaces.places c.args.places)) c.args.starts.now c.args.end in
    OnOk-map c.write_uleb128-in-Base.result c.write_uleb128-in-Base.ensures.ok
    (λ p. Drafts-is (Drafts-bytes c.args.fixups.now p) (ap place_draft (sym c.in_ok-place-in-Base.ensures.ok) ∙ ap (λ o. draft (operand_in o)) (sym c.in-Base.is)))

pub returns-in_ok-place-in-Place-clause-ok : goal.returns-in_ok-place-in-Place-clause-ok
returns-in_ok-place-in-Place-clause-ok g c =
    let draft = operand_draft c.args.encoding (place_by (known_by g.P.EntryPlaces.places c.args.places)) c.args.starts.now c.args.end in
    OnOk-both c.write_udata-in-Place.result c.write_udata-in-Place.ensures.ok c.write_udata-in-Place.ensures.fits
    (λ p fit. Drafts-is (Drafts-number c.args.fixups.now 4 c.in_ok-place-in-Place.place p fit.0 fit.1)
    (ap (λ at. whole 4 (λ big l. at >>= num_text big 4)) (sym c.in_ok-place-in-Place.ensures.ok) ∙ ap (λ o. draft (operand_in o)) (sym c.in-Place.is)))

pub returns-in-Distance-clause-ok : goal.returns-in-Distance-clause-ok
returns-in-Distance-clause-ok g c =
    let draft = operand_draft c.args.encoding (place_by (known_by g.P.EntryPlaces.places c.args.places)) c.args.starts.now c.args.end in
    OnOk-map c.write_distance.result c.write_distance.ensures.ok (λ p. Drafts-is (Drafts-whole c.args.fixups.now p) (ap (λ o. draft (operand_in o)) (sym c.in-Distance.is)))

pub returns-in-Nothing-clause-sound : goal.returns-in-Nothing-clause-sound
returns-in-Nothing-clause-sound g c =
    let known = known_by g.P.EntryPlaces.places c.args.places in
    let old = g.W.Writer.meaning c.args.w.now in
    unfailing c.args.encoding known c.args.keeps old.is_plain c.args.starts.now c.args.end {T = Unit {0}} (Ok tt) _ _ c.in-Nothing.is (λ err. refl)

pub returns-in-Byte-clause-sound : goal.returns-in-Byte-clause-sound
returns-in-Byte-clause-sound g c =
    let known = known_by g.P.EntryPlaces.places c.args.places in
    let old = g.W.Writer.meaning c.args.w.now in
    unfailing c.args.encoding known c.args.keeps old.is_plain c.args.starts.now c.args.end c.write_u8.result _ _ c.in-Byte.is (λ err. refl)

pub returns-in-Byte-clause-err : goal.returns-in-Byte-clause-err
returns-in-Byte-clause-err g c =
    let known = known_by g.P.EntryPlaces.places c.args.places in
    let old = g.W.Writer.meaning c.args.w.now in
    bytes_cause c.write_u8.result old (g.W.Writer.meaning c.write_u8.new.self) (operand_fails c.args.encoding known c.args.keeps old.is_plain c.args.starts.now c.args.end (operand_in c.args.operand.now)) c.write_u8.ensures.err

pub returns-in-Bytes-clause-sound : goal.returns-in-Bytes-clause-sound
returns-in-Bytes-clause-sound g c =
    let known = known_by g.P.EntryPlaces.places c.args.places in
    let old = g.W.Writer.meaning c.args.w.now in
    unfailing c.args.encoding known c.args.keeps old.is_plain c.args.starts.now c.args.end c.write.result _ _ c.in-Bytes.is (λ err. refl)

pub returns-in-Bytes-clause-err : goal.returns-in-Bytes-clause-err
returns-in-Bytes-clause-err g c =
    let known = known_by g.P.EntryPlaces.places c.args.places in
    let old = g.W.Writer.meaning c.args.w.now in
    bytes_cause c.write.result old (g.W.Writer.meaning c.write.new.self) (operand_fails c.args.encoding known c.args.keeps old.is_plain c.args.starts.now c.args.end (operand_in c.args.operand.now)) c.write.ensures.err

pub returns-in-Uleb-clause-sound : goal.returns-in-Uleb-clause-sound
returns-in-Uleb-clause-sound g c =
    let known = known_by g.P.EntryPlaces.places c.args.places in
    let old = g.W.Writer.meaning c.args.w.now in
    unfailing c.args.encoding known c.args.keeps old.is_plain c.args.starts.now c.args.end c.write_uleb128.result _ _ c.in-Uleb.is (λ err. refl)

pub returns-in-Uleb-clause-err : goal.returns-in-Uleb-clause-err
returns-in-Uleb-clause-err g c =
    let known = known_by g.P.EntryPlaces.places c.args.places in
    let old = g.W.Writer.meaning c.args.w.now in
    bytes_cause c.write_uleb128.result old (g.W.Writer.meaning c.write_uleb128.new.self) (operand_fails c.args.encoding known c.args.keeps old.is_plain c.args.starts.now c.args.end (operand_in c.args.operand.now)) c.write_uleb128.ensures.err

pub returns-in-Sleb-clause-sound : goal.returns-in-Sleb-clause-sound
returns-in-Sleb-clause-sound g c =
    let known = known_by g.P.EntryPlaces.places c.args.places in
    let old = g.W.Writer.meaning c.args.w.now in
    unfailing c.args.encoding known c.args.keeps old.is_plain c.args.starts.now c.args.end c.write_sleb128.result _ _ c.in-Sleb.is (λ err. refl)

pub returns-in-Sleb-clause-err : goal.returns-in-Sleb-clause-err
returns-in-Sleb-clause-err g c =
    let known = known_by g.P.EntryPlaces.places c.args.places in
    let old = g.W.Writer.meaning c.args.w.now in
    bytes_cause c.write_sleb128.result old (g.W.Writer.meaning c.write_sleb128.new.self) (operand_fails c.args.encoding known c.args.keeps old.is_plain c.args.starts.now c.args.end (operand_in c.args.operand.now)) c.write_sleb128.ensures.err

pub returns-in-Count-clause-sound : goal.returns-in-Count-clause-sound
returns-in-Count-clause-sound g c =
    let known = known_by g.P.EntryPlaces.places c.args.places in
    let old = g.W.Writer.meaning c.args.w.now in
    sound_by c.args.encoding known c.args.keeps old.is_plain c.args.starts.now c.args.end c.write_udata.result _ _ c.in-Count.is (count_sound c.write_udata.result c.in-Count.count c.write_udata.ensures.fits)

pub returns-in-Count-clause-err : goal.returns-in-Count-clause-err
returns-in-Count-clause-err g c =
    let known = known_by g.P.EntryPlaces.places c.args.places in
    let old = g.W.Writer.meaning c.args.w.now in
    refused_by c.args.encoding known c.args.keeps old.is_plain c.args.starts.now c.args.end c.write_udata.result old (g.W.Writer.meaning c.write_udata.new.self) _ _ c.in-Count.is (count_cause c.write_udata.result old (g.W.Writer.meaning c.write_udata.new.self) c.in-Count.count c.write_udata.ensures.err)

pub returns-in-Target-clause-sound : goal.returns-in-Target-clause-sound
returns-in-Target-clause-sound g c =
    let known = known_by g.P.EntryPlaces.places c.args.places in
    let old = g.W.Writer.meaning c.args.w.now in
    sound_by c.args.encoding known c.args.keeps old.is_plain c.args.starts.now c.args.end c.write_address.result _ _ c.in-Target.is (address_sound c.write_address.result c.args.encoding.address_size old.is_plain c.in-Target.address c.write_address.ensures.fits)

pub returns-in-Target-clause-err : goal.returns-in-Target-clause-err
returns-in-Target-clause-err g c =
    let known = known_by g.P.EntryPlaces.places c.args.places in
    let old = g.W.Writer.meaning c.args.w.now in
    refused_by c.args.encoding known c.args.keeps old.is_plain c.args.starts.now c.args.end c.write_address.result old (g.W.Writer.meaning c.write_address.new.self) _ _ c.in-Target.is (address_cause c.write_address.result old (g.W.Writer.meaning c.write_address.new.self) c.args.encoding.address_size old.is_plain c.in-Target.address c.write_address.ensures.err)

pub returns-in_ok-place-in-Base-clause-sound : goal.returns-in_ok-place-in-Base-clause-sound
returns-in_ok-place-in-Base-clause-sound g c =
    let known = known_by g.P.EntryPlaces.places c.args.places in
    let old = g.W.Writer.meaning c.args.w.now in
    unfailing c.args.encoding known c.args.keeps old.is_plain c.args.starts.now c.args.end c.write_uleb128-in-Base.result _ _ c.in-Base.is c.in_ok-place-in-Base.ensures.sound

pub returns-in_ok-place-in-Base-clause-err : goal.returns-in_ok-place-in-Base-clause-err
returns-in_ok-place-in-Base-clause-err g c =
    let known = known_by g.P.EntryPlaces.places c.args.places in
    let old = g.W.Writer.meaning c.args.w.now in
    bytes_cause c.write_uleb128-in-Base.result old (g.W.Writer.meaning c.write_uleb128-in-Base.new.self) (operand_fails c.args.encoding known c.args.keeps old.is_plain c.args.starts.now c.args.end (operand_in c.args.operand.now)) c.write_uleb128-in-Base.ensures.err

pub returns-in_err-place-in-Base-clause-err : goal.returns-in_err-place-in-Base-clause-err
returns-in_err-place-in-Base-clause-err g c =
    let known = known_by g.P.EntryPlaces.places c.args.places in
    let old = g.W.Writer.meaning c.args.w.now in
    let p = err_from_is_err_and c.from_residual.result c.from_residual.ensures.1 in
    let err = c.in_err-place-in-Base.field-0.0 in
    refused_by c.args.encoding known c.args.keeps old.is_plain c.args.starts.now c.args.end c.from_residual.result old old _ _ c.in-Base.is (err_at c.from_residual.result _ err (p.1 ∙ ap Err p.2) (entry_cause old old known c.in-Base.entry.0 err c.in_err-place-in-Base.ensures.err))

pub returns-in_ok-place-in-Place-clause-sound : goal.returns-in_ok-place-in-Place-clause-sound
returns-in_ok-place-in-Place-clause-sound g c =
    let known = known_by g.P.EntryPlaces.places c.args.places in
    let old = g.W.Writer.meaning c.args.w.now in
    sound_by c.args.encoding known c.args.keeps old.is_plain c.args.starts.now c.args.end c.write_udata-in-Place.result _ _ c.in-Place.is (place_sound c.write_udata-in-Place.result known c.in-Place.entry.0 c.in_ok-place-in-Place.place c.in_ok-place-in-Place.ensures.ok c.in_ok-place-in-Place.ensures.sound c.write_udata-in-Place.ensures.fits)

pub returns-in_ok-place-in-Place-clause-err : goal.returns-in_ok-place-in-Place-clause-err
returns-in_ok-place-in-Place-clause-err g c =
    let known = known_by g.P.EntryPlaces.places c.args.places in
    let old = g.W.Writer.meaning c.args.w.now in
    refused_by c.args.encoding known c.args.keeps old.is_plain c.args.starts.now c.args.end c.write_udata-in-Place.result old (g.W.Writer.meaning c.write_udata-in-Place.new.self) _ _ c.in-Place.is (place_number_cause c.write_udata-in-Place.result old (g.W.Writer.meaning c.write_udata-in-Place.new.self) known c.in-Place.entry.0 c.in_ok-place-in-Place.place c.in_ok-place-in-Place.ensures.ok c.write_udata-in-Place.ensures.err)

pub returns-in_err-place-in-Place-clause-err : goal.returns-in_err-place-in-Place-clause-err
returns-in_err-place-in-Place-clause-err g c =
    let known = known_by g.P.EntryPlaces.places c.args.places in
    let old = g.W.Writer.meaning c.args.w.now in
    let p = err_from_is_err_and c.from_residual-in_err-place-in-Place.result c.from_residual-in_err-place-in-Place.ensures.1 in
    let err = c.in_err-place-in-Place.field-0.0 in
    refused_by c.args.encoding known c.args.keeps old.is_plain c.args.starts.now c.args.end c.from_residual-in_err-place-in-Place.result old old _ _ c.in-Place.is (err_at c.from_residual-in_err-place-in-Place.result _ err (p.1 ∙ ap Err p.2) (place_cause old old known c.in-Place.entry.0 err c.in_err-place-in-Place.ensures.err))

pub returns-in-Info-clause-sound : goal.returns-in-Info-clause-sound
returns-in-Info-clause-sound g c =
    let known = known_by g.P.EntryPlaces.places c.args.places in
    let old = g.W.Writer.meaning c.args.w.now in
    sound_by c.args.encoding known c.args.keeps old.is_plain c.args.starts.now c.args.end c.write_reference.result _ _ c.in-Info.is c.write_reference.ensures.sound

pub returns-in-Info-clause-err : goal.returns-in-Info-clause-err
returns-in-Info-clause-err g c =
    let known = known_by g.P.EntryPlaces.places c.args.places in
    let old = g.W.Writer.meaning c.args.w.now in
    refused_by c.args.encoding known c.args.keeps old.is_plain c.args.starts.now c.args.end c.write_reference.result old (g.W.Writer.meaning c.write_reference.new.w) _ _ c.in-Info.is c.write_reference.ensures.err

pub returns-in-Distance-clause-sound : goal.returns-in-Distance-clause-sound
returns-in-Distance-clause-sound g c =
    let known = known_by g.P.EntryPlaces.places c.args.places in
    let old = g.W.Writer.meaning c.args.w.now in
    sound_by c.args.encoding known c.args.keeps old.is_plain c.args.starts.now c.args.end c.write_distance.result _ _ c.in-Distance.is c.write_distance.ensures.sound

pub returns-in-Distance-clause-err : goal.returns-in-Distance-clause-err
returns-in-Distance-clause-err g c =
    let known = known_by g.P.EntryPlaces.places c.args.places in
    let old = g.W.Writer.meaning c.args.w.now in
    refused_by c.args.encoding known c.args.keeps old.is_plain c.args.starts.now c.args.end c.write_distance.result old (g.W.Writer.meaning c.write_distance.new.w) _ _ c.in-Distance.is c.write_distance.ensures.err
