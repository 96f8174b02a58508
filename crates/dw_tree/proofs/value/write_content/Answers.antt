use mir.Syntax.{w64}
use Rattle.std.proofs.Common.{◌≡◌, sym, ap, subst, arith, rules, refl, Ok, Err}
use Rattle.std.specs.Prelude.{Result, IsTrue, IsFalse, OnOk, IfErr}
use Rattle.std.proofs.lemmas.Int.{to_z-of_z}
use Rattle.dw_base.specs.Numbers.{word_of, is_width}
use Rattle.dw_base.specs.declared.common.Encoding.{Encoding}
use Rattle.dw_base.specs.declared.error.Error.{Error}
use Rattle.dw_base.specs.declared.error.Error.TheVariants as errors
use Rattle.dw_writer.specs.Meaning.{Meaning}
use Rattle.dw_writer.specs.Causes.{BytesRefused}
use Rattle.dw_writer.proofs.Outcomes.{OnOk-map, IfErr-map}
use Rattle.dw_writer.proofs.WriteLaws.{Drafts-is, Drafts-whole, Drafts-nothing}
use Rattle.dw_entries.specs.Content.{Content, IsContentRanged, content_fails}
use Rattle.dw_entries.specs.Targets.{UnitTargets}
use Rattle.dw_entries.specs.ContentView.{content_in, number_or_past}
use Rattle.dw_entries.proofs.ValueTexts.{info_width}
use Rattle.dw_tree.specs.Causes.{Refused, Is}
use Rattle.dw_tree.specs.TargetsAt.{placement_at, targets_at}
use Rattle.dw_tree.proofs.Drafted.{Drafts-bytes, Drafts-number, nothing_is, plain_is, wide_is, leb_is, signed_leb_is, block_is, expression_is, expression_short, closed_is, target_is, offset_is, in_table_is, table_index_is, own_part_is, file_is, entry_place_is, info_is}
use Rattle.dw_tree.proofs.Faults.{OnOk-both, fitting_number, bytes_because}
use Rattle.dw_tree.proofs.PlaceLaws.{found_some}
use Rattle.dw_tree.proofs.value.write_content.Goals as goal

on_ok : {T P : Type 0} (r : Result T Error) → P → OnOk r P
on_ok (Ok x) p = p
on_ok (Err err) p = tt

-- what is told of a kind of content is told of the content
module _ {T : Type 0} (e : Encoding) (u : UnitTargets) (m : Meaning) (r : Result T Error) {x y : Content} (is : x ≡ y) where
  sound_as : OnOk r ((err : Error) → IsFalse (content_fails e u m.is_plain y err)) → OnOk r ((err : Error) → IsFalse (content_fails e u m.is_plain x err))
  sound_as h = subst (λ z. OnOk r ((err : Error) → IsFalse (content_fails e u m.is_plain z err))) (sym is) h

  refused_as : (new : Meaning) → IfErr r (Refused m new (Is (content_fails e u m.is_plain y))) → IfErr r (Refused m new (Is (content_fails e u m.is_plain x)))
  refused_as new h = subst (λ z. IfErr r (Refused m new (Is (content_fails e u m.is_plain z)))) (sym is) h

  -- of one that has no fault, too
  sound_always : ((err : Error) → IsFalse (content_fails e u m.is_plain y err)) → OnOk r ((err : Error) → IsFalse (content_fails e u m.is_plain x err))
  sound_always h = sound_as (on_ok r h)

  bytes_refused : (new : Meaning) → IfErr r (BytesRefused m new) → IfErr r (Refused m new (Is (content_fails e u m.is_plain x)))
  bytes_refused new h = IfErr-map r h (bytes_because (Is (content_fails e u m.is_plain x)) m new (λ rise. rise))

pub returns-in-Nothing-clause-ok : goal.returns-in-Nothing-clause-ok
returns-in-Nothing-clause-ok g c =
    let is = ap content_in c.in-Nothing.is in
    let x = content_in c.args.content in
    Drafts-is (Drafts-nothing (g.W.Writer.meaning c.args.w.now) c.args.fixups.now) (nothing_is c.args.encoding (targets_at c.args.targets.now) x is)

pub write_plain-requires : goal.write_plain-requires
write_plain-requires g c =
    let is = ap content_in c.in-Plain.is in
    c.requires.plain c.in-Plain.size c.in-Plain.value is

pub returns-in-Plain : goal.returns-in-Plain
returns-in-Plain g c =
    let e = c.args.encoding in
    let u = targets_at c.args.targets.now in
    let m = g.W.Writer.meaning c.args.w.now in
    let fixups = c.args.fixups.now in
    let x = content_in c.args.content in
    let is = ap content_in c.in-Plain.is in
    let r = c.write_plain.result in
    let call = c.write_plain.ensures in
    let w = c.in-Plain.size in
    let n = c.in-Plain.value in
    record {
      ok = OnOk-both r call.ok call.sound (λ p h. Drafts-is (Drafts-number fixups w n p) (plain_is e u x w n is (fitting_number w n (h errors.ValueTooLarge))));
      sound = sound_as e u m r is call.sound;
      ranged = on_ok r (subst IsContentRanged (sym is) tt);
      err = refused_as e u m r is (g.W.Writer.meaning c.write_plain.new.w) call.err;
      same = call.same;
    }

pub returns-in-Wide : goal.returns-in-Wide
returns-in-Wide g c =
    let e = c.args.encoding in
    let u = targets_at c.args.targets.now in
    let m = g.W.Writer.meaning c.args.w.now in
    let fixups = c.args.fixups.now in
    let x = content_in c.args.content in
    let is = ap content_in c.in-Wide.is in
    let r = c.write_u128.result in
    let call = c.write_u128.ensures in
    let n = c.in-Wide.number in
    record {
      ok = OnOk-map r call.ok (λ p. Drafts-is (Drafts-number fixups 16 n p) (wide_is e u x n is));
      sound = sound_always e u m r is (λ err. refl);
      ranged = search rules;
      err = bytes_refused e u m r is (g.W.Writer.meaning c.write_u128.new.self) call.err;
      same = call.same;
    }

pub returns-in-Leb : goal.returns-in-Leb
returns-in-Leb g c =
    let e = c.args.encoding in
    let u = targets_at c.args.targets.now in
    let m = g.W.Writer.meaning c.args.w.now in
    let fixups = c.args.fixups.now in
    let x = content_in c.args.content in
    let is = ap content_in c.in-Leb.is in
    let r = c.write_uleb128.result in
    let call = c.write_uleb128.ensures in
    record {
      ok = OnOk-map r call.ok (λ p. Drafts-is (Drafts-bytes fixups p) (leb_is e u x c.in-Leb.number is));
      sound = sound_always e u m r is (λ err. refl);
      ranged = search rules;
      err = bytes_refused e u m r is (g.W.Writer.meaning c.write_uleb128.new.self) call.err;
      same = call.same;
    }

pub returns-in-SignedLeb : goal.returns-in-SignedLeb
returns-in-SignedLeb g c =
    let e = c.args.encoding in
    let u = targets_at c.args.targets.now in
    let m = g.W.Writer.meaning c.args.w.now in
    let fixups = c.args.fixups.now in
    let x = content_in c.args.content in
    let is = ap content_in c.in-SignedLeb.is in
    let r = c.write_sleb128.result in
    let call = c.write_sleb128.ensures in
    let wrote = rw (to_z-of_z w64 c.in-SignedLeb.number (omega arith)) at call.ok in
    record {
      ok = OnOk-map r wrote (λ p. Drafts-is (Drafts-bytes fixups p) (signed_leb_is e u x c.in-SignedLeb.number is));
      sound = sound_always e u m r is (λ err. refl);
      ranged = search rules;
      err = bytes_refused e u m r is (g.W.Writer.meaning c.write_sleb128.new.self) call.err;
      same = call.same;
    }

pub returns-in-Block : goal.returns-in-Block
returns-in-Block g c =
    let e = c.args.encoding in
    let u = targets_at c.args.targets.now in
    let m = g.W.Writer.meaning c.args.w.now in
    let fixups = c.args.fixups.now in
    let x = content_in c.args.content in
    let is = ap content_in c.in-Block.is in
    let r = c.write_block.result in
    let call = c.write_block.ensures in
    record {
      ok = OnOk-map r call.ok (λ p. Drafts-is (Drafts-bytes fixups p) (block_is e u x c.in-Block.bytes.now is));
      sound = sound_always e u m r is (λ err. refl);
      ranged = search rules;
      err = bytes_refused e u m r is (g.W.Writer.meaning c.write_block.new.w) call.err;
      same = call.same;
    }

pub returns-in-Expression : goal.returns-in-Expression
returns-in-Expression g c =
    let e = c.args.encoding in
    let u = targets_at c.args.targets.now in
    let m = g.W.Writer.meaning c.args.w.now in
    let fixups = c.args.fixups.now in
    let x = content_in c.args.content in
    let is = ap content_in c.in-Expression.is in
    let r = c.write_expression.result in
    let call = c.write_expression.ensures in
    let ns = c.in-Expression.expression.now in
    record {
      ok = OnOk-both r call.ok call.sound (λ p h. Drafts-is p (expression_is e u x ns is (expression_short e u.place m.is_plain ns h)));
      sound = sound_as e u m r is call.sound;
      ranged = on_ok r (subst IsContentRanged (sym is) tt);
      err = refused_as e u m r is (g.W.Writer.meaning c.write_expression.new.w) call.err;
      same = call.same;
    }

pub returns-in-Closed : goal.returns-in-Closed
returns-in-Closed g c =
    let e = c.args.encoding in
    let u = targets_at c.args.targets.now in
    let m = g.W.Writer.meaning c.args.w.now in
    let fixups = c.args.fixups.now in
    let x = content_in c.args.content in
    let is = ap content_in c.in-Closed.is in
    let r = c.write_text.result in
    let call = c.write_text.ensures in
    record {
      ok = OnOk-both r call.ok call.sound (λ p h. Drafts-is (Drafts-bytes fixups p) (closed_is e u x c.in-Closed.text.now is (h errors.InvalidAttributeValue)));
      sound = sound_as e u m r is call.sound;
      ranged = on_ok r (subst IsContentRanged (sym is) tt);
      err = refused_as e u m r is (g.W.Writer.meaning c.write_text.new.w) call.err;
      same = call.same;
    }

pub returns-in-Target : goal.returns-in-Target
returns-in-Target g c =
    let e = c.args.encoding in
    let u = targets_at c.args.targets.now in
    let m = g.W.Writer.meaning c.args.w.now in
    let fixups = c.args.fixups.now in
    let x = content_in c.args.content in
    let is = ap content_in c.in-Target.is in
    let r = c.write_target.result in
    let call = c.write_target.ensures in
    record {
      ok = OnOk-map r call.ok (λ p. Drafts-is (Drafts-whole fixups p) (target_is e u x c.in-Target.address is c.requires.width));
      sound = sound_as e u m r is call.sound;
      ranged = on_ok r (subst IsContentRanged (sym is) tt);
      err = refused_as e u m r is (g.W.Writer.meaning c.write_target.new.w) call.err;
      same = call.same;
    }

pub returns-in-Offset : goal.returns-in-Offset
returns-in-Offset g c =
    let e = c.args.encoding in
    let u = targets_at c.args.targets.now in
    let m = g.W.Writer.meaning c.args.w.now in
    let fixups = c.args.fixups.now in
    let x = content_in c.args.content in
    let is = ap content_in c.in-Offset.is in
    let r = c.write_place.result in
    let call = c.write_place.ensures in
    record {
      ok = OnOk-map r call.ok (λ p. Drafts-is (Drafts-whole fixups p) (offset_is e u x c.in-Offset.section c.in-Offset.value is));
      sound = sound_as e u m r is call.sound;
      ranged = on_ok r (subst IsContentRanged (sym is) tt);
      err = refused_as e u m r is (g.W.Writer.meaning c.write_place.new.w) call.err;
      same = call.same;
    }

pub returns-in-InTable : goal.returns-in-InTable
returns-in-InTable g c =
    let e = c.args.encoding in
    let u = targets_at c.args.targets.now in
    let m = g.W.Writer.meaning c.args.w.now in
    let fixups = c.args.fixups.now in
    let x = content_in c.args.content in
    let is = ap content_in c.in-InTable.is in
    let r = c.write_place_in_table.result in
    let call = c.write_place_in_table.ensures in
    record {
      ok = OnOk-map r call.ok (λ p. Drafts-is (Drafts-whole fixups p) (in_table_is e u x c.in-InTable.section c.in-InTable.index is));
      sound = sound_as e u m r is call.sound;
      ranged = on_ok r (subst IsContentRanged (sym is) tt);
      err = refused_as e u m r is (g.W.Writer.meaning c.write_place_in_table.new.w) call.err;
      same = call.same;
    }

pub returns-in-TableIndex : goal.returns-in-TableIndex
returns-in-TableIndex g c =
    let e = c.args.encoding in
    let u = targets_at c.args.targets.now in
    let m = g.W.Writer.meaning c.args.w.now in
    let fixups = c.args.fixups.now in
    let x = content_in c.args.content in
    let is = ap content_in c.in-TableIndex.is in
    let r = c.write_table_index.result in
    let call = c.write_table_index.ensures in
    let section = c.in-TableIndex.section in
    let i = c.in-TableIndex.index in
    record {
      ok = OnOk-both r call.ok call.sound (λ p h. Drafts-is (Drafts-bytes fixups p) (table_index_is e u x section i is (h errors.InvalidReference)));
      sound = sound_as e u m r is call.sound;
      ranged = search rules;
      err = refused_as e u m r is (g.W.Writer.meaning c.write_table_index.new.w) call.err;
      same = call.same;
    }

pub returns-in-OwnPart : goal.returns-in-OwnPart
returns-in-OwnPart g c =
    let e = c.args.encoding in
    let u = targets_at c.args.targets.now in
    let m = g.W.Writer.meaning c.args.w.now in
    let fixups = c.args.fixups.now in
    let x = content_in c.args.content in
    let is = ap content_in c.in-OwnPart.is in
    let r = c.write_own_place.result in
    let call = c.write_own_place.ensures in
    record {
      ok = OnOk-map r call.ok (λ p. Drafts-is (Drafts-whole fixups p) (own_part_is e u x c.in-OwnPart.section is));
      sound = sound_as e u m r is call.sound;
      ranged = on_ok r (subst IsContentRanged (sym is) tt);
      err = refused_as e u m r is (g.W.Writer.meaning c.write_own_place.new.w) call.err;
      same = call.same;
    }

pub returns-in-File : goal.returns-in-File
returns-in-File g c =
    let e = c.args.encoding in
    let u = targets_at c.args.targets.now in
    let m = g.W.Writer.meaning c.args.w.now in
    let fixups = c.args.fixups.now in
    let x = content_in c.args.content in
    let is = ap content_in c.in-File.is in
    let r = c.write_file.result in
    let call = c.write_file.ensures in
    let n = number_or_past c.in-File.number in
    record {
      ok = OnOk-both r call.ok call.sound (λ p h. Drafts-is (Drafts-bytes fixups p) (file_is e u x n is (fitting_number 8 n (h errors.ValueTooLarge))));
      sound = sound_as e u m r is call.sound;
      ranged = on_ok r (subst IsContentRanged (sym is) tt);
      err = refused_as e u m r is (g.W.Writer.meaning c.write_file.new.w) call.err;
      same = call.same;
    }

pub returns-in-EntryPlace : goal.returns-in-EntryPlace
returns-in-EntryPlace g c =
    let e = c.args.encoding in
    let u = targets_at c.args.targets.now in
    let m = g.W.Writer.meaning c.args.w.now in
    let fixups = c.args.fixups.now in
    let x = content_in c.args.content in
    let is = ap content_in c.in-EntryPlace.is in
    let r = c.write_reference.result in
    let call = c.write_reference.ensures in
    let i = c.in-EntryPlace.entry.0 in
    let place = (placement_at c.args.targets.now).place in
    record {
      ok = OnOk-both r call.ok call.sound (λ p h. Drafts-is (Drafts-number fixups (word_of e.format) (place i) p) (entry_place_is e u x i (place i) is (found_some place i (h errors.InvalidReference)) (c.requires.fit i).0));
      sound = sound_as e u m r is call.sound;
      ranged = on_ok r (subst IsContentRanged (sym is) tt);
      err = refused_as e u m r is (g.W.Writer.meaning c.write_reference.new.w) call.err;
      same = call.same;
    }

pub write_info_reference-requires : goal.write_info_reference-requires
write_info_reference-requires g c = subst (λ n. IsTrue (is_width n)) (sym c.info_place_size.ensures) (info_width c.args.encoding c.requires.width)

pub returns-in-InfoPlace : goal.returns-in-InfoPlace
returns-in-InfoPlace g c =
    let e = c.args.encoding in
    let u = targets_at c.args.targets.now in
    let m = g.W.Writer.meaning c.args.w.now in
    let fixups = c.args.fixups.now in
    let x = content_in c.args.content in
    let is = ap content_in c.in-InfoPlace.is in
    let r = c.write_info_reference.result in
    let call = c.write_info_reference.ensures in
    let wrote = rw c.info_place_size.ensures at call.ok in
    record {
      ok = OnOk-map r wrote (λ p. Drafts-is p (info_is e u x c.in-InfoPlace.entry is c.requires.width));
      sound = sound_as e u m r is call.sound;
      ranged = on_ok r (subst IsContentRanged (sym is) tt);
      err = refused_as e u m r is (g.W.Writer.meaning c.write_info_reference.new.w) call.err;
      same = call.same;
    }
