use Rattle.std.proofs.Common.{◌∙◌, sym, ap, refl}
use Rattle.dw_link.proofs.Held.{held, held_beside}
use Rattle.dw_link_frames.specs.Placed.{kind_of}
use Rattle.dw_link_frames.specs.Outcome.{not_linked}
use Rattle.dw_link_frames.proofs.Joining.{joined_text, others_empty}
use Rattle.dw_link_frames.proofs.Telling.{tables_read}
use Rattle.dw_link_frames.proofs.Complete.{valid_there}
use Rattle.dw_link_frames.proofs.Knowing.{there_linked}
use Rattle.dw_link_frames.proofs.Steps.{not_linked_by, none_mixed}
use Rattle.dw_link_frames.proofs.tables.link_tables.Goals as goal

pub returns-in-Ok-clause-text : goal.returns-in-Ok-clause-text
returns-in-Ok-clause-text g c =
    let written = rw c.as_slice.ensures.value at c.in_ok-sets.ensures.ok in
    joined_text (held_beside g.E.Endianity.is_big) (held g.E.Endianity.is_big) (g.E.Endianity.is_big c.args.endian) (kind_of c.args.eh_frame) c.args.symbols.now.items c.args.tables.now.items c.in_ok-sets.sets.items c.in-Ok.joined
    (λ x. (x.bytes.items, refl)) written c.in-Ok.ensures.parts

pub returns-in-Ok-clause-read : goal.returns-in-Ok-clause-read
returns-in-Ok-clause-read g c =
    let big = g.E.Endianity.is_big c.args.endian in
    let written = rw c.as_slice.ensures.value at c.in_ok-sets.ensures.ok in
    let told = rw c.as_slice.ensures.value at c.in_ok-sets.ensures.told in
    let text = joined_text (held_beside g.E.Endianity.is_big) (held g.E.Endianity.is_big) big (kind_of c.args.eh_frame) c.args.symbols.now.items c.args.tables.now.items c.in_ok-sets.sets.items c.in-Ok.joined (λ x. (x.bytes.items, refl)) written c.in-Ok.ensures.parts in
    λ free valid w is bytes told_bytes. tables_read (kind_of c.args.eh_frame) c.args.symbols.now.items big c.args.tables.now.items 0 bytes told (sym (text free valid w is) ∙ told_bytes)

pub returns-in-Ok-clause-others : goal.returns-in-Ok-clause-others
returns-in-Ok-clause-others g c =
    let written = rw c.as_slice.ensures.value at c.in_ok-sets.ensures.ok in
    others_empty (held_beside g.E.Endianity.is_big) (held g.E.Endianity.is_big) (g.E.Endianity.is_big c.args.endian) (kind_of c.args.eh_frame) c.args.symbols.now.items c.args.tables.now.items c.in_ok-sets.sets.items c.in-Ok.joined written c.in-Ok.ensures.parts

pub returns-clause-err : goal.returns-clause-err
returns-clause-err g c =
    let written = rw c.as_slice.ensures.value at c.in_ok-sets.ensures.ok in
    let taken = rw c.as_slice.ensures.value at c.in_ok-sets.ensures.sound in
    rw c.not_linked.ensures (not_linked_by (held_beside g.E.Endianity.is_big) (g.E.Endianity.is_big c.args.endian) (kind_of c.args.eh_frame) c.args.tables.now.items c.args.symbols.now.items c.in_ok-sets.sets.items c.in-Err.error taken written c.in-Err.ensures.err)

pub returns-clause-fitting : goal.returns-clause-fitting
returns-clause-fitting g c =
    let written = rw c.as_slice.ensures.value at c.in_ok-sets.ensures.ok in
    let big = g.E.Endianity.is_big c.args.endian in
    λ taken there.
    c.not_linked.ensures ∙ ap not_linked (c.in-Err.ensures.complete
    (none_mixed (held_beside g.E.Endianity.is_big) big (kind_of c.args.eh_frame) c.args.tables.now.items c.in_ok-sets.sets.items written)
    (there_linked (held_beside g.E.Endianity.is_big) big (kind_of c.args.eh_frame) c.args.symbols.now.items c.args.tables.now.items c.in_ok-sets.sets.items written there))

pub returns-clause-complete : goal.returns-clause-complete
returns-clause-complete g c =
    λ taken free valid.
    returns-clause-fitting g c taken (valid_there (g.E.Endianity.is_big c.args.endian) (kind_of c.args.eh_frame) c.args.symbols.now.items c.args.tables.now.items 0 taken free valid)
