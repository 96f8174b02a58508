use Rattle.std.proofs.Common.{◌≡◌, ◌∙◌, sym, ap, subst, ◌+◌, ◌^◌, ◌<◌, ◌++◌, ◌∷◌, [], List, Option, Some, Ok, map, true, false, refl, arith, ◌==◌, ◌||◌, get_or}
use Rattle.std.proofs.lemmas.List.{map-append}
use Rattle.std.proofs.lemmas.Result.{err_from_is_err_and}
use Rattle.dw_base.specs.declared.ids.UnitEntryId.{UnitEntryId}
use Rattle.dw_entry_ids.specs.KeptRows.{keep_of}
use Rattle.dw_entry_ids.specs.KeptWalk.{HandsOutKept}
use Rattle.dw_entry_ids.specs.UnitWalk.{WalksOn}
use Rattle.dw_entry_ids.specs.declared.kept_rows.KeptRows.{KeptRows}
use Rattle.dw_entry_ids.proofs.KeptSteps.{hands, place_within, room}
use Rattle.dw_entry_ids.proofs.kept_rows.KeptRows.next.Goals as goal

pub returns-in_err-parent-clause-walks : goal.returns-in_err-parent-clause-walks
returns-in_err-parent-clause-walks g c = λ u kept front rest s.
    let p = err_from_is_err_and c.from_residual.result c.from_residual.ensures.1 in
    rw (p.1, p.2) (c.in_err-parent.ensures.walks u front rest s.rows)

pub returns-in_default-clause-walks : goal.returns-in_default-clause-walks
returns-in_default-clause-walks g c = λ u kept front rest s.
    subst (λ (o : Option (UnitEntryId × UnitEntryId)). WalksOn g.R.Reader.reading u front rest c.next.new.self c.next.new.entry (Ok o)) c.in_default.is (c.in_ok-parent.ensures.walks u front rest s.rows)

pub returns-then-not-keeps_numbered-clause-walks : goal.returns-then-not-keeps_numbered-clause-walks
returns-then-not-keeps_numbered-clause-walks g c = λ u kept front rest s.
    let reading = g.R.Reader.reading in
    let old = c.args.self.now in
    let new : KeptRows _ _ = record { rows = c.next.new.self; kept = old.kept; start = old.start; count = old.count; images = c.push.new.self } in
    let entry = c.next.new.entry in
    let w = subst (λ (o : Option (UnitEntryId × UnitEntryId)). WalksOn reading u front rest c.next.new.self entry (Ok o)) c.in-Some.is (c.in_ok-parent.ensures.walks u front rest s.rows) in
    let within : old.start + entry.offset.0 < 2 ^ 64 = place_within reading u kept old new front rest s entry c.in-Some.field-0-0.0 c.in-Some.parent.0 w.0 (g.met.R.Reader.is_reading u.header.body) in
    let place : c.saturating_add.result ≡ old.start + entry.offset.0 = omega (arith, within, c.saturating_add.ensures) in
    let none : old.count + 0 ≡ old.count = omega arith in
    let above = c.image_of-parent.ensures ∙ ap (λ (xs : List UnitEntryId). get_or (map (λ (i : UnitEntryId). i.0) xs) c.in-Some.parent.0 0) c.deref.ensures.value in (
      hands reading u kept old new front rest s entry c.in-Some.field-0-0.0 c.in-Some.parent.0 w.0 false c.image_of-parent.result.0
          (sym c.if-not-keeps_numbered.true ∙ c.keeps_numbered.ensures ∙ ap (λ n. n == 0 || keep_of old.kept.now c.saturating_add.result) c.new-id.ensures ∙ ap (λ n. old.count == 0 || keep_of old.kept.now n) place)
          above refl refl (sym none)
          (ap (λ (xs : List UnitEntryId). map (λ (i : UnitEntryId). i.0) xs) c.in_ok-push.ensures.items ∙ map-append (λ (i : UnitEntryId). i.0) old.images.items (c.image_of-parent.result ∷ [])),
      w.1,
    )

pub returns-clause-walks : goal.returns-clause-walks
returns-clause-walks g c = λ u kept front rest s.
    let reading = g.R.Reader.reading in
    let old = c.args.self.now in
    let new : KeptRows _ _ = record { rows = c.next.new.self; kept = old.kept; start = old.start; count = c.saturating_add-self.result; images = c.push-2.new.self } in
    let entry = c.next.new.entry in
    let w = subst (λ (o : Option (UnitEntryId × UnitEntryId)). WalksOn reading u front rest c.next.new.self entry (Ok o)) c.in-Some.is (c.in_ok-parent.ensures.walks u front rest s.rows) in
    let within : old.start + entry.offset.0 < 2 ^ 64 = place_within reading u kept old new front rest s entry c.in-Some.field-0-0.0 c.in-Some.parent.0 w.0 (g.met.R.Reader.is_reading u.header.body) in
    let place : c.saturating_add.result ≡ old.start + entry.offset.0 = omega (arith, within, c.saturating_add.ensures) in
    let fits : old.count + 1 < 2 ^ 64 = room reading u kept old new front rest s entry c.in-Some.field-0-0.0 c.in-Some.parent.0 w.0 (g.met.R.Reader.is_reading c.next.new.self.rows.input) in
    let count : c.saturating_add-self.result ≡ old.count + 1 = omega (arith, fits, c.saturating_add-self.ensures) in
    let above = c.image_of-parent.ensures ∙ ap (λ (xs : List UnitEntryId). get_or (map (λ (i : UnitEntryId). i.0) xs) c.in-Some.parent.0 0) c.deref.ensures.value in (
      subst (λ n. HandsOutKept reading u kept front rest new entry (Some (record { 0 = n })) c.image_of-parent.result.0) (sym c.new-id.ensures)
          (hands reading u kept old new front rest s entry c.in-Some.field-0-0.0 c.in-Some.parent.0 w.0 true c.image_of-parent.result.0
          (sym c.if-not-keeps_numbered.false ∙ c.keeps_numbered.ensures ∙ ap (λ n. n == 0 || keep_of old.kept.now c.saturating_add.result) c.new-id.ensures ∙ ap (λ n. old.count == 0 || keep_of old.kept.now n) place)
          above refl refl count
          (ap (λ (xs : List UnitEntryId). map (λ (i : UnitEntryId). i.0) xs) c.in_ok-push-2.ensures.items ∙ map-append (λ (i : UnitEntryId). i.0) old.images.items (c.new-id.result ∷ []) ∙ ap (λ n. map (λ (i : UnitEntryId). i.0) old.images.items ++ n ∷ []) c.new-id.ensures)),
      w.1,
    )
