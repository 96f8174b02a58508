use Rattle.std.proofs.Common.{◌≡◌, ◌⊎◌, ◌∙◌, sym, ap, subst, List, Option, IfSome, IfOk, IfErr, Result, Ok, ⊎_elim, inl, inr, arith}
use Rattle.dw_base.specs.declared.ids.UnitEntryId.{UnitEntryId}
use Rattle.dw_base.specs.declared.offsets.UnitSectionOffset.{UnitSectionOffset}
use Rattle.dw_entry_ids.specs.AnyUnit.{WalksAmong}
use Rattle.dw_sources.specs.ConvertErrors.{from_read}
use Rattle.dw_filter.specs.Dependencies.{Known, targets}
use Rattle.dw_sources.specs.declared.convert_error.ConvertError.{ConvertError}
use Rattle.dw_sources.specs.declared.convert_error.ConvertError.TheVariants.{NoMemory}
use Rattle.dw_filter.specs.Links.{AreLinks, RefusesLinks, parent_at}
use Rattle.dw_filter.specs.declared.links.Links.{Links}
use Rattle.dw_filter.specs.declared.links.Parent.{Parent}
use Rattle.dw_filter.proofs.Handing.{handed_on, passed_on}
use Rattle.dw_filter.proofs.UnitReading.{among_now, one_fewer, parent_known, room_here, so_far_end, so_far_enough, so_far_more, so_far_none, so_far_refused, so_far_root, stopped}
use Rattle.dw_filter.proofs.file_graph.add_unit.Goals as goal

pub rows-init : goal.rows-init
rows-init g c =
    so_far_none g.R.Reader.reading c.args.unit c.args.count c.args.dependencies.now c.new-rows.result c.new-read.result.items c.new-read.ensures.items (g.met.R.Reader.is_reading c.args.unit.unit.now.header.body) c.requires (c.new-rows.ensures.among c.requires)

pub returns-in_err-id-clause-err : goal.returns-in_err-id-clause-err
returns-in_err-id-clause-err g c =
    let w = c.rows.invariant in
    let reading = g.R.Reader.reading in
    let u = c.args.unit.unit.now in
    let e = c.in_err-id.field-0.0 in
    handed_on c.from_residual.result (from_read e) _ c.from_residual.ensures
    (⊎_elim (λ n. inl n) (λ r. inr (inl r)) (stopped reading u c.rows.rows w.front w.rest w.fault w.stands e (c.in_err-id.ensures.reads u w.front w.rest w.fault w.stands)))

pub pass_rest-requires : goal.pass_rest-requires
pass_rest-requires g c =
    let reading = g.R.Reader.reading in
    let u = c.args.unit.unit.now in
    let w = c.rows.invariant in
    let s = subst (λ (o : Option (UnitEntryId × UnitEntryId)). WalksAmong reading u w.front w.rest w.fault c.next.new.self c.next.new.entry (Ok o)) c.in-Some.is (c.in_ok-id.ensures.reads u w.front w.rest w.fault w.stands) in
    among_now reading c.args.unit c.args.count c.args.dependencies.now c.rows.rows c.next.new.self c.rows.read.items c.rows.dependencies w c.next.new.entry c.in-Some.id.0 c.in-Some.parent.0 s

pub returns-then-index-count-clause-ok : goal.returns-then-index-count-clause-ok
returns-then-index-count-clause-ok g c =
    let reading = g.R.Reader.reading in
    let u = c.args.unit.unit.now in
    let w = c.rows.invariant in
    let s = subst (λ (o : Option (UnitEntryId × UnitEntryId)). WalksAmong reading u w.front w.rest w.fault c.next.new.self c.next.new.entry (Ok o)) c.in-Some.is (c.in_ok-id.ensures.reads u w.front w.rest w.fault w.stands) in
    passed_on c.pass_rest.result c.pass_rest.ensures.ok (so_far_enough reading c.args.unit c.args.count c.args.dependencies.now c.rows.rows c.next.new.self c.rows.read.items c.rows.dependencies w c.next.new.entry c.in-Some.id.0 c.in-Some.parent.0 s (omega (arith, c.if-index-count.true, c.index.ensures)))

pub as_parent-seen-requires : goal.as_parent-seen-requires
as_parent-seen-requires g c =
    let reading = g.R.Reader.reading in
    let u = c.args.unit.unit.now in
    let w = c.rows.invariant in
    let s = subst (λ (o : Option (UnitEntryId × UnitEntryId)). WalksAmong reading u w.front w.rest w.fault c.next.new.self c.next.new.entry (Ok o)) c.in-Some.is (c.in_ok-id.ensures.reads u w.front w.rest w.fault w.stands) in
    room_here reading c.args.unit c.args.count c.args.dependencies.now c.rows.rows c.next.new.self c.rows.read.items c.rows.dependencies w c.next.new.entry c.in-Some.id.0 c.in-Some.parent.0 s

pub rows-smaller-then-index-eq0 : goal.rows-smaller-then-index-eq0
rows-smaller-then-index-eq0 g c =
    let reading = g.R.Reader.reading in
    let u = c.args.unit.unit.now in
    let w = c.rows.invariant in
    let s = subst (λ (o : Option (UnitEntryId × UnitEntryId)). WalksAmong reading u w.front w.rest w.fault c.next.new.self c.next.new.entry (Ok o)) c.in-Some.is (c.in_ok-id.ensures.reads u w.front w.rest w.fault w.stands) in
    one_fewer reading c.args.unit c.args.count c.args.dependencies.now c.rows.rows c.next.new.self c.rows.read.items c.rows.dependencies w c.next.new.entry c.in-Some.id.0 c.in-Some.parent.0 s (omega (arith, c.if-index-count.false, c.index.ensures))

pub rows-preserved-then-index-eq0 : goal.rows-preserved-then-index-eq0
rows-preserved-then-index-eq0 g c =
    let reading = g.R.Reader.reading in
    let u = c.args.unit.unit.now in
    let w = c.rows.invariant in
    let s = subst (λ (o : Option (UnitEntryId × UnitEntryId)). WalksAmong reading u w.front w.rest w.fault c.next.new.self c.next.new.entry (Ok o)) c.in-Some.is (c.in_ok-id.ensures.reads u w.front w.rest w.fault w.stands) in
    so_far_root reading c.args.unit c.args.count c.args.dependencies.now c.rows.rows c.next.new.self c.rows.read.items c.rows.dependencies w c.next.new.entry c.in-Some.id.0 c.in-Some.parent.0 s c.as_parent-seen.result c.push.new.self.items c.as_parent-seen.ensures.place c.as_parent-seen.ensures.tag c.in_ok-push.ensures.items (omega (arith, c.if-index-eq0.true, c.index-in-Some.ensures))

pub pass_rest-requires-in-Err : goal.pass_rest-requires-in-Err
pass_rest-requires-in-Err g c =
    let reading = g.R.Reader.reading in
    let u = c.args.unit.unit.now in
    let w = c.rows.invariant in
    let s = subst (λ (o : Option (UnitEntryId × UnitEntryId)). WalksAmong reading u w.front w.rest w.fault c.next.new.self c.next.new.entry (Ok o)) c.in-Some.is (c.in_ok-id.ensures.reads u w.front w.rest w.fault w.stands) in
    among_now reading c.args.unit c.args.count c.args.dependencies.now c.rows.rows c.next.new.self c.rows.read.items c.rows.dependencies w c.next.new.entry c.in-Some.id.0 c.in-Some.parent.0 s

pub returns-in-Err-clause-err : goal.returns-in-Err-clause-err
returns-in-Err-clause-err g c =
    let reading = g.R.Reader.reading in
    let u = c.args.unit.unit.now in
    let w = c.rows.invariant in
    let s = subst (λ (o : Option (UnitEntryId × UnitEntryId)). WalksAmong reading u w.front w.rest w.fault c.next.new.self c.next.new.entry (Ok o)) c.in-Some.is (c.in_ok-id.ensures.reads u w.front w.rest w.fault w.stands) in
    let e = c.in-Err.error in
    let refused = subst (λ (r : Result Links ConvertError). IfErr r (λ e. (e ≡ NoMemory) ⊎ RefusesLinks reading c.args.unit c.next.new.entry e)) c.in-Err.is c.links_of.ensures.err in
    ⊎_elim (λ n. inl n) (λ r. inr (inr (so_far_refused reading c.args.unit c.args.count c.args.dependencies.now c.rows.rows c.next.new.self c.rows.read.items c.rows.dependencies w c.next.new.entry c.in-Some.id.0 c.in-Some.parent.0 s c.as_parent-seen.result c.push.new.self.items c.as_parent-seen.ensures.place c.as_parent-seen.ensures.tag c.in_ok-push.ensures.items (omega (arith, c.if-index-eq0.false, c.index-in-Some.ensures)) (omega (arith, c.if-index-count.false, c.index.ensures)) c.parent_at-parent.result (c.parent_at-parent.ensures ∙ ap (λ (xs : List Parent). parent_at xs c.in-Some.parent.0) c.deref.ensures.value) c.in_ok-pass_rest-in-Err.ensures.ok e r))) refused

pub add_links-requires : goal.add_links-requires
add_links-requires g c =
    let reading = g.R.Reader.reading in
    let u = c.args.unit.unit.now in
    let w = c.rows.invariant in
    let s = subst (λ (o : Option (UnitEntryId × UnitEntryId)). WalksAmong reading u w.front w.rest w.fault c.next.new.self c.next.new.entry (Ok o)) c.in-Some.is (c.in_ok-id.ensures.reads u w.front w.rest w.fault w.stands) in
    let links = subst (λ (r : Result Links ConvertError). IfOk r (AreLinks reading c.args.unit c.next.new.entry c.as_parent-seen.result.place c.parent_at-parent.result)) c.in-Ok.is c.links_of.ensures.ok in
    subst (λ (o : Option UnitSectionOffset). IfSome o (λ p. Known (targets c.rows.dependencies) p)) (sym links.parent)
    (parent_known reading c.args.unit c.args.count c.args.dependencies.now c.rows.rows c.next.new.self c.rows.read.items c.rows.dependencies w c.next.new.entry c.in-Some.id.0 c.in-Some.parent.0 s c.as_parent-seen.result c.push.new.self.items c.as_parent-seen.ensures.place c.as_parent-seen.ensures.tag c.in_ok-push.ensures.items (omega (arith, c.if-index-eq0.false, c.index-in-Some.ensures)) (omega (arith, c.if-index-count.false, c.index.ensures)) c.parent_at-parent.result (c.parent_at-parent.ensures ∙ ap (λ (xs : List Parent). parent_at xs c.in-Some.parent.0) c.deref.ensures.value))

pub rows-smaller : goal.rows-smaller
rows-smaller g c =
    let reading = g.R.Reader.reading in
    let u = c.args.unit.unit.now in
    let w = c.rows.invariant in
    let s = subst (λ (o : Option (UnitEntryId × UnitEntryId)). WalksAmong reading u w.front w.rest w.fault c.next.new.self c.next.new.entry (Ok o)) c.in-Some.is (c.in_ok-id.ensures.reads u w.front w.rest w.fault w.stands) in
    one_fewer reading c.args.unit c.args.count c.args.dependencies.now c.rows.rows c.next.new.self c.rows.read.items c.rows.dependencies w c.next.new.entry c.in-Some.id.0 c.in-Some.parent.0 s (omega (arith, c.if-index-count.false, c.index.ensures))

pub rows-preserved : goal.rows-preserved
rows-preserved g c =
    let reading = g.R.Reader.reading in
    let u = c.args.unit.unit.now in
    let w = c.rows.invariant in
    let s = subst (λ (o : Option (UnitEntryId × UnitEntryId)). WalksAmong reading u w.front w.rest w.fault c.next.new.self c.next.new.entry (Ok o)) c.in-Some.is (c.in_ok-id.ensures.reads u w.front w.rest w.fault w.stands) in
    let links = subst (λ (r : Result Links ConvertError). IfOk r (AreLinks reading c.args.unit c.next.new.entry c.as_parent-seen.result.place c.parent_at-parent.result)) c.in-Ok.is c.links_of.ensures.ok in
    so_far_more reading c.args.unit c.args.count c.args.dependencies.now c.rows.rows c.next.new.self c.rows.read.items c.rows.dependencies w c.next.new.entry c.in-Some.id.0 c.in-Some.parent.0 s c.as_parent-seen.result c.push.new.self.items c.as_parent-seen.ensures.place c.as_parent-seen.ensures.tag c.in_ok-push.ensures.items (omega (arith, c.if-index-eq0.false, c.index-in-Some.ensures)) (omega (arith, c.if-index-count.false, c.index.ensures)) c.parent_at-parent.result (c.parent_at-parent.ensures ∙ ap (λ (xs : List Parent). parent_at xs c.in-Some.parent.0) c.deref.ensures.value) c.in-Ok.links c.add_links.new.dependencies links c.in_ok-add_links.ensures.ok

pub returns-clause-ok : goal.returns-clause-ok
returns-clause-ok g c =
    let reading = g.R.Reader.reading in
    let u = c.args.unit.unit.now in
    let w = c.rows.invariant in
    let h = subst (λ (o : Option (UnitEntryId × UnitEntryId)). WalksAmong reading u w.front w.rest w.fault c.next.new.self c.next.new.entry (Ok o)) c.in_default.is (c.in_ok-id.ensures.reads u w.front w.rest w.fault w.stands) in
    so_far_end reading c.args.unit c.args.count c.args.dependencies.now c.rows.rows c.next.new.self c.rows.read.items c.rows.dependencies w h
