use Rattle.std.proofs.Common.{◌≡◌, ◌∙◌, ◌++◌, ◌∷◌, [], ◌≤◌, ℕ, Some, length, take, slice_get, ⊎_elim, inl, inr, ◌↔◌, sym, ap, subst, arith}
use Rattle.std.specs.Option.{unwrap_or}
use Rattle.std.proofs.lemmas.List.{length-take, take_all, take_more}
use Rattle.std.proofs.lemmas.Option.{slice_get-get_or, unwrap_or-slice_get}
use Rattle.dw_base.specs.declared.offsets.UnitSectionOffset.{UnitSectionOffset}
use Rattle.dw_filter.specs.Dependencies.{Known, Leads, targets}
use Rattle.dw_filter.specs.FileGraph.{IsWhole, KnownIn, LeadsIn, count_at}
use Rattle.dw_filter.specs.Links.{AddsUnit, RefusesUnit}
use Rattle.dw_filter.proofs.FileSteps.{FileSoFar, file_more, file_none, places_missed, rows_missed}
use Rattle.dw_filter.proofs.Handing.{handed_on}
use Rattle.dw_filter.proofs.file_graph.read_units.Goals as goal

pub units-init : goal.units-init
units-init g c = file_none g.R.Reader.reading c.args.counts.now c.args.dwarf.now c.new-dependencies.result c.new-dependencies.ensures.known c.new-dependencies.ensures.required

pub add_unit-requires : goal.add_unit-requires
add_unit-requires g c = subst (λ u. u.header.offset.0 ≤ (g.R.Reader.reading u.header.body).place) (sym c.index-units-index.is) (c.requires c.units.index c.index-units-index.result c.units-test.true)

pub returns-in_err-add_unit-clause-err : goal.returns-in_err-add_unit-clause-err
returns-in_err-add_unit-clause-err g c =
    let reading = g.R.Reader.reading in
    let i = c.units.index in
    let u = c.index-units-index.result in
    let e = c.in_err-add_unit.field-0.0 in
    let stands : slice_get c.args.units.now i ≡ Some u = slice_get-get_or c.args.units.now i u c.units-test.true ∙ ap (λ x. Some x) (sym c.index-units-index.is) in
    let count : c.unwrap_or-count.result ≡ count_at c.args.counts.now i = c.unwrap_or-count.ensures ∙ ap (λ o. unwrap_or o 0) c.copied.ensures ∙ c.get.ensures.lookup.4 (omega arith) 0 ∙ sym (unwrap_or-slice_get c.args.counts.now i 0) in
    handed_on c.from_residual.result e _ c.from_residual.ensures
    (⊎_elim (λ n. inl n) (λ h. inr (⊎_elim
    (λ m. inl (rows_missed reading c.args.counts.now c.args.dwarf.now c.args.units.now i u stands e m))
    (λ m. inr (places_missed reading c.args.counts.now c.args.dwarf.now c.args.units.now i u stands e (subst (λ (n : ℕ). RefusesUnit reading c.args.dwarf.now u n e) count m))) h)) c.in_err-add_unit.ensures.err)

pub units-preserved : goal.units-preserved
units-preserved g c =
    let reading = g.R.Reader.reading in
    let i = c.units.index in
    let u = c.index-units-index.result in
    let within = c.units-test.true in
    let long : length (take i c.args.units.now) ≡ i = omega (arith, within, length-take i c.args.units.now) in
    let count : c.unwrap_or-count.result ≡ count_at c.args.counts.now (length (take i c.args.units.now)) =
    c.unwrap_or-count.ensures ∙ ap (λ o. unwrap_or o 0) c.copied.ensures ∙ c.get.ensures.lookup.4 (omega arith) 0 ∙ sym (unwrap_or-slice_get c.args.counts.now i 0) ∙ ap (λ (n : ℕ). count_at c.args.counts.now n) (sym long) in
    subst (λ us. FileSoFar reading c.args.counts.now c.args.dwarf.now us c.add_unit.new.dependencies) (ap (λ x. take i c.args.units.now ++ x ∷ []) c.index-units-index.is ∙ sym (take_more c.args.units.now i u within))
    (file_more reading c.args.counts.now c.args.dwarf.now (take i c.args.units.now) u c.units.dependencies c.add_unit.new.dependencies c.units.invariant
    (subst (λ (n : ℕ). AddsUnit reading c.args.dwarf.now u n c.units.dependencies c.add_unit.new.dependencies) count c.in_ok-add_unit.ensures.ok))

pub returns-clause-known : goal.returns-clause-known
returns-clause-known g c =
    subst (λ us. (q : UnitSectionOffset) → Known (targets c.units.dependencies) q ↔ KnownIn g.R.Reader.reading us c.args.counts.now q) (take_all c.units.index c.args.units.now c.units-test.false) c.units.invariant.known

pub returns-clause-leads : goal.returns-clause-leads
returns-clause-leads g c =
    subst (λ us. (p q : UnitSectionOffset) → Leads (targets c.units.dependencies) p q ↔ LeadsIn g.R.Reader.reading c.args.dwarf.now us c.args.counts.now p q) (take_all c.units.index c.args.units.now c.units-test.false) c.units.invariant.leads

pub returns-clause-whole : goal.returns-clause-whole
returns-clause-whole g c = subst (λ us. IsWhole g.R.Reader.reading c.args.dwarf.now us c.args.counts.now) (take_all c.units.index c.args.units.now c.units-test.false) c.units.invariant.whole
