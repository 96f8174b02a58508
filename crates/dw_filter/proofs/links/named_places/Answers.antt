use Rattle.std.proofs.Common.{◌≡◌, ◌∙◌, [], List, ap, map, not, subst, inl, inr, ⊎_elim, rules}
use Rattle.std.proofs.lemmas.List.Elements.{filter_from_retain}
use Rattle.dw_base.specs.declared.offsets.UnitSectionOffset.{UnitSectionOffset}
use Rattle.dw_filter.proofs.Handing.{handed_on}
use Rattle.dw_filter.specs.AttributePlaces.{AddsAttributes, RefusesOne, Seen, seen}
use Rattle.dw_filter.specs.Links.{counting_of}
use Rattle.dw_sources.specs.Dropped.{is_left_out}
use Rattle.dw_filter.proofs.links.named_places.Goals as goal

pub returns-in_err-add_entry_places-clause-err : goal.returns-in_err-add_entry_places-clause-err
returns-in_err-add_entry_places-clause-err g c =
    let e = c.in_err-add_entry_places.field-0.0 in
    let counts : map (seen g.R.Reader.reading) c.deref.result.now ≡ counting_of g.R.Reader.reading c.args.entry.now = ap (map (seen g.R.Reader.reading)) (c.deref.ensures.value ∙ filter_from_retain _ (λ a. not (is_left_out a.name.0)) (λ p x b q r. search rules) _ _ _ c.retain.ensures.filtered) in
    handed_on c.from_residual-in_err-add_entry_places.result e _ c.from_residual-in_err-add_entry_places.ensures
    (⊎_elim (λ n. inl n) (λ h. inr (record {
      places = c.add_entry_places.new.places.items;
      refuses = subst (λ (xs : List Seen). RefusesOne g.R.Reader.reading c.args.unit xs [] c.add_entry_places.new.places.items e) counts
          (subst (λ (ys : List UnitSectionOffset). RefusesOne g.R.Reader.reading c.args.unit (map (seen g.R.Reader.reading) c.deref.result.now) ys c.add_entry_places.new.places.items e) c.in_ok-places.ensures.items h);
    })) c.in_err-add_entry_places.ensures.err)

pub returns-clause-ok : goal.returns-clause-ok
returns-clause-ok g c =
    let counts : map (seen g.R.Reader.reading) c.deref.result.now ≡ counting_of g.R.Reader.reading c.args.entry.now = ap (map (seen g.R.Reader.reading)) (c.deref.ensures.value ∙ filter_from_retain _ (λ a. not (is_left_out a.name.0)) (λ p x b q r. search rules) _ _ _ c.retain.ensures.filtered) in
    subst (λ (xs : List Seen). AddsAttributes g.R.Reader.reading c.args.unit xs [] c.add_entry_places.new.places.items) counts
    (subst (λ (ys : List UnitSectionOffset). AddsAttributes g.R.Reader.reading c.args.unit (map (seen g.R.Reader.reading) c.deref.result.now) ys c.add_entry_places.new.places.items) c.in_ok-places.ensures.items c.in_ok-add_entry_places.ensures.ok)
