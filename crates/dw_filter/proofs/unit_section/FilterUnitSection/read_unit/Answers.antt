use Rattle.std.proofs.Common.{◌≡◌, ◌∙◌, sym, ap, subst, ◌+◌, [], ◌∷◌, Bool, Ok, inl, refl, arith}
use Rattle.dw_entry_ids.specs.Ids.{entry_count, is_entry}
use Rattle.dw_filter.proofs.SectionSteps.{last_is, one_entry, rooted_next}
use Rattle.dw_filter.specs.FilterSections.{IsNextUnit, KeepsUnit}
use Rattle.dw_filter.proofs.unit_section.FilterUnitSection.read_unit.Goals as goal

pub returns-in-Err : goal.returns-in-Err
returns-in-Err g c =
    let reading = g.R.Reader.reading in
    let old = c.args.self.now in
    let new = c.keep_unit.new.self in
    let k = subst (λ (b : Bool). KeepsUnit reading old new (Ok b)) c.if-not-branch.false c.in_ok-keep_unit.ensures.keeps in
    let unit_is : c.index-unit.result.now ≡ k.unit = last_is new.units.items old.units.items k.unit c.index-unit.result.now c.len.result k.units (c.len.ensures ∙ new.units.ok.0) c.index-unit.ensures in
    let r = rooted_next reading old c.index-unit.result.now (subst (λ u. IsNextUnit reading old u) (sym unit_is) k.next) in
    (k.next.going, inl (c.in-Err.ensures r.root r.rest r.fault r.has))

pub returns : goal.returns
returns g c =
    let reading = g.R.Reader.reading in
    let old = c.args.self.now in
    let new = c.keep_unit.new.self in
    let k = subst (λ (b : Bool). KeepsUnit reading old new (Ok b)) c.if-not-branch.false c.in_ok-keep_unit.ensures.keeps in
    let unit_is : c.index-unit.result.now ≡ k.unit = last_is new.units.items old.units.items k.unit c.index-unit.result.now c.len.result k.units (c.len.ensures ∙ new.units.ok.0) c.index-unit.ensures in
    let count_is : c.index_mut.result.now ≡ 0 = last_is new.counts.items old.counts.items 0 c.index_mut.result.now c.len-last.result k.counts (c.len-last.ensures ∙ new.counts.ok.0) c.index_mut.ensures.value in
    let next = subst (λ u. IsNextUnit reading old u) (sym unit_is) k.next in
    let r = rooted_next reading old c.index-unit.result.now next in
    let b = c.in-Ok.ensures r.root r.rest r.fault r.has in
    let one : entry_count (r.root ∷ []) ≡ 0 + 1 = one_entry (is_entry r.root.mark) 0 r.has.is_root in
    record {
      next = next;
      dwarf = ap (λ x. x.dwarf) k.others;
      skeleton = ap (λ x. x.skeleton_unit) k.others;
      root = r.root;
      rest = r.rest;
      fault = r.fault;
      is_root = r.has.is_root;
      stands = record { rows = b.stands; seen = b.seen; counted = omega (arith, one, count_is); going = refl };
      required = ap (λ x. x.required.items) k.others;
    }
