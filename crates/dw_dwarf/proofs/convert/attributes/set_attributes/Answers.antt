use Rattle.std.proofs.Common.{◌≡◌, ◌∙◌, sym, ap, subst, ℕ, ◌<◌, map, arith}
use Rattle.std.proofs.lemmas.Iterator.Adapters.{YieldsList-from_vec}
use Rattle.std.proofs.lemmas.Iterator.Consumers.{YieldsList-turn, YieldsList-so_far, YieldsList-end}
use Rattle.std.proofs.lemmas.List.{map-id}
use Rattle.dw_base.specs.declared.constants.DwAt.{DwAt}
use Rattle.dw_tree.specs.UnitValue.{with_entry}
use Rattle.dw_entries.specs.Entries.{with_attribute, with_attributes}
use Rattle.dw_dwarf.specs.ConvertedEntries.{Values, attribute_of}
use Rattle.dw_dwarf.proofs.Setting.{unit_none_set, unit_more_set, fresh_name, absent_so_far, set_count}
use Rattle.std.proofs.lemmas.Result.{err_from_is_err_and}
use Rattle.dw_dwarf.proofs.convert.attributes.set_attributes.Goals as goal

pub attributes-init : goal.attributes-init
attributes-init c = record {
  same_unit = c.reserve.ensures.same_unit;
  index = c.reserve.ensures.index;
  is = c.reserve.ensures.unit ∙ unit_none_set c.args.entry.now.unit.now c.args.entry.now.index c.requires.none;
}

pub push-requires-clause-named : goal.push-requires-clause-named
push-requires-clause-named c =
    let i = c.into_iter-name-iterator.ensures.into_iter_gives in
    let road = YieldsList-from_vec c.args.attributes.items i.0 (i.1 ∙ c.args.attributes.ok.0) in
    let so_far = YieldsList-so_far road c.attributes.yielded c.attributes.name-iterator c.attributes.yielded_by in
    let turn = YieldsList-turn road c.attributes.yielded c.attributes.name-iterator c.attributes.yielded_by c.next.result c.next.new.self (c.in-Some.name, c.in-Some.value) c.in-Some.is c.next.ensures.steps in
    let fresh = fresh_name c.args.attributes.items c.attributes.yielded (c.in-Some.name, c.in-Some.value) (sym (map-id c.attributes.yielded) ∙ so_far) turn.0 turn.1 c.requires.distinct in
    let own : 1 < c.in-Some.name.0 = fresh.0 in
    λ (z : c.in-Some.name.0 ≡ 0). omega (arith, own, z)

pub push-requires-clause-not_sibling : goal.push-requires-clause-not_sibling
push-requires-clause-not_sibling c =
    let i = c.into_iter-name-iterator.ensures.into_iter_gives in
    let road = YieldsList-from_vec c.args.attributes.items i.0 (i.1 ∙ c.args.attributes.ok.0) in
    let so_far = YieldsList-so_far road c.attributes.yielded c.attributes.name-iterator c.attributes.yielded_by in
    let turn = YieldsList-turn road c.attributes.yielded c.attributes.name-iterator c.attributes.yielded_by c.next.result c.next.new.self (c.in-Some.name, c.in-Some.value) c.in-Some.is c.next.ensures.steps in
    let fresh = fresh_name c.args.attributes.items c.attributes.yielded (c.in-Some.name, c.in-Some.value) (sym (map-id c.attributes.yielded) ∙ so_far) turn.0 turn.1 c.requires.distinct in
    let own : 1 < c.in-Some.name.0 = fresh.0 in
    λ e. (let z : c.in-Some.name.0 ≡ 1 = ap (λ (n : DwAt). n.0) e in omega (arith, own, z))

pub push-requires-clause-absent : goal.push-requires-clause-absent
push-requires-clause-absent c =
    let i = c.into_iter-name-iterator.ensures.into_iter_gives in
    let road = YieldsList-from_vec c.args.attributes.items i.0 (i.1 ∙ c.args.attributes.ok.0) in
    let so_far = YieldsList-so_far road c.attributes.yielded c.attributes.name-iterator c.attributes.yielded_by in
    let turn = YieldsList-turn road c.attributes.yielded c.attributes.name-iterator c.attributes.yielded_by c.next.result c.next.new.self (c.in-Some.name, c.in-Some.value) c.in-Some.is c.next.ensures.steps in
    let fresh = fresh_name c.args.attributes.items c.attributes.yielded (c.in-Some.name, c.in-Some.value) (sym (map-id c.attributes.yielded) ∙ so_far) turn.0 turn.1 c.requires.distinct in
    absent_so_far c.args.entry.now c.attributes.entry c.attributes.yielded c.in-Some.name.0 c.attributes.invariant fresh.1

pub attributes-preserved : goal.attributes-preserved
attributes-preserved c =
    let i = c.into_iter-name-iterator.ensures.into_iter_gives in
    let road = YieldsList-from_vec c.args.attributes.items i.0 (i.1 ∙ c.args.attributes.ok.0) in
    let so_far = YieldsList-so_far road c.attributes.yielded c.attributes.name-iterator c.attributes.yielded_by in
    let turn = YieldsList-turn road c.attributes.yielded c.attributes.name-iterator c.attributes.yielded_by c.next.result c.next.new.self (c.in-Some.name, c.in-Some.value) c.in-Some.is c.next.ensures.steps in
    let fresh = fresh_name c.args.attributes.items c.attributes.yielded (c.in-Some.name, c.in-Some.value) (sym (map-id c.attributes.yielded) ∙ so_far) turn.0 turn.1 c.requires.distinct in
    record {
      same_unit = c.push.ensures.same_unit ∙ c.attributes.invariant.same_unit;
      index = c.push.ensures.index ∙ c.attributes.invariant.index;
      is = unit_more_set c.args.entry.now.unit.now c.attributes.entry.unit.now c.push.new.self.unit.now c.args.entry.now.index c.attributes.yielded (c.in-Some.name, c.in-Some.value)
          c.attributes.invariant.is
          (subst (λ (k : ℕ). c.push.new.self.unit.now ≡ with_entry c.attributes.entry.unit.now k (with_attribute c.in-Some.name.0 c.in-Some.value)) c.attributes.invariant.index c.in_ok-push.ensures.ok)
          fresh.1;
    }

pub returns-in_err-push-clause-same_unit : goal.returns-in_err-push-clause-same_unit
returns-in_err-push-clause-same_unit c = c.push.ensures.same_unit ∙ c.attributes.invariant.same_unit

pub returns-in_err-push-clause-index : goal.returns-in_err-push-clause-index
returns-in_err-push-clause-index c = c.push.ensures.index ∙ c.attributes.invariant.index

pub returns-in_err-push-clause-count : goal.returns-in_err-push-clause-count
returns-in_err-push-clause-count c = c.push.ensures.count ∙ set_count c.args.entry.now c.attributes.entry c.attributes.yielded c.attributes.invariant

pub returns-clause-same_unit : goal.returns-clause-same_unit
returns-clause-same_unit c = c.attributes.invariant.same_unit

pub returns-clause-index : goal.returns-clause-index
returns-clause-index c = c.attributes.invariant.index

pub returns-clause-ok : goal.returns-clause-ok
returns-clause-ok c =
    let i = c.into_iter-name-iterator.ensures.into_iter_gives in
    let road = YieldsList-from_vec c.args.attributes.items i.0 (i.1 ∙ c.args.attributes.ok.0) in
    let end = YieldsList-end road c.attributes.yielded c.attributes.name-iterator c.attributes.yielded_by c.next.result c.next.new.self c.in-None.is c.next.ensures.steps in
    c.attributes.invariant.is ∙ ap (λ (xs : Values). with_entry c.args.entry.now.unit.now c.args.entry.now.index (with_attributes (map attribute_of xs))) (sym (map-id c.attributes.yielded) ∙ end.0)

pub returns-clause-count : goal.returns-clause-count
returns-clause-count c = set_count c.args.entry.now c.attributes.entry c.attributes.yielded c.attributes.invariant

pub returns-in_err-reserve-clause-ok : goal.returns-in_err-reserve-clause-ok
returns-in_err-reserve-clause-ok c = rw (err_from_is_err_and c.from_residual.result c.from_residual.ensures.1).1 tt

pub returns-in_err-push-clause-ok : goal.returns-in_err-push-clause-ok
returns-in_err-push-clause-ok c = rw (err_from_is_err_and c.from_residual-in_err-push.result c.from_residual-in_err-push.ensures.1).1 tt

pub returns-clause-err : goal.returns-clause-err
returns-clause-err c = tt
