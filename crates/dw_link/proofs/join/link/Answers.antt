use Rattle.std.specs.Prelude.{◌≡◌, Some, None}
use Rattle.std.proofs.Common.{sym, ◌∙◌, refl, inr}
use Rattle.std.proofs.lemmas.Result.{err_from_is_err_and}
use Rattle.dw_link.specs.Sets.{parts_of, sets_of}
use Rattle.dw_link.specs.Steps.{AddsSets}
use Rattle.dw_link.proofs.Held.{held, held_beside}
use Rattle.dw_link.proofs.Linked.{dwarfs_linked}
use Rattle.dw_link.proofs.JoinLaws.{join-is}
use Rattle.dw_link.proofs.LinkSteps.{first_mixed-by, none_is, AllHaveOrders-unmixed, order_at-new, JoinsParts-new, LinkRefused-by, complete_by, AddsSets-as, SetsRefused-as, IsReady-all, section-below, first_by, not_taken}
use Rattle.dw_link.proofs.join.link.Goals as goal

pub returns-in-Some-clause-mixed : goal.returns-in-Some-clause-mixed
returns-in-Some-clause-mixed g c =
    let big = g.E.Endianity.is_big c.args.endian in
    let asked = first_mixed-by (held_beside g.E.Endianity.is_big) big c.is_big_endian.result c.as_slice-sets.result.now c.args.sets.now.items c.first_mixed.result c.first_mixed.ensures c.is_big_endian.ensures c.as_slice-sets.ensures.value in
    λ n e. let f : Some c.in-Some.set ≡ Some n = sym c.in-Some.is ∙ asked ∙ e in cc

pub returns-in-Some-clause-err : goal.returns-in-Some-clause-err
returns-in-Some-clause-err g c =
    let big = g.E.Endianity.is_big c.args.endian in
    let asked = first_mixed-by (held_beside g.E.Endianity.is_big) big c.is_big_endian.result c.as_slice-sets.result.now c.args.sets.now.items c.first_mixed.result c.first_mixed.ensures c.is_big_endian.ensures c.as_slice-sets.ensures.value in
    sym asked ∙ c.in-Some.is

pub returns-in-Some-clause-complete : goal.returns-in-Some-clause-complete
returns-in-Some-clause-complete g c =
    let big = g.E.Endianity.is_big c.args.endian in
    let asked = first_mixed-by (held_beside g.E.Endianity.is_big) big c.is_big_endian.result c.as_slice-sets.result.now c.args.sets.now.items c.first_mixed.result c.first_mixed.ensures c.is_big_endian.ensures c.as_slice-sets.ensures.value in
    λ none faultless. let f : Some c.in-Some.set ≡ None = sym c.in-Some.is ∙ asked ∙ none in cc

pub returns-in_err-joined-clause-mixed : goal.returns-in_err-joined-clause-mixed
returns-in_err-joined-clause-mixed g c =
    let big = g.E.Endianity.is_big c.args.endian in
    let asked = first_mixed-by (held_beside g.E.Endianity.is_big) big c.is_big_endian.result c.as_slice-sets.result.now c.args.sets.now.items c.first_mixed.result c.first_mixed.ensures c.is_big_endian.ensures c.as_slice-sets.ensures.value in
    λ n e. absurd (c.in_default.not-Some n (asked ∙ e))

pub add_sets-requires-clause-orders : goal.add_sets-requires-clause-orders
add_sets-requires-clause-orders g c =
    let big = g.E.Endianity.is_big c.args.endian in
    let none = sym (first_mixed-by (held_beside g.E.Endianity.is_big) big c.is_big_endian.result c.as_slice-sets.result.now c.as_slice-sets.result.now c.first_mixed.result c.first_mixed.ensures c.is_big_endian.ensures refl)
    ∙ none_is c.first_mixed.result c.in_default.not-Some in
    AllHaveOrders-unmixed (held g.E.Endianity.is_big) (held_beside g.E.Endianity.is_big) big c.in_ok-joined.joined c.as_slice-sets.result.now none
    (order_at-new (held g.E.Endianity.is_big) _ c.in_ok-joined.joined c.in_ok-joined.ensures.writers)

pub returns-in_err-add_sets-clause-mixed : goal.returns-in_err-add_sets-clause-mixed
returns-in_err-add_sets-clause-mixed g c =
    let big = g.E.Endianity.is_big c.args.endian in
    let asked = first_mixed-by (held_beside g.E.Endianity.is_big) big c.is_big_endian.result c.as_slice-sets.result.now c.args.sets.now.items c.first_mixed.result c.first_mixed.ensures c.is_big_endian.ensures c.as_slice-sets.ensures.value in
    λ n e. absurd (c.in_default.not-Some n (asked ∙ e))

pub returns-in_err-add_sets-clause-err : goal.returns-in_err-add_sets-clause-err
returns-in_err-add_sets-clause-err g c =
    let big = g.E.Endianity.is_big c.args.endian in
    let asked = first_mixed-by (held_beside g.E.Endianity.is_big) big c.is_big_endian.result c.as_slice-sets.result.now c.args.sets.now.items c.first_mixed.result c.first_mixed.ensures c.is_big_endian.ensures c.as_slice-sets.ensures.value in
    let none = sym asked ∙ none_is c.first_mixed.result c.in_default.not-Some in
    let p = err_from_is_err_and c.from_residual-in_err-add_sets.result c.from_residual-in_err-add_sets.ensures.1 in
    rw (p.1, p.2) (LinkRefused-by big (sets_of (held_beside g.E.Endianity.is_big) c.args.sets.now.items) c.args.symbols.now.items c.in_err-add_sets.field-0.0 none
    (SetsRefused-as (held_beside g.E.Endianity.is_big) c.as_slice-sets.result.now c.args.sets.now.items c.as_slice.result.now c.args.symbols.now.items c.in_err-add_sets.field-0.0
    c.as_slice-sets.ensures.value c.as_slice.ensures.value c.in_err-add_sets.ensures.err))

pub returns-in_err-add_sets-clause-complete : goal.returns-in_err-add_sets-clause-complete
returns-in_err-add_sets-clause-complete g c =
    let big = g.E.Endianity.is_big c.args.endian in
    let p = err_from_is_err_and c.from_residual-in_err-add_sets.result c.from_residual-in_err-add_sets.ensures.1 in
    λ none faultless.
    rw (p.1, p.2) (complete_by big (sets_of (held_beside g.E.Endianity.is_big) c.args.sets.now.items) c.args.symbols.now.items c.in_err-add_sets.field-0.0
    (LinkRefused-by big (sets_of (held_beside g.E.Endianity.is_big) c.args.sets.now.items) c.args.symbols.now.items c.in_err-add_sets.field-0.0 none
    (SetsRefused-as (held_beside g.E.Endianity.is_big) c.as_slice-sets.result.now c.args.sets.now.items c.as_slice.result.now c.args.symbols.now.items c.in_err-add_sets.field-0.0
    c.as_slice-sets.ensures.value c.as_slice.ensures.value c.in_err-add_sets.ensures.err)) none faultless)

pub returns-clause-parts : goal.returns-clause-parts
returns-clause-parts g c =
    let added : AddsSets (parts_of (held g.E.Endianity.is_big) c.in_ok-joined.joined) (parts_of (held g.E.Endianity.is_big) c.add_sets.new.joined) (sets_of (held_beside g.E.Endianity.is_big) c.args.sets.now.items) c.args.symbols.now.items =
    AddsSets-as (held_beside g.E.Endianity.is_big) _ _ c.as_slice-sets.result.now c.args.sets.now.items c.as_slice.result.now c.args.symbols.now.items
    c.as_slice-sets.ensures.value c.as_slice.ensures.value c.in_ok-add_sets.ensures.ok in
    JoinsParts-new (held g.E.Endianity.is_big) _ c.in_ok-joined.joined c.add_sets.new.joined (sets_of (held_beside g.E.Endianity.is_big) c.args.sets.now.items) c.args.symbols.now.items c.in_ok-joined.ensures.writers refl added

pub returns-clause-dwarfs : goal.returns-clause-dwarfs
returns-clause-dwarfs g c ds left =
    dwarfs_linked (held_beside g.E.Endianity.is_big) (held g.E.Endianity.is_big) (g.E.Endianity.is_big c.args.endian) c.args.sets.now.items c.args.symbols.now.items ds c.add_sets.new.joined (returns-clause-parts g c) left

pub returns-clause-in_order : goal.returns-clause-in_order
returns-clause-in_order g c =
    let big = g.E.Endianity.is_big c.args.endian in
    let asked = first_mixed-by (held_beside g.E.Endianity.is_big) big c.is_big_endian.result c.as_slice-sets.result.now c.args.sets.now.items c.first_mixed.result c.first_mixed.ensures c.is_big_endian.ensures c.as_slice-sets.ensures.value in
    sym asked ∙ none_is c.first_mixed.result c.in_default.not-Some

pub returns-clause-faultless : goal.returns-clause-faultless
returns-clause-faultless g c =
    let added : AddsSets (parts_of (held g.E.Endianity.is_big) c.in_ok-joined.joined) (parts_of (held g.E.Endianity.is_big) c.add_sets.new.joined) (sets_of (held_beside g.E.Endianity.is_big) c.args.sets.now.items) c.args.symbols.now.items =
    AddsSets-as (held_beside g.E.Endianity.is_big) _ _ c.as_slice-sets.result.now c.args.sets.now.items c.as_slice.result.now c.args.symbols.now.items
    c.as_slice-sets.ensures.value c.as_slice.ensures.value c.in_ok-add_sets.ensures.ok in
    added.faultless

pub returns-clause-mixed : goal.returns-clause-mixed
returns-clause-mixed g c =
    let big = g.E.Endianity.is_big c.args.endian in
    let asked = first_mixed-by (held_beside g.E.Endianity.is_big) big c.is_big_endian.result c.as_slice-sets.result.now c.args.sets.now.items c.first_mixed.result c.first_mixed.ensures c.is_big_endian.ensures c.as_slice-sets.ensures.value in
    λ n e. absurd (c.in_default.not-Some n (asked ∙ e))

pub returns-clause-join : goal.returns-clause-join
returns-clause-join g c =
    let big = g.E.Endianity.is_big c.args.endian in
    let asked = first_mixed-by (held_beside g.E.Endianity.is_big) big c.is_big_endian.result c.as_slice-sets.result.now c.args.sets.now.items c.first_mixed.result c.first_mixed.ensures c.is_big_endian.ensures c.as_slice-sets.ensures.value in
    let none = sym asked ∙ none_is c.first_mixed.result c.in_default.not-Some in
    let added : AddsSets (parts_of (held g.E.Endianity.is_big) c.in_ok-joined.joined) (parts_of (held g.E.Endianity.is_big) c.add_sets.new.joined) (sets_of (held_beside g.E.Endianity.is_big) c.args.sets.now.items) c.args.symbols.now.items =
    AddsSets-as (held_beside g.E.Endianity.is_big) _ _ c.as_slice-sets.result.now c.args.sets.now.items c.as_slice.result.now c.args.symbols.now.items
    c.as_slice-sets.ensures.value c.as_slice.ensures.value c.in_ok-add_sets.ensures.ok in
    λ s w at.
    let parts = JoinsParts-new (held g.E.Endianity.is_big) _ c.in_ok-joined.joined c.add_sets.new.joined (sets_of (held_beside g.E.Endianity.is_big) c.args.sets.now.items) c.args.symbols.now.items c.in_ok-joined.ensures.writers refl added s w at in
    sym (join-is big (sets_of (held_beside g.E.Endianity.is_big) c.args.sets.now.items) c.args.symbols.now.items s w.bytes.items
    (IsReady-all g.E.Endianity.is_big big c.args.sets.now.items s (section-below c.add_sets.new.joined s w at) none) (sym parts))

pub returns-in-Some-clause-first : goal.returns-in-Some-clause-first
returns-in-Some-clause-first g c =
    let big = g.E.Endianity.is_big c.args.endian in
    let asked = first_mixed-by (held_beside g.E.Endianity.is_big) big c.is_big_endian.result c.as_slice-sets.result.now c.args.sets.now.items c.first_mixed.result c.first_mixed.ensures c.is_big_endian.ensures c.as_slice-sets.ensures.value in
    λ error none fault. let f : Some c.in-Some.set ≡ None = sym c.in-Some.is ∙ asked ∙ none in cc

pub returns-in_err-joined-clause-first : goal.returns-in_err-joined-clause-first
returns-in_err-joined-clause-first g c =
    let p = err_from_is_err_and c.from_residual.result c.from_residual.ensures.1 in
    λ error none fault. rw (p.1, p.2) (inr c.in_err-joined.ensures.err)

pub returns-in_err-add_sets-clause-first : goal.returns-in_err-add_sets-clause-first
returns-in_err-add_sets-clause-first g c =
    let big = g.E.Endianity.is_big c.args.endian in
    let p = err_from_is_err_and c.from_residual-in_err-add_sets.result c.from_residual-in_err-add_sets.ensures.1 in
    λ error none fault.
    rw (p.1, p.2) (first_by big (sets_of (held_beside g.E.Endianity.is_big) c.args.sets.now.items) c.args.symbols.now.items c.in_err-add_sets.field-0.0 error
    (LinkRefused-by big (sets_of (held_beside g.E.Endianity.is_big) c.args.sets.now.items) c.args.symbols.now.items c.in_err-add_sets.field-0.0 none
    (SetsRefused-as (held_beside g.E.Endianity.is_big) c.as_slice-sets.result.now c.args.sets.now.items c.as_slice.result.now c.args.symbols.now.items c.in_err-add_sets.field-0.0
    c.as_slice-sets.ensures.value c.as_slice.ensures.value c.in_err-add_sets.ensures.err)) none fault)

pub returns-clause-first : goal.returns-clause-first
returns-clause-first g c =
    let added : AddsSets (parts_of (held g.E.Endianity.is_big) c.in_ok-joined.joined) (parts_of (held g.E.Endianity.is_big) c.add_sets.new.joined) (sets_of (held_beside g.E.Endianity.is_big) c.args.sets.now.items) c.args.symbols.now.items =
    AddsSets-as (held_beside g.E.Endianity.is_big) _ _ c.as_slice-sets.result.now c.args.sets.now.items c.as_slice.result.now c.args.symbols.now.items
    c.as_slice-sets.ensures.value c.as_slice.ensures.value c.in_ok-add_sets.ensures.ok in
    λ error none fault. not_taken (sets_of (held_beside g.E.Endianity.is_big) c.args.sets.now.items) c.args.symbols.now.items error added.faultless fault
