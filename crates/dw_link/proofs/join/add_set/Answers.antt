use Rattle.std.specs.Prelude.{◌≡◌}
use Rattle.std.proofs.Common.{ap, subst, ◌∙◌, arith, get_or}
use Rattle.std.proofs.lemmas.Result.{err_from_is_err_and}
use Rattle.dw_writer.specs.Visits.{written_ids}
use Rattle.dw_link.specs.Sets.{parts_of}
use Rattle.dw_link.specs.Steps.{AddsThese, is_below, layout_at, layout_behind, lengths_of, length_of}
use Rattle.dw_link.proofs.Held.{held, held_beside}
use Rattle.dw_link.proofs.SectionSteps.{AddsThese-next, SetRefused-at, number_at}
use Rattle.dw_link.proofs.join.add_set.Goals as goal

pub returns-in_err-add_section-clause-err : goal.returns-in_err-add_section-clause-err
returns-in_err-add_section-clause-err g c =
    let old = parts_of (held g.E.Endianity.is_big) c.args.joined.now in
    let cur = parts_of (held g.E.Endianity.is_big) c.each.joined in
    let set = parts_of (held_beside g.E.Endianity.is_big) c.args.set.now in
    let s = get_or written_ids c.each.section-index _ in
    let later = layout_behind c.lengths.result c.args.symbols.now cur in
    let p = err_from_is_err_and c.from_residual.result c.from_residual.ensures.1 in
    rw (p.1, p.2) (SetRefused-at c.each.section-index c.args.number s old cur set (layout_behind (lengths_of old) c.args.symbols.now old) later c.in_err-add_section.field-0.0
    (number_at c.each.section-index _ c.each-test.true)
    (λ e. ap (λ starts. layout_at starts c.args.symbols.now (length_of (cur s))) c.lengths.ensures ∙ ap (λ m. layout_at (lengths_of old) c.args.symbols.now (length_of m)) e)
    c.each.invariant.added c.in_err-add_section.ensures.err)

pub each-preserved : goal.each-preserved
each-preserved g c = record {
  added =
      let old = parts_of (held g.E.Endianity.is_big) c.args.joined.now in
      let cur = parts_of (held g.E.Endianity.is_big) c.each.joined in
      let new = parts_of (held g.E.Endianity.is_big) c.add_section.new.joined in
      let set = parts_of (held_beside g.E.Endianity.is_big) c.args.set.now in
      let s = get_or written_ids c.each.section-index _ in
      let later = layout_behind c.lengths.result c.args.symbols.now cur in
      AddsThese-next c.each.section-index s old cur new set (layout_behind (lengths_of old) c.args.symbols.now old) later
      (number_at c.each.section-index _ c.each-test.true)
      (λ e. ap (λ starts. layout_at starts c.args.symbols.now (length_of (cur s))) c.lengths.ensures ∙ ap (λ m. layout_at (lengths_of old) c.args.symbols.now (length_of m)) e)
      c.each.invariant.added c.in_ok-add_section.ensures.ok;
  fixups = λ h. c.add_section.ensures.fixups (c.each.invariant.fixups h);
}

pub returns-clause-ok : goal.returns-clause-ok
returns-clause-ok g c =
    let all : c.each.section-index ≡ 11 = omega (arith, c.each-test.false, c.each.auto.section-index-end) in
    subst (λ k. AddsThese (is_below k) (parts_of (held g.E.Endianity.is_big) c.args.joined.now) (parts_of (held g.E.Endianity.is_big) c.each.joined)
    (parts_of (held_beside g.E.Endianity.is_big) c.args.set.now)
    (layout_behind (lengths_of (parts_of (held g.E.Endianity.is_big) c.args.joined.now)) c.args.symbols.now (parts_of (held g.E.Endianity.is_big) c.args.joined.now))) all c.each.invariant.added
