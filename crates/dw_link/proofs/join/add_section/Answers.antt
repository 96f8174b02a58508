use Rattle.std.proofs.Common.{sym, ap, ◌∙◌}
use Rattle.std.specs.Option.{option_map}
use Rattle.dw_link.specs.Sets.{parts_of}
use Rattle.dw_link.specs.Steps.{layout_behind}
use Rattle.dw_link.proofs.Held.{held, held_beside}
use Rattle.dw_link.proofs.SectionSteps.{AddsThese-nothing, none_of, no_value}
use Rattle.dw_link.proofs.join.add_section.Goals as goal

pub returns-in_default-clause-ok : goal.returns-in_default-clause-ok
returns-in_default-clause-ok g c =
    let set_none = sym c.get.ensures ∙ no_value c.get.result c.in_default.not-Some in
    let old_none = none_of c.args.set.now c.args.joined.now c.args.section set_none in
    let old = parts_of (held g.E.Endianity.is_big) c.args.joined.now in
    AddsThese-nothing c.args.section old (parts_of (held_beside g.E.Endianity.is_big) c.args.set.now) (layout_behind c.args.places.now.starts c.args.places.now.symbols.now old)
    (ap (option_map (held g.E.Endianity.is_big)) old_none) (ap (option_map (held_beside g.E.Endianity.is_big)) set_none)
