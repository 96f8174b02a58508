use Rattle.std.proofs.Common.{◌∙◌, refl, ap, List}
use Rattle.dw_entries.specs.Attributes.{get_named, set_named}
use Rattle.dw_entries.specs.Entries.{EntryValue, with_attributes}
use Rattle.dw_entries.proofs.Changed.{length-with_changed}
use Rattle.dw_entries.specs.Arena.{EntriesValue}
use Rattle.dw_entries.proofs.ValueLaws.{attributes_put, attributes_kept}
use Rattle.dw_entries.proofs.entries.Entries.value_mut.Goals as goal

pub returns-in-Some : goal.returns-in-Some
returns-in-Some c =
    let u = c.args.self.now in
    let i = c.args.index in
    let n = c.args.name.0 in
    let read = c.attributes_mut-attributes.ensures.value in
    let fill : List EntryValue → EntriesValue = λ es. record u { entries = es } in (
      (
        refl,
        (λ w. (length-with_changed i (with_attributes (c.value_mut.follows.lender w)) u.entries, ap fill (attributes_put i (c.value_mut.follows.lender w) (set_named n w) u.entries (rw c.in-Some.is at (c.value_mut.follows.holds w) ∙ ap (set_named n w) read)))),
        refl,
      ),
      record { writes_back = tt; value = c.in-Some.ensures.value ∙ ap (get_named n) read },
    )

pub returns-in-None : goal.returns-in-None
returns-in-None c =
    let u = c.args.self.now in
    let i = c.args.index in
    let read = c.attributes_mut-attributes.ensures.value in
    let fill : List EntryValue → EntriesValue = λ es. record u { entries = es } in (
      (refl, (λ w. (refl, tt)), ap fill (attributes_kept i c.value_mut.follows.lender-at-none u.entries (c.value_mut.follows.holds-at-none ∙ read))),
      record { writes_back = tt; value = c.in-None.ensures.value ∙ ap (get_named c.args.name.0) read },
    )
