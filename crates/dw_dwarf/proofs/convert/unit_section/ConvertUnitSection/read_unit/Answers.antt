use Rattle.std.proofs.Common.{◌≡◌, ◌∙◌, ◌+◌, sym, ap, subst, Some, []}
use Rattle.std.specs.Prelude.{slice_get}
use Rattle.dw_dwarf.proofs.SectionSteps.{root_or_refused}
use Rattle.dw_dwarf.specs.Converters.{held}
use Rattle.dw_dwarf.specs.FoundUnits.{IsGiven}
use Rattle.dw_dwarf.specs.Skeletons.{skeleton_unit}
use Rattle.dw_dwarf.specs.Readable.{rows_held}
use Rattle.dw_entry_ids.specs.KeptWalk.{StandsKept}
use Rattle.dw_dwarf.proofs.convert.unit_section.ConvertUnitSection.read_unit.Goals as goal

pub returns : goal.returns
returns g c =
    let reading = g.R.Reader.reading in
    let s = c.args.self.now in
    let new = c.read_entry.new.self in
    let of = c.of-converter.ensures in
    let held_of = c.of-converter.result.rows in
    let p = c.in-Some.ensures in
    let same = c.read_entry.ensures.others in
    let given : new.given ≡ c.give-given.result = ap (λ x. x.given) same ∙ of.given in
    let stands =
    subst (λ a. StandsKept reading a.read.unit.now a.kept.now held_of [] (rows_held reading (held new))) (sym of.given)
    (subst (λ b. StandsKept reading c.give-given.result.read.unit.now c.give-given.result.kept.now held_of [] (rows_held reading b.read.unit.now)) (sym given) of.rows) in
    rw c.and.ensures
    (root_or_refused reading new c.read_entry.new.entry s new.given.entries c.read_entry.result new.given.readable (c.read_entry.ensures.reads [] (rows_held reading (held new)) stands)
    (λ root. record {
      left = p.1;
      file = s.found.numbered;
      given =
          subst (λ h. IsGiven s.found s.next s.first h) (sym given)
          (subst (λ n. IsGiven s.found n s.first c.give-given.result) p.0
          (subst (λ n. IsGiven s.found c.in-Some.index n c.give-given.result) (c.new.ensures ∙ ap (λ x. x.first) p.3)
          (subst (λ x. IsGiven x.found c.in-Some.index c.new.result.0 c.give-given.result) p.3 c.give-given.ensures)));
      read_unit = ap (λ x. x.read_unit) same ∙ of.read_unit ∙ sym (ap (λ h. h.read) given);
      skeleton = ap (λ x. x.read_skeleton_unit) same ∙ of.skeleton ∙ ap skeleton_unit c.give-given.ensures.skeleton;
      id = ap (λ x. x.id.0) same ∙ ap (λ i. i.0) of.id ∙ p.2;
      unit =
          ap (λ x. slice_get x.dwarf.now.units (s.first + s.next)) (sym p.3)
          ∙ ap (λ n. slice_get c.pass.new.self.dwarf.now.units n) (sym p.2)
          ∙ c.get_mut-unit.ensures.value
          ∙ ap (λ u. Some u) (sym (ap (λ x. x.unit.now) same ∙ of.unit_now));
      strings = ap (λ x. x.strings.now) same ∙ of.strings_now ∙ ap (λ x. x.dwarf.now.strings) p.3;
      line_strings = ap (λ x. x.line_strings.now) same ∙ of.line_strings_now ∙ ap (λ x. x.dwarf.now.line_strings) p.3;
      files = ap (λ x. x.files.items) same ∙ of.files;
      as_read = root.as_read;
      parent = root.parent;
      row = root.row;
      less = root.less;
      under = root.under;
      root_unit = root.read_unit;
    }))
