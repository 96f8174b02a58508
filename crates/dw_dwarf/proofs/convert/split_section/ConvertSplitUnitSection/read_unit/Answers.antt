use Rattle.std.proofs.Common.{◌≡◌, ◌∙◌, sym, ap, subst, []}
use Rattle.dw_dwarf.proofs.SectionSteps.{split_or_refused}
use Rattle.dw_dwarf.specs.Converters.{held}
use Rattle.dw_dwarf.specs.Readable.{rows_held}
use Rattle.dw_dwarf.specs.Skeletons.{skeleton_unit}
use Rattle.dw_dwarf.specs.SplitUnits.{IsGivenSplit}
use Rattle.dw_entry_ids.specs.KeptWalk.{StandsKept}
use Rattle.dw_dwarf.proofs.convert.split_section.ConvertSplitUnitSection.read_unit.Goals as goal

pub returns : goal.returns
returns g c =
    let reading = g.R.Reader.reading in
    let s = c.args.self.now in
    let new = c.read_entry.new.self in
    let of = c.of-converter.ensures in
    let held_of = c.of-converter.result.rows in
    let same = c.read_entry.ensures.others in
    let given : new.given ≡ c.give-given.result = ap (λ x. x.given) same ∙ of.given in
    let stands =
    subst (λ a. StandsKept reading a.read.unit.now a.kept.now held_of [] (rows_held reading (held new))) (sym of.given)
    (subst (λ b. StandsKept reading c.give-given.result.read.unit.now c.give-given.result.kept.now held_of [] (rows_held reading b.read.unit.now)) (sym given) of.rows) in
    rw c.and.ensures
    (split_or_refused reading new c.read_entry.new.entry s new.given.entries c.read_entry.result new.given.readable (c.read_entry.ensures.reads [] (rows_held reading (held new)) stands)
    (λ root. record {
      given = subst (IsGivenSplit s.split s.id.0) (sym given) c.give-given.ensures;
      read_unit = ap (λ x. x.read_unit) same ∙ of.read_unit ∙ sym (ap (λ h. h.read) given);
      skeleton = ap (λ x. x.read_skeleton_unit) same ∙ of.skeleton ∙ ap skeleton_unit c.give-given.ensures.skeleton;
      id = ap (λ x. x.id) same ∙ of.id;
      unit = ap (λ x. x.unit.now) same ∙ of.unit_now;
      strings = ap (λ x. x.strings.now) same ∙ of.strings_now;
      line_strings = ap (λ x. x.line_strings.now) same ∙ of.line_strings_now;
      files = ap (λ x. x.files.items) same ∙ of.files;
      as_read = root.as_read;
      parent = root.parent;
      row = root.row;
      less = root.less;
      under = root.under;
      root_unit = root.read_unit;
    }))
