use Rattle.std.proofs.Common.{◌∙◌, ap, subst, Option, Ok}
use Rattle.dw_base.specs.declared.ids.UnitEntryId.{UnitEntryId}
use Rattle.dw_sources.specs.ConvertErrors.{from_read}
use Rattle.dw_dwarf.proofs.Setting.{is_err}
use Rattle.dw_dwarf.specs.Converters.{above, held}
use Rattle.dw_dwarf.proofs.Placing.{number_fits, parent_fits}
use Rattle.dw_dwarf.specs.Skeletons.{first_of}
use Rattle.dw_entry_ids.specs.KeptWalk.{WalksKept}
use Rattle.dw_dwarf.proofs.convert.convert_unit.ConvertUnit.read_entry.Goals as goal

pub returns-in_err-number-clause-reads : goal.returns-in_err-number-clause-reads
returns-in_err-number-clause-reads g c = λ front rest s.
    rw (is_err _ _ c.from_residual.ensures) (ap from_read (c.in_err-number.ensures.walks (held c.args.self.now) c.args.self.now.given.kept.now front rest s))

pub returns-in_default-clause-reads : goal.returns-in_default-clause-reads
returns-in_default-clause-reads g c = λ front rest s.
    subst (λ (o : Option (Option UnitEntryId × UnitEntryId)). WalksKept g.R.Reader.reading (held c.args.self.now) c.args.self.now.given.kept.now front rest c.next.new.self c.next.new.entry (Ok o)) c.in_default.is
    (c.in_ok-number.ensures.walks (held c.args.self.now) c.args.self.now.given.kept.now front rest s)

pub returns-clause-reads : goal.returns-clause-reads
returns-clause-reads g c = λ front rest s.
    let reading = g.R.Reader.reading in
    let given = c.args.self.now.given in
    let u = held c.args.self.now in
    let number = c.in-Some.number in
    let walk = (subst (λ (o : Option (Option UnitEntryId × UnitEntryId)). WalksKept reading u given.kept.now front rest c.next.new.self c.next.new.entry (Ok o)) c.in-Some.is
    (c.in_ok-number.ensures.walks u given.kept.now front rest s)).0 in
    let own = number_fits reading u given.kept.now (first_of given.skeleton) given.entries c.args.self.now.rows c.next.new.self front rest c.next.new.entry number c.in-Some.parent.0 given.free given.room given.readable s walk in
    let up = parent_fits reading u given.kept.now (first_of given.skeleton) given.entries c.args.self.now.rows c.next.new.self front rest c.next.new.entry number c.in-Some.parent.0 given.free given.room given.readable s walk in
    record {
      as_read = c.next.new.entry;
      number = number;
      parent = c.in-Some.parent.0;
      row = walk;
      id_is = (rw c.first_of-behind.ensures at c.ids_of.ensures) own;
      less = c.filter_attributes.ensures.less;
      under = c.filter_attributes.ensures.parent ∙ c.above-entry.ensures ∙ ap (above number) ((rw c.first_of-behind.ensures at c.id_of.ensures) up);
      read_unit = c.filter_attributes.ensures.read_unit;
    }
