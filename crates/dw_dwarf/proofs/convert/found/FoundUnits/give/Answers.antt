use Rattle.std.proofs.Common.{◌∙◌, sym, ap, subst, refl, arith}
use Rattle.dw_entry_ids.specs.KeptRows.{keep_of}
use Rattle.dw_dwarf.specs.Readable.{IsReadable, IsReadableUnit}
use Rattle.std.proofs.lemmas.Option.{slice_get_read}
use Rattle.dw_dwarf.proofs.convert.found.FoundUnits.give.Goals as goal

pub returns : goal.returns
returns g c = record {
  numbered = c.index-numbered.result.now;
  at = slice_get_read c.args.self.now.found.units.items _ c.args.index c.index-numbered.result.now refl c.requires c.index-numbered.ensures;
  dwarf = refl;
  unit = refl;
  entries = c.entries_of-entries.ensures;
  kept = refl;
  ids = c.new-2.ensures.ids;
  number = ap (λ u. u.0) c.new-2.ensures.unit ∙ c.new.ensures;
  start = c.new-2.ensures.start ∙ ap (λ o. o.0) c.offset-start.ensures;
  first_is = c.new-2.ensures.first;
  behind = c.new-2.ensures.behind;
  skeleton = refl;
}

pub invariant_of-result-clause-free : goal.invariant_of-result-clause-free
invariant_of-result-clause-free g c = omega arith

pub invariant_of-result-clause-readable : goal.invariant_of-result-clause-readable
invariant_of-result-clause-readable g c =
    subst (IsReadable g.R.Reader.reading (keep_of c.args.self.now.kept) c.index-numbered.result.now.unit) (sym c.entries_of-entries.ensures)
    (subst (IsReadableUnit g.R.Reader.reading (keep_of c.args.self.now.kept)) (sym c.index-numbered.ensures) (c.args.self.now.readable c.args.index _ c.requires))

pub invariant_of-result-clause-room : goal.invariant_of-result-clause-room
invariant_of-result-clause-room g c = omega (arith, c.entries_of-entries.type_inv)
