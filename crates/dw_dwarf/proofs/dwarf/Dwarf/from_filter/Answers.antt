use Rattle.std.proofs.Common.{sym, ap, subst, List, Some, length, inl, inr, ⊎_elim}
use Rattle.dw_read_units.specs.declared.dwarf.Unit.{Unit as UnitFields}
use Rattle.dw_convert_lines.specs.Views.{tables}
use Rattle.dw_entry_ids.specs.KeptRows.{keep_of}
use Rattle.dw_dwarf.specs.ConvertedUnits.{AreClosed, FoundBecome, RefusesOne}
use Rattle.dw_dwarf.specs.DwarfValue.{DwarfValue, dwarf_in}
use Rattle.dw_dwarf.proofs.Setting.{and_ok, and_err, is_err}
use Rattle.dw_dwarf.proofs.UnitSteps.{all_read_kept}
use Rattle.dw_dwarf.proofs.WholeFilter.{filtered_whole}
use Rattle.std.proofs.lemmas.Result.{IfOk-weaker}
use Rattle.dw_dwarf.proofs.dwarf.Dwarf.from_filter.Goals as goal

pub convert_found-requires-clause-read : goal.convert_found-requires-clause-read
convert_found-requires-clause-read g c =
    let reading = g.R.Reader.reading in
    let given = c.in_ok-given.given in
    let n = c.in_ok-given.ensures.ok in
    let keep = keep_of (Some n.places) in
    let closed = subst (λ (us : List (UnitFields _ _)). AreClosed keep reading us) (sym n.numbered.held) n.closed in
    rw (n.is, c.in_ok-given.ensures.file) (all_read_kept reading c.args.filter.dwarf.now keep given.found.units.items n.numbered.units n.numbered.numbered closed)

pub returns-in_err-given-clause-err : goal.returns-in_err-given-clause-err
returns-in_err-given-clause-err g c = rw (is_err _ _ c.from_residual.ensures) (⊎_elim inl (λ why. inr (inl why)) c.in_err-given.ensures.err)

pub returns-in_err-given-clause-ok : goal.returns-in_err-given-clause-ok
returns-in_err-given-clause-ok g c = rw (is_err _ _ c.from_residual.ensures) tt

pub returns-clause-ok : goal.returns-clause-ok
returns-clause-ok g c =
    let reading = g.R.Reader.reading in
    let answers = goal.F-post g c.args.convert_address.now in
    let f = c.args.filter in
    let given = c.in_ok-given.given in
    let n = c.in_ok-given.ensures.ok in
    let new = c.convert_found.new in
    let none = dwarf_in c.new-dwarf.result in
    let items = given.found.units.items in
    rw c.and.ensures
    (and_ok _ _ c.convert_found.result c.convert_found.ensures.ok
    (λ b.
    let become =
    subst (λ (v : DwarfValue). FoundBecome (keep_of (Some n.places)) reading answers f.dwarf.now given.found.ids (length v.units) items v.units (tables v.strings v.line_strings) new.units (tables new.strings new.line_strings)) c.new-dwarf.ensures
    (subst (λ d. FoundBecome (keep_of (Some n.places)) reading answers d given.found.ids (length none.units) items none.units (tables none.strings none.line_strings) new.units (tables new.strings new.line_strings)) c.in_ok-given.ensures.file
    (subst (λ k. FoundBecome (keep_of k) reading answers given.read.now given.found.ids (length none.units) items none.units (tables none.strings none.line_strings) new.units (tables new.strings new.line_strings)) n.is b)) in
    record {
      units = n.units;
      are = n.are;
      kept = n.places;
      keeps = n.keeps;
      become = record { found = given.found; read = n.numbered; built = become.built; become = become.become; added = become.added };
      programs = ap (λ (v : DwarfValue). v.line_programs) c.new-dwarf.ensures;
    }))

pub returns-clause-err : goal.returns-clause-err
returns-clause-err g c =
    let reading = g.R.Reader.reading in
    let answers = goal.F-post g c.args.convert_address.now in
    let f = c.args.filter in
    let given = c.in_ok-given.given in
    let n = c.in_ok-given.ensures.ok in
    let none = dwarf_in c.new-dwarf.result in
    let items = given.found.units.items in
    rw c.and.ensures
    (and_err _ c.convert_found.result c.convert_found.ensures.err
    (λ e. ⊎_elim inl (λ refuses. inr (inr (record {
      units = n.units;
      are = n.are;
      kept = n.places;
      keeps = n.keeps;
      refuses = inr (record {
        found = given.found;
        read = n.numbered;
        refused =
            subst (λ (v : DwarfValue). RefusesOne (keep_of (Some n.places)) reading answers f.dwarf.now given.found.ids (length v.units) items (tables v.strings v.line_strings) e) c.new-dwarf.ensures
            (subst (λ d. RefusesOne (keep_of (Some n.places)) reading answers d given.found.ids (length none.units) items (tables none.strings none.line_strings) e) c.in_ok-given.ensures.file
            (subst (λ k. RefusesOne (keep_of k) reading answers given.read.now given.found.ids (length none.units) items (tables none.strings none.line_strings) e) n.is refuses));
      });
    })))))

pub returns-clause-whole : goal.returns-clause-whole
returns-clause-whole g c = λ h.
    let reading = g.R.Reader.reading in
    let answers = goal.F-post g c.args.convert_address.now in
    IfOk-weaker _ _ _ (λ v w. filtered_whole reading g.met.R.Reader.is_reading c.args.filter answers (dwarf_in v) h w) (returns-clause-ok g c)
