use Rattle.std.proofs.Common.{◌∙◌, sym}
use Rattle.std.proofs.lemmas.Result.{err_from_is_err_and}
use Rattle.dw_read_frames.proofs.EntryLaws.{at_no_place, at_no_entry, at_entry, rest_at, no_cie, one_cie, cie_rest}
use Rattle.dw_read_frames.proofs.section.read_cie_at.Goals as goal

pub returns-in_err-skip-clause-err : goal.returns-in_err-skip-clause-err
returns-in_err-skip-clause-err g c =
    let p = err_from_is_err_and c.from_residual.result c.from_residual.ensures.1 in
    rw (p.1, p.2) (at_no_place c.args.is_eh c.args.size c.args.offset _ _ _ _ c.in_err-skip.ensures.err.reason)

pub returns-in_err-entry-clause-err : goal.returns-in_err-entry-clause-err
returns-in_err-entry-clause-err g c =
    let p = err_from_is_err_and c.from_residual-in_err-entry.result c.from_residual-in_err-entry.ensures.1 in
    rw (p.1, p.2) (at_no_entry c.args.is_eh c.args.size c.args.offset _ _ (g.met.R.Reader.is_reading c.args.input.now) c.in_ok-skip.ensures.ok _ c.in_err-entry.ensures.err)

pub returns-in_default-clause-err : goal.returns-in_default-clause-err
returns-in_default-clause-err g c =
    at_entry c.args.is_eh c.args.size c.args.offset _ _ (g.met.R.Reader.is_reading c.args.input.now) c.in_ok-skip.ensures.ok _ _ c.in_ok-entry.ensures.ok
    ∙ no_cie g.R.Reader.reading _ c.in_ok-entry.entry (sym c.cie_of.ensures ∙ c.in_default.is)

pub returns-clause-ok : goal.returns-clause-ok
returns-clause-ok g c =
    at_entry c.args.is_eh c.args.size c.args.offset _ _ (g.met.R.Reader.is_reading c.args.input.now) c.in_ok-skip.ensures.ok _ _ c.in_ok-entry.ensures.ok
    ∙ one_cie g.R.Reader.reading _ c.in_ok-entry.entry c.in-Some.cie (sym c.cie_of.ensures ∙ c.in-Some.is)

pub returns-clause-rest : goal.returns-clause-rest
returns-clause-rest g c =
    let reading = g.R.Reader.reading in
    let is = g.met.R.Reader.is_reading in
    rest_at c.args.is_eh c.args.size c.args.offset _ _ (is c.args.input.now) c.in_ok-skip.ensures.ok _ _ c.in_ok-entry.ensures.ok _ (is c.read_entry.new.input)
    (cie_rest reading (reading c.skip.new.self) (reading c.read_entry.new.input) c.in_ok-entry.entry c.in-Some.cie (sym c.cie_of.ensures ∙ c.in-Some.is) c.in_ok-entry.ensures.rest)
