use Rattle.std.proofs.Common.{subst, Bool, Ok, inl, inr, ⊎_elim}
use Rattle.std.proofs.lemmas.Result.{err_from_is_err_and}
use Rattle.dw_read.specs.Rows.{PassesEntry, ReadsRow}
use Rattle.dw_entry_ranges.proofs.RequiredRowSteps.{adds_null, adds_row, misses_mark, ordered}
use Rattle.dw_entry_ranges.proofs.required.add_row.Goals as goal

pub returns-in_err-add_entry-clause-err : goal.returns-in_err-add_entry-clause-err
returns-in_err-add_entry-clause-err g c =
    let reading = g.R.Reader.reading in
    let u = c.args.unit in
    let old = c.args.rows.now in
    let new = c.read_entry.new.self in
    let before = c.args.entry.now in
    let after = c.read_entry.new.entry in
    let e : PassesEntry reading old new before after = subst (λ (b : Bool). ReadsRow reading old new before after (Ok b)) c.if-branch.true c.in_ok-read_entry.ensures in
    let p = err_from_is_err_and c.from_residual-in_err-add_entry.result c.from_residual-in_err-add_entry.ensures.1 in
    rw (p.1, p.2) (⊎_elim inl (λ why. inr (inr (misses_mark reading u old new before after c.requires e _ why))) (c.in_err-add_entry.ensures.err _ (ordered reading u old new before after c.requires e)))

pub returns-in_ok-add_entry-clause-ok : goal.returns-in_ok-add_entry-clause-ok
returns-in_ok-add_entry-clause-ok g c =
    let reading = g.R.Reader.reading in
    let u = c.args.unit in
    let old = c.args.rows.now in
    let new = c.read_entry.new.self in
    let before = c.args.entry.now in
    let after = c.read_entry.new.entry in
    let e : PassesEntry reading old new before after = subst (λ (b : Bool). ReadsRow reading old new before after (Ok b)) c.if-branch.true c.in_ok-read_entry.ensures in
    adds_row reading u old new before after c.requires e c.args.live.now _ _ (c.in_ok-add_entry.ensures.ok _ (ordered reading u old new before after c.requires e))

pub returns-else-branch-clause-ok : goal.returns-else-branch-clause-ok
returns-else-branch-clause-ok g c =
    let reading = g.R.Reader.reading in
    let old = c.args.rows.now in
    let new = c.read_entry.new.self in
    let e = subst (λ (b : Bool). ReadsRow reading old new c.args.entry.now c.read_entry.new.entry (Ok b)) c.if-branch.false c.in_ok-read_entry.ensures in
    adds_null reading c.args.unit c.args.live.now old new _ e.0
