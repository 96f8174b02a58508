use Rattle.std.proofs.Common.{◌≡◌, length, true, inl, inr, ⊎_elim}
use Rattle.std.proofs.lemmas.Result.{err_from_is_err_and}
use Rattle.dw_read.specs.Reading.{left}
use Rattle.dw_read_units.proofs.RowWalk.{row_shorter, walked_refused}
use Rattle.dw_entry_ranges.proofs.RequiredRowSteps.{are_rows, behind_root, misses_row, root_refused, row_passes, so_far_end, so_far_more}
use Rattle.dw_entry_ranges.proofs.required.add_rows.Goals as goal

pub returns-in_err-read_entry-clause-err : goal.returns-in_err-read_entry-clause-err
returns-in_err-read_entry-clause-err g c =
    let p = err_from_is_err_and c.from_residual-in_err-read_entry.result c.from_residual-in_err-read_entry.ensures.1 in
    rw (p.1, p.2) (⊎_elim inl (λ r. inr (inl (root_refused g.R.Reader.reading c.args.unit c.in_ok-rows.rows c.read_entry.new.self _ c.requires.behind c.requires.root c.in_ok-rows.ensures.ok r.reason))) c.in_err-read_entry.ensures.1)

pub rows-init : goal.rows-init
rows-init g c =
    let reading = g.R.Reader.reading in
    let root = row_passes reading c.in_ok-rows.rows c.read_entry.new.self c.new-entry.result c.read_entry.new.entry c.in_ok-read_entry.field-0 c.in_ok-read_entry.ensures in
    behind_root reading c.args.unit c.args.live.now c.args.required.now.items c.in_ok-rows.rows c.read_entry.new.self root.0
    (g.met.R.Reader.is_reading c.in_ok-rows.rows.input) (g.met.R.Reader.is_reading c.read_entry.new.self.input) c.requires.behind c.in_ok-rows.ensures.ok root.1

pub add_row-requires : goal.add_row-requires
add_row-requires g c = are_rows g.R.Reader.reading c.args.unit c.rows.rows _ c.rows.invariant.walked

pub rows-smaller : goal.rows-smaller
rows-smaller g c = row_shorter g.R.Reader.reading c.rows.rows c.add_row.new.rows c.in_ok-add_row.ensures.ok.mark c.in_ok-add_row.ensures.ok.passes

pub rows-preserved : goal.rows-preserved
rows-preserved g c =
    so_far_more g.R.Reader.reading c.args.unit c.args.live.now c.args.required.now.items c.rows.rows c.add_row.new.rows c.rows.required.items
    (g.met.R.Reader.is_reading c.rows.rows.input) (g.met.R.Reader.is_reading c.add_row.new.rows.input) c.rows.invariant c.add_row.new.required.items c.in_ok-add_row.ensures.ok

pub returns-in_err-add_row-clause-err : goal.returns-in_err-add_row-clause-err
returns-in_err-add_row-clause-err g c =
    let reading = g.R.Reader.reading in
    let more : length (left (reading c.rows.rows.input)) ≡ 0 → ⊥ = λ z. let t : c.is_empty.result ≡ true = c.is_empty.ensures.1 z in cc in
    let p = err_from_is_err_and c.from_residual-in_err-add_row.result c.from_residual-in_err-add_row.ensures.1 in
    rw (p.1, p.2) (⊎_elim inl (λ why. inr (⊎_elim
    (λ r. inl (walked_refused reading c.args.unit.unit.now.header c.args.unit.unit.now.abbreviations c.rows.rows c.add_row.new.rows _ _ c.rows.invariant.walked more r))
    (λ m. inr (misses_row reading c.args.unit c.args.live.now c.args.required.now.items c.rows.rows c.add_row.new.rows c.rows.required.items
    (g.met.R.Reader.is_reading c.rows.rows.input) (g.met.R.Reader.is_reading c.add_row.new.rows.input) c.rows.invariant _ m))
    why)) c.in_err-add_row.ensures.err)

pub returns-clause-ok : goal.returns-clause-ok
returns-clause-ok g c = so_far_end g.R.Reader.reading c.args.unit c.args.live.now c.args.required.now.items c.rows.rows c.rows.required.items c.rows.invariant (c.is_empty.ensures.0 c.rows-test.false)
