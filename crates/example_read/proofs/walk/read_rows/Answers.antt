use Rattle.std.proofs.Common.{◌≡◌, sym, subst, length, true, ⊎_elim, inl, inr}
use Rattle.std.proofs.lemmas.Result.{err_from_is_err_and}
use Rattle.dw_read.specs.Reading.{left}
use Rattle.example_read.proofs.RowWalk.{Walked, walked_none, walked_more, walked_end, walked_refused, row_shorter}
use Rattle.example_read.proofs.walk.read_rows.Goals as goal

pub rows-init : goal.rows-init
rows-init g c =
    let h = c.args.unit.now.header in
    let table = c.args.unit.now.abbreviations in
    subst (Walked g.R.Reader.reading h table c.in_ok-entries.entries) (sym c.new-rows.ensures.items) (walked_none g.R.Reader.reading h table c.in_ok-entries.entries c.requires c.in_ok-entries.ensures.ok)

pub returns-in_err-row-clause-err : goal.returns-in_err-row-clause-err
returns-in_err-row-clause-err g c =
    let p = err_from_is_err_and c.from_residual-in_err-row.result c.from_residual-in_err-row.ensures.1 in
    let more : length (left (g.R.Reader.reading c.rows.entries.input)) ≡ 0 → ⊥ = λ z. let t : c.is_empty.result ≡ true = c.is_empty.ensures.1 z in cc in
    rw (p.1, p.2) (⊎_elim inl (λ r. inr (walked_refused g.R.Reader.reading c.args.unit.now.header c.args.unit.now.abbreviations c.rows.entries c.read_row.new.entries c.rows.rows.items _ c.rows.invariant more r)) c.in_err-row.ensures.err)

pub rows-smaller : goal.rows-smaller
rows-smaller g c = row_shorter g.R.Reader.reading c.rows.entries c.read_row.new.entries c.in_ok-row.row c.in_ok-row.ensures.ok

pub rows-preserved : goal.rows-preserved
rows-preserved g c =
    walked_more g.R.Reader.reading c.args.unit.now.header c.args.unit.now.abbreviations c.rows.entries c.read_row.new.entries c.rows.rows.items c.push.new.self.items c.in_ok-row.row
    (g.met.R.Reader.is_reading c.rows.entries.input) (g.met.R.Reader.is_reading c.read_row.new.entries.input) c.rows.invariant c.in_ok-row.ensures.ok c.in_ok-push.ensures.items

pub returns-clause-ok : goal.returns-clause-ok
returns-clause-ok g c = walked_end g.R.Reader.reading c.args.unit.now.header c.args.unit.now.abbreviations c.rows.entries c.rows.rows.items c.rows.invariant (c.is_empty.ensures.0 c.rows-test.false)
