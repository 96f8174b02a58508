use Rattle.std.proofs.Common.{◌≡◌, subst, ℕ, ◌+◌, ◌<◌, ◌^◌, length, true, false, Bool, ⊎_elim, inl, inr, arith}
use Rattle.std.proofs.lemmas.Result.{err_from_is_err_and}
use Rattle.dw_read.specs.Reading.{left}
use Rattle.dw_read_units.proofs.RowWalk.{walked_refused, row_shorter}
use Rattle.dw_entry_ids.specs.KeptRows.{keep_of}
use Rattle.dw_entry_ids.specs.Units.{NumbersRow}
use Rattle.dw_entry_ids.proofs.RowSteps.{Numbered, numbered_none, numbered_room, numbered_more, numbered_end}
use Rattle.dw_entry_ids.proofs.units.number_entries.Goals as goal

pub rows-init : goal.rows-init
rows-init g c = numbered_none (keep_of c.args.kept.now) g.R.Reader.reading c.args.unit.unit.now.header c.args.unit.unit.now.abbreviations c.args.id c.args.ids.now c.in_ok-rows.rows c.requires c.in_ok-rows.ensures.ok

pub returns-in_err-number_row-clause-err : goal.returns-in_err-number_row-clause-err
returns-in_err-number_row-clause-err g c =
    let p = err_from_is_err_and c.from_residual-in_err-number_row.result c.from_residual-in_err-number_row.ensures.1 in
    let more : length (left (g.R.Reader.reading c.rows.rows.input)) ≡ 0 → ⊥ = λ z. let t : c.is_empty.result ≡ true = c.is_empty.ensures.1 z in cc in
    rw (p.1, p.2) (⊎_elim inl (λ r. inr (walked_refused g.R.Reader.reading c.args.unit.unit.now.header c.args.unit.unit.now.abbreviations c.rows.rows c.number_row.new.rows c.rows.invariant.front _ c.rows.invariant.walked more r)) c.in_err-number_row.ensures.err)

pub overflow_add-count : goal.overflow_add-count
overflow_add-count g c =
    let room : c.rows.count + 1 < 2 ^ 64 =
    numbered_room (keep_of c.args.kept.now) g.R.Reader.reading c.args.unit.unit.now.header c.args.unit.unit.now.abbreviations c.args.id c.args.ids.now c.rows.rows c.number_row.new.rows c.in_ok-number_row.field-0 c.rows.ids c.number_row.new.ids c.rows.count
    (g.met.R.Reader.is_reading c.rows.rows.input) (g.met.R.Reader.is_reading c.number_row.new.rows.input) c.rows.invariant
    (subst (λ (n : ℕ). NumbersRow (keep_of c.args.kept.now) g.R.Reader.reading c.rows.rows c.number_row.new.rows (c.args.id, record { 0 = n }) c.rows.ids c.number_row.new.ids c.in_ok-number_row.field-0) c.new.ensures c.in_ok-number_row.ensures.ok) in
    omega (arith, room)

pub rows-smaller-then-branch : goal.rows-smaller-then-branch
rows-smaller-then-branch g c = row_shorter g.R.Reader.reading c.rows.rows c.number_row.new.rows c.in_ok-number_row.ensures.ok.mark c.in_ok-number_row.ensures.ok.passes

pub rows-preserved-then-branch : goal.rows-preserved-then-branch
rows-preserved-then-branch g c =
    numbered_more (keep_of c.args.kept.now) g.R.Reader.reading c.args.unit.unit.now.header c.args.unit.unit.now.abbreviations c.args.id c.args.ids.now c.rows.rows c.number_row.new.rows true c.rows.ids c.number_row.new.ids c.rows.count
    (g.met.R.Reader.is_reading c.rows.rows.input) (g.met.R.Reader.is_reading c.number_row.new.rows.input) c.rows.invariant
    (subst (λ (b : Bool). NumbersRow (keep_of c.args.kept.now) g.R.Reader.reading c.rows.rows c.number_row.new.rows (c.args.id, record { 0 = c.rows.count }) c.rows.ids c.number_row.new.ids b) c.if-branch.true
    (subst (λ (n : ℕ). NumbersRow (keep_of c.args.kept.now) g.R.Reader.reading c.rows.rows c.number_row.new.rows (c.args.id, record { 0 = n }) c.rows.ids c.number_row.new.ids c.in_ok-number_row.field-0) c.new.ensures c.in_ok-number_row.ensures.ok))

pub rows-smaller : goal.rows-smaller
rows-smaller g c = row_shorter g.R.Reader.reading c.rows.rows c.number_row.new.rows c.in_ok-number_row.ensures.ok.mark c.in_ok-number_row.ensures.ok.passes

pub rows-preserved : goal.rows-preserved
rows-preserved g c =
    let none : c.rows.count + 0 ≡ c.rows.count = omega arith in
    let more = numbered_more (keep_of c.args.kept.now) g.R.Reader.reading c.args.unit.unit.now.header c.args.unit.unit.now.abbreviations c.args.id c.args.ids.now c.rows.rows c.number_row.new.rows false c.rows.ids c.number_row.new.ids c.rows.count
    (g.met.R.Reader.is_reading c.rows.rows.input) (g.met.R.Reader.is_reading c.number_row.new.rows.input) c.rows.invariant
    (subst (λ (b : Bool). NumbersRow (keep_of c.args.kept.now) g.R.Reader.reading c.rows.rows c.number_row.new.rows (c.args.id, record { 0 = c.rows.count }) c.rows.ids c.number_row.new.ids b) c.if-branch.false
    (subst (λ (n : ℕ). NumbersRow (keep_of c.args.kept.now) g.R.Reader.reading c.rows.rows c.number_row.new.rows (c.args.id, record { 0 = n }) c.rows.ids c.number_row.new.ids c.in_ok-number_row.field-0) c.new.ensures c.in_ok-number_row.ensures.ok)) in
    subst (λ (n : ℕ). Numbered (keep_of c.args.kept.now) g.R.Reader.reading c.args.unit.unit.now.header c.args.unit.unit.now.abbreviations c.args.id c.args.ids.now c.number_row.new.rows n c.number_row.new.ids) none more

pub returns-clause-ok : goal.returns-clause-ok
returns-clause-ok g c = numbered_end (keep_of c.args.kept.now) g.R.Reader.reading c.args.unit.unit.now.header c.args.unit.unit.now.abbreviations c.args.id c.args.ids.now c.rows.rows c.rows.count c.rows.ids (g.met.R.Reader.is_reading c.rows.rows.input) c.rows.invariant (c.is_empty.ensures.0 c.rows-test.false)
