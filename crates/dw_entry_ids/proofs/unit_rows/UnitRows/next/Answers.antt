use Rattle.std.proofs.Common.{◌≡◌, ◌≢◌, ◌∙◌, sym, ap, subst, ◌+◌, ◌^◌, ◌<◌, List, All, length, Bool, true, None, Ok, ⊎_elim, inl, inr, refl, arith}
use Rattle.std.proofs.lemmas.Result.{err_from_is_err_and}
use Rattle.dw_base.specs.Abbreviations.{Declaration}
use Rattle.dw_base.specs.declared.ids.UnitEntryId.{UnitEntryId}
use Rattle.dw_read.specs.Reading.{left}
use Rattle.dw_read.specs.Rows.{ReadsRow, PassesEntry}
use Rattle.dw_read_units.proofs.RowWalk.{row_shorter}
use Rattle.dw_entry_ids.proofs.Cursor.{among_of, can_number, hands_none, hands_row, numbers_more, numbers_of, passed_more, passed_none, never_stops, none_whole, row_whole, stops_there}
use Rattle.dw_entry_ids.proofs.Passing.{null_passes, tag_passes}
use Rattle.dw_entry_ids.specs.Plans.{last_or_root}
use Rattle.dw_entry_ids.specs.declared.unit_rows.UnitRows.{UnitRows}
use Rattle.dw_entry_ids.proofs.unit_rows.UnitRows.next.Goals as goal

pub rows-init : goal.rows-init
rows-init g c = (λ u front rest fault s. passed_none g.R.Reader.reading u c.args.self.now front rest fault s, c.if-self.false)

pub returns-in_err-read_entry-clause-reads : goal.returns-in_err-read_entry-clause-reads
returns-in_err-read_entry-clause-reads g c =
    let reading = g.R.Reader.reading in
    let more : length (left (reading c.rows.self.rows.input)) ≡ 0 → ⊥ = λ z. let t : c.is_empty.result ≡ true = c.is_empty.ensures.1 z in cc in
    let p = err_from_is_err_and c.from_residual.result c.from_residual.ensures.1 in
    λ u front rest fault s.
    rw (p.1, p.2) (⊎_elim inl (λ r. inr (stops_there reading u c.rows.self c.read_entry.new.self front rest fault _ (c.rows.invariant.0 u front rest fault s) more r.reason)) c.in_err-read_entry.ensures.1)

pub returns-in_err-read_entry-clause-walks : goal.returns-in_err-read_entry-clause-walks
returns-in_err-read_entry-clause-walks g c =
    let reading = g.R.Reader.reading in
    let more : length (left (reading c.rows.self.rows.input)) ≡ 0 → ⊥ = λ z. let t : c.is_empty.result ≡ true = c.is_empty.ensures.1 z in cc in
    let p = err_from_is_err_and c.from_residual.result c.from_residual.ensures.1 in
    λ u front rest s.
    let w = c.rows.invariant.0 u front rest None (among_of reading u c.args.self.now front rest s) in
    rw (p.1, p.2) (⊎_elim (λ n. n) (λ r. never_stops reading u front rest _ (stops_there reading u c.rows.self c.read_entry.new.self front rest None _ w more r.reason)) c.in_err-read_entry.ensures.1)

pub rows-smaller : goal.rows-smaller
rows-smaller g c =
    let reading = g.R.Reader.reading in
    let e = subst (λ (b : Bool). ReadsRow reading c.rows.self.rows c.read_entry.new.self c.rows.entry c.read_entry.new.entry (Ok b)) c.if-not-branch.true c.in_ok-read_entry.ensures in
    row_shorter reading c.rows.self.rows c.read_entry.new.self _ (null_passes reading c.rows.self.rows c.read_entry.new.self e.0)

pub rows-preserved : goal.rows-preserved
rows-preserved g c =
    let reading = g.R.Reader.reading in
    let now = c.rows.self in
    let next = c.read_entry.new.self in
    let e = subst (λ (b : Bool). ReadsRow reading now.rows next c.rows.entry c.read_entry.new.entry (Ok b)) c.if-not-branch.true c.in_ok-read_entry.ensures in
    (λ u front rest fault s. passed_more reading u now (record { rows = next; count = now.count; parents = c.pop.new.self; is_ended = now.is_ended }) front rest fault (g.met.R.Reader.is_reading now.rows.input) (g.met.R.Reader.is_reading next.input) (c.rows.invariant.0 u front rest fault s) now.parents.len (null_passes reading now.rows next e.0) refl refl now.parents.ok.0 c.pop.ensures.rest, c.rows.invariant.1)

pub returns-in-rows-clause-reads : goal.returns-in-rows-clause-reads
returns-in-rows-clause-reads g c =
    let reading = g.R.Reader.reading in
    let now = c.rows.self in
    let next = c.read_entry.new.self in
    let new : UnitRows _ _ = record { rows = next; count = c.saturating_add-self.result; parents = c.open_list.new.parents; is_ended = now.is_ended } in
    let e : PassesEntry reading now.rows next c.rows.entry c.read_entry.new.entry = subst (λ (b : Bool). ReadsRow reading now.rows next c.rows.entry c.read_entry.new.entry (Ok b)) c.if-not-branch.false c.in_ok-read_entry.ensures in
    let above = c.last_or_root-parent.ensures ∙ ap (λ (xs : List UnitEntryId). last_or_root (numbers_of xs)) c.deref.ensures.value in
    let parents = numbers_more c.read_entry.new.entry.has_children now.parents.items c.open_list.new.parents.items c.new-id.result now.count c.new-id.ensures c.in_ok-open_list.ensures.ok in
    λ u front rest fault s.
    let w = c.rows.invariant.0 u front rest fault s in
    let i = g.met.R.Reader.is_reading now.rows.input in
    let j = g.met.R.Reader.is_reading next.input in
    let room : now.count + 1 < 2 ^ 64 = can_number reading u now new front rest fault i j w c.rows.entry c.read_entry.new.entry e in
    let count : c.saturating_add-self.result ≡ now.count + 1 = omega (arith, room, c.saturating_add-self.ensures) in
    hands_row reading u now new front rest fault i j w c.rows.entry c.read_entry.new.entry c.new-id.result.0 c.last_or_root-parent.result.0 e count refl parents c.new-id.ensures above
    (λ t. tag_passes reading now.rows next c.rows.entry c.read_entry.new.entry e (subst (λ (table : List Declaration). All (λ (d : Declaration). d.shape.tag ≢ 0) table) (sym w.stands.declarations) t))

pub returns-in-rows-clause-walks : goal.returns-in-rows-clause-walks
returns-in-rows-clause-walks g c = λ u front rest s. row_whole g.R.Reader.reading u front rest _ _ _ _ (returns-in-rows-clause-reads g c u front rest None (among_of g.R.Reader.reading u c.args.self.now front rest s))

pub returns-clause-reads : goal.returns-clause-reads
returns-clause-reads g c = λ u front rest fault s. hands_none g.R.Reader.reading u c.rows.self front rest fault (c.rows.invariant.0 u front rest fault s) (c.is_empty.ensures.0 c.rows-test.false)

pub returns-clause-walks : goal.returns-clause-walks
returns-clause-walks g c = λ u front rest s. none_whole g.R.Reader.reading u front rest _ (returns-clause-reads g c u front rest None (among_of g.R.Reader.reading u c.args.self.now front rest s))
