use Rattle.std.specs.Prelude.{◌==◌, ◌||◌}
use Rattle.std.proofs.Common.{◌≡◌, ◌∙◌, sym, ◌+◌, ◌-◌, ◌≤◌, ap, subst, ℕ, Bool, Ok, refl, arith}
use Rattle.dw_base.specs.Entries.{ReadEntry, Mark, Open, Null}
use Rattle.dw_read.specs.Rows.{ReadsRow, entry_of, row_at, row_read}
use Rattle.dw_read.proofs.Chain.{took_of}
use Rattle.dw_read.proofs.FormLaws.{mark_law}
use Rattle.dw_entry_ids.specs.Ids.{ids_at, later_or, begins_at}
use Rattle.dw_entry_ids.specs.KeptRows.{keep_of}
use Rattle.dw_entry_ids.proofs.units.number_row.Goals as goal

pub returns-then-not-branch-clause-ok : goal.returns-then-not-branch-clause-ok
returns-then-not-branch-clause-ok g c =
    let reading = g.R.Reader.reading in
    let old = c.args.rows.now in
    let new = c.read_entry.new.self in
    let e = subst (λ (b : Bool). ReadsRow reading old new c.args.entry.now c.read_entry.new.entry (Ok b)) c.if-not-branch.true c.in_ok-read_entry.ensures in
    record {
      mark = Null;
      passes = record {
        unit = e.0.unit;
        took = took_of (Mark ReadEntry) (row_at reading old new) (row_read reading old new) (reading old.input) (reading new.input) Null (mark_law (reading old.input).is_big old.fields.now.encoding old.abbreviations.now) e.0.row;
        lists = e.0.lists;
      };
      told = refl;
      kept = λ p. refl;
    }

pub returns-then-keeps_numbered-clause-ok : goal.returns-then-keeps_numbered-clause-ok
returns-then-keeps_numbered-clause-ok g c =
    let reading = g.R.Reader.reading in
    let old = c.args.rows.now in
    let new = c.read_entry.new.self in
    let d = c.read_entry.new.entry in
    let e = subst (λ (b : Bool). ReadsRow reading old new c.args.entry.now d (Ok b)) c.if-not-branch.false c.in_ok-read_entry.ensures in
    let start : c.args.start ≡ old.start = c.requires.start in
    let behind : c.args.start ≤ (reading old.input).place = c.requires.behind in
    let offset : d.offset.0 ≡ (reading old.input).place - old.start = e.offset in
    let place : c.args.start + d.offset.0 ≡ (reading old.input).place = omega arith in
    let kept : (c.args.number.1.0 == 0 || keep_of c.args.kept.now (reading old.input).place) ≡ c.keeps_numbered.result = ap (λ (n : ℕ). c.args.number.1.0 == 0 || keep_of c.args.kept.now n) (sym place) ∙ sym c.keeps_numbered.ensures in
    record {
      mark = Open (entry_of reading e.code d);
      passes = record {
        unit = e.unit;
        took = took_of (Mark ReadEntry) (row_at reading old new) (row_read reading old new) (reading old.input) (reading new.input) (Open (entry_of reading e.code d)) (mark_law (reading old.input).is_big old.fields.now.encoding old.abbreviations.now) e.row;
        lists = e.lists;
      };
      told = sym (kept ∙ c.if-keeps_numbered.true);
      kept = λ p. c.in_ok-insert.ensures.ok p ∙ ap (λ (n : ℕ). later_or (begins_at n c.args.number p) (ids_at c.args.ids.now p)) place;
    }

pub returns-clause-ok : goal.returns-clause-ok
returns-clause-ok g c =
    let reading = g.R.Reader.reading in
    let old = c.args.rows.now in
    let new = c.read_entry.new.self in
    let d = c.read_entry.new.entry in
    let e = subst (λ (b : Bool). ReadsRow reading old new c.args.entry.now d (Ok b)) c.if-not-branch.false c.in_ok-read_entry.ensures in
    let start : c.args.start ≡ old.start = c.requires.start in
    let behind : c.args.start ≤ (reading old.input).place = c.requires.behind in
    let offset : d.offset.0 ≡ (reading old.input).place - old.start = e.offset in
    let place : c.args.start + d.offset.0 ≡ (reading old.input).place = omega arith in
    let kept : (c.args.number.1.0 == 0 || keep_of c.args.kept.now (reading old.input).place) ≡ c.keeps_numbered.result = ap (λ (n : ℕ). c.args.number.1.0 == 0 || keep_of c.args.kept.now n) (sym place) ∙ sym c.keeps_numbered.ensures in
    record {
      mark = Open (entry_of reading e.code d);
      passes = record {
        unit = e.unit;
        took = took_of (Mark ReadEntry) (row_at reading old new) (row_read reading old new) (reading old.input) (reading new.input) (Open (entry_of reading e.code d)) (mark_law (reading old.input).is_big old.fields.now.encoding old.abbreviations.now) e.row;
        lists = e.lists;
      };
      told = sym (kept ∙ c.if-keeps_numbered.false);
      kept = λ p. refl;
    }
