use Rattle.std.proofs.Common.{ap, ap₂, subst, ℕ, ℤ, map, Bool, Ok}
use Rattle.dw_base.specs.Entries.{ReadEntry, Mark, Open, Null}
use Rattle.dw_read.specs.Attributes.{attribute_of}
use Rattle.dw_read.specs.Rows.{ReadsRow, entry_of, row_at, row_read}
use Rattle.dw_read.proofs.Chain.{took_of}
use Rattle.dw_read.proofs.FormLaws.{mark_law}
use Rattle.example_read.specs.Seen.{Entry, Closing}
use Rattle.example_read.proofs.walk.read_row.Goals as goal

pub returns-then-branch-clause-ok : goal.returns-then-branch-clause-ok
returns-then-branch-clause-ok g c =
    let reading = g.R.Reader.reading in
    let old = c.args.entries.now in
    let new = c.read_entry.new.self in
    let d = c.read_entry.new.entry in
    let e = subst (λ (b : Bool). ReadsRow reading old new c.new-entry.result d (Ok b)) c.if-branch.true c.in_ok-read_entry.ensures in
    record {
      mark = Open (entry_of reading e.code d);
      passes = record { unit = e.unit; took = took_of (Mark ReadEntry) (row_at reading old new) (row_read reading old new) (reading old.input) (reading new.input) (Open (entry_of reading e.code d)) (mark_law (reading old.input).is_big old.fields.now.encoding old.abbreviations.now) e.row; lists = e.lists };
      seen = ap₂ (λ (o : ℕ) (z : ℤ). Entry (record { offset = o; depth = z; tag = d.tag.0; has_children = d.has_children; attributes = map (attribute_of reading) d.attrs.items })) e.offset e.depth;
    }

pub returns-else-branch-clause-ok : goal.returns-else-branch-clause-ok
returns-else-branch-clause-ok g c =
    let reading = g.R.Reader.reading in
    let old = c.args.entries.now in
    let new = c.read_entry.new.self in
    let e = subst (λ (b : Bool). ReadsRow reading old new c.new-entry.result c.read_entry.new.entry (Ok b)) c.if-branch.false c.in_ok-read_entry.ensures in
    record {
      mark = Null;
      passes = record { unit = e.0.unit; took = took_of (Mark ReadEntry) (row_at reading old new) (row_read reading old new) (reading old.input) (reading new.input) Null (mark_law (reading old.input).is_big old.fields.now.encoding old.abbreviations.now) e.0.row; lists = e.0.lists };
      seen = ap Closing c.next_offset-offset.ensures;
    }
