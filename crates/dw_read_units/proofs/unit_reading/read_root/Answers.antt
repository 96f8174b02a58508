use Rattle.dw_read_units.proofs.UnitLaws.{root_row, root_encoded}
use Rattle.dw_read.specs.Reading.{left}
use Rattle.dw_read_units.proofs.unit_reading.read_root.Goals as goal

pub returns-then-branch-clause-ok : goal.returns-then-branch-clause-ok
returns-then-branch-clause-ok g c =
    let h = rw c.if-branch.true at c.in_ok-read_entry.ensures in
    let b = c.new-entries.ensures in
    record {
      code = h.code;
      rest = left (g.R.Reader.reading c.read_entry.new.self.input);
      row = root_row _ _ _ _ _ _ _ _ b.input b.fields b.declarations h.row.value;
      encoded = root_encoded _ _ _ b.fields h.encoded;
    }
