-- A unit as a user holds it, from its fields and its rows.
use Rattle.std.proofs.Common.{◌∙◌, ap, map}
use Rattle.dw_read.specs.Reading.{Reading}
use Rattle.dw_read.specs.Fields.{header_of}
use Rattle.dw_read.specs.declared.unit_header.UnitHeader.{UnitHeader}
use Rattle.dw_read_units.specs.UnitReads.{IsUnit}
use Rattle.dw_read_units.specs.declared.dwarf.Dwarf.{Dwarf}
use Rattle.dw_read_units.proofs.UnitParts.{unit_whole}
use Rattle.example_read.specs.declared.row.UnitRows.{UnitRows}
use Rattle.example_read.specs.Seen.{seen_row, SeesRows, SeesUnit}

pub sees_unit : {R E : Type 0} (reading : R → Reading) (d : Dwarf R E) (h : UnitHeader R E) (u : UnitRows R E) → IsUnit reading d h u.unit → SeesRows reading u.unit.header u.unit.abbreviations u.rows.items → SeesUnit reading d h u
sees_unit {R} {E} reading d h u i s = record {
  unit = record { from = h.offset.0; header = header_of h.fields; table = u.unit.abbreviations; rows = s.all };
  is = unit_whole reading d h u.unit s.all i s.is;
  seen = ap (λ (g : UnitHeader R E). record { from = g.offset.0; header = header_of g.fields; table = u.unit.abbreviations; rows = map (seen_row reading) u.rows.items }) i.header
      ∙ ap (λ l. record { from = h.offset.0; header = header_of h.fields; table = u.unit.abbreviations; rows = l }) s.seen;
}
