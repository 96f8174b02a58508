use Rattle.std.proofs.Common.{◌-◌, ◌^◌}
use Rattle.dw_dwarf.proofs.Walking.{Converted}
use Rattle.dw_dwarf.specs.ConvertSteps.{tables_in}
use Rattle.dw_dwarf.proofs.convert.entries.convert_rows.Given as goal

abbrev pub invariant-rows : goal.invariant-rows
invariant-rows g l =
    Converted l.fn.kept g.R.Reader.reading (goal.F-post g l.convert_address) (g.C.ConvertDebugInfoRef.entries l.refs) (g.C.ConvertDebugInfoRef.infos l.refs) l.fn.read l.files l.fn.behind l.fn.unit (tables_in l.fn.strings l.fn.line_strings l.fn.unit)
    l.rows l.unit (tables_in l.strings l.line_strings l.unit)

abbrev pub decreases-rows : goal.decreases-rows
decreases-rows g l = 2 ^ 64 - l.rows.rows.count
