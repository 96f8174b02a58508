use Rattle.std.proofs.Common.{ap, subst}
use Rattle.std.specs.Prelude.{◌≡◌, ◌⊎◌}
use Rattle.dw_sources.specs.declared.convert_error.ConvertError.TheVariants.{NoMemory}
use Rattle.dw_convert_lines.specs.Views.{tables}
use Rattle.dw_dwarf.specs.ConvertedUnits.{ConvertsUnits, RefusesUnits}
use Rattle.dw_dwarf.specs.DwarfValue.{DwarfValue}
use Rattle.dw_dwarf.proofs.Setting.{and_ok, and_err}
use Rattle.dw_dwarf.proofs.dwarf.Dwarf.from.Goals as goal

pub returns-clause-ok : goal.returns-clause-ok
returns-clause-ok g c =
    let new = c.convert_units.new in
    rw c.and.ensures
    (and_ok _ _ c.convert_units.result c.convert_units.ensures.ok
    (λ converts. record {
      units = subst (λ (v : DwarfValue). ConvertsUnits g.R.Reader.reading (goal.F-post g c.args.convert_address.now) c.args.from_dwarf.now v.units (tables v.strings v.line_strings) new.units (tables new.strings new.line_strings)) c.new-dwarf.ensures converts;
      programs = ap (λ (v : DwarfValue). v.line_programs) c.new-dwarf.ensures;
    }))

pub returns-clause-err : goal.returns-clause-err
returns-clause-err g c =
    rw c.and.ensures
    (and_err _ c.convert_units.result c.convert_units.ensures.err
    (λ e. subst (λ (v : DwarfValue). (e ≡ NoMemory) ⊎ RefusesUnits g.R.Reader.reading (goal.F-post g c.args.convert_address.now) c.args.from_dwarf.now v.units (tables v.strings v.line_strings) e) c.new-dwarf.ensures))
