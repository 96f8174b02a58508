-- What a script has built, as contracts see it.
use Rattle.std.specs.Prelude.{Bool, false, []}
use Rattle.dw_base.specs.declared.endianity.RunTimeEndian.{RunTimeEndian}
use Rattle.dw_base.specs.declared.endianity.RunTimeEndian.TheVariants.{Little}
use Rattle.dw_dwarf.specs.DwarfValue.{DwarfValue, dwarf_in}
use Rattle.dw_build.specs.declared.script.Script.{Script}

pub record ScriptValue : Type 0 where
  pub endian : RunTimeEndian
  pub dwarf : DwarfValue
  pub has_begun : Bool

abbrev pub script_in : Script → ScriptValue
script_in s = record { endian = s.endian; dwarf = dwarf_in s.dwarf; has_begun = s.has_begun }

-- before the first line: nothing, little-endian
abbrev pub empty_script : ScriptValue
empty_script = record { endian = Little; dwarf = record { units = []; line_programs = []; line_strings = []; strings = [] }; has_begun = false }
