-- What scripts of the command `link` build, as contracts see it.
use Rattle.std.specs.Prelude.{ℕ, List, [], ◌∷◌, ◌++◌, map}
use Rattle.dw_base.specs.declared.endianity.RunTimeEndian.{RunTimeEndian}
use Rattle.dw_dwarf.specs.DwarfValue.{DwarfValue, dwarf_in}
use Rattle.dw_build.specs.ScriptValue.{ScriptValue, script_in, empty_script}
use Rattle.dw_build.specs.declared.sets.BegunSets.{BegunSets}
use Rattle.dw_build.specs.declared.sets.Sets.{Sets}

-- all sets in their order, and the values of symbols
pub record SetsValue : Type 0 where
  pub endian : RunTimeEndian
  pub dwarfs : List DwarfValue
  pub symbols : List ℕ

abbrev pub sets_in : Sets → SetsValue
sets_in s = record { endian = s.endian; dwarfs = map dwarf_in s.dwarfs.items; symbols = s.symbols.items }

-- what lines have built so far: the sets that are whole, the one that was begun last, with the byte order of all, and symbols
pub record BegunValue : Type 0 where
  pub whole : List DwarfValue
  pub last : ScriptValue
  pub symbols : List ℕ

abbrev pub begun_in : BegunSets → BegunValue
begun_in s = record { whole = map dwarf_in s.whole.items; last = script_in s.last; symbols = s.symbols.items }

-- before the first line: one set, of nothing
abbrev pub empty_begun : BegunValue
empty_begun = record { whole = []; last = empty_script; symbols = [] }

-- the set that was begun last is the last of all
abbrev pub all_sets : BegunValue → SetsValue
all_sets s = record { endian = s.last.endian; dwarfs = s.whole ++ s.last.dwarf ∷ []; symbols = s.symbols }
