-- What a unit's root says of other sections.
use Rattle.std.specs.Prelude.{ℕ, List, [], ◌∷◌, Option, Some, None, Bool, true, false, ◌||◌, ◌==◌, if◌then◌else◌}
use Rattle.dw_base.specs.declared.constants.TheConstants.{DW_AT_GNU_dwo_id, DW_AT_stmt_list}
use Rattle.dw_base.specs.declared.offsets.DebugLineOffset.{DebugLineOffset}
use Rattle.dw_base.specs.declared.offsets.DwoId.{DwoId}
use Rattle.dw_base.specs.Entries.{ReadAttribute}
use Rattle.dw_base.specs.declared.common.Encoding.{Encoding}
use Rattle.dw_base.specs.declared.common.Format.{Format}
use Rattle.dw_base.specs.declared.common.Format.TheVariants.{Dwarf32, Dwarf64}
use Rattle.dw_read.specs.Reading.{Reading}
use Rattle.dw_read.specs.Attributes.{attribute_of}
use Rattle.dw_read.specs.Values.{Value, raw_value_of, named_value}
use Rattle.dw_read.specs.declared.attribute.Attribute.{Attribute}
use Rattle.dw_read.specs.declared.value.AttributeValue.TheVariants.{SecOffset, DebugLineRef, DwoId as IdValue}

-- an attribute's name and value
abbrev pub named_of : Encoding → ReadAttribute → ℕ × Value
named_of e x = (x.name, named_value x.name (raw_value_of e x))

abbrev pub named_in : {R E : Type 0} → (R → Reading) → Attribute R E → ℕ × Value
named_in reading a = named_of a.encoding (attribute_of reading a)

abbrev pub later : ℕ → ℕ → Option Value → ℕ × Value → Option Value
later name other found x = if x.0 == name || x.0 == other then Some x.1 else found

-- the last value under one of two names, or another before the list
abbrev pub last_after : ℕ → ℕ → Option Value → List (ℕ × Value) → Option Value
last_after name other found [] = found
last_after name other found (x ∷ xs) = last_after name other (later name other found x) xs

-- of several attributes of a name the last counts
unfoldable pub last_value : ℕ → ℕ → List (ℕ × Value) → Option Value
last_value name other xs = last_after name other None xs

-- the place of a section that a value is, or another
abbrev pub base_or : ℕ → Option Value → ℕ
base_or missing (Some (SecOffset p)) = p
base_or missing v = missing

-- The place under a name or an older one of the same meaning: of each the last value counts, and of these two the last that is
-- a place. So what has another form under the one name hides no place under the other.
abbrev pub base_of : ℕ → ℕ → ℕ → List (ℕ × Value) → ℕ
base_of missing name older xs = base_or (base_or (base_or missing (last_value older older xs)) (last_value name name xs)) (last_value name older xs)

abbrev pub program_of : Option Value → Option DebugLineOffset
program_of (Some (DebugLineRef p)) = Some p
program_of v = None

abbrev pub program_in : List (ℕ × Value) → Option DebugLineOffset
program_in xs = program_of (last_value DW_AT_stmt_list.0 DW_AT_stmt_list.0 xs)

abbrev pub id_of : Option Value → Option DwoId
id_of (Some (IdValue i)) = Some i
id_of v = None

abbrev pub id_in : List (ℕ × Value) → Option DwoId
id_in xs = id_of (last_value DW_AT_GNU_dwo_id.0 DW_AT_GNU_dwo_id.0 xs)

-- A split unit's parts of other sections are the first there, behind headers of 8 or 16 bytes with strings' offsets, 12 or 20
-- with lists' (DWARF 5, 7.26 to 7.29).
abbrev pub first_part : Bool → Format → ℕ → ℕ → ℕ
first_part false format short long = 0
first_part true Dwarf32 short long = short
first_part true Dwarf64 short long = long
