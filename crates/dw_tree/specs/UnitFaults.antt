-- The faults of units: what stands in the way of writing one.
use Rattle.std.specs.Prelude.{ℕ, Bool, false, not, ◌&&◌, ◌||◌, ◌==◌, nat_le, List, Option, Some, None, is_none}
use Rattle.std.specs.List.{list_any}
use Rattle.dw_base.specs.Numbers.{is_width, word_of, length_fits}
use Rattle.dw_base.specs.Entries.{Mark, Open, Null}
use Rattle.dw_base.specs.declared.common.Encoding.{Encoding}
use Rattle.dw_base.specs.declared.error.Error.{Error}
use Rattle.dw_base.specs.declared.error.Error.TheVariants as errors
use Rattle.dw_writer.specs.Causes.{offset_fits}
use Rattle.dw_writer.specs.Drafts.{Info}
use Rattle.dw_writer.specs.declared.fixup.DebugInfoFixup.{DebugInfoFixup}
use Rattle.dw_entries.specs.declared.attribute.Attribute.{Attribute}
use Rattle.dw_entries.specs.Values.{value_fails}
use Rattle.dw_entries.specs.Entries.{EntryValue, entry_at}
use Rattle.dw_entries.specs.Targets.{UnitTargets}
use Rattle.dw_entries.specs.Tree.{preorder}
use Rattle.dw_tree.specs.UnitText.{tree_draft, unit_length}

-- the versions of units
abbrev pub is_version : ℕ → Bool
is_version v = nat_le 2 v && nat_le v 5

-- a version and an address size that a header can have
abbrev pub is_encodable : Encoding → Bool
is_encodable e = is_version e.version && is_width e.address_size

-- a version or an address size has no spelling
abbrev pub encoding_fails : Encoding → Error → Bool
encoding_fails e (errors.UnsupportedVersion v) = (v == e.version) && not (is_version v)
encoding_fails e (errors.UnsupportedWordSize n) = (n == e.address_size) && not (is_width n)
encoding_fails e err = false

-- a value of an entry has a fault, where operands lead to these targets
abbrev pub attributes_fail : Encoding → UnitTargets → Bool → List Attribute → Error → Bool
attributes_fail e u is_plain xs err = list_any (λ a. value_fails e u is_plain a.value err) xs

abbrev pub mark_fails : Encoding → List EntryValue → UnitTargets → Bool → Mark ℕ → Error → Bool
mark_fails e es u is_plain (Open i) err = attributes_fail e u is_plain (entry_at es i).attributes err
mark_fails e es u is_plain Null err = false

abbrev pub marks_fail : Encoding → List EntryValue → UnitTargets → Bool → List (Mark ℕ) → Error → Bool
marks_fail e es u is_plain ms err = list_any (λ m. mark_fails e es u is_plain m err) ms

-- the place of the table has no room in a word
abbrev pub fields_fail : Encoding → ℕ → Bool → Error → Bool
fields_fail e table is_plain errors.ValueTooLarge = not (offset_fits is_plain (word_of e.format) table)
fields_fail e table is_plain err = false

-- or the length has no spelling
abbrev pub header_fails : Encoding → ℕ → Bool → ℕ → Error → Bool
header_fails e table is_plain length errors.InitialLengthOverflow = not (length_fits e.format length)
header_fails e table is_plain length err = fields_fail e table is_plain err

-- a unit whose table is to stand at a place has this fault
abbrev pub unit_fails : Encoding → List EntryValue → ℕ → UnitTargets → Bool → Error → Bool
unit_fails e es table u is_plain err =
    header_fails e table is_plain (unit_length e (tree_draft e es u).size) err || marks_fail e es u is_plain (preorder es) err

-- a place has no room in so many bytes of a writer
abbrev pub has_no_room : Bool → ℕ → Option ℕ → Bool
has_no_room is_plain w None = false
has_no_room is_plain w (Some n) = not (offset_fits is_plain w n)

-- a reference to an entry by its place in .debug_info leads nowhere, or the place has no room
abbrev pub hole_fails : Info → Bool → DebugInfoFixup → Error → Bool
hole_fails info is_plain h errors.InvalidReference = is_none (info h.unit.0 h.entry.0)
hole_fails info is_plain h errors.ValueTooLarge = has_no_room is_plain h.size (info h.unit.0 h.entry.0)
hole_fails info is_plain h err = false

abbrev pub holes_fail : Info → Bool → List DebugInfoFixup → Error → Bool
holes_fail info is_plain hs err = list_any (λ h. hole_fails info is_plain h err) hs
