-- What the lines of a script do to the entries of a unit.
use Rattle.std.specs.Prelude.{ℕ, ◌+◌, length, Ok, Err, not, nat_lt, ◌==◌, if◌then◌else◌}
use Rattle.std.specs.Option.{option_map}
use Rattle.dw_ends.specs.Fields.{Outcome}
use Rattle.dw_script.specs.declared.change.Change.{Change}
use Rattle.dw_script.specs.declared.change.Change.TheVariants as change
use Rattle.dw_ends.specs.declared.reason.Reason.TheVariants.{NoSuchEntry, NotReserved, BadTag, BadName}
use Rattle.dw_script_fields.specs.declared.value.Value.{Value}
use Rattle.dw_script_fields.specs.declared.value.Value.TheVariants as value
use Rattle.dw_entries.specs.Entries.{EntryValue, with_changed, filled_up, with_new_child, with_sibling, with_attribute, without_attribute, without_child}
use Rattle.dw_tree.specs.UnitValue.{UnitValue, is_reserved}
use Rattle.dw_entries.specs.declared.value.AttributeValue.{AttributeValue}
use Rattle.dw_entries.specs.declared.value.AttributeValue.TheVariants as stored
use Rattle.dw_script_units.specs.Expressions.{expression_of}

-- the value that an attribute gets
abbrev pub attribute_value : Value → AttributeValue
attribute_value (value.Address a) = stored.Address a
attribute_value (value.Block bytes) = stored.Block bytes
attribute_value (value.Data1 n) = stored.Data1 n
attribute_value (value.Data2 n) = stored.Data2 n
attribute_value (value.Data4 n) = stored.Data4 n
attribute_value (value.Data8 n) = stored.Data8 n
attribute_value (value.Data16 n) = stored.Data16 n
attribute_value (value.Sdata z) = stored.Sdata z
attribute_value (value.Udata n) = stored.Udata n
attribute_value (value.ImplicitConst z) = stored.ImplicitConst z
attribute_value (value.Flag b) = stored.Flag b
attribute_value value.FlagPresent = stored.FlagPresent
attribute_value (value.UnitRef i) = stored.UnitRef (record { 0 = i })
attribute_value (value.DebugInfoRef r) = stored.DebugInfoRef r
attribute_value (value.DebugInfoRefSup n) = stored.DebugInfoRefSup n
attribute_value (value.DebugMacinfoRef n) = stored.DebugMacinfoRef n
attribute_value (value.DebugMacroRef n) = stored.DebugMacroRef n
attribute_value (value.DebugTypesRef n) = stored.DebugTypesRef n
attribute_value (value.DebugStrRefSup n) = stored.DebugStrRefSup n
attribute_value (value.String bytes) = stored.String bytes
attribute_value (value.StringRef i) = stored.StringRef (record { 0 = i })
attribute_value (value.LineStringRef i) = stored.LineStringRef (record { 0 = i })
attribute_value (value.RangeListRef i) = stored.RangeListRef (record { 0 = i })
attribute_value value.RangeListsBase = stored.RangeListsBase
attribute_value (value.LocationListRef i) = stored.LocationListRef (record { 0 = i })
attribute_value value.LocationListsBase = stored.LocationListsBase
attribute_value value.LineProgramRef = stored.LineProgramRef
attribute_value (value.FileIndex file) = stored.FileIndex (option_map (λ i. record { 0 = i }) file)
attribute_value (value.Encoding n) = stored.Encoding n
attribute_value (value.DecimalSign n) = stored.DecimalSign n
attribute_value (value.Endianity n) = stored.Endianity n
attribute_value (value.Accessibility n) = stored.Accessibility n
attribute_value (value.Visibility n) = stored.Visibility n
attribute_value (value.Virtuality n) = stored.Virtuality n
attribute_value (value.Language n) = stored.Language n
attribute_value (value.AddressClass n) = stored.AddressClass n
attribute_value (value.IdentifierCase n) = stored.IdentifierCase n
attribute_value (value.CallingConvention n) = stored.CallingConvention n
attribute_value (value.Inline n) = stored.Inline n
attribute_value (value.Ordering n) = stored.Ordering n
attribute_value (value.Exprloc steps) = stored.Exprloc (expression_of steps)

-- a unit with an entry added under a parent, for which an id was handed out
abbrev pub after_add : ℕ → ℕ → UnitValue → Outcome UnitValue
after_add parent tag u =
    if not (nat_lt parent u.reserved) then Err NoSuchEntry
    else (if tag == 0 then Err BadTag
    else Ok (record u { entries = with_new_child u.reserved parent tag (filled_up (u.reserved + 1) u.entries); reserved = u.reserved + 1 }))

-- a unit that handed out one more id
abbrev pub after_reserve : UnitValue → Outcome UnitValue
after_reserve u = Ok (record u { reserved = u.reserved + 1 })

-- a unit with the entry of a reserved id added under a parent
abbrev pub after_add_reserved : ℕ → ℕ → ℕ → UnitValue → Outcome UnitValue
after_add_reserved entry parent tag u =
    if not (nat_lt parent u.reserved) then Err NoSuchEntry
    else (if not (is_reserved u entry) then Err NotReserved
    else (if tag == 0 then Err BadTag
    else Ok (record u { entries = with_new_child entry parent tag (filled_up u.reserved u.entries) })))

-- a unit with one of its entries changed
abbrev pub with_entry_changed : ℕ → (EntryValue → EntryValue) → UnitValue → Outcome UnitValue
with_entry_changed entry change u =
    if not (nat_lt entry (length u.entries)) then Err NoSuchEntry
    else Ok (record u { entries = with_changed entry change u.entries })

-- a unit with an attribute set in an entry; no name is 0, and that of a sibling, which is 1, is not set by values
abbrev pub after_set : ℕ → ℕ → AttributeValue → UnitValue → Outcome UnitValue
after_set entry name v u =
    if not (nat_lt entry (length u.entries)) then Err NoSuchEntry
    else (if not (nat_lt 1 name) then Err BadName
    else Ok (record u { entries = with_changed entry (with_attribute name v) u.entries }))

-- a unit after a change
abbrev pub after_change : Change → UnitValue → Outcome UnitValue
after_change (change.Add parent tag) u = after_add parent tag.0 u
after_change change.Reserve u = after_reserve u
after_change (change.AddReserved entry parent tag) u = after_add_reserved entry parent tag.0 u
after_change (change.Sibling entry sibling) u = with_entry_changed entry (with_sibling sibling) u
after_change (change.Set entry name v) u = after_set entry name.0 (attribute_value v) u
after_change (change.Delete entry name) u = with_entry_changed entry (without_attribute name.0) u
after_change (change.DeleteChild parent entry) u = with_entry_changed parent (without_child entry) u
