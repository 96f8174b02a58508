-- The places that the values of a tree have in joined sections, which may start later than at 0.
use Rattle.std.specs.Prelude.{ℕ, Bool, true, false, not, List}
use Rattle.std.specs.List.{list_all}
use Rattle.dw_base.specs.Entries.{Mark, Open, Null}
use Rattle.dw_base.specs.declared.section_id.SectionId.{SectionId}
use Rattle.dw_base.specs.declared.section_id.SectionId.TheVariants.{DebugStr, DebugLineStr}
use Rattle.dw_entries.specs.declared.value.AttributeValue.{AttributeValue}
use Rattle.dw_entries.specs.declared.value.AttributeValue.TheVariants as values
use Rattle.dw_entries.specs.Entries.{EntryValue, entry_at}
use Rattle.dw_entries.specs.Tree.{preorder}
use Rattle.dw_dwarf_laws.specs.LineStrings.{place_fits}

-- The place of a string has room in so many bytes, where sections start there.
abbrev pub value_fits : (SectionId → ℕ) → List (List ℕ) → List (List ℕ) → ℕ → AttributeValue → Bool
value_fits starts strings line_strings w (values.StringRef i) = place_fits (starts DebugStr) w strings i.0
value_fits starts strings line_strings w (values.LineStringRef i) = place_fits (starts DebugLineStr) w line_strings i.0
value_fits starts strings line_strings w v = true

-- a place in a section of macros, which isn't joined
abbrev pub is_macro : AttributeValue → Bool
is_macro (values.DebugMacinfoRef n) = true
is_macro (values.DebugMacroRef n) = true
is_macro v = false

-- each value of an entry passes a test, and each value of the tree's entries
abbrev pub mark_passes : (AttributeValue → Bool) → List EntryValue → Mark ℕ → Bool
mark_passes test es (Open i) = list_all (λ a. test a.value) (entry_at es i).attributes
mark_passes test es Null = true

abbrev pub tree_passes : (AttributeValue → Bool) → List EntryValue → Bool
tree_passes test es = list_all (mark_passes test es) (preorder es)

-- no value of the tree is such a place
abbrev pub has_no_macros : List EntryValue → Bool
has_no_macros es = tree_passes (λ v. not (is_macro v)) es
