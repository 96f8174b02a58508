-- What operands lead to, where sections start later than at 0.
use Rattle.std.specs.Prelude.{◌≡◌, ℕ, ◌+◌, true, false, List, Option, Some}
use Rattle.std.specs.Option.{option_map}
use Rattle.dw_base.specs.declared.common.Encoding.{Encoding}
use Rattle.dw_base.specs.declared.section_id.SectionId.{SectionId}
use Rattle.dw_base.specs.declared.section_id.SectionId.TheVariants.{DebugStr, DebugLineStr, DebugLine, DebugRanges, DebugRngLists, DebugLoc, DebugLocLists}
use Rattle.dw_entries.specs.Targets.{Tables}
use Rattle.dw_lists.specs.Items.{is_five}
use Rattle.dw_strings.specs.Strings.{string_place}

-- a place, counted from where a section's part starts, as one that is counted from the section's begin
abbrev pub moved : ℕ → Option ℕ → Option ℕ
moved start place = option_map (λ n. n + start) place

-- Tables of one unit: in one of them places count from where its parts start, in the other from the begins of the sections, but for
-- those of strings, which count from their own table's begin in both.
pub record IsMoved (starts : SectionId → ℕ) (strings line_strings : List (List ℕ)) (e : Encoding) (t joined : Tables) : Type 0 where
  pub same_strings : (i : ℕ) → joined.part DebugStr i ≡ t.part DebugStr i
  pub string_places : (i n : ℕ) → t.part DebugStr i ≡ Some n → n ≡ string_place strings i
  pub same_line_strings : (i : ℕ) → joined.part DebugLineStr i ≡ t.part DebugLineStr i
  pub line_string_places : (i n : ℕ) → t.part DebugLineStr i ≡ Some n → n ≡ string_place line_strings i
  pub line_program : joined.own DebugLine ≡ moved (starts DebugLine) (t.own DebugLine)
  pub range_base : joined.own DebugRngLists ≡ moved (starts DebugRngLists) (t.own DebugRngLists)
  pub location_base : joined.own DebugLocLists ≡ moved (starts DebugLocLists) (t.own DebugLocLists)
  pub ranges : is_five e ≡ false → (i : ℕ) → joined.part DebugRanges i ≡ moved (starts DebugRanges) (t.part DebugRanges i)
  pub range_lists : is_five e ≡ true → (i : ℕ) → joined.part DebugRngLists i ≡ moved (starts DebugRngLists) (t.part DebugRngLists i)
  pub locations : is_five e ≡ false → (i : ℕ) → joined.part DebugLoc i ≡ moved (starts DebugLoc) (t.part DebugLoc i)
  pub location_lists : is_five e ≡ true → (i : ℕ) → joined.part DebugLocLists i ≡ moved (starts DebugLocLists) (t.part DebugLocLists i)
