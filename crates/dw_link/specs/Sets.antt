-- Sets of sections, and where their parts come to stand in the joined sections.
use Rattle.std.specs.Prelude.{ℕ, ◌+◌, Bool, List, [], ◌∷◌, ◌++◌, length, take, map, Option, Some, None}
use Rattle.std.specs.Option.{option_map}
use Rattle.dw_base.specs.Numbers.{◌>>=◌}
use Rattle.dw_base.specs.declared.section_id.SectionId.{SectionId}
use Rattle.dw_writer.specs.Texts.{Text, followed}
use Rattle.dw_writer.specs.Layout.{Layout}
use Rattle.dw_writer.specs.Resolved.{put_records, resolved}
use Rattle.dw_writer.specs.Meaning.{Meaning, spelled_text}
use Rattle.dw_writer.specs.Sections.{section_of}
use Rattle.dw_writer.specs.Visits.{written_ids}
use Rattle.dw_writer.specs.declared.relocate.Relocation.{Relocation}
use Rattle.dw_writer.specs.declared.sections.Sections.{Sections}

-- what the writer of each section holds, if the section is one that is joined
abbrev pub Parts : Type 0
Parts = SectionId → Option Meaning

abbrev pub parts_of : {W : Type 0} → (W → Meaning) → Sections W → Parts
parts_of meaning sections s = option_map meaning (section_of sections s)

abbrev pub sets_of : {W : Type 0} → (W → Meaning) → List (Sections W) → List Parts
sets_of meaning sets = map (parts_of meaning) sets

-- the bytes of a part, and its relocations; where there is no part, there are none
abbrev pub bytes_of : Option Meaning → List ℕ
bytes_of None = []
bytes_of (Some m) = spelled_text m.bytes

abbrev pub relocations_of : Option Meaning → List Relocation
relocations_of None = []
relocations_of (Some m) = m.records

-- a section of all sets, one set's part behind another's
abbrev pub concatenated : SectionId → List Parts → List ℕ
concatenated s [] = []
concatenated s (set ∷ sets) = bytes_of (set s) ++ concatenated s sets

-- where the part of set n starts in the joined section: behind those of the sets before it
abbrev pub start_in : List Parts → ℕ → SectionId → ℕ
start_in sets n s = length (concatenated s (take n sets))

-- where the parts of set n start, that of this section among them, and what symbols are
abbrev pub layout_in : List Parts → List ℕ → ℕ → SectionId → Layout
layout_in sets symbols n s = record { starts = map (start_in sets n) written_ids; own_start = start_in sets n s; symbols = symbols }

-- The joined section

-- a relocation of a part that starts there, as it stands in the joined section
abbrev pub moved : ℕ → Relocation → Relocation
moved start r = record r { offset = start + r.offset }

-- the layout of set n for relocations that stand in the joined section
abbrev pub joined_layout : List Parts → List ℕ → ℕ → SectionId → Layout
joined_layout sets symbols n s = record (layout_in sets symbols n s) { own_start = 0 }

-- a joined section with the numbers of these sets' relocations put in, of which the first is set n
abbrev pub put_sets : Bool → List Parts → List ℕ → SectionId → ℕ → List Parts → Text → Text
put_sets big sets symbols s n [] t = t
put_sets big sets symbols s n (set ∷ more) t =
    put_sets big sets symbols s (n + 1) more
    (put_records big (joined_layout sets symbols n s) (map (moved (start_in sets n s)) (relocations_of (set s))) t)

-- the joined section: all sets' parts, and then the numbers of their relocations put in, set by set
unfoldable pub join : Bool → List Parts → List ℕ → SectionId → Text
join big sets symbols s = put_sets big sets symbols s 0 sets (Some (concatenated s sets))

-- The joined section, as the parts that are each resolved where they stand

-- the part of set n
abbrev pub linked_part : List Parts → List ℕ → SectionId → ℕ → Parts → Text
linked_part sets symbols s n set = set s >>= resolved (layout_in sets symbols n s)

-- the parts of these sets, one behind another, of which the first is set n
abbrev pub linked_from : List Parts → List ℕ → SectionId → ℕ → List Parts → Text
linked_from sets symbols s n [] = Some []
linked_from sets symbols s n (set ∷ more) = followed (linked_part sets symbols s n set) (linked_from sets symbols s (n + 1) more)

unfoldable pub linked_parts : List Parts → List ℕ → SectionId → Text
linked_parts sets symbols s = linked_from sets symbols s 0 sets
