-- The entries of a unit of which some are kept. An entry is kept by the place of .debug_info where it begins, and a unit's first
-- entry, which is its root, always (DWARF 5, 2.3).
use Rattle.std.specs.Prelude.{◌≡◌, ◌⊎◌, ℕ, ◌+◌, ◌==◌, ◌||◌, List, [], ◌∷◌, ◌++◌, filter, get_or, map, slice_get, Option, Some, None, Bool, true, if◌then◌else◌}
use Rattle.std.specs.List.{list_any}
use Rattle.dw_base.specs.Entries.{ReadEntry, Mark, Open, Null, Row}
use Rattle.dw_base.specs.Info.{ReadUnit}
use Rattle.dw_base.specs.declared.offsets.UnitSectionOffset.{UnitSectionOffset}
use Rattle.dw_entry_ids.specs.Ids.{entry_count, places_among}
use Rattle.dw_entry_ids.specs.Plans.{Plan, counted, parent_behind, plans_of}

-- the places of entries that are kept: all of them, or these
abbrev pub keep_of : Option (List UnitSectionOffset) → ℕ → Bool
keep_of None p = true
keep_of (Some kept) p = list_any (λ q. q.0 == p) kept

-- each is
abbrev pub all_kept : ℕ → Bool
all_kept p = true

-- null entries stay where others are left out
abbrev pub mark_stays : Bool → Mark ReadEntry → Bool
mark_stays is_kept (Open e) = is_kept
mark_stays is_kept Null = true

-- whether a row stays, behind so many entries of a unit that begins at a place
abbrev pub row_stays : (ℕ → Bool) → ℕ → ℕ → Row → Bool
row_stays keep from n r = mark_stays (n == 0 || keep (from + r.from)) r.mark

unfoldable pub kept_behind : (ℕ → Bool) → ℕ → ℕ → List Row → List Row
kept_behind keep from n [] = []
kept_behind keep from n (r ∷ rows) = (if row_stays keep from n r then r ∷ [] else []) ++ kept_behind keep from (counted r.mark + n) rows

-- the rows of a unit that stay
abbrev pub kept_rows : (ℕ → Bool) → ℕ → List Row → List Row
kept_rows keep from rows = kept_behind keep from 0 rows

abbrev pub kept_unit : (ℕ → Bool) → ReadUnit → ReadUnit
kept_unit keep u = record u { rows = kept_rows keep u.from u.rows }

-- what stands for an entry: its own number among those that are kept, or what stands for its own parent
abbrev pub mark_image : Bool → ℕ → ℕ → Mark ReadEntry → List ℕ
mark_image is_kept own above (Open e) = (if is_kept then own else above) ∷ []
mark_image is_kept own above Null = []

abbrev pub row_image : (ℕ → Bool) → ℕ → List ℕ → List Row → Row → List ℕ
row_image keep from images front r = mark_image (row_stays keep from (entry_count front) r) (entry_count (kept_rows keep from front)) (get_or images (parent_behind front r.depth) 0) r.mark

unfoldable pub images_behind : (ℕ → Bool) → ℕ → List ℕ → List Row → List Row → List ℕ
images_behind keep from images front [] = images
images_behind keep from images front (r ∷ rows) = images_behind keep from (images ++ row_image keep from images front r) (front ++ r ∷ []) rows

-- for each entry of a unit, in the order of reading, the number of the kept one that it is, or below which it stands
abbrev pub images_of : (ℕ → Bool) → ℕ → List Row → List ℕ
images_of keep from rows = images_behind keep from [] [] rows

-- With an entry its own parent is kept, unless that is the root.
abbrev pub IsClosed : (ℕ → Bool) → ℕ → List Row → Type 0
IsClosed keep from rows =
    (front back : List Plan) (p : Plan) (place above : ℕ) → plans_of rows ≡ front ++ p ∷ back → slice_get (places_among from rows) p.number ≡ Some place → slice_get (places_among from rows) p.parent ≡ Some above → keep place ≡ true
    → (p.parent ≡ 0) ⊎ (keep above ≡ true)

-- an entry under its number among those that are kept, and its parent's
abbrev pub renumbered : List ℕ → Plan → Plan
renumbered images p = record { number = get_or images p.number 0; parent = get_or images p.parent 0; entry = p.entry }

-- the entries of a unit that are kept
abbrev pub kept_plans : (ℕ → Bool) → ℕ → List Row → List Plan
kept_plans keep from rows = map (renumbered (images_of keep from rows)) (filter (λ p. p.number == 0 || keep (get_or (places_among from rows) p.number 0)) (plans_of rows))
