-- The entries of a unit that were read, and where they lead (DWARF 5, 2.2 and 2.3).
use Rattle.std.specs.Prelude.{◌≡◌, ◌⊎◌, ℕ, ◌≤◌, List, slice_get, Some, true}
use Rattle.std.specs.List.{zip}
use Rattle.dw_base.specs.Entries.{ReadEntry, Row}
use Rattle.dw_base.specs.declared.constants.DwTag.{DwTag}
use Rattle.dw_base.specs.declared.offsets.UnitSectionOffset.{UnitSectionOffset}
use Rattle.dw_entry_ids.specs.Ids.{places_among}
use Rattle.dw_entry_ids.specs.Plans.{Plan, plans_of}
use Rattle.dw_filter.specs.Children.{leads_to_child}

-- an entry of a unit with its parent's number, and the place where it begins
abbrev pub Placed : Type 0
Placed = Plan × ℕ

-- the entries of the rows of a unit that begins at a place, in the order of their numbers
abbrev pub placed_in : ℕ → List Row → List Placed
placed_in from rows = zip (plans_of rows) (places_among from rows)

abbrev pub tag_of : Placed → DwTag
tag_of x = record { 0 = x.0.entry.tag }

-- the entry begins at the place
abbrev pub BeginsAt : Placed → UnitSectionOffset → Type 0
BeginsAt x q = x.1 ≡ q.0

module _ (entries : List Placed) where
  -- an entry stands under this one, which isn't the root
  pub record IsUnder (x parent : Placed) : Type 0 where
    pub stands : slice_get entries x.0.parent ≡ Some parent
    pub not_root : 1 ≤ x.0.parent

  -- it leads to its parent
  abbrev pub LeadsUp : Placed → UnitSectionOffset → Type 0
  LeadsUp x q = (parent : Placed) × IsUnder x parent × BeginsAt parent q

  -- its parent leads to it
  abbrev pub IsLedTo : UnitSectionOffset → Placed → Type 0
  IsLedTo p x = (parent : Placed) × IsUnder x parent × BeginsAt parent p × (leads_to_child (tag_of parent) x.0.entry ≡ true)

  module _ (count : ℕ) where
    -- entry n is one of the first so many behind the root
    pub record IsRead (n : ℕ) (x : Placed) : Type 0 where
      pub stands : slice_get entries n ≡ Some x
      pub behind_root : 1 ≤ n
      pub counted : n ≤ count

    -- one of them begins at q
    abbrev pub IsKnown : UnitSectionOffset → Type 0
    IsKnown q = (n : ℕ) × (x : Placed) × IsRead n x × BeginsAt x q

  module _ (names : ReadEntry → UnitSectionOffset → Type 0) where
    -- an entry leads to its parent and to what it names, and its parent may lead to it
    abbrev pub AddsEdge : Placed → UnitSectionOffset → UnitSectionOffset → Type 0
    AddsEdge x p q = (BeginsAt x p × (LeadsUp x q ⊎ names x.0.entry q)) ⊎ (IsLedTo p x × BeginsAt x q)

    -- one of the first so many behind the root has the edge from p to q
    abbrev pub HasEdge : ℕ → UnitSectionOffset → UnitSectionOffset → Type 0
    HasEdge count p q = (n : ℕ) × (x : Placed) × IsRead count n x × AddsEdge x p q
