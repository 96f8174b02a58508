-- The tree that rows are: each entry with its number, and that of the entry under which it stands (DWARF 5, 2.3).
use Rattle.std.specs.Prelude.{ℕ, zero, suc, ◌+◌, ◌==◌, List, [], ◌∷◌, ◌++◌, Option, Some, None, Bool, ◌&&◌, if◌then◌else◌}
use Rattle.std.specs.List.{list_any}
use Rattle.dw_base.specs.declared.constants.TheConstants.{DW_AT_sibling}
use Rattle.dw_base.specs.Entries.{ReadEntry, Mark, Open, Null, Row}
use Rattle.dw_entry_ids.specs.Ids.{is_entry, entry_count, later_or}

-- one for an entry, nothing for a null entry
abbrev pub counted : Mark ReadEntry → ℕ
counted m = if is_entry m then 1 else 0

-- the number of the last entry at a depth, among rows of which the first entry has a number
abbrev pub last_at : ℕ → ℕ → List Row → Option ℕ
last_at depth n [] = None
last_at depth n (r ∷ rows) = later_or (last_at depth (counted r.mark + n) rows) (if is_entry r.mark && r.depth == depth then Some n else None)

abbrev pub or_root : Option ℕ → ℕ
or_root None = 0
or_root (Some n) = n

-- the number of the entry under which an entry at a depth stands, behind these rows: the last one before it that is less deep by
-- one. Nothing stands above the first depth but the root
abbrev pub parent_behind : List Row → ℕ → ℕ
parent_behind front zero = 0
parent_behind front (suc depth) = or_root (last_at depth 0 front)

-- the numbers of the entries whose lists of children are open at a depth behind these rows, the outermost first
abbrev pub opened : List Row → ℕ → List ℕ
opened front zero = []
opened front (suc depth) = opened front depth ++ or_root (last_at depth 0 front) ∷ []

-- the last of numbers, or the root's
abbrev pub last_or_root : List ℕ → ℕ
last_or_root [] = 0
last_or_root (n ∷ []) = n
last_or_root (n ∷ m ∷ ns) = last_or_root (m ∷ ns)

-- an entry with its number in the order of reading, and the number of its parent
pub record Plan : Type 0 where
  pub number : ℕ
  pub parent : ℕ
  pub entry : ReadEntry

abbrev pub plan_of : ℕ → ℕ → Mark ReadEntry → List Plan
plan_of n parent (Open e) = record { number = n; parent = parent; entry = e } ∷ []
plan_of n parent Null = []

-- the entries of rows that stand behind others
abbrev pub plans_behind : List Row → List Row → List Plan
plans_behind front [] = []
plans_behind front (r ∷ rows) = plan_of (entry_count front) (parent_behind front r.depth) r.mark ++ plans_behind (front ++ r ∷ []) rows

-- the entries of a unit's rows
unfoldable pub plans_of : List Row → List Plan
plans_of rows = plans_behind [] rows

-- an attribute asks for the place past the entry's children
abbrev pub names_sibling : ReadEntry → Bool
names_sibling e = list_any (λ a. a.name == DW_AT_sibling.0) e.attributes
