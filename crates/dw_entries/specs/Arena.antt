-- What is true of the entries of each unit.
use Rattle.std.specs.Prelude.{◌≡◌, ◌≢◌, ◌<◌, ◌≤◌, ℕ, List, length, Some, None, Bool, true, ◌&&◌, ◌==◌, nat_lt, slice_get}
use Rattle.std.specs.List.{list_any, IsDistinct}
use Rattle.dw_entries.specs.Entries.{EntryValue, with_changed, entry_at}

-- an index stands in a list of children
abbrev pub HasChild : List ℕ → ℕ → Type 0
HasChild children c = list_any (λ x. c == x) children ≡ true

-- An index that stands in a list of children stands there once, and the list is its parent's. The root, and
-- each index that was not added, has no parent, and so stands in none.
pub record AreLinked (es : List EntryValue) : Type 0 where
  pub own : (p c : ℕ) → HasChild (entry_at es p).children c → (entry_at es c).parent ≡ Some p
  pub once : (p : ℕ) → IsDistinct ◌==◌ (entry_at es p).children
  pub root : (entry_at es 0).parent ≡ None
  pub unadded : (i : ℕ) → (entry_at es i).tag ≡ 0 → (entry_at es i).parent ≡ None

-- the id of each entry is its index
abbrev pub AreNumbered : List EntryValue → Type 0
AreNumbered es = (i : ℕ) (e : EntryValue) → slice_get es i ≡ Some e → e.id ≡ i

-- a unit's entries, and how many ids were handed out
pub record EntriesValue : Type 0 where
  pub entries : List EntryValue
  pub reserved : ℕ

-- Each entry has an index that was handed out, and this index as its id. Where there are entries, the root, which is the
-- first, has a tag.
pub record IsArena (es : List EntryValue) (reserved : ℕ) : Type 0 where
  pub linked : AreLinked es
  pub numbered : AreNumbered es
  pub within : length es ≤ reserved
  pub tagged : 0 < length es → (entry_at es 0).tag ≢ 0

-- what is true of all that a unit keeps of its entries
abbrev pub IsSound : EntriesValue → Type 0
IsSound u = IsArena u.entries u.reserved

-- an id was handed out, is not the root's and was not added yet
abbrev pub is_reserved : EntriesValue → ℕ → Bool
is_reserved u i = nat_lt 0 i && nat_lt i u.reserved && ((entry_at u.entries i).tag == 0)

-- the entries with one of them changed
abbrev pub with_entry : EntriesValue → ℕ → (EntryValue → EntryValue) → EntriesValue
with_entry u i f = record u { entries = with_changed i f u.entries }
