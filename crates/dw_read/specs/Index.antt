-- Where the declarations of a table stand by their codes.
use Rattle.std.specs.Prelude.{◌≡◌, ◌≢◌, ℕ, ◌+◌, ◌<◌, List, length, map, Some, slice_index}
use Rattle.std.specs.Ordering.{nat_cmp}
use Rattle.std.specs.BTreeMap.{BTreeMap, get}
use Rattle.dw_base.specs.Abbreviations.{Declaration}

-- the code of the declaration at a place
abbrev pub code_at : List Declaration → ℕ → ℕ
code_at ds i = slice_index (map (λ d. d.code) ds) i

-- the declaration at a place has the code
abbrev pub StandsAt : List Declaration → ℕ → ℕ → Type 0
StandsAt ds code i = (i < length ds) × (code_at ds i ≡ code)

-- No code stands twice. A declaration's code is its place and one, or the map has its place.
pub record IsIndexed (ds : List Declaration) (others : BTreeMap ℕ ℕ) : Type 0 where
  pub differ : (i j : ℕ) → i < j → j < length ds → code_at ds i ≢ code_at ds j
  pub listed : (i : ℕ) → i < length ds → code_at ds i ≢ i + 1 → get nat_cmp others (code_at ds i) ≡ Some i
  pub within : (code i : ℕ) → get nat_cmp others code ≡ Some i → i < length ds
  pub right : (code i : ℕ) → get nat_cmp others code ≡ Some i → code_at ds i ≡ code
