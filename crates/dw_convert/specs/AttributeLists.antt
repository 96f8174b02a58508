-- The attributes of an entry: which are converted, and in what order.
use Rattle.std.specs.Prelude.{◌≡◌, ℕ, ◌==◌, Bool, not, List, [], ◌∷◌, ◌++◌, filter, Option, if◌then◌else◌}
use Rattle.dw_base.specs.declared.address.Address.{Address}
use Rattle.dw_base.specs.declared.address.DebugInfoRef.{DebugInfoRef}
use Rattle.dw_base.specs.declared.constants.DwAt.{DwAt}
use Rattle.dw_base.specs.declared.ids.FileId.{FileId}
use Rattle.dw_base.specs.declared.ids.UnitEntryId.{UnitEntryId}
use Rattle.dw_entries.specs.declared.value.AttributeValue.{AttributeValue}
use Rattle.dw_read.specs.Reading.{Reading}
use Rattle.dw_read.specs.Values.{is_among}
use Rattle.dw_read_units.specs.declared.unit_ref.UnitRef.{UnitRef}
use Rattle.dw_sources.specs.Dropped.{is_dropped}
use Rattle.dw_sources.specs.declared.convert_error.ConvertError.{ConvertError}
use Rattle.dw_convert.specs.Attributes.{Seen, IsImage, IsRefused}
use Rattle.dw_convert.specs.Tables.{Tables}

-- attributes less those of these names
abbrev pub kept : List Seen → List Seen
kept attributes = filter (λ a. not (is_dropped a.1.name)) attributes

-- the last value under a name, or another where there is none
abbrev pub last_or : ℕ → AttributeValue → List (DwAt × AttributeValue) → AttributeValue
last_or n v [] = v
last_or n v (x ∷ xs) = last_or n (if x.0.0 == n then x.1 else v) xs

-- each name once but for these, where it stands first, with its last value
abbrev pub once_but : List ℕ → List (DwAt × AttributeValue) → List (DwAt × AttributeValue)
once_but seen [] = []
once_but seen (x ∷ xs) = if is_among x.0.0 seen then once_but seen xs else (x.0, last_or x.0.0 x.1 xs) ∷ once_but (x.0.0 ∷ seen) xs

-- of several attributes of one name the last counts, in the place of the first
abbrev pub once : List (DwAt × AttributeValue) → List (DwAt × AttributeValue)
once xs = once_but [] xs

abbrev pub has_name : ℕ → DwAt × AttributeValue → Bool
has_name n x = x.0.0 == n

-- a value put under a name in its position, or behind the others
abbrev pub put : DwAt → AttributeValue → List (DwAt × AttributeValue) → List (DwAt × AttributeValue)
put n v [] = (n, v) ∷ []
put n v (x ∷ xs) = if has_name n.0 x then (n, v) ∷ xs else x ∷ put n v xs

module _ {R E : Type 0} (reading : R → Reading) (answers : ℕ → Option Address → Type 0) (entries : ℕ → Option UnitEntryId) (infos : ℕ → Option DebugInfoRef) (u : UnitRef R E) (files : List FileId) where
  -- attributes become values one after the other, each with the tables that those before it left
  abbrev pub AreImages : List Seen → Tables → List (DwAt × AttributeValue) → Tables → Type 0
  AreImages [] t [] end = end ≡ t
  AreImages (a ∷ rest) t (x ∷ xs) end = (next : Tables) × (x.0.0 ≡ a.1.name) × IsImage reading answers entries infos u files a t x.1 next × AreImages rest next xs end
  AreImages [] t (x ∷ xs) end = ⊥
  AreImages (a ∷ rest) t [] end = ⊥

  -- the attributes of an entry, with the tables before and after them
  pub record AreConverted (attributes : List Seen) (old : Tables) (converted : List (DwAt × AttributeValue)) (new : Tables) : Type 0 where
    pub images : List (DwAt × AttributeValue)
    pub are : AreImages (kept attributes) old images new
    pub is : converted ≡ once images

  -- an attribute becomes nothing, behind others that become values
  pub record RefusesAttribute (attributes : List Seen) (old : Tables) (e : ConvertError) : Type 0 where
    pub front : List Seen
    pub attribute : Seen
    pub back : List Seen
    pub is : kept attributes ≡ front ++ attribute ∷ back
    pub images : List (DwAt × AttributeValue)
    pub tables : Tables
    pub before : AreImages front old images tables
    pub refused : IsRefused reading answers entries infos u files attribute e
