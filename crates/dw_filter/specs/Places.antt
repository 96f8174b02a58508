-- The entries that expressions and location lists name, by their places in .debug_info (DWARF 5, 2.5 and 2.6).
use Rattle.std.specs.Prelude.{ℕ, zero, suc, ◌+◌, ◌-◌, ◌^◌, ◌&&◌, nat_lt, nat_le, Bool, List, [], ◌∷◌, ◌++◌, length, Option, Some, None, Result, Ok, Err, if◌then◌else◌}
use Rattle.dw_base.specs.declared.common.Encoding.{Encoding}
use Rattle.dw_base.specs.declared.offsets.UnitSectionOffset.{UnitSectionOffset}
use Rattle.dw_read.specs.Reasons.{bytes_read}
use Rattle.dw_read.specs.declared.error.ReadError.{ReadError}
use Rattle.dw_read.specs.declared.error.ReadError.TheVariants.{UnexpectedEof}
use Rattle.dw_sources.specs.Operations.{Operation, ConstantType, RegisterType, DerefType, Call, CallRef, VariableValue, Convert, Reinterpret, EntryValue, ImplicitPointer, ParameterRef}
use Rattle.dw_sources.specs.OperationTable.{operation_at}
use Rattle.dw_sources.specs.RawLists.{Item, location_read}

-- where a unit begins in .debug_info, how many bytes its header has, and how many follow the header
pub record UnitBounds : Type 0 where
  pub start : ℕ
  pub header : ℕ
  pub body : ℕ

-- the place in .debug_info of a place in a unit, where that lies in the unit and behind its header
abbrev pub place_in : UnitBounds → ℕ → Option UnitSectionOffset
place_in u n =
    if nat_le u.header n && (nat_lt (n - u.header) u.body && nat_lt (u.start + n) (2 ^ 64)) then Some (record { 0 = u.start + n }) else None

-- that of a base type, where there is one
abbrev pub base_place : UnitBounds → Option ℕ → Option UnitSectionOffset
base_place u None = None
base_place u (Some n) = place_in u n

abbrev pub section_place : ℕ → Option UnitSectionOffset
section_place n = Some (record { 0 = n })

-- the entry that an operation names: a base type of its unit (2.5.1.1 to 2.5.1.3 and 2.5.1.6), an entry that is called (2.5.1.5), one
-- whose value is pointed into (2.6.1.1.4), and what the extensions of GNU name
abbrev pub place_named : UnitBounds → Operation → Option UnitSectionOffset
place_named u (ConstantType base value) = place_in u base
place_named u (RegisterType register base) = place_in u base
place_named u (DerefType space size base) = place_in u base
place_named u (Convert base) = base_place u base
place_named u (Reinterpret base) = base_place u base
place_named u (Call entry) = place_in u entry
place_named u (CallRef entry) = section_place entry
place_named u (ImplicitPointer entry offset) = section_place entry
place_named u (ParameterRef entry) = place_in u entry
place_named u (VariableValue entry) = section_place entry
place_named u o = None

-- the expression that stands within an operation (2.5.1.7)
abbrev pub expression_within : Operation → Option (List ℕ)
expression_within (EntryValue bytes) = Some bytes
expression_within o = None

abbrev pub if_any : {A : Type 0} → Option A → List A
if_any None = []
if_any (Some x) = x ∷ []

-- what bytes name, where there are any
abbrev pub places_of : (List ℕ → List UnitSectionOffset) → Option (List ℕ) → List UnitSectionOffset
places_of places None = []
places_of places (Some bytes) = places bytes

-- the places that a location list names, and why it can't be read up to its close, where it can't
pub record ListPlaces : Type 0 where
  pub places : List UnitSectionOffset
  pub fault : Option ReadError

abbrev pub no_list : ReadError → ListPlaces
no_list e = record { places = []; fault = Some e }

module _ (u : UnitBounds) (big : Bool) (e : Encoding) where
  -- what the operation at the front names, then the expression within it, and then what stands behind it
  abbrev pub places_from : (List ℕ → List UnitSectionOffset) → Option (Operation × List ℕ) → List UnitSectionOffset
  places_from places None = []
  places_from places (Some x) = if_any (place_named u x.0) ++ (places_of places (expression_within x.0) ++ places x.1)

  -- the places that operations name, one after the other, up to the end or to the first that can't be read: at most n of them,
  -- and expressions within each other at most so deep
  unfoldable pub places_up_to : ℕ → List ℕ → List UnitSectionOffset
  places_up_to zero bytes = []
  places_up_to (suc n) bytes = places_from (places_up_to n) (operation_at big e bytes)

  -- the places that an expression names; each operation has a byte at least
  abbrev pub expression_places : List ℕ → List UnitSectionOffset
  expression_places bytes = places_up_to (length bytes) bytes

  -- what the expression of the item at the front names, and then what stands behind it
  abbrev pub list_behind : (List ℕ → ListPlaces) → Option Item → List ℕ → ListPlaces
  list_behind more None rest = record { places = []; fault = None }
  list_behind more (Some x) rest = record { places = places_of expression_places x.expression ++ (more rest).places; fault = (more rest).fault }

  abbrev pub list_from : (List ℕ → ListPlaces) → Result (Option Item × List ℕ) ReadError → ListPlaces
  list_from more (Err why) = no_list why
  list_from more (Ok x) = list_behind more x.0 x.1

  -- the places that items name, one after the other, up to the list's close or to the first that can't be read: fewer than n items
  unfoldable pub list_up_to : ℕ → List ℕ → ListPlaces
  list_up_to zero bytes = no_list UnexpectedEof
  list_up_to (suc n) bytes = list_from (list_up_to n) (location_read big e bytes)

  abbrev pub list_found : Result (List ℕ × List ℕ) ReadError → ListPlaces
  list_found (Err why) = no_list why
  list_found (Ok x) = list_up_to (suc (length x.1)) x.1

  -- the list at an offset of its section; each item has a byte at least
  abbrev pub list_at : ℕ → List ℕ → ListPlaces
  list_at offset section = list_found (bytes_read offset section)
