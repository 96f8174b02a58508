-- What the items of range lists become (DWARF 5, 2.17.3).
use Rattle.std.specs.Prelude.{◌≡◌, ℕ, ◌==◌, Bool, true, false, not, List, Option, Result, Ok, Err}
use Rattle.std.specs.List.{filter}
use Rattle.dw_base.specs.declared.address.Address.{Address}
use Rattle.dw_base.specs.declared.address.Address.TheVariants.{Constant}
use Rattle.dw_lists.specs.Equal.{address_eq}
use Rattle.dw_lists.specs.declared.range.Range.{Range}
use Rattle.dw_lists.specs.declared.range.Range.TheVariants as built
use Rattle.dw_sources.specs.RawLists.{Span, BaseAddress, BaseAddressx, AddressOrOffsetPair, StartxEndx, StartxLength, OffsetPair, StartEnd, StartLength, DefaultLocation}
use Rattle.dw_sources.specs.declared.convert_error.ConvertError.{ConvertError}
use Rattle.dw_sources.specs.declared.convert_error.ConvertError.TheVariants.{InvalidRangeRelativeAddress}
use Rattle.dw_convert.specs.Outcomes.{Then, AddressOutcome, IndexOutcome}

-- two constants are offsets from a base
abbrev pub offsets : Address → Address → Result Range ConvertError
offsets (Constant m) (Constant n) = Ok (built.OffsetPair m n)
offsets a b = Err InvalidRangeRelativeAddress

-- what the two numbers of an item are up to version 4, as converted: offsets where a base is in force, else addresses
abbrev pub pair : Bool → Address → Address → Result Range ConvertError
pair true a b = offsets a b
pair false a b = Ok (built.StartEnd a b)

-- what is made of an address that is known
abbrev pub with_address : (Address → Result Range ConvertError) → Result Address ConvertError → Result Range ConvertError
with_address make (Ok a) = make a
with_address make (Err e) = Err e

module _ (answers : ℕ → Option Address → Type 0) (addresses : ℕ → Result ℕ ConvertError) where
  abbrev pub address : ℕ → Result Address ConvertError → Type 0
  address n = AddressOutcome answers n

  abbrev pub at_index : ℕ → Result Address ConvertError → Type 0
  at_index i = IndexOutcome answers addresses i

  -- The range that an item becomes, where a base is in force or none. No range list has a default location.
  abbrev pub RangeOutcome : Bool → Span → Result Range ConvertError → Type 0
  RangeOutcome base (BaseAddress n) r = Then (address n) (λ a x. x ≡ Ok (built.BaseAddress a)) r
  RangeOutcome base (BaseAddressx i) r = Then (at_index i) (λ a x. x ≡ Ok (built.BaseAddress a)) r
  RangeOutcome base (AddressOrOffsetPair m n) r = Then (address m) (λ a. Then (address n) (λ b x. x ≡ pair base a b)) r
  RangeOutcome base (StartxEndx i j) r = Then (at_index i) (λ a. Then (at_index j) (λ b x. x ≡ Ok (built.StartEnd a b))) r
  RangeOutcome base (StartxLength i n) r = Then (at_index i) (λ a x. x ≡ Ok (built.StartLength a n)) r
  RangeOutcome base (OffsetPair m n) r = r ≡ Ok (built.OffsetPair m n)
  RangeOutcome base (StartEnd m n) r = Then (address m) (λ a. Then (address n) (λ b x. x ≡ Ok (built.StartEnd a b))) r
  RangeOutcome base (StartLength m n) r = Then (address m) (λ a x. x ≡ Ok (built.StartLength a n)) r
  RangeOutcome base DefaultLocation r = ⊥

-- from such an item on a base is in force
abbrev pub is_base : Span → Bool
is_base (BaseAddress n) = true
is_base (BaseAddressx i) = true
is_base s = false

-- a range without an address
abbrev pub is_empty : Range → Bool
is_empty (built.BaseAddress a) = false
is_empty (built.OffsetPair m n) = m == n
is_empty (built.StartEnd a b) = address_eq a b
is_empty (built.StartLength a n) = n == 0

abbrev pub kept : List Range → List Range
kept xs = filter (λ x. not (is_empty x)) xs
