-- The items of range lists and location lists, as they are read, with the reason where one can't be (DWARF 4, 2.6.2, 2.17.3, 7.7.3 and
-- 7.23; DWARF 5, 2.6.2, 2.17.3, 7.7.3 and 7.25).
use Rattle.std.specs.Prelude.{ℕ, ◌-◌, ◌^◌, ◌&&◌, ◌==◌, Bool, true, false, List, [], ◌∷◌, Option, Some, None, Ok, if◌then◌else◌}
use Rattle.std.specs.Result.{result_ok}
use Rattle.dw_base.specs.Numbers.{Parser}
use Rattle.dw_base.specs.declared.common.Encoding.{Encoding}
use Rattle.dw_base.specs.declared.constants.TheConstants.{DW_RLE_end_of_list, DW_RLE_base_addressx, DW_RLE_startx_endx, DW_RLE_startx_length, DW_RLE_offset_pair, DW_RLE_base_address, DW_RLE_start_end, DW_RLE_start_length}
use Rattle.dw_base.specs.declared.constants.TheConstants.{DW_LLE_end_of_list, DW_LLE_base_addressx, DW_LLE_startx_endx, DW_LLE_startx_length, DW_LLE_offset_pair, DW_LLE_default_location, DW_LLE_base_address, DW_LLE_start_end, DW_LLE_start_length}
use Rattle.dw_read.specs.Reading.{Read}
use Rattle.dw_read.specs.Reasons.{◌=>>◌, or_refuse, bytes_read, number_read, uleb_read, address_read}
use Rattle.dw_read.specs.declared.error.ReadError.TheVariants.{UnknownRangeListsEntry, UnknownLocListsEntry}
use Rattle.dw_sources.specs.Operands.{block_read}
use Rattle.dw_sources.specs.OperationTable.{among}

-- what an item says of addresses
pub data Span : Type 0 where
  -- what pairs count from, and its index
  BaseAddress : ℕ → Span
  BaseAddressx : ℕ → Span
  -- begin and end up to version 4, which are addresses or count from a base
  AddressOrOffsetPair : ℕ → ℕ → Span
  StartxEndx : ℕ → ℕ → Span
  StartxLength : ℕ → ℕ → Span
  OffsetPair : ℕ → ℕ → Span
  StartEnd : ℕ → ℕ → Span
  StartLength : ℕ → ℕ → Span
  -- all that no other item has
  DefaultLocation : Span

-- an item of a location list, with the bytes of its expression
pub record Item : Type 0 where
  pub span : Span
  pub expression : Option (List ℕ)

-- all bits one: where this stands for the first number up to version 4, the second one is a base
abbrev pub marker : ℕ → ℕ
marker w = 256 ^ w - 1

-- what two numbers are up to version 4: two zeros close the list
abbrev pub pair_of : ℕ → ℕ → ℕ → Option Span
pair_of w a b =
    if (a == 0) && (b == 0) then None
    else if a == marker w then Some (BaseAddress b)
    else Some (AddressOrOffsetPair a b)

unfoldable pub pair_read : Bool → ℕ → Read (Option Span)
pair_read big w bytes = address_read big w bytes =>> λ a. address_read big w a.1 =>> λ b. Ok (pair_of w a.0 b.0, b.1)

abbrev pub close : Read (Option Span)
close bytes = Ok (None, bytes)

abbrev pub of_one : Read ℕ → (ℕ → Span) → Read (Option Span)
of_one p f bytes = p bytes =>> λ a. Ok (Some (f a.0), a.1)

abbrev pub of_two : Read ℕ → Read ℕ → (ℕ → ℕ → Span) → Read (Option Span)
of_two p q f bytes = p bytes =>> λ a. q a.1 =>> λ b. Ok (Some (f a.0 b.0), b.1)

-- the kinds of range lists of version 5
unfoldable pub range_row : Bool → ℕ → ℕ → Option (Read (Option Span))
range_row big w kind = among kind (
    (DW_RLE_end_of_list.0, close)
    ∷ (DW_RLE_base_addressx.0, of_one uleb_read BaseAddressx)
    ∷ (DW_RLE_startx_endx.0, of_two uleb_read uleb_read StartxEndx)
    ∷ (DW_RLE_startx_length.0, of_two uleb_read uleb_read StartxLength)
    ∷ (DW_RLE_offset_pair.0, of_two uleb_read uleb_read OffsetPair)
    ∷ (DW_RLE_base_address.0, of_one (address_read big w) BaseAddress)
    ∷ (DW_RLE_start_end.0, of_two (address_read big w) (address_read big w) StartEnd)
    ∷ (DW_RLE_start_length.0, of_two (address_read big w) uleb_read StartLength)
    ∷ [])

-- the kinds of location lists of version 5
unfoldable pub location_row : Bool → ℕ → ℕ → Option (Read (Option Span))
location_row big w kind = among kind (
    (DW_LLE_end_of_list.0, close)
    ∷ (DW_LLE_base_addressx.0, of_one uleb_read BaseAddressx)
    ∷ (DW_LLE_startx_endx.0, of_two uleb_read uleb_read StartxEndx)
    ∷ (DW_LLE_startx_length.0, of_two uleb_read uleb_read StartxLength)
    ∷ (DW_LLE_offset_pair.0, of_two uleb_read uleb_read OffsetPair)
    ∷ (DW_LLE_default_location.0, λ bytes. Ok (Some DefaultLocation, bytes))
    ∷ (DW_LLE_base_address.0, of_one (address_read big w) BaseAddress)
    ∷ (DW_LLE_start_end.0, of_two (address_read big w) (address_read big w) StartEnd)
    ∷ (DW_LLE_start_length.0, of_two (address_read big w) uleb_read StartLength)
    ∷ [])

-- what stands behind a kind, which is one of a table
unfoldable pub range_behind : Bool → ℕ → ℕ → Read (Option Span)
range_behind big w kind bytes = or_refuse (UnknownRangeListsEntry kind) (range_row big w kind) =>> λ p. p bytes

unfoldable pub location_behind : Bool → ℕ → ℕ → Read (Option Span)
location_behind big w kind bytes = or_refuse (UnknownLocListsEntry kind) (location_row big w kind) =>> λ p. p bytes

-- the addresses of an item, or the close of the list: behind a kind in version 5, and before it a pair
abbrev pub span_read : (Bool → ℕ → ℕ → Read (Option Span)) → Bool → Encoding → Read (Option Span)
span_read behind big e bytes =
    if e.version == 5 then (number_read big 1 bytes =>> λ kind. behind big e.address_size kind.0 kind.1)
    else pair_read big e.address_size bytes

unfoldable pub range_read : Bool → Encoding → Read (Option Span)
range_read big e bytes = span_read range_behind big e bytes

unfoldable pub location_span_read : Bool → Encoding → Read (Option Span)
location_span_read big e bytes = span_read location_behind big e bytes

-- the bytes of an expression, which are counted in two bytes up to version 4
unfoldable pub expression_read : Bool → Encoding → Read (List ℕ)
expression_read big e bytes =
    if e.version == 5 then block_read bytes else (number_read big 2 bytes =>> λ n. bytes_read n.0 n.1)

-- in a location list all items but bases have an expression
abbrev pub is_located : Span → Bool
is_located (BaseAddress n) = false
is_located (BaseAddressx n) = false
is_located s = true

-- what stands behind the addresses of an item
abbrev pub behind_span : Bool → Encoding → Option Span → Read (Option Item)
behind_span big e None bytes = Ok (None, bytes)
behind_span big e (Some s) bytes =
    if is_located s then (expression_read big e bytes =>> λ x. Ok (Some (record { span = s; expression = Some x.0 }), x.1))
    else Ok (Some (record { span = s; expression = None }), bytes)

-- an item of a location list, or its close
unfoldable pub location_read : Bool → Encoding → Read (Option Item)
location_read big e bytes = location_span_read big e bytes =>> λ s. behind_span big e s.0 s.1

-- the grammars of items
unfoldable pub range_at : Bool → Encoding → Parser (Option Span)
range_at big e bytes = result_ok (range_read big e bytes)

unfoldable pub location_at : Bool → Encoding → Parser (Option Item)
location_at big e bytes = result_ok (location_read big e bytes)
