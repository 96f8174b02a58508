-- Values, read on the definition.
use Rattle.std.proofs.Common.{◌≡◌, ◌∷◌, ◌-◌, ◌^◌, [], pos, negsuc, Some, Ok, Err, codes, refl, None}
use Rattle.dw_ends.specs.declared.reason.Reason.TheVariants.{BadNumber}
use Rattle.dw_script_fields.specs.declared.value.Value.TheVariants as value
use Rattle.dw_base.specs.declared.address.Address.TheVariants as address
use Rattle.dw_script_fields.specs.Kinds.{kind_of}
use Rattle.dw_script_fields.specs.Values.{value_field}
use Rattle.hex.specs.Hex.{decode_pairs}

-- a symbol, less 1
symbol : value_field (codes "address" ∷ codes "sym:0:-1" ∷ []) ≡ Ok (value.Address (address.Symbol 0 (negsuc 0)), [])
unfolding kind_of
symbol = refl

-- the parts are numbers of their own
symbol_parts : value_field (codes "address" ∷ codes "sym:0xa:0x10" ∷ []) ≡ Ok (value.Address (address.Symbol 10 (pos 16)), [])
unfolding kind_of
symbol_parts = refl

-- a symbol without an addend, and one below 0
no_addend : value_field (codes "address" ∷ codes "sym:1" ∷ []) ≡ Err BadNumber
unfolding kind_of
no_addend = refl

no_symbol : value_field (codes "address" ∷ codes "sym:-1:0" ∷ []) ≡ Err BadNumber
unfolding kind_of
no_symbol = refl

-- the least number with a sign, one below it, and 0 with a sign
least : value_field (codes "sdata" ∷ codes "-0x8000000000000000" ∷ []) ≡ Ok (value.Sdata (negsuc (2 ^ 63 - 1)), [])
unfolding kind_of
least = refl

below_least : value_field (codes "sdata" ∷ codes "-0x8000000000000001" ∷ []) ≡ Err BadNumber
unfolding kind_of
below_least = refl

signed_zero : value_field (codes "implicit_const" ∷ codes "-0" ∷ []) ≡ Ok (value.ImplicitConst (pos 0), [])
unfolding kind_of
signed_zero = refl

-- the greatest number of sixteen bytes, and the next
greatest : value_field (codes "data16" ∷ codes "340282366920938463463374607431768211455" ∷ []) ≡ Ok (value.Data16 (2 ^ 128 - 1), [])
unfolding kind_of
greatest = refl

past_greatest : value_field (codes "data16" ∷ codes "340282366920938463463374607431768211456" ∷ []) ≡ Err BadNumber
unfolding kind_of
past_greatest = refl

-- bytes, a flag that takes no field, and a place
block : value_field (codes "block" ∷ codes "00fF" ∷ []) ≡ Ok (value.Block (0 ∷ 255 ∷ []), [])
unfolding kind_of decode_pairs
block = refl

flag_present : value_field (codes "flag_present" ∷ codes "1" ∷ []) ≡ Ok (value.FlagPresent, codes "1" ∷ [])
unfolding kind_of
flag_present = refl

macro_place : value_field (codes "macro_ref" ∷ codes "3" ∷ []) ≡ Ok (value.DebugMacroRef (record { 0 = 3 }), [])
unfolding kind_of
macro_place = refl

-- a constant, and one past its byte
encoding : value_field (codes "encoding" ∷ codes "5" ∷ []) ≡ Ok (value.Encoding (record { 0 = 5 }), [])
unfolding kind_of
encoding = refl

wide_encoding : value_field (codes "encoding" ∷ codes "256" ∷ []) ≡ Err BadNumber
unfolding kind_of
wide_encoding = refl

-- values: the unit's line program, which takes no field, and files of it
line_program : value_field (codes "line_program_ref" ∷ codes "0" ∷ []) ≡ Ok (value.LineProgramRef, codes "0" ∷ [])
unfolding kind_of
line_program = refl

last_file : value_field (codes "file_index" ∷ codes "18446744073709551615" ∷ []) ≡ Ok (value.FileIndex (Some (2 ^ 64 - 1)), [])
unfolding kind_of
last_file = refl

no_file : value_field (codes "file_index" ∷ codes "none" ∷ []) ≡ Ok (value.FileIndex None, [])
unfolding kind_of
no_file = refl

past_files : value_field (codes "file_index" ∷ codes "18446744073709551616" ∷ []) ≡ Err BadNumber
unfolding kind_of
past_files = refl

-- values: a range list by its index, and the unit's range lists, which take no field
last_range_list : value_field (codes "range_ref" ∷ codes "18446744073709551615" ∷ []) ≡ Ok (value.RangeListRef (2 ^ 64 - 1), [])
unfolding kind_of
last_range_list = refl

range_lists : value_field (codes "range_base" ∷ codes "0" ∷ []) ≡ Ok (value.RangeListsBase, codes "0" ∷ [])
unfolding kind_of
range_lists = refl

-- and so for location lists
last_location_list : value_field (codes "loc_ref" ∷ codes "18446744073709551615" ∷ []) ≡ Ok (value.LocationListRef (2 ^ 64 - 1), [])
unfolding kind_of
last_location_list = refl

location_lists : value_field (codes "loc_base" ∷ codes "0" ∷ []) ≡ Ok (value.LocationListsBase, codes "0" ∷ [])
unfolding kind_of
location_lists = refl
