-- How the pointers of call frame tables are encoded (Linux Standard Base Core 5.0, 10.5.1).
use Rattle.std.specs.Prelude.{ℕ, suc, ◌+◌, ◌-◌, ◌*◌, ◌/◌, ◌%◌, ◌^◌, ◌==◌, Bool, ◌||◌, nat_lt, Option, Some, None, ℤ, pos, negsuc, if◌then◌else◌}
use Rattle.dw_base.specs.declared.constants.TheConstants.{DW_EH_PE_absptr, DW_EH_PE_udata2, DW_EH_PE_udata4, DW_EH_PE_udata8, DW_EH_PE_sleb128, DW_EH_PE_sdata2, DW_EH_PE_sdata4, DW_EH_PE_sdata8, DW_EH_PE_pcrel}

-- the low four bits of an encoding: how the number is laid out
abbrev pub format_of : ℕ → ℕ
format_of encoding = encoding % 16

-- the three bits above them: what the number counts from. The highest bit, DW_EH_PE_indirect, changes neither.
abbrev pub application_of : ℕ → ℕ
application_of encoding = encoding % 128 / 16 * 16

-- DW_EH_PE_absptr: it counts from zero
abbrev pub from_zero : ℕ
from_zero = DW_EH_PE_absptr.0

-- DW_EH_PE_pcrel: it counts from the place where it stands
abbrev pub from_place : ℕ
from_place = DW_EH_PE_pcrel.0

-- The bytes of a format that has as many for each number: absptr has those of an address, udata2 and sdata2 two,
-- udata4 and sdata4 four, udata8 and sdata8 eight. The two in LEB128 have none.
abbrev pub pointer_width : ℕ → ℕ → Option ℕ
pointer_width address format =
    if format == DW_EH_PE_absptr.0 then Some address
    else (if format == DW_EH_PE_udata2.0 || format == DW_EH_PE_sdata2.0 then Some 2
    else (if format == DW_EH_PE_udata4.0 || format == DW_EH_PE_sdata4.0 then Some 4
    else (if format == DW_EH_PE_udata8.0 || format == DW_EH_PE_sdata8.0 then Some 8
    else None)))

-- the number is signed, in two's complement or LEB128
abbrev pub is_signed : ℕ → Bool
is_signed format =
    (format == DW_EH_PE_sleb128.0) || (format == DW_EH_PE_sdata2.0) || (format == DW_EH_PE_sdata4.0) || (format == DW_EH_PE_sdata8.0)

-- the signed number with the same 64 bits
abbrev pub signed_of : ℕ → ℤ
signed_of n = if nat_lt n (2 ^ 63) then pos n else negsuc (2 ^ 64 - suc n)

-- how far n stands behind a place, modulo 2 ^ 64
abbrev pub distance : ℕ → ℕ → ℕ
distance place n = (n + (2 ^ 64 - place % 2 ^ 64)) % 2 ^ 64
