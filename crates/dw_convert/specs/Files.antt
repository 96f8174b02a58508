-- Files of a line program, by the numbers that were read (DWARF 5, 6.2.4).
use Rattle.std.specs.Prelude.{ℕ, ◌+◌, ◌-◌, ◌^◌, ◌==◌, nat_le, nat_lt, Bool, true, ◌&&◌, ◌||◌, List, Option, Some, None, Result, Ok, Err, slice_get, ℤ, pos, if◌then◌else◌}
use Rattle.dw_base.specs.declared.constants.TheConstants.{DW_AT_call_file, DW_AT_decl_file}
use Rattle.dw_base.specs.declared.ids.FileId.{FileId}
use Rattle.dw_sources.specs.declared.convert_error.ConvertError.{ConvertError}
use Rattle.dw_sources.specs.declared.convert_error.ConvertError.TheVariants.{InvalidFileIndex, IntegerOverflow}

-- up to version 4 files are counted from 1, and 0 stands for none
abbrev pub is_no_file : ℕ → ℕ → Bool
is_no_file version n = nat_le version 4 && (n == 0)

abbrev pub found_file : Option FileId → Result (Option FileId) ConvertError
found_file None = Err InvalidFileIndex
found_file (Some f) = Ok (Some f)

-- the file of a number
abbrev pub file_image : ℕ → List FileId → ℕ → Result (Option FileId) ConvertError
file_image version files n = if is_no_file version n then Ok None else found_file (slice_get files n)

-- the number by which a file is written
abbrev pub file_number : ℕ → FileId → ℕ
file_number version f = if nat_le version 4 then f.0 + 1 else f.0

-- the same as a constant, where one has room for the ids of all files
abbrev pub renumbered : ℕ → FileId → Result ℤ ConvertError
renumbered version f = if nat_lt f.0 (2 ^ 63 - 1) then Ok (pos (file_number version f)) else Err IntegerOverflow

abbrev pub renumbered_or : ℕ → ℕ → Option FileId → Result ℤ ConvertError
renumbered_or version n None = Ok (pos n)
renumbered_or version n (Some f) = renumbered version f

-- a constant that names a file gets the number that the same file is written by; one that names none stays
abbrev pub file_constant : ℕ → List FileId → ℕ → Result ℤ ConvertError
file_constant version files n = if is_no_file version n then Ok (pos n) else renumbered_or version n (slice_get files n)

-- the names whose numbers are files
abbrev pub is_file_name : ℕ → Bool
is_file_name name = name == DW_AT_decl_file.0 || name == DW_AT_call_file.0

abbrev pub constant_by : Bool → ℕ → List FileId → ℤ → Result ℤ ConvertError
constant_by true version files (pos n) = file_constant version files n
constant_by names version files z = Ok z

-- what a constant of a declaration becomes
abbrev pub declared_image : ℕ → List FileId → ℕ → ℤ → Result ℤ ConvertError
declared_image version files name z = constant_by (is_file_name name) version files z
