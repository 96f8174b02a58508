-- The directories and files of a line program, with the reason where one can't be read: up to version 4 lists that an empty name
-- closes (DWARF 4, 6.2.4), in version 5 entries whose parts the header describes (DWARF 5, 6.2.4 and 6.2.4.1).
use Rattle.std.specs.Prelude.{ℕ, zero, suc, ◌==◌, Bool, List, [], ◌∷◌, length, Option, Some, None, Result, Ok, if◌then◌else◌}
use Rattle.dw_base.specs.declared.common.Encoding.{Encoding}
use Rattle.dw_base.specs.declared.constants.TheConstants.{DW_LNCT_path, DW_LNCT_directory_index, DW_LNCT_timestamp, DW_LNCT_size, DW_LNCT_MD5, DW_LNCT_LLVM_source}
use Rattle.dw_read.specs.Reading.{Read}
use Rattle.dw_read.specs.Reasons.{◌=>>◌, number_read, uleb_read, uleb16_read, text_read}
use Rattle.dw_read.specs.FormValues.{value_read}
use Rattle.dw_read.specs.Values.{Value}
use Rattle.dw_read.specs.declared.value.AttributeValue.TheVariants.{String, Udata}
use Rattle.dw_read.specs.declared.error.ReadError.{ReadError}

-- what is told of a directory or a file
pub record Entry : Type 0 where
  pub path : Option Value
  pub directory : Option Value
  pub timestamp : Option Value
  pub size : Option Value
  pub md5 : Option Value
  pub source : Option Value

abbrev pub untold : Entry
untold = record { path = None; directory = None; timestamp = None; size = None; md5 = None; source = None }

-- up to version 4: a name
abbrev pub old_directory : List ℕ → Entry
old_directory name = record untold { path = Some (String name) }

-- a name, the number of its directory, its time and its size
abbrev pub old_file : List ℕ → ℕ → ℕ → ℕ → Entry
old_file name directory timestamp size = record (old_directory name) {
  directory = Some (Udata directory);
  timestamp = Some (Udata timestamp);
  size = Some (Udata size);
}

-- a directory, or the empty name that closes them
unfoldable pub old_directory_read : Read (Option Entry)
old_directory_read bytes =
    text_read bytes =>> λ name. if length name.0 == 0 then Ok (None, name.1) else Ok (Some (old_directory name.0), name.1)

-- a file, or the empty name that closes them
unfoldable pub old_file_read : Read (Option Entry)
old_file_read bytes =
    text_read bytes =>> λ name. if length name.0 == 0 then Ok (None, name.1)
    else (uleb_read name.1 =>> λ directory. uleb_read directory.1 =>> λ timestamp. uleb_read timestamp.1 =>> λ size.
    Ok (Some (old_file name.0 directory.0 timestamp.0 size.0), size.1))

-- what a part tells, and its form
unfoldable pub format_read : Read (ℕ × ℕ)
format_read bytes = uleb_read bytes =>> λ content. uleb16_read content.1 =>> λ form. Ok ((content.0, form.0), form.1)

-- so many of them
unfoldable pub formats_read : ℕ → Read (List (ℕ × ℕ))
formats_read zero bytes = Ok ([], bytes)
formats_read (suc n) bytes = format_read bytes =>> λ x. formats_read n x.1 =>> λ more. Ok (x.0 ∷ more.0, more.1)

-- How entries are described: their parts, and their number. The number of parts stands in a byte.
unfoldable pub description_read : Bool → Read (List (ℕ × ℕ) × ℕ)
description_read big bytes =
    number_read big 1 bytes =>> λ n. formats_read n.0 n.1 =>> λ formats. uleb_read formats.1 =>> λ count.
    Ok ((formats.0, count.0), count.1)

-- an entry with a part more; one that tells something else is passed over, and of one that is told twice the last counts
abbrev pub told : ℕ → Value → Entry → Entry
told content v x =
    if content == DW_LNCT_path.0 then record x { path = Some v }
    else if content == DW_LNCT_directory_index.0 then record x { directory = Some v }
    else if content == DW_LNCT_timestamp.0 then record x { timestamp = Some v }
    else if content == DW_LNCT_size.0 then record x { size = Some v }
    else if content == DW_LNCT_MD5.0 then record x { md5 = Some v }
    else if content == DW_LNCT_LLVM_source.0 then record x { source = Some v }
    else x

-- an entry of the parts that are described, each by its form
unfoldable pub entry_read : Bool → Encoding → List (ℕ × ℕ) → Entry → Read Entry
entry_read big e [] x bytes = Ok (x, bytes)
entry_read big e (part ∷ parts) x bytes = value_read big e part.1 bytes =>> λ v. entry_read big e parts (told part.0 v.0 x) v.1

-- the same, where the parts stand in bytes, so many of them
unfoldable pub entry_by : Bool → Encoding → ℕ → List ℕ → Entry → Read Entry
entry_by big e zero formats x bytes = Ok (x, bytes)
entry_by big e (suc n) formats x bytes =
    format_read formats =>> λ f. value_read big e f.0.1 bytes =>> λ v. entry_by big e n f.1 (told f.0.0 v.0 x) v.1

-- what stands behind so many of something
unfoldable pub past : {A : Type 0} → Read A → ℕ → List ℕ → Result (List ℕ) ReadError
past one zero bytes = Ok bytes
past one (suc n) bytes = one bytes =>> λ x. past one n x.1

-- how entries are laid out
pub data Layout : Type 0 where
  Directories : Layout
  Files : Layout
  Described : Encoding → List (ℕ × ℕ) → Layout

-- the next entry, where so many of those that are described are left, or the end
unfoldable pub next_read : Bool → Layout → ℕ → Read (Option Entry)
next_read big Directories n bytes = old_directory_read bytes
next_read big Files n bytes = old_file_read bytes
next_read big (Described e parts) zero bytes = Ok (None, bytes)
next_read big (Described e parts) (suc n) bytes = entry_read big e parts untold bytes =>> λ x. Ok (Some x.0, x.1)
