-- The directories and files of a line program as a reader finds them in its header: up to version 4 lists that an empty name
-- closes (DWARF 4, 6.2.4), in version 5 entries whose parts the header describes (DWARF 5, 6.2.4 and 6.2.4.1).
use Rattle.std.specs.Prelude.{ℕ, zero, suc, ◌==◌, nat_le, Bool, List, [], ◌∷◌, length, Option, Some, None, if◌then◌else◌}
use Rattle.dw_base.specs.Numbers.{Parser, ◌>>=◌, when, bytes_at, number_at, word_of}
use Rattle.dw_base.specs.Leb128.{uleb_at}
use Rattle.dw_base.specs.Forms.{text_at, form_at}
use Rattle.dw_base.specs.declared.common.Encoding.{Encoding}
use Rattle.dw_base.specs.declared.constants.TheConstants.{DW_LNCT_path, DW_LNCT_directory_index, DW_LNCT_timestamp, DW_LNCT_size, DW_LNCT_MD5, DW_LNCT_LLVM_source, DW_FORM_string, DW_FORM_strp, DW_FORM_line_strp, DW_FORM_udata, DW_FORM_data1, DW_FORM_data2, DW_FORM_data4, DW_FORM_data8, DW_FORM_data16}

-- a name itself, or its place in .debug_str or in .debug_line_str
pub data ReadName : Type 0 where
  Inline : List ℕ → ReadName
  InStrings : ℕ → ReadName
  InLineStrings : ℕ → ReadName

-- what is told of a directory or a file
pub record ReadEntry : Type 0 where
  pub name : Option ReadName
  pub directory : ℕ
  pub timestamp : ℕ
  pub size : ℕ
  pub md5 : Option (List ℕ)
  pub source : Option ReadName

pub record LineTables : Type 0 where
  pub directories : List ReadEntry
  pub files : List ReadEntry

-- a part that isn't told is 0 or missing
abbrev pub untold : ReadEntry
untold = record { name = None; directory = 0; timestamp = 0; size = 0; md5 = None; source = None }

abbrev pub named : ReadName → ReadEntry
named n = record untold { name = Some n }

-- what was read, as something else
abbrev pub taken : {A B : Type 0} → (A → B) → Option (A × List ℕ) → Option (B × List ℕ)
taken make r = r >>= λ x. Some (make x.0, x.1)

-- a name by its form, with words of w bytes
abbrev pub name_at : Bool → ℕ → ℕ → Parser ReadName
name_at big w form bytes =
    if form == DW_FORM_string.0 then taken Inline (text_at bytes)
    else if form == DW_FORM_strp.0 then taken InStrings (number_at big w bytes)
    else if form == DW_FORM_line_strp.0 then taken InLineStrings (number_at big w bytes)
    else None

-- a number without a sign by its form
abbrev pub unsigned_at : Bool → ℕ → Parser ℕ
unsigned_at big form bytes =
    if form == DW_FORM_udata.0 then uleb_at bytes
    else if form == DW_FORM_data1.0 then number_at big 1 bytes
    else if form == DW_FORM_data2.0 then number_at big 2 bytes
    else if form == DW_FORM_data4.0 then number_at big 4 bytes
    else if form == DW_FORM_data8.0 then number_at big 8 bytes
    else None

-- a checksum is sixteen bytes as they stand
abbrev pub checksum_at : ℕ → Parser (List ℕ)
checksum_at form bytes = when (form == DW_FORM_data16.0) (bytes_at 16 bytes)

-- a part of an entry, by what it tells and its form; one that tells something else is passed over
unfoldable pub part_at : Bool → Encoding → ℕ × ℕ → ReadEntry → Parser ReadEntry
part_at big e part x bytes =
    if part.0 == DW_LNCT_path.0 then taken (λ n. record x { name = Some n }) (name_at big (word_of e.format) part.1 bytes)
    else if part.0 == DW_LNCT_directory_index.0 then taken (λ n. record x { directory = n }) (unsigned_at big part.1 bytes)
    else if part.0 == DW_LNCT_timestamp.0 then taken (λ n. record x { timestamp = n }) (unsigned_at big part.1 bytes)
    else if part.0 == DW_LNCT_size.0 then taken (λ n. record x { size = n }) (unsigned_at big part.1 bytes)
    else if part.0 == DW_LNCT_MD5.0 then taken (λ d. record x { md5 = Some d }) (checksum_at part.1 bytes)
    else if part.0 == DW_LNCT_LLVM_source.0 then taken (λ n. record x { source = Some n }) (name_at big (word_of e.format) part.1 bytes)
    else taken (λ o. x) (form_at big e part.1 bytes)

-- an entry of the parts that the header describes
unfoldable pub entry_at : Bool → Encoding → List (ℕ × ℕ) → ReadEntry → Parser ReadEntry
entry_at big e [] x bytes = Some (x, bytes)
entry_at big e (part ∷ parts) x bytes = part_at big e part x bytes >>= λ y. entry_at big e parts y.0 y.1

-- so many of something
unfoldable pub many_at : {A : Type 0} → ℕ → Parser A → Parser (List A)
many_at zero one bytes = Some ([], bytes)
many_at (suc n) one bytes = one bytes >>= λ x. many_at n one x.1 >>= λ xs. Some (x.0 ∷ xs.0, xs.1)

-- what a part tells, and its form
abbrev pub format_at : Parser (ℕ × ℕ)
format_at bytes = uleb_at bytes >>= λ content. uleb_at content.1 >>= λ form. Some ((content.0, form.0), form.1)

abbrev pub byte_at : Parser ℕ
byte_at [] = None
byte_at (b ∷ bs) = Some (b, bs)

-- the number of parts in a byte, the parts, the number of entries, the entries
unfoldable pub new_entries_at : Bool → Encoding → Parser (List ReadEntry)
new_entries_at big e bytes =
    byte_at bytes >>= λ n. many_at n.0 format_at n.1 >>= λ parts. uleb_at parts.1 >>= λ count.
    many_at count.0 (entry_at big e parts.0 untold) count.1

-- after the name of a directory comes nothing, and after that of a file its directory, its time and its size
abbrev pub old_directory_at : List ℕ → Parser ReadEntry
old_directory_at name bytes = Some (named (Inline name), bytes)

abbrev pub old_file_at : List ℕ → Parser ReadEntry
old_file_at name bytes =
    uleb_at bytes >>= λ directory. uleb_at directory.1 >>= λ timestamp. uleb_at timestamp.1 >>= λ size.
    Some (record (named (Inline name)) { directory = directory.0; timestamp = timestamp.0; size = size.0 }, size.1)

-- entries up to an empty name
unfoldable pub old_entries_at : ℕ → (List ℕ → Parser ReadEntry) → Parser (List ReadEntry)
old_entries_at zero rest_at bytes = None
old_entries_at (suc fuel) rest_at bytes =
    text_at bytes >>= λ name. (
    if length name.0 == 0 then Some ([], name.1)
    else (rest_at name.0 name.1 >>= λ x. old_entries_at fuel rest_at x.1 >>= λ xs. Some (x.0 ∷ xs.0, xs.1)))

abbrev pub old_tables_at : Parser LineTables
old_tables_at bytes =
    old_entries_at (length bytes) old_directory_at bytes >>= λ directories.
    old_entries_at (length directories.1) old_file_at directories.1 >>= λ files.
    Some (record { directories = directories.0; files = files.0 }, files.1)

abbrev pub new_tables_at : Bool → Encoding → Parser LineTables
new_tables_at big e bytes =
    new_entries_at big e bytes >>= λ directories. new_entries_at big e directories.1 >>= λ files.
    Some (record { directories = directories.0; files = files.0 }, files.1)

unfoldable pub tables_at : Bool → Encoding → Parser LineTables
tables_at big e bytes = if nat_le e.version 4 then old_tables_at bytes else new_tables_at big e bytes
