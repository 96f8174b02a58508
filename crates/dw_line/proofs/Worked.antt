-- Bytes that were put down by hand, and what they are written for (DWARF 5, 6.2.4, 6.2.5 and 7.22).
use Rattle.std.proofs.Common.{◌≡◌, true, false, [], ◌∷◌, Some, refl}
use Rattle.dw_base.specs.Leb128.{uleb_groups, uleb, sleb_groups, sleb}
use Rattle.dw_line.specs.declared.line_string.LineString.TheVariants.{String, StringRef, LineStringRef}
use Rattle.dw_line.specs.Files.{old_columns}
use Rattle.dw_line.specs.Headers.{directory_formats, file_formats, directory_form, file_form}
use Rattle.dw_line.specs.Names.{form_of}
use Rattle.dw_line.specs.RawRows.{RawRow, row_before}
use Rattle.dw_line.specs.RowTexts.{row_text, end_text}
use Rattle.dw_line.specs.SequenceTexts.{set_address_prefix}

-- a row in which every register changes, as it is written: the line falls by 2
full_row : RawRow
full_row = record {
  address_offset = 8;
  file = 2;
  line = 5;
  column = 129;
  discriminator = 3;
  isa = 5;
  is_statement = false;
  basic_block = true;
  prologue_end = true;
  epilogue_begin = true;
}

full_row_text : row_text 4 (record (row_before true) { line = 7 }) full_row
    ≡ 0x00 ∷ 0x02 ∷ 0x04 ∷ 0x03 ∷ 0x07 ∷ 0x0a ∷ 0x0b ∷ 0x06 ∷ 0x04 ∷ 0x02 ∷ 0x05 ∷ 0x81 ∷ 0x01 ∷ 0x0c ∷ 0x05 ∷ 0x03 ∷ 0x7e ∷ 0x02 ∷ 0x02 ∷ 0x01 ∷ []
unfolding full_row uleb uleb_groups sleb sleb_groups
full_row_text = refl

end_of_sequence : end_text 4 8 (Some 16) ≡ 0x02 ∷ 0x02 ∷ 0x00 ∷ 0x01 ∷ 0x01 ∷ []
unfolding uleb uleb_groups
end_of_sequence = refl

before_address : set_address_prefix 8 ≡ 0x00 ∷ 0x09 ∷ 0x02 ∷ []
unfolding uleb uleb_groups
before_address = refl

-- the forms string, strp and line_strp, and that of no name
string_form : form_of (String []) ≡ 0x08
string_form = refl

string_ref_form : form_of (StringRef (record { 0 = 0 })) ≡ 0x0e
string_ref_form = refl

line_string_ref_form : form_of (LineStringRef (record { 0 = 0 })) ≡ 0x1f
line_string_ref_form = refl

no_directory_form : directory_form [] ≡ 0x08
no_directory_form = refl

no_file_form : file_form [] ≡ 0x08
no_file_form = refl

-- one directory; and three files with all that can be told of them, and a text as strp
directories_before : directory_formats 0x1f 1 ≡ 0x01 ∷ 0x01 ∷ 0x1f ∷ 0x01 ∷ []
unfolding uleb uleb_groups
directories_before = refl

files_before : file_formats (record old_columns { md5 = true; source = Some 0x0e }) 0x08 3
    ≡ 0x06 ∷ 0x01 ∷ 0x08 ∷ 0x02 ∷ 0x0f ∷ 0x03 ∷ 0x0f ∷ 0x04 ∷ 0x0f ∷ 0x05 ∷ 0x1e ∷ 0x81 ∷ 0x40 ∷ 0x0e ∷ 0x03 ∷ []
unfolding uleb uleb_groups
files_before = refl
