-- Texts and ids that a unit's root leads to.
use Rattle.std.specs.Prelude.{ℕ, List, Option, Some, None, Bool, true, false, ◌||◌, ◌==◌, unwrap_or}
use Rattle.dw_base.specs.Numbers.{◌>>=◌, number_at, word_of}
use Rattle.dw_base.specs.Forms.{text_at}
use Rattle.dw_base.specs.declared.common.Format.{Format}
use Rattle.dw_base.specs.declared.offsets.DwoId.{DwoId}
use Rattle.dw_base.specs.declared.constants.TheConstants.{DW_UT_compile, DW_UT_skeleton, DW_UT_split_compile}
use Rattle.dw_read.specs.Reading.{Reading}
use Rattle.dw_read.specs.Values.{Value}
use Rattle.dw_read.specs.declared.fields.Fields.{Fields}
use Rattle.dw_read.specs.declared.value.AttributeValue.TheVariants.{String, DebugStrRef, DebugLineStrRef, DebugStrOffsetsIndex}
use Rattle.dw_read_units.specs.Lookups.{bytes_from, indexed}
use Rattle.dw_read_units.specs.Roots.{id_in}

-- the text at an offset of a section
abbrev pub text_or_none : Reading → ℕ → Option (List ℕ)
text_or_none section offset = text_at (bytes_from offset section) >>= λ x. Some x.0

-- the text of an index behind a base
abbrev pub indexed_text : Reading → Reading → ℕ → ℕ → Format → Option (List ℕ)
indexed_text offsets texts base index format = number_at offsets.is_big (word_of format) (bytes_from (indexed base index (word_of format)) offsets) >>= λ x. text_or_none texts x.0

-- the text that a value is or leads to
abbrev pub root_text : Reading → Reading → Reading → ℕ → Format → Option Value → Option (List ℕ)
root_text texts lines offsets base format (Some (String xs)) = Some xs
root_text texts lines offsets base format (Some (DebugStrRef p)) = text_or_none texts p.0
root_text texts lines offsets base format (Some (DebugLineStrRef p)) = text_or_none lines p.0
root_text texts lines offsets base format (Some (DebugStrOffsetsIndex i)) = indexed_text offsets texts base i format
root_text texts lines offsets base format v = None

abbrev pub id_or : Option ℕ → Option DwoId → Option DwoId
id_or None other = other
id_or (Some i) other = Some (record { 0 = i })

abbrev pub id_by : Bool → Option ℕ → Option DwoId → Option DwoId
id_by true id other = id_or id other
id_by false id other = other

-- the id of a skeleton's or a split compile unit's header, or the root's
abbrev pub unit_id : Fields → List (ℕ × Value) → Option DwoId
unit_id f xs = (id_by (((unwrap_or f.unit_type DW_UT_compile).0 == DW_UT_skeleton.0) || ((unwrap_or f.unit_type DW_UT_compile).0 == DW_UT_split_compile.0)) f.identity (id_in xs))
