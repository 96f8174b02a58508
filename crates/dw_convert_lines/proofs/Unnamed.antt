-- Values that are no names.
use Rattle.std.proofs.Common.{◌≡◌, Bool, Option, Some, Err, refl}
use Rattle.dw_base.specs.declared.offsets.DebugLineStrOffset.{DebugLineStrOffset}
use Rattle.dw_base.specs.declared.offsets.DebugStrOffset.{DebugStrOffset}
use Rattle.dw_read.specs.Reading.{Reading}
use Rattle.dw_read.specs.Took.{option_of}
use Rattle.dw_read.specs.Values.{value_of}
use Rattle.dw_read.specs.declared.value.AttributeValue.{AttributeValue}
use Rattle.dw_read.specs.declared.value.AttributeValue.TheVariants as read
use Rattle.dw_sources.specs.declared.convert_error.ConvertError.TheVariants.{UnsupportedLineProgram}
use Rattle.dw_convert_lines.specs.EntryNames.{Texts, Tables, name_image}

-- a value that holds no string and leads to none
pub record IsUnnamed {R E : Type 0} (v : AttributeValue R E) : Type 0 where
  pub string : (r : R) → v ≡ read.String r → ⊥
  pub in_strings : (p : DebugStrOffset) → v ≡ read.DebugStrRef p → ⊥
  pub in_line_strings : (p : DebugLineStrOffset) → v ≡ read.DebugLineStrRef p → ⊥

module _ (R E : Type 0) (reading : R → Reading) (refs : Bool) (texts : Texts) (t : Tables) where
  unnamed : (v : AttributeValue R E) → IsUnnamed v → name_image refs texts t (Some (value_of reading v)) ≡ Err UnsupportedLineProgram
  unnamed (read.String r) h = absurd (h.string r refl)
  unnamed (read.DebugStrRef p) h = absurd (h.in_strings p refl)
  unnamed (read.DebugLineStrRef p) h = absurd (h.in_line_strings p refl)
  unnamed v h = refl

  pub is_unnamed : (name : Option (AttributeValue R E)) (v : AttributeValue R E) → name ≡ Some v → IsUnnamed v → name_image refs texts t (option_of (value_of reading) name) ≡ Err UnsupportedLineProgram
  is_unnamed name v e h = rw e (unnamed v h)
