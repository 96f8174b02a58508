-- What attributes become, by their forms and values.
use Rattle.std.specs.Prelude.{◌≡◌, ℕ, ◌==◌, Bool, true, false, List, Option, Some, None, Result, Ok, Err, ℤ}
use Rattle.dw_base.specs.declared.address.Address.{Address}
use Rattle.dw_base.specs.declared.address.DebugInfoRef.{DebugInfoRef}
use Rattle.dw_base.specs.declared.constants.TheConstants.{DW_FORM_flag_present, DW_FORM_implicit_const}
use Rattle.dw_base.specs.Entries.{ReadAttribute}
use Rattle.dw_base.specs.declared.common.Encoding.{Encoding}
use Rattle.dw_base.specs.declared.ids.FileId.{FileId}
use Rattle.dw_base.specs.declared.ids.UnitEntryId.{UnitEntryId}
use Rattle.dw_entries.specs.declared.value.AttributeValue.{AttributeValue}
use Rattle.dw_entries.specs.declared.value.AttributeValue.TheVariants as built
use Rattle.dw_read.specs.Attributes.{attribute_of}
use Rattle.dw_read.specs.Orders.{attribute_order}
use Rattle.dw_read.specs.Reading.{Reading}
use Rattle.dw_read.specs.Values.{Value, raw_value_of, named_value}
use Rattle.dw_read.specs.declared.attribute.Attribute.{Attribute}
use Rattle.dw_read.specs.declared.value.AttributeValue.TheVariants as read
use Rattle.dw_read_units.specs.declared.unit_ref.UnitRef.{UnitRef}
use Rattle.dw_sources.specs.RawListIters.{encoding_in}
use Rattle.dw_sources.specs.declared.convert_error.ConvertError.{ConvertError}
use Rattle.dw_convert.specs.Files.{declared_image}
use Rattle.dw_convert.specs.Images.{Image}
use Rattle.dw_convert.specs.Tables.{Tables, stored, Means}
use Rattle.dw_convert.specs.Values.{ValueOutcome, MadeOf, order_or_little}
use Rattle.dw_convert.specs.declared.image.Image.TheVariants as image

-- an attribute, with the encoding of its unit and the byte order of its bytes, where it has some
abbrev pub Seen : Type 0
Seen = Encoding × ReadAttribute × Option Bool

abbrev pub seen : {R E : Type 0} → (R → Reading) → Attribute R E → Seen
seen reading a = (a.encoding, attribute_of reading a, attribute_order reading a)

-- the value by the form
abbrev pub raw_of : Seen → Value
raw_of a = raw_value_of a.0 a.1

-- the number of a value in the form of those that declarations hold
abbrev pub number_by : Bool → Value → Option ℤ
number_by true (read.Sdata z) = Some z
number_by is_declared v = None

abbrev pub declared_in : Seen → Option ℤ
declared_in a = number_by (a.1.form == DW_FORM_implicit_const.0) (raw_of a)

module _ {R E : Type 0} (reading : R → Reading) (answers : ℕ → Option Address → Type 0) (entries : ℕ → Option UnitEntryId) (infos : ℕ → Option DebugInfoRef) (u : UnitRef R E) (files : List FileId) (big : Bool) where
  -- a value in another form than the two below becomes what its kind says
  abbrev pub NamedOutcome : ℕ → Value → Result Image ConvertError → Type 0
  NamedOutcome name v r = ValueOutcome reading answers entries infos u files big name (named_value name v) r

  -- a number that the declaration holds stays one there
  abbrev pub DeclaredOutcome : Option ℤ → ℕ → Value → Result Image ConvertError → Type 0
  DeclaredOutcome (Some z) name v r = MadeOf (declared_image (encoding_in u).version files name z) (λ y. image.Value (built.ImplicitConst y)) r
  DeclaredOutcome None name v r = NamedOutcome name v r

  -- a flag without a byte stays one
  abbrev pub PresentOutcome : Bool → ℕ → ℕ → Value → Result Image ConvertError → Type 0
  PresentOutcome true form name v r = r ≡ Ok (image.Value built.FlagPresent)
  PresentOutcome false form name v r = DeclaredOutcome (number_by (form == DW_FORM_implicit_const.0) v) name v r

  -- what a value in a form becomes under a name
  abbrev pub FormOutcome : ℕ → ℕ → Value → Result Image ConvertError → Type 0
  FormOutcome form name v r = PresentOutcome (form == DW_FORM_flag_present.0) form name v r

module _ {R E : Type 0} (reading : R → Reading) (answers : ℕ → Option Address → Type 0) (entries : ℕ → Option UnitEntryId) (infos : ℕ → Option DebugInfoRef) (u : UnitRef R E) (files : List FileId) (a : Seen) where
  -- what an attribute becomes, an expression being read in the byte order of its bytes
  abbrev pub AttributeOutcome : Result Image ConvertError → Type 0
  AttributeOutcome r = FormOutcome reading answers entries infos u files (order_or_little a.2) a.1.form a.1.name (raw_of a) r

  abbrev pub AttributeImage : Image → Type 0
  AttributeImage i = AttributeOutcome (Ok i)

  abbrev pub IsRefused : ConvertError → Type 0
  IsRefused e = AttributeOutcome (Err e)

  -- the value that an attribute becomes, with the tables before and after it, in which it names what it is to name
  pub record IsImage (old : Tables) (v : AttributeValue) (new : Tables) : Type 0 where
    pub meant : Image
    pub becomes : AttributeImage meant
    pub is_stored : stored old meant ≡ (v, new)
    pub named : Means new v meant
