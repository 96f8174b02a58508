-- The names of reasons why joining is refused.
use Rattle.std.specs.Prelude.{ℕ, List, codes}
use Rattle.dw_link.specs.declared.error.LinkError.{LinkError}
use Rattle.dw_link.specs.declared.error.LinkError.TheVariants.{NoMemory, MixedByteOrder, PointerEncoding, RecordOutOfPlace, UnknownSymbol, UnknownSection, ValueTooLarge}

-- the variant's name
abbrev pub link_error_name : LinkError → List ℕ
link_error_name NoMemory = codes "NoMemory"
link_error_name (MixedByteOrder _) = codes "MixedByteOrder"
link_error_name (PointerEncoding _ _ _) = codes "PointerEncoding"
link_error_name (RecordOutOfPlace _ _ _) = codes "RecordOutOfPlace"
link_error_name (UnknownSymbol _ _ _) = codes "UnknownSymbol"
link_error_name (UnknownSection _ _ _) = codes "UnknownSection"
link_error_name (ValueTooLarge _ _ _) = codes "ValueTooLarge"
