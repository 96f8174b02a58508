-- Writers and sections to which nothing was written yet.
use Rattle.std.specs.Prelude.{◌≡◌, Bool, true, [], Some, IfSome}
use Rattle.dw_writer.specs.Meaning.{Meaning}
use Rattle.dw_writer.specs.Sections.{EachWriter, NoFixups}
use Rattle.dw_writer.specs.declared.sections.Sections.{Sections}

-- no byte and no record, in this byte order
pub record IsEmptyWriter (m : Meaning) (big : Bool) : Type 0 where
  pub told : IfSome m.bytes (λ xs. xs ≡ [])
  pub size : m.size ≡ 0
  pub records : m.records ≡ []
  pub order : m.is_big ≡ big

-- the same of a plain writer that tells its bytes
pub record IsEmptyPlainWriter (m : Meaning) (big : Bool) : Type 0 where
  pub bytes : m.bytes ≡ Some []
  pub size : m.size ≡ 0
  pub records : m.records ≡ []
  pub order : m.is_big ≡ big
  pub plain : m.is_plain ≡ true

-- every writer is empty, in one byte order, and no fixup is left
pub record IsNew {W : Type 0} (meaning : W → Meaning) (big : Bool) (s : Sections W) : Type 0 where
  pub writers : EachWriter (λ w. IsEmptyWriter (meaning w) big) s
  pub fixups : NoFixups s

-- and every writer is plain and tells its bytes
pub record IsNewPlain {W : Type 0} (meaning : W → Meaning) (big : Bool) (s : Sections W) : Type 0 where
  pub writers : EachWriter (λ w. IsEmptyPlainWriter (meaning w) big) s
  pub fixups : NoFixups s
