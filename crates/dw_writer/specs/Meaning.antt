-- What writers' calls do to what the writer holds.
use Rattle.std.specs.Prelude.{◌≡◌, ◌⊎◌, ℕ, ◌+◌, ◌≤◌, Bool, true, false, ◌&&◌, List, [], ◌∷◌, ◌++◌, length, take, Option, Some, None, ℤ, pos, IsTrue, if◌then◌else◌}
use Rattle.std.specs.Option.{is_some}
use Rattle.dw_base.specs.Pointers.{format_of, pointer_width}
use Rattle.dw_base.specs.declared.constants.DwEhPe.{DwEhPe}
use Rattle.dw_base.specs.Numbers.{num, is_width, fits, word_of, length_fits}
use Rattle.dw_base.specs.declared.address.Address.{Address}
use Rattle.dw_base.specs.declared.address.Address.TheVariants.{Constant, Symbol}
use Rattle.dw_base.specs.declared.common.Format.{Format}
use Rattle.dw_base.specs.declared.section_id.SectionId.{SectionId}
use Rattle.dw_writer.specs.Texts.{Text, zeros, followed, patched}
use Rattle.dw_writer.specs.SignedNumbers.{signed_fits, signed_num}
use Rattle.dw_writer.specs.Pointers.{constant_pointer}
use Rattle.dw_writer.specs.Causes.{offset_fits}
use Rattle.dw_writer.specs.declared.relocate.Relocation.{Relocation}
use Rattle.dw_writer.specs.declared.relocate.RelocationTarget.TheVariants as to
pub use Rattle.dw_writer.specs.Layout.{Layout, section_number, start_of, target_value, is_zero, is_at_zero}
pub use Rattle.dw_writer.specs.Contents.{Meaning}
pub use Rattle.dw_writer.specs.Resolved.{is_inside, resolved}

-- the n bytes from p on lie apart from the k bytes from q on
abbrev pub IsApart : ℕ → ℕ → ℕ → ℕ → Type 0
IsApart p n q k = (p + n ≤ q) ⊎ (q + k ≤ p)

-- each record lies inside so many bytes
unfoldable pub AllInside : ℕ → List Relocation → Type 0
AllInside size [] = Unit {0}
AllInside size (r ∷ rs) = IsTrue (is_inside size r) × AllInside size rs

-- no record's place meets the n bytes from p on
unfoldable pub AllApart : ℕ → ℕ → List Relocation → Type 0
AllApart p n [] = Unit {0}
AllApart p n (r ∷ rs) = IsApart p n r.offset r.size × AllApart p n rs

-- the size is that of the bytes, and each record lies inside them
pub record IsTidy (m : Meaning) : Type 0 where
  pub sized : (b : List ℕ) → m.bytes ≡ Some b → length b ≡ m.size
  pub inside : AllInside m.size m.records

-- no record meets the n bytes from p on
abbrev pub IsClear : Meaning → ℕ → ℕ → Type 0
IsClear m p n = AllApart p n m.records

-- order and kind stay, and the count of faults doesn't fall
pub record IsSameWriter (old new : Meaning) : Type 0 where
  pub order : new.is_big ≡ old.is_big
  pub kind : new.is_plain ≡ old.is_plain
  pub faults : old.faults ≤ new.faults

-- a record is added, and the bytes stay
pub record Records (old new : Meaning) (r : Relocation) : Type 0 where
  pub same : IsSameWriter old new
  pub size : new.size ≡ old.size
  pub told : new.bytes ≡ old.bytes
  pub records : new.records ≡ old.records ++ r ∷ []

-- these bytes are added, as they are
pub record Adds (old new : Meaning) (bytes : List ℕ) : Type 0 where
  pub same : IsSameWriter old new
  pub size : new.size ≡ old.size + length bytes
  pub told : new.bytes ≡ followed old.bytes (Some bytes)
  pub records : new.records ≡ old.records

-- these bytes are added, as they are, and these records
pub record AddsWith (old new : Meaning) (bytes : List ℕ) (more : List Relocation) : Type 0 where
  pub same : IsSameWriter old new
  pub size : new.size ≡ old.size + length bytes
  pub told : new.bytes ≡ followed old.bytes (Some bytes)
  pub records : new.records ≡ old.records ++ more

-- the first of these bytes are added: none, some or all
pub record AddsSome (old new : Meaning) (bytes : List ℕ) : Type 0 where
  pub count : ℕ
  pub size : new.size ≡ old.size + length (take count bytes)
  pub told : new.bytes ≡ followed old.bytes (Some (take count bytes))
  pub records : new.records ≡ old.records

-- the same behind these records, without which nothing is added
pub record AddsSomeWith (old new : Meaning) (bytes : List ℕ) (more : List Relocation) : Type 0 where
  pub count : ℕ
  pub size : new.size ≡ old.size + length (take count bytes)
  pub told : new.bytes ≡ followed old.bytes (Some (take count bytes))
  pub records : (new.records ≡ old.records ++ more) ⊎ (new ≡ old)

-- these bytes are written over those from p on, as they are
pub record Replaces (old new : Meaning) (p : ℕ) (bytes : List ℕ) : Type 0 where
  pub same : IsSameWriter old new
  pub within : p + length bytes ≤ old.size
  pub size : new.size ≡ old.size
  pub told : new.bytes ≡ patched p (Some bytes) old.bytes
  pub records : new.records ≡ old.records

-- the same beside these records
pub record ReplacesWith (old new : Meaning) (p : ℕ) (bytes : List ℕ) (more : List Relocation) : Type 0 where
  pub same : IsSameWriter old new
  pub within : p + length bytes ≤ old.size
  pub size : new.size ≡ old.size
  pub told : new.bytes ≡ patched p (Some bytes) old.bytes
  pub records : new.records ≡ old.records ++ more

-- the first of these bytes are written over those from p on: none, some or all
pub record ReplacesSome (old new : Meaning) (p : ℕ) (bytes : List ℕ) : Type 0 where
  pub count : ℕ
  pub size : new.size ≡ old.size
  pub told : new.bytes ≡ patched p (Some (take count bytes)) old.bytes
  pub records : new.records ≡ old.records

-- the same behind these records, without which nothing is written
pub record ReplacesSomeWith (old new : Meaning) (p : ℕ) (bytes : List ℕ) (more : List Relocation) : Type 0 where
  pub count : ℕ
  pub size : new.size ≡ old.size
  pub told : new.bytes ≡ patched p (Some (take count bytes)) old.bytes
  pub records : (new.records ≡ old.records ++ more) ⊎ (new ≡ old)

-- the bytes of a number in w bytes; one that has no spelling has none
abbrev pub spelled_num : Bool → ℕ → ℕ → List ℕ
spelled_num big w n = if is_width w && fits w n then num big w n else []

-- the same of a signed number
abbrev pub spelled_signed : Bool → ℕ → ℤ → List ℕ
spelled_signed big w z = if is_width w && signed_fits w z then signed_num big w z else []

-- the bytes of a length; one that the format can't spell has none
abbrev pub spelled_length : Bool → Format → ℕ → List ℕ
spelled_length big format n = if length_fits format n then num big (word_of format) n else []

-- what an offset puts in its place: the number in a plain writer, and zeros beside a record in another
abbrev pub offset_bytes : Bool → Bool → ℕ → ℕ → List ℕ
offset_bytes true big w n = spelled_num big w n
offset_bytes false big w n = if is_width w && offset_fits false w n then zeros w else []

-- what an address puts in its place: a constant is a number, a symbol's value is left to a record
abbrev pub address_bytes : Bool → Bool → ℕ → Address → List ℕ
address_bytes is_plain big w (Constant n) = spelled_num big w n
address_bytes true big w (Symbol s a) = []
address_bytes false big w (Symbol s a) = if is_width w then zeros w else []

-- what an offset at a place leaves to a linker in a writer that records, and in a plain one
abbrev pub offset_records : Bool → ℕ → ℕ → SectionId → ℕ → List Relocation
offset_records true place w section n = []
offset_records false place w section n = record { offset = place; size = w; target = to.Section section; addend = pos n; eh_pe = None } ∷ []

-- what an address does: a constant nothing
abbrev pub address_records : Bool → ℕ → ℕ → Address → List Relocation
address_records is_plain place w (Constant n) = []
address_records true place w (Symbol s a) = []
address_records false place w (Symbol s a) = record { offset = place; size = w; target = to.Symbol s; addend = a; eh_pe = None } ∷ []

-- the bytes of a text; one that isn't there has none
abbrev pub spelled_text : Text → List ℕ
spelled_text None = []
spelled_text (Some xs) = xs

-- zeros of a width, if it is one
abbrev pub pointer_zeros : Option ℕ → List ℕ
pointer_zeros None = []
pointer_zeros (Some w) = if is_width w then zeros w else []

-- the record of a pointer to a symbol
abbrev pub pointer_record : Option ℕ → DwEhPe → ℕ → ℕ → ℤ → List Relocation
pointer_record None encoding place s a = []
pointer_record (Some w) encoding place s a = record { offset = place; size = w; target = to.Symbol s; addend = a; eh_pe = Some encoding } ∷ []

-- there is a width, and it is one that a number has
abbrev pub has_width : Option ℕ → Bool
has_width None = false
has_width (Some w) = is_width w

-- what a pointer puts in its place: one to a known address is a number, a symbol's value is left to a record
unfoldable pub pointer_bytes : Bool → Bool → ℕ → ℕ → ℕ → Address → List ℕ
pointer_bytes is_plain big size encoding place (Constant n) = spelled_text (constant_pointer big size encoding place n)
pointer_bytes true big size encoding place (Symbol s a) = []
pointer_bytes false big size encoding place (Symbol s a) = pointer_zeros (pointer_width size (format_of encoding))

-- what a pointer leaves to a linker
unfoldable pub pointer_records : Bool → ℕ → DwEhPe → ℕ → Address → List Relocation
pointer_records is_plain size encoding place (Constant n) = []
pointer_records true size encoding place (Symbol s a) = []
pointer_records false size encoding place (Symbol s a) = pointer_record (pointer_width size (format_of encoding.0)) encoding place s a

-- whether a pointer can be written: a plain writer takes no symbols
abbrev pub pointer_fits : Bool → Bool → ℕ → ℕ → ℕ → Address → Bool
pointer_fits is_plain big size encoding place (Constant n) = is_some (constant_pointer big size encoding place n)
pointer_fits true big size encoding place (Symbol s a) = false
pointer_fits false big size encoding place (Symbol s a) = has_width (pointer_width size (format_of encoding))

-- a text that hangs on the byte order and on a layout
abbrev pub Model : Type 0
Model = Bool → Layout → Text

-- n bytes are added, which resolve to this text; a place that no record met stays clear
pub record Appends (old new : Meaning) (n : ℕ) (text : Model) : Type 0 where
  pub same : IsSameWriter old new
  pub size : new.size ≡ old.size + n
  pub tidy : IsTidy old → IsTidy new
  pub clear : (p k : ℕ) → p + k ≤ old.size → IsClear old p k → IsClear new p k
  pub wide : (big : Bool) (l : Layout) (xs : List ℕ) → text big l ≡ Some xs → length xs ≡ n
  pub resolves : IsTidy old → (l : Layout) → resolved l new ≡ followed (resolved l old) (text old.is_big l)

-- the n bytes from p on, where they are clear, are replaced by bytes that resolve to this text
pub record Patches (old new : Meaning) (p n : ℕ) (text : Model) : Type 0 where
  pub same : IsSameWriter old new
  pub within : p + n ≤ old.size
  pub size : new.size ≡ old.size
  pub tidy : IsTidy old → IsTidy new
  pub clear : (q k : ℕ) → IsApart q k p n → IsClear old q k → IsClear new q k
  pub wide : (big : Bool) (l : Layout) (xs : List ℕ) → text big l ≡ Some xs → length xs ≡ n
  pub resolves : IsTidy old → IsClear old p n → (l : Layout) → resolved l new ≡ patched p (text old.is_big l) (resolved l old)
