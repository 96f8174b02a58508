-- What is done to a joined section, step by step.
use Rattle.std.specs.Prelude.{◌≡◌, ◌⊎◌, ◌==◌, ℕ, ◌<◌, nat_lt, Bool, List, slice_get, take, drop, map, Option, Some, None, IsTrue, IsFalse}
use Rattle.std.specs.Option.{option_map}
use Rattle.dw_base.specs.Numbers.{◌>>=◌}
use Rattle.dw_base.specs.declared.section_id.SectionId.{SectionId}
use Rattle.dw_writer.specs.Texts.{Text, followed}
use Rattle.dw_writer.specs.Layout.{Layout, section_number}
use Rattle.dw_writer.specs.Resolved.{put_record, resolved}
use Rattle.dw_writer.specs.Meaning.{Meaning, spelled_text}
use Rattle.dw_writer.specs.Visits.{written_ids}
use Rattle.dw_writer.specs.declared.relocate.Relocation.{Relocation}
use Rattle.dw_link.specs.declared.error.LinkError.{LinkError}
use Rattle.dw_link.specs.declared.error.LinkError.TheVariants.{NoMemory}
use Rattle.dw_link.specs.declared.fault.Fault.{Fault}
use Rattle.dw_link.specs.Faults.{fault_of, error_at}
use Rattle.dw_link.specs.Sets.{Parts, linked_parts}
use Rattle.dw_link.specs.Outcome.{part_fault, IsFaultless, IsFirstFault}

-- where sections start, that of the part among them, and what symbols are
abbrev pub layout_at : List ℕ → List ℕ → ℕ → Layout
layout_at starts symbols start = record { starts = starts; own_start = start; symbols = symbols }

-- the bytes before a part, and those of the part
abbrev pub before_part : ℕ → Meaning → List ℕ
before_part start m = take start (spelled_text m.bytes)

abbrev pub part_from : ℕ → Meaning → List ℕ
part_from start m = drop start (spelled_text m.bytes)

-- a relocation without a fault is put into the part that starts there
pub record Relocates (old new : Meaning) (start : ℕ) (l : Layout) (r : Relocation) : Type 0 where
  pub faultless : fault_of old.is_big l (part_from start old) r ≡ None
  pub bytes : new.bytes ≡ followed (Some (before_part start old)) (put_record old.is_big l r (Some (part_from start old)))
  pub order : new.is_big ≡ old.is_big

-- a part is added with its relocations put in, none of which has a fault
pub record AddsPart (old new part : Meaning) (l : Layout) : Type 0 where
  pub faultless : (k : ℕ) → part_fault l part k ≡ None
  pub bytes : new.bytes ≡ followed old.bytes (resolved l part)
  pub order : new.is_big ≡ old.is_big

-- what relocation k of a part is at fault for; where there is no part, there is no fault
abbrev pub section_fault : Layout → Option Meaning → ℕ → Option Fault
section_fault l None k = None
section_fault l (Some m) k = part_fault l m k

-- the error is that of the first faulty relocation of this part, which stands in this section of set n
pub record IsPartFault (part : Option Meaning) (l : Layout) (n : ℕ) (s : SectionId) (error : LinkError) : Type 0 where
  pub index : ℕ
  pub fault : Fault
  pub is : error ≡ error_at fault n s index
  pub stands : section_fault l part index ≡ Some fault
  pub first : (j : ℕ) → j < index → section_fault l part j ≡ None

-- no memory could be had, or a relocation of the part is faulty
abbrev pub PartRefused : Option Meaning → Layout → ℕ → SectionId → LinkError → Type 0
PartRefused part l n s error = (error ≡ NoMemory) ⊎ IsPartFault part l n s error

-- All sections

-- the bytes of a section, and its byte order
abbrev pub bytes_at : Parts → SectionId → Text
bytes_at parts s = parts s >>= λ m. m.bytes

abbrev pub order_at : Parts → SectionId → Option Bool
order_at parts s = option_map (λ m. m.is_big) (parts s)

-- each section that two sets have is in one byte order
abbrev pub HaveSameOrders : Parts → Parts → Type 0
HaveSameOrders a b = (s : SectionId) → order_at a s ≡ order_at b s

-- how long a section is, and all of them
abbrev pub length_of : Option Meaning → ℕ
length_of None = 0
length_of (Some m) = m.size

abbrev pub lengths_of : Parts → List ℕ
lengths_of parts = map (λ s. length_of (parts s)) written_ids

-- the layout of a set's parts behind these sections, where all start after so many bytes
abbrev pub layout_behind : List ℕ → List ℕ → Parts → SectionId → Layout
layout_behind starts symbols joined s = layout_at starts symbols (length_of (joined s))

-- The parts of a set of these sections are added, each resolved in its layout; no relocation of them has a fault. Other
-- sections stay.
pub record AddsThese (chosen : SectionId → Bool) (old new set : Parts) (layout : SectionId → Layout) : Type 0 where
  pub faultless : (s : SectionId) → IsTrue (chosen s) → (k : ℕ) → section_fault (layout s) (set s) k ≡ None
  pub bytes : (s : SectionId) → IsTrue (chosen s) → bytes_at new s ≡ followed (bytes_at old s) (set s >>= resolved (layout s))
  pub kept : (s : SectionId) → IsFalse (chosen s) → new s ≡ old s
  pub orders : HaveSameOrders new old

-- this section
abbrev pub is_section : SectionId → SectionId → Bool
is_section s t = section_number t == section_number s

-- those before the k-th
abbrev pub is_below : ℕ → SectionId → Bool
is_below k t = nat_lt (section_number t) k

-- the error is that of the first faulty relocation of the parts of set n
pub record IsSetFault (set : Parts) (layout : SectionId → Layout) (n : ℕ) (error : LinkError) : Type 0 where
  pub section : SectionId
  pub here : IsPartFault (set section) (layout section) n section error
  pub before : (s : SectionId) → section_number s < section_number section → (k : ℕ) → section_fault (layout s) (set s) k ≡ None

abbrev pub SetRefused : Parts → (SectionId → Layout) → ℕ → LinkError → Type 0
SetRefused set layout n error = (error ≡ NoMemory) ⊎ IsSetFault set layout n error

-- All sets

-- every set is in the byte order of the joined sections
abbrev pub AllHaveOrders : Parts → List Parts → Type 0
AllHaveOrders joined sets = (n : ℕ) (set : Parts) → slice_get sets n ≡ Some set → HaveSameOrders joined set

-- sections that have no byte yet
abbrev pub AreEmpty : Parts → Type 0
AreEmpty joined = (s : SectionId) → length_of (joined s) ≡ 0

-- the parts of all sets are added, set by set, where no relocation has a fault
pub record AddsSets (old new : Parts) (sets : List Parts) (symbols : List ℕ) : Type 0 where
  pub faultless : IsFaultless sets symbols
  pub bytes : (s : SectionId) → IsTrue (is_below 11 s) → bytes_at new s ≡ followed (bytes_at old s) (linked_parts sets symbols s)
  pub orders : HaveSameOrders new old

abbrev pub SetsRefused : List Parts → List ℕ → LinkError → Type 0
SetsRefused sets symbols error = (error ≡ NoMemory) ⊎ IsFirstFault sets symbols error
