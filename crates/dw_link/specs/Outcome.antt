-- What joining sets comes to.
use Rattle.std.specs.Prelude.{◌≡◌, ◌⊎◌, ℕ, ◌<◌, Bool, true, false, not, List, take, Option, Some, None, slice_get, position}
use Rattle.std.specs.List.{list_any}
use Rattle.dw_base.specs.Numbers.{◌>>=◌}
use Rattle.dw_base.specs.declared.section_id.SectionId.{SectionId}
use Rattle.dw_writer.specs.Layout.{Layout, section_number}
use Rattle.dw_writer.specs.Resolved.{put_records}
use Rattle.dw_writer.specs.Meaning.{Meaning}
use Rattle.dw_writer.specs.Sections.{section_of}
use Rattle.dw_writer.specs.Visits.{written_ids}
use Rattle.dw_writer.specs.declared.sections.Sections.{Sections}
use Rattle.dw_link.specs.declared.error.LinkError.{LinkError}
use Rattle.dw_link.specs.declared.error.LinkError.TheVariants.{NoMemory, MixedByteOrder}
use Rattle.dw_link.specs.declared.fault.Fault.{Fault}
use Rattle.dw_link.specs.Faults.{fault_of, error_at}
use Rattle.dw_link.specs.Sets.{Parts, layout_in, join, linked_parts}

-- what is wrong with relocation k of a part, over the bytes that those before it have left
abbrev pub part_fault : Layout → Meaning → ℕ → Option Fault
part_fault l m k =
    slice_get m.records k >>= λ r. put_records m.is_big l (take k m.records) m.bytes >>= λ bytes. fault_of m.is_big l bytes r

-- the same of relocation k of a section of set n
unfoldable pub fault_at : List Parts → List ℕ → ℕ → SectionId → ℕ → Option Fault
fault_at sets symbols n s k =
    slice_get sets n >>= λ set. set s >>= λ m. part_fault (layout_in sets symbols n s) m k

-- no relocation is faulty
abbrev pub IsFaultless : List Parts → List ℕ → Type 0
IsFaultless sets symbols = (n : ℕ) (s : SectionId) (k : ℕ) → fault_at sets symbols n s k ≡ None

-- relocation j of a section of set m stands before relocation k of a section of set n: sets come first, then sections
abbrev pub IsBefore : ℕ → SectionId → ℕ → ℕ → SectionId → ℕ → Type 0
IsBefore m t j n s k =
    (m < n) ⊎ ((m ≡ n) × ((section_number t < section_number s) ⊎ ((section_number t ≡ section_number s) × (j < k))))

-- the error is that of the first faulty relocation
pub record IsFirstFault (sets : List Parts) (symbols : List ℕ) (error : LinkError) : Type 0 where
  pub set : ℕ
  pub section : SectionId
  pub index : ℕ
  pub fault : Fault
  pub is : error ≡ error_at fault set section index
  pub stands : fault_at sets symbols set section index ≡ Some fault
  pub first : (m : ℕ) (t : SectionId) (j : ℕ) → IsBefore m t j set section index → fault_at sets symbols m t j ≡ None

-- a byte order is another
abbrev pub is_other : Bool → Bool → Bool
is_other true big = not big
is_other false big = big

-- a part is there, and has another byte order
abbrev pub differs : Bool → Option Meaning → Bool
differs big None = false
differs big (Some m) = is_other m.is_big big

-- a section of a set has another byte order
abbrev pub is_mixed : Bool → Parts → Bool
is_mixed big set = list_any (λ s. differs big (set s)) written_ids

-- the first set of which a section has another byte order
abbrev pub first_mixed : Bool → List Parts → Option ℕ
first_mixed big sets = position (is_mixed big) sets

-- why joining is refused
abbrev pub LinkRefused : Bool → List Parts → List ℕ → LinkError → Type 0
LinkRefused big sets symbols NoMemory = Unit {0}
LinkRefused big sets symbols (MixedByteOrder n) = first_mixed big sets ≡ Some n
LinkRefused big sets symbols e = (first_mixed big sets ≡ None) × IsFirstFault sets symbols e

-- each section is the join of the sets
abbrev pub Joins : {W : Type 0} → (W → Meaning) → Bool → List Parts → List ℕ → Sections W → Type 0
Joins {W} meaning big sets symbols joined =
    (s : SectionId) (w : W) → section_of joined s ≡ Some w → (meaning w).bytes ≡ join big sets symbols s

-- each section is the sets' parts, resolved where they stand, one behind another
abbrev pub JoinsParts : {W : Type 0} → (W → Meaning) → List Parts → List ℕ → Sections W → Type 0
JoinsParts {W} meaning sets symbols joined =
    (s : SectionId) (w : W) → section_of joined s ≡ Some w → (meaning w).bytes ≡ linked_parts sets symbols s

-- each section has this byte order
abbrev pub AllInOrder : {W : Type 0} → (W → Meaning) → Bool → Sections W → Type 0
AllInOrder {W} meaning big joined = (s : SectionId) (w : W) → section_of joined s ≡ Some w → (meaning w).is_big ≡ big
