-- What linking tables of call frames comes to.
use Rattle.std.specs.Prelude.{◌≡◌, ℕ, Bool, List, [], take, Some, IsTrue, IsFalse, slice_get}
use Rattle.dw_base.specs.declared.error.Error.{Error}
use Rattle.dw_base.specs.declared.error.Error.TheVariants as errors
use Rattle.dw_base.specs.declared.section_id.SectionId.{SectionId}
use Rattle.dw_writer.specs.Causes.{IsNotMemory}
use Rattle.dw_writer.specs.Meaning.{Meaning}
use Rattle.dw_writer.specs.Sections.{section_of}
use Rattle.dw_writer.specs.declared.sections.Sections.{Sections}
use Rattle.dw_frame.specs.declared.kind.FrameKind.{FrameKind}
use Rattle.dw_frame.specs.declared.table.FrameTable.{FrameTable}
use Rattle.dw_link.specs.declared.error.LinkError.{LinkError}
use Rattle.dw_link.specs.declared.error.LinkError.TheVariants as links
use Rattle.dw_link.specs.Outcome.{LinkRefused}
use Rattle.dw_link.specs.Sets.{sets_of}
use Rattle.dw_link_frames.specs.declared.error.LinkFrameError.{LinkFrameError}
use Rattle.dw_link_frames.specs.declared.error.LinkFrameError.TheVariants.{Write, Link, NoMemory}
use Rattle.dw_link_frames.specs.Placed.{section_id, tables_text, AreValid, ReadsTables, AreFree}
use Rattle.dw_link_frames.specs.Written.{refuses, AreTaken, is_same, AreWritten}

-- table n is refused for this cause, and none before it is
pub record IsFirstRefused (kind : FrameKind) (ts : List FrameTable) (n : ℕ) (error : Error) : Type 0 where
  pub table : FrameTable
  pub is : slice_get ts n ≡ Some table
  pub cause : IsTrue (refuses kind table error)
  pub other : IsNotMemory error
  pub before : AreTaken kind (take n ts)

-- the error of table n that is refused for this cause
abbrev pub refused_at : ℕ → Error → LinkFrameError
refused_at n errors.NoMemory = NoMemory
refused_at n e = Write n e

-- some table is refused
abbrev pub TablesRefused : FrameKind → List FrameTable → LinkFrameError → Type 0
TablesRefused kind ts (Write n e) = IsFirstRefused kind ts n e
TablesRefused kind ts (Link e) = ⊥
TablesRefused kind ts NoMemory = Unit {0}

-- another cause than want of memory
abbrev pub IsLinkCause : LinkError → Type 0
IsLinkCause links.NoMemory = ⊥
IsLinkCause _ = Unit {0}

-- the error of sets that are refused for this cause
abbrev pub not_linked : LinkError → LinkFrameError
not_linked links.NoMemory = NoMemory
not_linked e = Link e

-- all tables are written, and what was written is refused for this cause
pub record IsNotLinked {W : Type 0} (meaning : W → Meaning) (big : Bool) (kind : FrameKind) (ts : List FrameTable) (symbols : List ℕ) (error : LinkError) : Type 0 where
  pub taken : AreTaken kind ts
  pub sets : List (Sections W)
  pub written : AreWritten meaning big kind ts sets
  pub cause : LinkRefused big (sets_of meaning sets) symbols error
  pub other : IsLinkCause error

-- why linking is refused
abbrev pub LinkTablesRefused : {W : Type 0} → (W → Meaning) → Bool → FrameKind → List FrameTable → List ℕ → LinkFrameError → Type 0
LinkTablesRefused meaning big kind ts symbols (Write n e) = IsFirstRefused kind ts n e
LinkTablesRefused meaning big kind ts symbols (Link e) = IsNotLinked meaning big kind ts symbols e
LinkTablesRefused meaning big kind ts symbols NoMemory = Unit {0}

-- where the premises hold, the section of the kind has the text of the numbered tables
abbrev pub HasText : {W : Type 0} → (W → Meaning) → Bool → FrameKind → List FrameTable → List ℕ → Sections W → Type 0
HasText {W} meaning big kind ts symbols joined =
    AreFree ts → AreValid kind symbols ts → (w : W) → section_of joined (section_id kind) ≡ Some w → (meaning w).bytes ≡ tables_text kind big symbols ts

-- and is read as them
abbrev pub IsReadAs : {W : Type 0} → (W → Meaning) → Bool → FrameKind → List FrameTable → List ℕ → Sections W → Type 0
IsReadAs {W} meaning big kind ts symbols joined =
    AreFree ts → AreValid kind symbols ts → (w : W) → section_of joined (section_id kind) ≡ Some w →
    (bytes : List ℕ) → (meaning w).bytes ≡ Some bytes → ReadsTables kind big symbols ts 0 bytes

-- the other sections are empty
abbrev pub OthersAreEmpty : {W : Type 0} → (W → Meaning) → FrameKind → Sections W → Type 0
OthersAreEmpty {W} meaning kind joined = (s : SectionId) (w : W) → IsFalse (is_same s (section_id kind)) → section_of joined s ≡ Some w → (meaning w).bytes ≡ Some []
