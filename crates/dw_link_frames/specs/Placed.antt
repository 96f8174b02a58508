-- Tables of call frames in a joined section: one behind another, with the addresses of symbols as numbers.
use Rattle.std.specs.Prelude.{◌≡◌, ℕ, ◌+◌, ◌==◌, Bool, true, false, ◌||◌, List, [], ◌∷◌, ◌++◌, length, Option, Some, None, IsFalse, slice_get}
use Rattle.std.specs.List.{list_any}
use Rattle.dw_base.specs.Pointers.{application_of, from_place}
use Rattle.dw_base.specs.declared.address.Address.{Address}
use Rattle.dw_base.specs.declared.address.Address.TheVariants.{Constant, Symbol}
use Rattle.dw_base.specs.declared.constants.DwEhPe.{DwEhPe}
use Rattle.dw_base.specs.declared.ids.CieId.{CieId}
use Rattle.dw_base.specs.declared.section_id.SectionId.{SectionId}
use Rattle.dw_base.specs.declared.section_id.SectionId.TheVariants.{DebugFrame, EhFrame}
use Rattle.dw_writer.specs.Layout.{Layout, start_of}
use Rattle.dw_writer.specs.Texts.{Text}
use Rattle.dw_frame.specs.declared.cie.CommonInformationEntry.{CommonInformationEntry}
use Rattle.dw_frame.specs.declared.fde.FrameDescriptionEntry.{FrameDescriptionEntry}
use Rattle.dw_frame.specs.declared.kind.FrameKind.{FrameKind}
use Rattle.dw_frame.specs.declared.kind.FrameKind.TheVariants.{Debug, Eh}
use Rattle.dw_frame.specs.declared.table.FrameTable.{FrameTable}
use Rattle.dw_frame_instructions.specs.Pieces.{bytes}
use Rattle.dw_frame_instructions.specs.Causes.{IsNone}
use Rattle.dw_frame.specs.Parts.{Placed, free, in_turn}
use Rattle.dw_frame.specs.Reading.{at_zero}
use Rattle.dw_frame.specs.ReadTables.{ReadsFrames}
use Rattle.dw_frame.specs.Tables.{no_places, frames_part, frames_at}
use Rattle.dw_link_frames.specs.Numbered.{numbered_cies, numbered_fdes}

-- which section is written
abbrev pub kind_of : Bool → FrameKind
kind_of true = Eh
kind_of false = Debug

abbrev pub section_id : FrameKind → SectionId
section_id Debug = DebugFrame
section_id Eh = EhFrame

-- a table with the addresses of symbols as numbers
abbrev pub numbered_part : FrameKind → List ℕ → FrameTable → Placed
numbered_part kind symbols t = frames_part kind (numbered_cies symbols t.cies.keys) (numbered_fdes symbols t.fdes.items)

-- such tables, one behind another
abbrev pub tables_part : FrameKind → List ℕ → List FrameTable → Placed
tables_part kind symbols [] = free (bytes [])
tables_part kind symbols (t ∷ ts) = in_turn (numbered_part kind symbols t) (tables_part kind symbols ts)

-- their text in a section that begins with them
abbrev pub tables_text : FrameKind → Bool → List ℕ → List FrameTable → Text
tables_text kind big symbols ts = (tables_part kind symbols ts 0).piece.text big at_zero

-- a plain writer has no cause to refuse them there
abbrev pub AreValid : FrameKind → List ℕ → List FrameTable → Type 0
AreValid kind symbols ts = IsNone ((tables_part kind symbols ts 0).fails true)

-- a layout in which a section's part starts there, and symbols have these values
pub record StartsAt (section : SectionId) (start : ℕ) (symbols : List ℕ) (l : Layout) : Type 0 where
  pub own : l.own_start ≡ start
  pub begun : start_of l section ≡ start
  pub values : l.symbols ≡ symbols

-- Each table's text is there where its part comes to stand behind those before it, wherever other sections start: every
-- number in it fits its field, and its symbols have values.
abbrev pub AreThere : FrameKind → Bool → List ℕ → List FrameTable → ℕ → Type 0
AreThere kind big symbols [] start = Unit {0}
AreThere kind big symbols (t ∷ ts) start =
    ((l : Layout) → StartsAt (section_id kind) start symbols l → (xs : List ℕ) × ((frames_at kind t 0).piece.text big l ≡ Some xs)) ×
    AreThere kind big symbols ts (start + (frames_at kind t 0).piece.size)

-- bytes at a place are read to the last one as such tables, each FDE with its CIE in its own table
module _ (kind : FrameKind) (big : Bool) (symbols : List ℕ) where
  abbrev pub ReadsTables : List FrameTable → ℕ → List ℕ → Type 0
  ReadsTables [] at bytes = bytes ≡ []
  ReadsTables (t ∷ ts) at bytes =
      (part : List ℕ) × (rest : List ℕ) × (bytes ≡ part ++ rest) ×
      ReadsFrames kind big (numbered_cies symbols t.cies.keys) no_places (numbered_fdes symbols t.fdes.items) at part ×
      ReadsTables ts (at + length part) rest

-- Pointers that count from their own place, to an address that is known: a linker learns nothing of them

abbrev pub is_fixed : DwEhPe → Address → Bool
is_fixed encoding (Constant n) = application_of encoding.0 == from_place
is_fixed encoding (Symbol s addend) = false

abbrev pub personality_fixed : Option (DwEhPe × Address) → Bool
personality_fixed None = false
personality_fixed (Some p) = is_fixed p.0 p.1

abbrev pub lsda_fixed : Option DwEhPe → Option Address → Bool
lsda_fixed (Some encoding) (Some a) = is_fixed encoding a
lsda_fixed encoding a = false

abbrev pub entry_fixed : Option CommonInformationEntry → FrameDescriptionEntry → Bool
entry_fixed None f = false
entry_fixed (Some c) f =
    personality_fixed c.personality || (is_fixed c.fde_address_encoding f.address || lsda_fixed c.lsda_encoding f.lsda)

abbrev pub frames_fixed : List CommonInformationEntry → List (CieId × FrameDescriptionEntry) → Bool
frames_fixed cies fdes = list_any (λ x. entry_fixed (slice_get cies x.0.0) x.1) fdes

-- no table has such a pointer in an FDE or its CIE
abbrev pub AreFree : List FrameTable → Type 0
AreFree ts = IsFalse (list_any (λ t. frames_fixed t.cies.keys t.fdes.items) ts)
