-- The text of a sequence, whose address may be a symbol, the rows that it stands for, and why it is refused.
use Rattle.std.specs.Prelude.{◌≡◌, ◌⊎◌, ℕ, suc, Bool, true, false, not, ◌||◌, ◌&&◌, ◌+◌, List, [], ◌∷◌, ◌++◌, length, Option, Some, None, IsSome, ℤ, pos, negsuc, ◌+ℤ◌, slice_get}
use Rattle.dw_base.specs.Leb128.{uleb}
use Rattle.dw_base.specs.Numbers.{◌>>=◌, fits}
use Rattle.dw_base.specs.declared.address.Address.{Address}
use Rattle.dw_base.specs.declared.address.Address.TheVariants.{Constant, Symbol}
use Rattle.dw_base.specs.declared.constants.TheConstants.{DW_LNE_set_address}
use Rattle.dw_base.specs.declared.error.Error.{Error}
use Rattle.dw_base.specs.declared.error.Error.TheVariants.{InvalidAddress, ValueTooLarge}
use Rattle.dw_writer.specs.Texts.{followed}
use Rattle.dw_writer.specs.Meaning.{Layout, Model}
use Rattle.dw_writer.specs.SectionTexts.{address_text}
use Rattle.dw_base.specs.LineMachine.{LineHeader, Shown}
use Rattle.dw_line.specs.RawRows.{RawRow, Sequence, first_row, shown_sequence, AreRowsAfter}
use Rattle.dw_line.specs.RowTexts.{sequence_rows_text, lines_fit}

-- a sequence as it was built, with the address offset of its end where it was ended
pub record BuiltSequence : Type 0 where
  pub address : Option Address
  pub rows : List RawRow
  pub end : Option ℕ

-- what stands before an address of w bytes: the mark of extended instructions, the length and the code
abbrev pub set_address_prefix : ℕ → List ℕ
set_address_prefix w = 0 ∷ (uleb (suc w) ++ DW_LNE_set_address.0 ∷ [])

abbrev pub set_address_size : ℕ → Option Address → ℕ
set_address_size w None = 0
set_address_size w (Some a) = length (set_address_prefix w) + w

abbrev pub set_address_model : ℕ → Option Address → Model
set_address_model w None big l = Some []
set_address_model w (Some a) big l = followed (Some (set_address_prefix w)) (address_text w a big l)

-- a whole sequence, after a first row that the registers hold as it begins
abbrev pub sequence_size : ℕ → ℕ → RawRow → BuiltSequence → ℕ
sequence_size w m first s = set_address_size w s.address + length (sequence_rows_text m first s.rows s.end)

abbrev pub sequence_model : ℕ → ℕ → RawRow → BuiltSequence → Model
sequence_model w m first s big l = followed (set_address_model w s.address big l) (Some (sequence_rows_text m first s.rows s.end))

abbrev pub is_symbol : Address → Bool
is_symbol (Constant n) = false
is_symbol (Symbol s a) = true

abbrev pub value_fits : ℕ → Address → Bool
value_fits w (Constant n) = fits w n
value_fits w (Symbol s a) = true

-- why an address in w bytes is refused; a plain writer takes no symbols
abbrev pub address_fails : Bool → ℕ → Option Address → Error → Bool
address_fails plain w None e = false
address_fails plain w (Some a) InvalidAddress = plain && is_symbol a
address_fails plain w (Some a) ValueTooLarge = not (value_fits w a)
address_fails plain w (Some a) e = false

-- why rows are refused: some change of line fits no 64 bits
abbrev pub rows_fail : RawRow → List RawRow → Error → Bool
rows_fail first rows ValueTooLarge = not (lines_fit first rows)
rows_fail first rows e = false

abbrev pub sequence_fails : Bool → ℕ → RawRow → BuiltSequence → Error → Bool
sequence_fails plain w first s e = address_fails plain w s.address e || rows_fail first s.rows e

abbrev pub natural : ℤ → Option ℕ
natural (pos n) = Some n
natural (negsuc n) = None

-- an address in a layout, where it is told; none is below 0
abbrev pub address_value : Layout → Address → Option ℕ
address_value l (Constant n) = Some n
address_value l (Symbol s addend) = slice_get l.symbols s >>= λ v. natural (addend +ℤ pos v)

abbrev pub optional_value : Layout → Option Address → Option (Option ℕ)
optional_value l None = Some None
optional_value l (Some a) = address_value l a >>= λ n. Some (Some n)

-- a sequence in a layout
abbrev pub placed : Layout → BuiltSequence → Option Sequence
placed l s = optional_value l s.address >>= λ a. Some (record { address = a; rows = s.rows; end = s.end })

-- the rows of sequences in a layout
unfoldable pub built_rows : Layout → List BuiltSequence → Option (List Shown)
built_rows l [] = Some []
built_rows l (s ∷ ss) = placed l s >>= λ p. built_rows l ss >>= λ more. Some (shown_sequence p ++ more)

-- rows that follow each other; only the last sequence may be open
abbrev pub AreBuilt : LineHeader → List BuiltSequence → Type 0
AreBuilt h [] = Unit {0}
AreBuilt h (s ∷ ss) = AreRowsAfter h (first_row h) s.rows s.end × ((ss ≡ []) ⊎ IsSome s.end) × AreBuilt h ss
