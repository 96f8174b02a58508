-- Line programs have the texts and the sizes of those in which symbols have values.
use Rattle.std.specs.Prelude.{◌≡◌, ℕ, ◌+◌, Bool, true, false, List, [], ◌∷◌, map, length, Option, Some, None, refl}
use Rattle.std.specs.Option.{option_map}
use Rattle.std.proofs.Common.{ap, ap₂}
use Rattle.dw_base.specs.Numbers.{num, word_of, escape_of}
use Rattle.dw_base.specs.declared.address.Address.{Address}
use Rattle.dw_writer.specs.Layout.{Layout}
use Rattle.dw_writer.specs.Texts.{Text, followed}
use Rattle.dw_line.specs.Headers.{header_size, header_text}
use Rattle.dw_line.specs.LinePrograms.{LineProgramValue, optional_text, line_program_size, line_program_text}
use Rattle.dw_line.specs.Parts.{sizes, texts}
use Rattle.dw_line.specs.ProgramTexts.{ProgramValue, open_sequence, open_size, open_text, program_length}
use Rattle.dw_line.specs.Programs.{SequenceValue, ended, ended_size, ended_text}
use Rattle.dw_line.specs.RawRows.{RawRow, row_before}
use Rattle.dw_line.specs.RowTexts.{sequence_rows_text}
use Rattle.dw_line.specs.SequenceTexts.{BuiltSequence, set_address_size, set_address_model, set_address_prefix, sequence_size, sequence_model}
use Rattle.dw_dwarf_laws.specs.Addresses.{numbered_address}
use Rattle.dw_dwarf_laws.specs.Lines.{numbered_sequence, numbered_program, numbered_line_program}
use Rattle.dw_dwarf_laws.proofs.Addresses.{address_same}

module _ (l : Layout) where
  begin_sizes : (w : ℕ) (a : Option Address) → set_address_size w a ≡ set_address_size w (option_map (numbered_address l.symbols) a)
  begin_sizes w None = refl
  begin_sizes w (Some a) = refl

  begin_same : (w : ℕ) (a : Option Address) (big : Bool) → set_address_model w a big l ≡ set_address_model w (option_map (numbered_address l.symbols) a) big l
  begin_same w None big = refl
  begin_same w (Some a) big = ap (followed (Some (set_address_prefix w))) (address_same w a big l)

  abbrev with_number : BuiltSequence → BuiltSequence
  with_number s = record s { address = option_map (numbered_address l.symbols) s.address }

  built_sizes : (w m : ℕ) (first : RawRow) (s : BuiltSequence) → sequence_size w m first s ≡ sequence_size w m first (with_number s)
  built_sizes w m first s = ap (λ n. n + length (sequence_rows_text m first s.rows s.end)) (begin_sizes w s.address)

  built_same : (w m : ℕ) (first : RawRow) (s : BuiltSequence) (big : Bool) → sequence_model w m first s big l ≡ sequence_model w m first (with_number s) big l
  built_same w m first s big = ap (λ t. followed t (Some (sequence_rows_text m first s.rows s.end))) (begin_same w s.address big)

  module _ (p : ProgramValue) where
    abbrev changed : ProgramValue
    changed = numbered_program l.symbols p

    abbrev first : RawRow
    first = row_before p.line_encoding.default_is_stmt

    abbrev ended_here : SequenceValue → BuiltSequence
    ended_here s = ended p.encoding.version s

    sequence_sizes : (ss : List SequenceValue) → sizes (ended_size p.encoding p.line_encoding) ss ≡ sizes (ended_size p.encoding p.line_encoding) (map (numbered_sequence l.symbols) ss)
    sequence_sizes [] = refl
    sequence_sizes (s ∷ ss) = ap₂ (λ m n. m + n) (built_sizes p.encoding.address_size p.line_encoding.minimum_instruction_length first (ended_here s)) (sequence_sizes ss)

    sequences_same : (ss : List SequenceValue) (big : Bool) → texts (ended_text p.encoding p.line_encoding) ss big l ≡ texts (ended_text p.encoding p.line_encoding) (map (numbered_sequence l.symbols) ss) big l
    sequences_same [] big = refl
    sequences_same (s ∷ ss) big = ap₂ followed (built_same p.encoding.address_size p.line_encoding.minimum_instruction_length first (ended_here s) big) (sequences_same ss big)

    open_sizes : (b : Bool) → open_size p b ≡ open_size changed b
    open_sizes true = built_sizes p.encoding.address_size p.line_encoding.minimum_instruction_length first (open_sequence p)
    open_sizes false = refl

    open_same : (b : Bool) (big : Bool) → open_text p b big l ≡ open_text changed b big l
    open_same true big = built_same p.encoding.address_size p.line_encoding.minimum_instruction_length first (open_sequence p) big
    open_same false big = refl

    length_same : program_length p ≡ program_length changed
    length_same = ap (λ n. header_size p.encoding p.line_encoding p.directories p.files + n) (ap₂ (λ m n. m + n) (sequence_sizes p.sequences) (open_sizes p.in_sequence))

  pub program_sizes : (v : LineProgramValue) → line_program_size v ≡ line_program_size (numbered_line_program l.symbols v)
  program_sizes v = by v.program
    where
      by : (o : Option ProgramValue) → line_program_size (record v { program = o }) ≡ line_program_size (record v { program = option_map (numbered_program l.symbols) o })
      by None = refl
      by (Some p) = ap (λ n. length (escape_of p.encoding.format) + (word_of p.encoding.format + n)) (length_same p)

  module _ (strings line_strings : List (List ℕ)) where
    optional_same : (o : Option ProgramValue) (big : Bool) → optional_text strings line_strings o big l ≡ optional_text strings line_strings (option_map (numbered_program l.symbols) o) big l
    optional_same None big = refl
    optional_same (Some p) big =
        let word = word_of p.encoding.format in
        let with : ℕ → Text → Text = λ n t. followed (Some (escape_of p.encoding.format)) (followed (Some (num big word n)) (followed (header_text strings line_strings p.encoding p.line_encoding p.directories p.files big l) t)) in
        ap₂ with (length_same p) (ap₂ followed (sequences_same p p.sequences big) (open_same p p.in_sequence big))

    pub program_same : (v : LineProgramValue) (big : Bool) → line_program_text strings line_strings v big l ≡ line_program_text strings line_strings (numbered_line_program l.symbols v) big l
    program_same v big = optional_same v.program big
