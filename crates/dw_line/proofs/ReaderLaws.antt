-- The machine reads the program that was written, and shows the sequences that were built.
use Rattle.std.proofs.Common.{◌≡◌, ◌∙◌, sym, ap, ap₂, ℕ, ◌^◌, ◌<◌, ◌≤◌, Bool, true, false, not, ◌==◌, nat_le, List, [], ◌∷◌, ◌++◌, length, map, drop, Option, Some, None, refl, arith, IsTrue, append_assoc, append-nil, length-append, if◌then◌else◌}
use Rattle.std.proofs.Math.Seq.{drop-append_seam}
use Rattle.std.proofs.lemmas.Bool.{and_parts}
use Rattle.std.proofs.lemmas.Bool.Decides.{nat_tests}
use Rattle.dw_base.specs.Numbers.{◌>>=◌, when, is_width, bytes_at, number_at, num, fits, word_of, escape_of, length_fits}
use Rattle.dw_base.proofs.NumberLaws.{bind_is, length-num, bytes_at_is, number-again, number-fits-again, initial_length-again}
use Rattle.dw_base.specs.declared.common.Encoding.{Encoding}
use Rattle.dw_base.specs.declared.common.Format.{Format}
use Rattle.dw_base.specs.declared.common.Format.TheVariants.{Dwarf32, Dwarf64}
use Rattle.dw_base.specs.declared.common.LineEncoding.{LineEncoding}
use Rattle.dw_writer.specs.SignedNumbers.{twos_complement}
use Rattle.dw_writer.specs.Texts.{Text, followed}
use Rattle.dw_writer.specs.Meaning.{Layout, Meaning, Model, IsTidy, Appends, resolved}
use Rattle.dw_writer.proofs.Laws.{followed_assoc, resolved-wide}
use Rattle.dw_base.specs.LineReader.{is_line_version}
use Rattle.dw_line.specs.Headers.{version_bytes, flag_byte, parameters_bytes, tables_text, header_length, header_text}
use Rattle.dw_base.specs.LineMachine.{LineHeader}
use Rattle.dw_base.specs.LineReader.{parameters_at, address_size_at, ReadProgram, line_program_at, line_rows_at, line_tables_at}
use Rattle.dw_line.specs.Shows.{ShowsSequences, ShowsTables}
use Rattle.dw_base.specs.LineTables.{byte_at}
use Rattle.dw_base.specs.LineReader.{signed_byte}
use Rattle.dw_line.specs.LineRows.{standard_operand_counts, written_header}
use Rattle.dw_base.specs.Instructions.{IsWrittenHeader}
use Rattle.dw_line.specs.Parts.{texts}
use Rattle.dw_line.specs.ProgramTexts.{ProgramValue, IsLineEncoding, HeaderIsWide, open_sequence, open_sequences, program_sequences, open_text, sequences_text, program_length, program_size, contents_text, program_text}
use Rattle.dw_line.specs.Programs.{ended, built_model, ended_text}
use Rattle.dw_line.specs.RowTexts.{where_needed}
use Rattle.dw_line.specs.SequenceTexts.{AreBuilt}
use Rattle.dw_line.proofs.HeaderSteps.{length-version}
use Rattle.dw_line.proofs.LineRowsSteps.{le_of}
use Rattle.dw_line.proofs.SequenceLaws.{followed_parts, text-rows}
use Rattle.dw_line.proofs.TablesAgain.{HaveTables, tables-again}

followed-nothing : (t : Text) → followed t (Some []) ≡ t
unfolding followed
followed-nothing None = refl
followed-nothing (Some xs) = ap Some (append-nil xs)

nothing-followed : (t : Text) → followed (Some []) t ≡ t
unfolding followed
nothing-followed None = refl
nothing-followed (Some xs) = refl

-- the text of sequences is that of the ended ones and then of the open one
texts-map : {X Y : Type 0} (f : Y → Model) (g : X → Y) (xs : List X) (ys : List Y) (big : Bool) (l : Layout) → texts f (map g xs ++ ys) big l ≡ followed (texts (λ x. f (g x)) xs big l) (texts f ys big l)
texts-map f g [] ys big l = sym (nothing-followed (texts f ys big l))
texts-map f g (x ∷ xs) ys big l = ap (followed (f (g x) big l)) (texts-map f g xs ys big l) ∙ sym (followed_assoc (f (g x) big l) (texts (λ x. f (g x)) xs big l) (texts f ys big l))

open-text : (p : ProgramValue) (b : Bool) (big : Bool) (l : Layout) → texts (built_model p.encoding p.line_encoding) (open_sequences b (open_sequence p)) big l ≡ open_text p b big l
open-text p true big l = followed-nothing (built_model p.encoding p.line_encoding (open_sequence p) big l)
open-text p false big l = refl

all-text : (p : ProgramValue) (big : Bool) (l : Layout) → texts (built_model p.encoding p.line_encoding) (program_sequences p) big l ≡ sequences_text p big l
all-text p big l =
    texts-map (built_model p.encoding p.line_encoding) (ended p.encoding.version) p.sequences (open_sequences p.in_sequence (open_sequence p)) big l
    ∙ ap (followed (texts (ended_text p.encoding p.line_encoding) p.sequences big l)) (open-text p p.in_sequence big l)

flag-again : (d : Bool) → not (flag_byte d == 0) ≡ d
flag-again true = refl
flag-again false = refl

-- the header as it is read, with a flag and a number of operations
read_header : Bool → LineEncoding → Bool → LineHeader
read_header big le d = record {
  is_big = big;
  minimum_length = le.minimum_instruction_length;
  default_statement = d;
  line_base = signed_byte (twos_complement 1 le.line_base);
  line_range = le.line_range;
  opcode_base = 13;
  operand_counts = standard_operand_counts;
}

-- the parameters after the minimum length
after_minimum : (big b : Bool) (le : LineEncoding) (rest : List ℕ) → le.maximum_operations_per_instruction ≡ 1 → (version : ℕ) → nat_le 4 version ≡ b →
    parameters_at big version (parameters_bytes version le ++ rest) ≡ Some (written_header big le, rest)
unfolding read_header
after_minimum big true le rest one version new =
    let known : le.maximum_operations_per_instruction == 1 ≡ true = grind (arith, nat_tests, one) in
    rw new (rw known
    (bind_is _ (standard_operand_counts, rest) _ (bytes_at_is 12 standard_operand_counts rest refl) ∙ ap (λ d. Some (read_header big le d, rest)) (flag-again le.default_is_stmt)))
after_minimum big false le rest one version old =
    rw old
    (bind_is _ (standard_operand_counts, rest) _ (bytes_at_is 12 standard_operand_counts rest refl) ∙ ap (λ d. Some (read_header big le d, rest)) (flag-again le.default_is_stmt))

fits-length : (format : Format) (n : ℕ) → IsTrue (length_fits format n) → IsTrue (fits (word_of format) n)
fits-length Dwarf32 n h = grind (arith, nat_tests)
fits-length Dwarf64 n h = h

-- the encoding as it is read
abbrev read_encoding : Encoding → Encoding
read_encoding e = record { address_size = if nat_le 5 e.version then e.address_size else 0; format = e.format; version = e.version }

address_size-again : (e : Encoding) (rest : List ℕ) → address_size_at e.version (where_needed (nat_le 5 e.version) (e.address_size ∷ 0 ∷ []) ++ rest) ≡ Some ((read_encoding e).address_size, rest)
address_size-again e rest = by (nat_le 5 e.version)
  where
    by : (b : Bool) →
        ◌≡◌ {A = Option (ℕ × List ℕ)}
        (if b then (byte_at (where_needed b (e.address_size ∷ 0 ∷ []) ++ rest) >>= λ address. byte_at address.1 >>= λ segment. Some (address.0, segment.1)) else Some (0, where_needed b (e.address_size ∷ 0 ∷ []) ++ rest))
        (Some (if b then e.address_size else 0, rest))
    by true = refl
    by false = refl

-- what stands after a program's length
abbrev contents_of : Bool → Encoding → LineEncoding → ℕ → List ℕ → List ℕ → List ℕ
contents_of big e le k tables instructions = (version_bytes big e ++ (num big (word_of e.format) k ++ (parameters_bytes e.version le ++ tables))) ++ instructions

-- a program's bytes are read as its parts
program-again : (big : Bool) (e : Encoding) (le : LineEncoding) (n k : ℕ) (tables instructions more : List ℕ) → IsLineEncoding le → IsTrue (is_line_version e.version) →
    IsTrue (length_fits e.format n) → IsTrue (length_fits e.format k) → length (parameters_bytes e.version le ++ tables) ≡ k → length (contents_of big e le k tables instructions) ≡ n →
    line_program_at big (escape_of e.format ++ (num big (word_of e.format) n ++ (contents_of big e le k tables instructions ++ more)))
    ≡ Some (record { encoding = read_encoding e; header = written_header big le; tables = tables; instructions = instructions })
unfolding line_program_at
program-again big e le n k tables instructions more is version fits_n fits_k long whole =
    let w : ℕ = word_of e.format in
    let widths : List ℕ = where_needed (nat_le 5 e.version) (e.address_size ∷ 0 ∷ []) in
    let header : List ℕ = parameters_bytes e.version le ++ tables in
    let contents : List ℕ = contents_of big e le k tables instructions in
    let after : List ℕ = widths ++ (num big w k ++ (header ++ instructions)) in
    let inner : contents ≡ num big 2 e.version ++ after = simp append_assoc in
    let parts = and_parts (nat_le 2 e.version) (nat_le e.version 5) version in
    let known : e.version ≤ 5 = le_of e.version 5 parts.1 in
    let low : e.version < 256 ^ 2 = omega arith in
    let rest : Option ReadProgram = address_size_at e.version after >>= λ a. number_at big w a.1 >>= λ size. bytes_at size.0 size.1 >>= λ h. parameters_at big e.version h.0 >>= λ p.
    Some (record { encoding = record { address_size = a.0; format = e.format; version = e.version }; header = p.0; tables = p.1; instructions = h.1 }) in
    bind_is _ ((e.format, n), contents ++ more) _ (initial_length-again big e.format n (contents ++ more) fits_n)
    ∙ bind_is _ (contents, more) _ (bytes_at_is n contents more whole)
    ∙ bind_is _ (e.version, after) _ (ap (number_at big 2) inner ∙ number-again big 2 e.version after low)
    ∙ ap (λ (b : Bool). when b rest) version
    ∙ bind_is _ ((read_encoding e).address_size, num big w k ++ (header ++ instructions)) _ (address_size-again e (num big w k ++ (header ++ instructions)))
    ∙ bind_is _ (k, header ++ instructions) _ (number-fits-again big w k (header ++ instructions) (fits-length e.format k fits_k))
    ∙ bind_is _ (header, instructions) _ (bytes_at_is k header instructions long)
    ∙ bind_is _ (written_header big le, tables) _ (after_minimum big (nat_le 4 e.version) le tables is.operations e.version refl)

-- a header's text in its parts
record IsHeader (big : Bool) (e : Encoding) (le : LineEncoding) (k : ℕ) (text : Text) (xs : List ℕ) : Type 0 where
  tables : List ℕ
  told : text ≡ Some tables
  bytes : xs ≡ version_bytes big e ++ (num big (word_of e.format) k ++ (parameters_bytes e.version le ++ tables))

header_parts : (strings line_strings : List (List ℕ)) (p : ProgramValue) (big : Bool) (l : Layout) (xs : List ℕ) → header_text strings line_strings p.encoding p.line_encoding p.directories p.files big l ≡ Some xs →
    IsHeader big p.encoding p.line_encoding (header_length p.encoding p.line_encoding p.directories p.files)
    (tables_text (word_of p.encoding.format) strings line_strings (nat_le p.encoding.version 4) p.directories p.files big l) xs
header_parts strings line_strings p big l xs h =
    let e = p.encoding in
    let w = word_of e.format in
    let k = header_length e p.line_encoding p.directories p.files in
    let tables = tables_text w strings line_strings (nat_le e.version 4) p.directories p.files big l in
    let a = followed_parts (Some (version_bytes big e)) (followed (Some (num big w k)) (followed (Some (parameters_bytes e.version p.line_encoding)) tables)) xs h in
    let b = followed_parts (Some (num big w k)) (followed (Some (parameters_bytes e.version p.line_encoding)) tables) a.1 a.3 in
    let c = followed_parts (Some (parameters_bytes e.version p.line_encoding)) tables b.1 b.3 in
    let one : version_bytes big e ≡ a.0 = cc in
    let two : num big w k ≡ b.0 = cc in
    let three : parameters_bytes e.version p.line_encoding ≡ c.0 = cc in
    record {
      tables = c.1;
      told = c.3;
      bytes = a.4 ∙ ap₂ (λ x y. x ++ y) (sym one) (b.4 ∙ ap₂ (λ x y. x ++ y) (sym two) (c.4 ∙ ap (λ x. x ++ c.1) (sym three)));
    }

-- A program that was added, in a layout in which it is told: the texts of its tables and of its sequences, and what is read of it.
record IsAdded (strings line_strings : List (List ℕ)) (p : ProgramValue) (big : Bool) (l : Layout) (section : List ℕ) (place : ℕ) : Type 0 where
  tables : List ℕ
  instructions : List ℕ
  told_tables : tables_text (word_of p.encoding.format) strings line_strings (nat_le p.encoding.version 4) p.directories p.files big l ≡ Some tables
  told_sequences : texts (built_model p.encoding p.line_encoding) (program_sequences p) big l ≡ Some instructions
  read : line_program_at big (drop place section)
      ≡ Some (record { encoding = read_encoding p.encoding; header = written_header big p.line_encoding; tables = tables; instructions = instructions })

-- what is asked of a program for that
pub record CanBeRead (strings line_strings : List (List ℕ)) (big : Bool) (p : ProgramValue) : Type 0 where
  pub parameters : IsLineEncoding p.line_encoding
  pub version : IsTrue (is_line_version p.encoding.version)
  pub narrow : p.encoding.address_size < 256
  pub program_fits : IsTrue (length_fits p.encoding.format (program_length p))
  pub header_fits : IsTrue (length_fits p.encoding.format (header_length p.encoding p.line_encoding p.directories p.files))
  pub wide : HeaderIsWide strings line_strings big p

program_added : {a b : Meaning} (strings line_strings : List (List ℕ)) (p : ProgramValue) → CanBeRead strings line_strings a.is_big p → Appends a b (program_size p) (program_text strings line_strings p) →
    IsTidy a → (l : Layout) (bytes more : List ℕ) → resolved l b ≡ Some bytes → IsAdded strings line_strings p a.is_big l (bytes ++ more) a.size
program_added {a} {b} strings line_strings p can added tidy l bytes more e =
    let big : Bool = a.is_big in
    let enc = p.encoding in
    let w : ℕ = word_of enc.format in
    let n : ℕ = program_length p in
    let k : ℕ = header_length enc p.line_encoding p.directories p.files in
    let contents = contents_text strings line_strings p big l in
    let f = followed_parts (resolved l a) (program_text strings line_strings p big l) bytes (sym (added.resolves tidy l) ∙ e) in
    let size : length f.0 ≡ a.size = resolved-wide l a tidy f.0 f.2 in
    let g = followed_parts (Some (escape_of enc.format)) (followed (Some (num big w n)) contents) f.1 f.3 in
    let h = followed_parts (Some (num big w n)) contents g.1 g.3 in
    let c = followed_parts (header_text strings line_strings enc p.line_encoding p.directories p.files big l) (sequences_text p big l) h.1 h.3 in
    let header = header_parts strings line_strings p big l c.0 c.2 in
    let one : escape_of enc.format ≡ g.0 = cc in
    let two : num big w n ≡ h.0 = cc in
    let text : h.1 ≡ contents_of big enc p.line_encoding k header.tables c.1 = c.4 ∙ ap (λ xs. xs ++ c.1) header.bytes in
    let whole : f.1 ≡ escape_of enc.format ++ (num big w n ++ h.1) = g.4 ∙ ap₂ (λ x y. x ++ y) (sym one) (h.4 ∙ ap (λ x. x ++ h.1) (sym two)) in
    let long : length (parameters_bytes enc.version p.line_encoding ++ header.tables) ≡ k =
    omega (
      arith,
      can.wide l c.0 c.2,
      ap length header.bytes,
      length-append (version_bytes big enc) (num big w k ++ (parameters_bytes enc.version p.line_encoding ++ header.tables)),
      length-version big enc,
      length-append (num big w k) (parameters_bytes enc.version p.line_encoding ++ header.tables),
      length-num big w k,
    ) in
    let all : length h.1 ≡ n =
    omega (arith, added.wide big l f.1 f.3, ap length whole, length-append (escape_of enc.format) (num big w n ++ h.1), length-append (num big w n) h.1, length-num big w n) in
    let start : drop a.size (bytes ++ more) ≡ escape_of enc.format ++ (num big w n ++ (h.1 ++ more)) =
    ap (λ xs. drop a.size (xs ++ more)) f.4 ∙ ap (drop a.size) (append_assoc f.0 f.1 more) ∙ ap (λ j. drop j (f.0 ++ (f.1 ++ more))) (sym size) ∙ drop-append_seam f.0 (f.1 ++ more)
    ∙ ap (λ xs. xs ++ more) whole ∙ append_assoc (escape_of enc.format) (num big w n ++ h.1) more ∙ ap (λ xs. escape_of enc.format ++ xs) (append_assoc (num big w n) h.1 more) in
    record {
      tables = header.tables;
      instructions = c.1;
      told_tables = header.told;
      told_sequences = all-text p big l ∙ c.3;
      read = ap (line_program_at big) (start ∙ ap (λ xs. escape_of enc.format ++ (num big w n ++ (xs ++ more))) text)
          ∙ program-again big enc p.line_encoding n k header.tables c.1 more can.parameters can.version can.program_fits can.header_fits long (sym (ap length text) ∙ all);
    }

-- the machine shows what was built, once the program is told
pub shows_sequences : {a b : Meaning} (strings line_strings : List (List ℕ)) (p : ProgramValue) → CanBeRead strings line_strings a.is_big p → AreBuilt (written_header a.is_big p.line_encoding) (program_sequences p) →
    Appends a b (program_size p) (program_text strings line_strings p) → ShowsSequences a b (program_sequences p)
unfolding line_rows_at
shows_sequences {a} {b} strings line_strings p can built added tidy l bytes more e =
    let big : Bool = a.is_big in
    let q = program_added strings line_strings p can added tidy l bytes more e in
    let written : IsWrittenHeader (written_header big p.line_encoding) = record { opcode_base = refl; minimum_length = can.parameters.positive } in
    bind_is _ _ _ q.read ∙ text-rows (written_header big p.line_encoding) p.encoding.address_size l (program_sequences p) q.instructions written can.narrow built q.told_sequences

-- and a reader finds the directories and files
pub shows_tables : {a b : Meaning} (strings line_strings : List (List ℕ)) (p : ProgramValue) → CanBeRead strings line_strings a.is_big p → HaveTables p.encoding.version p.directories p.files →
    Appends a b (program_size p) (program_text strings line_strings p) → ShowsTables a b strings line_strings p.encoding.version p.directories p.files
unfolding line_tables_at
shows_tables {a} {b} strings line_strings p can have added tidy l bytes more e =
    let q = program_added strings line_strings p can added tidy l bytes more e in
    bind_is _ _ _ q.read ∙ bind_is _ _ (λ t. Some t.0) (tables-again a.is_big (read_encoding p.encoding) strings line_strings l p.directories p.files q.tables have q.told_tables)

pub narrow_of : (w : ℕ) → IsTrue (is_width w) → w < 256
narrow_of w h = grind (arith, nat_tests)
