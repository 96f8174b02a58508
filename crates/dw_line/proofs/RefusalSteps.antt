-- Refusals of calls that come after others, and what is sound once none refused.
use Rattle.std.specs.Prelude.{ℕ, Bool, true, false, List, ◌||◌, not, is_some, IsTrue, IsFalse}
use Rattle.std.proofs.Common.{subst, ap, refl}
use Rattle.std.proofs.lemmas.Bool.{or_left, or_right}
use Rattle.dw_base.specs.declared.common.Encoding.{Encoding}
use Rattle.dw_base.specs.declared.error.Error.{Error}
use Rattle.dw_base.specs.declared.error.Error.TheVariants.{NoMemory, WriteFault, ValueTooLarge}
use Rattle.dw_writer.specs.Meaning.{Meaning, IsSameWriter}
use Rattle.dw_writer.specs.Causes.{BytesRefused}
use Rattle.dw_line.specs.Files.{source_of, source_fails, file_fails}
use Rattle.dw_line.specs.Headers.{header_fails, length_fails}
use Rattle.dw_line.specs.Names.{name_fails}
use Rattle.dw_line.specs.Parts.{Refused}
use Rattle.dw_line.specs.Accepted.{encoding_fails, forms_fail}
use Rattle.dw_line.specs.ProgramTexts.{ProgramValue, program_length, sequences_fail, contents_fail, program_fails}
use Rattle.dw_line.specs.RawRows.{RawRow}
use Rattle.dw_line.specs.RowTexts.{LineRefused, RowsRefused, lines_fit}
use Rattle.dw_line.specs.SequenceTexts.{BuiltSequence, address_fails, rows_fail, sequence_fails}
use Rattle.dw_line.specs.declared.file.Columns.{Columns}
use Rattle.dw_line.specs.declared.file.FileEntry.{FileEntry}
use Rattle.dw_line.proofs.Steps.{risen_before}
use Rattle.dw_line.proofs.PartSteps.{neither, refused_after, refused_more}

pub BytesRefused-after : {a b : Meaning} (c : Meaning) → IsSameWriter a b → (e : Error) → BytesRefused b c e → BytesRefused a c e
BytesRefused-after c same NoMemory h = h
BytesRefused-after c same WriteFault h = risen_before c same h
BytesRefused-after c same _ h = absurd h

-- bytes in front of a change of line
pub LineRefused-first : (a b : Meaning) (from to : ℕ) (e : Error) → BytesRefused a b e → LineRefused a b from to e
LineRefused-first a b from to NoMemory h = h
LineRefused-first a b from to WriteFault h = h
LineRefused-first a b from to _ h = absurd h

pub LineRefused-bytes : {a b : Meaning} (c : Meaning) (from to : ℕ) → IsSameWriter a b → (e : Error) → BytesRefused b c e → LineRefused a c from to e
LineRefused-bytes c from to same NoMemory h = h
LineRefused-bytes c from to same WriteFault h = risen_before c same h
LineRefused-bytes c from to same _ h = absurd h

pub LineRefused-after : {a b : Meaning} (c : Meaning) (from to : ℕ) → IsSameWriter a b → (e : Error) → LineRefused b c from to e → LineRefused a c from to e
LineRefused-after c from to same ValueTooLarge h = h
LineRefused-after c from to same NoMemory h = h
LineRefused-after c from to same WriteFault h = risen_before c same h
LineRefused-after c from to same _ h = absurd h

-- a cause that is none of a writer's
pub refused_before : (a b : Meaning) (p q : Error → Bool) → IsFalse (p WriteFault) → ((e : Error) → IsTrue (p e) → IsTrue (q e)) → (e : Error) → IsTrue (p e) → Refused a b q e
refused_before a b p q none f NoMemory h = tt
refused_before a b p q none f WriteFault h = absurd (clash (p WriteFault) none h)
  where
    clash : (t : Bool) → IsFalse t → IsTrue t → ⊥
    clash true none h = cc
    clash false none h = cc
refused_before a b p q none f e h = f e h

-- bytes alone are refused, whatever causes there are
pub bytes_alone : (a b : Meaning) (p : Error → Bool) (e : Error) → BytesRefused a b e → Refused a b p e
bytes_alone a b p NoMemory h = tt
bytes_alone a b p WriteFault h = h
bytes_alone a b p _ h = absurd h

-- files: their names and their texts
module _ (w : ℕ) (strings line_strings : List (List ℕ)) (columns : Columns) (f : FileEntry) where
  pub file_name_refused : (a b : Meaning) (e : Error) → Refused a b (name_fails w strings line_strings a.is_plain f.name) e → Refused a b (file_fails w strings line_strings a.is_plain columns f) e
  file_name_refused a b =
      refused_more a b (name_fails w strings line_strings a.is_plain f.name) (file_fails w strings line_strings a.is_plain columns f)
      (λ e h. or_left (name_fails w strings line_strings a.is_plain f.name e) (source_fails w strings line_strings a.is_plain (is_some columns.source) (source_of f) e) h)

  pub file_source_refused : {a b : Meaning} (c : Meaning) → IsSameWriter a b → (e : Error) → Refused b c (source_fails w strings line_strings b.is_plain (is_some columns.source) (source_of f)) e → Refused a c (file_fails w strings line_strings a.is_plain columns f) e
  file_source_refused {a} {b} c same =
      refused_after c (source_fails w strings line_strings b.is_plain (is_some columns.source) (source_of f)) (file_fails w strings line_strings a.is_plain columns f) same
      (λ e h. or_right (name_fails w strings line_strings a.is_plain f.name e) (source_fails w strings line_strings a.is_plain (is_some columns.source) (source_of f) e)
      (subst (λ k. IsTrue (source_fails w strings line_strings k (is_some columns.source) (source_of f) e)) same.kind h))

  pub file_sound : {a b : Meaning} → IsSameWriter a b → ((e : Error) → IsFalse (name_fails w strings line_strings a.is_plain f.name e)) → ((e : Error) → IsFalse (source_fails w strings line_strings b.is_plain (is_some columns.source) (source_of f) e)) → (e : Error) → IsFalse (file_fails w strings line_strings a.is_plain columns f e)
  file_sound {a} {b} same names sources e =
      neither (name_fails w strings line_strings a.is_plain f.name e) (source_fails w strings line_strings a.is_plain (is_some columns.source) (source_of f) e) (names e)
      (subst (λ k. IsFalse (source_fails w strings line_strings k (is_some columns.source) (source_of f) e)) same.kind (sources e))

-- sequences: their addresses and their rows
module _ (w : ℕ) (first : RawRow) (s : BuiltSequence) where
  pub sequence_address_refused : (a b : Meaning) (e : Error) → Refused a b (address_fails a.is_plain w s.address) e → Refused a b (sequence_fails a.is_plain w first s) e
  sequence_address_refused a b =
      refused_more a b (address_fails a.is_plain w s.address) (sequence_fails a.is_plain w first s)
      (λ e h. or_left (address_fails a.is_plain w s.address e) (rows_fail first s.rows e) h)

  pub sequence_rows_refused : {a b : Meaning} (c : Meaning) → IsSameWriter a b → (e : Error) → RowsRefused b c first s.rows e → Refused a c (sequence_fails a.is_plain w first s) e
  sequence_rows_refused {a} {b} c same ValueTooLarge h = or_right (address_fails a.is_plain w s.address ValueTooLarge) (rows_fail first s.rows ValueTooLarge) (ap not h)
  sequence_rows_refused c same NoMemory h = tt
  sequence_rows_refused c same WriteFault h = risen_before c same h
  sequence_rows_refused c same _ h = absurd h

  rows_sound : IsTrue (lines_fit first s.rows) → (e : Error) → IsFalse (rows_fail first s.rows e)
  rows_sound fit ValueTooLarge = ap not fit
  rows_sound fit _ = refl

  pub sequence_sound : (plain : Bool) → ((e : Error) → IsFalse (address_fails plain w s.address e)) → IsTrue (lines_fit first s.rows) → (e : Error) → IsFalse (sequence_fails plain w first s e)
  sequence_sound plain address fit e = neither (address_fails plain w s.address e) (rows_fail first s.rows e) (address e) (rows_sound fit e)

-- programs: their headers and their sequences
module _ (strings line_strings : List (List ℕ)) (p : ProgramValue) where
  pub header_refused : (a b : Meaning) (e : Error) → Refused a b (header_fails strings line_strings a.is_plain p.encoding p.line_encoding p.directories p.files) e → Refused a b (contents_fail strings line_strings a.is_plain p) e
  header_refused a b =
      refused_more a b (header_fails strings line_strings a.is_plain p.encoding p.line_encoding p.directories p.files) (contents_fail strings line_strings a.is_plain p)
      (λ e h. or_left (header_fails strings line_strings a.is_plain p.encoding p.line_encoding p.directories p.files e) (sequences_fail a.is_plain p e) h)

  pub sequences_refused_after : {a b : Meaning} (c : Meaning) → IsSameWriter a b → (e : Error) → Refused b c (sequences_fail b.is_plain p) e → Refused a c (contents_fail strings line_strings a.is_plain p) e
  sequences_refused_after {a} {b} c same =
      refused_after c (sequences_fail b.is_plain p) (contents_fail strings line_strings a.is_plain p) same
      (λ e h. or_right (header_fails strings line_strings a.is_plain p.encoding p.line_encoding p.directories p.files e) (sequences_fail a.is_plain p e) (subst (λ k. IsTrue (sequences_fail k p e)) same.kind h))

  pub contents_sound : {a b : Meaning} → IsSameWriter a b → ((e : Error) → IsFalse (header_fails strings line_strings a.is_plain p.encoding p.line_encoding p.directories p.files e)) → ((e : Error) → IsFalse (sequences_fail b.is_plain p e)) → (e : Error) → IsFalse (contents_fail strings line_strings a.is_plain p e)
  contents_sound {a} {b} same header sequences e =
      neither (header_fails strings line_strings a.is_plain p.encoding p.line_encoding p.directories p.files e) (sequences_fail a.is_plain p e) (header e) (subst (λ k. IsFalse (sequences_fail k p e)) same.kind (sequences e))

  module _ (unit : Encoding) where
    pub encoding_refused : (a b : Meaning) (plain : Bool) (e : Error) → IsTrue (encoding_fails p.encoding unit e) → Refused a b (program_fails strings line_strings plain unit p) e
    encoding_refused a b plain =
        refused_before a b (encoding_fails p.encoding unit) (program_fails strings line_strings plain unit p) refl
        (λ e h. or_left (encoding_fails p.encoding unit e || forms_fail p.encoding.version p.directories p.files e) (contents_fail strings line_strings plain p e || length_fails p.encoding.format (program_length p) e)
        (or_left (encoding_fails p.encoding unit e) (forms_fail p.encoding.version p.directories p.files e) h))

    pub forms_refused : (a b : Meaning) (plain : Bool) (e : Error) → IsTrue (forms_fail p.encoding.version p.directories p.files e) → Refused a b (program_fails strings line_strings plain unit p) e
    forms_refused a b plain =
        refused_before a b (forms_fail p.encoding.version p.directories p.files) (program_fails strings line_strings plain unit p) refl
        (λ e h. or_left (encoding_fails p.encoding unit e || forms_fail p.encoding.version p.directories p.files e) (contents_fail strings line_strings plain p e || length_fails p.encoding.format (program_length p) e)
        (or_right (encoding_fails p.encoding unit e) (forms_fail p.encoding.version p.directories p.files e) h))
