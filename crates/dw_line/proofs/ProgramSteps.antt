-- What the parts of a program add, and why they are refused.
use Rattle.std.proofs.Common.{◌≡◌, ◌∙◌, sym, ap, ◌+◌, Bool, true, false, List, [], ◌∷◌, ◌++◌, map, Some, None, refl, inl, inr, arith, All, IsFalse, append-nil}
use Rattle.std.specs.List.{list_any}
use Rattle.std.proofs.lemmas.Bool.{or_left}
use Rattle.std.proofs.lemmas.List.Elements.{All-head, All-tail}
use Rattle.dw_base.specs.declared.common.Encoding.{Encoding}
use Rattle.dw_base.specs.declared.common.LineEncoding.{LineEncoding}
use Rattle.dw_base.specs.declared.error.Error.{Error}
use Rattle.dw_writer.specs.Texts.{Text, followed}
use Rattle.dw_writer.specs.Meaning.{Meaning, Appends}
use Rattle.dw_writer.proofs.Steps.{Appends-then, Appends-as}
use Rattle.dw_line.specs.LineRows.{written_header}
use Rattle.dw_line.specs.Parts.{sizes, texts, Refused}
use Rattle.dw_line.specs.ProgramTexts.{ProgramValue, open_sequence, open_sequences, program_sequences, open_size, open_text, open_fails, sequences_size, sequences_text, sequences_fail}
use Rattle.dw_line.specs.Programs.{SequenceValue, ended, built_size, built_model, ended_size, ended_text, ended_fails, IsBuiltAfter, IsEndedAfter}
use Rattle.dw_line.specs.SequenceTexts.{BuiltSequence, AreBuilt}
use Rattle.dw_line.proofs.PartSteps.{neither, refused_more}

followed-nothing : (t : Text) → followed t (Some []) ≡ t
unfolding followed
followed-nothing None = refl
followed-nothing (Some xs) = ap Some (append-nil xs)

pub with_open : {a b c : Meaning} (p : ProgramValue) → p.in_sequence ≡ true → Appends a b (sizes (ended_size p.encoding p.line_encoding) p.sequences) (texts (ended_text p.encoding p.line_encoding) p.sequences) →
    Appends b c (built_size p.encoding p.line_encoding (open_sequence p)) (built_model p.encoding p.line_encoding (open_sequence p)) → Appends a c (sequences_size p) (sequences_text p)
with_open p e q r =
    Appends-as (Appends-then q r) (ap (λ b. sizes (ended_size p.encoding p.line_encoding) p.sequences + open_size p b) (sym e))
    (λ big l. ap (λ b. followed (texts (ended_text p.encoding p.line_encoding) p.sequences big l) (open_text p b big l)) (sym e))

pub without_open : {a b : Meaning} (p : ProgramValue) → p.in_sequence ≡ false → Appends a b (sizes (ended_size p.encoding p.line_encoding) p.sequences) (texts (ended_text p.encoding p.line_encoding) p.sequences) →
    Appends a b (sequences_size p) (sequences_text p)
without_open p e q =
    let none : sizes (ended_size p.encoding p.line_encoding) p.sequences ≡ sizes (ended_size p.encoding p.line_encoding) p.sequences + 0 = omega arith in
    Appends-as q (none ∙ ap (λ b. sizes (ended_size p.encoding p.line_encoding) p.sequences + open_size p b) (sym e))
    (λ big l. sym (followed-nothing (texts (ended_text p.encoding p.line_encoding) p.sequences big l)) ∙ ap (λ b. followed (texts (ended_text p.encoding p.line_encoding) p.sequences big l) (open_text p b big l)) (sym e))

pub sequences_sound : (plain : Bool) (p : ProgramValue) (b : Bool) → p.in_sequence ≡ b → ((e : Error) → IsFalse (list_any (λ s. ended_fails plain p.encoding p.line_encoding s e) p.sequences)) → ((e : Error) → IsFalse (open_fails plain p b e)) →
    (e : Error) → IsFalse (sequences_fail plain p e)
sequences_sound plain p b at ended unended e =
    neither (list_any (λ s. ended_fails plain p.encoding p.line_encoding s e) p.sequences) (open_fails plain p p.in_sequence e) (ended e) (ap (λ k. open_fails plain p k e) at ∙ unended e)

pub sequences_refused : (a b : Meaning) (plain : Bool) (p : ProgramValue) (e : Error) → Refused a b (λ e. list_any (λ s. ended_fails plain p.encoding p.line_encoding s e) p.sequences) e → Refused a b (sequences_fail plain p) e
sequences_refused a b plain p e h =
    refused_more a b (λ e. list_any (λ s. ended_fails plain p.encoding p.line_encoding s e) p.sequences) (sequences_fail plain p)
    (λ e k. or_left (list_any (λ s. ended_fails plain p.encoding p.line_encoding s e) p.sequences) (open_fails plain p p.in_sequence e) k) e h

module _ (big : Bool) (e : Encoding) (le : LineEncoding) where
  are_built : (ss : List SequenceValue) (b : Bool) (s : BuiltSequence) → All (IsEndedAfter big e le) ss → (b ≡ true → IsBuiltAfter big le s) → AreBuilt (written_header big le) (map (ended e.version) ss ++ open_sequences b s)
  are_built [] true s all last = (last refl, inl refl, tt)
  are_built [] false s all last = tt
  are_built (x ∷ xs) b s all last =
      let here : IsEndedAfter big e le x = All-head (IsEndedAfter big e le) x xs all in
      (here.rows, inr refl, are_built xs b s (All-tail (IsEndedAfter big e le) x xs all) last)

pub program_built : (big : Bool) (p : ProgramValue) (b : Bool) → p.in_sequence ≡ b → All (IsEndedAfter big p.encoding p.line_encoding) p.sequences → (b ≡ true → IsBuiltAfter big p.line_encoding (open_sequence p)) → AreBuilt (written_header big p.line_encoding) (program_sequences p)
program_built big p b at all last = are_built big p.encoding p.line_encoding p.sequences p.in_sequence (open_sequence p) all (λ e. last (sym at ∙ e))
