-- Instructions, from what the calls in them answered.
use Rattle.std.proofs.Common.{◌≡◌, ◌∙◌, ap, ℕ, suc, List, length, Ok, Err, Bool, refl}
use Rattle.std.proofs.lemmas.Bool.{ne_eqb}
use Rattle.dw_base.specs.Numbers.{value_of}
use Rattle.dw_base.specs.Leb128.{uleb_at}
use Rattle.dw_base.specs.LineMachine.{Instruction, Copy, AdvancePc, AdvanceLine, SetFile, SetColumn, NegateStatement, SetBasicBlock, ConstAddPc, FixedAdvancePc, SetPrologueEnd, SetEpilogueBegin, SetIsa, EndSequence, SetAddress, SetDiscriminator, Passed}
use Rattle.dw_read.specs.Reading.{Reading, IsReading, Reads, Read, left}
use Rattle.dw_read.specs.Reasons.{number_read, uleb_read, sleb_read}
use Rattle.dw_read.specs.Took.{Took}
use Rattle.dw_read.specs.declared.error.ReadError.{ReadError}
use Rattle.dw_read.proofs.Laws.{uleb_law}
use Rattle.dw_read.proofs.Chain.{took_of, took, went, went_none}
use Rattle.dw_read_lines.specs.LineInstructions.{with_read, passed_read, standard_read, coded_read}

-- extended instructions
pub end_coded : (big : Bool) (code : ℕ) (bytes : List ℕ) → code ≡ 1 → coded_read big code bytes ≡ Ok EndSequence
unfolding coded_read
end_coded big code bytes h = rw h refl

pub address_coded : (code : ℕ) (old r : Reading) → code ≡ 2 → r ≡ old → coded_read old.is_big code (left old) ≡ Ok (SetAddress (length (left r)) (value_of r.is_big (left r)))
unfolding coded_read
address_coded code old r h q = rw (h, q) refl

pub discriminator_coded : (big : Bool) (code n : ℕ) (old new : Reading) → code ≡ 4 → Reads ℕ uleb_at old new n → coded_read big code (left old) ≡ Ok (SetDiscriminator n)
unfolding coded_read
discriminator_coded big code n old new h t = rw (h, (took_of ℕ uleb_at uleb_read old new n uleb_law t).value) refl

pub discriminator_uncoded : (big : Bool) (code : ℕ) (bytes : List ℕ) (e : ReadError) → code ≡ 4 → uleb_read bytes ≡ Err e → coded_read big code bytes ≡ Err e
unfolding coded_read
discriminator_uncoded big code bytes e h k = rw (h, k) refl

pub other_coded : (big : Bool) (code : ℕ) (bytes : List ℕ) → (code ≡ 1 → ⊥) → (code ≡ 2 → ⊥) → (code ≡ 4 → ⊥) → coded_read big code bytes ≡ Ok Passed
unfolding coded_read
other_coded big code bytes a b d = rw (ne_eqb code 1 a, ne_eqb code 2 b, ne_eqb code 4 d) refl

-- operands of an opcode that isn't known
pub passed_none : (n : ℕ) (bytes : List ℕ) → n ≡ 0 → passed_read n bytes ≡ Ok (Passed, bytes)
unfolding passed_read
passed_none n bytes h = rw h refl

pub passed_more : (n m x : ℕ) (bytes rest : List ℕ) → n ≡ suc m → uleb_read bytes ≡ Ok (x, rest) → passed_read n bytes ≡ passed_read m rest
unfolding passed_read
passed_more n m x bytes rest h k = rw (h, k) refl

pub passed_not : (n m : ℕ) (bytes : List ℕ) (e : ReadError) → n ≡ suc m → uleb_read bytes ≡ Err e → passed_read n bytes ≡ Err e
unfolding passed_read
passed_not n m bytes e h k = rw (h, k) refl

-- standard instructions, by their opcodes
module _ (big : Bool) (count opcode : ℕ) where
  -- one without operands
  pub plain_took : (i : Instruction) → ((bytes : List ℕ) → standard_read big count opcode bytes ≡ Ok (i, bytes)) → (old : Reading) → IsReading old → Took Instruction (standard_read big count opcode) old old i
  plain_took i row old is = took Instruction (standard_read big count opcode) old old i (went_none old is) (row (left old))

  module _ (A : Type 0) (read : Read A) (make : A → Instruction) (row : (bytes : List ℕ) → standard_read big count opcode bytes ≡ with_read make (read bytes)) where
    -- one of an operand
    pub one_took : (old new : Reading) (x : A) → Took A read old new x → Took Instruction (standard_read big count opcode) old new (make x)
    one_took old new x t = took Instruction (standard_read big count opcode) old new (make x) (went A read old new x t) (row (left old) ∙ ap (with_read make) t.value)

    pub one_not : (bytes : List ℕ) (e : ReadError) → read bytes ≡ Err e → standard_read big count opcode bytes ≡ Err e
    one_not bytes e h = row bytes ∙ ap (with_read make) h

  pub row_copy : opcode ≡ 1 → (bytes : List ℕ) → standard_read big count opcode bytes ≡ Ok (Copy, bytes)
  unfolding standard_read
  row_copy h bytes = rw h refl

  pub row_negate_stmt : opcode ≡ 6 → (bytes : List ℕ) → standard_read big count opcode bytes ≡ Ok (NegateStatement, bytes)
  unfolding standard_read
  row_negate_stmt h bytes = rw h refl

  pub row_set_basic_block : opcode ≡ 7 → (bytes : List ℕ) → standard_read big count opcode bytes ≡ Ok (SetBasicBlock, bytes)
  unfolding standard_read
  row_set_basic_block h bytes = rw h refl

  pub row_const_add_pc : opcode ≡ 8 → (bytes : List ℕ) → standard_read big count opcode bytes ≡ Ok (ConstAddPc, bytes)
  unfolding standard_read
  row_const_add_pc h bytes = rw h refl

  pub row_set_prologue_end : opcode ≡ 10 → (bytes : List ℕ) → standard_read big count opcode bytes ≡ Ok (SetPrologueEnd, bytes)
  unfolding standard_read
  row_set_prologue_end h bytes = rw h refl

  pub row_set_epilogue_begin : opcode ≡ 11 → (bytes : List ℕ) → standard_read big count opcode bytes ≡ Ok (SetEpilogueBegin, bytes)
  unfolding standard_read
  row_set_epilogue_begin h bytes = rw h refl

  pub row_advance_pc : opcode ≡ 2 → (bytes : List ℕ) → standard_read big count opcode bytes ≡ with_read AdvancePc (uleb_read bytes)
  unfolding standard_read
  row_advance_pc h bytes = rw h refl

  pub row_set_file : opcode ≡ 4 → (bytes : List ℕ) → standard_read big count opcode bytes ≡ with_read SetFile (uleb_read bytes)
  unfolding standard_read
  row_set_file h bytes = rw h refl

  pub row_set_column : opcode ≡ 5 → (bytes : List ℕ) → standard_read big count opcode bytes ≡ with_read SetColumn (uleb_read bytes)
  unfolding standard_read
  row_set_column h bytes = rw h refl

  pub row_set_isa : opcode ≡ 12 → (bytes : List ℕ) → standard_read big count opcode bytes ≡ with_read SetIsa (uleb_read bytes)
  unfolding standard_read
  row_set_isa h bytes = rw h refl

  pub row_advance_line : opcode ≡ 3 → (bytes : List ℕ) → standard_read big count opcode bytes ≡ with_read AdvanceLine (sleb_read bytes)
  unfolding standard_read
  row_advance_line h bytes = rw h refl

  pub row_fixed_advance_pc : opcode ≡ 9 → (bytes : List ℕ) → standard_read big count opcode bytes ≡ with_read FixedAdvancePc (number_read big 2 bytes)
  unfolding standard_read
  row_fixed_advance_pc h bytes = rw h refl

  -- one that isn't known
  pub row_other : (bytes : List ℕ) → (opcode ≡ 1 → ⊥) → (opcode ≡ 2 → ⊥) → (opcode ≡ 3 → ⊥) → (opcode ≡ 4 → ⊥) → (opcode ≡ 5 → ⊥) → (opcode ≡ 6 → ⊥) → (opcode ≡ 7 → ⊥) → (opcode ≡ 8 → ⊥) → (opcode ≡ 9 → ⊥) → (opcode ≡ 10 → ⊥) → (opcode ≡ 11 → ⊥) → (opcode ≡ 12 → ⊥)
      → standard_read big count opcode bytes ≡ passed_read count bytes
  unfolding standard_read
  row_other bytes a b c d e f g h i j k l =
      rw (ne_eqb opcode 1 a, ne_eqb opcode 2 b, ne_eqb opcode 3 c, ne_eqb opcode 4 d, ne_eqb opcode 5 e, ne_eqb opcode 6 f, ne_eqb opcode 7 g, ne_eqb opcode 8 h, ne_eqb opcode 9 i, ne_eqb opcode 10 j, ne_eqb opcode 11 k, ne_eqb opcode 12 l) refl

  pub other_took : (old new : Reading) → standard_read big count opcode (left old) ≡ passed_read count (left old) → Took Instruction (passed_read count) old new Passed → Took Instruction (standard_read big count opcode) old new Passed
  other_took old new row t = took Instruction (standard_read big count opcode) old new Passed (went Instruction (passed_read count) old new Passed t) (row ∙ t.value)
