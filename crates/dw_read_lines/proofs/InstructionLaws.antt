-- An instruction that is read with reasons is the one that the machine reads.
use Rattle.std.proofs.Common.{◌≡◌, ◌∙◌, sym, ap, ℕ, zero, suc, ◌-◌, ◌≤◌, List, [], ◌∷◌, length, drop, Option, Some, None, Result, Ok, Bool, true, false, refl, arith, nat_eq, nat_le, if◌then◌else◌}
use Rattle.std.specs.Prelude.{slice_index}
use Rattle.std.specs.Result.{result_ok}
use Rattle.std.proofs.lemmas.Bool.{le-leb}
use Rattle.std.proofs.lemmas.List.{take_all}
use Rattle.dw_base.specs.Numbers.{◌>>=◌, bytes_at, number_at, value_of}
use Rattle.dw_base.specs.Leb128.{uleb_at, sleb_at}
use Rattle.dw_base.specs.declared.constants.TheConstants.{DW_LNS_copy, DW_LNS_advance_pc, DW_LNS_advance_line, DW_LNS_set_file, DW_LNS_set_column, DW_LNS_negate_stmt, DW_LNS_set_basic_block, DW_LNS_const_add_pc, DW_LNS_fixed_advance_pc, DW_LNS_set_prologue_end, DW_LNS_set_epilogue_begin, DW_LNS_set_isa, DW_LNE_end_sequence, DW_LNE_set_address, DW_LNE_set_discriminator}
use Rattle.dw_base.specs.LineMachine.{LineHeader, Instruction, AdvancePc, AdvanceLine, SetFile, SetColumn, FixedAdvancePc, SetIsa, Special, SetAddress}
use Rattle.dw_base.specs.Instructions.{with, passed_at, standard_at, extended_of, extended_at, instruction_at}
use Rattle.dw_read.specs.Reasons.{◌=>>◌, or_refuse, bytes_read, number_read, uleb_read, sleb_read}
use Rattle.dw_read.specs.declared.error.ReadError.{ReadError}
use Rattle.dw_read.specs.declared.error.ReadError.TheVariants.{UnexpectedEof}
use Rattle.dw_read.proofs.Laws.{IsReadOf, then_ok, number_law, bytes_law, uleb_law, sleb_law}
use Rattle.dw_read_lines.specs.LineInstructions.{with_read, passed_read, standard_read, coded_read, extended_read, instruction_read}

if_law : {A : Type 0} (t : Bool) (r s : Result A ReadError) (o p : Option A) → result_ok r ≡ o → result_ok s ≡ p → result_ok (if t then r else s) ≡ (if t then o else p)
if_law true r s o p h k = h
if_law false r s o p h k = k

abbrev number : ℕ → List ℕ → Result (ℕ × List ℕ) ReadError
number n bs = Ok (n, bs)

one_byte : (big : Bool) (b : ℕ) → value_of big (b ∷ []) ≡ b
one_byte true b = omega arith
one_byte false b = omega arith

pub byte_is : (big : Bool) (b : ℕ) (bs : List ℕ) → number_read big 1 (b ∷ bs) ≡ Ok (b, bs)
unfolding number_read number_at bytes_at
byte_is big b bs = rw (le-leb 1 (length (b ∷ bs)) (omega arith)) (ap (λ (n : ℕ). number n bs) (one_byte big b))

pub no_byte : (big : Bool) → number_at big 1 [] ≡ None
unfolding number_at bytes_at
no_byte big = refl

all_bytes : (big : Bool) (bs : List ℕ) → number_at big (length bs) bs ≡ Some (value_of big bs, drop (length bs) bs)
unfolding number_at bytes_at
all_bytes big bs =
    let l : length bs ≤ length bs = omega arith in
    rw (le-leb (length bs) (length bs) l) (ap (λ (xs : List ℕ). Some (value_of big xs, drop (length bs) bs)) (take_all (length bs) bs l))

with_law : {A : Type 0} (make : A → Instruction) (r : Result (A × List ℕ) ReadError) (o : Option (A × List ℕ)) → result_ok r ≡ o → result_ok (with_read make r) ≡ with make o
with_law make r o h = then_ok r o _ _ h (λ x. refl)

passed_law : (n : ℕ) → IsReadOf Instruction (passed_at n) (passed_read n)
unfolding passed_at passed_read
passed_law zero bytes = refl
passed_law (suc n) bytes = then_ok (uleb_read bytes) (uleb_at bytes) _ _ (uleb_law bytes) (λ x. passed_law n x.1)

standard_law : (h : LineHeader) (opcode : ℕ) → IsReadOf Instruction (standard_at h opcode) (standard_read h.is_big (slice_index h.operand_counts (opcode - 1)) opcode)
unfolding standard_at standard_read
standard_law h opcode bytes =
    if_law (nat_eq opcode DW_LNS_copy.0) _ _ _ _ refl
    (if_law (nat_eq opcode DW_LNS_advance_pc.0) _ _ _ _ (with_law AdvancePc (uleb_read bytes) (uleb_at bytes) (uleb_law bytes))
    (if_law (nat_eq opcode DW_LNS_advance_line.0) _ _ _ _ (with_law AdvanceLine (sleb_read bytes) (sleb_at bytes) (sleb_law bytes))
    (if_law (nat_eq opcode DW_LNS_set_file.0) _ _ _ _ (with_law SetFile (uleb_read bytes) (uleb_at bytes) (uleb_law bytes))
    (if_law (nat_eq opcode DW_LNS_set_column.0) _ _ _ _ (with_law SetColumn (uleb_read bytes) (uleb_at bytes) (uleb_law bytes))
    (if_law (nat_eq opcode DW_LNS_negate_stmt.0) _ _ _ _ refl
    (if_law (nat_eq opcode DW_LNS_set_basic_block.0) _ _ _ _ refl
    (if_law (nat_eq opcode DW_LNS_const_add_pc.0) _ _ _ _ refl
    (if_law (nat_eq opcode DW_LNS_fixed_advance_pc.0) _ _ _ _ (with_law FixedAdvancePc (number_read h.is_big 2 bytes) (number_at h.is_big 2 bytes) (number_law h.is_big 2 bytes))
    (if_law (nat_eq opcode DW_LNS_set_prologue_end.0) _ _ _ _ refl
    (if_law (nat_eq opcode DW_LNS_set_epilogue_begin.0) _ _ _ _ refl
    (if_law (nat_eq opcode DW_LNS_set_isa.0) _ _ _ _ (with_law SetIsa (uleb_read bytes) (uleb_at bytes) (uleb_law bytes))
    (passed_law (slice_index h.operand_counts (opcode - 1)) bytes))))))))))))

coded_law : (h : LineHeader) (code : ℕ) (bytes : List ℕ) → result_ok (coded_read h.is_big code bytes) ≡ extended_of h (code ∷ bytes)
unfolding coded_read extended_of
coded_law h code bytes =
    if_law (nat_eq code DW_LNE_end_sequence.0) _ _ _ _ refl
    (if_law (nat_eq code DW_LNE_set_address.0) _ _ _ _ (sym (ap (λ (o : Option (ℕ × List ℕ)). o >>= λ x. Some (SetAddress (length bytes) x.0)) (all_bytes h.is_big bytes)))
    (if_law (nat_eq code DW_LNE_set_discriminator.0) _ _ _ _ (then_ok (uleb_read bytes) (uleb_at bytes) _ _ (uleb_law bytes) (λ x. refl)) refl))

-- an extended instruction of its bytes, with the bytes after it
abbrev body_read : LineHeader → Result (ℕ × List ℕ) ReadError → List ℕ → Result (Instruction × List ℕ) ReadError
body_read h r rest = r =>> λ code. coded_read h.is_big code.0 code.1 =>> λ i. Ok (i, rest)

abbrev body_at : Option Instruction → List ℕ → Option (Instruction × List ℕ)
body_at o rest = o >>= λ i. Some (i, rest)

abbrev or_end : Option (ℕ × List ℕ) → Result (ℕ × List ℕ) ReadError
or_end o = or_refuse UnexpectedEof o

body_law : (h : LineHeader) (body rest : List ℕ) → result_ok (body_read h (number_read h.is_big 1 body) rest) ≡ body_at (extended_of h body) rest
unfolding number_read extended_of
body_law h [] rest = ap (λ (o : Option (ℕ × List ℕ)). result_ok (body_read h (or_end o) rest)) (no_byte h.is_big)
body_law h (code ∷ bytes) rest =
    ap (λ (r : Result (ℕ × List ℕ) ReadError). result_ok (body_read h r rest)) (byte_is h.is_big code bytes)
    ∙ then_ok (coded_read h.is_big code bytes) (extended_of h (code ∷ bytes)) _ _ (coded_law h code bytes) (λ i. refl)

extended_law : (h : LineHeader) → IsReadOf Instruction (extended_at h) (extended_read h.is_big)
unfolding extended_at extended_read
extended_law h bytes =
    then_ok (uleb_read bytes) (uleb_at bytes) _ _ (uleb_law bytes) (λ n.
    then_ok (bytes_read n.0 n.1) (bytes_at n.0 n.1) _ _ (bytes_law n.0 n.1) (λ body. body_law h body.0 body.1))

-- an instruction of an opcode
abbrev opcode_read : LineHeader → Result (ℕ × List ℕ) ReadError → Result (Instruction × List ℕ) ReadError
opcode_read h r =
    r =>> λ opcode. if nat_eq opcode.0 0 then extended_read h.is_big opcode.1
    else if nat_le h.opcode_base opcode.0 then Ok (Special (opcode.0 - h.opcode_base), opcode.1)
    else standard_read h.is_big (slice_index h.operand_counts (opcode.0 - 1)) opcode.0 opcode.1

pub instruction_law : (h : LineHeader) → IsReadOf Instruction (instruction_at h) (instruction_read h)
unfolding instruction_at instruction_read number_read
instruction_law h [] = ap (λ (o : Option (ℕ × List ℕ)). result_ok (opcode_read h (or_end o))) (no_byte h.is_big)
instruction_law h (b ∷ bytes) =
    ap (λ (r : Result (ℕ × List ℕ) ReadError). result_ok (opcode_read h r)) (byte_is h.is_big b bytes)
    ∙ if_law (nat_eq b 0) _ _ _ _ (extended_law h bytes) (if_law (nat_le h.opcode_base b) _ _ _ _ refl (standard_law h b bytes))
