-- A program that was read with reasons is the one that the definitions of written programs have, where it has one operation an
-- instruction.
use Rattle.std.proofs.Common.{◌≡◌, ◌∙◌, sym, ap, ℕ, ◌-◌, List, [], ◌∷◌, Option, Some, None, Result, Ok, Bool, true, false, refl, nat_eq, nat_le, if◌then◌else◌}
use Rattle.dw_base.specs.Numbers.{◌>>=◌, bytes_at, number_at, initial_length_at, is_width, word_of}
use Rattle.dw_base.specs.declared.common.Format.{Format}
use Rattle.dw_base.specs.LineReader.{is_line_version}
use Rattle.dw_base.specs.LineMachine.{LineHeader}
use Rattle.dw_base.specs.LineReader.{ReadProgram, operations_at, parameters_at, address_size_at, line_program_at}
use Rattle.dw_base.specs.LineTables.{byte_at}
use Rattle.dw_read.specs.Reasons.{◌=>>◌, if_so, bytes_read, number_read, initial_length_read}
use Rattle.dw_read.specs.declared.error.ReadError.{ReadError}
use Rattle.dw_read.specs.declared.error.ReadError.TheVariants.{UnsupportedAddressSize, UnsupportedSegmentSize}
use Rattle.dw_read.proofs.Items.{then_parts, if_so_parts}
use Rattle.dw_read.proofs.Laws.{grammar_is, number_law, bytes_law, initial_length_law}
use Rattle.dw_read_lines.specs.LineHeaders.{ReadLines, operations_read, parameters_read, address_size_read, body_read, lines_read}
use Rattle.dw_read_lines.proofs.InstructionLaws.{byte_is, no_byte}

abbrev gives : {A : Type 0} → A → Result A ReadError
gives x = Ok x

same : {A : Type 0} (x y : A) → gives x ≡ gives y → x ≡ y
same x y h = cc

if_so_true : {A : Type 0} (b : Bool) (e : ReadError) (r : Result A ReadError) (x : A) → if_so b e r ≡ Ok x → b ≡ true
if_so_true true e r x h = refl
if_so_true false e r x h = absurd (cc)

-- a byte in either order
byte_law : (big : Bool) (bs : List ℕ) (x : ℕ × List ℕ) → number_read big 1 bs ≡ Ok x → byte_at bs ≡ Some x
unfolding number_read
byte_law big [] x h = absurd (let n : number_at big 1 [] ≡ None = no_byte big in cc)
byte_law big (b ∷ bs) x h = ap (λ (y : ℕ × List ℕ). Some y) (same (b, bs) x (sym (byte_is big b bs) ∙ h))

operations_law : (big : Bool) (v : ℕ) (bs : List ℕ) (x : ℕ × List ℕ) → operations_read big v bs ≡ Ok x → operations_at v bs ≡ Some x
unfolding operations_read
operations_law big v bs x h = by_version (nat_le 4 v) big bs x h where
  by_version : (t : Bool) (big : Bool) (bs : List ℕ) (x : ℕ × List ℕ) → (if t then number_read big 1 bs else Ok (1, bs)) ≡ Ok x → (if t then byte_at bs else Some (1, bs)) ≡ Some x
  by_version true big bs x h = byte_law big bs x h
  by_version false big bs x h = ap (λ (y : ℕ × List ℕ). Some y) (same (1, bs) x h)

parameters_law : (big : Bool) (v : ℕ) (bs rest : List ℕ) (operations : ℕ) (m : LineHeader) → operations ≡ 1 → parameters_read big v bs ≡ Ok ((operations, m), rest) → parameters_at big v bs ≡ Some (m, rest)
unfolding parameters_read
parameters_law big v bs rest operations m one h =
    let a = then_parts (number_read big 1 bs) _ ((operations, m), rest) h in
    let b = then_parts (operations_read big v a.0.1) _ ((operations, m), rest) a.2 in
    let c = then_parts (number_read big 1 b.0.1) _ ((operations, m), rest) b.2 in
    let d = then_parts (number_read big 1 c.0.1) _ ((operations, m), rest) c.2 in
    let e = then_parts (number_read big 1 d.0.1) _ ((operations, m), rest) d.2 in
    let f = then_parts (number_read big 1 e.0.1) _ ((operations, m), rest) e.2 in
    let k = then_parts (bytes_read (f.0.0 - 1) f.0.1) _ ((operations, m), rest) f.2 in
    let q = same _ ((operations, m), rest) k.2 in
    let o : b.0.0 ≡ 1 = ap (λ (y : (ℕ × LineHeader) × List ℕ). y.0.0) q ∙ one in
    rw (
      byte_law big bs a.0 a.1,
      operations_law big v a.0.1 b.0 b.1,
      o,
      byte_law big b.0.1 c.0 c.1,
      byte_law big c.0.1 d.0 d.1,
      byte_law big d.0.1 e.0 e.1,
      byte_law big e.0.1 f.0 f.1,
      grammar_is (List ℕ) (bytes_at (f.0.0 - 1)) (bytes_read (f.0.0 - 1)) f.0.1 k.0 (bytes_law (f.0.0 - 1)) k.1,
    ) (ap (λ (y : (ℕ × LineHeader) × List ℕ). Some (y.0.1, y.1)) q)

-- the width of addresses as a program tells it: up to version 4 it tells none
abbrev pub told_size : ℕ → ℕ → ℕ
told_size v size = if nat_le 5 v then size else 0

-- the same from version 5 on
abbrev new_size_read : Bool → List ℕ → Result (ℕ × List ℕ) ReadError
new_size_read big bs =
    number_read big 1 bs =>> λ address. number_read big 1 address.1 =>> λ segment.
    if_so (is_width address.0) (UnsupportedAddressSize address.0) (if_so (nat_eq segment.0 0) (UnsupportedSegmentSize segment.0) (Ok (address.0, segment.1)))

abbrev new_size_at : List ℕ → Option (ℕ × List ℕ)
new_size_at bs = byte_at bs >>= λ address. byte_at address.1 >>= λ segment. Some (address.0, segment.1)

abbrev there : ℕ × List ℕ → Option (ℕ × List ℕ)
there x = Some x

address_law : (big : Bool) (v size : ℕ) (bs : List ℕ) (x : ℕ × List ℕ) → address_size_read big v size bs ≡ Ok x → address_size_at v bs ≡ Some (told_size v x.0, x.1)
unfolding address_size_read
address_law big v size bs x h = by_version (nat_le 5 v) h where
  by_version : (t : Bool) → (if t then new_size_read big bs else gives (size, bs)) ≡ Ok x → (if t then new_size_at bs else there (0, bs)) ≡ there (if t then x.0 else 0, x.1)
  by_version true h =
      let a = then_parts (number_read big 1 bs) _ x h in
      let b = then_parts (number_read big 1 a.0.1) _ x a.2 in
      let q = same (a.0.0, b.0.1) x (if_so_parts _ _ _ x (if_so_parts _ _ _ x b.2)) in
      rw (byte_law big bs a.0 a.1, byte_law big a.0.1 b.0 b.1) (ap there q)
  by_version false h = let q = same (size, bs) x h in ap (λ (y : ℕ × List ℕ). there (0, y.1)) q

-- a program in its parts, as those that are written are read
abbrev pub written_part : ReadLines → ReadProgram
written_part p = record {
  encoding = record { address_size = told_size p.encoding.version p.encoding.address_size; format = p.encoding.format; version = p.encoding.version };
  header = p.machine;
  tables = p.tables;
  instructions = p.instructions;
}

pub program_law : (big : Bool) (size : ℕ) (bytes : List ℕ) (p : ReadLines) → p.operations ≡ 1 → lines_read big size bytes ≡ Ok p → line_program_at big bytes ≡ Some (written_part p)
unfolding lines_read body_read line_program_at
program_law big size bytes p one h =
    let a = then_parts (initial_length_read big bytes) _ p h in
    let b = then_parts (bytes_read a.0.0.1 a.0.1) _ p a.2 in
    let c = then_parts (number_read big 2 b.0.0) _ p b.2 in
    let v : is_line_version c.0.0 ≡ true = if_so_true (is_line_version c.0.0) _ _ p c.2 in
    let w = if_so_parts (is_line_version c.0.0) _ _ p c.2 in
    let d = then_parts (address_size_read big c.0.0 size c.0.1) _ p w in
    let e = then_parts (number_read big (word_of a.0.0.0) d.0.1) _ p d.2 in
    let f = then_parts (bytes_read e.0.0 e.0.1) _ p e.2 in
    let k = then_parts (parameters_read big c.0.0 f.0.0) _ p f.2 in
    let q = same _ p k.2 in
    rw (
      grammar_is (Format × ℕ) (initial_length_at big) (initial_length_read big) bytes a.0 (initial_length_law big) a.1,
      grammar_is (List ℕ) (bytes_at a.0.0.1) (bytes_read a.0.0.1) a.0.1 b.0 (bytes_law a.0.0.1) b.1,
      grammar_is ℕ (number_at big 2) (number_read big 2) b.0.0 c.0 (number_law big 2) c.1,
      v,
      address_law big c.0.0 size c.0.1 d.0 d.1,
      grammar_is ℕ (number_at big (word_of a.0.0.0)) (number_read big (word_of a.0.0.0)) d.0.1 e.0 (number_law big (word_of a.0.0.0)) e.1,
      grammar_is (List ℕ) (bytes_at e.0.0) (bytes_read e.0.0) e.0.1 f.0 (bytes_law e.0.0) f.1,
      parameters_law big c.0.0 f.0.0 k.0.1 k.0.0.0 k.0.0.1 (ap (λ (y : ReadLines). y.operations) q ∙ one) k.1,
    ) (ap (λ (y : ReadLines). Some (written_part y)) q)
