-- Operands of call frame instructions that are written are read again.
use Rattle.std.specs.Prelude.{◌≡◌, ℕ, ◌^◌, ◌<◌, IsTrue, Bool, List, ◌∷◌, ◌++◌, length, Some, None, Ok, ℤ, refl}
use Rattle.std.proofs.Common.{sym, ◌∙◌, ap, arith, append_assoc, length-append}
use Rattle.dw_base.specs.Numbers.{number_at, bytes_at}
use Rattle.dw_base.specs.Leb128.{uleb, sleb, uleb_at, uleb16_at, sleb_at, fits_i64}
use Rattle.dw_base.specs.declared.common.Encoding.{Encoding}
use Rattle.dw_base.proofs.NumberLaws.{bytes_at_is}
use Rattle.dw_base.proofs.Leb128Laws.{uleb-again, uleb16-again, sleb-again}
use Rattle.dw_base.proofs.HeaderLaws.{byte-again}
use Rattle.dw_writer.specs.Meaning.{Layout}
use Rattle.dw_expr.specs.Trees.{Node}
use Rattle.dw_expr.specs.Places.{place_by}
use Rattle.dw_expr.specs.Spelling.{expression_size}
use Rattle.dw_expr.proofs.ExpressionDrafts.{expression-wide}
use Rattle.dw_read.specs.Reading.{Read}
use Rattle.dw_read.specs.Reasons.{◌=>>◌, bytes_read, number_read, uleb_read, uleb16_read, sleb_read}
use Rattle.dw_read.proofs.Laws.{read_is, bytes_law, number_law, uleb_law, uleb16_law, sleb_law}
use Rattle.dw_frame_instructions.specs.Operands.{Operand, Uleb, Sleb, Block, nowhere, operand_piece}
use Rattle.dw_frame_instructions.specs.Pieces.{both}
use Rattle.dw_frame.proofs.TextParts.{split}
use Rattle.dw_read_frames.specs.Instructions.{block_read}
use Rattle.dw_read_back.specs.Instructions.{spelled_in}

pub byte_back : (big : Bool) (b : ℕ) (rest : List ℕ) → number_read big 1 (b ∷ rest) ≡ Ok (b, rest)
byte_back big b rest = read_is ℕ (number_at big 1) (number_read big 1) (b ∷ rest) (b, rest) (number_law big 1) (byte-again big b rest)

pub uleb_back : (n : ℕ) (rest : List ℕ) → n < 2 ^ 64 → uleb_read (uleb n ++ rest) ≡ Ok (n, rest)
uleb_back n rest h = read_is ℕ uleb_at uleb_read (uleb n ++ rest) (n, rest) uleb_law (uleb-again n rest h)

pub uleb16_back : (n : ℕ) (rest : List ℕ) → n < 2 ^ 16 → uleb16_read (uleb n ++ rest) ≡ Ok (n, rest)
uleb16_back n rest h = read_is ℕ uleb16_at uleb16_read (uleb n ++ rest) (n, rest) uleb16_law (uleb16-again n rest h)

pub sleb_back : (z : ℤ) (rest : List ℕ) → IsTrue (fits_i64 z) → sleb_read (sleb z ++ rest) ≡ Ok (z, rest)
sleb_back z rest h = read_is ℤ sleb_at sleb_read (sleb z ++ rest) (z, rest) sleb_law (sleb-again z rest h)

pub bytes_back : (n : ℕ) (xs rest : List ℕ) → length xs ≡ n → bytes_read n (xs ++ rest) ≡ Ok (xs, rest)
bytes_back n xs rest h = read_is (List ℕ) (bytes_at n) (bytes_read n) (xs ++ rest) (xs, rest) (bytes_law n) (bytes_at_is n xs rest h)

block_back : (n : ℕ) (xs rest : List ℕ) → length xs ≡ n → n < 2 ^ 64 → block_read (uleb n ++ (xs ++ rest)) ≡ Ok (xs, rest)
unfolding block_read
block_back n xs rest long h =
    ap (λ r. r =>> λ k. bytes_read k.0 k.1) (uleb_back n (xs ++ rest) h) ∙ bytes_back n xs rest long

-- what a reading finds in the bytes of an operand, whatever follows them
pub record OperandReads (A : Type 0) (Is : A → Type 0) (p : Read A) (xs : List ℕ) : Type 0 where
  pub value : A
  pub is : Is value
  pub read : (rest : List ℕ) → p (xs ++ rest) ≡ Ok (value, rest)

module _ (e : Encoding) (big : Bool) (l : Layout) where
  -- an operand is read so
  abbrev pub Operates : (A : Type 0) → (A → Type 0) → Read A → Operand → Type 0
  Operates A Is p o = (xs : List ℕ) → (operand_piece e o).text big l ≡ Some xs → length xs < 2 ^ 64 → OperandReads A Is p xs

  pub uleb_operand : (n : ℕ) → n < 2 ^ 64 → Operates ℕ (λ m. m ≡ n) uleb_read (Uleb n)
  uleb_operand n h xs e long =
      let f : uleb n ≡ xs = cc in
      record { value = n; is = refl; read = λ rest. ap (λ ys. uleb_read (ys ++ rest)) (sym f) ∙ uleb_back n rest h }

  pub register_operand : (n : ℕ) → n < 2 ^ 16 → Operates ℕ (λ m. m ≡ n) uleb16_read (Uleb n)
  register_operand n h xs e long =
      let f : uleb n ≡ xs = cc in
      record { value = n; is = refl; read = λ rest. ap (λ ys. uleb16_read (ys ++ rest)) (sym f) ∙ uleb16_back n rest h }

  pub sleb_operand : (z : ℤ) → IsTrue (fits_i64 z) → Operates ℤ (λ y. y ≡ z) sleb_read (Sleb z)
  sleb_operand z h xs e long =
      let f : sleb z ≡ xs = cc in
      record { value = z; is = refl; read = λ rest. ap (λ ys. sleb_read (ys ++ rest)) (sym f) ∙ sleb_back z rest h }

  pub block_operand : (ns : List Node) → Operates (List ℕ) (λ ys. spelled_in e big l ns ≡ Some ys) block_read (Block ns)
  unfolding both
  block_operand ns xs h long =
      let n = expression_size e (place_by None) ns in
      let s = split (Some (uleb n)) (spelled_in e big l ns) xs h in
      let count : uleb n ≡ s.xs = let f = s.first in cc in
      let size : length s.ys ≡ n = expression-wide e (place_by None) ns nowhere big l s.ys s.second in
      let small : n < 2 ^ 64 = omega (arith, long, ap length s.whole, length-append s.xs s.ys, size) in
      record {
        value = s.ys;
        is = s.second;
        read = λ rest.
            ap (λ ys. block_read (ys ++ rest)) s.whole ∙ ap block_read (append_assoc s.xs s.ys rest)
            ∙ ap (λ ys. block_read (ys ++ (s.ys ++ rest))) (sym count) ∙ block_back n s.ys rest size small;
      }
