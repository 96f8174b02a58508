-- Advances and padding that are written are read again.
use Rattle.std.specs.Prelude.{◌≡◌, ℕ, ◌+◌, ◌-◌, ◌*◌, ◌/◌, ◌%◌, ◌^◌, ◌<◌, ◌≤◌, ◌==◌, ◌&&◌, not, IsTrue, nat_lt, Bool, true, false, List, [], ◌∷◌, ◌++◌, Option, Some, None, Ok, refl, if◌then◌else◌}
use Rattle.std.proofs.Common.{sym, ◌∙◌, ap, subst, arith}
use Rattle.std.proofs.Math.Nat.{mod-add-div, div-le_self}
use Rattle.std.proofs.lemmas.Bool.{and_parts, lt-ltb, le-ltb, ltb-true, ltb-false, eqb-true, eq-eqb}
use Rattle.dw_base.specs.Numbers.{when, num, number_at}
use Rattle.dw_base.specs.declared.constants.DwEhPe.{DwEhPe}
use Rattle.dw_base.specs.declared.constants.TheConstants.{DW_CFA_nop, DW_CFA_advance_loc, DW_CFA_advance_loc1, DW_CFA_advance_loc2, DW_CFA_advance_loc4}
use Rattle.dw_base.proofs.NumberLaws.{number-again}
use Rattle.dw_writer.specs.Meaning.{Layout}
use Rattle.dw_read.specs.Reasons.{◌=>>◌, number_read}
use Rattle.dw_read.proofs.Laws.{read_is, number_law}
use Rattle.dw_frame_instructions.specs.Advances.{delta, delta_piece, delta_part}
use Rattle.dw_frame_instructions.specs.Pieces.{nothing, bytes, field, both}
use Rattle.dw_frame.proofs.TextParts.{split}
use Rattle.dw_read_frames.specs.Instructions.{none, one, place_row, coded_row, behind_read, instruction_at}
use Rattle.dw_read_frames.specs.Instructions as read
use Rattle.dw_read_back.specs.Instructions.{ReadsAs, Advances, AdvanceReadsBack}
use Rattle.dw_read_back.proofs.InstructionReading.{Behind, coded_behind, code_back}

pub number_back : (big : Bool) (w n : ℕ) (rest : List ℕ) → n < 256 ^ w → number_read big w (num big w n ++ rest) ≡ Ok (n, rest)
number_back big w n rest h = read_is ℕ (number_at big w) (number_read big w) (num big w n ++ rest) (n, rest) (number_law big w) (number-again big w n rest h)

advance_row : (n : ℕ) → n < 0x40 → coded_row (DW_CFA_advance_loc.0 + n) ≡ Some (none (read.AdvanceLoc n))
unfolding coded_row
advance_row n h =
    rw (le-ltb (0x40 + n) 0x40 (omega arith), lt-ltb (0x40 + n) 0x80 (omega (arith, h)))
    (ap (λ k. Some (none (read.AdvanceLoc k))) (omega arith))

module _ (big : Bool) (l : Layout) (size end : ℕ) (pointers : DwEhPe) where
  abbrev Advance : ℕ → List ℕ → Type 0
  Advance n xs = ReadsAs (λ x. x ≡ read.AdvanceLoc n) (instruction_at big size pointers end) xs

  field_back : (code w n : ℕ) (xs : List ℕ) → Behind big size end pointers code (one (number_read big w) read.AdvanceLoc) → n < 256 ^ w → (both (bytes (code ∷ [])) (field w n)).text big l ≡ Some xs → Advance n xs
  unfolding both
  field_back code w n xs row h e =
      let s = split (Some (code ∷ [])) (Some (num big w n)) xs e in
      let first : code ∷ [] ≡ s.xs = let f = s.first in cc in
      let second : num big w n ≡ s.ys = let f = s.second in cc in
      let whole : xs ≡ code ∷ num big w n = s.whole ∙ ap (λ ys. ys ++ s.ys) (sym first) ∙ ap (λ ys. code ∷ ys) (sym second) in
      record {
        instruction = read.AdvanceLoc n;
        meant = refl;
        read = λ rest.
            ap (λ ys. instruction_at big size pointers end (ys ++ rest)) whole
            ∙ code_back big size end pointers code (one (number_read big w) read.AdvanceLoc) (num big w n ++ rest) rest (read.AdvanceLoc n) row
            (ap (λ r. r =>> λ a. Ok (read.AdvanceLoc a.0, a.1)) (number_back big w n rest h));
      }

  small_back : (n : ℕ) (xs : List ℕ) → n < 0x40 → (bytes ((DW_CFA_advance_loc.0 + n) ∷ [])).text big l ≡ Some xs → Advance n xs
  small_back n xs h e =
      let code = DW_CFA_advance_loc.0 + n in
      let whole : code ∷ [] ≡ xs = cc in
      record {
        instruction = read.AdvanceLoc n;
        meant = refl;
        read = λ rest.
            ap (λ ys. instruction_at big size pointers end (ys ++ rest)) (sym whole)
            ∙ code_back big size end pointers code (none (read.AdvanceLoc n)) rest rest (read.AdvanceLoc n)
            (coded_behind big size end pointers code (none (read.AdvanceLoc n)) (omega arith) (advance_row n h)) refl;
      }

  delta_by : (n : ℕ) (a b c : Bool) (xs : List ℕ) → nat_lt n 0x40 ≡ a → nat_lt n 0x100 ≡ b → nat_lt n 0x10000 ≡ c → n < 2 ^ 32 →
      (if a then bytes ((DW_CFA_advance_loc.0 + n) ∷ []) else (if b then both (bytes (DW_CFA_advance_loc1.0 ∷ [])) (field 1 n)
      else (if c then both (bytes (DW_CFA_advance_loc2.0 ∷ [])) (field 2 n) else both (bytes (DW_CFA_advance_loc4.0 ∷ [])) (field 4 n)))).text big l ≡ Some xs → Advance n xs
  unfolding behind_read place_row
  delta_by n true b c xs ha hb hc h e = small_back n xs (ltb-true n 0x40 ha) e
  delta_by n false true c xs ha hb hc h e = field_back DW_CFA_advance_loc1.0 1 n xs (λ place. refl) (ltb-true n 0x100 hb) e
  delta_by n false false true xs ha hb hc h e = field_back DW_CFA_advance_loc2.0 2 n xs (λ place. refl) (ltb-true n 0x10000 hc) e
  delta_by n false false false xs ha hb hc h e = field_back DW_CFA_advance_loc4.0 4 n xs (λ place. refl) h e

  delta_back : (n : ℕ) (xs : List ℕ) → n < 2 ^ 32 → (delta_piece n).text big l ≡ Some xs → Advance n xs
  delta_back n xs h e = delta_by n (nat_lt n 0x40) (nat_lt n 0x100) (nat_lt n 0x10000) xs refl refl refl h e

  -- padding
  pub nop_back : (rest : List ℕ) → instruction_at big size pointers end (0 ∷ rest) ≡ Some (read.Nop, rest)
  unfolding behind_read place_row
  nop_back rest = code_back big size end pointers DW_CFA_nop.0 (none read.Nop) rest rest read.Nop (λ place. refl) refl

-- the way that a delta leads
record Led (factor from to n : ℕ) : Type 0 where
  pub there : from + n * factor ≡ to
  pub short : n ≤ to

not_true : (b : Bool) → IsTrue (not b) → b ≡ false
not_true true h = cc
not_true false h = refl

some_when : (b : Bool) (n m : ℕ) → when b (Some n) ≡ Some m → IsTrue b × (n ≡ m)
some_when true n m h = (refl, cc)
some_when false n m h = cc

led_by : (factor from to n : ℕ) → delta factor from to ≡ Some n → Led factor from to n
led_by factor from to n h =
    let p = some_when (not (nat_lt to from) && (not (factor == 0) && (to - from) % factor == 0)) ((to - from) / factor) n h in
    let q = and_parts (not (nat_lt to from)) (not (factor == 0) && (to - from) % factor == 0) p.0 in
    let r = and_parts (not (factor == 0)) ((to - from) % factor == 0) q.1 in
    let above : from ≤ to = ltb-false to from (not_true (nat_lt to from) q.0) in
    let exact : (to - from) % factor ≡ 0 = eqb-true ((to - from) % factor) 0 r.1 in
    let whole : (to - from) % factor + factor * ((to - from) / factor) ≡ to - from = mod-add-div (to - from) factor in
    subst (Led factor from to) p.1 (record { there = omega (arith, above, exact, whole); short = omega (arith, div-le_self (to - from) factor) })

pub advance_back : (factor from to : ℕ) → to < 2 ^ 32 → AdvanceReadsBack factor from to
advance_back factor from to h big l size end pointers xs e = by_test (to == from) refl e
  where
    by_delta : (o : Option ℕ) → delta factor from to ≡ o → (delta_part o).text big l ≡ Some xs → ReadsAs (Advances factor from to) (instruction_at big size pointers end) xs
    by_delta None is e = cc
    by_delta (Some n) is e =
        let led = led_by factor from to n is in
        let back = delta_back big l size end pointers n xs (omega (arith, led.short, h)) e in
        record { instruction = back.instruction; meant = subst (Advances factor from to) (sym back.meant) led.there; read = back.read }

    by_test : (b : Bool) → (to == from) ≡ b → (if b then nothing else delta_part (delta factor from to)).text big l ≡ Some xs → (to ≡ from → xs ≡ []) × ((to ≡ from → ⊥) → ReadsAs (Advances factor from to) (instruction_at big size pointers end) xs)
    by_test true is e = (λ same. let f : [] ≡ xs = cc in sym f, λ differs. absurd (differs (eqb-true to from is)))
    by_test false is e = (λ same. absurd (let k : true ≡ false = sym (eq-eqb to from same) ∙ is in cc), λ differs. by_delta (delta factor from to) refl e)
