-- Call frame instructions that are written are read again.
use Rattle.std.specs.Prelude.{◌≡◌, ℕ, ◌+◌, ◌^◌, ◌<◌, ◌≤◌, ◌==◌, ◌&&◌, not, IsTrue, nat_lt, Bool, true, false, List, [], ◌∷◌, ◌++◌, length, Option, Some, None, Ok, Err, ℤ, pos, negsuc, ◌*ℤ◌, int_div, refl, if◌then◌else◌}
use Rattle.std.specs.List.{list_all}
use Rattle.std.specs.Result.{result_ok}
use Rattle.std.specs.Ordering.{int_eq}
use Rattle.std.specs.Cmp.{signed_Decides}
use Rattle.std.proofs.Common.{sym, ◌∙◌, ap, subst, arith, append_assoc, length-append}
use Rattle.std.proofs.lemmas.Bool.{and_parts, lt-ltb, le-ltb, ltb-true, ne_eqb}
use Rattle.dw_base.specs.Numbers.{◌>>=◌, when}
use Rattle.dw_base.specs.Leb128.{fits_i64}
use Rattle.dw_base.specs.declared.common.Encoding.{Encoding}
use Rattle.dw_base.specs.declared.common.Register.{Register}
use Rattle.dw_base.specs.declared.constants.DwEhPe.{DwEhPe}
use Rattle.dw_base.specs.declared.constants.TheConstants.{DW_CFA_nop, DW_CFA_set_loc, DW_CFA_advance_loc1, DW_CFA_advance_loc2, DW_CFA_advance_loc4, DW_CFA_offset_extended, DW_CFA_restore_extended, DW_CFA_undefined, DW_CFA_same_value, DW_CFA_register, DW_CFA_remember_state, DW_CFA_restore_state, DW_CFA_def_cfa, DW_CFA_def_cfa_register, DW_CFA_def_cfa_offset, DW_CFA_def_cfa_expression, DW_CFA_expression, DW_CFA_offset_extended_sf, DW_CFA_def_cfa_sf, DW_CFA_def_cfa_offset_sf, DW_CFA_val_offset, DW_CFA_val_offset_sf, DW_CFA_val_expression, DW_CFA_AARCH64_negate_ra_state, DW_CFA_GNU_args_size, DW_CFA_offset, DW_CFA_restore}
use Rattle.dw_writer.specs.Meaning.{Layout}
use Rattle.dw_writer.specs.Texts.{followed}
use Rattle.dw_writer.specs.SignedNumbers.{signed_fits}
use Rattle.dw_expr.specs.Trees.{Node}
use Rattle.dw_read.specs.Reading.{Read}
use Rattle.dw_read.specs.Reasons.{◌=>>◌, number_read, uleb_read, uleb16_read, sleb_read}
use Rattle.dw_read.specs.declared.error.ReadError.TheVariants.{UnknownCallFrameInstruction}
use Rattle.dw_frame_instructions.specs.declared.instruction.CallFrameInstruction.{CallFrameInstruction}
use Rattle.dw_frame_instructions.specs.declared.instruction.CallFrameInstruction.TheVariants as built
use Rattle.dw_frame_instructions.specs.Factors.{factored}
use Rattle.dw_frame_instructions.specs.Instructions.{Spelling, spell, spelled, spelling_piece, offset_rule, value_rule, is_small}
use Rattle.dw_frame_instructions.specs.Operands.{Operand, Nothing, Uleb, Sleb, Block, operand_piece}
use Rattle.dw_frame_instructions.specs.Pieces.{both}
use Rattle.dw_frame.proofs.TextParts.{split}
use Rattle.dw_read_frames.specs.Augmentations.{standing}
use Rattle.dw_read_frames.specs.Pointers.{Row, among, pointer_read}
use Rattle.dw_read_frames.specs.Instructions.{Instruction, none, one, two, block_read, place_row, coded_row, frame_row, rule_row, first_of, behind_read, instruction_read, instruction_at}
use Rattle.dw_read_frames.specs.Instructions as read
use Rattle.dw_read_back.specs.Instructions.{Means, spelled_in, ReadsAs, HasWidths, InstructionReadsBack}
use Rattle.dw_read_back.proofs.OperandReading.{byte_back, Operates, uleb_operand, register_operand, sleb_operand, block_operand}

-- a table whose codes are below another one hasn't that
among_below : {A : Type 0} (code k : ℕ) (rows : List (Row A)) → k ≤ code → IsTrue (list_all (λ r. nat_lt r.0 k) rows) → among code rows ≡ None
among_below code k [] h all = refl
among_below code k (r ∷ rows) h all =
    let p = and_parts (nat_lt r.0 k) (list_all (λ r. nat_lt r.0 k) rows) all in
    let below : r.0 < k = ltb-true r.0 k p.0 in
    let other : (code == r.0) ≡ false = ne_eqb code r.0 (λ e. omega (arith, below, h, e)) in
    ap (λ b. if b then Some r.1 else among code rows) other ∙ among_below code k rows h p.1

-- the codes that have an operand in their low bits are above all of the table of places
no_place : (big : Bool) (size : ℕ) (pointers : DwEhPe) (place code : ℕ) → 0x40 ≤ code → place_row big size pointers place code ≡ None
unfolding place_row
no_place big size pointers place code h =
    among_below code 0x40 (
    (DW_CFA_nop.0, none read.Nop)
    ∷ (DW_CFA_set_loc.0, one (pointer_read big size pointers place) read.SetLoc)
    ∷ (DW_CFA_advance_loc1.0, one (number_read big 1) read.AdvanceLoc)
    ∷ (DW_CFA_advance_loc2.0, one (number_read big 2) read.AdvanceLoc)
    ∷ (DW_CFA_advance_loc4.0, one (number_read big 4) read.AdvanceLoc)
    ∷ (DW_CFA_remember_state.0, none read.RememberState)
    ∷ (DW_CFA_restore_state.0, none read.RestoreState)
    ∷ (DW_CFA_AARCH64_negate_ra_state.0, none read.NegateRaState)
    ∷ (DW_CFA_GNU_args_size.0, one uleb_read read.ArgsSize)
    ∷ []) h refl

saved_row : (r : ℕ) → r < 0x40 → coded_row (DW_CFA_offset.0 + r) ≡ Some (one uleb_read (read.Offset r))
unfolding coded_row
saved_row r h =
    rw (le-ltb (0x80 + r) 0x40 (omega (arith, h)), le-ltb (0x80 + r) 0x80 (omega (arith, h)), lt-ltb (0x80 + r) 0xc0 (omega (arith, h)))
    (ap (λ n. Some (one uleb_read (read.Offset n))) (omega arith))

restored_row : (r : ℕ) → coded_row (DW_CFA_restore.0 + r) ≡ Some (none (read.Restore r))
unfolding coded_row
restored_row r =
    rw (le-ltb (0xc0 + r) 0x40 (omega arith), le-ltb (0xc0 + r) 0x80 (omega arith), le-ltb (0xc0 + r) 0xc0 (omega arith))
    (ap (λ n. Some (none (read.Restore n))) (omega arith))

-- the first table hasn't a code, and the second one has
second_of : (a b : Option (Read Instruction)) (more p : Read Instruction) → a ≡ None → b ≡ Some p → first_of a (first_of b more) ≡ p
second_of a b more p none row = ap (λ o. first_of o (first_of b more)) none ∙ ap (λ o. first_of o more) row

module _ (big : Bool) (size end : ℕ) (pointers : DwEhPe) where
  -- what is read behind a code
  abbrev pub Behind : ℕ → Read Instruction → Type 0
  Behind code p = (place : ℕ) → behind_read big size pointers place code ≡ p

  pub coded_behind : (code : ℕ) (p : Read Instruction) → 0x40 ≤ code → coded_row code ≡ Some p → Behind code p
  unfolding behind_read
  coded_behind code p h row place =
      second_of (place_row big size pointers place code) (coded_row code) (first_of (frame_row code) (first_of (rule_row code) (λ bytes. Err (UnknownCallFrameInstruction code)))) p
      (no_place big size pointers place code h) row

  pub code_back : (code : ℕ) (p : Read Instruction) (tail rest : List ℕ) (x : Instruction) → Behind code p → p tail ≡ Ok (x, rest) → instruction_at big size pointers end (code ∷ tail) ≡ Some (x, rest)
  unfolding instruction_at instruction_read
  code_back code p tail rest x row h =
      ap (λ r. result_ok (r =>> λ c. behind_read big size pointers (standing end c.1) c.0 c.1)) (byte_back big code tail)
      ∙ ap (λ q. result_ok (q tail)) (row (standing end tail)) ∙ ap result_ok h

module _ (e : Encoding) (big : Bool) (l : Layout) (size end : ℕ) (pointers : DwEhPe) where
  -- instructions of no, one and two operands
  module _ (Meant : Instruction → Type 0) (code : ℕ) where
    abbrev Spelled : Operand → Operand → Type 0
    Spelled first second = (bytes : List ℕ) → (spelling_piece e (Some (spell code first second))).text big l ≡ Some bytes → length bytes < 2 ^ 64 →
        ReadsAs Meant (instruction_at big size pointers end) bytes

    none_back : (x : Instruction) → Behind big size end pointers code (none x) → Meant x → Spelled Nothing Nothing
    unfolding both followed
    none_back x row meant bytes h long =
        let f : code ∷ [] ≡ bytes = cc in
        record {
          instruction = x;
          meant = meant;
          read = λ rest. ap (λ ys. instruction_at big size pointers end (ys ++ rest)) (sym f) ∙ code_back big size end pointers code (none x) rest rest x row refl;
        }

    two_back : (A B : Type 0) (p : Read A) (q : Read B) (f : A → B → Instruction) (first second : Operand) (IsA : A → Type 0) (IsB : B → Type 0) → Behind big size end pointers code (two p q f) →
        Operates e big l A IsA p first → Operates e big l B IsB q second → ((a : A) (b : B) → IsA a → IsB b → Meant (f a b)) → Spelled first second
    unfolding both
    two_back A B p q f first second IsA IsB row ha hb meant bytes h long =
        let s = split (Some (code ∷ [])) _ bytes h in
        let t = split ((operand_piece e first).text big l) ((operand_piece e second).text big l) s.ys s.second in
        let coded : code ∷ [] ≡ s.xs = let g = s.first in cc in
        let sizes = length-append s.xs s.ys in
        let more = length-append t.xs t.ys in
        let a = ha t.xs t.first (omega (arith, long, ap length s.whole, sizes, ap length t.whole, more)) in
        let b = hb t.ys t.second (omega (arith, long, ap length s.whole, sizes, ap length t.whole, more)) in
        record {
          instruction = f a.value b.value;
          meant = meant a.value b.value a.is b.is;
          read = λ rest.
              ap (λ ys. instruction_at big size pointers end (ys ++ rest)) (s.whole ∙ ap (λ ys. ys ++ s.ys) (sym coded))
              ∙ code_back big size end pointers code (two p q f) (s.ys ++ rest) rest (f a.value b.value) row
              (ap (two p q f) (ap (λ ys. ys ++ rest) t.whole ∙ append_assoc t.xs t.ys rest)
              ∙ ap (λ r. r =>> λ x. q x.1 =>> λ y. Ok (f x.0 y.0, y.1)) (a.read (t.ys ++ rest))
              ∙ ap (λ r. r =>> λ y. Ok (f a.value y.0, y.1)) (b.read rest));
        }

    one_back : (A : Type 0) (p : Read A) (f : A → Instruction) (first : Operand) (IsA : A → Type 0) → Behind big size end pointers code (one p f) →
        Operates e big l A IsA p first → ((a : A) → IsA a → Meant (f a)) → Spelled first Nothing
    unfolding both
    one_back A p f first IsA row ha meant bytes h long =
        let s = split (Some (code ∷ [])) _ bytes h in
        let t = split ((operand_piece e first).text big l) (Some []) s.ys s.second in
        let coded : code ∷ [] ≡ s.xs = let g = s.first in cc in
        let ended : [] ≡ t.ys = let g = t.second in cc in
        let sizes = length-append s.xs s.ys in
        let more = length-append t.xs t.ys in
        let a = ha t.xs t.first (omega (arith, long, ap length s.whole, sizes, ap length t.whole, more)) in
        record {
          instruction = f a.value;
          meant = meant a.value a.is;
          read = λ rest.
              ap (λ ys. instruction_at big size pointers end (ys ++ rest)) (s.whole ∙ ap (λ ys. ys ++ s.ys) (sym coded))
              ∙ code_back big size end pointers code (one p f) (s.ys ++ rest) rest (f a.value) row
              (ap (λ ys. one p f (ys ++ rest)) t.whole ∙ ap (one p f) (append_assoc t.xs t.ys rest ∙ ap (λ ys. t.xs ++ (ys ++ rest)) (sym ended))
              ∙ ap (λ r. r =>> λ x. Ok (f x.0, x.1)) (a.read rest));
        }

-- a factor that goes into an offset
factored_by : (a b c : Bool) (q z : ℤ) → when (a && b && c) (Some q) ≡ Some z → IsTrue b × IsTrue c × (q ≡ z)
factored_by true true true q z h = (refl, refl, cc)
factored_by true true false q z h = cc
factored_by true false c q z h = cc
factored_by false b c q z h = cc

record Divides (factor offset z : ℤ) : Type 0 where
  pub product : z *ℤ factor ≡ offset
  pub short : IsTrue (fits_i64 z)

short_fits : (z : ℤ) → IsTrue (signed_fits 4 z) → IsTrue (fits_i64 z)
short_fits (pos n) h = lt-ltb n (2 ^ 63) (let k : n < 2 ^ 31 = ltb-true n (2 ^ 31) h in omega (arith, k))
short_fits (negsuc n) h = lt-ltb n (2 ^ 63) (let k : n < 2 ^ 31 = ltb-true n (2 ^ 31) h in omega (arith, k))

divides : (factor offset z : ℤ) → factored factor offset ≡ Some z → Divides factor offset z
divides factor offset z h =
    let q = int_div offset factor in
    let p = factored_by (not (int_eq factor (pos 0))) (int_eq (q *ℤ factor) offset) (signed_fits 4 q) q z h in
    subst (Divides factor offset) p.2 (record { product = (signed_Decides (q *ℤ factor) offset).0 p.0; short = short_fits q p.1 })

natural_short : (n : ℕ) → IsTrue (fits_i64 (pos n)) → n < 2 ^ 64
natural_short n h = let k : n < 2 ^ 63 = ltb-true n (2 ^ 63) h in omega (arith, k)

module _ (e : Encoding) (big : Bool) (l : Layout) (size end : ℕ) (pointers : DwEhPe) (factor : ℤ) where
  -- a spelling of an instruction is read as what it means
  abbrev Back : CallFrameInstruction → Option Spelling → Type 0
  Back i s = (bytes : List ℕ) → (spelling_piece e s).text big l ≡ Some bytes → length bytes < 2 ^ 64 →
      ReadsAs (Means factor (spelled_in e big l) i) (instruction_at big size pointers end) bytes

  -- an instruction without a spelling has no text
  unspelled : (i : CallFrameInstruction) → Back i None
  unspelled i bytes h long = cc

  register_back : (i : CallFrameInstruction) (code : ℕ) (r : Register) (f : ℕ → Instruction) → Behind big size end pointers code (one uleb16_read f) → r.0 < 2 ^ 16 →
      ((n : ℕ) → n ≡ r.0 → Means factor (spelled_in e big l) i (f n)) → Back i (Some (spell code (Uleb r.0) Nothing))
  register_back i code r f row h meant =
      one_back e big l size end pointers (Means factor (spelled_in e big l) i) code ℕ uleb16_read f (Uleb r.0) (λ n. n ≡ r.0) row (register_operand e big l r.0 h) meant

  number_back : (i : CallFrameInstruction) (code n : ℕ) (f : ℕ → Instruction) → Behind big size end pointers code (one uleb_read f) → n < 2 ^ 64 →
      ((m : ℕ) → m ≡ n → Means factor (spelled_in e big l) i (f m)) → Back i (Some (spell code (Uleb n) Nothing))
  number_back i code n f row h meant =
      one_back e big l size end pointers (Means factor (spelled_in e big l) i) code ℕ uleb_read f (Uleb n) (λ m. m ≡ n) row (uleb_operand e big l n h) meant

  register_number_back : (i : CallFrameInstruction) (code n : ℕ) (r : Register) (f : ℕ → ℕ → Instruction) → Behind big size end pointers code (two uleb16_read uleb_read f) → r.0 < 2 ^ 16 → n < 2 ^ 64 →
      ((m k : ℕ) → m ≡ r.0 → k ≡ n → Means factor (spelled_in e big l) i (f m k)) → Back i (Some (spell code (Uleb r.0) (Uleb n)))
  register_number_back i code n r f row h k meant =
      two_back e big l size end pointers (Means factor (spelled_in e big l) i) code ℕ ℕ uleb16_read uleb_read f (Uleb r.0) (Uleb n) (λ m. m ≡ r.0) (λ m. m ≡ n) row
      (register_operand e big l r.0 h) (uleb_operand e big l n k) meant

  register_signed_back : (i : CallFrameInstruction) (code : ℕ) (z : ℤ) (r : Register) (f : ℕ → ℤ → Instruction) → Behind big size end pointers code (two uleb16_read sleb_read f) → r.0 < 2 ^ 16 → IsTrue (fits_i64 z) →
      ((m : ℕ) (y : ℤ) → m ≡ r.0 → y ≡ z → Means factor (spelled_in e big l) i (f m y)) → Back i (Some (spell code (Uleb r.0) (Sleb z)))
  register_signed_back i code z r f row h k meant =
      two_back e big l size end pointers (Means factor (spelled_in e big l) i) code ℕ ℤ uleb16_read sleb_read f (Uleb r.0) (Sleb z) (λ m. m ≡ r.0) (λ y. y ≡ z) row
      (register_operand e big l r.0 h) (sleb_operand e big l z k) meant

  register_block_back : (i : CallFrameInstruction) (code : ℕ) (ns : List Node) (r : Register) (f : ℕ → List ℕ → Instruction) → Behind big size end pointers code (two uleb16_read block_read f) → r.0 < 2 ^ 16 →
      ((m : ℕ) (ys : List ℕ) → m ≡ r.0 → spelled_in e big l ns ≡ Some ys → Means factor (spelled_in e big l) i (f m ys)) → Back i (Some (spell code (Uleb r.0) (Block ns)))
  register_block_back i code ns r f row h meant =
      two_back e big l size end pointers (Means factor (spelled_in e big l) i) code ℕ (List ℕ) uleb16_read block_read f (Uleb r.0) (Block ns) (λ m. m ≡ r.0) (λ ys. spelled_in e big l ns ≡ Some ys) row
      (register_operand e big l r.0 h) (block_operand e big l ns) meant

  plain_back : (i : CallFrameInstruction) (code : ℕ) (x : Instruction) → Behind big size end pointers code (none x) → Means factor (spelled_in e big l) i x → Back i (Some (spell code Nothing Nothing))
  plain_back i code x row meant = none_back e big l size end pointers (Means factor (spelled_in e big l) i) code x row meant

  -- a frame's address below zero, and its offset
  frame_back : (r : Register) (offset : ℤ) (o : Option ℤ) → factored factor offset ≡ o → r.0 < 2 ^ 16 → Back (built.Cfa r offset) (o >>= λ z. Some (spell DW_CFA_def_cfa_sf.0 (Uleb r.0) (Sleb z)))
  unfolding behind_read place_row coded_row frame_row
  frame_back r offset None is h = unspelled (built.Cfa r offset)
  frame_back r offset (Some z) is h =
      let d = divides factor offset z is in
      register_signed_back (built.Cfa r offset) DW_CFA_def_cfa_sf.0 z r read.DefCfaSf (λ place. refl) h d.short (λ m y p q. (p, ap (λ x. x *ℤ factor) q ∙ d.product))

  frame_offset_back : (offset : ℤ) (o : Option ℤ) → factored factor offset ≡ o → Back (built.CfaOffset offset) (o >>= λ z. Some (spell DW_CFA_def_cfa_offset_sf.0 (Sleb z) Nothing))
  unfolding behind_read place_row coded_row frame_row
  frame_offset_back offset None is = unspelled (built.CfaOffset offset)
  frame_offset_back offset (Some z) is =
      let d = divides factor offset z is in
      one_back e big l size end pointers (Means factor (spelled_in e big l) (built.CfaOffset offset)) DW_CFA_def_cfa_offset_sf.0 ℤ sleb_read read.DefCfaOffsetSf (Sleb z) (λ y. y ≡ z) (λ place. refl)
      (sleb_operand e big l z d.short) (λ y q. ap (λ x. x *ℤ factor) q ∙ d.product)

  -- a register that is saved, and one that has a value
  small_back : (r : Register) (offset : ℤ) (n : ℕ) (b : Bool) → is_small r ≡ b → Divides factor offset (pos n) → r.0 < 2 ^ 16 →
      Back (built.Offset r offset) (Some (if b then spell (DW_CFA_offset.0 + r.0) (Uleb n) Nothing else spell DW_CFA_offset_extended.0 (Uleb r.0) (Uleb n)))
  unfolding behind_read place_row coded_row frame_row rule_row
  small_back r offset n true is d h =
      number_back (built.Offset r offset) (DW_CFA_offset.0 + r.0) n (read.Offset r.0)
      (coded_behind big size end pointers (DW_CFA_offset.0 + r.0) (one uleb_read (read.Offset r.0)) (omega arith) (saved_row r.0 (ltb-true r.0 0x40 is)))
      (natural_short n d.short) (λ m q. (refl, ap (λ k. pos k *ℤ factor) q ∙ d.product))
  small_back r offset n false is d h =
      register_number_back (built.Offset r offset) DW_CFA_offset_extended.0 n r read.Offset (λ place. refl) h (natural_short n d.short) (λ m k p q. (p, ap (λ x. pos x *ℤ factor) q ∙ d.product))

  saved_back : (r : Register) (offset z : ℤ) → Divides factor offset z → r.0 < 2 ^ 16 → Back (built.Offset r offset) (Some (offset_rule r z))
  unfolding behind_read place_row coded_row frame_row rule_row
  saved_back r offset (pos n) d h = small_back r offset n (is_small r) refl d h
  saved_back r offset (negsuc n) d h =
      register_signed_back (built.Offset r offset) DW_CFA_offset_extended_sf.0 (negsuc n) r read.OffsetExtendedSf (λ place. refl) h d.short (λ m y p q. (p, ap (λ x. x *ℤ factor) q ∙ d.product))

  valued_back : (r : Register) (offset z : ℤ) → Divides factor offset z → r.0 < 2 ^ 16 → Back (built.ValOffset r offset) (Some (value_rule r z))
  unfolding behind_read place_row coded_row frame_row rule_row
  valued_back r offset (pos n) d h =
      register_number_back (built.ValOffset r offset) DW_CFA_val_offset.0 n r read.ValOffset (λ place. refl) h (natural_short n d.short) (λ m k p q. (p, ap (λ x. pos x *ℤ factor) q ∙ d.product))
  valued_back r offset (negsuc n) d h =
      register_signed_back (built.ValOffset r offset) DW_CFA_val_offset_sf.0 (negsuc n) r read.ValOffsetSf (λ place. refl) h d.short (λ m y p q. (p, ap (λ x. x *ℤ factor) q ∙ d.product))

  rule_back : (r : Register) (offset : ℤ) (o : Option ℤ) → factored factor offset ≡ o → r.0 < 2 ^ 16 → Back (built.Offset r offset) (o >>= λ z. Some (offset_rule r z))
  rule_back r offset None is h = unspelled (built.Offset r offset)
  rule_back r offset (Some z) is h = saved_back r offset z (divides factor offset z is) h

  value_back : (r : Register) (offset : ℤ) (o : Option ℤ) → factored factor offset ≡ o → r.0 < 2 ^ 16 → Back (built.ValOffset r offset) (o >>= λ z. Some (value_rule r z))
  value_back r offset None is h = unspelled (built.ValOffset r offset)
  value_back r offset (Some z) is h = valued_back r offset z (divides factor offset z is) h

  restored_back : (r : Register) (b : Bool) → is_small r ≡ b → r.0 < 2 ^ 16 →
      Back (built.Restore r) (Some (if b then spell (DW_CFA_restore.0 + r.0) Nothing Nothing else spell DW_CFA_restore_extended.0 (Uleb r.0) Nothing))
  unfolding behind_read place_row coded_row frame_row rule_row
  restored_back r true is h =
      plain_back (built.Restore r) (DW_CFA_restore.0 + r.0) (read.Restore r.0)
      (coded_behind big size end pointers (DW_CFA_restore.0 + r.0) (none (read.Restore r.0)) (omega arith) (restored_row r.0)) refl
  restored_back r false is h = register_back (built.Restore r) DW_CFA_restore_extended.0 r read.Restore (λ place. refl) h (λ n p. p)

  spelling_back : (i : CallFrameInstruction) → HasWidths i → Back i (spelled factor i)
  unfolding behind_read place_row coded_row frame_row rule_row
  spelling_back (built.Cfa r (pos n)) h =
      register_number_back (built.Cfa r (pos n)) DW_CFA_def_cfa.0 n r read.DefCfa (λ place. refl) h.0 (natural_short n h.1) (λ m k p q. (p, ap pos q))
  spelling_back (built.Cfa r (negsuc n)) h = frame_back r (negsuc n) (factored factor (negsuc n)) refl h.0
  spelling_back (built.CfaRegister r) h = register_back (built.CfaRegister r) DW_CFA_def_cfa_register.0 r read.DefCfaRegister (λ place. refl) h (λ n p. p)
  spelling_back (built.CfaOffset (pos n)) h = number_back (built.CfaOffset (pos n)) DW_CFA_def_cfa_offset.0 n read.DefCfaOffset (λ place. refl) (natural_short n h) (λ m q. ap pos q)
  spelling_back (built.CfaOffset (negsuc n)) h = frame_offset_back (negsuc n) (factored factor (negsuc n)) refl
  spelling_back (built.CfaExpression x) h =
      one_back e big l size end pointers (Means factor (spelled_in e big l) (built.CfaExpression x)) DW_CFA_def_cfa_expression.0 (List ℕ) block_read read.DefCfaExpression (Block x) (λ ys. spelled_in e big l x ≡ Some ys) (λ place. refl)
      (block_operand e big l x) (λ ys q. q)
  spelling_back (built.Restore r) h = restored_back r (is_small r) refl h
  spelling_back (built.Undefined r) h = register_back (built.Undefined r) DW_CFA_undefined.0 r read.Undefined (λ place. refl) h (λ n p. p)
  spelling_back (built.SameValue r) h = register_back (built.SameValue r) DW_CFA_same_value.0 r read.SameValue (λ place. refl) h (λ n p. p)
  spelling_back (built.Offset r offset) h = rule_back r offset (factored factor offset) refl h
  spelling_back (built.ValOffset r offset) h = value_back r offset (factored factor offset) refl h
  spelling_back (built.Register r s) h =
      two_back e big l size end pointers (Means factor (spelled_in e big l) (built.Register r s)) DW_CFA_register.0 ℕ ℕ uleb16_read uleb16_read read.Register (Uleb r.0) (Uleb s.0) (λ m. m ≡ r.0) (λ m. m ≡ s.0) (λ place. refl)
      (register_operand e big l r.0 h.0) (register_operand e big l s.0 h.1) (λ m k p q. (p, q))
  spelling_back (built.Expression r x) h = register_block_back (built.Expression r x) DW_CFA_expression.0 x r read.Expression (λ place. refl) h (λ m ys p q. (p, q))
  spelling_back (built.ValExpression r x) h = register_block_back (built.ValExpression r x) DW_CFA_val_expression.0 x r read.ValExpression (λ place. refl) h (λ m ys p q. (p, q))
  spelling_back built.RememberState h = plain_back built.RememberState DW_CFA_remember_state.0 read.RememberState (λ place. refl) tt
  spelling_back built.RestoreState h = plain_back built.RestoreState DW_CFA_restore_state.0 read.RestoreState (λ place. refl) tt
  spelling_back (built.ArgsSize n) h = number_back (built.ArgsSize n) DW_CFA_GNU_args_size.0 n read.ArgsSize (λ place. refl) h (λ m q. q)
  spelling_back built.NegateRaState h = plain_back built.NegateRaState DW_CFA_AARCH64_negate_ra_state.0 read.NegateRaState (λ place. refl) tt

pub instruction_back : (e : Encoding) (factor : ℤ) (i : CallFrameInstruction) → HasWidths i → InstructionReadsBack e factor i
instruction_back e factor i h big l size end pointers bytes text long = spelling_back e big l size end pointers factor i h bytes text long
