-- Codes that are operations alone, and codes that have a number in them.
use Rattle.std.proofs.Common.{◌≡◌, ◌∙◌, sym, ap, refl, ℕ, ◌+◌, ◌-◌, ◌<◌, ◌≤◌, Bool, true, false, ◌&&◌, ◌||◌, List, [], ◌∷◌, Option, Some, None, IsTrue, nat_le, nat_lt, nat_eq, if◌then◌else◌, arith}
use Rattle.std.specs.Option.{is_some, is_none}
use Rattle.std.proofs.lemmas.Bool.{le-leb, lt-ltb, le-ltb, eqb-true, agree_below_at}
use Rattle.dw_base.specs.declared.common.Encoding.{Encoding}
use Rattle.dw_base.specs.declared.constants.DwOp.{DwOp}
use Rattle.dw_base.specs.declared.constants.TheConstants.{DW_OP_lit0, DW_OP_reg0, DW_OP_breg0, DW_OP_dup, DW_OP_over, DW_OP_deref, DW_OP_xderef}
use Rattle.dw_read.specs.Reading.{Read}
use Rattle.dw_read.specs.Reasons.{sleb_read}
use Rattle.dw_sources.specs.Operations.{Operation, Simple, UnsignedConstant, Register, RegisterOffset, Pick, Deref}
use Rattle.dw_sources.specs.OperationTable.{one, is_from, is_simple, plain_of, first_of, without_operand, literals, stack_operations, entry_operations, typed_operations, locations, behind}
use Rattle.dw_read_back.specs.ReadAs.{simple_codes, is_listed, is_within, code_as}
use Rattle.dw_read_back.proofs.Rows.{IsRow, alone}

-- An operation alone

literal_plain : (code : ℕ) → is_within DW_OP_lit0 code ≡ true → plain_of code ≡ Some (UnsignedConstant (code - DW_OP_lit0.0))
unfolding plain_of
literal_plain code h = rw h refl

register_plain : (code : ℕ) → is_within DW_OP_lit0 code ≡ false → is_within DW_OP_reg0 code ≡ true → plain_of code ≡ Some (Register (code - DW_OP_reg0.0))
unfolding plain_of
register_plain code h k = rw (h, k) refl

abbrev ArePlain : List DwOp → Type 0
ArePlain [] = Unit {0}
ArePlain (op ∷ ops) = (plain_of op.0 ≡ Some (Simple op.0)) × ArePlain ops

simple_codes_plain : ArePlain simple_codes
unfolding plain_of is_simple
simple_codes_plain =
    (refl, (refl, (refl, (refl, (refl, (refl, (refl, (refl, (refl, (refl, (refl, (refl, (refl, (refl, (refl, (refl, (refl, (refl, (refl, (refl, (refl, (refl, (refl, (refl, (refl, (refl, (refl, (refl, (refl, (refl, tt))))))))))))))))))))))))))))))

listed_plain : (ops : List DwOp) → ArePlain ops → (code : ℕ) → is_listed ops code ≡ true → plain_of code ≡ Some (Simple code)
listed_plain [] are code h = absurd (let x : false ≡ true = h in cc)
listed_plain (op ∷ ops) are code h = by (nat_eq code op.0) refl (listed_plain ops are.1 code)
  where
    by : (b : Bool) → nat_eq code op.0 ≡ b → (is_listed ops code ≡ true → plain_of code ≡ Some (Simple code)) → plain_of code ≡ Some (Simple code)
    by true e more = let same = eqb-true code op.0 e in ap plain_of same ∙ are.0 ∙ ap (λ c. Some (Simple c)) (sym same)
    by false e more = more (sym (ap (λ b. b || is_listed ops code) e) ∙ h)

-- the rows of codes that are read with an operand
dup_plain : plain_of DW_OP_dup.0 ≡ Some (Pick 0)
unfolding plain_of is_simple
dup_plain = refl

over_plain : plain_of DW_OP_over.0 ≡ Some (Pick 1)
unfolding plain_of is_simple
over_plain = refl

deref_plain : plain_of DW_OP_deref.0 ≡ Some (Deref false)
unfolding plain_of is_simple
deref_plain = refl

xderef_plain : plain_of DW_OP_xderef.0 ≡ Some (Deref true)
unfolding plain_of is_simple
xderef_plain = refl

-- the tests of a code, from the last one up
module _ (code : ℕ) where
  abbrev at_xderef : Bool → Option Operation
  at_xderef b = if b then Some (Deref true) else None

  abbrev at_deref : Bool → Option Operation
  at_deref b = if b then Some (Deref false) else at_xderef (nat_eq code DW_OP_xderef.0)

  abbrev at_over : Bool → Option Operation
  at_over b = if b then Some (Pick 1) else at_deref (nat_eq code DW_OP_deref.0)

  abbrev at_dup : Bool → Option Operation
  at_dup b = if b then Some (Pick 0) else at_over (nat_eq code DW_OP_over.0)

  abbrev at_register : Bool → Option Operation
  at_register b = if b then Some (Register (code - DW_OP_reg0.0)) else at_dup (nat_eq code DW_OP_dup.0)

  abbrev at_literal : Bool → Option Operation
  at_literal b = if b then Some (UnsignedConstant (code - DW_OP_lit0.0)) else at_register (is_within DW_OP_reg0 code)

  abbrev at_listed : Bool → Option Operation
  at_listed b = if b then Some (Simple code) else at_literal (is_within DW_OP_lit0 code)

  is_xderef : (b : Bool) → nat_eq code DW_OP_xderef.0 ≡ b → IsTrue (is_some (at_xderef b)) → plain_of code ≡ at_xderef b
  is_xderef true e k = ap plain_of (eqb-true code _ e) ∙ xderef_plain
  is_xderef false e k = absurd (let x : false ≡ true = k in cc)

  is_deref : (b : Bool) → nat_eq code DW_OP_deref.0 ≡ b → IsTrue (is_some (at_deref b)) → plain_of code ≡ at_deref b
  is_deref true e k = ap plain_of (eqb-true code _ e) ∙ deref_plain
  is_deref false e k = is_xderef (nat_eq code DW_OP_xderef.0) refl k

  is_over : (b : Bool) → nat_eq code DW_OP_over.0 ≡ b → IsTrue (is_some (at_over b)) → plain_of code ≡ at_over b
  is_over true e k = ap plain_of (eqb-true code _ e) ∙ over_plain
  is_over false e k = is_deref (nat_eq code DW_OP_deref.0) refl k

  is_dup : (b : Bool) → nat_eq code DW_OP_dup.0 ≡ b → IsTrue (is_some (at_dup b)) → plain_of code ≡ at_dup b
  is_dup true e k = ap plain_of (eqb-true code _ e) ∙ dup_plain
  is_dup false e k = is_over (nat_eq code DW_OP_over.0) refl k

  is_register : (b : Bool) → is_within DW_OP_lit0 code ≡ false → is_within DW_OP_reg0 code ≡ b → IsTrue (is_some (at_register b)) → plain_of code ≡ at_register b
  is_register true n e k = register_plain code n e
  is_register false n e k = is_dup (nat_eq code DW_OP_dup.0) refl k

  is_literal : (b : Bool) → is_within DW_OP_lit0 code ≡ b → IsTrue (is_some (at_literal b)) → plain_of code ≡ at_literal b
  is_literal true e k = literal_plain code e
  is_literal false e k = is_register (is_within DW_OP_reg0 code) e refl k

  is_any : (b : Bool) → is_listed simple_codes code ≡ b → IsTrue (is_some (at_listed b)) → plain_of code ≡ at_listed b
  is_any true e k = listed_plain simple_codes simple_codes_plain code e
  is_any false e k = is_literal (is_within DW_OP_lit0 code) refl k

  pub code_plain : IsTrue (is_some (code_as code)) → plain_of code ≡ code_as code
  code_plain h = is_any (is_listed simple_codes code) refl h

-- Numbers below 32 in a code

from_first : (first code : ℕ) → first ≤ code → code < first + 32 → (nat_le first code && nat_lt code (first + 32)) ≡ true
from_first first code h k = rw (le-leb _ _ h, lt-ltb _ _ k) refl

past_end : (first code : ℕ) → first + 32 ≤ code → (nat_le first code && nat_lt code (first + 32)) ≡ false
past_end first code h = by (nat_le first code) (nat_lt code (first + 32)) (le-ltb _ _ h)
  where
    by : (b c : Bool) → c ≡ false → (b && c) ≡ false
    by true c e = e
    by false c e = refl

module _ (big : Bool) (e : Encoding) where
  pub plain_row : (code : ℕ) (o : Operation) → plain_of code ≡ Some o → IsRow big e code (alone o)
  unfolding behind
  plain_row code o h bytes = rw h refl

  pub literal_row : (n : ℕ) → n < 32 → IsRow big e (DW_OP_lit0.0 + n) (alone (UnsignedConstant n))
  literal_row n h =
      let code = DW_OP_lit0.0 + n in
      plain_row code (UnsignedConstant n) (literal_plain code (from_first DW_OP_lit0.0 code (omega arith) (omega arith)) ∙ ap (λ k. Some (UnsignedConstant k)) (omega arith))

  pub register_row : (n : ℕ) → n < 32 → IsRow big e (DW_OP_reg0.0 + n) (alone (Register n))
  register_row n h =
      let code = DW_OP_reg0.0 + n in
      plain_row code (Register n)
      (register_plain code (past_end DW_OP_lit0.0 code (omega arith)) (from_first DW_OP_reg0.0 code (omega arith) (omega arith)) ∙ ap (λ k. Some (Register k)) (omega arith))

  -- no table before that of locations has the code of a register with an offset
  abbrev is_in_none : ℕ → Bool
  is_in_none n =
      let code = DW_OP_breg0.0 + n in
      is_none (plain_of code) && (is_none (literals big e code) && (is_none (stack_operations big e code) && (is_none (entry_operations big e code) && is_none (typed_operations big e code))))

  none_below : (n : ℕ) → n < 32 → is_in_none n ≡ true
  unfolding plain_of is_simple literals stack_operations entry_operations typed_operations
  none_below n h = agree_below_at is_in_none (λ k. true) 32 n refl h

  offset_location : (code n : ℕ) → is_from DW_OP_breg0 code ≡ true → code - DW_OP_breg0.0 ≡ n → locations big e code ≡ Some (one sleb_read (RegisterOffset n))
  unfolding locations
  offset_location code n h same = rw h (ap (λ k. Some (one sleb_read (RegisterOffset k))) same)

  behind_none : (code : ℕ) (q : Read Operation) (bytes : List ℕ) →
      (is_none (plain_of code) && (is_none (literals big e code) && (is_none (stack_operations big e code) && (is_none (entry_operations big e code) && is_none (typed_operations big e code))))) ≡ true →
      locations big e code ≡ Some q → behind big e code bytes ≡ q bytes
  unfolding behind
  behind_none code q bytes h k = by (plain_of code) (literals big e code) (stack_operations big e code) (entry_operations big e code) (typed_operations big e code) h (locations big e code) k _
    where
      by : (o : Option Operation) (a b c d : Option (Read Operation)) → (is_none o && (is_none a && (is_none b && (is_none c && is_none d)))) ≡ true → (t : Option (Read Operation)) → t ≡ Some q → (more : Read Operation) →
          first_of (without_operand o) (first_of a (first_of b (first_of c (first_of d (first_of t more))))) bytes ≡ q bytes
      by None None None None None h t k more = ap (λ x. first_of x more bytes) k
      by (Some o) a b c d h t k more = absurd (let x : false ≡ true = h in cc)
      by None (Some a) b c d h t k more = absurd (let x : false ≡ true = h in cc)
      by None None (Some b) c d h t k more = absurd (let x : false ≡ true = h in cc)
      by None None None (Some c) d h t k more = absurd (let x : false ≡ true = h in cc)
      by None None None None (Some d) h t k more = absurd (let x : false ≡ true = h in cc)

  pub register_offset_row : (n : ℕ) → n < 32 → IsRow big e (DW_OP_breg0.0 + n) (one sleb_read (RegisterOffset n))
  register_offset_row n h bytes =
      let code = DW_OP_breg0.0 + n in
      behind_none code (one sleb_read (RegisterOffset n)) bytes (none_below n h) (offset_location code n (from_first DW_OP_breg0.0 code (omega arith) (omega arith)) (omega arith))
