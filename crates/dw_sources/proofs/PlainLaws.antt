-- Operations without operands, by their codes.
use Rattle.std.proofs.Common.{◌≡◌, ◌∙◌, sym, ap, ℕ, ◌-◌, Option, Some, true, false, refl}
use Rattle.dw_base.specs.declared.constants.TheConstants.{DW_OP_lit0, DW_OP_reg0}
use Rattle.dw_sources.specs.Operations.{Operation, UnsignedConstant, Register, Simple}
use Rattle.dw_sources.specs.OperationTable.{among, plain_rows, is_from, is_simple, plain_of}

pub simple_code : (code k : ℕ) → code ≡ k → is_simple k ≡ true → true ≡ is_simple code
simple_code code k h e = sym (ap is_simple h ∙ e)

pub plain_literal : (code n : ℕ) → is_from DW_OP_lit0 code ≡ true → n ≡ code - DW_OP_lit0.0 → Some (UnsignedConstant n) ≡ plain_of code
unfolding plain_of
plain_literal code n h e = sym (rw (h, e) refl)

pub plain_register : (code n : ℕ) → is_from DW_OP_lit0 code ≡ false → is_from DW_OP_reg0 code ≡ true → n ≡ code - DW_OP_reg0.0 → Some (Register n) ≡ plain_of code
unfolding plain_of
plain_register code n h k e = sym (rw (h, k, e) refl)

pub plain_simple : (code : ℕ) → is_from DW_OP_lit0 code ≡ false → is_from DW_OP_reg0 code ≡ false → is_simple code ≡ true → Some (Simple code) ≡ plain_of code
unfolding plain_of
plain_simple code h k e = sym (rw (h, k, e) refl)

pub plain_row : (code : ℕ) (o : Option Operation) → is_from DW_OP_lit0 code ≡ false → is_from DW_OP_reg0 code ≡ false → is_simple code ≡ false → among code plain_rows ≡ o → o ≡ plain_of code
unfolding plain_of
plain_row code o h k e r = sym (rw (h, k, e) r)

pub row_at : (code k : ℕ) (o : Option Operation) → code ≡ k → among k plain_rows ≡ o → among code plain_rows ≡ o
row_at code k o h e = ap (λ (c : ℕ). among c plain_rows) h ∙ e
