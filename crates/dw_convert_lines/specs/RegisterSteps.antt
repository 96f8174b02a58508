-- How the machine is told to change its registers.
use Rattle.std.specs.Prelude.{◌≡◌, ℕ, ◌^◌, nat_lt, Bool, true, false, Option, Some}
use Rattle.dw_base.specs.Numbers.{when}
use Rattle.dw_base.specs.declared.common.LineEncoding.{LineEncoding}
use Rattle.dw_base.specs.LineMachine.{LineHeader, Instruction, AdvancePc, AdvanceLine, ConstAddPc, FixedAdvancePc, Special, SetAddress}

-- whether an instruction adds to a register, or sets the address
abbrev pub is_moving : Instruction → Bool
is_moving (AdvancePc n) = true
is_moving (AdvanceLine z) = true
is_moving ConstAddPc = true
is_moving (FixedAdvancePc n) = true
is_moving (Special n) = true
is_moving (SetAddress w n) = true
is_moving i = false

-- a number, where it has 64 bits
abbrev pub in_64_bits : ℕ → Option ℕ
in_64_bits n = when (nat_lt n (2 ^ 64)) (Some n)

-- a header tells the machine these parameters
pub record IsTold (e : LineEncoding) (h : LineHeader) : Type 0 where
  pub minimum_length : h.minimum_length ≡ e.minimum_instruction_length
  pub line_base : h.line_base ≡ e.line_base
  pub line_range : h.line_range ≡ e.line_range
