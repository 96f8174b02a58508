-- Operations that were read, as the grammar has them.
use Rattle.std.specs.Prelude.{◌≡◌, ◌≤◌}
use Rattle.dw_read.specs.Reading.{Reading, left}
use Rattle.dw_read.specs.Took.{option_of}
use Rattle.dw_sources.specs.Operations.{Operation, Simple, Address, AddressIndex, ConstantIndex, UnsignedConstant, SignedConstant, ConstantType, FrameOffset, RegisterOffset, RegisterType, Pick, Deref, DerefSize, DerefType, PlusConstant, Skip, Branch, Call, CallRef, VariableValue, Convert, Reinterpret, EntryValue, Register, ImplicitValue, ImplicitPointer, Piece, BitPiece, ParameterRef, WasmLocal, WasmGlobal, WasmStack}
use Rattle.dw_sources.specs.declared.operation.Operation.{Operation as HeldOperation}
use Rattle.dw_sources.specs.declared.operation.Operation.TheVariants as held

abbrev pub operation_of : {R E : Type 0} → (R → Reading) → HeldOperation R E → Operation
operation_of reading (held.Simple op) = Simple op.0
operation_of reading (held.Address n) = Address n
operation_of reading (held.AddressIndex n) = AddressIndex n
operation_of reading (held.ConstantIndex n) = ConstantIndex n
operation_of reading (held.UnsignedConstant n) = UnsignedConstant n
operation_of reading (held.SignedConstant z) = SignedConstant z
operation_of reading (held.ConstantType base r) = ConstantType base.0 (left (reading r))
operation_of reading (held.FrameOffset z) = FrameOffset z
operation_of reading (held.RegisterOffset register z) = RegisterOffset register.0 z
operation_of reading (held.RegisterType register base) = RegisterType register.0 base.0
operation_of reading (held.Pick n) = Pick n
operation_of reading (held.Deref space) = Deref space
operation_of reading (held.DerefSize space size) = DerefSize space size
operation_of reading (held.DerefType space size base) = DerefType space size base.0
operation_of reading (held.PlusConstant n) = PlusConstant n
operation_of reading (held.Skip z) = Skip z
operation_of reading (held.Branch z) = Branch z
operation_of reading (held.Call entry) = Call entry.0
operation_of reading (held.CallRef entry) = CallRef entry.0
operation_of reading (held.VariableValue entry) = VariableValue entry.0
operation_of reading (held.Convert base) = Convert (option_of (λ b. b.0) base)
operation_of reading (held.Reinterpret base) = Reinterpret (option_of (λ b. b.0) base)
operation_of reading (held.EntryValue expression) = EntryValue (left (reading expression.0))
operation_of reading (held.Register register) = Register register.0
operation_of reading (held.ImplicitValue r) = ImplicitValue (left (reading r))
operation_of reading (held.ImplicitPointer entry z) = ImplicitPointer entry.0 z
operation_of reading (held.Piece n) = Piece n
operation_of reading (held.BitPiece n offset) = BitPiece n offset
operation_of reading (held.ParameterRef entry) = ParameterRef entry.0
operation_of reading (held.WasmLocal n) = WasmLocal n
operation_of reading (held.WasmGlobal n) = WasmGlobal n
operation_of reading (held.WasmStack n) = WasmStack n

-- a reader of a part of what an operation is read from, in the same order
pub record IsWithin (old r : Reading) : Type 0 where
  pub section : r.section ≡ old.section
  pub order : r.is_big ≡ old.is_big
  pub begin : old.place ≤ r.place
  pub end : r.end ≤ old.end

-- bytes and expressions of an operation are such parts
abbrev pub HoldsParts : {R E : Type 0} → (R → Reading) → Reading → HeldOperation R E → Type 0
HoldsParts reading old (held.ConstantType base r) = IsWithin old (reading r)
HoldsParts reading old (held.EntryValue expression) = IsWithin old (reading expression.0)
HoldsParts reading old (held.ImplicitValue r) = IsWithin old (reading r)
HoldsParts reading old o = Unit
