-- The operations of expressions, as they are read (DWARF 5, 2.5 and 2.6.1). Registers are numbers, entries are places in the
-- unit or in .debug_info, and branches are distances.
use Rattle.std.specs.Prelude.{ℕ, Bool, List, Option, ℤ}

pub data Operation : Type 0 where
  Simple : ℕ → Operation
  Address : ℕ → Operation
  AddressIndex : ℕ → Operation
  ConstantIndex : ℕ → Operation
  UnsignedConstant : ℕ → Operation
  SignedConstant : ℤ → Operation
  ConstantType : ℕ → List ℕ → Operation
  FrameOffset : ℤ → Operation
  RegisterOffset : ℕ → ℤ → Operation
  RegisterType : ℕ → ℕ → Operation
  Pick : ℕ → Operation
  Deref : Bool → Operation
  DerefSize : Bool → ℕ → Operation
  DerefType : Bool → ℕ → ℕ → Operation
  PlusConstant : ℕ → Operation
  Skip : ℤ → Operation
  Branch : ℤ → Operation
  Call : ℕ → Operation
  CallRef : ℕ → Operation
  VariableValue : ℕ → Operation
  Convert : Option ℕ → Operation
  Reinterpret : Option ℕ → Operation
  EntryValue : List ℕ → Operation
  Register : ℕ → Operation
  ImplicitValue : List ℕ → Operation
  ImplicitPointer : ℕ → ℤ → Operation
  Piece : ℕ → Operation
  BitPiece : ℕ → ℕ → Operation
  ParameterRef : ℕ → Operation
  WasmLocal : ℕ → Operation
  WasmGlobal : ℕ → Operation
  WasmStack : ℕ → Operation
