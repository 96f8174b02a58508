-- Operations of expressions, each read from the front of the fields that are left.
use Rattle.std.specs.Prelude.{ℕ, ◌^◌, Bool, true, false, Option, None, Ok}
use Rattle.dw_base.specs.declared.constants.DwOp.{DwOp}
use Rattle.dw_script_fields.specs.declared.operation.ScriptOperation.{ScriptOperation}
use Rattle.dw_script_fields.specs.declared.operation.ScriptOperation.TheVariants as operation
use Rattle.dw_script_fields.specs.declared.operation_word.OperationWord.{OperationWord}
use Rattle.dw_script_fields.specs.declared.operation_word.OperationWord.TheVariants as word
use Rattle.dw_script_fields.specs.declared.operation_word.PairWord.{PairWord}
use Rattle.dw_script_fields.specs.declared.operation_word.PairWord.TheVariants as pair
use Rattle.dw_script_fields.specs.Codes.{opcode_of}
use Rattle.dw_ends.specs.Fields.{Fields, Outcome, ◌>>=◌, next_field, number_field, hex_field}
use Rattle.dw_script_fields.specs.Fields.{made, signed_field, address_field, reference_field, index_or_none_field, target_field}

-- the code of an operation without operands, and the fields after it
abbrev pub opcode_field : Fields → Outcome (DwOp × Fields)
opcode_field fields = do
  (field, fields) ← next_field fields
  code ← opcode_of field
  Ok (record { 0 = code }, fields)

-- what is made of two fields' values, the second read after the first, and the fields after them
abbrev pub made_of_two : {A B C : Type 0} → (A → B → C) → Outcome (A × Fields) → (Fields → Outcome (B × Fields)) → Outcome (C × Fields)
made_of_two make first second = do
  (x, fields) ← first
  (y, fields) ← second fields
  Ok (make x y, fields)

-- the operation of a word with one operand or none, and the fields after it
abbrev pub operation_of_word : OperationWord → Fields → Outcome (ScriptOperation × Fields)
operation_of_word word.Simple fields = made operation.Simple (opcode_field fields)
operation_of_word word.Address fields = made operation.Address (address_field fields)
operation_of_word word.UnsignedConstant fields = made operation.UnsignedConstant (number_field (2 ^ 64) fields)
operation_of_word word.SignedConstant fields = made operation.SignedConstant (signed_field fields)
operation_of_word word.FrameOffset fields = made operation.FrameOffset (signed_field fields)
operation_of_word word.Pick fields = made operation.Pick (number_field (2 ^ 8) fields)
operation_of_word word.Deref fields = Ok (operation.Deref false, fields)
operation_of_word word.SpaceDeref fields = Ok (operation.Deref true, fields)
operation_of_word word.DerefSize fields = made (operation.DerefSize false) (number_field (2 ^ 8) fields)
operation_of_word word.SpaceDerefSize fields = made (operation.DerefSize true) (number_field (2 ^ 8) fields)
operation_of_word word.PlusConstant fields = made operation.PlusConstant (number_field (2 ^ 64) fields)
operation_of_word word.Skip fields = made operation.Skip (target_field fields)
operation_of_word word.Branch fields = made operation.Branch (target_field fields)
operation_of_word word.Call fields = made operation.Call (number_field (2 ^ 64) fields)
operation_of_word word.CallRef fields = made operation.CallRef (reference_field fields)
operation_of_word word.VariableValue fields = made operation.VariableValue (reference_field fields)
operation_of_word word.Convert fields = made operation.Convert (index_or_none_field fields)
operation_of_word word.Reinterpret fields = made operation.Reinterpret (index_or_none_field fields)
operation_of_word word.Register fields = made (λ n. operation.Register (record { 0 = n })) (number_field (2 ^ 16) fields)
operation_of_word word.ImplicitValue fields = made operation.ImplicitValue (hex_field fields)
operation_of_word word.Piece fields = made operation.Piece (number_field (2 ^ 64) fields)
operation_of_word word.ParameterRef fields = made operation.ParameterRef (number_field (2 ^ 64) fields)
operation_of_word word.WasmLocal fields = made operation.WasmLocal (number_field (2 ^ 32) fields)
operation_of_word word.WasmGlobal fields = made operation.WasmGlobal (number_field (2 ^ 32) fields)
operation_of_word word.WasmStack fields = made operation.WasmStack (number_field (2 ^ 32) fields)

-- how many bytes are read at an address, and their base type, and the fields after them
abbrev pub deref_type_field : Bool → Fields → Outcome (ScriptOperation × Fields)
deref_type_field space fields = made_of_two (operation.DerefType space) (number_field (2 ^ 8) fields) (number_field (2 ^ 64))

-- how many bits are located, and from which on, and the fields after them
abbrev pub bit_piece_field : Fields → Outcome (ScriptOperation × Fields)
bit_piece_field fields = made_of_two operation.BitPiece (number_field (2 ^ 64) fields) (number_field (2 ^ 64))

-- the operation of a word with two operands, and the fields after it
abbrev pub pair_of_word : PairWord → Fields → Outcome (ScriptOperation × Fields)
pair_of_word pair.ConstantType fields = made_of_two operation.ConstantType (number_field (2 ^ 64) fields) hex_field
pair_of_word pair.RegisterOffset fields = made_of_two (λ n z. operation.RegisterOffset (record { 0 = n }) z) (number_field (2 ^ 16) fields) signed_field
pair_of_word pair.RegisterType fields = made_of_two (λ n base. operation.RegisterType (record { 0 = n }) base) (number_field (2 ^ 16) fields) (number_field (2 ^ 64))
pair_of_word pair.DerefType fields = deref_type_field false fields
pair_of_word pair.SpaceDerefType fields = deref_type_field true fields
pair_of_word pair.ImplicitPointer fields = made_of_two operation.ImplicitPointer (reference_field fields) signed_field
pair_of_word pair.BitPiece fields = bit_piece_field fields

-- where an operation leads, if it is a branch with a target
abbrev pub target_of : ScriptOperation → Option ℕ
target_of (operation.Skip target) = target
target_of (operation.Branch target) = target
target_of _ = None
