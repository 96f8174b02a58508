-- The words of expressions.
use Rattle.std.specs.Prelude.{ℕ, List, [], ◌∷◌, Option, bytes_eq, codes}
use Rattle.std.specs.Map.{lookup}
use Rattle.dw_script_fields.specs.declared.operation_word.OperationWord.TheVariants as operation
use Rattle.dw_script_fields.specs.declared.operation_word.PairWord.TheVariants as pair
use Rattle.dw_script_fields.specs.declared.operation_word.StepWord.{StepWord}
use Rattle.dw_script_fields.specs.declared.operation_word.StepWord.TheVariants as word

-- each word with its spelling
abbrev pub step_words : List (List ℕ × StepWord)
step_words =
    (codes "]", word.Close)
    ∷ (codes "op", word.Operation operation.Simple)
    ∷ (codes "fbreg", word.Operation operation.FrameOffset)
    ∷ (codes "breg", word.Pair pair.RegisterOffset)
    ∷ (codes "reg", word.Operation operation.Register)
    ∷ (codes "addr", word.Operation operation.Address)
    ∷ (codes "entry_value", word.EntryValue)
    ∷ (codes "deref_type", word.Pair pair.DerefType)
    ∷ (codes "convert", word.Operation operation.Convert)
    ∷ (codes "plus_uconst", word.Operation operation.PlusConstant)
    ∷ (codes "constu", word.Operation operation.UnsignedConstant)
    ∷ (codes "consts", word.Operation operation.SignedConstant)
    ∷ (codes "deref", word.Operation operation.Deref)
    ∷ (codes "deref_size", word.Operation operation.DerefSize)
    ∷ (codes "piece", word.Operation operation.Piece)
    ∷ (codes "raw", word.Raw)
    ∷ (codes "pick", word.Operation operation.Pick)
    ∷ (codes "skip", word.Operation operation.Skip)
    ∷ (codes "bra", word.Operation operation.Branch)
    ∷ (codes "call", word.Operation operation.Call)
    ∷ (codes "call_ref", word.Operation operation.CallRef)
    ∷ (codes "const_type", word.Pair pair.ConstantType)
    ∷ (codes "regval_type", word.Pair pair.RegisterType)
    ∷ (codes "reinterpret", word.Operation operation.Reinterpret)
    ∷ (codes "implicit_value", word.Operation operation.ImplicitValue)
    ∷ (codes "implicit_pointer", word.Pair pair.ImplicitPointer)
    ∷ (codes "bit_piece", word.Pair pair.BitPiece)
    ∷ (codes "xderef", word.Operation operation.SpaceDeref)
    ∷ (codes "xderef_size", word.Operation operation.SpaceDerefSize)
    ∷ (codes "xderef_type", word.Pair pair.SpaceDerefType)
    ∷ (codes "variable_value", word.Operation operation.VariableValue)
    ∷ (codes "gnu_parameter_ref", word.Operation operation.ParameterRef)
    ∷ (codes "wasm_local", word.Operation operation.WasmLocal)
    ∷ (codes "wasm_global", word.Operation operation.WasmGlobal)
    ∷ (codes "wasm_stack", word.Operation operation.WasmStack)
    ∷ []

-- the word that a field spells
unfoldable pub step_word_of : List ℕ → Option StepWord
step_word_of field = lookup (bytes_eq field) step_words
