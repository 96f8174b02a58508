-- The law that what is written of an operation is read as it.
use Rattle.std.specs.Prelude.{◌≡◌, ℕ, ◌^◌, ◌<◌, Bool, List, [], ◌∷◌, ◌++◌, length, Option, Some, None, IsTrue, IsFalse}
use Rattle.dw_base.specs.Leb128.{fits_i64}
use Rattle.dw_base.specs.declared.common.Encoding.{Encoding}
use Rattle.dw_writer.specs.Meaning.{Layout}
use Rattle.dw_writer.specs.Drafts.{Info}
use Rattle.dw_expr.specs.Trees.{Plain, Node, Tree, plain, entry_value, nodes_of, UnsignedConstant, SignedConstant, FrameOffset, RegisterOffset, RegisterType, PlusConstant, Register, ImplicitValue, ImplicitPointer, Piece, BitPiece, WasmLocal, WasmGlobal, WasmStack}
use Rattle.dw_expr.specs.Spelling.{node_part, tree_parts, parts_size, expression, expression_draft}
use Rattle.dw_sources.specs.Operations.{Operation}
use Rattle.dw_sources.specs.OperationTable.{operation_at}
use Rattle.dw_read_back.specs.ReadAs.{node_as, expression_as, is_read, are_read}

-- an entry stands behind its unit's header, and its place is a number of 64 bits
abbrev pub ArePlaces : (ℕ → Option ℕ) → Type 0
ArePlaces place = (i n : ℕ) → place i ≡ Some n → (0 < n) × (n < 2 ^ 64)

-- the numbers of an operation have the widths of their types: 64 bits, 16 for registers, and 32 for WebAssembly
abbrev pub HavePlainWidths : Plain → Type 0
HavePlainWidths (UnsignedConstant n) = n < 2 ^ 64
HavePlainWidths (SignedConstant z) = IsTrue (fits_i64 z)
HavePlainWidths (FrameOffset z) = IsTrue (fits_i64 z)
HavePlainWidths (RegisterOffset r z) = (r.0 < 2 ^ 16) × IsTrue (fits_i64 z)
HavePlainWidths (RegisterType r base) = r.0 < 2 ^ 16
HavePlainWidths (PlusConstant n) = n < 2 ^ 64
HavePlainWidths (Register r) = r.0 < 2 ^ 16
HavePlainWidths (ImplicitValue bytes) = length bytes < 2 ^ 64
HavePlainWidths (ImplicitPointer r z) = IsTrue (fits_i64 z)
HavePlainWidths (BitPiece n m) = (n < 2 ^ 64) × (m < 2 ^ 64)
HavePlainWidths (WasmLocal n) = n < 2 ^ 32
HavePlainWidths (WasmGlobal n) = n < 2 ^ 32
HavePlainWidths (WasmStack n) = n < 2 ^ 32
HavePlainWidths p = Unit {0}

abbrev pub HaveOwnWidths : Node → Type 0
HaveOwnWidths (plain p) = HavePlainWidths p
HaveOwnWidths (entry_value x) = Unit {0}

-- the same, and an expression within has so many bytes
abbrev pub HaveWidths : Encoding → (ℕ → Option ℕ) → Node → Type 0
HaveWidths e place (plain p) = HavePlainWidths p
HaveWidths e place (entry_value x) = parts_size (tree_parts e place x) < 2 ^ 64

-- the reader's grammar reads bytes as this operation, and leaves what follows them
pub record IsReadAs (big : Bool) (e : Encoding) (bytes : List ℕ) (view : Option Operation) : Type 0 where
  pub operation : Operation
  pub is : view ≡ Some operation
  pub read : (rest : List ℕ) → operation_at big e (bytes ++ rest) ≡ Some (operation, rest)

-- the bytes of an operation, wherever it stands in its expression and whatever the places of entries and the layout are
abbrev pub ReadsBack : Node → Type 0
ReadsBack n =
    (e : Encoding) (place : ℕ → Option ℕ) (info : Info) (big : Bool) (l : Layout) (starts : List ℕ) (to : ℕ) (bytes : List ℕ) →
    ArePlaces place → HaveWidths e place n → ((node_part e place n).draft starts to).text info big l ≡ Some bytes →
    IsReadAs big e bytes (node_as e place info big l starts to n)

-- every operation but those that are set apart
abbrev pub OperationsReadBack : Type 0
OperationsReadBack = (n : Node) → IsTrue (is_read n) → ReadsBack n

-- the grammar reads bytes as these operations, one after another to the end
abbrev pub AreOperations : Bool → Encoding → List ℕ → List Operation → Type 0
AreOperations big e bytes [] = bytes ≡ []
AreOperations big e bytes (o ∷ os) = (rest : List ℕ) × (operation_at big e bytes ≡ Some (o, rest)) × AreOperations big e rest os

pub record AreReadAs (big : Bool) (e : Encoding) (bytes : List ℕ) (view : Option (List Operation)) : Type 0 where
  pub operations : List Operation
  pub are : view ≡ Some operations
  pub read : AreOperations big e bytes operations

abbrev pub HaveAllWidths : Encoding → (ℕ → Option ℕ) → List Node → Type 0
HaveAllWidths e place [] = Unit {0}
HaveAllWidths e place (n ∷ ns) = HaveWidths e place n × HaveAllWidths e place ns

-- the bytes of an expression, whatever the places of entries and the layout are
abbrev pub ExpressionsReadBack : Type 0
ExpressionsReadBack =
    (ns : List Node) → IsTrue (are_read ns) → (e : Encoding) (place : ℕ → Option ℕ) (info : Info) (big : Bool) (l : Layout) (bytes : List ℕ) →
    ArePlaces place → HaveAllWidths e place ns → (expression_draft e place ns).text info big l ≡ Some bytes →
    AreReadAs big e bytes (expression_as e place info big l ns)

-- and so those of an expression within an operation, at any depth
abbrev pub NestedReadBack : Type 0
NestedReadBack =
    (x : Tree) → IsTrue (are_read (nodes_of x)) → (e : Encoding) (place : ℕ → Option ℕ) (info : Info) (big : Bool) (l : Layout) (bytes : List ℕ) →
    ArePlaces place → HaveAllWidths e place (nodes_of x) → (expression (tree_parts e place x)).text info big l ≡ Some bytes →
    AreReadAs big e bytes (expression_as e place info big l (nodes_of x))

-- a piece whose bits are no number of 64 bits has a spelling, but no operation is read there
abbrev pub LongPiecesAreUnread : Type 0
LongPiecesAreUnread =
    (n : ℕ) → n < 2 ^ 64 → IsFalse (is_read (plain (Piece n))) → (e : Encoding) (place : ℕ → Option ℕ) (info : Info) (big : Bool) (l : Layout) (starts : List ℕ) (to : ℕ) →
    (bytes : List ℕ) → ((node_part e place (plain (Piece n))).draft starts to).text info big l ≡ Some bytes → (rest : List ℕ) → operation_at big e (bytes ++ rest) ≡ None
