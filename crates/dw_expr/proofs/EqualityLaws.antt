-- Lists and trees are compared and hashed alike, and keys tell operations apart.
use Rattle.std.specs.Prelude.{◌≡◌, ◌==◌, false, ◌&&◌, List, [], ◌∷◌, ◌++◌, refl, Some, None}
use Rattle.std.specs.Prelude.{nat_eq}
use Rattle.std.specs.Ordering.{int_eq}
use Rattle.std.specs.Cmp.Lexicographic.{pointwise}
use Rattle.std.proofs.Common.{ap}
use Rattle.dw_base.specs.declared.address.Address.TheVariants as addresses
use Rattle.dw_base.specs.declared.address.DebugInfoRef.TheVariants as refs
use Rattle.dw_expr.specs.Trees.{Plain, Node, Tree, plain, entry_value, nothing, before, tree_of}
use Rattle.dw_expr.specs.Trees as trees
use Rattle.dw_expr.specs.Keys.{key, key_eq}
use Rattle.dw_expr.specs.Equality.{node_key, node_eq, tree_eq, nodes_eq, node_hash, tree_hash, nodes_hash, key_hash}
use Rattle.dw_expr.specs.Views.{node_of}
use Rattle.dw_expr.specs.declared.op.Operation.{Operation}
use Rattle.dw_expr.specs.declared.op.Operation.TheVariants as ops

pub tree_eq-tree_of : (xs ys : List Node) → tree_eq (tree_of xs) (tree_of ys) ≡ nodes_eq xs ys
tree_eq-tree_of [] [] = refl
tree_eq-tree_of [] (y ∷ ys) = refl
tree_eq-tree_of (x ∷ xs) [] = refl
tree_eq-tree_of (x ∷ xs) (y ∷ ys) = ap (λ b. node_eq x y && b) (tree_eq-tree_of xs ys)

pub tree_hash-tree_of : (xs : List Node) → tree_hash (tree_of xs) ≡ nodes_hash xs
tree_hash-tree_of [] = refl
tree_hash-tree_of (x ∷ xs) = ap (λ w. node_hash x ++ w) (tree_hash-tree_of xs)

-- no operation that holds no expression has the kind of those that do
kind_other : (p : Plain) → ((key p).kind == 30) ≡ false
kind_other (trees.Raw bytes) = refl
kind_other (trees.Simple code) = refl
kind_other (trees.Address (addresses.Constant n)) = refl
kind_other (trees.Address (addresses.Symbol s addend)) = refl
kind_other (trees.UnsignedConstant n) = refl
kind_other (trees.SignedConstant offset) = refl
kind_other (trees.ConstantType entry bytes) = refl
kind_other (trees.FrameOffset offset) = refl
kind_other (trees.RegisterOffset register offset) = refl
kind_other (trees.RegisterType register entry) = refl
kind_other (trees.Pick n) = refl
kind_other (trees.Deref space) = refl
kind_other (trees.DerefSize space n) = refl
kind_other (trees.DerefType space n entry) = refl
kind_other (trees.PlusConstant n) = refl
kind_other (trees.Skip None) = refl
kind_other (trees.Skip (Some t)) = refl
kind_other (trees.Branch None) = refl
kind_other (trees.Branch (Some t)) = refl
kind_other (trees.Call entry) = refl
kind_other (trees.CallRef (refs.Symbol s)) = refl
kind_other (trees.CallRef (refs.Entry u e)) = refl
kind_other (trees.VariableValue (refs.Symbol s)) = refl
kind_other (trees.VariableValue (refs.Entry u e)) = refl
kind_other (trees.Convert None) = refl
kind_other (trees.Convert (Some e)) = refl
kind_other (trees.Reinterpret None) = refl
kind_other (trees.Reinterpret (Some e)) = refl
kind_other (trees.Register register) = refl
kind_other (trees.ImplicitValue bytes) = refl
kind_other (trees.ImplicitPointer (refs.Symbol s) offset) = refl
kind_other (trees.ImplicitPointer (refs.Entry u e) offset) = refl
kind_other (trees.Piece n) = refl
kind_other (trees.BitPiece n m) = refl
kind_other (trees.ParameterRef entry) = refl
kind_other (trees.WasmLocal n) = refl
kind_other (trees.WasmGlobal n) = refl
kind_other (trees.WasmStack n) = refl

plain_same : (p : Plain) (n : Node) → key_eq (key p) (node_key n) ≡ node_eq (plain p) n
plain_same p (plain q) = refl
plain_same p (entry_value y) =
    let k = node_key (entry_value y) in
    let j = key p in
    ap (λ b. b && ((j.first == k.first) && ((j.second == k.second) && ((j.third == k.third) && (int_eq j.signed k.signed && pointwise nat_eq j.bytes k.bytes))))) (kind_other p)

-- one that holds no expression is compared and hashed by its key
pub other_same : (o : Operation) (n : Node) → ((x : List Node) → o ≡ ops.EntryValue x → ⊥) → key_eq (node_key (node_of o)) (node_key n) ≡ node_eq (node_of o) n
other_same (ops.EntryValue x) n h = absurd (h x refl)
other_same (ops.Raw bytes) n h = plain_same (trees.Raw bytes) n
other_same (ops.Simple code) n h = plain_same (trees.Simple code) n
other_same (ops.Address address) n h = plain_same (trees.Address address) n
other_same (ops.UnsignedConstant q) n h = plain_same (trees.UnsignedConstant q) n
other_same (ops.SignedConstant offset) n h = plain_same (trees.SignedConstant offset) n
other_same (ops.ConstantType entry bytes) n h = plain_same (trees.ConstantType entry bytes) n
other_same (ops.FrameOffset offset) n h = plain_same (trees.FrameOffset offset) n
other_same (ops.RegisterOffset register offset) n h = plain_same (trees.RegisterOffset register offset) n
other_same (ops.RegisterType register entry) n h = plain_same (trees.RegisterType register entry) n
other_same (ops.Pick q) n h = plain_same (trees.Pick q) n
other_same (ops.Deref space) n h = plain_same (trees.Deref space) n
other_same (ops.DerefSize space q) n h = plain_same (trees.DerefSize space q) n
other_same (ops.DerefType space q entry) n h = plain_same (trees.DerefType space q entry) n
other_same (ops.PlusConstant q) n h = plain_same (trees.PlusConstant q) n
other_same (ops.Skip target) n h = plain_same (trees.Skip target) n
other_same (ops.Branch target) n h = plain_same (trees.Branch target) n
other_same (ops.Call entry) n h = plain_same (trees.Call entry) n
other_same (ops.CallRef entry) n h = plain_same (trees.CallRef entry) n
other_same (ops.VariableValue entry) n h = plain_same (trees.VariableValue entry) n
other_same (ops.Convert base) n h = plain_same (trees.Convert base) n
other_same (ops.Reinterpret base) n h = plain_same (trees.Reinterpret base) n
other_same (ops.Register register) n h = plain_same (trees.Register register) n
other_same (ops.ImplicitValue bytes) n h = plain_same (trees.ImplicitValue bytes) n
other_same (ops.ImplicitPointer entry offset) n h = plain_same (trees.ImplicitPointer entry offset) n
other_same (ops.Piece q) n h = plain_same (trees.Piece q) n
other_same (ops.BitPiece q m) n h = plain_same (trees.BitPiece q m) n
other_same (ops.ParameterRef entry) n h = plain_same (trees.ParameterRef entry) n
other_same (ops.WasmLocal q) n h = plain_same (trees.WasmLocal q) n
other_same (ops.WasmGlobal q) n h = plain_same (trees.WasmGlobal q) n
other_same (ops.WasmStack q) n h = plain_same (trees.WasmStack q) n

pub other_differs : (x : List Node) (o : Operation) → ((y : List Node) → o ≡ ops.EntryValue y → ⊥) → false ≡ node_eq (entry_value (tree_of x)) (node_of o)
other_differs x (ops.EntryValue y) h = absurd (h y refl)
other_differs x o h = refl

pub other_hashed : (o : Operation) → ((x : List Node) → o ≡ ops.EntryValue x → ⊥) → key_hash (node_key (node_of o)) ≡ node_hash (node_of o)
other_hashed (ops.EntryValue x) h = absurd (h x refl)
other_hashed o h = refl
