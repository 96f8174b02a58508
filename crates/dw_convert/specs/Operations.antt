-- What operations become (DWARF 5, 2.5 and 2.6.1).
use Rattle.std.specs.Prelude.{◌≡◌, ℕ, ◌==◌, Bool, List, Option, Some, Result, Ok, if◌then◌else◌}
use Rattle.dw_base.specs.declared.address.Address.{Address}
use Rattle.dw_base.specs.declared.address.DebugInfoRef.{DebugInfoRef}
use Rattle.dw_base.specs.declared.common.Encoding.{Encoding}
use Rattle.dw_base.specs.declared.constants.DwOp.{DwOp}
use Rattle.dw_base.specs.declared.constants.TheConstants.{DW_OP_form_tls_address, DW_OP_GNU_push_tls_address}
use Rattle.dw_base.specs.declared.ids.UnitEntryId.{UnitEntryId}
use Rattle.dw_expr.specs.Trees.{Plain, Node, plain, entry_value, tree_of}
use Rattle.dw_expr.specs.Trees as tree
use Rattle.dw_sources.specs.Operations.{Operation}
use Rattle.dw_sources.specs.Operations as read
use Rattle.dw_sources.specs.declared.convert_error.ConvertError.{ConvertError}
use Rattle.dw_convert.specs.Branches.{TargetOutcome}
use Rattle.dw_convert.specs.Outcomes.{Then, AddressOutcome, IndexOutcome}
use Rattle.dw_convert.specs.References.{EntryOutcome, InfoOutcome, BaseOutcome}

-- the standard's code where a GNU extension means the same
abbrev pub same_code : ℕ → DwOp
same_code code = if code == DW_OP_GNU_push_tls_address.0 then DW_OP_form_tls_address else record { 0 = code }

-- so many bytes at an address: a word where these are as many as an address has
abbrev pub deref : Encoding → Bool → ℕ → Plain
deref e space size = if size == e.address_size then tree.Deref space else tree.DerefSize space size

-- the operation that this becomes
abbrev pub Is : Plain → Result Node ConvertError → Type 0
Is p r = r ≡ Ok (plain p)

-- the operation that is made of what something becomes
abbrev pub Of : {A : Type 0} → (Result A ConvertError → Type 0) → (A → Plain) → Result Node ConvertError → Type 0
Of first f r = Then first (λ x y. y ≡ Ok (plain (f x))) r

-- the constant of a type that has a place
abbrev pub TypedConstant : (ℕ → Option UnitEntryId) → ℕ → List ℕ → Result Node ConvertError → Type 0
TypedConstant entries base bytes r = Of (EntryOutcome entries base) (λ b. tree.ConstantType b bytes) r

-- Indices lead to addresses, places to entries of the unit and of .debug_info. Expressions within operations become what `Nested`
-- says. Operations begin at `places`, and `behind` follows this one.
module _ (answers : ℕ → Option Address → Type 0) (addresses : ℕ → Result ℕ ConvertError) (entries : ℕ → Option UnitEntryId) (infos : ℕ → Option DebugInfoRef) (e : Encoding) (Nested : List ℕ → Result (List Node) ConvertError → Type 0) (places : List ℕ) where
  -- the same operation, with what its numbers lead to
  abbrev pub OperationOutcome : ℕ → Operation → Result Node ConvertError → Type 0
  OperationOutcome behind (read.Simple code) r = Is (tree.Simple (same_code code)) r
  OperationOutcome behind (read.Address n) r = Of (AddressOutcome answers n) tree.Address r
  OperationOutcome behind (read.AddressIndex i) r = Of (IndexOutcome answers addresses i) tree.Address r
  OperationOutcome behind (read.ConstantIndex i) r = Of (λ x. x ≡ addresses i) tree.UnsignedConstant r
  OperationOutcome behind (read.UnsignedConstant n) r = Is (tree.UnsignedConstant n) r
  OperationOutcome behind (read.SignedConstant z) r = Is (tree.SignedConstant z) r
  OperationOutcome behind (read.ConstantType base bytes) r = TypedConstant entries base bytes r
  OperationOutcome behind (read.FrameOffset z) r = Is (tree.FrameOffset z) r
  OperationOutcome behind (read.RegisterOffset register z) r = Is (tree.RegisterOffset (record { 0 = register }) z) r
  OperationOutcome behind (read.RegisterType register base) r = Of (EntryOutcome entries base) (λ b. tree.RegisterType (record { 0 = register }) b) r
  OperationOutcome behind (read.Pick n) r = Is (tree.Pick n) r
  OperationOutcome behind (read.Deref space) r = Is (tree.Deref space) r
  OperationOutcome behind (read.DerefSize space size) r = Is (deref e space size) r
  OperationOutcome behind (read.DerefType space size base) r = Of (EntryOutcome entries base) (λ b. tree.DerefType space size b) r
  OperationOutcome behind (read.PlusConstant n) r = Is (tree.PlusConstant n) r
  OperationOutcome behind (read.Skip z) r = Of (TargetOutcome places behind z) (λ i. tree.Skip (Some i)) r
  OperationOutcome behind (read.Branch z) r = Of (TargetOutcome places behind z) (λ i. tree.Branch (Some i)) r
  OperationOutcome behind (read.Call n) r = Of (EntryOutcome entries n) tree.Call r
  OperationOutcome behind (read.CallRef n) r = Of (InfoOutcome infos n) tree.CallRef r
  OperationOutcome behind (read.VariableValue n) r = Of (InfoOutcome infos n) tree.VariableValue r
  OperationOutcome behind (read.Convert base) r = Of (BaseOutcome entries base) tree.Convert r
  OperationOutcome behind (read.Reinterpret base) r = Of (BaseOutcome entries base) tree.Reinterpret r
  OperationOutcome behind (read.EntryValue bytes) r = Then (Nested bytes) (λ x y. y ≡ Ok (entry_value (tree_of x))) r
  OperationOutcome behind (read.Register register) r = Is (tree.Register (record { 0 = register })) r
  OperationOutcome behind (read.ImplicitValue bytes) r = Is (tree.ImplicitValue bytes) r
  OperationOutcome behind (read.ImplicitPointer n z) r = Of (InfoOutcome infos n) (λ i. tree.ImplicitPointer i z) r
  OperationOutcome behind (read.Piece n) r = Is (tree.Piece n) r
  OperationOutcome behind (read.BitPiece n m) r = Is (tree.BitPiece n m) r
  OperationOutcome behind (read.ParameterRef n) r = Of (EntryOutcome entries n) tree.ParameterRef r
  OperationOutcome behind (read.WasmLocal n) r = Is (tree.WasmLocal n) r
  OperationOutcome behind (read.WasmGlobal n) r = Is (tree.WasmGlobal n) r
  OperationOutcome behind (read.WasmStack n) r = Is (tree.WasmStack n) r
