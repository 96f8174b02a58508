-- Keys: an operation that holds no other as six fields, one by one, by which operations are compared, hashed and told apart.
use Rattle.std.specs.Prelude.{◌≡◌, ℕ, zero, suc, ◌==◌, Bool, true, false, ◌&&◌, List, [], nat_eq, Option, Some, None, ℤ, pos, refl, if◌then◌else◌}
use Rattle.std.specs.Ordering.{int_eq}
use Rattle.std.specs.Cmp.Lexicographic.{pointwise}
use Rattle.dw_base.specs.declared.address.Address.{Address as Target}
use Rattle.dw_base.specs.declared.address.Address.TheVariants as addresses
use Rattle.dw_base.specs.declared.address.DebugInfoRef.{DebugInfoRef as InfoRef}
use Rattle.dw_base.specs.declared.address.DebugInfoRef.TheVariants as refs
use Rattle.dw_base.specs.declared.ids.UnitEntryId.{UnitEntryId}
use Rattle.dw_expr.specs.Trees.{Plain, Raw, Simple, Address, UnsignedConstant, SignedConstant, ConstantType, FrameOffset, RegisterOffset, RegisterType, Pick, Deref, DerefSize, DerefType, PlusConstant, Skip, Branch, Call, CallRef, VariableValue, Convert, Reinterpret, Register, ImplicitValue, ImplicitPointer, Piece, BitPiece, ParameterRef, WasmLocal, WasmGlobal, WasmStack}

pub record Key : Type 0 where
  pub kind : ℕ
  pub first : ℕ
  pub second : ℕ
  pub third : ℕ
  pub signed : ℤ
  pub bytes : List ℕ

abbrev pub key_by : ℕ → ℕ → ℕ → ℕ → ℤ → List ℕ → Key
key_by kind first second third signed bytes =
    record { kind = kind; first = first; second = second; third = third; signed = signed; bytes = bytes }

abbrev pub bit : Bool → ℕ
bit false = 0
bit true = 1

abbrev pub address_key : Target → Key
address_key (addresses.Constant n) = key_by 2 0 n 0 (pos 0) []
address_key (addresses.Symbol s addend) = key_by 2 1 s 0 addend []

abbrev pub reference_key : ℕ → InfoRef → ℤ → Key
reference_key kind (refs.Symbol s) z = key_by kind 0 s 0 z []
reference_key kind (refs.Entry u e) z = key_by kind 1 u.0 e.0 z []

abbrev pub index_key : ℕ → Option ℕ → Key
index_key kind None = key_by kind 0 0 0 (pos 0) []
index_key kind (Some t) = key_by kind 1 t 0 (pos 0) []

abbrev pub base_key : ℕ → Option UnitEntryId → Key
base_key kind None = key_by kind 0 0 0 (pos 0) []
base_key kind (Some e) = key_by kind 1 e.0 0 (pos 0) []

abbrev pub key : Plain → Key
key (Raw bytes) = key_by 0 0 0 0 (pos 0) bytes
key (Simple code) = key_by 1 code.0 0 0 (pos 0) []
key (Address address) = address_key address
key (UnsignedConstant n) = key_by 3 n 0 0 (pos 0) []
key (SignedConstant offset) = key_by 4 0 0 0 offset []
key (ConstantType entry bytes) = key_by 5 entry.0 0 0 (pos 0) bytes
key (FrameOffset offset) = key_by 6 0 0 0 offset []
key (RegisterOffset register offset) = key_by 7 register.0 0 0 offset []
key (RegisterType register entry) = key_by 8 register.0 entry.0 0 (pos 0) []
key (Pick n) = key_by 9 n 0 0 (pos 0) []
key (Deref space) = key_by 10 (bit space) 0 0 (pos 0) []
key (DerefSize space n) = key_by 11 (bit space) n 0 (pos 0) []
key (DerefType space n entry) = key_by 12 (bit space) n entry.0 (pos 0) []
key (PlusConstant n) = key_by 13 n 0 0 (pos 0) []
key (Skip target) = index_key 14 target
key (Branch target) = index_key 15 target
key (Call entry) = key_by 16 entry.0 0 0 (pos 0) []
key (CallRef entry) = reference_key 17 entry (pos 0)
key (VariableValue entry) = reference_key 18 entry (pos 0)
key (Convert base) = base_key 19 base
key (Reinterpret base) = base_key 20 base
key (Register register) = key_by 21 register.0 0 0 (pos 0) []
key (ImplicitValue bytes) = key_by 22 0 0 0 (pos 0) bytes
key (ImplicitPointer entry offset) = reference_key 23 entry offset
key (Piece n) = key_by 24 n 0 0 (pos 0) []
key (BitPiece n m) = key_by 25 n m 0 (pos 0) []
key (ParameterRef entry) = key_by 26 entry.0 0 0 (pos 0) []
key (WasmLocal n) = key_by 27 n 0 0 (pos 0) []
key (WasmGlobal n) = key_by 28 n 0 0 (pos 0) []
key (WasmStack n) = key_by 29 n 0 0 (pos 0) []

-- an operation by its key
abbrev pub is_set : ℕ → Bool
is_set zero = false
is_set (suc n) = true

abbrev pub option_by : ℕ → ℕ → Option ℕ
option_by zero n = None
option_by (suc m) n = Some n

abbrev pub entry_by : ℕ → ℕ → Option UnitEntryId
entry_by zero n = None
entry_by (suc m) n = Some (record { 0 = n })

abbrev pub target_by : ℕ → ℕ → ℤ → Target
target_by zero n z = addresses.Constant n
target_by (suc m) n z = addresses.Symbol n z

abbrev pub reference_by : ℕ → ℕ → ℕ → InfoRef
reference_by zero n e = refs.Symbol n
reference_by (suc m) n e = refs.Entry (record { 0 = n }) (record { 0 = e })

abbrev pub plain_by : Key → Plain
plain_by k =
    if k.kind == 0 then Raw k.bytes else
    if k.kind == 1 then Simple (record { 0 = k.first }) else
    if k.kind == 2 then Address (target_by k.first k.second k.signed) else
    if k.kind == 3 then UnsignedConstant k.first else
    if k.kind == 4 then SignedConstant k.signed else
    if k.kind == 5 then ConstantType (record { 0 = k.first }) k.bytes else
    if k.kind == 6 then FrameOffset k.signed else
    if k.kind == 7 then RegisterOffset (record { 0 = k.first }) k.signed else
    if k.kind == 8 then RegisterType (record { 0 = k.first }) (record { 0 = k.second }) else
    if k.kind == 9 then Pick k.first else
    if k.kind == 10 then Deref (is_set k.first) else
    if k.kind == 11 then DerefSize (is_set k.first) k.second else
    if k.kind == 12 then DerefType (is_set k.first) k.second (record { 0 = k.third }) else
    if k.kind == 13 then PlusConstant k.first else
    if k.kind == 14 then Skip (option_by k.first k.second) else
    if k.kind == 15 then Branch (option_by k.first k.second) else
    if k.kind == 16 then Call (record { 0 = k.first }) else
    if k.kind == 17 then CallRef (reference_by k.first k.second k.third) else
    if k.kind == 18 then VariableValue (reference_by k.first k.second k.third) else
    if k.kind == 19 then Convert (entry_by k.first k.second) else
    if k.kind == 20 then Reinterpret (entry_by k.first k.second) else
    if k.kind == 21 then Register (record { 0 = k.first }) else
    if k.kind == 22 then ImplicitValue k.bytes else
    if k.kind == 23 then ImplicitPointer (reference_by k.first k.second k.third) k.signed else
    if k.kind == 24 then Piece k.first else
    if k.kind == 25 then BitPiece k.first k.second else
    if k.kind == 26 then ParameterRef (record { 0 = k.first }) else
    if k.kind == 27 then WasmLocal k.first else
    if k.kind == 28 then WasmGlobal k.first else
    WasmStack k.first

pub plain_by-key : (p : Plain) → plain_by (key p) ≡ p
plain_by-key (Raw bytes) = refl
plain_by-key (Simple code) = refl
plain_by-key (Address (addresses.Constant n)) = refl
plain_by-key (Address (addresses.Symbol s addend)) = refl
plain_by-key (UnsignedConstant n) = refl
plain_by-key (SignedConstant offset) = refl
plain_by-key (ConstantType entry bytes) = refl
plain_by-key (FrameOffset offset) = refl
plain_by-key (RegisterOffset register offset) = refl
plain_by-key (RegisterType register entry) = refl
plain_by-key (Pick n) = refl
plain_by-key (Deref false) = refl
plain_by-key (Deref true) = refl
plain_by-key (DerefSize false n) = refl
plain_by-key (DerefSize true n) = refl
plain_by-key (DerefType false n entry) = refl
plain_by-key (DerefType true n entry) = refl
plain_by-key (PlusConstant n) = refl
plain_by-key (Skip None) = refl
plain_by-key (Skip (Some t)) = refl
plain_by-key (Branch None) = refl
plain_by-key (Branch (Some t)) = refl
plain_by-key (Call entry) = refl
plain_by-key (CallRef (refs.Symbol s)) = refl
plain_by-key (CallRef (refs.Entry u e)) = refl
plain_by-key (VariableValue (refs.Symbol s)) = refl
plain_by-key (VariableValue (refs.Entry u e)) = refl
plain_by-key (Convert None) = refl
plain_by-key (Convert (Some e)) = refl
plain_by-key (Reinterpret None) = refl
plain_by-key (Reinterpret (Some e)) = refl
plain_by-key (Register register) = refl
plain_by-key (ImplicitValue bytes) = refl
plain_by-key (ImplicitPointer (refs.Symbol s) offset) = refl
plain_by-key (ImplicitPointer (refs.Entry u e) offset) = refl
plain_by-key (Piece n) = refl
plain_by-key (BitPiece n m) = refl
plain_by-key (ParameterRef entry) = refl
plain_by-key (WasmLocal n) = refl
plain_by-key (WasmGlobal n) = refl
plain_by-key (WasmStack n) = refl

-- whether keys are equal, field by field
abbrev pub key_eq : Key → Key → Bool
key_eq j k =
    (j.kind == k.kind) && ((j.first == k.first) && ((j.second == k.second) && ((j.third == k.third) && (int_eq j.signed k.signed && pointwise nat_eq j.bytes k.bytes))))
