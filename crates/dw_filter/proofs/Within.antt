-- An expression that stands within an operation and what stands behind the operation have together fewer bytes than the whole.
use Rattle.std.proofs.Common.{◌≡◌, ◌∙◌, sym, ap, refl, ℕ, ◌+◌, ◌-◌, ◌<◌, List, [], ◌∷◌, length, take, drop, Bool, true, false, Option, Some, None, Result, Ok, Err, arith, length-drop, nat_le}
use Rattle.std.specs.Prelude.{◌==◌, if◌then◌else◌}
use Rattle.std.specs.Result.{result_ok}
use Rattle.std.proofs.lemmas.List.{length-take}
use Rattle.dw_base.specs.Numbers.{when, bytes_at, number_at, value_of, word_of}
use Rattle.dw_base.specs.declared.common.Encoding.{Encoding}
use Rattle.dw_base.specs.declared.constants.TheConstants.{DW_OP_addr, DW_OP_const1u, DW_OP_const1s, DW_OP_const2u, DW_OP_const2s, DW_OP_const4u, DW_OP_const4s, DW_OP_const8u, DW_OP_const8s, DW_OP_constu, DW_OP_consts, DW_OP_addrx, DW_OP_constx, DW_OP_pick, DW_OP_deref_size, DW_OP_xderef_size, DW_OP_plus_uconst, DW_OP_bra, DW_OP_skip, DW_OP_call2, DW_OP_call4, DW_OP_call_ref, DW_OP_implicit_pointer, DW_OP_GNU_implicit_pointer, DW_OP_GNU_parameter_ref, DW_OP_GNU_variable_value, DW_OP_const_type, DW_OP_GNU_const_type, DW_OP_regval_type, DW_OP_GNU_regval_type, DW_OP_deref_type, DW_OP_GNU_deref_type, DW_OP_xderef_type, DW_OP_convert, DW_OP_GNU_convert, DW_OP_reinterpret, DW_OP_GNU_reinterpret, DW_OP_regx, DW_OP_fbreg, DW_OP_bregx, DW_OP_piece, DW_OP_bit_piece, DW_OP_implicit_value, DW_OP_entry_value, DW_OP_GNU_entry_value, DW_OP_WASM_location, DW_OP_breg0, DW_OP_lit0, DW_OP_reg0, DW_OP_deref, DW_OP_xderef, DW_OP_dup, DW_OP_over}
use Rattle.dw_base.proofs.NumberLaws.{bind_parts, when_same}
use Rattle.dw_read.specs.Reading.{Read}
use Rattle.dw_read.specs.Reasons.{◌=>>◌, or_refuse, if_so, bytes_read, number_read, uleb_read, uleb16_read, sleb_read, address_read}
use Rattle.dw_read.specs.declared.error.ReadError.{ReadError}
use Rattle.dw_read.specs.declared.error.ReadError.TheVariants.{UnexpectedEof, InvalidPiece}
use Rattle.dw_read.proofs.Items.{then_parts, if_so_parts}
use Rattle.dw_read.proofs.Declared.{uleb_shorter}
use Rattle.dw_sources.specs.Operations.{Operation, Simple, Address, AddressIndex, ConstantIndex, UnsignedConstant, SignedConstant, ConstantType, FrameOffset, RegisterOffset, RegisterType, Pick, Deref, DerefSize, DerefType, PlusConstant, Skip, Branch, Call, CallRef, VariableValue, Convert, Reinterpret, EntryValue, Register, ImplicitValue, ImplicitPointer, Piece, BitPiece, ParameterRef, WasmLocal, WasmGlobal, WasmStack}
use Rattle.dw_sources.specs.Operands.{signed_read, uleb32_read, base_read, block_read, short_block_read, info_place_read}
use Rattle.dw_sources.specs.OperationTable.{one, two, piece_read, wasm_of, wasm_read, invalid, plain_of, literals, stack_operations, entry_operations, typed_operations, location_rows, locations, first_of, without_operand, behind, operation_read, operation_at, is_from, is_simple}

abbrev Given : Type 0
Given = Result (Operation × List ℕ) ReadError

-- an expression within the operation that is read, and what is left behind it, are shorter than the bytes before
abbrev pub Leaves : Read Operation → Type 0
Leaves p = (bs inner rest : List ℕ) → p bs ≡ Ok (EntryValue inner, rest) → length inner + length rest < length bs

-- no other operation has an expression within it
abbrev is_around : Operation → Bool
is_around (EntryValue bytes) = true
is_around o = false

other : (o : Operation) (bs inner rest : List ℕ) → is_around o ≡ false → ◌≡◌ {A = Given} (Ok (o, bs)) (Ok (EntryValue inner, rest)) → ⊥
other o bs inner rest h e =
    let pair : ◌≡◌ {A = Operation × List ℕ} (o, bs) (EntryValue inner, rest) = cc in
    let same : is_around o ≡ true = ap (λ (x : Operation × List ℕ). is_around x.0) pair in
    absurd (cc)

there : {A : Type 0} (y : ReadError) (o : Option A) (x : A) → or_refuse y o ≡ Ok x → o ≡ Some x
there y None x e = absurd (cc)
there y (Some z) x e = let q : z ≡ x = cc in ap (λ v. Some v) q

bytes_parts : (n : ℕ) (bs : List ℕ) (x : List ℕ × List ℕ) → bytes_read n bs ≡ Ok x → length x.0 + length x.1 ≡ length bs
unfolding bytes_read bytes_at
bytes_parts n bs x e =
    let s : Some (take n bs, drop n bs) ≡ Some x = when_same (nat_le n (length bs)) (Some (take n bs, drop n bs)) x (there UnexpectedEof _ x e) in
    let q : (take n bs, drop n bs) ≡ x = cc in
    let a : take n bs ≡ x.0 = ap (λ (y : List ℕ × List ℕ). y.0) q in
    let b : drop n bs ≡ x.1 = ap (λ (y : List ℕ × List ℕ). y.1) q in
    omega (arith, length-take n bs, length-drop n bs, ap length a, ap length b)

block_parts : (bs : List ℕ) (x : List ℕ × List ℕ) → block_read bs ≡ Ok x → length x.0 + length x.1 < length bs
unfolding block_read
block_parts bs x e =
    let n = then_parts (uleb_read bs) (λ (n : ℕ × List ℕ). bytes_read n.0 n.1) x e in
    omega (arith, uleb_shorter bs n.0 n.1, bytes_parts n.0.0 n.0.1 x n.2)

block_leaves : Leaves (one block_read EntryValue)
block_leaves bs inner rest e =
    let b = then_parts (block_read bs) (λ (b : List ℕ × List ℕ). Ok (EntryValue b.0, b.1)) (EntryValue inner, rest) e in
    let given : ◌≡◌ {A = Given} (Ok (EntryValue b.0.0, b.0.1)) (Ok (EntryValue inner, rest)) = b.2 in
    let pair : ◌≡◌ {A = Operation × List ℕ} (EntryValue b.0.0, b.0.1) (EntryValue inner, rest) = cc in
    let first : EntryValue b.0.0 ≡ EntryValue inner = ap (λ (x : Operation × List ℕ). x.0) pair in
    let same : b.0.0 ≡ inner = cc in
    let left : b.0.1 ≡ rest = ap (λ (x : Operation × List ℕ). x.1) pair in
    omega (arith, block_parts bs b.0 b.1, ap length same, ap length left)

-- what is read is never such an operation
abbrev Never : Read Operation → Type 0
Never p = (bs inner rest : List ℕ) → p bs ≡ Ok (EntryValue inner, rest) → ⊥

never_leaves : (p : Read Operation) → Never p → Leaves p
never_leaves p h bs inner rest e = absurd (h bs inner rest e)

one_other : {A : Type 0} (p : Read A) (f : A → Operation) → ((a : A) → is_around (f a) ≡ false) → Never (one p f)
one_other {A} p f h bs inner rest e =
    let a = then_parts (p bs) (λ (a : A × List ℕ). Ok (f a.0, a.1)) (EntryValue inner, rest) e in
    other (f a.0.0) a.0.1 inner rest (h a.0.0) a.2

two_other : {A B : Type 0} (p : Read A) (q : Read B) (f : A → B → Operation) → ((a : A) (b : B) → is_around (f a b) ≡ false) → Never (two p q f)
two_other {A} {B} p q f h bs inner rest e =
    let a = then_parts (p bs) (λ (a : A × List ℕ). q a.1 =>> λ b. Ok (f a.0 b.0, b.1)) (EntryValue inner, rest) e in
    let b = then_parts (q a.0.1) (λ (b : B × List ℕ). Ok (f a.0.0 b.0, b.1)) (EntryValue inner, rest) a.2 in
    other (f a.0.0 b.0.0) b.0.1 inner rest (h a.0.0 b.0.0) b.2

piece_other : Never piece_read
piece_other bs inner rest e =
    let n = then_parts (uleb_read bs) (λ (n : ℕ × List ℕ). if_so _ InvalidPiece (Ok (Piece n.0, n.1))) (EntryValue inner, rest) e in
    other (Piece n.0.0) n.0.1 inner rest refl (if_so_parts _ InvalidPiece (Ok (Piece n.0.0, n.0.1)) (EntryValue inner, rest) n.2)

either_other : (b : Bool) (p q : Read Operation) → Never p → Never q → Never (λ bs. if b then p bs else q bs)
either_other true p q f g = f
either_other false p q f g = g

refused_other : (y : ReadError) → Never (λ bs. Err y)
refused_other y bs inner rest e = absurd (cc)

wasm_kind_other : (big : Bool) (kind : ℕ) → Never (wasm_of big kind)
wasm_kind_other big kind bs inner rest e =
    either_other (kind == 0) (one uleb32_read WasmLocal) (λ ys. if kind == 1 then one uleb32_read WasmGlobal ys else if kind == 2 then one uleb32_read WasmStack ys else if kind == 3 then one (number_read big 4) WasmGlobal ys else Err (invalid DW_OP_WASM_location)) (one_other uleb32_read WasmLocal (λ a. refl))
    (either_other (kind == 1) (one uleb32_read WasmGlobal) (λ ys. if kind == 2 then one uleb32_read WasmStack ys else if kind == 3 then one (number_read big 4) WasmGlobal ys else Err (invalid DW_OP_WASM_location)) (one_other uleb32_read WasmGlobal (λ a. refl))
    (either_other (kind == 2) (one uleb32_read WasmStack) (λ ys. if kind == 3 then one (number_read big 4) WasmGlobal ys else Err (invalid DW_OP_WASM_location)) (one_other uleb32_read WasmStack (λ a. refl))
    (either_other (kind == 3) (one (number_read big 4) WasmGlobal) (λ ys. Err (invalid DW_OP_WASM_location)) (one_other (number_read big 4) WasmGlobal (λ a. refl)) (refused_other (invalid DW_OP_WASM_location))))) bs inner rest e

wasm_other : (big : Bool) → Never (wasm_read big)
unfolding wasm_read
wasm_other big bs inner rest e =
    let kind = then_parts (number_read big 1 bs) (λ (kind : ℕ × List ℕ). wasm_of big kind.0 kind.1) (EntryValue inner, rest) e in
    wasm_kind_other big kind.0.0 kind.0.1 inner rest kind.2

-- what a table has of a code, where it has something
abbrev HasLeaves : Option (Read Operation) → Type 0
HasLeaves None = Unit {0}
HasLeaves (Some p) = Leaves p

record IsWithin (o : Option (Read Operation)) : Type 0 where
  has : HasLeaves o

none_leaves : IsWithin None
none_leaves = record { has = tt }

row_leaves : (b : Bool) (p : Read Operation) (o : Option (Read Operation)) → Leaves p → IsWithin o → IsWithin (if b then Some p else o)
row_leaves true p o h k = record { has = h }
row_leaves false p o h k = k

one_row : {A : Type 0} (b : Bool) (p : Read A) (f : A → Operation) → ((a : A) → is_around (f a) ≡ false) → {o : Option (Read Operation)} → IsWithin o → IsWithin (if b then Some (one p f) else o)
one_row b p f h {o} k = row_leaves b (one p f) o (never_leaves (one p f) (one_other p f h)) k

two_row : {A B : Type 0} (b : Bool) (p : Read A) (q : Read B) (f : A → B → Operation) → ((a : A) (c : B) → is_around (f a c) ≡ false) → {o : Option (Read Operation)} → IsWithin o → IsWithin (if b then Some (two p q f) else o)
two_row b p q f h {o} k = row_leaves b (two p q f) o (never_leaves (two p q f) (two_other p q f h)) k

first_leaves : (o : Option (Read Operation)) (more : Read Operation) → IsWithin o → Leaves more → Leaves (first_of o more)
first_leaves None more h k = k
first_leaves (Some p) more h k = h.has

-- operations without operands have none within them
abbrev IsAlone : Option Operation → Type 0
IsAlone o = (x : Operation) → o ≡ Some x → is_around x ≡ false

alone : (b : Bool) (x : Operation) (o : Option Operation) → is_around x ≡ false → IsAlone o → IsAlone (if b then Some x else o)
alone true x o h k y e = let same : x ≡ y = cc in ap is_around (sym same) ∙ h
alone false x o h k y e = k y e

none_alone : IsAlone None
none_alone x e = absurd (cc)

plain_alone : (code : ℕ) → IsAlone (plain_of code)
unfolding plain_of
plain_alone code =
    alone (is_from DW_OP_lit0 code) (UnsignedConstant (code - DW_OP_lit0.0)) _ refl
    (alone (is_from DW_OP_reg0 code) (Register (code - DW_OP_reg0.0)) _ refl
    (alone (is_simple code) (Simple code) _ refl
    (alone (code == DW_OP_deref.0) (Deref false) _ refl
    (alone (code == DW_OP_xderef.0) (Deref true) _ refl
    (alone (code == DW_OP_dup.0) (Pick 0) _ refl
    (alone (code == DW_OP_over.0) (Pick 1) _ refl none_alone))))))

alone_leaves : (o : Option Operation) → IsAlone o → IsWithin (without_operand o)
alone_leaves None h = none_leaves
alone_leaves (Some x) h = record { has = λ bs inner rest e. absurd (other x bs inner rest (h x refl) e) }

byte_rest : (big : Bool) (bs : List ℕ) (x : ℕ × List ℕ) → number_read big 1 bs ≡ Ok x → drop 1 bs ≡ x.1
unfolding number_read number_at bytes_at
byte_rest big bs x e =
    let p = bind_parts (when (nat_le 1 (length bs)) (Some (take 1 bs, drop 1 bs))) (λ (y : List ℕ × List ℕ). Some (value_of big y.0, y.1)) x (there UnexpectedEof _ x e) in
    let s : Some (take 1 bs, drop 1 bs) ≡ Some p.0 = when_same (nat_le 1 (length bs)) (Some (take 1 bs, drop 1 bs)) p.0 p.1 in
    let q : (take 1 bs, drop 1 bs) ≡ p.0 = cc s in
    let f : Some (value_of big p.0.0, p.0.1) ≡ Some x = p.2 in
    let r : (value_of big p.0.0, p.0.1) ≡ x = cc f in
    ap (λ (y : List ℕ × List ℕ). y.1) q ∙ ap (λ (y : ℕ × List ℕ). y.1) r

no_byte : (big : Bool) → number_read big 1 [] ≡ Err UnexpectedEof
unfolding number_read number_at bytes_at
no_byte big = refl

-- a byte that is read is passed
byte_passed : (big : Bool) (bs : List ℕ) (x : ℕ × List ℕ) → number_read big 1 bs ≡ Ok x → length x.1 < length bs
byte_passed big [] x e = let q : Err UnexpectedEof ≡ Ok x = sym (no_byte big) ∙ e in absurd (cc)
byte_passed big (b ∷ bs) x e = omega (arith, length-drop 1 (b ∷ bs), ap length (byte_rest big (b ∷ bs) x e))

module _ (big : Bool) (e : Encoding) where
  literals_leave : (code : ℕ) → IsWithin (literals big e code)
  unfolding literals
  literals_leave code =
      one_row (code == DW_OP_addr.0) (address_read big e.address_size) Address (λ a. refl)
      (one_row (code == DW_OP_const1u.0) (number_read big 1) UnsignedConstant (λ a. refl)
      (one_row (code == DW_OP_const1s.0) (signed_read big 1) SignedConstant (λ a. refl)
      (one_row (code == DW_OP_const2u.0) (number_read big 2) UnsignedConstant (λ a. refl)
      (one_row (code == DW_OP_const2s.0) (signed_read big 2) SignedConstant (λ a. refl)
      (one_row (code == DW_OP_const4u.0) (number_read big 4) UnsignedConstant (λ a. refl)
      (one_row (code == DW_OP_const4s.0) (signed_read big 4) SignedConstant (λ a. refl)
      (one_row (code == DW_OP_const8u.0) (number_read big 8) UnsignedConstant (λ a. refl)
      (one_row (code == DW_OP_const8s.0) (signed_read big 8) SignedConstant (λ a. refl)
      (one_row (code == DW_OP_constu.0) uleb_read UnsignedConstant (λ a. refl)
      (one_row (code == DW_OP_consts.0) sleb_read SignedConstant (λ a. refl)
      (one_row (code == DW_OP_addrx.0) uleb_read AddressIndex (λ a. refl)
      (one_row (code == DW_OP_constx.0) uleb_read ConstantIndex (λ a. refl) none_leaves))))))))))))

  stack_operations_leave : (code : ℕ) → IsWithin (stack_operations big e code)
  unfolding stack_operations
  stack_operations_leave code =
      one_row (code == DW_OP_pick.0) (number_read big 1) Pick (λ a. refl)
      (one_row (code == DW_OP_deref_size.0) (number_read big 1) (DerefSize false) (λ a. refl)
      (one_row (code == DW_OP_xderef_size.0) (number_read big 1) (DerefSize true) (λ a. refl)
      (one_row (code == DW_OP_plus_uconst.0) uleb_read PlusConstant (λ a. refl)
      (one_row (code == DW_OP_bra.0) (signed_read big 2) Branch (λ a. refl)
      (one_row (code == DW_OP_skip.0) (signed_read big 2) Skip (λ a. refl) none_leaves)))))

  entry_operations_leave : (code : ℕ) → IsWithin (entry_operations big e code)
  unfolding entry_operations
  entry_operations_leave code =
      one_row (code == DW_OP_call2.0) (number_read big 2) Call (λ a. refl)
      (one_row (code == DW_OP_call4.0) (number_read big 4) Call (λ a. refl)
      (one_row (code == DW_OP_call_ref.0) (number_read big (word_of e.format)) CallRef (λ a. refl)
      (two_row (code == DW_OP_implicit_pointer.0) (info_place_read big e) sleb_read ImplicitPointer (λ a b. refl)
      (two_row (code == DW_OP_GNU_implicit_pointer.0) (info_place_read big e) sleb_read ImplicitPointer (λ a b. refl)
      (one_row (code == DW_OP_GNU_parameter_ref.0) (number_read big 4) ParameterRef (λ a. refl)
      (one_row (code == DW_OP_GNU_variable_value.0) (number_read big (word_of e.format)) VariableValue (λ a. refl) none_leaves))))))

  typed_operations_leave : (code : ℕ) → IsWithin (typed_operations big e code)
  unfolding typed_operations
  typed_operations_leave code =
      two_row (code == DW_OP_const_type.0) uleb_read (short_block_read big) ConstantType (λ a b. refl)
      (two_row (code == DW_OP_GNU_const_type.0) uleb_read (short_block_read big) ConstantType (λ a b. refl)
      (two_row (code == DW_OP_regval_type.0) uleb16_read uleb_read RegisterType (λ a b. refl)
      (two_row (code == DW_OP_GNU_regval_type.0) uleb16_read uleb_read RegisterType (λ a b. refl)
      (two_row (code == DW_OP_deref_type.0) (number_read big 1) uleb_read (DerefType false) (λ a b. refl)
      (two_row (code == DW_OP_GNU_deref_type.0) (number_read big 1) uleb_read (DerefType false) (λ a b. refl)
      (two_row (code == DW_OP_xderef_type.0) (number_read big 1) uleb_read (DerefType true) (λ a b. refl)
      (one_row (code == DW_OP_convert.0) base_read Convert (λ a. refl)
      (one_row (code == DW_OP_GNU_convert.0) base_read Convert (λ a. refl)
      (one_row (code == DW_OP_reinterpret.0) base_read Reinterpret (λ a. refl)
      (one_row (code == DW_OP_GNU_reinterpret.0) base_read Reinterpret (λ a. refl) none_leaves))))))))))

  location_rows_leave : (code : ℕ) → IsWithin (location_rows big e code)
  unfolding location_rows
  location_rows_leave code =
      one_row (code == DW_OP_regx.0) uleb16_read Register (λ a. refl)
      (one_row (code == DW_OP_fbreg.0) sleb_read FrameOffset (λ a. refl)
      (two_row (code == DW_OP_bregx.0) uleb16_read sleb_read RegisterOffset (λ a b. refl)
      (row_leaves (code == DW_OP_piece.0) piece_read _ (never_leaves piece_read piece_other)
      (two_row (code == DW_OP_bit_piece.0) uleb_read uleb_read BitPiece (λ a b. refl)
      (one_row (code == DW_OP_implicit_value.0) block_read ImplicitValue (λ a. refl)
      (row_leaves (code == DW_OP_entry_value.0) (one block_read EntryValue) _ block_leaves
      (row_leaves (code == DW_OP_GNU_entry_value.0) (one block_read EntryValue) _ block_leaves
      (row_leaves (code == DW_OP_WASM_location.0) (wasm_read big) _ (never_leaves (wasm_read big) (wasm_other big)) none_leaves))))))))

  locations_leave : (code : ℕ) → IsWithin (locations big e code)
  unfolding locations
  locations_leave code = one_row (is_from DW_OP_breg0 code) sleb_read (RegisterOffset (code - DW_OP_breg0.0)) (λ a. refl) (location_rows_leave code)

  behind_leaves : (code : ℕ) → Leaves (behind big e code)
  unfolding behind
  behind_leaves code =
      let none : Read Operation = λ bytes. Err (invalid (record { 0 = code })) in
      let locating : Read Operation = first_of (locations big e code) none in
      let typed : Read Operation = first_of (typed_operations big e code) locating in
      let entry : Read Operation = first_of (entry_operations big e code) typed in
      let stack : Read Operation = first_of (stack_operations big e code) entry in
      let literal : Read Operation = first_of (literals big e code) stack in
      first_leaves (without_operand (plain_of code)) literal (alone_leaves (plain_of code) (plain_alone code))
      (first_leaves (literals big e code) stack (literals_leave code)
      (first_leaves (stack_operations big e code) entry (stack_operations_leave code)
      (first_leaves (entry_operations big e code) typed (entry_operations_leave code)
      (first_leaves (typed_operations big e code) locating (typed_operations_leave code)
      (first_leaves (locations big e code) none (locations_leave code) (never_leaves none (refused_other (invalid (record { 0 = code })))))))))

  read_leaves : (bs inner rest : List ℕ) → operation_read big e bs ≡ Ok (EntryValue inner, rest) → length inner + length rest + 1 < length bs
  unfolding operation_read
  read_leaves bs inner rest h =
      let code = then_parts (number_read big 1 bs) (λ (code : ℕ × List ℕ). behind big e code.0 code.1) (EntryValue inner, rest) h in
      omega (arith, behind_leaves code.0.0 code.0.1 inner rest code.2, byte_passed big bs code.0 code.1)

  was_ok : (r : Given) (x : Operation × List ℕ) → result_ok r ≡ Some x → r ≡ Ok x
  was_ok (Ok y) x h = let q : y ≡ x = cc in ap (λ z. Ok z) q
  was_ok (Err y) x h = absurd (cc)

  pub operation_leaves : (bs inner rest : List ℕ) → operation_at big e bs ≡ Some (EntryValue inner, rest) → length inner + length rest + 1 < length bs
  unfolding operation_at
  operation_leaves bs inner rest h = read_leaves bs inner rest (was_ok (operation_read big e bs) (EntryValue inner, rest) h)

  -- no operation is read from no bytes
  pub no_operation : operation_at big e [] ≡ None
  unfolding operation_at operation_read
  no_operation = ap (λ (r : Result (ℕ × List ℕ) ReadError). result_ok (r =>> λ code. behind big e code.0 code.1)) (no_byte big)
