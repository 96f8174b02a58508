-- An operation takes a byte at least.
use Rattle.std.proofs.Common.{◌≡◌, ◌∙◌, sym, ap, ℕ, ◌-◌, ◌<◌, ◌≤◌, List, [], ◌∷◌, length, take, drop, Bool, true, false, Option, Some, None, Result, Ok, Err, refl, arith, length-drop, nat_le}
use Rattle.std.specs.Prelude.{◌==◌, if◌then◌else◌}
use Rattle.std.specs.Result.{result_ok}
use Rattle.dw_base.specs.Numbers.{when, bytes_at, number_at, value_of, word_of}
use Rattle.dw_base.specs.declared.common.Encoding.{Encoding}
use Rattle.dw_base.specs.declared.constants.TheConstants.{DW_OP_addr, DW_OP_const1u, DW_OP_const1s, DW_OP_const2u, DW_OP_const2s, DW_OP_const4u, DW_OP_const4s, DW_OP_const8u, DW_OP_const8s, DW_OP_constu, DW_OP_consts, DW_OP_addrx, DW_OP_constx, DW_OP_pick, DW_OP_deref_size, DW_OP_xderef_size, DW_OP_plus_uconst, DW_OP_bra, DW_OP_skip, DW_OP_call2, DW_OP_call4, DW_OP_call_ref, DW_OP_implicit_pointer, DW_OP_GNU_implicit_pointer, DW_OP_GNU_parameter_ref, DW_OP_GNU_variable_value, DW_OP_const_type, DW_OP_GNU_const_type, DW_OP_regval_type, DW_OP_GNU_regval_type, DW_OP_deref_type, DW_OP_GNU_deref_type, DW_OP_xderef_type, DW_OP_convert, DW_OP_GNU_convert, DW_OP_reinterpret, DW_OP_GNU_reinterpret, DW_OP_regx, DW_OP_fbreg, DW_OP_bregx, DW_OP_piece, DW_OP_bit_piece, DW_OP_implicit_value, DW_OP_entry_value, DW_OP_GNU_entry_value, DW_OP_WASM_location, DW_OP_breg0}
use Rattle.dw_base.proofs.NumberLaws.{bind_parts, when_same}
use Rattle.dw_read.specs.Reading.{Read}
use Rattle.dw_read.specs.Reasons.{◌=>>◌, or_refuse, if_so, bytes_read, number_read, uleb_read, uleb16_read, sleb_read, address_read}
use Rattle.dw_read.specs.declared.error.ReadError.{ReadError}
use Rattle.dw_read.specs.declared.error.ReadError.TheVariants.{UnexpectedEof, UnsupportedAddressSize, BadLeb128, InvalidPiece}
use Rattle.dw_read.proofs.Items.{then_parts, if_so_parts}
use Rattle.dw_read.proofs.Declared.{uleb_shorter, uleb16_shorter, sleb_shorter}
use Rattle.dw_sources.specs.Operations.{Operation, Address, AddressIndex, ConstantIndex, UnsignedConstant, SignedConstant, ConstantType, FrameOffset, RegisterOffset, RegisterType, Pick, DerefSize, DerefType, PlusConstant, Skip, Branch, Call, CallRef, VariableValue, Convert, Reinterpret, EntryValue, Register, ImplicitValue, ImplicitPointer, Piece, BitPiece, ParameterRef, WasmLocal, WasmGlobal, WasmStack}
use Rattle.dw_sources.specs.Operands.{signed_read, signed_of, uleb32_read, base_read, base_of, block_read, short_block_read, info_place_read}
use Rattle.dw_sources.specs.OperationTable.{one, two, piece_read, wasm_of, wasm_read, invalid, plain_of, literals, stack_operations, entry_operations, typed_operations, location_rows, locations, first_of, without_operand, behind, operation_read, operation_at, is_from}

-- what is read leaves no more bytes than there were
abbrev pub Shortens : {A : Type 0} → Read A → Type 0
Shortens {A} p = (bs : List ℕ) (x : A × List ℕ) → p bs ≡ Ok x → length x.1 ≤ length bs

gives_rest : {A : Type 0} (a : A) (rest : List ℕ) (x : A × List ℕ) → ◌≡◌ {A = Result (A × List ℕ) ReadError} (Ok (a, rest)) (Ok x) → rest ≡ x.1
gives_rest {A} a rest x e = let q : (a, rest) ≡ x = cc in ap (λ (y : A × List ℕ). y.1) q

there : {A : Type 0} (y : ReadError) (o : Option A) (x : A) → or_refuse y o ≡ Ok x → o ≡ Some x
there y None x e = absurd (cc)
there y (Some z) x e = let q : z ≡ x = cc in ap (λ v. Some v) q

bytes_less : (n : ℕ) → Shortens (bytes_read n)
unfolding bytes_read bytes_at
bytes_less n bs x e =
    let s : Some (take n bs, drop n bs) ≡ Some x = when_same (nat_le n (length bs)) (Some (take n bs, drop n bs)) x (there UnexpectedEof _ x e) in
    let q : (take n bs, drop n bs) ≡ x = cc in
    let r : drop n bs ≡ x.1 = ap (λ (y : List ℕ × List ℕ). y.1) q in
    omega (arith, length-drop n bs, ap length r)

number_rest : (big : Bool) (w : ℕ) (bs : List ℕ) (x : ℕ × List ℕ) → number_read big w bs ≡ Ok x → drop w bs ≡ x.1
unfolding number_read number_at bytes_at
number_rest big w bs x e =
    let p = bind_parts (when (nat_le w (length bs)) (Some (take w bs, drop w bs))) (λ (y : List ℕ × List ℕ). Some (value_of big y.0, y.1)) x (there UnexpectedEof _ x e) in
    let s : Some (take w bs, drop w bs) ≡ Some p.0 = when_same (nat_le w (length bs)) (Some (take w bs, drop w bs)) p.0 p.1 in
    let q : (take w bs, drop w bs) ≡ p.0 = cc s in
    let f : Some (value_of big p.0.0, p.0.1) ≡ Some x = p.2 in
    let r : (value_of big p.0.0, p.0.1) ≡ x = cc f in
    ap (λ (y : List ℕ × List ℕ). y.1) q ∙ ap (λ (y : ℕ × List ℕ). y.1) r

number_less : (big : Bool) (w : ℕ) → Shortens (number_read big w)
number_less big w bs x e = omega (arith, length-drop w bs, ap length (number_rest big w bs x e))

-- a byte of none isn't read
pub no_byte : (big : Bool) → number_read big 1 [] ≡ Err UnexpectedEof
unfolding number_read number_at bytes_at
no_byte big = refl

byte_less : (big : Bool) (bs : List ℕ) (x : ℕ × List ℕ) → number_read big 1 bs ≡ Ok x → length x.1 < length bs
byte_less big [] x e = let q : Err UnexpectedEof ≡ Ok x = sym (no_byte big) ∙ e in absurd (cc)
byte_less big (b ∷ bs) x e = omega (arith, length-drop 1 (b ∷ bs), ap length (number_rest big 1 (b ∷ bs) x e))

uleb_less : Shortens uleb_read
uleb_less bs x e = omega (arith, uleb_shorter bs x e)

uleb16_less : Shortens uleb16_read
uleb16_less bs x e = omega (arith, uleb16_shorter bs x e)

sleb_less : Shortens sleb_read
sleb_less bs x e = omega (arith, sleb_shorter bs x e)

address_less : (big : Bool) (w : ℕ) → Shortens (address_read big w)
unfolding address_read
address_less big w bs x e = number_less big w bs x (if_so_parts _ (UnsupportedAddressSize w) (number_read big w bs) x e)

-- what is made of something that was read, and of two things one after the other
module _ {A B : Type 0} (p : Read A) (less : Shortens p) (f : A → B) where
  one_less : (bs : List ℕ) (x : B × List ℕ) → (p bs =>> λ a. Ok (f a.0, a.1)) ≡ Ok x → length x.1 ≤ length bs
  one_less bs x e =
      let s = then_parts (p bs) (λ (a : A × List ℕ). Ok (f a.0, a.1)) x e in
      omega (arith, less bs s.0 s.1, ap length (gives_rest (f s.0.0) s.0.1 x s.2))

module _ {A B C : Type 0} (p : Read A) (less : Shortens p) (q : A → Read B) (fewer : (a : A) → Shortens (q a)) (f : A → B → C) where
  two_less : (bs : List ℕ) (x : C × List ℕ) → (p bs =>> λ a. q a.0 a.1 =>> λ b. Ok (f a.0 b.0, b.1)) ≡ Ok x → length x.1 ≤ length bs
  two_less bs x e =
      let s = then_parts (p bs) (λ (a : A × List ℕ). q a.0 a.1 =>> λ b. Ok (f a.0 b.0, b.1)) x e in
      let t : length x.1 ≤ length s.0.1 = one_less (q s.0.0) (fewer s.0.0) (f s.0.0) s.0.1 x s.2 in
      omega (arith, less bs s.0 s.1, t)

-- what one thing that was read says of the next
module _ {A B : Type 0} (p : Read A) (less : Shortens p) (q : A → Read B) (fewer : (a : A) → Shortens (q a)) where
  next_less : (bs : List ℕ) (x : B × List ℕ) → (p bs =>> λ a. q a.0 a.1) ≡ Ok x → length x.1 ≤ length bs
  next_less bs x e =
      let s = then_parts (p bs) (λ (a : A × List ℕ). q a.0 a.1) x e in
      omega (arith, less bs s.0 s.1, fewer s.0.0 s.0.1 x s.2)

signed_less : (big : Bool) (w : ℕ) → Shortens (signed_read big w)
unfolding signed_read
signed_less big w bs x e = one_less (number_read big w) (number_less big w) (signed_of w) bs x e

uleb32_less : Shortens uleb32_read
unfolding uleb32_read
uleb32_less bs x e =
    let s = then_parts (uleb_read bs) (λ (a : ℕ × List ℕ). if_so _ BadLeb128 (Ok a)) x e in
    let t = if_so_parts _ BadLeb128 (Ok s.0) x s.2 in
    omega (arith, uleb_less bs s.0 s.1, ap length (gives_rest s.0.0 s.0.1 x t))

base_less : Shortens base_read
unfolding base_read
base_less bs x e = one_less uleb_read uleb_less base_of bs x e

block_less : Shortens block_read
unfolding block_read
block_less bs x e = next_less uleb_read uleb_less bytes_read bytes_less bs x e

short_block_less : (big : Bool) → Shortens (short_block_read big)
unfolding short_block_read
short_block_less big bs x e = next_less (number_read big 1) (number_less big 1) bytes_read bytes_less bs x e

either_less : {A : Type 0} (b : Bool) (p q : Read A) → Shortens p → Shortens q → Shortens (λ bs. if b then p bs else q bs)
either_less true p q f g = f
either_less false p q f g = g

info_place_less : (big : Bool) (e : Encoding) → Shortens (info_place_read big e)
unfolding info_place_read
info_place_less big e bs x h = either_less (e.version == 2) (address_read big e.address_size) (number_read big _) (address_less big e.address_size) (number_less big _) bs x h

one_op : {A : Type 0} (p : Read A) → Shortens p → (f : A → Operation) → Shortens (one p f)
one_op p less f bs x e = one_less p less f bs x e

two_ops : {A B : Type 0} (p : Read A) → Shortens p → (q : Read B) → Shortens q → (f : A → B → Operation) → Shortens (two p q f)
two_ops {A} p less q fewer f bs x e = two_less p less (λ (a : A). q) (λ (a : A). fewer) f bs x e

piece_less : Shortens piece_read
piece_less bs x e =
    let s = then_parts (uleb_read bs) (λ (n : ℕ × List ℕ). if_so _ InvalidPiece (Ok (Piece n.0, n.1))) x e in
    let t = if_so_parts _ InvalidPiece (Ok (Piece s.0.0, s.0.1)) x s.2 in
    omega (arith, uleb_less bs s.0 s.1, ap length (gives_rest (Piece s.0.0) s.0.1 x t))

refused_less : {A : Type 0} (y : ReadError) → Shortens {A = A} (λ bs. Err y)
refused_less y bs x e = absurd (cc)

wasm_kind_less : (big : Bool) (kind : ℕ) → Shortens (wasm_of big kind)
wasm_kind_less big kind bs x e =
    either_less (kind == 0) (one uleb32_read WasmLocal) (λ ys. if kind == 1 then one uleb32_read WasmGlobal ys else if kind == 2 then one uleb32_read WasmStack ys else if kind == 3 then one (number_read big 4) WasmGlobal ys else Err (invalid _)) (one_op uleb32_read uleb32_less WasmLocal)
    (either_less (kind == 1) (one uleb32_read WasmGlobal) (λ ys. if kind == 2 then one uleb32_read WasmStack ys else if kind == 3 then one (number_read big 4) WasmGlobal ys else Err (invalid _)) (one_op uleb32_read uleb32_less WasmGlobal)
    (either_less (kind == 2) (one uleb32_read WasmStack) (λ ys. if kind == 3 then one (number_read big 4) WasmGlobal ys else Err (invalid _)) (one_op uleb32_read uleb32_less WasmStack)
    (either_less (kind == 3) (one (number_read big 4) WasmGlobal) (λ ys. Err (invalid _)) (one_op (number_read big 4) (number_less big 4) WasmGlobal) (refused_less (invalid _))))) bs x e

wasm_less : (big : Bool) → Shortens (wasm_read big)
unfolding wasm_read
wasm_less big bs x e = next_less (number_read big 1) (number_less big 1) (wasm_of big) (wasm_kind_less big) bs x e

-- each row of a table does
-- so does what a table has, where it has something
abbrev HoldsLess : Option (Read Operation) → Type 0
HoldsLess None = Unit {0}
HoldsLess (Some p) = Shortens p

record IsLess (o : Option (Read Operation)) : Type 0 where
  holds : HoldsLess o

none_less : IsLess None
none_less = record { holds = tt }

row_less : (b : Bool) (p : Read Operation) (o : Option (Read Operation)) → Shortens p → IsLess o → IsLess (if b then Some p else o)
row_less true p o h k = record { holds = h }
row_less false p o h k = k

first_less : (o : Option (Read Operation)) (more : Read Operation) → IsLess o → Shortens more → Shortens (first_of o more)
first_less None more h k = k
first_less (Some p) more h k = h.holds

alone_less : (o : Option Operation) → IsLess (without_operand o)
alone_less None = none_less
alone_less (Some o) = record { holds = λ bs x e. omega (arith, ap length (gives_rest o bs x e)) }

module _ (big : Bool) (e : Encoding) where
  literals_less : (code : ℕ) → IsLess (literals big e code)
  unfolding literals
  literals_less code =
      row_less (code == DW_OP_addr.0) (one (address_read big e.address_size) Address) _ (one_op (address_read big e.address_size) (address_less big e.address_size) Address)
      (row_less (code == DW_OP_const1u.0) (one (number_read big 1) UnsignedConstant) _ (one_op (number_read big 1) (number_less big 1) UnsignedConstant)
      (row_less (code == DW_OP_const1s.0) (one (signed_read big 1) SignedConstant) _ (one_op (signed_read big 1) (signed_less big 1) SignedConstant)
      (row_less (code == DW_OP_const2u.0) (one (number_read big 2) UnsignedConstant) _ (one_op (number_read big 2) (number_less big 2) UnsignedConstant)
      (row_less (code == DW_OP_const2s.0) (one (signed_read big 2) SignedConstant) _ (one_op (signed_read big 2) (signed_less big 2) SignedConstant)
      (row_less (code == DW_OP_const4u.0) (one (number_read big 4) UnsignedConstant) _ (one_op (number_read big 4) (number_less big 4) UnsignedConstant)
      (row_less (code == DW_OP_const4s.0) (one (signed_read big 4) SignedConstant) _ (one_op (signed_read big 4) (signed_less big 4) SignedConstant)
      (row_less (code == DW_OP_const8u.0) (one (number_read big 8) UnsignedConstant) _ (one_op (number_read big 8) (number_less big 8) UnsignedConstant)
      (row_less (code == DW_OP_const8s.0) (one (signed_read big 8) SignedConstant) _ (one_op (signed_read big 8) (signed_less big 8) SignedConstant)
      (row_less (code == DW_OP_constu.0) (one uleb_read UnsignedConstant) _ (one_op uleb_read uleb_less UnsignedConstant)
      (row_less (code == DW_OP_consts.0) (one sleb_read SignedConstant) _ (one_op sleb_read sleb_less SignedConstant)
      (row_less (code == DW_OP_addrx.0) (one uleb_read AddressIndex) _ (one_op uleb_read uleb_less AddressIndex)
      (row_less (code == DW_OP_constx.0) (one uleb_read ConstantIndex) _ (one_op uleb_read uleb_less ConstantIndex) none_less))))))))))))

  stack_operations_less : (code : ℕ) → IsLess (stack_operations big e code)
  unfolding stack_operations
  stack_operations_less code =
      row_less (code == DW_OP_pick.0) (one (number_read big 1) Pick) _ (one_op (number_read big 1) (number_less big 1) Pick)
      (row_less (code == DW_OP_deref_size.0) (one (number_read big 1) (DerefSize false)) _ (one_op (number_read big 1) (number_less big 1) (DerefSize false))
      (row_less (code == DW_OP_xderef_size.0) (one (number_read big 1) (DerefSize true)) _ (one_op (number_read big 1) (number_less big 1) (DerefSize true))
      (row_less (code == DW_OP_plus_uconst.0) (one uleb_read PlusConstant) _ (one_op uleb_read uleb_less PlusConstant)
      (row_less (code == DW_OP_bra.0) (one (signed_read big 2) Branch) _ (one_op (signed_read big 2) (signed_less big 2) Branch)
      (row_less (code == DW_OP_skip.0) (one (signed_read big 2) Skip) _ (one_op (signed_read big 2) (signed_less big 2) Skip) none_less)))))

  entry_operations_less : (code : ℕ) → IsLess (entry_operations big e code)
  unfolding entry_operations
  entry_operations_less code =
      row_less (code == DW_OP_call2.0) (one (number_read big 2) Call) _ (one_op (number_read big 2) (number_less big 2) Call)
      (row_less (code == DW_OP_call4.0) (one (number_read big 4) Call) _ (one_op (number_read big 4) (number_less big 4) Call)
      (row_less (code == DW_OP_call_ref.0) (one (number_read big (word_of e.format)) CallRef) _ (one_op (number_read big (word_of e.format)) (number_less big (word_of e.format)) CallRef)
      (row_less (code == DW_OP_implicit_pointer.0) (two (info_place_read big e) sleb_read ImplicitPointer) _ (two_ops (info_place_read big e) (info_place_less big e) sleb_read sleb_less ImplicitPointer)
      (row_less (code == DW_OP_GNU_implicit_pointer.0) (two (info_place_read big e) sleb_read ImplicitPointer) _ (two_ops (info_place_read big e) (info_place_less big e) sleb_read sleb_less ImplicitPointer)
      (row_less (code == DW_OP_GNU_parameter_ref.0) (one (number_read big 4) ParameterRef) _ (one_op (number_read big 4) (number_less big 4) ParameterRef)
      (row_less (code == DW_OP_GNU_variable_value.0) (one (number_read big (word_of e.format)) VariableValue) _ (one_op (number_read big (word_of e.format)) (number_less big (word_of e.format)) VariableValue) none_less))))))

  typed_operations_less : (code : ℕ) → IsLess (typed_operations big e code)
  unfolding typed_operations
  typed_operations_less code =
      row_less (code == DW_OP_const_type.0) (two uleb_read (short_block_read big) ConstantType) _ (two_ops uleb_read uleb_less (short_block_read big) (short_block_less big) ConstantType)
      (row_less (code == DW_OP_GNU_const_type.0) (two uleb_read (short_block_read big) ConstantType) _ (two_ops uleb_read uleb_less (short_block_read big) (short_block_less big) ConstantType)
      (row_less (code == DW_OP_regval_type.0) (two uleb16_read uleb_read RegisterType) _ (two_ops uleb16_read uleb16_less uleb_read uleb_less RegisterType)
      (row_less (code == DW_OP_GNU_regval_type.0) (two uleb16_read uleb_read RegisterType) _ (two_ops uleb16_read uleb16_less uleb_read uleb_less RegisterType)
      (row_less (code == DW_OP_deref_type.0) (two (number_read big 1) uleb_read (DerefType false)) _ (two_ops (number_read big 1) (number_less big 1) uleb_read uleb_less (DerefType false))
      (row_less (code == DW_OP_GNU_deref_type.0) (two (number_read big 1) uleb_read (DerefType false)) _ (two_ops (number_read big 1) (number_less big 1) uleb_read uleb_less (DerefType false))
      (row_less (code == DW_OP_xderef_type.0) (two (number_read big 1) uleb_read (DerefType true)) _ (two_ops (number_read big 1) (number_less big 1) uleb_read uleb_less (DerefType true))
      (row_less (code == DW_OP_convert.0) (one base_read Convert) _ (one_op base_read base_less Convert)
      (row_less (code == DW_OP_GNU_convert.0) (one base_read Convert) _ (one_op base_read base_less Convert)
      (row_less (code == DW_OP_reinterpret.0) (one base_read Reinterpret) _ (one_op base_read base_less Reinterpret)
      (row_less (code == DW_OP_GNU_reinterpret.0) (one base_read Reinterpret) _ (one_op base_read base_less Reinterpret) none_less))))))))))

  location_rows_less : (code : ℕ) → IsLess (location_rows big e code)
  unfolding location_rows
  location_rows_less code =
      row_less (code == DW_OP_regx.0) (one uleb16_read Register) _ (one_op uleb16_read uleb16_less Register)
      (row_less (code == DW_OP_fbreg.0) (one sleb_read FrameOffset) _ (one_op sleb_read sleb_less FrameOffset)
      (row_less (code == DW_OP_bregx.0) (two uleb16_read sleb_read RegisterOffset) _ (two_ops uleb16_read uleb16_less sleb_read sleb_less RegisterOffset)
      (row_less (code == DW_OP_piece.0) (piece_read) _ (piece_less)
      (row_less (code == DW_OP_bit_piece.0) (two uleb_read uleb_read BitPiece) _ (two_ops uleb_read uleb_less uleb_read uleb_less BitPiece)
      (row_less (code == DW_OP_implicit_value.0) (one block_read ImplicitValue) _ (one_op block_read block_less ImplicitValue)
      (row_less (code == DW_OP_entry_value.0) (one block_read EntryValue) _ (one_op block_read block_less EntryValue)
      (row_less (code == DW_OP_GNU_entry_value.0) (one block_read EntryValue) _ (one_op block_read block_less EntryValue)
      (row_less (code == DW_OP_WASM_location.0) (wasm_read big) _ (wasm_less big) none_less))))))))

  locations_less : (code : ℕ) → IsLess (locations big e code)
  unfolding locations
  locations_less code = row_less (is_from DW_OP_breg0 code) (one sleb_read (RegisterOffset (code - DW_OP_breg0.0))) _ (one_op sleb_read sleb_less (RegisterOffset (code - DW_OP_breg0.0))) (location_rows_less code)

  behind_less : (code : ℕ) → Shortens (behind big e code)
  unfolding behind
  behind_less code =
      let none : Read Operation = λ bytes. Err (invalid (record { 0 = code })) in
      let locating : Read Operation = first_of (locations big e code) none in
      let typed : Read Operation = first_of (typed_operations big e code) locating in
      let entry : Read Operation = first_of (entry_operations big e code) typed in
      let stack : Read Operation = first_of (stack_operations big e code) entry in
      let literal : Read Operation = first_of (literals big e code) stack in
      first_less (without_operand (plain_of code)) literal (alone_less (plain_of code))
      (first_less (literals big e code) stack (literals_less code)
      (first_less (stack_operations big e code) entry (stack_operations_less code)
      (first_less (entry_operations big e code) typed (entry_operations_less code)
      (first_less (typed_operations big e code) locating (typed_operations_less code)
      (first_less (locations big e code) none (locations_less code) (refused_less (invalid (record { 0 = code }))))))))

  -- an operation is read from bytes, and fewer are left behind it
  pub no_operation : operation_at big e [] ≡ None
  unfolding operation_at operation_read
  no_operation = ap (λ (r : Result (ℕ × List ℕ) ReadError). result_ok (r =>> λ code. behind big e code.0 code.1)) (no_byte big)

  read_less : (bs : List ℕ) (x : Operation × List ℕ) → operation_read big e bs ≡ Ok x → length x.1 < length bs
  unfolding operation_read
  read_less bs x h =
      let s = then_parts (number_read big 1 bs) (λ (code : ℕ × List ℕ). behind big e code.0 code.1) x h in
      omega (arith, byte_less big bs s.0 s.1, behind_less s.0.0 s.0.1 x s.2)

  was_ok : (r : Result (Operation × List ℕ) ReadError) (x : Operation × List ℕ) → result_ok r ≡ Some x → r ≡ Ok x
  was_ok (Ok y) x h = let q : y ≡ x = cc in ap (λ z. Ok z) q
  was_ok (Err y) x h = absurd (cc)

  pub operation_less : (bs : List ℕ) (x : Operation × List ℕ) → operation_at big e bs ≡ Some x → length x.1 < length bs
  unfolding operation_at
  operation_less bs x h = read_less bs x (was_ok (operation_read big e bs) x h)
