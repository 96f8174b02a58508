-- What is written of an operation is read as it.
use Rattle.std.proofs.Common.{◌≡◌, ◌∙◌, sym, ap, subst, refl, ℕ, ◌+◌, ◌*◌, ◌^◌, ◌<◌, Bool, true, false, ◌&&◌, List, [], ◌∷◌, ◌++◌, length, Option, Some, None, Ok, Err, ℤ, IsTrue, IsFalse, nat_lt, cond, arith}
use Rattle.std.specs.Result.{result_ok}
use Rattle.std.specs.Option.{is_some}
use Rattle.std.specs.Prelude.{◌==◌}
use Rattle.std.proofs.lemmas.Bool.{ltb-true, eqb-true, cond_both}
use Rattle.dw_writer.proofs.Parts.{followed-nothing}
use Rattle.dw_read.specs.declared.error.ReadError.TheVariants.{InvalidPiece}
use Rattle.dw_read_back.proofs.Codes.{code_plain, plain_row, literal_row, register_row, register_offset_row}
use Rattle.dw_base.specs.Numbers.{◌>>=◌, word_of}
use Rattle.dw_base.specs.Leb128.{uleb, sleb}
use Rattle.dw_base.specs.declared.common.Encoding.{Encoding}
use Rattle.dw_base.specs.declared.constants.TheConstants.{DW_OP_addr, DW_OP_constu, DW_OP_consts, DW_OP_dup, DW_OP_over, DW_OP_pick, DW_OP_plus_uconst, DW_OP_bra, DW_OP_skip, DW_OP_lit0, DW_OP_reg0, DW_OP_breg0, DW_OP_regx, DW_OP_fbreg, DW_OP_bregx, DW_OP_piece, DW_OP_call4, DW_OP_call_ref, DW_OP_bit_piece, DW_OP_WASM_location, DW_OP_GNU_parameter_ref, DW_OP_GNU_variable_value}
use Rattle.dw_writer.specs.Texts.{Text, followed, num_text}
use Rattle.dw_writer.specs.SectionTexts.{bytes_text, address_text}
use Rattle.dw_writer.specs.Meaning.{Layout}
use Rattle.dw_writer.specs.Drafts.{Info, then_draft}
use Rattle.dw_expr.specs.Trees.{Plain, Node, Tree, plain, entry_value, nothing, before, nodes_of, Raw, Simple, Address, UnsignedConstant, SignedConstant, ConstantType, FrameOffset, RegisterOffset, RegisterType, Pick, Deref, DerefSize, DerefType, PlusConstant, Skip, Branch, Call, CallRef, VariableValue, Convert, Reinterpret, Register, ImplicitValue, ImplicitPointer, Piece, BitPiece, ParameterRef, WasmLocal, WasmGlobal, WasmStack}
use Rattle.dw_expr.specs.Operands.{Operand, Byte, Uleb, Sleb, operands, entry_value_code}
use Rattle.dw_expr.specs.Spelling.{place_draft, operands_draft, node_part, tree_parts, parts_of, parts_draft, parts_size, starts_from, expression}
use Rattle.dw_expr.proofs.ExpressionDrafts.{expression-wide}
use Rattle.dw_read.specs.Reading.{Read}
use Rattle.dw_read.specs.Reasons.{◌=>>◌, if_so, number_read, uleb_read, uleb16_read, sleb_read, address_read}
use Rattle.dw_sources.specs.Operations.{Operation}
use Rattle.dw_sources.specs.Operations as read
use Rattle.dw_sources.specs.Operands.{signed_read, uleb32_read, base_read, block_read, short_block_read, info_place_read}
use Rattle.dw_sources.specs.OperationTable.{one, two, piece_read, wasm_of, wasm_read, behind, operation_read, operation_at}
use Rattle.dw_read_back.specs.ReadAs.{made, code_as, address_as, info_as, distance_as, base_as, plain_as, node_as, nodes_as, is_plain_read, is_read, are_read}
use Rattle.dw_read_back.specs.ReadBack.{ArePlaces, HavePlainWidths, HaveWidths, HaveAllWidths, IsReadAs, OperationsReadBack, AreReadAs, ExpressionsReadBack, NestedReadBack, LongPiecesAreUnread}
use Rattle.dw_read_back.proofs.Numbers.{IsAgain, Again, again_bytes, again_last, one_again, two_again, followed_parts, byte_read, byte_again, uleb_again, uleb16_again, uleb32_again, sleb_again, place_again, block_again, sized_block_again, short_block_again}
use Rattle.dw_read_back.proofs.Operands.{target_again, info_again, info_place_again, unit_place_again, base_or_generic_again, distance_again}
use Rattle.dw_read_back.proofs.Rows.{IsRow, alone, addr_row, constu_row, consts_row, pick_row, deref_row, dup_row, over_row, deref_size_row, plus_uconst_row, skip_row, bra_row, call4_row, call_ref_row, variable_value_row, parameter_ref_row, implicit_pointer_row, const_type_row, regval_type_row, deref_type_row, convert_row, reinterpret_row, entry_value_row, regx_row, fbreg_row, bregx_row, piece_row, bit_piece_row, implicit_value_row, wasm_row}

-- bytes behind their number, in front of nothing
again_block : (q : Read (List ℕ)) (v : Option (List ℕ)) (t u : Text) → Again (List ℕ) q v (followed t u) → Again (List ℕ) q v (followed t (followed u (Some [])))
again_block q v t u h = subst (λ w. Again (List ℕ) q v (followed t w)) (sym (followed-nothing u)) h

-- a piece whose bits are a number of 64 bits
piece_again : (n : ℕ) → IsTrue (nat_lt (n * 8) (2 ^ 64)) → Again Operation piece_read (Some (read.Piece n)) (Some (uleb n))
piece_again n h bytes is =
    let small : n * 8 < 2 ^ 64 = ltb-true _ _ h in
    let a = uleb_again n (omega (arith, small)) bytes is in
    let same : a.value ≡ n = let x : Some n ≡ Some a.value = a.is in cc in
    record {
      value = read.Piece n;
      is = refl;
      reads = λ rest.
          ap (λ r. r =>> λ x. if_so (nat_lt (x.0 * 8) (2 ^ 64)) InvalidPiece (Ok (read.Piece x.0, x.1))) (a.reads rest ∙ ap (λ x. Ok (x, rest)) same)
          ∙ ap (λ b. if_so b InvalidPiece (Ok (read.Piece n, rest))) h;
    }

wasm_again : (big : Bool) (kind n : ℕ) (f : ℕ → Operation) {t : Text} → ((bytes : List ℕ) → wasm_of big kind bytes ≡ one uleb32_read f bytes) → Again ℕ uleb32_read (Some n) t →
    Again Operation (wasm_read big) (Some (f n)) (followed (Some (kind ∷ [])) t)
unfolding wasm_read
wasm_again big kind n f {t} is h bytes e =
    let s = followed_parts (Some (kind ∷ [])) t bytes e in
    let a = one_again ℕ uleb32_read f (Some n) t h s.1 s.3 in
    let code : kind ∷ [] ≡ s.0 = cc in
    record {
      value = a.value;
      is = a.is;
      reads = λ rest.
          ap (λ xs. wasm_read big (xs ++ rest)) (sym s.4 ∙ ap (λ xs. xs ++ s.1) (sym code))
          ∙ ap (λ r. r =>> λ x. wasm_of big x.0 x.1) (byte_read big kind (s.1 ++ rest))
          ∙ is (s.1 ++ rest)
          ∙ a.reads rest;
    }

module _ (big : Bool) (e : Encoding) where
  -- a code, and what its row reads behind it
  code_read : (c : ℕ) (q : Read Operation) → IsRow big e c q → (more bytes rest : List ℕ) → c ∷ more ≡ bytes → operation_read big e (bytes ++ rest) ≡ q (more ++ rest)
  unfolding operation_read
  code_read c q row more bytes rest is =
      ap (λ xs. operation_read big e (xs ++ rest)) (sym is) ∙ ap (λ r. r =>> λ x. behind big e x.0 x.1) (byte_read big c (more ++ rest)) ∙ row (more ++ rest)

  -- what stands behind a code
  code_parts : (c : ℕ) (t : Text) (bytes : List ℕ) → followed (Some (c ∷ [])) t ≡ Some bytes → (more : List ℕ) × (t ≡ Some more) × (c ∷ more ≡ bytes)
  code_parts c t bytes is =
      let s = followed_parts (Some (c ∷ [])) t bytes is in
      let code : c ∷ [] ≡ s.0 = cc in
      (s.1, s.3, ap (λ xs. xs ++ s.1) code ∙ s.4)

  after_code : (c : ℕ) (q : Read Operation) (v : Option Operation) (t : Text) → IsRow big e c q → Again Operation q v t → Again Operation (operation_read big e) v (followed (Some (c ∷ [])) t)
  after_code c q v t row h bytes is =
      let s = code_parts c t bytes is in
      let a = h s.0 s.1 in
      record { value = a.value; is = a.is; reads = λ rest. code_read c q row s.0 bytes rest s.2 ∙ a.reads rest }

  alone_again : (c : ℕ) (o : Operation) → IsRow big e c (alone o) → Again Operation (operation_read big e) (Some o) (followed (Some (c ∷ [])) (Some []))
  alone_again c o row = after_code c (alone o) (Some o) (Some []) row (again_bytes Operation (alone o) o [] (λ rest. refl))

  -- a code and one operand
  one_after : (A : Type 0) (c : ℕ) (p : Read A) (f : A → Operation) (v : Option A) (t : Text) → IsRow big e c (one p f) → Again A p v t →
      Again Operation (operation_read big e) (made v f) (followed (Some (c ∷ [])) (followed t (Some [])))
  one_after A c p f v t row h = after_code c (one p f) (made v f) (followed t (Some [])) row (one_again A p f v (followed t (Some [])) (again_last A p v t h))

  -- a code and two operands
  two_after : (A B : Type 0) (c : ℕ) (p : Read A) (q : Read B) (f : A → B → Operation) (v : Option A) (w : Option B) (t u : Text) → IsRow big e c (two p q f) → Again A p v t → Again B q w u →
      Again Operation (operation_read big e) (v >>= λ a. w >>= λ b. Some (f a b)) (followed (Some (c ∷ [])) (followed t (followed u (Some []))))
  two_after A B c p q f v w t u row h k =
      after_code c (two p q f) (v >>= λ a. w >>= λ b. Some (f a b)) (followed t (followed u (Some []))) row
      (two_again A B p q f v w t (followed u (Some [])) h (again_last B q w u k))

  -- an operation that is its code
  code_again : (code : ℕ) → IsTrue (is_some (code_as code)) → Again Operation (operation_read big e) (code_as code) (followed (Some (code ∷ [])) (Some []))
  code_again code h = by (code_as code) h refl
    where
      by : (o : Option Operation) → IsTrue (is_some o) → code_as code ≡ o → Again Operation (operation_read big e) o (followed (Some (code ∷ [])) (Some []))
      by None k is = absurd (let x : false ≡ true = k in cc)
      by (Some o) k is = alone_again code o (plain_row big e code o (code_plain code h ∙ is))

  -- a location of WebAssembly: a byte that says what it is in, and its index
  wasm_after : (kind n : ℕ) (f : ℕ → Operation) → ((bytes : List ℕ) → wasm_of big kind bytes ≡ one uleb32_read f bytes) → n < 2 ^ 32 →
      Again Operation (operation_read big e) (Some (f n)) (followed (Some (DW_OP_WASM_location.0 ∷ [])) (followed (Some (kind ∷ [])) (followed (Some (uleb n)) (Some []))))
  wasm_after kind n f is h =
      after_code DW_OP_WASM_location.0 (wasm_read big) (Some (f n)) (followed (Some (kind ∷ [])) (followed (Some (uleb n)) (Some []))) (wasm_row big e)
      (wasm_again big kind n f is (again_last ℕ uleb32_read (Some n) (Some (uleb n)) (uleb32_again n h)))

module _ (e : Encoding) (place : ℕ → Option ℕ) (info : Info) (big : Bool) (l : Layout) (starts : List ℕ) (to : ℕ) (are : ArePlaces place) where
  -- operands one behind another are read as an operation
  abbrev AreAgain : Option Operation → List Operand → Type 0
  AreAgain o os = Again Operation (operation_read big e) o ((operands_draft e place starts to os).text info big l)

  plain_again : (p : Plain) → IsTrue (is_plain_read p) → HavePlainWidths p → AreAgain (plain_as e place info big l starts to p) (operands e p)
  unfolding then_draft bytes_text
  plain_again (Address a) h k = one_after big e ℕ DW_OP_addr.0 (address_read big e.address_size) read.Address (address_as l a) (address_text e.address_size a big l) (addr_row big e) (target_again big e.address_size l a)
  plain_again (SignedConstant z) h k = one_after big e ℤ DW_OP_consts.0 sleb_read read.SignedConstant (Some z) _ (consts_row big e) (sleb_again z k)
  plain_again (FrameOffset z) h k = one_after big e ℤ DW_OP_fbreg.0 sleb_read read.FrameOffset (Some z) _ (fbreg_row big e) (sleb_again z k)
  plain_again (Deref space) h k = alone_again big e _ (read.Deref space) (deref_row big e space)
  plain_again (PlusConstant n) h k = one_after big e ℕ DW_OP_plus_uconst.0 uleb_read read.PlusConstant (Some n) _ (plus_uconst_row big e) (uleb_again n k)
  plain_again (Raw bytes) h k = absurd (let x : false ≡ true = h in cc)
  plain_again (Simple code) h k = code_again big e code.0 h
  plain_again (UnsignedConstant n) h k =
      cond_both (nat_lt n 32) (Byte (DW_OP_lit0.0 + n) ∷ []) (Byte DW_OP_constu.0 ∷ Uleb n ∷ []) (AreAgain (Some (read.UnsignedConstant n)))
      (λ s. alone_again big e (DW_OP_lit0.0 + n) (read.UnsignedConstant n) (literal_row big e n (ltb-true n 32 s)))
      (λ s. one_after big e ℕ DW_OP_constu.0 uleb_read read.UnsignedConstant (Some n) (Some (uleb n)) (constu_row big e) (uleb_again n k))
  plain_again (Register r) h k =
      cond_both (nat_lt r.0 32) (Byte (DW_OP_reg0.0 + r.0) ∷ []) (Byte DW_OP_regx.0 ∷ Uleb r.0 ∷ []) (AreAgain (Some (read.Register r.0)))
      (λ s. alone_again big e (DW_OP_reg0.0 + r.0) (read.Register r.0) (register_row big e r.0 (ltb-true r.0 32 s)))
      (λ s. one_after big e ℕ DW_OP_regx.0 uleb16_read read.Register (Some r.0) (Some (uleb r.0)) (regx_row big e) (uleb16_again r.0 k))
  plain_again (RegisterOffset r z) h k =
      cond_both (nat_lt r.0 32) (Byte (DW_OP_breg0.0 + r.0) ∷ []) (Byte DW_OP_bregx.0 ∷ Uleb r.0 ∷ []) (λ os. AreAgain (Some (read.RegisterOffset r.0 z)) (os ++ Sleb z ∷ []))
      (λ s. one_after big e ℤ (DW_OP_breg0.0 + r.0) sleb_read (read.RegisterOffset r.0) (Some z) (Some (sleb z)) (register_offset_row big e r.0 (ltb-true r.0 32 s)) (sleb_again z k.1))
      (λ s. two_after big e ℕ ℤ DW_OP_bregx.0 uleb16_read sleb_read read.RegisterOffset (Some r.0) (Some z) (Some (uleb r.0)) (Some (sleb z)) (bregx_row big e) (uleb16_again r.0 k.0) (sleb_again z k.1))
  plain_again (ConstantType base bytes) h k =
      after_code big e _ _ _ _ (const_type_row big e)
      (two_again ℕ (List ℕ) uleb_read (short_block_read big) read.ConstantType (place base.0) (Some bytes) ((place_draft (place base.0)).text info big l) _
      (unit_place_again place base.0 are info big l) (again_block (short_block_read big) (Some bytes) (num_text big 1 (length bytes)) (Some bytes) (short_block_again big bytes)))
  plain_again (RegisterType r base) h k =
      two_after big e ℕ ℕ _ uleb16_read uleb_read read.RegisterType (Some r.0) (place base.0) _ ((place_draft (place base.0)).text info big l) (regval_type_row big e) (uleb16_again r.0 k) (unit_place_again place base.0 are info big l)
  plain_again (Pick n) h k =
      let other = cond (n == 1) (Byte DW_OP_over.0 ∷ []) (Byte DW_OP_pick.0 ∷ Byte n ∷ []) in
      cond_both (n == 0) (Byte DW_OP_dup.0 ∷ []) other (AreAgain (Some (read.Pick n)))
      (λ s. subst (λ (m : ℕ). AreAgain (Some (read.Pick m)) (Byte DW_OP_dup.0 ∷ [])) (sym (eqb-true n 0 s)) (alone_again big e DW_OP_dup.0 (read.Pick 0) (dup_row big e)))
      (λ f. cond_both (n == 1) (Byte DW_OP_over.0 ∷ []) (Byte DW_OP_pick.0 ∷ Byte n ∷ []) (AreAgain (Some (read.Pick n)))
      (λ s. subst (λ (m : ℕ). AreAgain (Some (read.Pick m)) (Byte DW_OP_over.0 ∷ [])) (sym (eqb-true n 1 s)) (alone_again big e DW_OP_over.0 (read.Pick 1) (over_row big e)))
      (λ s. one_after big e ℕ DW_OP_pick.0 (number_read big 1) read.Pick (Some n) (Some (n ∷ [])) (pick_row big e) (byte_again big n)))
  plain_again (DerefSize space size) h k = one_after big e ℕ _ (number_read big 1) (read.DerefSize space) (Some size) _ (deref_size_row big e space) (byte_again big size)
  plain_again (DerefType space size base) h k =
      two_after big e ℕ ℕ _ (number_read big 1) uleb_read (read.DerefType space) (Some size) (place base.0) _ ((place_draft (place base.0)).text info big l) (deref_type_row big e space) (byte_again big size) (unit_place_again place base.0 are info big l)
  plain_again (Skip target) h k = one_after big e ℤ DW_OP_skip.0 (signed_read big 2) read.Skip (distance_as starts to target) _ (skip_row big e) (distance_again big starts to target)
  plain_again (Branch target) h k = one_after big e ℤ DW_OP_bra.0 (signed_read big 2) read.Branch (distance_as starts to target) _ (bra_row big e) (distance_again big starts to target)
  plain_again (Call entry) h k = one_after big e ℕ DW_OP_call4.0 (number_read big 4) read.Call (place entry.0) _ (call4_row big e) (place_again big 4 (place entry.0))
  plain_again (ParameterRef entry) h k = one_after big e ℕ DW_OP_GNU_parameter_ref.0 (number_read big 4) read.ParameterRef (place entry.0) _ (parameter_ref_row big e) (place_again big 4 (place entry.0))
  plain_again (CallRef r) h k = one_after big e ℕ DW_OP_call_ref.0 (number_read big (word_of e.format)) read.CallRef (info_as info r) _ (call_ref_row big e) (info_again big (word_of e.format) info l r)
  plain_again (VariableValue r) h k =
      one_after big e ℕ DW_OP_GNU_variable_value.0 (number_read big (word_of e.format)) read.VariableValue (info_as info r) _ (variable_value_row big e) (info_again big (word_of e.format) info l r)
  plain_again (Convert base) h k = one_after big e (Option ℕ) _ base_read read.Convert (base_as place base) _ (convert_row big e) (base_or_generic_again e place base are info big l starts to)
  plain_again (Reinterpret base) h k = one_after big e (Option ℕ) _ base_read read.Reinterpret (base_as place base) _ (reinterpret_row big e) (base_or_generic_again e place base are info big l starts to)
  plain_again (ImplicitValue bytes) h k = after_code big e _ _ _ _ (implicit_value_row big e) (one_again (List ℕ) block_read read.ImplicitValue (Some bytes) _ (again_block block_read (Some bytes) (Some (uleb (length bytes))) (Some bytes) (block_again bytes k)))
  plain_again (ImplicitPointer r z) h k =
      two_after big e ℕ ℤ _ (info_place_read big e) sleb_read read.ImplicitPointer (info_as info r) (Some z) _ _ (implicit_pointer_row big e) (info_place_again big e info l r) (sleb_again z k)
  plain_again (Piece n) h k = after_code big e DW_OP_piece.0 piece_read (Some (read.Piece n)) _ (piece_row big e) (again_last Operation piece_read (Some (read.Piece n)) _ (piece_again n h))
  plain_again (BitPiece n m) h k = two_after big e ℕ ℕ DW_OP_bit_piece.0 uleb_read uleb_read read.BitPiece (Some n) (Some m) _ _ (bit_piece_row big e) (uleb_again n k.0) (uleb_again m k.1)
  plain_again (WasmLocal n) h k = wasm_after big e 0 n read.WasmLocal (λ bytes. refl) k
  plain_again (WasmGlobal n) h k = wasm_after big e 1 n read.WasmGlobal (λ bytes. refl) k
  plain_again (WasmStack n) h k = wasm_after big e 2 n read.WasmStack (λ bytes. refl) k

-- Expressions within operations

nodes_parts : (e : Encoding) (place : ℕ → Option ℕ) (x : Tree) → tree_parts e place x ≡ parts_of e place (nodes_of x)
nodes_parts e place nothing = refl
nodes_parts e place (before n x) = ap (λ ps. node_part e place n ∷ ps) (nodes_parts e place x)

tree_wide : (e : Encoding) (place : ℕ → Option ℕ) (x : Tree) (info : Info) (big : Bool) (l : Layout) (xs : List ℕ) → (expression (tree_parts e place x)).text info big l ≡ Some xs → length xs ≡ parts_size (tree_parts e place x)
tree_wide e place x info big l xs h =
    let same = nodes_parts e place x in
    expression-wide e place (nodes_of x) info big l xs (ap (λ ps. (expression ps).text info big l) (sym same) ∙ h) ∙ ap parts_size (sym same)

nested_again : (e : Encoding) (place : ℕ → Option ℕ) (info : Info) (big : Bool) (l : Layout) (starts : List ℕ) (to : ℕ) (x : Tree) → HaveWidths e place (entry_value x) →
    Again Operation (operation_read big e) (node_as e place info big l starts to (entry_value x)) (((node_part e place (entry_value x)).draft starts to).text info big l)
unfolding then_draft bytes_text
nested_again e place info big l starts to x h =
    let t = (expression (tree_parts e place x)).text info big l in
    after_code big e (entry_value_code e) (one block_read read.EntryValue) (made t read.EntryValue) (followed (Some (uleb (parts_size (tree_parts e place x)))) t) (entry_value_row big e)
    (one_again (List ℕ) block_read read.EntryValue t _ (sized_block_again t (parts_size (tree_parts e place x)) (tree_wide e place x info big l) h))

-- what is read with reasons is what the grammar reads
read_as : (big : Bool) (e : Encoding) (bytes : List ℕ) (v : Option Operation) → IsAgain Operation (operation_read big e) v bytes → IsReadAs big e bytes v
unfolding operation_at
read_as big e bytes v a = record { operation = a.value; is = a.is; read = λ rest. ap result_ok (a.reads rest) }

pub operations_read_back : OperationsReadBack
operations_read_back (plain p) h e place info big l starts to bytes are widths is = read_as big e bytes _ (plain_again e place info big l starts to are p h widths bytes is)
operations_read_back (entry_value x) h e place info big l starts to bytes are widths is = read_as big e bytes _ (nested_again e place info big l starts to x widths bytes is)

-- Operations one after another

and_parts : (b c : Bool) → IsTrue (b && c) → IsTrue b × IsTrue c
and_parts true c h = (refl, h)
and_parts false c h = absurd (let x : false ≡ true = h in cc)

nodes_again : (ns : List Node) → IsTrue (are_read ns) → (e : Encoding) (place : ℕ → Option ℕ) (info : Info) (big : Bool) (l : Layout) (starts : List ℕ) (at : ℕ) (bytes : List ℕ) → ArePlaces place → HaveAllWidths e place ns →
    (parts_draft starts at (parts_of e place ns)).text info big l ≡ Some bytes → AreReadAs big e bytes (nodes_as e place info big l starts at ns)
unfolding then_draft
nodes_again [] h e place info big l starts at bytes are widths is = record { operations = []; are = refl; read = let same : [] ≡ bytes = cc in sym same }
nodes_again (n ∷ ns) h e place info big l starts at bytes are widths is =
    let to = at + (node_part e place n).size in
    let b = and_parts (is_read n) (are_read ns) h in
    let s = followed_parts (((node_part e place n).draft starts to).text info big l) ((parts_draft starts to (parts_of e place ns)).text info big l) bytes is in
    let first = operations_read_back n b.0 e place info big l starts to s.0 are widths.0 s.2 in
    let more = nodes_again ns b.1 e place info big l starts to s.1 are widths.1 s.3 in
    record {
      operations = first.operation ∷ more.operations;
      are = ap (λ o. o >>= λ x. nodes_as e place info big l starts to ns >>= λ os. Some (x ∷ os)) first.is ∙ ap (λ o. o >>= λ os. Some (first.operation ∷ os)) more.are;
      read = (s.1, ap (operation_at big e) (sym s.4) ∙ first.read s.1, more.read);
    }

pub expressions_read_back : ExpressionsReadBack
expressions_read_back ns h e place info big l bytes are widths is = nodes_again ns h e place info big l (starts_from 0 (parts_of e place ns)) 0 bytes are widths is

pub nested_read_back : NestedReadBack
nested_read_back x h e place info big l bytes are widths is =
    expressions_read_back (nodes_of x) h e place info big l bytes are widths (ap (λ ps. (expression ps).text info big l) (sym (nodes_parts e place x)) ∙ is)

-- Long pieces

long_read : (n : ℕ) → n < 2 ^ 64 → IsFalse (nat_lt (n * 8) (2 ^ 64)) → (bytes rest : List ℕ) → Some (uleb n) ≡ Some bytes → piece_read (bytes ++ rest) ≡ Err InvalidPiece
long_read n fits long bytes rest is =
    let a = uleb_again n fits bytes is in
    let same : a.value ≡ n = let x : Some n ≡ Some a.value = a.is in cc in
    ap (λ r. r =>> λ x. if_so (nat_lt (x.0 * 8) (2 ^ 64)) InvalidPiece (Ok (read.Piece x.0, x.1))) (a.reads rest ∙ ap (λ x. Ok (x, rest)) same)
    ∙ ap (λ b. if_so b InvalidPiece (Ok (read.Piece n, rest))) long

pub long_pieces_are_unread : LongPiecesAreUnread
unfolding then_draft bytes_text operation_at
long_pieces_are_unread n fits long e place info big l starts to bytes is rest =
    let s = code_parts big e DW_OP_piece.0 (followed (Some (uleb n)) (Some [])) bytes is in
    ap result_ok (code_read big e DW_OP_piece.0 piece_read (piece_row big e) s.0 bytes rest s.2 ∙ long_read n fits long s.0 rest (sym (followed-nothing (Some (uleb n))) ∙ s.1))
