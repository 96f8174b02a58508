-- An item that is read is the item of the same bytes in the definition of written lists.
use Rattle.std.proofs.Common.{◌≡◌, ◌∙◌, sym, ap, subst, ℕ, zero, suc, ◌+◌, ◌<◌, ◌≤◌, Bool, true, false, ◌&&◌, List, [], ◌∷◌, length, take, drop, length-drop, Option, Some, None, Result, Ok, refl, arith, nat_le, nat_eq, if◌then◌else◌}
use Rattle.std.proofs.lemmas.Bool.{leb-true}
use Rattle.dw_base.specs.Numbers.{Parser, ◌>>=◌, when, bytes_at, number_at, value_of, is_width}
use Rattle.dw_base.specs.Leb128.{uleb_at}
use Rattle.dw_base.specs.declared.common.Encoding.{Encoding}
use Rattle.dw_base.specs.declared.constants.TheConstants.{DW_RLE_end_of_list, DW_RLE_base_addressx, DW_RLE_startx_endx, DW_RLE_startx_length, DW_RLE_offset_pair, DW_RLE_base_address, DW_RLE_start_end, DW_RLE_start_length}
use Rattle.dw_base.specs.declared.constants.TheConstants.{DW_LLE_end_of_list, DW_LLE_base_addressx, DW_LLE_startx_endx, DW_LLE_startx_length, DW_LLE_offset_pair, DW_LLE_default_location, DW_LLE_base_address, DW_LLE_start_end, DW_LLE_start_length}
use Rattle.dw_base.proofs.HeaderLaws.{byte-again}
use Rattle.dw_base.proofs.NumberLaws.{bind_is, bind_parts, when_same}
use Rattle.dw_lists.specs.Items as written
use Rattle.dw_lists.specs.Items.{old_span, old_span_at, one, two, range_kind_at, location_kind_at, kind_at, new_span_at, span_at, count_at, expression_at, rest_at, item_at, is_five}
use Rattle.dw_read.specs.Reading.{Read}
use Rattle.dw_read.specs.Reasons.{◌=>>◌, or_refuse, if_so, bytes_read, number_read, uleb_read, address_read}
use Rattle.dw_read.specs.Took.{option_of}
use Rattle.dw_read.specs.declared.error.ReadError.{ReadError}
use Rattle.dw_read.specs.declared.error.ReadError.TheVariants.{UnknownRangeListsEntry, UnknownLocListsEntry, UnsupportedAddressSize}
use Rattle.dw_read.proofs.Declared.{uleb_shorter}
use Rattle.dw_read.proofs.Items.{then_parts, if_so_parts}
use Rattle.dw_read.proofs.Laws.{grammar_is, bytes_law, number_law, uleb_law}
use Rattle.dw_sources.specs.Operands.{block_read}
use Rattle.dw_sources.specs.RawLists.{Span, Item, BaseAddress, BaseAddressx, AddressOrOffsetPair, StartxEndx, StartxLength, OffsetPair, StartEnd, StartLength, DefaultLocation, marker, pair_of, pair_read, close, of_one, of_two, range_row, location_row, range_behind, location_behind, range_read, location_span_read, expression_read, is_located, behind_span, location_read}
use Rattle.dw_convert.specs.WrittenLists.{written_span, written_range, written_location}

-- Numbers and bytes

-- what is read is what a grammar reads, and no more bytes are left than there were
abbrev IsSame : {A B : Type 0} → (A → B) → List ℕ → Result (A × List ℕ) ReadError → Option (B × List ℕ) → Type 0
IsSame {A = A} f bytes r o = (x : A × List ℕ) → r ≡ Ok x → (o ≡ Some (f x.0, x.1)) × (length x.1 ≤ length bytes)

abbrev same : {A : Type 0} → A → A
same x = x

passed : {A : Type 0} (b : Bool) (o : Option A) (y : A) → when b o ≡ Some y → b ≡ true
passed true o y h = refl
passed false o y h = absurd (cc)

number_rest : (big : Bool) (w : ℕ) (bytes : List ℕ) (x : ℕ × List ℕ) → number_at big w bytes ≡ Some x → length x.1 + w ≡ length bytes
unfolding number_at bytes_at
number_rest big w bytes x e =
    let p = bind_parts (when (nat_le w (length bytes)) (Some (take w bytes, drop w bytes))) (λ (y : List ℕ × List ℕ). Some (value_of big y.0, y.1)) x e in
    let l : w ≤ length bytes = leb-true w (length bytes) (passed (nat_le w (length bytes)) (Some (take w bytes, drop w bytes)) p.0 p.1) in
    let s : Some (take w bytes, drop w bytes) ≡ Some p.0 = when_same (nat_le w (length bytes)) (Some (take w bytes, drop w bytes)) p.0 p.1 in
    let q : (take w bytes, drop w bytes) ≡ p.0 = cc s in
    let f : Some (value_of big p.0.0, p.0.1) ≡ Some x = p.2 in
    let r : (value_of big p.0.0, p.0.1) ≡ x = cc f in
    let a : drop w bytes ≡ p.0.1 = ap (λ (y : List ℕ × List ℕ). y.1) q in
    let b : p.0.1 ≡ x.1 = ap (λ (y : ℕ × List ℕ). y.1) r in
    omega (arith, length-drop w bytes, ap length a, ap length b)

bytes_rest : (n : ℕ) (bytes : List ℕ) (x : List ℕ × List ℕ) → bytes_at n bytes ≡ Some x → length x.1 ≤ length bytes
unfolding bytes_at
bytes_rest n bytes x e =
    let s : Some (take n bytes, drop n bytes) ≡ Some x = when_same (nat_le n (length bytes)) (Some (take n bytes, drop n bytes)) x e in
    let q : (take n bytes, drop n bytes) ≡ x = cc s in
    let a : drop n bytes ≡ x.1 = ap (λ (y : List ℕ × List ℕ). y.1) q in
    omega (arith, length-drop n bytes, ap length a)

number_same : (big : Bool) (w : ℕ) (bytes : List ℕ) → IsSame same bytes (number_read big w bytes) (number_at big w bytes)
number_same big w bytes x e =
    let g : number_at big w bytes ≡ Some x = grammar_is ℕ (number_at big w) (number_read big w) bytes x (number_law big w) e in
    (g, (let l : length x.1 + w ≡ length bytes = number_rest big w bytes x g in omega arith))

bytes_same : (n : ℕ) (bytes : List ℕ) → IsSame same bytes (bytes_read n bytes) (bytes_at n bytes)
bytes_same n bytes x e =
    let g : bytes_at n bytes ≡ Some x = grammar_is (List ℕ) (bytes_at n) (bytes_read n) bytes x (bytes_law n) e in
    (g, bytes_rest n bytes x g)

uleb_same : (bytes : List ℕ) → IsSame same bytes (uleb_read bytes) (uleb_at bytes)
uleb_same bytes x e = (grammar_is ℕ uleb_at uleb_read bytes x uleb_law e, (let l : length x.1 < length bytes = uleb_shorter bytes x e in omega arith))

address_same : (big : Bool) (w : ℕ) (bytes : List ℕ) → IsSame same bytes (address_read big w bytes) (number_at big w bytes)
unfolding address_read
address_same big w bytes x e = number_same big w bytes x (if_so_parts (is_width w) (UnsupportedAddressSize w) (number_read big w bytes) x e)

so : {A : Type 0} (b : Bool) (y : ReadError) (r : Result A ReadError) (x : A) → if_so b y r ≡ Ok x → b ≡ true
so true y r x e = refl
so false y r x e = absurd (cc)

wide : (w : ℕ) → is_width w ≡ true → 0 < w
wide zero h = absurd (cc)
wide (suc w) h = omega arith

-- an address takes a byte at least
address_rest : (big : Bool) (w : ℕ) (bytes : List ℕ) (x : ℕ × List ℕ) → address_read big w bytes ≡ Ok x → length x.1 < length bytes
unfolding address_read
address_rest big w bytes x e =
    let n = number_same big w bytes x (if_so_parts (is_width w) (UnsupportedAddressSize w) (number_read big w bytes) x e) in
    let l : length x.1 + w ≡ length bytes = number_rest big w bytes x n.0 in
    let p : 0 < w = wide w (so (is_width w) (UnsupportedAddressSize w) (number_read big w bytes) x e) in
    omega arith

-- Addresses of items

abbrev as_span : Option Span → Option written.Span
as_span o = option_of written_span o

abbrev IsSpan : List ℕ → Result (Option Span × List ℕ) ReadError → Option (Option written.Span × List ℕ) → Type 0
IsSpan bytes r o = IsSame as_span bytes r o

-- what was given
given : (bytes rest : List ℕ) (v : Option Span) (o : Option (Option written.Span × List ℕ)) → o ≡ Some (as_span v, rest) → length rest ≤ length bytes → IsSpan bytes (Ok (v, rest)) o
given bytes rest v o h l y e = let k : (v, rest) ≡ y = cc e in subst (λ (z : Option Span × List ℕ). (o ≡ Some (as_span z.0, z.1)) × (length z.1 ≤ length bytes)) k (h, l)

one_same : (bytes : List ℕ) (p : Read ℕ) (q : Parser ℕ) (f : ℕ → Span) (g : ℕ → written.Span) → IsSame same bytes (p bytes) (q bytes) → ((n : ℕ) → g n ≡ written_span (f n)) → IsSpan bytes (of_one p f bytes) (one q g bytes)
one_same bytes p q f g h k y e =
    let a = then_parts (p bytes) (λ (x : ℕ × List ℕ). Ok (Some (f x.0), x.1)) y e in
    let w = h a.0 a.1 in
    given bytes a.0.1 (Some (f a.0.0)) (one q g bytes) (bind_is (q bytes) a.0 (λ x. Some (Some (g x.0), x.1)) w.0 ∙ ap (λ (s : written.Span). Some (Some s, a.0.1)) (k a.0.0)) w.1 y a.2

two_same : (bytes : List ℕ) (p r : Read ℕ) (q s : Parser ℕ) (f : ℕ → ℕ → Span) (g : ℕ → ℕ → written.Span) → IsSame same bytes (p bytes) (q bytes) → ((xs : List ℕ) → IsSame same xs (r xs) (s xs)) → ((m n : ℕ) → g m n ≡ written_span (f m n)) → IsSpan bytes (of_two p r f bytes) (two q s g bytes)
two_same bytes p r q s f g h i k y e =
    let a = then_parts (p bytes) (λ (x : ℕ × List ℕ). r x.1 =>> λ z. Ok (Some (f x.0 z.0), z.1)) y e in
    let b = then_parts (r a.0.1) (λ (z : ℕ × List ℕ). Ok (Some (f a.0.0 z.0), z.1)) y a.2 in
    let v = h a.0 a.1 in
    let w = i a.0.1 b.0 b.1 in
    given bytes b.0.1 (Some (f a.0.0 b.0.0)) (two q s g bytes)
    (bind_is (q bytes) a.0 (λ x. s x.1 >>= λ z. Some (Some (g x.0 z.0), z.1)) v.0 ∙ bind_is (s a.0.1) b.0 (λ z. Some (Some (g a.0.0 z.0), z.1)) w.0 ∙ ap (λ (x : written.Span). Some (Some x, b.0.1)) (k a.0.0 b.0.0))
    (let l : length a.0.1 ≤ length bytes = v.1 in let m : length b.0.1 ≤ length a.0.1 = w.1 in omega arith) y b.2

-- The kinds of version 5

-- a row of a table, and what the other grammar has in its place
abbrev IsRow : List ℕ → ReadError → Option (Read (Option Span)) → Option (Option written.Span × List ℕ) → Type 0
IsRow bytes e row o = IsSpan bytes (or_refuse e row =>> λ p. p bytes) o

row : (bytes : List ℕ) (e : ReadError) (b : Bool) (p : Read (Option Span)) (more : Option (Read (Option Span))) (q others : Option (Option written.Span × List ℕ)) → IsSpan bytes (p bytes) q → IsRow bytes e more others → IsRow bytes e (if b then Some p else more) (if b then q else others)
row bytes e true p more q others h k y r = h y r
row bytes e false p more q others h k y r = k y r

no_row : (bytes : List ℕ) (e : ReadError) → IsRow bytes e None None
no_row bytes e y r = absurd (cc)

closes : (bytes : List ℕ) → IsSpan bytes (close bytes) (Some (None, bytes))
closes bytes = given bytes bytes None (Some (None, bytes)) refl (omega arith)

module _ (big : Bool) (w kind : ℕ) (bytes : List ℕ) where
  address : (xs : List ℕ) → IsSame same xs (address_read big w xs) (number_at big w xs)
  address xs = address_same big w xs

  range_rows : IsRow bytes (UnknownRangeListsEntry kind) (range_row big w kind) (range_kind_at big w kind bytes)
  unfolding range_row
  range_rows =
      row bytes _ (nat_eq kind DW_RLE_end_of_list.0) close _ _ _ (closes bytes)
      (row bytes _ (nat_eq kind DW_RLE_base_addressx.0) _ _ _ _ (one_same bytes uleb_read uleb_at BaseAddressx written.BaseIndex (uleb_same bytes) (λ n. refl))
      (row bytes _ (nat_eq kind DW_RLE_startx_endx.0) _ _ _ _ (two_same bytes uleb_read uleb_read uleb_at uleb_at StartxEndx written.IndexEnd (uleb_same bytes) uleb_same (λ m n. refl))
      (row bytes _ (nat_eq kind DW_RLE_startx_length.0) _ _ _ _ (two_same bytes uleb_read uleb_read uleb_at uleb_at StartxLength written.IndexLength (uleb_same bytes) uleb_same (λ m n. refl))
      (row bytes _ (nat_eq kind DW_RLE_offset_pair.0) _ _ _ _ (two_same bytes uleb_read uleb_read uleb_at uleb_at OffsetPair written.Pair (uleb_same bytes) uleb_same (λ m n. refl))
      (row bytes _ (nat_eq kind DW_RLE_base_address.0) _ _ _ _ (one_same bytes (address_read big w) (number_at big w) BaseAddress written.Base (address bytes) (λ n. refl))
      (row bytes _ (nat_eq kind DW_RLE_start_end.0) _ _ _ _ (two_same bytes (address_read big w) (address_read big w) (number_at big w) (number_at big w) StartEnd written.StartEnd (address bytes) address (λ m n. refl))
      (row bytes _ (nat_eq kind DW_RLE_start_length.0) _ _ _ _ (two_same bytes (address_read big w) uleb_read (number_at big w) uleb_at StartLength written.StartLength (address bytes) uleb_same (λ m n. refl))
      (no_row bytes _))))))))

  location_rows : IsRow bytes (UnknownLocListsEntry kind) (location_row big w kind) (location_kind_at big w kind bytes)
  unfolding location_row
  location_rows =
      row bytes _ (nat_eq kind DW_LLE_end_of_list.0) close _ _ _ (closes bytes)
      (row bytes _ (nat_eq kind DW_LLE_base_addressx.0) _ _ _ _ (one_same bytes uleb_read uleb_at BaseAddressx written.BaseIndex (uleb_same bytes) (λ n. refl))
      (row bytes _ (nat_eq kind DW_LLE_startx_endx.0) _ _ _ _ (two_same bytes uleb_read uleb_read uleb_at uleb_at StartxEndx written.IndexEnd (uleb_same bytes) uleb_same (λ m n. refl))
      (row bytes _ (nat_eq kind DW_LLE_startx_length.0) _ _ _ _ (two_same bytes uleb_read uleb_read uleb_at uleb_at StartxLength written.IndexLength (uleb_same bytes) uleb_same (λ m n. refl))
      (row bytes _ (nat_eq kind DW_LLE_offset_pair.0) _ _ _ _ (two_same bytes uleb_read uleb_read uleb_at uleb_at OffsetPair written.Pair (uleb_same bytes) uleb_same (λ m n. refl))
      (row bytes _ (nat_eq kind DW_LLE_default_location.0) (λ xs. Ok (Some DefaultLocation, xs)) _ _ _ (given bytes bytes (Some DefaultLocation) (Some (Some written.Default, bytes)) refl (omega arith))
      (row bytes _ (nat_eq kind DW_LLE_base_address.0) _ _ _ _ (one_same bytes (address_read big w) (number_at big w) BaseAddress written.Base (address bytes) (λ n. refl))
      (row bytes _ (nat_eq kind DW_LLE_start_end.0) _ _ _ _ (two_same bytes (address_read big w) (address_read big w) (number_at big w) (number_at big w) StartEnd written.StartEnd (address bytes) address (λ m n. refl))
      (row bytes _ (nat_eq kind DW_LLE_start_length.0) _ _ _ _ (two_same bytes (address_read big w) uleb_read (number_at big w) uleb_at StartLength written.StartLength (address bytes) uleb_same (λ m n. refl))
      (no_row bytes _)))))))))

-- what stands behind a kind, in location lists or in range lists
abbrev kind_read : Bool → Bool → ℕ → ℕ → Read (Option Span)
kind_read true big w kind = location_behind big w kind
kind_read false big w kind = range_behind big w kind

kinds_same : (loc big : Bool) (w kind : ℕ) (bytes : List ℕ) → IsSpan bytes (kind_read loc big w kind bytes) (kind_at loc big w kind bytes)
unfolding range_behind location_behind
kinds_same true big w kind bytes = location_rows big w kind bytes
kinds_same false big w kind bytes = range_rows big w kind bytes

first_byte : (big : Bool) (bytes : List ℕ) (x : ℕ × List ℕ) → number_at big 1 bytes ≡ Some x → bytes ≡ x.0 ∷ x.1
first_byte big [] x e = absurd (let l : length x.1 + 1 ≡ 0 = number_rest big 1 [] x e in omega arith)
first_byte big (b ∷ bs) x e = let k : Some (b, bs) ≡ Some x = sym (byte-again big b bs) ∙ e in let q : (b, bs) ≡ x = cc k in ap (λ (y : ℕ × List ℕ). y.0 ∷ y.1) q

-- the same with a byte less left at least
abbrev IsLess : List ℕ → Result (Option Span × List ℕ) ReadError → Option (Option written.Span × List ℕ) → Type 0
IsLess bytes r o = (y : Option Span × List ℕ) → r ≡ Ok y → (o ≡ Some (as_span y.0, y.1)) × (length y.1 < length bytes)

new_same : (loc big : Bool) (w : ℕ) (bytes : List ℕ) → IsLess bytes (number_read big 1 bytes =>> λ kind. kind_read loc big w kind.0 kind.1) (new_span_at loc big w bytes)
unfolding new_span_at
new_same loc big w bytes y e =
    let a = then_parts (number_read big 1 bytes) (λ (kind : ℕ × List ℕ). kind_read loc big w kind.0 kind.1) y e in
    let n = number_same big 1 bytes a.0 a.1 in
    let s : bytes ≡ a.0.0 ∷ a.0.1 = first_byte big bytes a.0 n.0 in
    let k = kinds_same loc big w a.0.0 a.0.1 y a.2 in
    let l : length a.0.1 + 1 ≡ length bytes = number_rest big 1 bytes a.0 n.0 in
    (ap (new_span_at loc big w) s ∙ k.0, (let m : length y.1 ≤ length a.0.1 = k.1 in omega arith))

-- Pairs up to version 4

pair_is : (z m : Bool) (a b : ℕ) → (if z then None else Some (if m then written.Base b else written.Pair a b)) ≡ as_span (if z then None else if m then Some (BaseAddress b) else Some (AddressOrOffsetPair a b))
pair_is true m a b = refl
pair_is false true a b = refl
pair_is false false a b = refl

given_less : (bytes rest : List ℕ) (v : Option Span) (o : Option (Option written.Span × List ℕ)) → o ≡ Some (as_span v, rest) → length rest < length bytes → IsLess bytes (Ok (v, rest)) o
given_less bytes rest v o h l y e = let k : (v, rest) ≡ y = cc e in subst (λ (z : Option Span × List ℕ). (o ≡ Some (as_span z.0, z.1)) × (length z.1 < length bytes)) k (h, l)

old_same : (big : Bool) (w : ℕ) (bytes : List ℕ) → IsLess bytes (pair_read big w bytes) (old_span_at big w bytes)
unfolding pair_read old_span_at
old_same big w bytes y e =
    let a = then_parts (address_read big w bytes) _ y e in
    let b = then_parts (address_read big w a.0.1) _ y a.2 in
    let v = address_same big w bytes a.0 a.1 in
    let t = address_same big w a.0.1 b.0 b.1 in
    let l : length a.0.1 < length bytes = address_rest big w bytes a.0 a.1 in
    given_less bytes b.0.1 (pair_of w a.0.0 b.0.0) (old_span_at big w bytes) (
    bind_is (number_at big w bytes) a.0 (λ x. number_at big w x.1 >>= λ z. Some (old_span w x.0 z.0, z.1)) v.0
    ∙ bind_is (number_at big w a.0.1) b.0 (λ z. Some (old_span w a.0.0 z.0, z.1)) t.0
    ∙ ap (λ (o : Option written.Span). Some (o, b.0.1)) (pair_is (nat_eq a.0.0 0 && nat_eq b.0.0 0) (nat_eq a.0.0 (marker w)) a.0.0 b.0.0)
    ) (let m : length b.0.1 ≤ length a.0.1 = t.1 in omega arith) y b.2

-- in version 5, or before it
span_same : (five loc big : Bool) (w : ℕ) (bytes : List ℕ) → IsLess bytes (if five then (number_read big 1 bytes =>> λ kind. kind_read loc big w kind.0 kind.1) else pair_read big w bytes) (span_at five loc big w bytes)
span_same true loc big w bytes = new_same loc big w bytes
span_same false loc big w bytes = old_same big w bytes

range_spans : (big : Bool) (e : Encoding) (bytes : List ℕ) → IsLess bytes (range_read big e bytes) (span_at (is_five e) false big e.address_size bytes)
unfolding range_read
range_spans big e bytes = span_same (is_five e) false big e.address_size bytes

location_spans : (big : Bool) (e : Encoding) (bytes : List ℕ) → IsLess bytes (location_span_read big e bytes) (span_at (is_five e) true big e.address_size bytes)
unfolding location_span_read
location_spans big e bytes = span_same (is_five e) true big e.address_size bytes

-- Items

pub record IsItem {A : Type 0} (as_written : A → written.Item) (loc big : Bool) (e : Encoding) (bytes : List ℕ) (y : Option A × List ℕ) : Type 0 where
  pub is : item_at (is_five e) loc big e.address_size bytes ≡ Some (option_of as_written y.0, y.1)
  pub less : length y.1 < length bytes

range_rest : (five big : Bool) (o : Option Span) (rest : List ℕ) → rest_at five false big (as_span o) rest ≡ Some (option_of written_range o, rest)
range_rest five big None rest = refl
range_rest five big (Some s) rest = refl

pub range_item : (big : Bool) (e : Encoding) (bytes : List ℕ) (y : Option Span × List ℕ) → range_read big e bytes ≡ Ok y → IsItem written_range false big e bytes y
unfolding item_at
range_item big e bytes y h =
    let s = range_spans big e bytes y h in
    record {
      is = bind_is (span_at (is_five e) false big e.address_size bytes) (as_span y.0, y.1) (λ x. rest_at (is_five e) false big x.0 x.1) s.0 ∙ range_rest (is_five e) big y.0 y.1;
      less = s.1;
    }

-- Expressions

abbrev as_item : Option Item → Option written.Item
as_item o = option_of written_location o

abbrev item : Span → Option (List ℕ) → Item
item s x = record { span = s; expression = x }

abbrev told : written.Span → Option (List ℕ) → written.Item
told s x = record { span = s; expression = x }

abbrev gives : Option Item × List ℕ → Result (Option Item × List ℕ) ReadError
gives x = Ok x

expressions : (five big : Bool) (bytes : List ℕ) → IsSame (λ (x : List ℕ). Some x) bytes (if five then block_read bytes else (number_read big 2 bytes =>> λ n. bytes_read n.0 n.1)) (expression_at true five big bytes)
unfolding block_read
expressions true big bytes y h =
    let n = then_parts (uleb_read bytes) _ y h in
    let u = uleb_same bytes n.0 n.1 in
    let x = bytes_same n.0.0 n.0.1 y n.2 in
    (bind_is (uleb_at bytes) n.0 (λ m. bytes_at m.0 m.1 >>= λ z. Some (Some z.0, z.1)) u.0 ∙ bind_is (bytes_at n.0.0 n.0.1) y (λ z. Some (Some z.0, z.1)) x.0, (let l : length n.0.1 ≤ length bytes = u.1 in let m : length y.1 ≤ length n.0.1 = x.1 in omega arith))
expressions false big bytes y h =
    let n = then_parts (number_read big 2 bytes) _ y h in
    let u = number_same big 2 bytes n.0 n.1 in
    let x = bytes_same n.0.0 n.0.1 y n.2 in
    (bind_is (number_at big 2 bytes) n.0 (λ m. bytes_at m.0 m.1 >>= λ z. Some (Some z.0, z.1)) u.0 ∙ bind_is (bytes_at n.0.0 n.0.1) y (λ z. Some (Some z.0, z.1)) x.0, (let l : length n.0.1 ≤ length bytes = u.1 in let m : length y.1 ≤ length n.0.1 = x.1 in omega arith))

located_same : (s : Span) → written.is_located true (written_span s) ≡ is_located s
located_same (BaseAddress n) = refl
located_same (BaseAddressx i) = refl
located_same (AddressOrOffsetPair m n) = refl
located_same (StartxEndx i j) = refl
located_same (StartxLength i n) = refl
located_same (OffsetPair m n) = refl
located_same (StartEnd m n) = refl
located_same (StartLength m n) = refl
located_same DefaultLocation = refl

module _ (big : Bool) (e : Encoding) where
  abbrev IsRest : List ℕ → Option Item × List ℕ → Option (Option written.Item × List ℕ) → Type 0
  IsRest bytes y o = (o ≡ Some (as_item y.0, y.1)) × (length y.1 ≤ length bytes)

  kept_item : (bytes rest : List ℕ) (x : Option Item) (y : Option Item × List ℕ) (o : Option (Option written.Item × List ℕ)) → gives (x, rest) ≡ gives y → o ≡ Some (as_item x, rest) → length rest ≤ length bytes → IsRest bytes y o
  kept_item bytes rest x y o h k l = let q : (x, rest) ≡ y = cc h in subst (λ (z : Option Item × List ℕ). IsRest bytes z o) q (k, l)

  abbrev behind_at : Bool → written.Span → List ℕ → Option (Option written.Item × List ℕ)
  behind_at has s bytes = expression_at has (is_five e) big bytes >>= λ x. Some (Some (told s x.0), x.1)

  behind : (has : Bool) (s : Span) (bytes : List ℕ) (y : Option Item × List ℕ) → (if has then (expression_read big e bytes =>> λ x. gives (Some (item s (Some x.0)), x.1)) else gives (Some (item s None), bytes)) ≡ gives y → IsRest bytes y (behind_at has (written_span s) bytes)
  unfolding expression_read
  behind true s bytes y h =
      let x = then_parts (expression_read big e bytes) (λ (x : List ℕ × List ℕ). gives (Some (item s (Some x.0)), x.1)) y h in
      let w = expressions (is_five e) big bytes x.0 x.1 in
      kept_item bytes x.0.1 (Some (item s (Some x.0.0))) y (behind_at true (written_span s) bytes) x.2 (bind_is (expression_at true (is_five e) big bytes) (Some x.0.0, x.0.1) (λ z. Some (Some (told (written_span s) z.0), z.1)) w.0) w.1
  behind false s bytes y h = kept_item bytes bytes (Some (item s None)) y (behind_at false (written_span s) bytes) h refl (omega arith)

  rests : (o : Option Span) (bytes : List ℕ) (y : Option Item × List ℕ) → behind_span big e o bytes ≡ Ok y → IsRest bytes y (rest_at (is_five e) true big (as_span o) bytes)
  rests None bytes y h = kept_item bytes bytes None y (Some (None, bytes)) h refl (omega arith)
  rests (Some s) bytes y h = subst (λ (b : Bool). IsRest bytes y (behind_at b (written_span s) bytes)) (sym (located_same s)) (behind (is_located s) s bytes y h)

pub location_item : (big : Bool) (e : Encoding) (bytes : List ℕ) (y : Option Item × List ℕ) → location_read big e bytes ≡ Ok y → IsItem written_location true big e bytes y
unfolding location_read item_at
location_item big e bytes y h =
    let s = then_parts (location_span_read big e bytes) (λ (x : Option Span × List ℕ). behind_span big e x.0 x.1) y h in
    let a = location_spans big e bytes s.0 s.1 in
    let b = rests big e s.0.0 s.0.1 y s.2 in
    record {
      is = bind_is (span_at (is_five e) true big e.address_size bytes) (as_span s.0.0, s.0.1) (λ x. rest_at (is_five e) true big x.0 x.1) a.0 ∙ b.0;
      less = let l : length s.0.1 < length bytes = a.1 in let m : length y.1 ≤ length s.0.1 = b.1 in omega arith;
    }
