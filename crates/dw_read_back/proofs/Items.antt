-- One item is read as it is told to be written.
use Rattle.std.proofs.Common.{◌≡◌, ◌∙◌, sym, ap, ℕ, Bool, true, false, List, [], ◌∷◌, Option, Some, None, Ok, refl, if◌then◌else◌}
use Rattle.std.specs.Prelude.{◌==◌, ◌&&◌}
use Rattle.std.specs.Result.{result_ok}
use Rattle.dw_base.specs.Numbers.{Parser, ◌>>=◌, when, bytes_at, number_at, is_width}
use Rattle.dw_base.specs.Leb128.{uleb_at}
use Rattle.dw_base.specs.declared.common.Encoding.{Encoding}
use Rattle.dw_base.specs.declared.constants.TheConstants.{DW_RLE_end_of_list, DW_RLE_base_addressx, DW_RLE_startx_endx, DW_RLE_startx_length, DW_RLE_offset_pair, DW_RLE_base_address, DW_RLE_start_end, DW_RLE_start_length}
use Rattle.dw_base.proofs.HeaderLaws.{byte-again}
use Rattle.dw_read.specs.Reading.{Read}
use Rattle.dw_read.specs.Reasons.{◌=>>◌, or_refuse, number_read, uleb_read, address_at, address_read}
use Rattle.dw_read.specs.Took.{option_of}
use Rattle.dw_read.specs.declared.error.ReadError.{ReadError}
use Rattle.dw_read.specs.declared.error.ReadError.TheVariants.{UnknownRangeListsEntry}
use Rattle.dw_read.proofs.Laws.{IsReadOf, then_ok, number_law, uleb_law, address_law}
use Rattle.dw_lists.specs.Items as written
use Rattle.dw_sources.specs.OperationTable.{among}
use Rattle.dw_sources.specs.RawLists as raw
use Rattle.dw_read_back.specs.Views.{raw_span, raw_range}
use Rattle.dw_read_back.specs.Laws.{in_words, RangeItemsAreOne}

-- an answer in words, of a step behind another
pub words_bind : {A B C : Type 0} (f : B → C) (o : Option A) (g : A → Option (Option B × List ℕ)) → in_words f (o >>= g) ≡ (o >>= λ x. in_words f (g x))
words_bind f None g = refl
words_bind f (Some x) g = refl

-- an address
pub address_is : (big : Bool) (w : ℕ) → is_width w ≡ true → IsReadOf ℕ (number_at big w) (address_read big w)
unfolding address_at
address_is big w h bytes = address_law big w bytes ∙ ap (λ b. when b (number_at big w bytes)) h

-- one number, and two
pub one_is : (p : Read ℕ) (q : Parser ℕ) (f : ℕ → written.Span) (bytes : List ℕ) → IsReadOf ℕ q p →
    result_ok (raw.of_one p (λ n. raw_span true (f n)) bytes) ≡ in_words (raw_span true) (written.one q f bytes)
one_is p q f bytes h =
    then_ok (p bytes) (q bytes) _ _ (h bytes) (λ x. refl) ∙ sym (words_bind (raw_span true) (q bytes) (λ a. Some (Some (f a.0), a.1)))

pub two_is : (p r : Read ℕ) (q s : Parser ℕ) (f : ℕ → ℕ → written.Span) (bytes : List ℕ) → IsReadOf ℕ q p → IsReadOf ℕ s r →
    result_ok (raw.of_two p r (λ m n. raw_span true (f m n)) bytes) ≡ in_words (raw_span true) (written.two q s f bytes)
two_is p r q s f bytes h k =
    then_ok (p bytes) (q bytes) (λ a. r a.1 =>> λ b. Ok (Some (raw_span true (f a.0 b.0)), b.1)) (λ a. in_words (raw_span true) (s a.1 >>= λ b. Some (Some (f a.0 b.0), b.1))) (h bytes)
    (λ a. then_ok (r a.1) (s a.1) (λ b. Ok (Some (raw_span true (f a.0 b.0)), b.1)) (λ b. Some (Some (raw_span true (f a.0 b.0)), b.1)) (k a.1) (λ x. refl)
    ∙ sym (words_bind (raw_span true) (s a.1) (λ b. Some (Some (f a.0 b.0), b.1))))
    ∙ sym (words_bind (raw_span true) (q bytes) (λ a. s a.1 >>= λ b. Some (Some (f a.0 b.0), b.1)))

-- a row of a table, and the rows behind it
row_is : (b : Bool) (e : ReadError) (p : Read (Option raw.Span)) (more : Option (Read (Option raw.Span))) (q others : Option (Option written.Span × List ℕ)) (bytes : List ℕ) →
    result_ok (p bytes) ≡ in_words (raw_span true) q → result_ok (or_refuse e more =>> λ r. r bytes) ≡ in_words (raw_span true) others →
    result_ok (or_refuse e (if b then Some p else more) =>> λ r. r bytes) ≡ in_words (raw_span true) (if b then q else others)
row_is true e p more q others bytes h k = h
row_is false e p more q others bytes h k = k

-- a table, row by row
pub record Row (bytes : List ℕ) : Type 0 where
  pub code : ℕ
  pub read : Read (Option raw.Span)
  pub told : Option (Option written.Span × List ℕ)
  pub is : result_ok (read bytes) ≡ in_words (raw_span true) told

abbrev pub reads : {bytes : List ℕ} → List (Row bytes) → List (ℕ × Read (Option raw.Span))
reads [] = []
reads (r ∷ rows) = (r.code, r.read) ∷ reads rows

abbrev pub tells : {bytes : List ℕ} → ℕ → List (Row bytes) → Option (Option written.Span × List ℕ)
tells kind [] = None
tells kind (r ∷ rows) = if kind == r.code then r.told else tells kind rows

pub table_is : (e : ReadError) (kind : ℕ) (bytes : List ℕ) (rows : List (Row bytes)) → result_ok (or_refuse e (among kind (reads rows)) =>> λ r. r bytes) ≡ in_words (raw_span true) (tells kind rows)
table_is e kind bytes [] = refl
table_is e kind bytes (r ∷ rows) = row_is (kind == r.code) e r.read (among kind (reads rows)) r.told (tells kind rows) bytes r.is (table_is e kind bytes rows)

abbrev pub closing : (bytes : List ℕ) (code : ℕ) → Row bytes
closing bytes code = record { code = code; read = raw.close; told = Some (None, bytes); is = refl }

abbrev pub of_one : (bytes : List ℕ) (code : ℕ) (p : Read ℕ) (q : Parser ℕ) (f : ℕ → written.Span) → IsReadOf ℕ q p → Row bytes
of_one bytes code p q f h = record { code = code; read = raw.of_one p (λ n. raw_span true (f n)); told = written.one q f bytes; is = one_is p q f bytes h }

abbrev pub of_two : (bytes : List ℕ) (code : ℕ) (p r : Read ℕ) (q s : Parser ℕ) (f : ℕ → ℕ → written.Span) → IsReadOf ℕ q p → IsReadOf ℕ s r → Row bytes
of_two bytes code p r q s f h k = record { code = code; read = raw.of_two p r (λ m n. raw_span true (f m n)); told = written.two q s f bytes; is = two_is p r q s f bytes h k }

range_kind_is : (big : Bool) (w kind : ℕ) (bytes : List ℕ) → is_width w ≡ true →
    result_ok (raw.range_behind big w kind bytes) ≡ in_words (raw_span true) (written.range_kind_at big w kind bytes)
unfolding raw.range_behind raw.range_row
range_kind_is big w kind bytes h =
    let a : IsReadOf ℕ (number_at big w) (address_read big w) = address_is big w h in
    let u : IsReadOf ℕ uleb_at uleb_read = uleb_law in
    let r = address_read big w in
    let n = number_at big w in
    table_is (UnknownRangeListsEntry kind) kind bytes (
    closing bytes DW_RLE_end_of_list.0
    ∷ of_one bytes DW_RLE_base_addressx.0 uleb_read uleb_at written.BaseIndex u
    ∷ of_two bytes DW_RLE_startx_endx.0 uleb_read uleb_read uleb_at uleb_at written.IndexEnd u u
    ∷ of_two bytes DW_RLE_startx_length.0 uleb_read uleb_read uleb_at uleb_at written.IndexLength u u
    ∷ of_two bytes DW_RLE_offset_pair.0 uleb_read uleb_read uleb_at uleb_at written.Pair u u
    ∷ of_one bytes DW_RLE_base_address.0 r n written.Base a
    ∷ of_two bytes DW_RLE_start_end.0 r r n n written.StartEnd a a
    ∷ of_two bytes DW_RLE_start_length.0 r uleb_read n uleb_at written.StartLength a u
    ∷ [])

-- two numbers up to version 4
pair_by : (zeros marked : Bool) (a b : ℕ) →
    (if zeros then None else if marked then Some (raw.BaseAddress b) else Some (raw.AddressOrOffsetPair a b))
    ≡ option_of (raw_span false) (if zeros then None else Some (if marked then written.Base b else written.Pair a b))
pair_by true marked a b = refl
pair_by false true a b = refl
pair_by false false a b = refl

pair_is : (big : Bool) (w : ℕ) (bytes : List ℕ) → is_width w ≡ true → result_ok (raw.pair_read big w bytes) ≡ in_words (raw_span false) (written.old_span_at big w bytes)
unfolding raw.pair_read written.old_span_at
pair_is big w bytes h =
    let n : IsReadOf ℕ (number_at big w) (address_read big w) = address_is big w h in
    then_ok (address_read big w bytes) (number_at big w bytes)
    (λ a. address_read big w a.1 =>> λ b. Ok (raw.pair_of w a.0 b.0, b.1)) (λ a. in_words (raw_span false) (number_at big w a.1 >>= λ b. Some (written.old_span w a.0 b.0, b.1))) (n bytes)
    (λ a. then_ok (address_read big w a.1) (number_at big w a.1) (λ b. Ok (raw.pair_of w a.0 b.0, b.1)) (λ b. Some (option_of (raw_span false) (written.old_span w a.0 b.0), b.1)) (n a.1)
    (λ b. ap (λ o. Some (o, b.1)) (pair_by ((a.0 == 0) && (b.0 == 0)) (a.0 == written.marker w) a.0 b.0))
    ∙ sym (words_bind (raw_span false) (number_at big w a.1) (λ b. Some (written.old_span w a.0 b.0, b.1))))
    ∙ sym (words_bind (raw_span false) (number_at big w bytes) (λ a. number_at big w a.1 >>= λ b. Some (written.old_span w a.0 b.0, b.1)))

-- behind a kind, in version 5
no_byte : (big : Bool) → number_at big 1 [] ≡ None
unfolding number_at bytes_at
no_byte big = refl

first_is : (loc big : Bool) (w : ℕ) (bytes : List ℕ) → (number_at big 1 bytes >>= λ kind. in_words (raw_span true) (written.kind_at loc big w kind.0 kind.1)) ≡ in_words (raw_span true) (written.new_span_at loc big w bytes)
unfolding written.new_span_at
first_is loc big w [] = ap (λ o. o >>= λ kind. in_words (raw_span true) (written.kind_at loc big w kind.0 kind.1)) (no_byte big)
first_is loc big w (kind ∷ rest) = ap (λ o. o >>= λ k. in_words (raw_span true) (written.kind_at loc big w k.0 k.1)) (byte-again big kind rest)

kinds_is : (loc big : Bool) (w : ℕ) (bytes : List ℕ) (behind : ℕ → Read (Option raw.Span)) →
    ((kind : ℕ) (rest : List ℕ) → result_ok (behind kind rest) ≡ in_words (raw_span true) (written.kind_at loc big w kind rest)) →
    result_ok (number_read big 1 bytes =>> λ kind. behind kind.0 kind.1) ≡ in_words (raw_span true) (written.new_span_at loc big w bytes)
kinds_is loc big w bytes behind h =
    then_ok (number_read big 1 bytes) (number_at big 1 bytes) (λ kind. behind kind.0 kind.1) (λ kind. in_words (raw_span true) (written.kind_at loc big w kind.0 kind.1)) (number_law big 1 bytes) (λ kind. h kind.0 kind.1)
    ∙ first_is loc big w bytes

-- the addresses of an item in either version
module _ (loc big : Bool) (e : Encoding) (behind : Bool → ℕ → ℕ → Read (Option raw.Span)) (h : is_width e.address_size ≡ true)
    (kinds : (kind : ℕ) (bytes : List ℕ) → result_ok (behind big e.address_size kind bytes) ≡ in_words (raw_span true) (written.kind_at loc big e.address_size kind bytes)) where
  pub span_is : (bytes : List ℕ) → result_ok (raw.span_read behind big e bytes) ≡ in_words (raw_span (written.is_five e)) (written.span_at (written.is_five e) loc big e.address_size bytes)
  span_is bytes = by (e.version == 5)
    where
      by : (five : Bool) → result_ok (if five then (number_read big 1 bytes =>> λ kind. behind big e.address_size kind.0 kind.1) else raw.pair_read big e.address_size bytes)
          ≡ in_words (raw_span five) (written.span_at five loc big e.address_size bytes)
      by true = kinds_is loc big e.address_size bytes (behind big e.address_size) kinds
      by false = pair_is big e.address_size bytes h

-- an item of a range list is its addresses
bare_is : (five big : Bool) (o : Option (Option written.Span × List ℕ)) →
    in_words (raw_span five) o ≡ in_words (raw_range five) (o >>= λ s. written.rest_at five false big s.0 s.1)
bare_is five big None = refl
bare_is five big (Some (None, bytes)) = refl
bare_is five big (Some (Some s, bytes)) = refl

pub range_is : RangeItemsAreOne
unfolding raw.range_at raw.range_read written.item_at
range_is big e bytes h =
    span_is false big e raw.range_behind h (λ kind rest. range_kind_is big e.address_size kind rest h) bytes
    ∙ bare_is (written.is_five e) big (written.span_at (written.is_five e) false big e.address_size bytes)
