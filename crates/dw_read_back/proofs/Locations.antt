-- One item of a location list is read as it is told to be written.
use Rattle.std.proofs.Common.{◌≡◌, ◌∙◌, sym, ap, ℕ, Bool, true, false, List, [], ◌∷◌, Option, Some, None, Ok, refl, if◌then◌else◌}
use Rattle.std.specs.Prelude.{◌==◌}
use Rattle.std.specs.Result.{result_ok}
use Rattle.dw_base.specs.Numbers.{◌>>=◌, bytes_at, number_at, is_width}
use Rattle.dw_base.specs.Leb128.{uleb_at}
use Rattle.dw_base.specs.declared.common.Encoding.{Encoding}
use Rattle.dw_base.specs.declared.constants.TheConstants.{DW_LLE_end_of_list, DW_LLE_base_addressx, DW_LLE_startx_endx, DW_LLE_startx_length, DW_LLE_offset_pair, DW_LLE_default_location, DW_LLE_base_address, DW_LLE_start_end, DW_LLE_start_length}
use Rattle.dw_read.specs.declared.error.ReadError.TheVariants.{UnknownLocListsEntry}
use Rattle.dw_read.specs.Reasons.{◌=>>◌, bytes_read, number_read, uleb_read, address_read}
use Rattle.dw_read.specs.Took.{option_of}
use Rattle.dw_read.proofs.Laws.{IsReadOf, then_ok, bytes_law, number_law, uleb_law}
use Rattle.dw_sources.specs.Operands.{block_read}
use Rattle.dw_lists.specs.Items as written
use Rattle.dw_sources.specs.RawLists as raw
use Rattle.dw_read_back.specs.Views.{raw_span, raw_location}
use Rattle.dw_read_back.specs.Laws.{in_words, LocationItemsAreOne}
use Rattle.dw_read_back.proofs.Items.{Row, words_bind, address_is, table_is, closing, of_one, of_two, span_is}

location_kind_is : (big : Bool) (w kind : ℕ) (bytes : List ℕ) → is_width w ≡ true →
    result_ok (raw.location_behind big w kind bytes) ≡ in_words (raw_span true) (written.location_kind_at big w kind bytes)
unfolding raw.location_behind raw.location_row
location_kind_is big w kind bytes h =
    let a : IsReadOf ℕ (number_at big w) (address_read big w) = address_is big w h in
    let u : IsReadOf ℕ uleb_at uleb_read = uleb_law in
    let r = address_read big w in
    let n = number_at big w in
    let default : Row bytes = record { code = DW_LLE_default_location.0; read = λ bs. Ok (Some raw.DefaultLocation, bs); told = Some (Some written.Default, bytes); is = refl } in
    table_is (UnknownLocListsEntry kind) kind bytes (
    closing bytes DW_LLE_end_of_list.0
    ∷ of_one bytes DW_LLE_base_addressx.0 uleb_read uleb_at written.BaseIndex u
    ∷ of_two bytes DW_LLE_startx_endx.0 uleb_read uleb_read uleb_at uleb_at written.IndexEnd u u
    ∷ of_two bytes DW_LLE_startx_length.0 uleb_read uleb_read uleb_at uleb_at written.IndexLength u u
    ∷ of_two bytes DW_LLE_offset_pair.0 uleb_read uleb_read uleb_at uleb_at written.Pair u u
    ∷ default
    ∷ of_one bytes DW_LLE_base_address.0 r n written.Base a
    ∷ of_two bytes DW_LLE_start_end.0 r r n n written.StartEnd a a
    ∷ of_two bytes DW_LLE_start_length.0 r uleb_read n uleb_at written.StartLength a u
    ∷ [])

-- the bytes of an expression in either version
counted_is : (big : Bool) (e : Encoding) (bytes : List ℕ) → result_ok (raw.expression_read big e bytes) ≡ (written.count_at (written.is_five e) big bytes >>= λ n. bytes_at n.0 n.1)
unfolding raw.expression_read block_read
counted_is big e bytes = by (e.version == 5)
  where
    by : (five : Bool) → result_ok (if five then (uleb_read bytes =>> λ n. bytes_read n.0 n.1) else (number_read big 2 bytes =>> λ n. bytes_read n.0 n.1)) ≡ (written.count_at five big bytes >>= λ n. bytes_at n.0 n.1)
    by true = then_ok (uleb_read bytes) (uleb_at bytes) (λ n. bytes_read n.0 n.1) (λ n. bytes_at n.0 n.1) (uleb_law bytes) (λ n. bytes_law n.0 n.1)
    by false = then_ok (number_read big 2 bytes) (number_at big 2 bytes) (λ n. bytes_read n.0 n.1) (λ n. bytes_at n.0 n.1) (number_law big 2 bytes) (λ n. bytes_law n.0 n.1)

-- bytes that are taken in three steps
bind_thrice : {A B C D : Type 0} (o : Option A) (f : A → Option B) (g : B → C) (h : C → Option D) → (o >>= λ a. f a >>= λ b. h (g b)) ≡ ((o >>= λ a. f a >>= λ b. Some (g b)) >>= h)
bind_thrice None f g h = refl
bind_thrice {B = B} (Some a) f g h = by (f a)
  where
    by : (p : Option B) → (p >>= λ b. h (g b)) ≡ ((p >>= λ b. Some (g b)) >>= h)
    by None = refl
    by (Some b) = refl

bind_again : {A B C : Type 0} (o : Option A) (f : A → Option B) (g : B → Option C) → ((o >>= f) >>= g) ≡ (o >>= λ a. f a >>= g)
bind_again None f g = refl
bind_again (Some a) f g = refl

-- the same items have an expression
located_same : (five : Bool) (s : written.Span) → raw.is_located (raw_span five s) ≡ written.is_located true s
located_same five (written.Base n) = refl
located_same true (written.Pair m n) = refl
located_same false (written.Pair m n) = refl
located_same five (written.StartEnd m n) = refl
located_same five (written.StartLength m n) = refl
located_same five written.Default = refl
located_same five (written.BaseIndex n) = refl
located_same five (written.IndexEnd m n) = refl
located_same five (written.IndexLength m n) = refl

module _ (big : Bool) (e : Encoding) where
  behind_is : (o : Option written.Span) (bytes : List ℕ) → result_ok (raw.behind_span big e (option_of (raw_span (written.is_five e)) o) bytes) ≡ in_words (raw_location (written.is_five e)) (written.rest_at (written.is_five e) true big o bytes)
  behind_is None bytes = refl
  behind_is (Some s) bytes = ap with (located_same five s) ∙ by (written.is_located true s)
    where
      five : Bool
      five = written.is_five e

      with : Bool → Option (Option raw.Item × List ℕ)
      with has = result_ok (if has then (raw.expression_read big e bytes =>> λ x. Ok (Some (record { span = raw_span five s; expression = Some x.0 }), x.1)) else Ok (Some (record { span = raw_span five s; expression = None }), bytes))

      by : (has : Bool) → with has ≡ in_words (raw_location five) (written.expression_at has five big bytes >>= λ x. Some (Some (record { span = s; expression = x.0 }), x.1))
      by false = refl
      by true =
          then_ok (raw.expression_read big e bytes) (written.count_at five big bytes >>= λ n. bytes_at n.0 n.1) (λ x. Ok (Some (record { span = raw_span five s; expression = Some x.0 }), x.1)) (λ x. Some (Some (record { span = raw_span five s; expression = Some x.0 }), x.1)) (counted_is big e bytes) (λ x. refl)
          ∙ bind_again (written.count_at five big bytes) (λ n. bytes_at n.0 n.1) (λ x. Some (Some (record { span = raw_span five s; expression = Some x.0 }), x.1))
          ∙ bind_thrice (written.count_at five big bytes) (λ n. bytes_at n.0 n.1) (λ x. (Some x.0, x.1)) (λ x. Some (Some (record { span = raw_span five s; expression = x.0 }), x.1))
          ∙ sym (words_bind (raw_location five) (written.expression_at true five big bytes) (λ x. Some (Some (record { span = s; expression = x.0 }), x.1)))

  after_is : (p : Option (Option written.Span × List ℕ)) → (in_words (raw_span (written.is_five e)) p >>= λ s. result_ok (raw.behind_span big e s.0 s.1)) ≡ in_words (raw_location (written.is_five e)) (p >>= λ s. written.rest_at (written.is_five e) true big s.0 s.1)
  after_is None = refl
  after_is (Some s) = behind_is s.0 s.1

pub location_is : LocationItemsAreOne
unfolding raw.location_at raw.location_read raw.location_span_read written.item_at
location_is big e bytes h =
    let spans = written.span_at (written.is_five e) true big e.address_size bytes in
    then_ok (raw.location_span_read big e bytes) (in_words (raw_span (written.is_five e)) spans) (λ s. raw.behind_span big e s.0 s.1) (λ s. result_ok (raw.behind_span big e s.0 s.1))
    (span_is true big e raw.location_behind h (λ kind rest. location_kind_is big e.address_size kind rest h) bytes) (λ s. refl)
    ∙ after_is big e spans
