-- A location list that is read item by item.
use Rattle.std.proofs.Common.{◌≡◌, ◌∙◌, sym, ap, subst, ℕ, zero, suc, ◌+◌, ◌-◌, ◌<◌, ◌≤◌, List, ◌++◌, length, take, drop, Bool, true, false, Option, Some, None, Result, Ok, Err, refl, append_assoc, append-nil, arith}
use Rattle.std.specs.Prelude.{◌==◌, if◌then◌else◌}
use Rattle.std.specs.Result.{result_ok}
use Rattle.std.proofs.lemmas.Bool.{le-leb}
use Rattle.dw_base.specs.Numbers.{bytes_at}
use Rattle.dw_base.specs.declared.common.Encoding.{Encoding}
use Rattle.dw_base.specs.declared.offsets.UnitSectionOffset.{UnitSectionOffset}
use Rattle.dw_read.specs.Reading.{Reading, IsReading, left}
use Rattle.dw_read.specs.Reasons.{bytes_read}
use Rattle.dw_read.specs.declared.error.ReadError.{ReadError}
use Rattle.dw_read.proofs.Lefts.{left_passed, length-left, same_order}
use Rattle.dw_read_units.specs.declared.unit_ref.UnitRef.{UnitRef}
use Rattle.dw_sources.specs.ConvertErrors.{from_read}
use Rattle.dw_sources.specs.RawListIters.{encoding_in, locations_section, BeginsLocations, PassesLocation, ClosesLocations, RefusesLocation, ReadsLocation}
use Rattle.dw_sources.specs.RawListViews.{location_of, HoldsExpression}
use Rattle.dw_sources.specs.RawLists.{Item, location_at, location_read}
use Rattle.dw_sources.specs.declared.convert_error.ConvertError.{ConvertError}
use Rattle.dw_sources.specs.declared.location_item.RawLocListEntry.{RawLocListEntry}
use Rattle.dw_sources.specs.declared.location_item.RawLocListEntry.TheVariants as held
use Rattle.dw_sources.specs.declared.raw_lists.RawLocListIter.{RawLocListIter}
use Rattle.dw_sources.proofs.Progress.{fewer_left}
use Rattle.dw_filter.specs.PlaceViews.{bounds_of, named_by_item, named_by_list, held_expression, AddsList, AddsFaultyList}
use Rattle.dw_filter.specs.Places.{UnitBounds, ListPlaces, no_list, places_of, expression_places, list_from, list_up_to, list_found}

was_ok : (r : Result (Option Item × List ℕ) ReadError) (x : Option Item × List ℕ) → result_ok r ≡ Some x → r ≡ Ok x
was_ok (Ok y) x h = let q : y ≡ x = cc in ap (λ z. Ok z) q
was_ok (Err y) x h = absurd (cc)

item_read : (big : Bool) (e : Encoding) (bytes : List ℕ) (x : Option Item × List ℕ) → location_at big e bytes ≡ Some x → location_read big e bytes ≡ Ok x
unfolding location_at
item_read big e bytes x h = was_ok (location_read big e bytes) x h

either : (b : Bool) (x y : Reading) → IsReading x → IsReading y → IsReading (if b then x else y)
either true x y h k = h
either false x y h k = k

-- the bytes from an offset on are there
bytes_there : (n : ℕ) (bytes : List ℕ) → n ≤ length bytes → bytes_read n bytes ≡ Ok (take n bytes, drop n bytes)
unfolding bytes_read bytes_at
bytes_there n bytes h = rw (le-leb n (length bytes) h) refl

module _ (u : UnitBounds) (big : Bool) (e : Encoding) where
  -- one item more, the close, and an item that can't be read
  step_is : (n : ℕ) (bytes : List ℕ) (r : Result (Option Item × List ℕ) ReadError) → location_read big e bytes ≡ r → list_up_to u big e (suc n) bytes ≡ list_from u big e (list_up_to u big e n) r
  unfolding list_up_to
  step_is n bytes r h = ap (list_from u big e (list_up_to u big e n)) h

module _ (R E : Type 0) (reading : R → Reading) (u : UnitRef R E) where
  abbrev section : Reading
  section = locations_section reading u

  pub section_read : ((r : R) → IsReading (reading r)) → IsReading section
  section_read h = either ((encoding_in u).version == 5) (reading u.dwarf.now.debug_loclists) (reading u.dwarf.now.debug_loc) (h u.dwarf.now.debug_loclists) (h u.dwarf.now.debug_loc)

  -- what is named from bytes of the list on, by a number above theirs
  abbrev behind : ℕ → List ℕ → ListPlaces
  behind n bytes = list_up_to (bounds_of reading u) section.is_big (encoding_in u) n bytes

  abbrev behind_read : ℕ → Result (Option Item × List ℕ) ReadError → ListPlaces
  behind_read n r = list_from (bounds_of reading u) section.is_big (encoding_in u) (behind n) r

  -- what the expression of an item names, in the order of the list
  abbrev named_in : Bool → RawLocListEntry R E → List UnitSectionOffset
  named_in big x = places_of (expression_places (bounds_of reading u) big (encoding_in u)) (location_of reading x).expression

  item_named : (old : Reading) (x : RawLocListEntry R E) → HoldsExpression reading old x → named_in old.is_big x ≡ named_by_item reading u (held_expression x)
  item_named old (held.BaseAddress n) h = refl
  item_named old (held.BaseAddressx n) h = refl
  item_named old (held.AddressOrOffsetPair m n x) h = ap (λ (b : Bool). named_in b (held.AddressOrOffsetPair m n x)) (sym h.order)
  item_named old (held.StartxEndx m n x) h = ap (λ (b : Bool). named_in b (held.StartxEndx m n x)) (sym h.order)
  item_named old (held.StartxLength m n x) h = ap (λ (b : Bool). named_in b (held.StartxLength m n x)) (sym h.order)
  item_named old (held.OffsetPair m n x) h = ap (λ (b : Bool). named_in b (held.OffsetPair m n x)) (sym h.order)
  item_named old (held.DefaultLocation x) h = ap (λ (b : Bool). named_in b (held.DefaultLocation x)) (sym h.order)
  item_named old (held.StartEnd m n x) h = ap (λ (b : Bool). named_in b (held.StartEnd m n x)) (sym h.order)
  item_named old (held.StartLength m n x) h = ap (λ (b : Bool). named_in b (held.StartLength m n x)) (sym h.order)

  module _ (offset : ℕ) (before : List UnitSectionOffset) where
    abbrev whole : ListPlaces
    whole = named_by_list reading u offset

    -- what is known while the list is read
    pub record Goes (found : List UnitSectionOffset) (items : RawLocListIter R E) : Type 0 where
      pub n : ℕ
      pub enough : length (left (reading items.input)) < n
      pub order : (reading items.input).is_big ≡ section.is_big
      pub encoding : items.encoding ≡ encoding_in u
      pub open_yet : items.has_ended ≡ false
      pub fault : whole.fault ≡ (behind n (left (reading items.input))).fault
      pub together : found ++ (behind n (left (reading items.input))).places ≡ before ++ whole.places

    pub goes_first : (items : RawLocListIter R E) → IsReading section → BeginsLocations reading u offset items → Goes before items
    goes_first items is b =
        let rest = left (reading items.input) in
        let long : length (left section) ≡ section.end - section.place = length-left section is in
        let within : section.place + offset ≤ section.end = b.input.within in
        let here : rest ≡ drop offset (left section) = left_passed offset section (reading items.input) b.input in
        let there : bytes_read offset (left section) ≡ Ok (take offset (left section), rest) = bytes_there offset (left section) (omega arith) ∙ ap (λ (bytes : List ℕ). Ok (take offset (left section), bytes)) (sym here) in
        let found : whole ≡ behind (suc (length rest)) rest = ap (list_found (bounds_of reading u) section.is_big (encoding_in u)) there in
        record {
          n = suc (length rest);
          enough = omega arith;
          order = same_order offset section (reading items.input) b.input;
          encoding = b.encoding;
          open_yet = b.not_ended;
          fault = ap (λ (l : ListPlaces). l.fault) found;
          together = ap (λ (l : ListPlaces). before ++ l.places) (sym found);
        }

    module _ (found : List UnitSectionOffset) (old new : RawLocListIter R E) (g : Goes found old) where
      -- what the next item is read as
      step : (n : ℕ) → g.n ≡ suc n → (r : Result (Option Item × List ℕ) ReadError) → location_read (reading old.input).is_big old.encoding (left (reading old.input)) ≡ r → behind g.n (left (reading old.input)) ≡ behind_read n r
      step n s r h =
          ap (λ (k : ℕ). behind k (left (reading old.input))) s
          ∙ step_is (bounds_of reading u) section.is_big (encoding_in u) n (left (reading old.input)) r
          (subst (λ (c : Encoding). location_read section.is_big c (left (reading old.input)) ≡ r) g.encoding (subst (λ (b : Bool). location_read b old.encoding (left (reading old.input)) ≡ r) g.order h))

      -- one item more
      goes_more : (n : ℕ) → g.n ≡ suc n → (x : RawLocListEntry R E) → IsReading (reading old.input) → IsReading (reading new.input) → PassesLocation reading old new x → Goes (found ++ named_by_item reading u (held_expression x)) new
      goes_more n s x is js p =
          let next = left (reading new.input) in
          let fewer : length next < length (left (reading old.input)) = fewer_left (Option Item) (location_at (reading old.input).is_big old.encoding) (reading old.input) (reading new.input) (Some (location_of reading x)) is js p.item p.progress in
          let enough : length (left (reading old.input)) < g.n = g.enough in
          let one : behind g.n (left (reading old.input)) ≡ behind_read n (Ok (Some (location_of reading x), next)) = step n s (Ok (Some (location_of reading x), next)) (item_read (reading old.input).is_big old.encoding (left (reading old.input)) (Some (location_of reading x), next) p.item.value) in
          let here : named_in section.is_big x ≡ named_by_item reading u (held_expression x) = ap (λ (b : Bool). named_in b x) (sym g.order) ∙ item_named (reading old.input) x p.part in
          record {
            n = n;
            enough = omega arith;
            order = same_order p.item.count (reading old.input) (reading new.input) p.item.passes ∙ g.order;
            encoding = p.encoding ∙ g.encoding;
            open_yet = p.went_on.1;
            fault = g.fault ∙ ap (λ (l : ListPlaces). l.fault) one;
            together = append_assoc found (named_by_item reading u (held_expression x)) (behind n next).places
                ∙ ap (λ (xs : List UnitSectionOffset). found ++ (xs ++ (behind n next).places)) (sym here)
                ∙ ap (λ (l : ListPlaces). found ++ l.places) (sym one)
                ∙ g.together;
          }

      above : (n k : ℕ) → k < n → (m : ℕ) × (n ≡ suc m)
      above zero k h = absurd (omega (arith, h))
      above (suc m) k h = (m, refl)

      pub goes_on : (x : RawLocListEntry R E) (found' : List UnitSectionOffset) → IsReading (reading old.input) → IsReading (reading new.input) → PassesLocation reading old new x → found' ≡ found ++ named_by_item reading u (held_expression x) → Goes found' new
      goes_on x found' is js p h = let n = above g.n (length (left (reading old.input))) g.enough in subst (λ (xs : List UnitSectionOffset). Goes xs new) (sym h) (goes_more n.0 n.1 x is js p)

      -- the list is closed
      pub goes_to_close : ClosesLocations reading old new → AddsList before found whole
      goes_to_close h =
          let n = above g.n (length (left (reading old.input))) g.enough in
          let read = h.is g.open_yet in
          let end : Result (Option Item × List ℕ) ReadError = Ok (None, left (reading new.input)) in
          let closed : behind g.n (left (reading old.input)) ≡ behind_read n.0 end = step n.0 n.1 end (item_read (reading old.input).is_big old.encoding (left (reading old.input)) (None, left (reading new.input)) read.value) in
          record {
            whole = g.fault ∙ ap (λ (l : ListPlaces). l.fault) closed;
            added = sym (append-nil found) ∙ ap (λ (l : ListPlaces). found ++ l.places) (sym closed) ∙ g.together;
          }

      -- the next item can't be read
      pub goes_wrong : (error : ReadError) (e : ConvertError) → RefusesLocation reading old new error → e ≡ from_read error → AddsFaultyList before found whole e
      goes_wrong error e h is =
          let n = above g.n (length (left (reading old.input))) g.enough in
          let stuck : behind g.n (left (reading old.input)) ≡ no_list error = step n.0 n.1 (Err error) h.refused.reason in
          record {
            error = error;
            fault = g.fault ∙ ap (λ (l : ListPlaces). l.fault) stuck;
            added = sym (append-nil found) ∙ ap (λ (l : ListPlaces). found ++ l.places) (sym stuck) ∙ g.together;
            is = is;
          }

  module _ (old new : RawLocListIter R E) where
    pub passes_one : (o : Option (RawLocListEntry R E)) (x : RawLocListEntry R E) → ReadsLocation reading old new (Ok o) → o ≡ Some x → PassesLocation reading old new x
    passes_one o x h e = subst (λ p. ReadsLocation reading old new (Ok p)) e h

    pub closes : (o : Option (RawLocListEntry R E)) → ReadsLocation reading old new (Ok o) → o ≡ None → ClosesLocations reading old new
    closes o h e = subst (λ p. ReadsLocation reading old new (Ok p)) e h
