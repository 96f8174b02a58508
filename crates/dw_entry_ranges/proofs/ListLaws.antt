-- The ranges of a list, one item after the other.
use Rattle.std.proofs.Common.{◌≡◌, ◌∙◌, sym, ap, subst, ℕ, zero, suc, ◌+◌, ◌<◌, ◌≤◌, List, [], ◌++◌, length, take, Bool, false, Option, Some, None, Result, Ok, Err, refl, arith, append_assoc}
use Rattle.std.proofs.lemmas.List.{append-nil}
use Rattle.std.proofs.lemmas.Bool.{le-leb}
use Rattle.dw_base.specs.Numbers.{bytes_at}
use Rattle.dw_base.specs.declared.common.Encoding.{Encoding}
use Rattle.dw_read.specs.Reading.{Reading, Read, IsReading, Passes, left}
use Rattle.dw_read.specs.Reasons.{◌=>>◌, bytes_read}
use Rattle.dw_read.specs.declared.error.ReadError.{ReadError}
use Rattle.dw_read.proofs.Laws.{read_is}
use Rattle.dw_read.proofs.Lefts.{left_passed, length-left, same_order}
use Rattle.dw_read_units.specs.declared.unit_ref.UnitRef.{UnitRef}
use Rattle.dw_sources.proofs.Progress.{fewer_left}
use Rattle.dw_sources.specs.RawLists.{Span, range_at, range_read}
use Rattle.dw_sources.specs.RawListViews.{span_of}
use Rattle.dw_sources.specs.RawListIters.{encoding_in, ranges_section, BeginsRanges, PassesRange, ClosesRanges, RefusesRange, ReadsRange}
use Rattle.dw_sources.specs.declared.range_item.RawRngListEntry.{RawRngListEntry}
use Rattle.dw_sources.specs.declared.raw_lists.RawRngListIter.{RawRngListIter}
use Rattle.dw_entry_ranges.specs.Addresses.{indexed_address}
use Rattle.dw_entry_ranges.specs.Items.{item_read, base_behind, range_in}
use Rattle.dw_entry_ranges.specs.Lists.{ranges_from, ranges_at}
use Rattle.dw_entry_ranges.specs.declared.item.Item.{Item}
use Rattle.dw_entry_ranges.specs.declared.range.AddressRange.{AddressRange}

-- ranges with others before them
abbrev with_front : List AddressRange → Result (List AddressRange) ReadError → Result (List AddressRange) ReadError
with_front front r = r =>> λ more. Ok (front ++ more)

front_none : (r : Result (List AddressRange) ReadError) → with_front [] r ≡ r
front_none (Ok more) = refl
front_none (Err e) = refl

front_then : (front xs : List AddressRange) (r : Result (List AddressRange) ReadError) → with_front front (r =>> λ more. Ok (xs ++ more)) ≡ with_front (front ++ xs) r
front_then front xs (Ok more) = ap Ok (sym (append_assoc front xs more))
front_then front xs (Err e) = refl

module _ (read : Read (Option Span)) (address : ℕ → Result ℕ ReadError) where
  -- the ranges so far and those of the bytes left are those of the whole list
  pub record Told (whole : Result (List AddressRange) ReadError) (front : List AddressRange) (base : ℕ) (bytes : List ℕ) : Type 0 where
    pub fuel : ℕ
    pub enough : length bytes ≤ fuel
    pub is : with_front front (ranges_from read address (suc fuel) base bytes) ≡ whole

  told_first : (whole : Result (List AddressRange) ReadError) (front : List AddressRange) (base : ℕ) (bytes : List ℕ) → front ≡ [] → whole ≡ ranges_from read address (suc (length bytes)) base bytes → Told whole front base bytes
  told_first whole front base bytes f h = record {
    fuel = length bytes;
    enough = omega arith;
    is = ap (λ (xs : List AddressRange). with_front xs (ranges_from read address (suc (length bytes)) base bytes)) f ∙ front_none (ranges_from read address (suc (length bytes)) base bytes) ∙ sym h;
  }

  step_is : (fuel base : ℕ) (bytes rest : List ℕ) (s : Span) (item : Item) → read bytes ≡ Ok (Some s, rest) → item_read address base s ≡ Ok item
      → ranges_from read address (suc fuel) base bytes ≡ (ranges_from read address fuel (base_behind base item) rest =>> λ more. Ok (range_in item ++ more))
  unfolding ranges_from
  step_is fuel base bytes rest s item h k = rw (h, k) refl

  module _ (whole : Result (List AddressRange) ReadError) (front : List AddressRange) (base : ℕ) (bytes : List ℕ) where
    more_by : (fuel : ℕ) (rest : List ℕ) (s : Span) (item : Item) → length bytes ≤ fuel → with_front front (ranges_from read address (suc fuel) base bytes) ≡ whole → read bytes ≡ Ok (Some s, rest) → length rest < length bytes → item_read address base s ≡ Ok item
        → Told whole (front ++ range_in item) (base_behind base item) rest
    more_by zero rest s item n t h l k = absurd (omega arith)
    more_by (suc fuel) rest s item n t h l k = record {
      fuel = fuel;
      enough = omega arith;
      is = sym (front_then front (range_in item) (ranges_from read address (suc fuel) (base_behind base item) rest)) ∙ ap (with_front front) (sym (step_is (suc fuel) base bytes rest s item h k)) ∙ t;
    }

    told_more : (now : List AddressRange) (next : ℕ) (rest : List ℕ) (s : Span) (item : Item) → Told whole front base bytes → read bytes ≡ Ok (Some s, rest) → length rest < length bytes → item_read address base s ≡ Ok item → now ≡ front ++ range_in item → next ≡ base_behind base item → Told whole now next rest
    told_more now next rest s item t h l k f b =
        let m : Told whole (front ++ range_in item) (base_behind base item) rest = more_by t.fuel rest s item t.enough t.is h l k in
        subst (λ (n : ℕ). Told whole now n rest) (sym b) (subst (λ (xs : List AddressRange). Told whole xs (base_behind base item) rest) (sym f) m)

    close_is : (fuel : ℕ) (rest : List ℕ) → read bytes ≡ Ok (None, rest) → ranges_from read address (suc fuel) base bytes ≡ Ok []
    unfolding ranges_from
    close_is fuel rest h = rw h refl

    told_closed : (rest : List ℕ) → Told whole front base bytes → read bytes ≡ Ok (None, rest) → whole ≡ Ok front
    told_closed rest t h = sym t.is ∙ ap (with_front front) (close_is t.fuel rest h) ∙ ap Ok (append-nil front)

    unread_is : (fuel : ℕ) (e : ReadError) → read bytes ≡ Err e → ranges_from read address (suc fuel) base bytes ≡ Err e
    unfolding ranges_from
    unread_is fuel e h = rw h refl

    told_unread : (e : ReadError) → Told whole front base bytes → read bytes ≡ Err e → whole ≡ Err e
    told_unread e t h = sym t.is ∙ ap (with_front front) (unread_is t.fuel e h)

    no_item : (fuel : ℕ) (rest : List ℕ) (s : Span) (e : ReadError) → read bytes ≡ Ok (Some s, rest) → item_read address base s ≡ Err e → ranges_from read address (suc fuel) base bytes ≡ Err e
    unfolding ranges_from
    no_item fuel rest s e h k = rw (h, k) refl

    told_no_item : (rest : List ℕ) (s : Span) (e : ReadError) → Told whole front base bytes → read bytes ≡ Ok (Some s, rest) → item_read address base s ≡ Err e → whole ≡ Err e
    told_no_item rest s e t h k = sym t.is ∙ ap (with_front front) (no_item t.fuel rest s e h k)

-- the bytes that were passed could be read
passed_bytes : (n : ℕ) (old new : Reading) → IsReading new → Passes n old new → bytes_read n (left old) ≡ Ok (take n (left old), left new)
unfolding bytes_read bytes_at
passed_bytes n old new i h =
    let j : IsReading (record old { place = old.place + n }) = subst IsReading h.is i in
    let k : IsReading old = record { place = (let w : old.place + n ≤ old.end = h.within in omega arith); end = j.end; small = j.small } in
    let l : n ≤ length (left old) = (let e = length-left old k in let w : old.place + n ≤ old.end = h.within in omega arith) in
    rw (le-leb n (length (left old)) l) (ap (λ (xs : List ℕ). Ok (take n (left old), xs)) (sym (left_passed n old new h)))

module _ (R E : Type 0) (reading : R → Reading) where
  -- one step over the items, by the order and the encoding of the list
  module _ (big : Bool) (e : Encoding) (old new : RawRngListIter R E) (b : (reading old.input).is_big ≡ big) (n : old.encoding ≡ e) where
    read_of : (x : Option Span) → range_at (reading old.input).is_big old.encoding (left (reading old.input)) ≡ Some (x, left (reading new.input)) → range_read big e (left (reading old.input)) ≡ Ok (x, left (reading new.input))
    unfolding range_at
    read_of x h =
        let k : range_at big e (left (reading old.input)) ≡ Some (x, left (reading new.input)) = subst (λ (y : Encoding). range_at big y (left (reading old.input)) ≡ Some (x, left (reading new.input))) n
        (subst (λ (y : Bool). range_at y old.encoding (left (reading old.input)) ≡ Some (x, left (reading new.input))) b h) in
        read_is (Option Span) (range_at big e) (range_read big e) (left (reading old.input)) (x, left (reading new.input)) (λ bytes. refl) k

    refused_here : (r : ReadError) → RefusesRange reading old new r → range_read big e (left (reading old.input)) ≡ Err r
    refused_here r h = subst (λ (y : Encoding). range_read big y (left (reading old.input)) ≡ Err r) n
        (subst (λ (y : Bool). range_read y old.encoding (left (reading old.input)) ≡ Err r) b h.refused.reason)

  module _ (u : UnitRef R E) (offset : ℕ) where
    -- how an item of the list is read
    abbrev read_in : Read (Option Span)
    read_in = range_read (ranges_section reading u).is_big (encoding_in u)

    begins_list : (input : Reading) → IsReading input → Passes offset (ranges_section reading u) input → ranges_at reading u offset ≡ ranges_from read_in (indexed_address reading u) (suc (length (left input))) u.unit.now.low_pc (left input)
    unfolding ranges_at
    begins_list input i h = rw (passed_bytes offset (ranges_section reading u) input i h) refl

    pub no_list : (e : ReadError) → bytes_read offset (left (ranges_section reading u)) ≡ Err e → ranges_at reading u offset ≡ Err e
    unfolding ranges_at
    no_list e h = rw h refl

    -- what is known where the first items of the list were read
    pub record Stands (items : RawRngListIter R E) (base : ℕ) (front : List AddressRange) : Type 0 where
      pub told : Told read_in (indexed_address reading u) (ranges_at reading u offset) front base (left (reading items.input))
      pub order : (reading items.input).is_big ≡ (ranges_section reading u).is_big
      pub encoding : items.encoding ≡ encoding_in u
      pub open_yet : items.has_ended ≡ false

    pub stands_first : (items : RawRngListIter R E) (front : List AddressRange) → IsReading (reading items.input) → BeginsRanges reading u offset items → front ≡ [] → Stands items u.unit.now.low_pc front
    stands_first items front i h f = record {
      told = told_first read_in (indexed_address reading u) (ranges_at reading u offset) front u.unit.now.low_pc (left (reading items.input)) f (begins_list (reading items.input) i h.input);
      order = same_order offset (ranges_section reading u) (reading items.input) h.input;
      encoding = h.encoding;
      open_yet = h.not_ended;
    }

    module _ (old new : RawRngListIter R E) (base : ℕ) (front : List AddressRange) (s : Stands old base front) where
      pub stands_unread : (e : ReadError) → RefusesRange reading old new e → ranges_at reading u offset ≡ Err e
      stands_unread e h = told_unread read_in (indexed_address reading u) (ranges_at reading u offset) front base (left (reading old.input)) e s.told (refused_here (ranges_section reading u).is_big (encoding_in u) old new s.order s.encoding e h)

      module _ (o : Option RawRngListEntry) (h : ReadsRange reading old new (Ok o)) where
        pub stands_closed : o ≡ None → ranges_at reading u offset ≡ Ok front
        stands_closed q =
            let c : ClosesRanges reading old new = subst (λ p. ReadsRange reading old new (Ok p)) q h in
            told_closed read_in (indexed_address reading u) (ranges_at reading u offset) front base (left (reading old.input)) (left (reading new.input)) s.told
            (read_of (ranges_section reading u).is_big (encoding_in u) old new s.order s.encoding None (c.is s.open_yet).value)

        module _ (x : RawRngListEntry) (q : o ≡ Some x) where
          passes : PassesRange reading old new x
          passes = subst (λ p. ReadsRange reading old new (Ok p)) q h

          read_here : read_in (left (reading old.input)) ≡ Ok (Some (span_of x), left (reading new.input))
          read_here = read_of (ranges_section reading u).is_big (encoding_in u) old new s.order s.encoding (Some (span_of x)) passes.item.value

          pub stands_no_item : (e : ReadError) → Err e ≡ item_read (indexed_address reading u) base (span_of x) → ranges_at reading u offset ≡ Err e
          stands_no_item e k = told_no_item read_in (indexed_address reading u) (ranges_at reading u offset) front base (left (reading old.input)) (left (reading new.input)) (span_of x) e s.told read_here (sym k)

          pub stands_more : (next : ℕ) (now : List AddressRange) (item : Item) → IsReading (reading old.input) → IsReading (reading new.input) → Ok item ≡ item_read (indexed_address reading u) base (span_of x) → next ≡ base_behind base item → now ≡ front ++ range_in item → Stands new next now
          stands_more next now item i j k b f = record {
            told = told_more read_in (indexed_address reading u) (ranges_at reading u offset) front base (left (reading old.input)) now next (left (reading new.input)) (span_of x) item s.told read_here
                (fewer_left (Option Span) _ (reading old.input) (reading new.input) (Some (span_of x)) i j passes.item passes.progress) (sym k) f b;
            order = same_order passes.item.count (reading old.input) (reading new.input) passes.item.passes ∙ s.order;
            encoding = passes.encoding ∙ s.encoding;
            open_yet = passes.went_on.1;
          }
