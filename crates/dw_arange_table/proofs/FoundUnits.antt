-- The sets of units find exactly the units that cover an address.
use Rattle.std.proofs.Common.{◌≡◌, ◌∙◌, sym, ap, subst, ℕ, ◌+◌, ◌-◌, ◌^◌, ◌<◌, ◌≤◌, List, [], ◌∷◌, ◌++◌, length, map, Bool, true, false, not, ◌&&◌, ◌||◌, refl, arith, nat_eq, nat_le, nat_lt, if◌then◌else◌}
use Rattle.std.specs.Prelude.{filter}
use Rattle.std.specs.List.{list_any}
use Rattle.std.proofs.lemmas.Bool.{eqb-true, leb-true, ltb-true, ltb-false}
use borrow.Author.Tests.{ne_eqb, lt-ltb, le-ltb}
use Rattle.dw_read.specs.Reading.{Reading, IsReading, left}
use Rattle.dw_read.specs.UnitHeaders.{IsHeaderRead}
use Rattle.dw_read.specs.declared.unit_header.UnitHeader.{UnitHeader}
use Rattle.dw_read_units.proofs.UnitWalk.{unit_shorter}
use Rattle.dw_read_units.specs.declared.dwarf.Dwarf.{Dwarf}
use Rattle.dw_entry_ranges.specs.declared.range.AddressRange.{AddressRange}
use Rattle.dw_arange_table.specs.declared.range.RangeDescriptor.{RangeDescriptor}
use Rattle.dw_arange_table.specs.Sets.{RangeSet}
use Rattle.dw_arange_table.specs.Find.{range_has, set_has, units_at}
use Rattle.dw_arange_table.specs.Covers.{descriptor_of, descriptors_of, unit_set, set_if_any, sets_of, Covered, covers_address, places_at, CoversUnits}

-- a range has an address
abbrev in_range : ℕ → AddressRange → Bool
in_range a r = nat_le r.begin a && nat_lt a r.end

-- so has its descriptor
below_end : (a b e : ℕ) → b ≤ a → nat_lt a (b + (e - b)) ≡ nat_lt a e
below_end a b e h = by_end (nat_lt a e) refl
  where
    by_end : (t : Bool) → nat_lt a e ≡ t → nat_lt a (b + (e - b)) ≡ t
    by_end true k = let less : a < e = ltb-true a e k in lt-ltb a (b + (e - b)) (omega arith)
    by_end false k = let more : e ≤ a = ltb-false a e k in le-ltb a (b + (e - b)) (omega arith)

same_range : (a : ℕ) (r : AddressRange) → range_has a (descriptor_of r) ≡ in_range a r
same_range a r = by_begin (nat_le r.begin a) refl
  where
    by_begin : (t : Bool) → nat_le r.begin a ≡ t → (t && nat_lt a (r.begin + (r.end - r.begin))) ≡ (t && nat_lt a r.end)
    by_begin true k = below_end a r.begin r.end (leb-true r.begin a k)
    by_begin false k = refl

-- one of length 0 has none
none_within : (a b n : ℕ) → nat_eq n 0 ≡ true → (nat_le b a && nat_lt a (b + n)) ≡ false
none_within a b n z = by_begin (nat_le b a) refl
  where
    by_begin : (t : Bool) → nat_le b a ≡ t → (t && nat_lt a (b + n)) ≡ false
    by_begin true k = let begun : b ≤ a = leb-true b a k in let zero : n ≡ 0 = eqb-true n 0 z in le-ltb a (b + n) (omega arith)
    by_begin false k = refl

-- so that those of length 0 may be left out
same_ranges : (a : ℕ) (rs : List AddressRange) → list_any (range_has a) (descriptors_of rs) ≡ list_any (in_range a) rs
same_ranges a [] = refl
same_ranges a (r ∷ rs) = by_length (nat_eq (descriptor_of r).length 0) refl (same_ranges a rs)
  where
    by_length : (t : Bool) → nat_eq (descriptor_of r).length 0 ≡ t → list_any (range_has a) (descriptors_of rs) ≡ list_any (in_range a) rs →
        list_any (range_has a) (if not t then descriptor_of r ∷ descriptors_of rs else descriptors_of rs) ≡ (in_range a r || list_any (in_range a) rs)
    by_length true z others = others ∙ ap (λ b. b || list_any (in_range a) rs) (sym (none_within a r.begin (r.end - r.begin) z) ∙ same_range a r)
    by_length false z others = ap (λ b. b || list_any (range_has a) (descriptors_of rs)) (same_range a r) ∙ ap (λ b. in_range a r || b) others

-- a set in front of others, which isn't there where it has no range
abbrev found_if : Bool → ℕ → List ℕ → List ℕ
found_if has place places = if has then place ∷ filter (λ u. not (nat_eq place u)) places else places

set_in_front : (a : ℕ) (s : RangeSet) (sets : List RangeSet) (ds : List RangeDescriptor) → s.ranges ≡ ds → units_at a (set_if_any s ++ sets) ≡ found_if (set_has a s) s.unit (units_at a sets)
set_in_front a s sets [] e = rw (e) refl
set_in_front a s sets (d ∷ ds) e = rw (e) refl

-- units behind a place stand at others
module _ {R E : Type 0} (reading : R → Reading) (d : Dwarf R E) (is : (r : R) → IsReading (reading r)) where
  -- the place behind a unit, which is a higher one
  record Rises (old new : Reading) : Type 0 where
    there : IsReading new
    more : old.place < new.place

  rises : (old new : Reading) (h : UnitHeader R E) → IsReading old → IsHeaderRead reading old new h → Rises old new
  rises old new h i u =
      let place : new.place ≡ old.place + u.count = ap (λ (r : Reading). r.place) u.passes.is in
      let end : new.end ≡ old.end = ap (λ (r : Reading). r.end) u.passes.is in
      let section : new.section ≡ old.section = ap (λ (r : Reading). r.section) u.passes.is in
      let within : old.place + u.count ≤ old.end = u.passes.within in
      let inside : old.end ≤ length old.section = i.end in
      let long : length new.section ≡ length old.section = ap length section in
      let there : IsReading new = record { place = omega arith; end = omega arith; small = subst (λ (n : ℕ). n < 2 ^ 64) (sym end) i.small } in
      let shorter : length (left new) < length (left old) = unit_shorter reading d old new h i there (is h.body) u in
      let some : u.count ≡ 0 → ⊥ = λ z. let same : length (left new) ≡ length (left old) = ap (λ (r : Reading). length (left r)) (u.passes.is ∙ ap (λ (n : ℕ). record old { place = n }) (omega (arith, z))) in omega arith in
      record { there = there; more = omega arith }

  -- a unit in front of others
  places_step : (a : ℕ) (c : Covered R E) (cs : List (Covered R E)) → places_at a (c ∷ cs) ≡ (if covers_address a c then c.header.offset.0 ∷ places_at a cs else places_at a cs)
  places_step a c cs = by_cover (covers_address a c)
    where
      by_cover : (t : Bool) → map (λ (x : Covered R E). x.header.offset.0) (if t then c ∷ filter (covers_address a) cs else filter (covers_address a) cs) ≡ (if t then c.header.offset.0 ∷ places_at a cs else places_at a cs)
      by_cover true = refl
      by_cover false = refl

  -- no unit from a place on stands at a lower one
  apart : (a p : ℕ) (old new : Reading) (cs : List (Covered R E)) → IsReading old → p < old.place → CoversUnits reading d old new cs → filter (λ u. not (nat_eq p u)) (places_at a cs) ≡ places_at a cs
  apart a p old new [] i less h = refl
  apart a p old new (c ∷ cs) i less h =
      let up = rises old h.0 c.header i h.1.header in
      let behind : p < h.0.place = let more : old.place < h.0.place = up.more in omega arith in
      let others = apart a p h.0 new cs up.there behind h.2 in
      let place : c.header.offset.0 ≡ old.place = h.1.header.offset in
      let other : nat_eq p c.header.offset.0 ≡ false = ne_eqb p c.header.offset.0 (λ same. omega (arith, same, place, less)) in
      ap (filter (λ u. not (nat_eq p u))) (places_step a c cs) ∙ by_cover (covers_address a c) others other ∙ sym (places_step a c cs)
    where
      by_cover : (t : Bool) → filter (λ u. not (nat_eq p u)) (places_at a cs) ≡ places_at a cs → nat_eq p c.header.offset.0 ≡ false →
          filter (λ u. not (nat_eq p u)) (if t then c.header.offset.0 ∷ places_at a cs else places_at a cs) ≡ (if t then c.header.offset.0 ∷ places_at a cs else places_at a cs)
      by_cover true others other =
          ap (λ b. if not b then c.header.offset.0 ∷ filter (λ u. not (nat_eq p u)) (places_at a cs) else filter (λ u. not (nat_eq p u)) (places_at a cs)) other
          ∙ ap (λ l. c.header.offset.0 ∷ l) others
      by_cover false others other = others

  -- units one behind another are found each once, in their order
  pub found_units : (old new : Reading) (cs : List (Covered R E)) → IsReading old → CoversUnits reading d old new cs → (a : ℕ) → units_at a (sets_of cs) ≡ places_at a cs
  found_units old new [] i h a = refl
  found_units old new (c ∷ cs) i h a =
      let s = unit_set c.header.fields.encoding c.header.offset.0 c.ranges in
      let up = rises old h.0 c.header i h.1.header in
      let place : c.header.offset.0 ≡ old.place = h.1.header.offset in
      let behind : c.header.offset.0 < h.0.place = let more : old.place < h.0.place = up.more in omega arith in
      set_in_front a s (sets_of cs) s.ranges refl
      ∙ ap (λ b. found_if b c.header.offset.0 (units_at a (sets_of cs))) (same_ranges a c.ranges)
      ∙ ap (λ l. found_if (covers_address a c) c.header.offset.0 l) (found_units h.0 new cs up.there h.2 a)
      ∙ ap (λ l. if covers_address a c then c.header.offset.0 ∷ l else places_at a cs) (apart a c.header.offset.0 h.0 new cs up.there behind h.2)
      ∙ sym (places_step a c cs)
