-- Where all entries of all units count, those that count are all.
use Rattle.std.proofs.Common.{◌≡◌, ℕ, ◌+◌, ◌<◌, ◌≤◌, zero, suc, List, [], ◌∷◌, length, Some, IsTrue, arith}
use Rattle.std.specs.Prelude.{slice_get}
use Rattle.std.specs.List.{Contains, zip}
use Rattle.std.proofs.lemmas.Option.{slice_get_within}
use Rattle.dw_base.specs.Entries.{Row}
use Rattle.dw_base.specs.declared.offsets.UnitSectionOffset.{UnitSectionOffset}
use Rattle.dw_read.specs.Reading.{Reading}
use Rattle.dw_read_units.specs.declared.dwarf.Dwarf.{Dwarf}
use Rattle.dw_read_units.specs.declared.dwarf.Unit.{Unit as UnitFields}
use Rattle.dw_entry_ids.proofs.Found.{places_count}
use Rattle.dw_entry_ids.specs.Ids.{entry_count, places_among}
use Rattle.dw_entry_ids.specs.Plans.{Plan, plans_of}
use Rattle.dw_filter.specs.FileGraph.{HasUnit, IsLeastKeptIn, KnownIn, LeadsIn, count_at}
use Rattle.dw_filter.specs.Kept.{IsClosed, IsLeastClosed}
use Rattle.dw_filter.specs.UnitGraph.{Placed, placed_in}
use Rattle.dw_live_code.specs.Entries.{HasEntry, LeadsTo}

-- there is no more of a pair of lists than of the second
second_there : (xs : List Plan) (ys : List ℕ) (n : ℕ) (x : Placed) → slice_get (zip xs ys) n ≡ Some x → n < length ys
second_there [] ys n x h = absurd (let l : n < 0 = slice_get_within (zip [] ys) n x h in omega arith)
second_there (p ∷ xs) [] n x h = absurd (let l : n < 0 = slice_get_within (zip (p ∷ xs) []) n x h in omega arith)
second_there (p ∷ xs) (y ∷ ys) zero x h = omega arith
second_there (p ∷ xs) (y ∷ ys) (suc n) x h = let l : n < length ys = second_there xs ys n x h in omega arith

placed_within : (from : ℕ) (rows : List Row) (n : ℕ) (x : Placed) → slice_get (placed_in from rows) n ≡ Some x → n < entry_count rows
placed_within from rows n x h =
    let l : n < length (places_among from rows) = second_there (plans_of rows) (places_among from rows) n x h in
    let c : length (places_among from rows) ≡ entry_count rows = places_count from rows in
    omega (arith, l, c)

module _ {R E : Type 0} (reading : R → Reading) (units : List (UnitFields R E)) (counts : List ℕ) (enough : (i : ℕ) (u : HasUnit reading units i) → entry_count u.rows ≤ count_at counts i + 1) where
  -- an entry counts
  counted : (i : ℕ) (u : HasUnit reading units i) (n : ℕ) (x : Placed) → slice_get (placed_in u.unit.header.offset.0 u.rows) n ≡ Some x → n ≤ count_at counts i
  counted i u n x h =
      let l : n < entry_count u.rows = placed_within u.unit.header.offset.0 u.rows n x h in
      let m : entry_count u.rows ≤ count_at counts i + 1 = enough i u in
      omega (arith, l, m)

  entry_known : (q : UnitSectionOffset) → HasEntry reading units q → KnownIn reading units counts q
  entry_known q h =
      let x = h.0 in
      (x.index, x.unit, (x.number, x.entry, record { stands = x.stands; behind_root = x.behind_root; counted = counted x.index x.unit x.number x.entry x.stands }, h.1))

  known_entry : (q : UnitSectionOffset) → KnownIn reading units counts q → HasEntry reading units q
  known_entry q k = (record { index = k.0; unit = k.1; number = k.2.0; entry = k.2.1; stands = k.2.2.stands; behind_root = k.2.2.behind_root }, k.2.3)

  module _ (d : Dwarf R E) where
    leads_known : (p q : UnitSectionOffset) → LeadsTo reading units d p q → LeadsIn reading d units counts p q
    leads_known p q h =
        let x = h.0 in
        (x.index, x.unit, (x.number, x.entry, record { stands = x.stands; behind_root = x.behind_root; counted = counted x.index x.unit x.number x.entry x.stands }, h.1))

    known_leads : (p q : UnitSectionOffset) → LeadsIn reading d units counts p q → LeadsTo reading units d p q
    known_leads p q k = (record { index = k.0; unit = k.1; number = k.2.0; entry = k.2.1; stands = k.2.2.stands; behind_root = k.2.2.behind_root }, k.2.3)

    module _ (required : List UnitSectionOffset) (set : UnitSectionOffset → Type 0) where
      closed_live : IsClosed (KnownIn reading units counts) (LeadsIn reading d units counts) (Contains required) set → IsClosed (HasEntry reading units) (LeadsTo reading units d) (Contains required) set
      closed_live h = record {
        first = λ q r k. h.first q r (entry_known q k);
        next = λ p q s e k. h.next p q s (leads_known p q e) (entry_known q k);
      }

      closed_known : IsClosed (HasEntry reading units) (LeadsTo reading units d) (Contains required) set → IsClosed (KnownIn reading units counts) (LeadsIn reading d units counts) (Contains required) set
      closed_known h = record {
        first = λ q r k. h.first q r (known_entry q k);
        next = λ p q s e k. h.next p q s (known_leads p q e) (known_entry q k);
      }

    -- so the least set of those that count is that of all
    pub least_live : (required kept : List UnitSectionOffset) → IsLeastKeptIn reading d units counts required kept → IsLeastClosed (HasEntry reading units) (LeadsTo reading units d) (Contains required) (Contains kept)
    least_live required kept h = record {
      closed = closed_live required (Contains kept) h.closed;
      least = λ other k q s. h.least other (closed_known required (λ p. IsTrue (other p)) k) q s;
    }
