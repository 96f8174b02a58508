-- The first units of a file, with one more, and that each stands behind the one before it.
use Rattle.std.proofs.Common.{◌≡◌, ◌∙◌, sym, ap, subst, ℕ, ◌≤◌, List, [], ◌∷◌, ◌++◌, All, false, refl, arith}
use Rattle.std.proofs.lemmas.List.Elements.{All-nil, All-cons}
use Rattle.dw_read.specs.Reading.{Reading}
use Rattle.dw_read.specs.UnitHeaders.{PassesUnit}
use Rattle.dw_read.specs.declared.unit_header.UnitHeader.{UnitHeader}
use Rattle.dw_read.specs.declared.unit_header.UnitHeadersIter.{UnitHeadersIter}
use Rattle.dw_read_units.specs.UnitReads.{IsUnit}
use Rattle.dw_read_units.specs.declared.dwarf.Dwarf.{Dwarf}
use Rattle.dw_read_units.specs.declared.dwarf.Unit.{Unit as UnitFields}
use Rattle.dw_read_units.proofs.UnitWalk.{header_place}
use Rattle.dw_entry_ids.specs.FirstUnits.{AreUnitsFrom, AreUpTo, IsUnitAt}
use Rattle.dw_entry_ids.specs.KeptUnits.{AreUnitsBehind}

module _ {R E : Type 0} (reading : R → Reading) (d : Dwarf R E) where
  units_more : (headers behind after : UnitHeadersIter R E) (units : List (UnitFields R E)) (u : UnitFields R E) → AreUnitsFrom reading d headers units behind → IsUnitAt reading d behind after u → AreUnitsFrom reading d headers (units ++ u ∷ []) after
  units_more headers behind after [] u h i = (after, subst (λ (w : UnitHeadersIter R E). IsUnitAt reading d w after u) (sym h) i, refl)
  units_more headers behind after (x ∷ units) u h i = (h.0, h.1, units_more h.0 behind after units u h.2 i)

  pub first_none : (headers : UnitHeadersIter R E) (units : List (UnitFields R E)) → reading headers.input ≡ reading d.debug_info → headers.has_failed ≡ false → units ≡ [] → AreUpTo reading d units headers
  first_none headers units b f e = record {
    begin = headers;
    begins = b;
    begun = f;
    are = subst (λ (us : List (UnitFields R E)). AreUnitsFrom reading d headers us headers) (sym e) refl;
  }

  -- the unit of a header is at its place
  pub unit_at : (now after : UnitHeadersIter R E) (h : UnitHeader R E) (u : UnitFields R E) → PassesUnit reading now after h → IsUnit reading d h u → IsUnitAt reading d now after u
  unit_at now after h u p i = record {
    passes = subst (λ (g : UnitHeader R E). PassesUnit reading now after g) (sym i.header) p;
    unit = subst (λ (g : UnitHeader R E). IsUnit reading d g u) (sym i.header) i;
  }

  pub first_more : (units all : List (UnitFields R E)) (now after : UnitHeadersIter R E) (u : UnitFields R E) → AreUpTo reading d units now → IsUnitAt reading d now after u → all ≡ units ++ u ∷ [] → AreUpTo reading d all after
  first_more units all now after u h i e = record {
    begin = h.begin;
    begins = h.begins;
    begun = h.begun;
    are = subst (λ (us : List (UnitFields R E)). AreUnitsFrom reading d h.begin us after) (sym e) (units_more h.begin now after units u h.are i);
  }

  from_behind : (headers after : UnitHeadersIter R E) (units : List (UnitFields R E)) (place : ℕ) → AreUnitsFrom reading d headers units after → place ≤ (reading headers.input).place → (reading headers.input).is_big ≡ (reading d.debug_info).is_big → AreUnitsBehind reading d place units
  from_behind headers after [] place h l o = tt
  from_behind headers after (u ∷ units) place h l o =
      let next : UnitHeadersIter R E = h.0 in
      let p : PassesUnit reading headers next u.header = h.1.passes in
      let begin : u.header.offset.0 ≡ (reading headers.input).place = p.unit.offset in
      let end : (reading u.header.body).end ≡ (reading next.input).place = ap (λ (r : Reading). r.end) p.unit.body in
      let big : (reading next.input).is_big ≡ (reading headers.input).is_big = ap (λ (r : Reading). r.is_big) p.unit.passes.is in (
        record {
          unit = h.1.unit;
          begins = omega (arith, l, begin);
          behind = header_place reading d (reading headers.input) (reading next.input) u.header p.unit;
          order = ap (λ (r : Reading). r.is_big) p.unit.body ∙ o;
        },
        from_behind next after units (reading u.header.body).end h.2 (omega (arith, end)) (big ∙ o),
      )

  -- each stands behind the one before it
  pub up_to-behind : (units : List (UnitFields R E)) (now : UnitHeadersIter R E) → AreUpTo reading d units now → AreUnitsBehind reading d 0 units
  up_to-behind units now h = from_behind h.begin now units 0 h.are (omega arith) (ap (λ (r : Reading). r.is_big) h.begins)

  -- and behind its own header
  pub behind_each : (place : ℕ) (units : List (UnitFields R E)) → AreUnitsBehind reading d place units → All (λ (u : UnitFields R E). u.header.offset.0 ≤ (reading u.header.body).place) units
  behind_each place [] h = All-nil (λ (u : UnitFields R E). u.header.offset.0 ≤ (reading u.header.body).place)
  behind_each place (u ∷ units) h = All-cons (λ (v : UnitFields R E). v.header.offset.0 ≤ (reading v.header.body).place) u units h.0.behind (behind_each (reading u.header.body).end units h.1)
