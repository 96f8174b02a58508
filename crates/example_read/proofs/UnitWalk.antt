-- The units of a file as a user holds them, one after the other.
use Rattle.std.proofs.Common.{◌≡◌, ◌∙◌, sym, ap, List, [], ◌∷◌, ◌++◌, length, map, Some, false, refl}
use Rattle.std.proofs.lemmas.List.{map-append}
use Rattle.dw_base.specs.Info.{ReadUnit}
use Rattle.dw_read.specs.Reading.{Reading, IsReading, left}
use Rattle.dw_read.specs.UnitHeaders.{PassesUnit}
use Rattle.dw_read.specs.declared.unit_header.UnitHeader.{UnitHeader}
use Rattle.dw_read.specs.declared.unit_header.UnitHeadersIter.{UnitHeadersIter}
use Rattle.dw_read_units.specs.Passes.{info_there}
use Rattle.dw_read_units.specs.declared.dwarf.Dwarf.{Dwarf}
use Rattle.dw_read_units.proofs.UnitWalk.{WalkedUnits, walked_none as units_none, walked_more as units_more, walked_end as units_end, units_found, strict_units}
use Rattle.example_read.specs.declared.row.UnitRows.{UnitRows}
use Rattle.example_read.specs.Seen.{seen_unit, shown_unit, AreSeen, SeesUnit, SeesUnits}

module _ {R E : Type 0} (reading : R → Reading) (d : Dwarf R E) where
  -- what is held are the units that were read up to here
  pub record Walked (now : UnitHeadersIter R E) (us : List (UnitRows R E)) : Type 0 where
    pub front : List ReadUnit
    pub seen : map (seen_unit reading) us ≡ map shown_unit front
    pub walked : WalkedUnits reading d now front

  pub walked_none : (now : UnitHeadersIter R E) → reading now.input ≡ reading d.debug_info → now.has_failed ≡ false → Walked now []
  walked_none now q f = record { front = []; seen = refl; walked = units_none reading d now q f }

  pub walked_more : (old new : UnitHeadersIter R E) (us next : List (UnitRows R E)) (h : UnitHeader R E) (one : UnitRows R E) → IsReading (reading old.input) → IsReading (reading new.input) → IsReading (reading h.body) → Walked old us → PassesUnit reading old new h → SeesUnit reading d h one → next ≡ us ++ one ∷ []
      → Walked new next
  walked_more old new us next h one i j k w p s q = record {
    front = w.front ++ s.unit ∷ [];
    seen = ap (map (seen_unit reading)) q ∙ map-append (seen_unit reading) us (one ∷ []) ∙ ap (λ l. l ++ seen_unit reading one ∷ []) w.seen ∙ ap (λ x. map shown_unit w.front ++ x ∷ []) s.seen ∙ sym (map-append shown_unit w.front (s.unit ∷ []));
    walked = units_more reading d old new w.front h s.unit i j k w.walked p s.is;
  }

  pub walked_end : (now : UnitHeadersIter R E) (us : List (UnitRows R E)) → Walked now us → length (left (reading now.input)) ≡ 0 → SeesUnits reading d us
  walked_end now us w z = record { units = w.front; is = units_found reading d w.front (units_end reading d now w.front w.walked z); seen = w.seen }

  -- sections that are read strictly are seen so
  pub is_strict : (us : List (UnitRows R E)) (units : List ReadUnit) → (reading d.debug_info).place ≡ 0 → info_there reading d ≡ Some units → SeesUnits reading d us → AreSeen reading us units
  is_strict us units z e s = s.seen ∙ ap (map shown_unit) (strict_units reading d s.units units z e s.is)
