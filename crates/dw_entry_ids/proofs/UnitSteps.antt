-- The units of a file whose entries are numbered.
use Rattle.std.proofs.Common.{◌≡◌, ◌∙◌, ap, subst, ℕ, ◌≤◌, List, [], ◌∷◌, ◌++◌, length, None, false, arith}
use Rattle.dw_base.specs.Info.{ReadUnit}
use Rattle.dw_base.specs.declared.ids.UnitId.{UnitId}
use Rattle.dw_read.specs.Reading.{Reading, IsReading, left}
use Rattle.dw_read.specs.UnitHeaders.{PassesUnit}
use Rattle.dw_read.specs.declared.unit_header.UnitHeader.{UnitHeader}
use Rattle.dw_read.specs.declared.unit_header.UnitHeadersIter.{UnitHeadersIter}
use Rattle.dw_read_units.specs.UnitReads.{IsUnit}
use Rattle.dw_read_units.specs.declared.dwarf.Dwarf.{Dwarf}
use Rattle.dw_read_units.specs.declared.dwarf.Unit.{Unit as UnitFields}
use Rattle.dw_read_units.proofs.UnitParts.{unit_whole}
use Rattle.dw_read_units.proofs.UnitWalk.{WalkedUnits, walked_none, walked_more, walked_end, header_place, units_found}
use Rattle.dw_entry_ids.specs.Ids.{ids_at, id_among, FindsEntries}
use Rattle.dw_entry_ids.specs.KeptRows.{all_kept}
use Rattle.dw_entry_ids.specs.Units.{NumbersRows, NumbersUnits}
use Rattle.dw_entry_ids.specs.declared.ids.EntryIds.{EntryIds}
use Rattle.dw_entry_ids.specs.declared.units.NumberedUnit.{NumberedUnit}
use Rattle.dw_entry_ids.specs.declared.units.NumberedUnits.{NumberedUnits}
use Rattle.dw_entry_ids.proofs.HeldUnits.{Held, held_none, held_more, held_found, read_unit}
use Rattle.dw_entry_ids.proofs.KeptLaws.{units_all}

module _ {R E : Type 0} (reading : R → Reading) (d : Dwarf R E) where
  -- the units up to here are numbered
  pub record Numbered (now : UnitHeadersIter R E) (held : List (NumberedUnit R E)) (ids : EntryIds) : Type 0 where
    pub front : List ReadUnit
    pub walked : WalkedUnits reading d now front
    pub held_so : Held all_kept reading d held ids front (reading now.input).place

  pub numbered_none : (now : UnitHeadersIter R E) (ids : EntryIds) → reading now.input ≡ reading d.debug_info → now.has_failed ≡ false → ((p : ℕ) → ids_at ids p ≡ None) → Numbered now [] ids
  numbered_none now ids q f e = record { front = []; walked = walked_none reading d now q f; held_so = held_none all_kept reading d ids (reading now.input).place e }

  module _ (h : UnitHeader R E) (u : UnitFields R E) (k : UnitId) (before after : EntryIds) (count : ℕ) (i : IsUnit reading d h u) (n : NumbersRows all_kept reading u.header u.abbreviations k before after count) where
    pub numbered_more : (old new : UnitHeadersIter R E) (held : List (NumberedUnit R E)) → IsReading (reading old.input) → IsReading (reading new.input) → IsReading (reading h.body) → Numbered old held before → PassesUnit reading old new h → k.0 ≡ length held → Numbered new (held ++ record { unit = u; entries = count } ∷ []) after
    numbered_more old new held a b c w p e =
        let one : ReadUnit = read_unit all_kept reading d h u k before after count i n in
        let l : h.offset.0 ≤ (reading h.body).place = header_place reading d (reading old.input) (reading new.input) h p.unit in
        let begin : h.offset.0 ≡ (reading old.input).place = p.unit.offset in
        let end : (reading h.body).end ≡ (reading new.input).place = ap (λ (r : Reading). r.end) p.unit.body in
        let held_too = held_more all_kept reading d h u k before after count i n held w.front (reading old.input).place c l (ap (λ (r : Reading). r.is_big) p.unit.body ∙ w.walked.order) (omega (arith, begin)) w.held_so e in
        record {
          front = w.front ++ one ∷ [];
          walked = walked_more reading d old new w.front h one a b c w.walked p (unit_whole reading d h u n.rows i n.is);
          held_so = subst (λ (m : ℕ). Held all_kept reading d (held ++ record { unit = u; entries = count } ∷ []) after (w.front ++ one ∷ []) m) end held_too;
        }

  pub numbered_end : (now : UnitHeadersIter R E) (r : NumberedUnits R E) → Numbered now r.units.items r.ids → length (left (reading now.input)) ≡ 0 → NumbersUnits reading d r
  numbered_end now r w z = record {
    units = w.front;
    are = units_found reading d w.front (walked_end reading d now w.front w.walked z);
    numbered = w.held_so.numbered;
    ids = λ p. w.held_so.kept p ∙ ap (λ (us : List ReadUnit). id_among 0 us p) (units_all w.front);
    entries = subst (λ (us : List ReadUnit). FindsEntries r.ids us) (units_all w.front) (held_found all_kept reading d r.units.items r.ids w.front (reading now.input).place w.held_so);
  }
