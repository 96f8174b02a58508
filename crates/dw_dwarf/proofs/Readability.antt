-- Units whose rows were all read before.
use Rattle.std.proofs.Common.{◌≡◌, ◌≢◌, ◌∙◌, sym, ap, subst, ℕ, zero, suc, List, All, Bool, true, Option, Ok, slice_index_or, ◌⊎◌, inl, inr, ⊎_elim, refl, arith}
use Rattle.dw_base.specs.Entries.{Row}
use Rattle.dw_base.specs.Info.{ReadUnit}
use Rattle.dw_base.specs.declared.common.Encoding.{Encoding}
use Rattle.dw_entry_ids.specs.Ids.{entry_count}
use Rattle.dw_entry_ids.specs.KeptRows.{IsClosed, kept_rows}
use Rattle.dw_entry_ids.specs.Plans.{Plan}
use Rattle.dw_entry_ids.specs.Units.{IsNumbered}
use Rattle.dw_entry_ids.specs.declared.units.NumberedUnit.{NumberedUnit}
use Rattle.dw_read.specs.Reading.{Reading}
use Rattle.dw_read_units.specs.declared.dwarf.Dwarf.{Dwarf}
use Rattle.dw_read_units.specs.declared.unit_ref.UnitRef.{UnitRef}
use Rattle.dw_tree.specs.UnitValue.{UnitValue}
use Rattle.dw_dwarf.proofs.Ready.{table_tagged}
use Rattle.dw_dwarf.proofs.Rooted.{rooted}
use Rattle.dw_dwarf.specs.ConvertSteps.{CanConvert}
use Rattle.dw_dwarf.specs.ConvertedUnits.{IsRead}
use Rattle.dw_dwarf.specs.NewUnits.{IsNewUnit}
use Rattle.dw_dwarf.specs.UnitIds.{IsFree, id_of}
use Rattle.dw_dwarf.specs.Readable.{IsReadable, IsReadableUnit, KeepsParents, rows_held, rows_or_none}

module _ (keep : ℕ → Bool) (from : ℕ) (rows : List Row) where
  parents_kept : IsClosed keep from rows → KeepsParents keep from rows
  parents_kept closed = λ front back p place above is own up kept behind.
      ⊎_elim {C = keep above ≡ true} (λ z. absurd (behind z)) (λ k. k) (closed front back p place above is own up kept)

  closed_by_parents : KeepsParents keep from rows → IsClosed keep from rows
  closed_by_parents keeps = λ front back p place above is own up kept. go p above (keeps front back p place above is own up kept) p.parent refl
    where
      go : (p : Plan) (above : ℕ) → (p.parent ≢ 0 → keep above ≡ true) → (n : ℕ) → p.parent ≡ n → (p.parent ≡ 0) ⊎ (keep above ≡ true)
      go p above k zero e = inl e
      go p above k (suc n) e = inr (k (λ z. omega (arith, e, z)))

module _ {R E : Type 0} (keep : ℕ → Bool) (reading : R → Reading) (d : Dwarf R E) where
  readable_one : (n : NumberedUnit R E) (r : ReadUnit) → IsNumbered keep reading d n r → IsClosed keep r.from r.rows → IsReadableUnit reading keep n
  readable_one n r h closed =
      let held : r.rows ≡ rows_held reading n.unit = sym (ap rows_or_none h.rows) in (
        h.rows ∙ ap Ok held,
        h.count ∙ ap (λ (m : ℕ). entry_count (kept_rows keep m r.rows)) h.from ∙ ap (λ (rows : List Row). entry_count (kept_rows keep n.unit.header.offset.0 rows)) held,
        rooted keep reading d n r h,
        h.behind,
        table_tagged _ _ n.unit.abbreviations h.unit.table.is,
        subst (λ (rows : List Row). KeepsParents keep n.unit.header.offset.0 rows) held
            (subst (λ (m : ℕ). KeepsParents keep m r.rows) h.from (parents_kept keep r.from r.rows closed)),
      )

  -- so are all that are numbered
  pub all_readable : (xs : List (NumberedUnit R E)) → All (IsRead keep reading d) xs → All (IsReadableUnit reading keep) xs
  all_readable xs h = λ k x l. let r = h k x l in readable_one (slice_index_or xs k x) r.unit r.numbered r.closed

-- one of them can be converted into a new unit
pub can_convert_new : {R E : Type 0} (keep : ℕ → Bool) (reading : R → Reading) (u : UnitRef R E) (first : Option ℕ) (entries : ℕ) (encoding : Encoding) (w : UnitValue) → IsFree first → IsReadable reading keep u.unit.now entries → IsNewUnit encoding (id_of first entries) w → CanConvert first keep reading u w
can_convert_new keep reading u first entries encoding w free h n = record {
  rows = rows_held reading u.unit.now;
  are = h.0;
  behind = h.3;
  tagged = h.4;
  closed = closed_by_parents keep u.unit.now.header.offset.0 (rows_held reading u.unit.now) h.5;
  free = free;
  reserved = n.reserved ∙ ap (id_of first) h.1;
  entries = n.entries;
  kept = n.kept;
}
