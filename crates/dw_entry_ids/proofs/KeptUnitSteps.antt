-- Units of which some entries are kept, as they are numbered one after the other.
use Rattle.std.proofs.Common.{◌≡◌, ◌∙◌, sym, ap, subst, ℕ, ◌<◌, ◌≤◌, Bool, List, [], ◌∷◌, ◌++◌, length, map, get_or, None, Result, Ok, Err, refl, arith, append-nil, append_assoc}
use Rattle.std.proofs.lemmas.List.{map-append, get_or_at}
use Rattle.dw_base.specs.Entries.{Row}
use Rattle.dw_base.specs.Info.{ReadUnit}
use Rattle.dw_base.specs.declared.ids.UnitId.{UnitId}
use Rattle.dw_read.specs.Reading.{Reading, IsReading}
use Rattle.dw_read.specs.Reasons.{◌=>>◌}
use Rattle.dw_read.specs.declared.error.ReadError.{ReadError}
use Rattle.dw_read_units.specs.Passes.{rows_reading}
use Rattle.dw_read_units.specs.declared.dwarf.Dwarf.{Dwarf}
use Rattle.dw_read_units.specs.declared.dwarf.Unit.{Unit as UnitFields}
use Rattle.dw_entry_ids.specs.Ids.{ids_at}
use Rattle.dw_entry_ids.specs.Units.{NumbersRows, AreNumbered}
use Rattle.dw_entry_ids.specs.KeptUnits.{AreUnitsBehind, IsUnitBehind, NumbersKept, all_rows}
use Rattle.dw_entry_ids.specs.declared.ids.EntryIds.{EntryIds}
use Rattle.dw_entry_ids.specs.declared.units.NumberedUnit.{NumberedUnit}
use Rattle.dw_entry_ids.specs.declared.units.NumberedUnits.{NumberedUnits}
use Rattle.dw_entry_ids.proofs.HeldUnits.{Held, held_none, held_more, held_found, read_unit}

module _ {R E : Type 0} (keep : ℕ → Bool) (reading : R → Reading) (d : Dwarf R E) (given : List (UnitFields R E)) where
  abbrev unit_in : NumberedUnit R E → UnitFields R E
  unit_in n = n.unit

  -- the units before the others are numbered
  pub record Numbered (yielded : List (UnitFields R E)) (held : List (NumberedUnit R E)) (ids : EntryIds) : Type 0 where
    pub rest : List (UnitFields R E)
    pub is : given ≡ yielded ++ rest
    pub bound : ℕ
    pub behind : AreUnitsBehind reading d bound rest
    pub same : map unit_in held ≡ yielded
    pub front : List ReadUnit
    pub held_so : Held keep reading d held ids front bound

  pub numbered_none : (ids : EntryIds) → AreUnitsBehind reading d 0 given → ((p : ℕ) → ids_at ids p ≡ None) → Numbered [] [] ids
  numbered_none ids behind e = record { rest = given; is = refl; bound = 0; behind = behind; same = refl; front = []; held_so = held_none keep reading d ids 0 e }

  module _ (yielded : List (UnitFields R E)) (held : List (NumberedUnit R E)) (ids : EntryIds) (w : Numbered yielded held ids) where
    -- the next unit is the first of those that are left
    record Next (u : UnitFields R E) : Type 0 where
      back : List (UnitFields R E)
      is : w.rest ≡ u ∷ back
      unit : IsUnitBehind reading d w.bound u
      behind : AreUnitsBehind reading d (reading u.header.body).end back

    next_unit : (u : UnitFields R E) → length yielded < length given → u ≡ get_or given (length yielded) u → Next u
    next_unit u l e = by w.rest refl w.behind
      where
        by : (rest : List (UnitFields R E)) → w.rest ≡ rest → AreUnitsBehind reading d w.bound rest → Next u
        by [] q b =
            let all : given ≡ yielded = w.is ∙ ap (λ zs. yielded ++ zs) q ∙ append-nil yielded in
            let long : length given ≡ length yielded = ap length all in
            absurd (omega (arith, long, l))
        by (v ∷ back) q b =
            let same : u ≡ v = e ∙ ap (λ zs. get_or zs (length yielded) u) (w.is ∙ ap (λ zs. yielded ++ zs) q) ∙ get_or_at yielded v back u (length yielded) refl in
            record {
              back = back;
              is = q ∙ ap (λ x. x ∷ back) (sym same);
              unit = subst (IsUnitBehind reading d w.bound) (sym same) b.0;
              behind = subst (λ x. AreUnitsBehind reading d (reading x.header.body).end back) (sym same) b.1;
            }

    pub unit_behind : (u : UnitFields R E) → length yielded < length given → u ≡ get_or given (length yielded) u → u.header.offset.0 ≤ (reading u.header.body).place
    unit_behind u l e = (next_unit u l e).unit.behind

    refused : (xs : List (NumberedUnit R E)) (us : List ReadUnit) (u : UnitFields R E) (back : List (UnitFields R E)) (y : ReadError) → AreNumbered keep reading d xs us → rows_reading reading u.header u.abbreviations ≡ Err y → all_rows reading (map unit_in xs ++ u ∷ back) ≡ Err y
    refused [] us u back y n r = ap (λ (o : Result (List Row) ReadError). o =>> λ rows. all_rows reading back =>> λ more. Ok (rows ∷ more)) r
    refused (x ∷ xs) [] u back y n r = absurd n
    refused (x ∷ xs) (v ∷ us) u back y n r =
        ap (λ (o : Result (List Row) ReadError). o =>> λ rows. all_rows reading (map unit_in xs ++ u ∷ back) =>> λ more. Ok (rows ∷ more)) n.0.rows
        ∙ ap (λ (o : Result (List (List Row)) ReadError). o =>> λ more. Ok (v.rows ∷ more)) (refused xs us u back y n.1 r)

    -- its rows can't be read
    pub numbered_refused : (u : UnitFields R E) (y : ReadError) → length yielded < length given → u ≡ get_or given (length yielded) u → rows_reading reading u.header u.abbreviations ≡ Err y → all_rows reading given ≡ Err y
    numbered_refused u y l e r =
        let n = next_unit u l e in
        ap (all_rows reading) (w.is ∙ ap (λ zs. yielded ++ zs) n.is ∙ ap (λ zs. zs ++ u ∷ n.back) (sym w.same)) ∙ refused held w.front u n.back y w.held_so.numbered r

    pub numbered_more : (u : UnitFields R E) (k : UnitId) (after : EntryIds) (count : ℕ) → length yielded < length given → u ≡ get_or given (length yielded) u → IsReading (reading u.header.body) → k.0 ≡ length held → NumbersRows keep reading u.header u.abbreviations k ids after count
        → Numbered (yielded ++ u ∷ []) (held ++ record { unit = u; entries = count } ∷ []) after
    numbered_more u k after count l e c number rows =
        let n = next_unit u l e in
        record {
          rest = n.back;
          is = w.is ∙ ap (λ zs. yielded ++ zs) n.is ∙ sym (append_assoc yielded (u ∷ []) n.back);
          bound = (reading u.header.body).end;
          behind = n.behind;
          same = map-append unit_in held (record { unit = u; entries = count } ∷ []) ∙ ap (λ zs. zs ++ u ∷ []) w.same;
          front = w.front ++ read_unit keep reading d u.header u k ids after count n.unit.unit rows ∷ [];
          held_so = held_more keep reading d u.header u k ids after count n.unit.unit rows held w.front w.bound c n.unit.behind n.unit.order n.unit.begins w.held_so number;
        }

  pub numbered_end : (yielded : List (UnitFields R E)) (r : NumberedUnits R E) → Numbered yielded r.units.items r.ids → yielded ≡ given → NumbersKept reading d keep given r
  numbered_end yielded r w e = record {
    units = w.front;
    numbered = w.held_so.numbered;
    held = w.same ∙ e;
    ids = w.held_so.kept;
    entries = held_found keep reading d r.units.items r.ids w.front w.bound w.held_so;
  }
