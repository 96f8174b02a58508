-- Units of a file that are read for required entries.
use Rattle.std.proofs.Common.{◌≡◌, ◌∙◌, sym, ap, subst, ◌<◌, ◌≤◌, List, [], ◌∷◌, ◌++◌, length, map, All, false, Result, Ok, Err, IfErr, OnOk, ◌⊎◌, inl, inr, refl, arith, append-nil}
use Rattle.std.proofs.lemmas.List.{map-append}
use Rattle.std.proofs.lemmas.List.Elements.{All-nil, All-push}
use Rattle.dw_base.specs.Entries.{Mark, Open, Row}
use Rattle.dw_base.specs.Info.{ReadUnit}
use Rattle.dw_base.specs.declared.offsets.UnitSectionOffset.{UnitSectionOffset}
use Rattle.dw_read.specs.Fields.{header_of}
use Rattle.dw_read.specs.Reading.{Reading, IsReading, left}
use Rattle.dw_read.specs.Reasons.{◌=>>◌}
use Rattle.dw_read.specs.UnitHeaders.{PassesUnit}
use Rattle.dw_read.specs.declared.error.ReadError.{ReadError}
use Rattle.dw_read.specs.declared.error.ReadError.TheVariants.{NoMemory}
use Rattle.dw_read.specs.declared.unit_header.UnitHeader.{UnitHeader}
use Rattle.dw_read.specs.declared.unit_header.UnitHeadersIter.{UnitHeadersIter}
use Rattle.dw_read.proofs.FormLaws.{mark_law}
use Rattle.dw_read.proofs.Laws.{read_is}
use Rattle.dw_read.proofs.Shorter.{mark_shorter}
use Rattle.dw_read_units.proofs.RowWalk.{then_none}
use Rattle.dw_read_units.proofs.UnitParts.{misses_rows, unit_whole}
use Rattle.dw_read_units.proofs.UnitWalk.{WalkedUnits, walked_none, walked_more, walked_end, unit_refused, units_found}
use Rattle.dw_read_units.specs.Passes.{rows_reading, unit_reading, units_reading}
use Rattle.dw_read_units.specs.UnitReads.{IsUnit, root_at, root_read}
use Rattle.dw_read_units.specs.declared.dwarf.Dwarf.{Dwarf}
use Rattle.dw_read_units.specs.declared.dwarf.Unit.{Unit as UnitFields}
use Rattle.dw_read_units.specs.declared.unit_ref.UnitRef.{UnitRef}
use Rattle.dw_entry_ranges.specs.Live.{IsMadeOf}
use Rattle.dw_entry_ranges.specs.Required.{Held, IsHeld, unit_required, places_required, FindsRequired, MissesRow, MissesEntry}
use Rattle.dw_entry_ranges.specs.RequiredRows.{AddsRows, AddsUnit, MissesUnitRow}
use Rattle.dw_entry_ranges.specs.declared.live.LiveRange.{LiveRange}
use Rattle.dw_entry_ranges.specs.declared.live.LiveRanges.{LiveRanges}
use Rattle.dw_entry_ranges.proofs.RequiredRowSteps.{joined, one_before}

module _ {R E : Type 0} (reading : R → Reading) (d : Dwarf R E) where
  abbrev units_of : List (Held R E) → List ReadUnit
  units_of held = map (λ (h : Held R E). h.unit) held

  -- ---- the required entries of units
  places_append : (live : List LiveRange) (xs ys : List (Held R E)) → places_required reading d live (xs ++ ys) ≡ (places_required reading d live xs =>> λ a. places_required reading d live ys =>> λ b. Ok (a ++ b))
  unfolding places_required
  places_append live [] ys = then_none (places_required reading d live ys)
  places_append live (x ∷ xs) ys =
      let here = unit_required reading x.at live x.unit.rows in
      ap (λ (r : Result (List UnitSectionOffset) ReadError). here =>> λ a. r =>> λ more. Ok (a ++ more)) (places_append live xs ys) ∙ joined here (places_required reading d live xs) (places_required reading d live ys)

  places_last : (live : List LiveRange) (h : Held R E) (b : List UnitSectionOffset) → unit_required reading h.at live h.unit.rows ≡ Ok b → places_required reading d live (h ∷ []) ≡ Ok b
  unfolding places_required
  places_last live h b e = ap (λ (m : Result (List UnitSectionOffset) ReadError). m =>> λ here. Ok (here ++ [])) e ∙ ap Ok (append-nil b)

  places_more : (live : List LiveRange) (xs : List (Held R E)) (h : Held R E) (a b : List UnitSectionOffset) → places_required reading d live xs ≡ Ok a → unit_required reading h.at live h.unit.rows ≡ Ok b → places_required reading d live (xs ++ h ∷ []) ≡ Ok (a ++ b)
  places_more live xs h a b e f =
      places_append live xs (h ∷ [])
      ∙ ap (λ (m : Result (List UnitSectionOffset) ReadError). m =>> λ x. places_required reading d live (h ∷ []) =>> λ y. Ok (x ++ y)) e
      ∙ ap (λ (m : Result (List UnitSectionOffset) ReadError). m =>> λ y. Ok (a ++ y)) (places_last live h b f)

  places_none : (live : List LiveRange) → places_required reading d live [] ≡ Ok []
  unfolding places_required
  places_none live = refl

  -- ---- a unit that is read
  module _ (h : UnitHeader R E) (u : UnitFields R E) (i : IsUnit reading d h u) where
    pub is_unit : IsUnit reading d u.header u
    is_unit = subst (λ (g : UnitHeader R E). IsUnit reading d g u) (sym i.header) i

    pub behind_header : h.offset.0 ≤ (reading h.body).place → u.header.offset.0 ≤ (reading u.header.body).place
    behind_header l = subst (λ (g : UnitHeader R E). g.offset.0 ≤ (reading g.body).place) (sym i.header) l

    -- there is a root
    pub has_root : 0 < length (left (reading u.header.body))
    has_root =
        let row = read_is (Mark _) (root_at reading h u.abbreviations) (root_read reading h u.abbreviations) (left (reading h.body)) (Open i.root, i.rest) (mark_law (reading h.body).is_big h.fields.encoding u.abbreviations) i.row in
        let shorter : length i.rest < length (left (reading h.body)) = mark_shorter (reading h.body).is_big h.fields.encoding u.abbreviations (left (reading h.body)) (Open i.root, i.rest) row in
        let some : 0 < length (left (reading h.body)) = omega (arith, shorter) in
        subst (λ (g : UnitHeader R E). 0 < length (left (reading g.body))) (sym i.header) some

  -- what the rows of a unit that is read come to, the unit comes to
  module _ (h : UnitHeader R E) (at : UnitRef R E) (file : at.dwarf.now ≡ d) (i : IsUnit reading d h at.unit.now) where
    pub adds_unit : (r : Result Unit ReadError) (ranges : LiveRanges) (before after : List UnitSectionOffset) → OnOk r (AddsRows reading at ranges before after) → OnOk r (AddsUnit reading d h ranges before after)
    adds_unit (Ok x) ranges before after a = record { at = at; file = file; fields = i; rows = a }
    adds_unit (Err e) ranges before after a = a

    pub misses_unit_row : (r : Result Unit ReadError) → IfErr r (λ e. (e ≡ NoMemory) ⊎ ((rows_reading reading at.unit.now.header at.unit.now.abbreviations ≡ Err e) ⊎ MissesRow reading at e))
        → IfErr r (λ e. (e ≡ NoMemory) ⊎ ((unit_reading reading d h ≡ Err e) ⊎ MissesUnitRow reading d h e))
    misses_unit_row (Ok x) m = m
    misses_unit_row (Err e) (inl m) = inl m
    misses_unit_row (Err e) (inr (inl m)) = inr (inl (misses_rows reading d h at.unit.now e i m))
    misses_unit_row (Err e) (inr (inr m)) = inr (inr (record { at = at; file = file; fields = i; misses = m }))

  -- the unit as the grammar has it
  abbrev unit_of : UnitFields R E → List Row → ReadUnit
  unit_of u rows = record { from = u.header.offset.0; header = header_of u.header.fields; table = u.abbreviations; rows = rows }

  abbrev held_of : UnitRef R E → List Row → Held R E
  held_of at rows = record { unit = unit_of at.unit.now rows; at = at }

  -- ---- the units up to here
  pub record UnitsSoFar (ranges : LiveRanges) (now : UnitHeadersIter R E) (found : List UnitSectionOffset) : Type 0 where
    pub held : List (Held R E)
    pub walked : WalkedUnits reading d now (units_of held)
    pub are : All (IsHeld reading d) held
    pub added : (live : List LiveRange) → IsMadeOf ranges live → places_required reading d live held ≡ Ok found

  pub no_units : (ranges : LiveRanges) (now : UnitHeadersIter R E) → reading now.input ≡ reading d.debug_info → now.has_failed ≡ false → UnitsSoFar ranges now []
  no_units ranges now q f = record { held = []; walked = walked_none reading d now q f; are = All-nil (IsHeld reading d); added = λ live made. places_none live }

  module _ (ranges : LiveRanges) (old new : UnitHeadersIter R E) (found : List UnitSectionOffset) (h : UnitHeader R E) (at : UnitRef R E) (a : IsReading (reading old.input)) (b : IsReading (reading new.input)) (c : IsReading (reading h.body)) (w : UnitsSoFar ranges old found) (p : PassesUnit reading old new h)
      (file : at.dwarf.now ≡ d) (i : IsUnit reading d h at.unit.now) where
    pub units_more : (next : List UnitSectionOffset) → AddsRows reading at ranges found next → UnitsSoFar ranges new next
    units_more next s =
        let one = held_of at s.rows in
        let whole : unit_reading reading d h ≡ Ok one.unit = subst (λ (g : UnitHeader R E). unit_reading reading d g ≡ Ok one.unit) i.header (unit_whole reading d at.unit.now.header at.unit.now s.rows (is_unit h at.unit.now i) s.are) in
        let own : IsHeld reading d one = record { file = file; fields = is_unit h at.unit.now i; unit = unit_whole reading d at.unit.now.header at.unit.now s.rows (is_unit h at.unit.now i) s.are; rows = s.are } in
        record {
          held = w.held ++ one ∷ [];
          walked = subst (λ (us : List ReadUnit). WalkedUnits reading d new us) (sym (map-append (λ (x : Held R E). x.unit) w.held (one ∷ []))) (walked_more reading d old new (units_of w.held) h one.unit a b c w.walked p whole);
          are = All-push (IsHeld reading d) w.held one w.are own;
          added = λ live made.
              let x = s.added live made in
              places_more live w.held one found x.here (w.added live made) x.is ∙ ap Ok (sym x.added);
        }

    record NextUnit (r : Result ReadUnit ReadError) : Type 0 where
      back : Result (List ReadUnit) ReadError
      units : units_reading reading d ≡ (r =>> λ unit. back =>> λ more. Ok (units_of w.held ++ unit ∷ more))

    next_unit : (r : Result ReadUnit ReadError) → unit_reading reading d h ≡ r → NextUnit r
    next_unit (Ok one) e = let next = walked_more reading d old new (units_of w.held) h one a b c w.walked p e in record { back = _; units = next.is ∙ one_before _ (units_of w.held) one }
    next_unit (Err y) e = record { back = Ok []; units = unit_refused reading d old new (units_of w.held) h y a b c w.walked p e }

    pub misses_entry : (y : ReadError) → MissesRow reading at y → MissesEntry reading d y
    misses_entry y m =
        let next = subst NextUnit (ap (unit_reading reading d) (sym i.header)) (next_unit (unit_reading reading d h) refl) in
        record { at = at; file = file; fields = is_unit h at.unit.now i; front = units_of w.held; back = next.back; units = next.units; misses = m }

  pub units_end : (ranges : LiveRanges) (now : UnitHeadersIter R E) (found : List UnitSectionOffset) (live : List LiveRange) → IsMadeOf ranges live → UnitsSoFar ranges now found → length (left (reading now.input)) ≡ 0 → FindsRequired reading d live found
  units_end ranges now found live made w z =
      let read = walked_end reading d now (units_of w.held) w.walked z in
      record { held = w.held; are = w.are; read = read; there = units_found reading d (units_of w.held) read; places_are = w.added live made }
