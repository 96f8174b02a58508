-- The first of units that were read.
use Rattle.std.proofs.Common.{◌≡◌, ◌∙◌, sym, ℕ, zero, suc, ◌+◌, ◌^◌, ◌<◌, List, [], ◌∷◌, length, map, take, Bool, true, false, Option, Some, None, inr, refl, arith}
use Rattle.std.specs.Option.{SomeIff, is_some}
use Rattle.std.proofs.lemmas.Bool.{false≢true}
use Rattle.dw_entry_ids.specs.KeptRows.{all_kept}
use Rattle.dw_entry_ids.specs.KeptUnits.{AreUnitsBehind}
use Rattle.dw_entry_ids.specs.declared.units.NumberedUnit.{NumberedUnit}
use Rattle.dw_read.specs.Reading.{Reading}
use Rattle.dw_read_units.specs.declared.dwarf.Dwarf.{Dwarf}
use Rattle.dw_read_units.specs.declared.dwarf.Unit.{Unit as UnitFields}
use Rattle.dw_dwarf.specs.ConvertedUnits.{AreClosed}
use Rattle.dw_dwarf.specs.Readable.{IsReadableUnit}
use Rattle.dw_dwarf.specs.SplitUnits.{with_addresses}
use Rattle.dw_dwarf.specs.UnitIds.{id_behind}
use Rattle.dw_dwarf.specs.declared.convert.skeleton.Skeleton.{Skeleton}

module _ {R E : Type 0} (reading : R → Reading) where
  pub first_in_order : (d : Dwarf R E) (us : List (UnitFields R E)) → AreUnitsBehind reading d 0 us → AreUnitsBehind reading d 0 (take 1 us)
  first_in_order d [] h = tt
  first_in_order d (u ∷ us) h = (h.0, tt)

  pub first_closed : (keep : ℕ → Bool) (us : List (UnitFields R E)) → AreClosed keep reading us → AreClosed keep reading (take 1 us)
  first_closed keep [] h k x l = absurd (omega (arith, l))
  first_closed keep (u ∷ us) h zero x l = h zero x (omega arith)
  first_closed keep (u ∷ us) h (suc k) x l = absurd (omega (arith, l))

  -- where all entries are kept, so are all parents
  pub all_closed : (us : List (UnitFields R E)) → AreClosed all_kept reading us
  all_closed us k x l front back p place above is own up kept = inr refl

  -- what a skeleton says of addresses leaves the rows as they are
  pub readable_still : (keep : ℕ → Bool) (s : Skeleton R E) (n : NumberedUnit R E) → IsReadableUnit reading keep n → IsReadableUnit reading keep (with_addresses s n)
  readable_still keep s n h = h

-- nothing was numbered where nothing was given
pub none_given : {A B : Type 0} (f : A → B) (xs : List A) (ys : List B) → length xs ≡ 0 → map f xs ≡ ys → ys ≡ []
none_given f [] ys l e = sym e
none_given f (x ∷ xs) ys l e = absurd (omega (arith, l))

-- ids have room where there is room for one more than they are
pub id_within : (first n : ℕ) → first + n < 2 ^ 64 → id_behind first n < 2 ^ 64
id_within first zero l = omega arith
id_within first (suc n) l = omega (arith, l)

pub sum_fits : (r : Option ℕ) (P : Type 0) (v : ℕ) → SomeIff r P v → is_some r ≡ true → P
sum_fits None P v h e = absurd (false≢true e)
sum_fits (Some x) P v h e = h.0

-- a unit that isn't written wasn't freed
pub still_there : (is_freed is_written : Bool) → (is_freed ≡ true → is_written ≡ true) → is_written ≡ false → is_freed ≡ false
still_there true w h e = absurd (false≢true (sym e ∙ h refl))
still_there false w h e = refl
