-- Tables none of whose units was written before, and units that can be written where they stand.
use Rattle.std.specs.Prelude.{◌≡◌, ◌⊎◌, ℕ, suc, zero, Bool, true, false, List, [], ◌∷◌, None, refl, All, if◌then◌else◌}
use Rattle.std.proofs.Common.{sym, ◌∙◌, ap, subst, inl, inr}
use Rattle.std.proofs.Math.Path.{fun_ext}
use Rattle.std.proofs.lemmas.List.Elements.{All-head, All-tail}
use Rattle.std.specs.Option.{option_map}
use Rattle.dw_base.specs.declared.error.Error.{Error}
use Rattle.dw_tree.specs.Elsewhere.{Elsewhere, past_parts, past_elsewhere}
use Rattle.dw_tree.specs.Built.{Numbered, Starts, settled_at, numbered_from}
use Rattle.dw_tree.specs.Causes.{UnitsFail}
use Rattle.dw_tree.specs.Pending.{Kept, past_kept, info_at, info_of, KeepPlaces, StandsAt, AreInRow}
use Rattle.dw_tree.specs.Places.{Placement, info_from, offsets_in}
use Rattle.dw_tree.specs.UnitValue.{UnitValue}
use Rattle.dw_tree.specs.Valid.{IsWritableAt, AreWritable}
use Rattle.dw_tree.specs.Written.{to_write_from, past_table}
use Rattle.dw_tree.proofs.OnePlacement.{one_placement, placement-same}
use Rattle.dw_unit.proofs.ValidLaws.{unit_unfailing}

-- where a table keeps these places, entries stand there
pub info_kept : (table : List UnitValue) (us : List Numbered) (ks : List Kept) → KeepPlaces table us ks → info_at table ≡ info_of us ks
info_kept table us ks h = ap info_from (fun_ext h)

-- a table none of whose units was written keeps no place
pub unwritten_keeps : (us : List UnitValue) → All (λ u. u.is_written ≡ false) us → KeepPlaces us [] []
unwritten_keeps [] all n = refl
unwritten_keeps (u ∷ us) all zero = ap (λ (b : Bool). if b then option_map offsets_in u.offsets else None) (All-head (λ v. v.is_written ≡ false) u us all)
unwritten_keeps (u ∷ us) all (suc n) = unwritten_keeps us (All-tail (λ v. v.is_written ≡ false) u us all) n

-- and is written whole
pub to_write-unwritten : (n : ℕ) (t : Elsewhere) (us : List UnitValue) → All (λ u. u.is_written ≡ false) us → to_write_from n t us ≡ numbered_from n t us
to_write-unwritten n t [] all = refl
to_write-unwritten n t (u ∷ us) all =
    ap (λ (b : Bool). if b then to_write_from (suc n) t us else settled_at n t u ∷ to_write_from (suc n) (past_parts t u) us) (All-head (λ v. v.is_written ≡ false) u us all)
    ∙ ap (λ xs. settled_at n t u ∷ xs) (to_write-unwritten (suc n) (past_parts t u) us (All-tail (λ v. v.is_written ≡ false) u us all))

-- Units that can be written have no cause to be refused.
pub units_unfailing : (plain : Bool) (t : Elsewhere) (at : ℕ) (us : List UnitValue) → AreWritable plain t at us → (err : Error) → UnitsFail plain t at us err → ⊥
units_unfailing plain t at [] h err fails = fails
units_unfailing plain t at (u ∷ us) h err (inr fails) = units_unfailing plain (past_elsewhere t u) (past_table at u) us h.1 err fails
units_unfailing plain t at (u ∷ us) h err (inl fails) = by_mark h.0
  where
    by_mark : (u.is_written ≡ true) ⊎ IsWritableAt plain t at u → ⊥
    by_mark (inl old) = let x : true ≡ false = sym old ∙ fails.0 in absurd cc
    by_mark (inr can) = unit_unfailing plain t u at can.1 can.0 err fails.1

-- Units in a row have one place each.

kept_is : (k j : Kept) → k.starts ≡ j.starts → k.places ≡ j.places → k ≡ j
kept_is k j p q =
    ap (λ (s : Starts). let x : Kept = record { starts = s; places = k.places } in x) p ∙ ap (λ (s : Placement). let x : Kept = record { starts = j.starts; places = s } in x) q

one_kept : (at : Starts) (u : Numbered) (k j : Kept) → StandsAt at u k → StandsAt at u j → k ≡ j
one_kept at u k j a b =
    kept_is k j (a.starts ∙ sym b.starts) (placement-same k.places j.places (one_placement u.unit.encoding u.unit.entries k.places j.places a.early a.placed b.placed))

pub one_row : (at : Starts) (us : List Numbered) (ks js : List Kept) → AreInRow at us ks → AreInRow at us js → ks ≡ js
one_row at [] [] [] a b = refl
one_row at [] [] (j ∷ js) a b = absurd b
one_row at [] (k ∷ ks) js a b = absurd a
one_row at (u ∷ us) [] js a b = absurd a
one_row at (u ∷ us) (k ∷ ks) [] a b = absurd b
one_row at (u ∷ us) (k ∷ ks) (j ∷ js) a b =
    let same = one_kept at u k j a.0 b.0 in
    let rest = subst (λ x. AreInRow (past_kept at u x) us js) (sym same) b.1 in
    ap (λ x. x ∷ ks) same ∙ ap (λ xs. j ∷ xs) (one_row (past_kept at u k) us ks js a.1 rest)
