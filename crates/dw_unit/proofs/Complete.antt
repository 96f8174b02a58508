-- What can be written is refused only for want of memory, or by a fault that was counted.
use Rattle.std.specs.Prelude.{◌≡◌, ◌⊎◌, Bool, true, false, List, ◌++◌, refl, IsTrue, IsFalse}
use Rattle.std.proofs.Common.{subst, inl, inr}
use Rattle.dw_base.specs.declared.error.Error.{Error}
use Rattle.dw_base.specs.declared.error.Error.TheVariants as errors
use Rattle.dw_writer.specs.Meaning.{Meaning}
use Rattle.dw_writer.specs.Sections.{SomeHasRisen}
use Rattle.dw_writer.specs.declared.sections.Sections.{Sections}
use Rattle.dw_tree.specs.Elsewhere.{Elsewhere, ends_of}
use Rattle.dw_tree.specs.Causes.{UnitRefused, UnitsFail, UnitsRefused, RefusesAny, ReferencesFail}
use Rattle.dw_tree.specs.Pending.{Kept, info_of, starts_of}
use Rattle.dw_tree.specs.ReferenceFaults.{references_fail}
use Rattle.dw_tree.specs.UnitValue.{UnitValue}
use Rattle.dw_tree.specs.Valid.{IsWritableAt, CanFollow}
use Rattle.dw_tree.specs.Written.{to_write}
use Rattle.dw_unit.proofs.TableLaws.{info_kept, units_unfailing, one_row}
use Rattle.dw_unit.proofs.ValidLaws.{unit_unfailing}

-- one unit
pub unit_complete : {W : Type 0} (meaning : W → Meaning) (old new : Sections W) (t : Elsewhere) (u : UnitValue) → IsWritableAt (meaning old.debug_info.0).is_plain t (meaning old.debug_abbrev.0).size u →
    (SomeHasRisen meaning old new → ⊥) → (err : Error) → UnitRefused meaning old new u t err → err ≡ errors.NoMemory
unit_complete meaning old new t u w calm errors.NoMemory r = refl
unit_complete meaning old new t u w calm errors.WriteFault r = absurd (calm r)
unit_complete meaning old new t u w calm err r = absurd (unit_unfailing (meaning old.debug_info.0).is_plain t u (meaning old.debug_abbrev.0).size w.1 w.0 err r)

not_both : (b : Bool) → IsTrue b → IsFalse b → ⊥
not_both true t f = absurd (let x : true ≡ false = f in cc)
not_both false t f = absurd (let x : false ≡ true = t in cc)

-- the units of a table behind those that are pending
module _ {W : Type 0} (meaning : W → Meaning) (old new : Sections W) (t : Elsewhere) (us vs : List UnitValue) (can : CanFollow meaning old us t) where
  unfailing : (err : Error) → UnitsFail (meaning old.debug_info.0).is_plain t (meaning old.debug_abbrev.0).size us err ⊎ ReferencesFail meaning can.before us vs t can.units can.kept err → ⊥
  unfailing err (inl h) = units_unfailing (meaning old.debug_info.0).is_plain t (meaning old.debug_abbrev.0).size us can.writable err h
  unfailing err (inr h) =
      let all = can.units ++ to_write t us in
      let plain = (meaning can.before.debug_info.0).is_plain in
      let own = can.references in
      let info = info_kept vs all (can.kept ++ h.kept) (h.keeps can.keeps) in
      let ends = ends_of meaning can.before in
      let there = subst (λ f. IsTrue (references_fail f plain ends all (can.kept ++ h.kept) err)) info h.fails in
      let same = one_row (starts_of meaning can.before) all own.kept (can.kept ++ h.kept) own.in_row h.in_row in
      not_both (references_fail (info_of all (can.kept ++ h.kept)) plain ends all (can.kept ++ h.kept) err) there
      (subst (λ (ks : List Kept). IsFalse (references_fail (info_of all ks) plain ends all ks err)) same (own.lead err))

  pub units_complete : (SomeHasRisen meaning old new → ⊥) → (err : Error) → RefusesAny meaning old new us vs t err → err ≡ errors.NoMemory
  units_complete calm err any = by_error err (any can.before can.units can.kept can.none_open can.pending)
    where
      by_error : (e : Error) → UnitsRefused meaning can.before old new us vs t can.units can.kept e → e ≡ errors.NoMemory
      by_error errors.NoMemory r = refl
      by_error errors.WriteFault r = absurd (calm r)
      by_error e r = absurd (unfailing e r)
