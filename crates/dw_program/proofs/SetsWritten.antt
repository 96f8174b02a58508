-- Sets, written one after another.
use Rattle.std.specs.Prelude.{◌≡◌, zero, suc, Bool, false, List, [], ◌∷◌, ◌++◌, length, take, map, All, Some, refl, slice_get}
use Rattle.std.proofs.Common.{sym, ◌∙◌, ap, subst, arith}
use Rattle.dw_base.specs.declared.error.Error.{Error}
use Rattle.dw_writer.specs.Meaning.{Meaning}
use Rattle.dw_writer.specs.declared.sections.Sections.{Sections}
use Rattle.dw_dwarf.specs.DwarfValue.{DwarfValue}
use Rattle.dw_dwarf.specs.Left.{IsLeft}
use Rattle.dw_link.specs.Linked.{AreLeft}
use Rattle.dw_link.specs.Sets.{parts_of, sets_of}
use Rattle.dw_program.specs.Faults.{HasFault}
use Rattle.dw_program.specs.Linked.{IsValidSet, AreValidSets, IsFirstSetFault}
use Rattle.dw_program.specs.SetParts.{IsSet, AreSets}

module _ {W : Type 0} (from : W → Meaning) (big : Bool) where
  -- a set that was written
  abbrev pub IsWrittenSet : DwarfValue → Sections W → Type 0
  IsWrittenSet d s = IsValidSet d × IsLeft from big s d × IsSet big (parts_of from s) d

  abbrev pub AreWrittenSets : List DwarfValue → List (Sections W) → Type 0
  AreWrittenSets [] [] = Unit {0}
  AreWrittenSets [] (s ∷ sets) = ⊥
  AreWrittenSets (d ∷ ds) [] = ⊥
  AreWrittenSets (d ∷ ds) (s ∷ sets) = IsWrittenSet d s × AreWrittenSets ds sets

  -- one more
  pub one_more : (ds : List DwarfValue) (sets : List (Sections W)) (d : DwarfValue) (s : Sections W) → AreWrittenSets ds sets → IsWrittenSet d s → AreWrittenSets (ds ++ d ∷ []) (sets ++ s ∷ [])
  one_more [] [] d s h is = (is, tt)
  one_more [] (x ∷ sets) d s h is = absurd h
  one_more (e ∷ ds) [] d s h is = absurd h
  one_more (e ∷ ds) (x ∷ sets) d s h is = (h.0, one_more ds sets d s h.1 is)

  pub all_valid : (ds : List DwarfValue) (sets : List (Sections W)) → AreWrittenSets ds sets → AreValidSets ds
  all_valid [] [] h k d within = absurd (omega (arith, within))
  all_valid [] (s ∷ sets) h k d within = absurd h
  all_valid (e ∷ ds) [] h k d within = absurd h
  all_valid (e ∷ ds) (s ∷ sets) h zero d within = h.0.0
  all_valid (e ∷ ds) (s ∷ sets) h (suc k) d within = all_valid ds sets h.1 k d (omega (arith, within))

  pub all_left : (ds : List DwarfValue) (sets : List (Sections W)) → AreWrittenSets ds sets → AreLeft from big sets ds
  all_left [] [] h = tt
  all_left [] (s ∷ sets) h = absurd h
  all_left (e ∷ ds) [] h = absurd h
  all_left (e ∷ ds) (s ∷ sets) h = (h.0.1, all_left ds sets h.1)

  pub all_sets : (ds : List DwarfValue) (sets : List (Sections W)) → AreWrittenSets ds sets → AreSets big (sets_of from sets) ds
  all_sets [] [] h = tt
  all_sets [] (s ∷ sets) h = absurd h
  all_sets (e ∷ ds) [] h = absurd h
  all_sets (e ∷ ds) (s ∷ sets) h = (h.0.2, all_sets ds sets h.1)

-- Items, of which some were gone through

pub map_more : {X Y : Type 0} (f : X → Y) (xs : List X) (x : X) → map f (xs ++ x ∷ []) ≡ map f xs ++ f x ∷ []
map_more f [] x = refl
map_more f (y ∷ xs) x = ap (λ zs. f y ∷ zs) (map_more f xs x)

pub at_seam : {X Y : Type 0} (f : X → Y) (xs : List X) (x : X) (rest : List X) → slice_get (map f (xs ++ x ∷ rest)) (length xs) ≡ Some (f x)
at_seam f [] x rest = refl
at_seam f (y ∷ xs) x rest = at_seam f xs x rest

pub before_seam : {X Y : Type 0} (f : X → Y) (xs rest : List X) → take (length xs) (map f (xs ++ rest)) ≡ map f xs
before_seam f [] rest = refl
before_seam f (y ∷ xs) rest = ap (λ zs. f y ∷ zs) (before_seam f xs rest)

pub holds_at_seam : {X Y : Type 0} (P : Y → Type 0) (f : X → Y) (xs : List X) (x : X) (rest : List X) → All P (map f (xs ++ x ∷ rest)) → P (f x)
holds_at_seam P f [] x rest all = all 0 (f x) (omega arith)
holds_at_seam P f (y ∷ xs) x rest all = holds_at_seam P f xs x rest (λ k z within. all (suc k) z (omega (arith, within)))

-- the first set that can't be written stands behind those that were
pub first_fault : {X : Type 0} (f : X → DwarfValue) (all xs : List X) (x : X) (rest : List X) (e : Error) → all ≡ xs ++ x ∷ rest → AreValidSets (map f xs) → HasFault false (f x) e → IsFirstSetFault (map f all) e
first_fault f all xs x rest e is valid cause = record {
  number = length xs;
  dwarf = f x;
  at = ap (λ ys. slice_get (map f ys) (length xs)) is ∙ at_seam f xs x rest;
  before = subst AreValidSets (sym (ap (λ ys. take (length xs) (map f ys)) is ∙ before_seam f xs (x ∷ rest))) valid;
  cause = cause;
}

pub nothing_left : {X : Type 0} (xs : List X) → length xs ≡ 0 → xs ≡ []
nothing_left [] h = refl
nothing_left (x ∷ xs) h = absurd (omega (arith, h))
