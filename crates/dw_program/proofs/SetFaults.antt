-- Sets that are valid where they are joined have no faulty relocation.
use Rattle.std.specs.Prelude.{◌≡◌, ℕ, zero, suc, Bool, List, [], ◌∷◌, All, map, Option, Some, None, refl, IsTrue, slice_get}
use Rattle.std.proofs.Common.{◌∙◌, subst}
use Rattle.dw_base.specs.Numbers.{◌>>=◌}
use Rattle.dw_base.specs.Order.{is_big_of}
use Rattle.dw_base.specs.declared.section_id.SectionId.{SectionId}
use Rattle.dw_base.specs.declared.section_id.SectionId.TheVariants.{DebugAbbrev, DebugStr, DebugLineStr, DebugLine, DebugRanges, DebugRngLists, DebugLoc, DebugLocLists, DebugInfo, DebugFrame, EhFrame, DebugAddr, DebugStrOffsets, DebugMacinfo, DebugMacro, DebugAranges}
use Rattle.dw_writer.specs.Layout.{start_of}
use Rattle.dw_writer.specs.Meaning.{Meaning}
use Rattle.dw_writer.specs.Resolved.{resolved}
use Rattle.dw_writer.specs.Visits.{written_ids}
use Rattle.dw_dwarf.specs.DwarfValue.{DwarfValue}
use Rattle.dw_dwarf.specs.Valid.{AreUnwritten}
use Rattle.dw_link.specs.Outcome.{IsFirstFault, part_fault, fault_at}
use Rattle.dw_link.specs.Sets.{Parts, start_in, layout_in}
use Rattle.dw_link.specs.Steps.{is_below}
use Rattle.dw_link.specs.declared.error.LinkError.{LinkError}
use Rattle.dw_link.specs.declared.fault.Fault.{Fault}
use Rattle.dw_link.proofs.Faultless.{opened}
use Rattle.dw_link.proofs.JoinedSections.{far, part_joined, part_faultless}
use Rattle.dw_build.specs.SetsValue.{SetsValue}
use Rattle.dw_program.specs.Linked.{IsValidSet, AreValidSets, AreValidJoined}
use Rattle.dw_program.specs.SetParts.{Part, Placed, part_of, IsHeld, HoldsPart, AreSets}
use Rattle.dw_program.proofs.SetLaws.{HoldSets, placed_sets, start_same}
use Rattle.dw_program.proofs.SetsFit.{StartsAs, AllFit, of_one, joined_fit}

-- one of valid sets is valid
pub valid_at : (ds : List DwarfValue) (n : ℕ) (d : DwarfValue) → AreValidSets ds → slice_get ds n ≡ Some d → IsValidSet d
valid_at ds n d all at = of_one IsValidSet ds n d all at

-- a set that is there, and the Dwarf that it holds
record Found (big : Bool) (ps : List Placed) (n : ℕ) (set : Parts) : Type 0 where
  placed : Placed
  at : slice_get ps n ≡ Some placed
  held : (s : SectionId) → IsHeld (set s) big (part_of placed s)

found : (big : Bool) (sets : List Parts) (ps : List Placed) (n : ℕ) (set : Parts) → HoldSets big sets ps → slice_get sets n ≡ Some set → Found big ps n set
found big [] ps n set h at = cc
found big (x ∷ sets) [] n set h at = absurd h
found big (x ∷ sets) (p ∷ ps) zero set h at =
    let same : x ≡ set = cc in
    record { placed = p; at = refl; held = subst (λ (y : Parts). (s : SectionId) → IsHeld (y s) big (part_of p s)) same h.0 }
found big (x ∷ sets) (p ∷ ps) (suc n) set h at =
    let more = found big sets ps n set h.1 at in
    record { placed = more.placed; at = more.at; held = more.held }

-- what a part of such a set holds
record Holds (m : Meaning) (big : Bool) (o : Option Part) : Type 0 where
  part : Part
  is : o ≡ Some part
  holds : HoldsPart m big part

held_part : (x : Option Meaning) (m : Meaning) (big : Bool) (o : Option Part) → IsHeld x big o → x ≡ Some m → Holds m big o
held_part None m big o h is = cc
held_part (Some w) m big None h is = absurd h
held_part (Some w) m big (Some q) h is = let same : w ≡ m = cc in record { part = q; is = refl; holds = subst (λ y. HoldsPart y big q) same h }

-- layouts in which the sections that are joined start there
start_at : (f : SectionId → ℕ) (own : ℕ) (symbols : List ℕ) (t : SectionId) → IsTrue (is_below 11 t) →
    start_of (record { starts = map f written_ids; own_start = own; symbols = symbols }) t ≡ f t
start_at f own symbols DebugAbbrev h = refl
start_at f own symbols DebugStr h = refl
start_at f own symbols DebugLineStr h = refl
start_at f own symbols DebugLine h = refl
start_at f own symbols DebugRanges h = refl
start_at f own symbols DebugRngLists h = refl
start_at f own symbols DebugLoc h = refl
start_at f own symbols DebugLocLists h = refl
start_at f own symbols DebugInfo h = refl
start_at f own symbols DebugFrame h = refl
start_at f own symbols EhFrame h = refl
start_at f own symbols DebugAddr h = cc
start_at f own symbols DebugStrOffsets h = cc
start_at f own symbols DebugMacinfo h = cc
start_at f own symbols DebugMacro h = cc
start_at f own symbols DebugAranges h = cc

far_at : (f : SectionId → ℕ) (own : ℕ) (symbols : List ℕ) (k : ℕ) (t : SectionId) → IsTrue (is_below 11 t) → start_of (far f own symbols k) t ≡ f t
far_at f own symbols k DebugAbbrev h = refl
far_at f own symbols k DebugStr h = refl
far_at f own symbols k DebugLineStr h = refl
far_at f own symbols k DebugLine h = refl
far_at f own symbols k DebugRanges h = refl
far_at f own symbols k DebugRngLists h = refl
far_at f own symbols k DebugLoc h = refl
far_at f own symbols k DebugLocLists h = refl
far_at f own symbols k DebugInfo h = refl
far_at f own symbols k DebugFrame h = refl
far_at f own symbols k EhFrame h = refl
far_at f own symbols k DebugAddr h = cc
far_at f own symbols k DebugStrOffsets h = cc
far_at f own symbols k DebugMacinfo h = cc
far_at f own symbols k DebugMacro h = cc
far_at f own symbols k DebugAranges h = cc

module _ (big : Bool) (sets : List Parts) (ps : List Placed) (all : HoldSets big sets ps) (symbols : List ℕ) (fit : AllFit ps symbols big) where
  no_fault : (n : ℕ) (s : SectionId) (k : ℕ) (f : Fault) → fault_at sets symbols n s k ≡ Some f → ⊥
  unfolding fault_at
  no_fault n s k f is =
      let l = layout_in sets symbols n s in
      let a = opened (slice_get sets n) (λ set. set s >>= λ m. part_fault l m k) f is in
      let b = opened (a.value s) (λ m. part_fault l m k) f a.leads in
      let p = found big sets ps n a.value all a.is in
      let q = held_part (a.value s) b.value big (part_of p.placed s) (p.held s) b.is in
      let starts = λ (t : SectionId). start_same big sets ps all n t in
      let here : StartsAs ps symbols n s l = record { own = starts s; values = refl; starts = λ t h. start_at (start_in sets n) (start_in sets n s) symbols t h ∙ starts t } in
      let text = fit n p.placed s q.part l p.at q.is here in
      let moved = λ (j : ℕ).
      let away = far (start_in sets n) (start_in sets n s) symbols j in
      let there : StartsAs ps symbols n s away = record { own = starts s; values = refl; starts = λ t h. far_at (start_in sets n) (start_in sets n s) symbols j t h ∙ starts t } in
      let far_text = fit n p.placed s q.part away p.at q.is there in
      let is_there : (xs : List ℕ) × (resolved away b.value ≡ Some xs) = (far_text.0, q.holds.resolves away ∙ far_text.1) in
      is_there
      in
      part_faultless l (start_in sets n) b.value k f text.0 refl (q.holds.resolves l ∙ text.1) (part_joined (start_in sets n) (start_in sets n s) symbols b.value moved) b.leads

-- so no relocation of sets that are valid where they are joined is the first that is faulty
pub joined_linked : (s : SetsValue) (sets : List Parts) (error : LinkError) → All AreUnwritten s.dwarfs → AreSets (is_big_of s.endian) sets s.dwarfs → AreValidJoined s → IsFirstFault sets s.symbols error → ⊥
joined_linked s sets error unwritten left valid first =
    let big = is_big_of s.endian in
    let p = placed_sets big sets s.dwarfs left in
    no_fault big sets p.placed p.hold s.symbols (joined_fit s valid unwritten p.placed p.are big) first.set first.section first.index first.fault first.stands
