-- Calls of a closure at sections, one after another.
use Rattle.std.specs.Prelude.{Result, Ok, Err, List, [], ◌∷◌}
use Rattle.dw_base.specs.declared.section_id.SectionId.{SectionId}
use Rattle.dw_base.specs.declared.section_id.SectionId.TheVariants.{DebugAbbrev, DebugStr, DebugLineStr, DebugLine, DebugRanges, DebugRngLists, DebugLoc, DebugLocLists, DebugInfo, DebugFrame, EhFrame}

-- the sections that are written, in the order of their ids
abbrev pub written_ids : List SectionId
written_ids =
    DebugAbbrev ∷ DebugStr ∷ DebugLineStr ∷ DebugLine ∷ DebugRanges ∷ DebugRngLists ∷ DebugLoc ∷ DebugLocLists
    ∷ DebugInfo ∷ DebugFrame ∷ EhFrame ∷ []

-- Calls at references to the sections of these ids, in order and up to the first error, give this result.
-- They take the closure from one state to another.
pub data Visits {F R E : Type 0} (shows : SectionId → R → Type 0) (step : F → SectionId → R → Result (Unit {0}) E → F → Type 0) : F → List SectionId → Result (Unit {0}) E → F → Type 0 where
  ends : {f : F} → Visits shows step f [] (Ok tt) f
  goes_on : {f g last : F} {id : SectionId} {w : R} {ids : List SectionId} {r : Result (Unit {0}) E}
      → shows id w → step f id w (Ok tt) g → Visits shows step g ids r last → Visits shows step f (id ∷ ids) r last
  fails : {f g : F} {id : SectionId} {w : R} {ids : List SectionId} {e : E}
      → shows id w → step f id w (Err e) g → Visits shows step f (id ∷ ids) (Err e) g
