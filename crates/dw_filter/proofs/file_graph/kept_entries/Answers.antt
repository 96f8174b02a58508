use Rattle.std.proofs.Common.{◌↔◌, All, Some, get_or}
use Rattle.std.specs.List.{Contains}
use Rattle.std.specs.declared.alloc.Global.{Global}
use Rattle.std.specs.declared.vec.Vec.{Vec}
use Rattle.std.proofs.lemmas.Option.{slice_get-get_or}
use Rattle.std.proofs.lemmas.Result.{IfOk-weaker}
use Rattle.dw_base.specs.declared.offsets.UnitSectionOffset.{UnitSectionOffset}
use Rattle.dw_entry_ids.specs.KeptRows.{keep_of}
use Rattle.dw_filter.specs.Dependencies.{Kept}
use Rattle.dw_filter.specs.FileGraph.{IsClosedIn, IsLeastKeptIn, KeptIn, KnownIn, LeadsIn}
use Rattle.dw_filter.proofs.Closing.{kept_closed}
use Rattle.dw_filter.proofs.FileSteps.{kept_in}
use Rattle.dw_filter.proofs.Kept.{kept_least}
use Rattle.dw_filter.proofs.LinkSteps.{then_ok}
use Rattle.dw_filter.proofs.file_graph.kept_entries.Goals as goal

-- what the graph keeps is what is kept of the units
both : (P Q C : Type 0) → P ↔ Q → C ↔ P → C ↔ Q
both P Q C s k = (λ h. s.0 (k.0 h), λ h. k.1 (s.1 h))

pub returns-clause-kept : goal.returns-clause-kept
returns-clause-kept g c =
    let reading = g.R.Reader.reading in
    IfOk-weaker c.get_reachable.result
    (λ (v : Vec UnitSectionOffset Global). (q : UnitSectionOffset) → Contains v.items q ↔ Kept c.require_all.new.dependencies q)
    (λ (v : Vec UnitSectionOffset Global). (q : UnitSectionOffset) → Contains v.items q ↔ KeptIn reading c.args.dwarf.now c.args.units.now c.args.counts.now c.args.required.now q)
    (λ v kept q. both _ _ _ (kept_in reading c.args.counts.now c.args.dwarf.now c.args.units.now c.in_ok-dependencies.dependencies c.require_all.new.dependencies c.args.required.now
    c.in_ok-dependencies.ensures.known c.in_ok-dependencies.ensures.leads c.in_ok-dependencies.ensures.required c.in_ok-require_all.ensures.ok q) (kept q))
    c.get_reachable.ensures.kept

pub returns-clause-least : goal.returns-clause-least
returns-clause-least g c =
    let reading = g.R.Reader.reading in
    IfOk-weaker c.get_reachable.result
    (λ (v : Vec UnitSectionOffset Global). (q : UnitSectionOffset) → Contains v.items q ↔ Kept c.require_all.new.dependencies q)
    (λ (v : Vec UnitSectionOffset Global). IsLeastKeptIn reading c.args.dwarf.now c.args.units.now c.args.counts.now c.args.required.now v.items)
    (λ v kept. kept_least (KnownIn reading c.args.units.now c.args.counts.now) (LeadsIn reading c.args.dwarf.now c.args.units.now c.args.counts.now) (Contains c.args.required.now) (Contains v.items)
    (λ q. both _ _ _ (kept_in reading c.args.counts.now c.args.dwarf.now c.args.units.now c.in_ok-dependencies.dependencies c.require_all.new.dependencies c.args.required.now
    c.in_ok-dependencies.ensures.known c.in_ok-dependencies.ensures.leads c.in_ok-dependencies.ensures.required c.in_ok-require_all.ensures.ok q) (kept q)))
    c.get_reachable.ensures.kept

pub returns-clause-whole : goal.returns-clause-whole
returns-clause-whole g c = then_ok c.get_reachable.result _ c.in_ok-dependencies.ensures.whole

pub returns-clause-closed : goal.returns-clause-closed
returns-clause-closed g c = λ behind.
    let reading = g.R.Reader.reading in
    let units = c.args.units.now in
    IfOk-weaker c.get_reachable.result
    (λ (v : Vec UnitSectionOffset Global). (q : UnitSectionOffset) → Contains v.items q ↔ Kept c.require_all.new.dependencies q)
    (λ (v : Vec UnitSectionOffset Global). All (IsClosedIn reading (keep_of (Some v.items))) units)
    (λ v kept i u l rows are. kept_closed reading c.args.dwarf.now g.met.R.Reader.is_reading units c.args.counts.now behind i
    (record { unit = get_or units i u; stands = slice_get-get_or units i u l; rows = rows; are = are }) c.args.required.now v.items
    (λ q. both _ _ _ (kept_in reading c.args.counts.now c.args.dwarf.now units c.in_ok-dependencies.dependencies c.require_all.new.dependencies c.args.required.now
    c.in_ok-dependencies.ensures.known c.in_ok-dependencies.ensures.leads c.in_ok-dependencies.ensures.required c.in_ok-require_all.ensures.ok q) (kept q)))
    c.get_reachable.ensures.kept
