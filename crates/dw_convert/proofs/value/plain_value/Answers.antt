use Rattle.std.proofs.Common.{inr}
use Rattle.dw_entries.specs.declared.value.AttributeValue.TheVariants as built
use Rattle.dw_convert.specs.Lookups.{address_of}
use Rattle.dw_convert.specs.Outcomes.{AddressOutcome, IndexOutcome}
use Rattle.dw_convert.specs.References.{EntryOutcome, InfoOutcome}
use Rattle.dw_convert.proofs.Made.{mapped}
use Rattle.dw_convert.proofs.Defaults.{stays}
use Rattle.dw_convert.proofs.value.plain_value.Goals as goal

pub returns-in_default : goal.returns-in_default
returns-in_default g c = stays _ _ g.R.Reader.reading (goal.F-post g c.args.convert_address.now) (g.C.ConvertDebugInfoRef.entries c.args.refs.now) (g.C.ConvertDebugInfoRef.infos c.args.refs.now) c.args.unit c.args.files.now c.args.value.now c.same_value.result (record {
  address = c.in_default.not-Addr;
  indexed_address = c.in_default.not-DebugAddrIndex;
  entry = c.in_default.not-UnitRef;
  info = c.in_default.not-DebugInfoRef;
  file = c.in_default.not-FileIndex;
  program = c.in_default.not-DebugLineRef;
}) c.same_value.ensures

pub returns-in-Addr : goal.returns-in-Addr
returns-in-Addr g c = rw c.in-Addr.is (inr (mapped (AddressOutcome (goal.F-post g c.args.convert_address.now) c.in-Addr.address) built.Address _ (λ x v h. h) _ _ c.map.ensures.cases c.converted.ensures))

pub returns-in-DebugAddrIndex : goal.returns-in-DebugAddrIndex
returns-in-DebugAddrIndex g c = rw c.in-DebugAddrIndex.is (inr (mapped (IndexOutcome (goal.F-post g c.args.convert_address.now) (address_of g.R.Reader.reading c.args.unit) c.in-DebugAddrIndex.index) built.Address _ (λ x v h. h) _ _ c.map-in-DebugAddrIndex.ensures.cases c.indexed.ensures))

pub returns-in-UnitRef : goal.returns-in-UnitRef
returns-in-UnitRef g c = rw c.in-UnitRef.is (inr (mapped (EntryOutcome (g.C.ConvertDebugInfoRef.entries c.args.refs.now) c.in-UnitRef.entry.0) built.UnitRef _ (λ x v h. h) _ _ c.map-in-UnitRef.ensures.cases c.convert_unit_ref.ensures))

pub returns-in-DebugInfoRef : goal.returns-in-DebugInfoRef
returns-in-DebugInfoRef g c = rw c.in-DebugInfoRef.is (inr (mapped (InfoOutcome (g.C.ConvertDebugInfoRef.infos c.args.refs.now) c.in-DebugInfoRef.entry.0) built.DebugInfoRef _ (λ x v h. h) _ _ c.map-in-DebugInfoRef.ensures.cases c.convert_debug_info_ref.ensures))
