use Rattle.dw_expr.specs.Trees as tree
use Rattle.dw_expr.specs.Views.{node_of}
use Rattle.dw_read.specs.Took.{option_of}
use Rattle.std.proofs.Common.{◌≡◌, ap, Err, SFits, w16, w64, to_z, of_z, inr, rules, Ok, refl}
use Rattle.std.proofs.lemmas.Int.{to_z-of_z}
use Rattle.dw_convert.specs.Lookups.{addresses_in}
use Rattle.dw_convert.specs.Outcomes.{AddressOutcome, IndexOutcome}
use Rattle.dw_convert.specs.References.{EntryOutcome, InfoOutcome, BaseOutcome}
use Rattle.dw_convert.proofs.Addresses.{is_err}
use Rattle.dw_convert.proofs.Nesting.{leads_nowhere, stays_flat, skip_refused, branch_refused, skip_led, branch_led, mapped}
use Rattle.dw_convert.proofs.expressions.convert_flat.Goals as goal

pub returns-in_err-target-in-Skip : goal.returns-in_err-target-in-Skip
returns-in_err-target-in-Skip g c =
    let why = c.in_err-target-in-Skip.field-0.0 in
    let e : c.from_residual-in_err-target-in-Skip.result ≡ Err why = is_err _ _ c.from_residual-in_err-target-in-Skip.ensures in
    let fits : SFits w16 c.in-Skip.distance = search rules in
    rw e (inr (skip_refused _ _ g.R.Reader.reading (goal.F-post g c.args.convert_address.now) (addresses_in g.R.Reader.reading c.args.unit) (g.C.ConvertDebugInfoRef.entries c.args.refs.now) (g.C.ConvertDebugInfoRef.infos c.args.refs.now) c.args.listing.now c.args.step.now 0 c.deref.result.now c.deref.ensures.value c.in-Skip.distance (to_z w16 (of_z w16 c.in-Skip.distance)) (to_z-of_z w16 c.in-Skip.distance fits) why c.in_err-target-in-Skip.ensures c.in-Skip.is))

pub returns-in_err-target-in-Branch : goal.returns-in_err-target-in-Branch
returns-in_err-target-in-Branch g c =
    let why = c.in_err-target-in-Branch.field-0.0 in
    let e : c.from_residual-in_err-target-in-Branch.result ≡ Err why = is_err _ _ c.from_residual-in_err-target-in-Branch.ensures in
    let fits : SFits w16 c.in-Branch.distance = search rules in
    rw e (inr (branch_refused _ _ g.R.Reader.reading (goal.F-post g c.args.convert_address.now) (addresses_in g.R.Reader.reading c.args.unit) (g.C.ConvertDebugInfoRef.entries c.args.refs.now) (g.C.ConvertDebugInfoRef.infos c.args.refs.now) c.args.listing.now c.args.step.now 0 c.deref-in-Branch.result.now c.deref-in-Branch.ensures.value c.in-Branch.distance (to_z w16 (of_z w16 c.in-Branch.distance)) (to_z-of_z w16 c.in-Branch.distance fits) why c.in_err-target-in-Branch.ensures c.in-Branch.is))

pub plain_operation-requires : goal.plain_operation-requires
plain_operation-requires g c = leads_nowhere c.args.step.now.operation (record {
  address = c.in_default.not-Address;
  indexed = c.in_default.not-AddressIndex;
  constant = c.in_default.not-ConstantIndex;
  typed = c.in_default.not-ConstantType;
  register = c.in_default.not-RegisterType;
  deref = c.in_default.not-DerefType;
  skip = c.in_default.not-Skip;
  branch = c.in_default.not-Branch;
  call = c.in_default.not-Call;
  call_ref = c.in_default.not-CallRef;
  variable = c.in_default.not-VariableValue;
  convert = c.in_default.not-Convert;
  reinterpret = c.in_default.not-Reinterpret;
  nested = c.requires.flat;
  implicit = c.in_default.not-ImplicitValue;
  pointer = c.in_default.not-ImplicitPointer;
  parameter = c.in_default.not-ParameterRef;
})

pub returns-in_default : goal.returns-in_default
returns-in_default g c = inr (stays_flat _ _ g.R.Reader.reading (goal.F-post g c.args.convert_address.now) (addresses_in g.R.Reader.reading c.args.unit) (g.C.ConvertDebugInfoRef.entries c.args.refs.now) (g.C.ConvertDebugInfoRef.infos c.args.refs.now) c.args.listing.now c.args.step.now c.plain_operation.result (record {
  address = c.in_default.not-Address;
  indexed = c.in_default.not-AddressIndex;
  constant = c.in_default.not-ConstantIndex;
  typed = c.in_default.not-ConstantType;
  register = c.in_default.not-RegisterType;
  deref = c.in_default.not-DerefType;
  skip = c.in_default.not-Skip;
  branch = c.in_default.not-Branch;
  call = c.in_default.not-Call;
  call_ref = c.in_default.not-CallRef;
  variable = c.in_default.not-VariableValue;
  convert = c.in_default.not-Convert;
  reinterpret = c.in_default.not-Reinterpret;
  nested = c.requires.flat;
  implicit = c.in_default.not-ImplicitValue;
  pointer = c.in_default.not-ImplicitPointer;
  parameter = c.in_default.not-ParameterRef;
}) c.plain_operation.ensures)

pub returns-in_err-base-in-RegisterType : goal.returns-in_err-base-in-RegisterType
returns-in_err-base-in-RegisterType g c = rw (is_err _ _ c.from_residual.ensures, c.in-RegisterType.is) (inr (Err c.in_err-base-in-RegisterType.field-0.0, c.in_err-base-in-RegisterType.ensures, refl))

pub returns-in_ok-base-in-RegisterType : goal.returns-in_ok-base-in-RegisterType
returns-in_ok-base-in-RegisterType g c = rw c.in-RegisterType.is (inr (Ok c.in_ok-base-in-RegisterType.base, c.in_ok-base-in-RegisterType.ensures, refl))

pub returns-in_err-base-in-DerefType : goal.returns-in_err-base-in-DerefType
returns-in_err-base-in-DerefType g c = rw (is_err _ _ c.from_residual-in_err-base-in-DerefType.ensures, c.in-DerefType.is) (inr (Err c.in_err-base-in-DerefType.field-0.0, c.in_err-base-in-DerefType.ensures, refl))

pub returns-in_ok-base-in-DerefType : goal.returns-in_ok-base-in-DerefType
returns-in_ok-base-in-DerefType g c = rw c.in-DerefType.is (inr (Ok c.in_ok-base-in-DerefType.base, c.in_ok-base-in-DerefType.ensures, refl))

pub returns-in_err-entry-in-ImplicitPointer : goal.returns-in_err-entry-in-ImplicitPointer
returns-in_err-entry-in-ImplicitPointer g c = rw (is_err _ _ c.from_residual-in_err-entry-in-ImplicitPointer.ensures, c.in-ImplicitPointer.is) (inr (Err c.in_err-entry-in-ImplicitPointer.field-0.0, c.in_err-entry-in-ImplicitPointer.ensures, refl))

pub returns-in_ok-target-in-Skip : goal.returns-in_ok-target-in-Skip
returns-in_ok-target-in-Skip g c =
    let fits : SFits w16 c.in-Skip.distance = search rules in
    inr (skip_led _ _ g.R.Reader.reading (goal.F-post g c.args.convert_address.now) (addresses_in g.R.Reader.reading c.args.unit) (g.C.ConvertDebugInfoRef.entries c.args.refs.now) (g.C.ConvertDebugInfoRef.infos c.args.refs.now) c.args.listing.now c.args.step.now 0 c.deref.result.now c.deref.ensures.value c.in-Skip.distance (to_z w16 (of_z w16 c.in-Skip.distance)) (to_z-of_z w16 c.in-Skip.distance fits) c.in_ok-target-in-Skip.target c.in_ok-target-in-Skip.ensures c.in-Skip.is)

pub returns-in_ok-target-in-Branch : goal.returns-in_ok-target-in-Branch
returns-in_ok-target-in-Branch g c =
    let fits : SFits w16 c.in-Branch.distance = search rules in
    inr (branch_led _ _ g.R.Reader.reading (goal.F-post g c.args.convert_address.now) (addresses_in g.R.Reader.reading c.args.unit) (g.C.ConvertDebugInfoRef.entries c.args.refs.now) (g.C.ConvertDebugInfoRef.infos c.args.refs.now) c.args.listing.now c.args.step.now 0 c.deref-in-Branch.result.now c.deref-in-Branch.ensures.value c.in-Branch.distance (to_z w16 (of_z w16 c.in-Branch.distance)) (to_z-of_z w16 c.in-Branch.distance fits) c.in_ok-target-in-Branch.target c.in_ok-target-in-Branch.ensures c.in-Branch.is)

pub returns-in-ConstantType : goal.returns-in-ConstantType
returns-in-ConstantType g c = rw c.in-ConstantType.is c.constant_type.ensures

pub returns-in_ok-entry-in-ImplicitPointer : goal.returns-in_ok-entry-in-ImplicitPointer
returns-in_ok-entry-in-ImplicitPointer g c =
    let fits : SFits w64 c.in-ImplicitPointer.byte_offset = search rules in
    rw (c.in-ImplicitPointer.is, to_z-of_z w64 c.in-ImplicitPointer.byte_offset fits) (inr (Ok c.in_ok-entry-in-ImplicitPointer.entry, c.in_ok-entry-in-ImplicitPointer.ensures, refl))

pub returns-in-Address : goal.returns-in-Address
returns-in-Address g c = rw c.in-Address.is (inr (mapped (AddressOutcome (goal.F-post g c.args.convert_address.now) c.in-Address.address) tree.Address _ (λ x o h. ap node_of h) _ _ c.map.ensures.cases c.converted.ensures))

pub returns-in-AddressIndex : goal.returns-in-AddressIndex
returns-in-AddressIndex g c = rw c.in-AddressIndex.is (inr (mapped (IndexOutcome (goal.F-post g c.args.convert_address.now) (addresses_in g.R.Reader.reading c.args.unit) c.in-AddressIndex.index) tree.Address _ (λ x o h. ap node_of h) _ _ c.map-in-AddressIndex.ensures.cases c.indexed_in.ensures))

pub returns-in-ConstantIndex : goal.returns-in-ConstantIndex
returns-in-ConstantIndex g c = rw c.in-ConstantIndex.is (inr (mapped (λ x. x ≡ addresses_in g.R.Reader.reading c.args.unit c.in-ConstantIndex.index) tree.UnsignedConstant _ (λ x o h. ap node_of h) _ _ c.map-in-ConstantIndex.ensures.cases c.address_in.ensures))

pub returns-in-Call : goal.returns-in-Call
returns-in-Call g c = rw c.in-Call.is (inr (mapped (EntryOutcome (g.C.ConvertDebugInfoRef.entries c.args.refs.now) c.in-Call.entry.0) tree.Call _ (λ x o h. ap node_of h) _ _ c.map-in-Call.ensures.cases c.convert_unit_ref-in-Call.ensures))

pub returns-in-CallRef : goal.returns-in-CallRef
returns-in-CallRef g c = rw c.in-CallRef.is (inr (mapped (InfoOutcome (g.C.ConvertDebugInfoRef.infos c.args.refs.now) c.in-CallRef.entry.0) tree.CallRef _ (λ x o h. ap node_of h) _ _ c.map-in-CallRef.ensures.cases c.convert_debug_info_ref.ensures))

pub returns-in-VariableValue : goal.returns-in-VariableValue
returns-in-VariableValue g c = rw c.in-VariableValue.is (inr (mapped (InfoOutcome (g.C.ConvertDebugInfoRef.infos c.args.refs.now) c.in-VariableValue.entry.0) tree.VariableValue _ (λ x o h. ap node_of h) _ _ c.map-in-VariableValue.ensures.cases c.convert_debug_info_ref-in-VariableValue.ensures))

pub returns-in-Convert : goal.returns-in-Convert
returns-in-Convert g c = rw c.in-Convert.is (inr (mapped (BaseOutcome (g.C.ConvertDebugInfoRef.entries c.args.refs.now) (option_of (λ b. b.0) c.in-Convert.base)) tree.Convert _ (λ x o h. ap node_of h) _ _ c.map-in-Convert.ensures.cases c.convert_base.ensures))

pub returns-in-Reinterpret : goal.returns-in-Reinterpret
returns-in-Reinterpret g c = rw c.in-Reinterpret.is (inr (mapped (BaseOutcome (g.C.ConvertDebugInfoRef.entries c.args.refs.now) (option_of (λ b. b.0) c.in-Reinterpret.base)) tree.Reinterpret _ (λ x o h. ap node_of h) _ _ c.map-in-Reinterpret.ensures.cases c.convert_base-in-Reinterpret.ensures))

pub returns-in-ParameterRef : goal.returns-in-ParameterRef
returns-in-ParameterRef g c = rw c.in-ParameterRef.is (inr (mapped (EntryOutcome (g.C.ConvertDebugInfoRef.entries c.args.refs.now) c.in-ParameterRef.entry.0) tree.ParameterRef _ (λ x o h. ap node_of h) _ _ c.map-in-ParameterRef.ensures.cases c.convert_unit_ref-in-ParameterRef.ensures))
