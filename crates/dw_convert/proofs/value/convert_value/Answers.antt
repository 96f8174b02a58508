use Rattle.std.proofs.Common.{◌≡◌, Err, inr, Ok, inl, ⊎_elim, refl}
use Rattle.std.proofs.lemmas.Result.{IfErr-weaker}
use Rattle.dw_read.specs.Orders.{value_order}
use Rattle.dw_convert.specs.Values.{order_or_little}
use Rattle.dw_convert.proofs.Addresses.{is_err}
use Rattle.dw_convert.proofs.Defaults.{IsPlain, plain_ok, plain_err}
use Rattle.dw_convert.proofs.Formed.{ok_then, err_then}
use Rattle.dw_convert.proofs.Made.{ranges_made, locations_made, indexed_ranges_made, indexed_locations_made}
use Rattle.dw_convert.proofs.value.convert_value.Goals as goal

pub returns-in-DebugStrRef-clause-ok : goal.returns-in-DebugStrRef-clause-ok
returns-in-DebugStrRef-clause-ok g c = rw c.in-DebugStrRef.is c.string_at.ensures.ok

pub returns-in-DebugStrRef-clause-err : goal.returns-in-DebugStrRef-clause-err
returns-in-DebugStrRef-clause-err g c = rw c.in-DebugStrRef.is (IfErr-weaker c.string_at.result _ _ (λ e h. inr h) c.string_at.ensures.err)

pub returns-in-DebugStrOffsetsIndex-clause-ok : goal.returns-in-DebugStrOffsetsIndex-clause-ok
returns-in-DebugStrOffsetsIndex-clause-ok g c = rw c.in-DebugStrOffsetsIndex.is c.indexed_string.ensures.ok

pub returns-in-DebugStrOffsetsIndex-clause-err : goal.returns-in-DebugStrOffsetsIndex-clause-err
returns-in-DebugStrOffsetsIndex-clause-err g c = rw c.in-DebugStrOffsetsIndex.is (IfErr-weaker c.indexed_string.result _ _ (λ e h. inr h) c.indexed_string.ensures.err)

pub returns-in-DebugLineStrRef-clause-ok : goal.returns-in-DebugLineStrRef-clause-ok
returns-in-DebugLineStrRef-clause-ok g c = rw c.in-DebugLineStrRef.is c.line_string_at.ensures.ok

pub returns-in-DebugLineStrRef-clause-err : goal.returns-in-DebugLineStrRef-clause-err
returns-in-DebugLineStrRef-clause-err g c = rw c.in-DebugLineStrRef.is (IfErr-weaker c.line_string_at.result _ _ (λ e h. inr h) c.line_string_at.ensures.err)

pub returns-in-RangeListsRef-clause-ok : goal.returns-in-RangeListsRef-clause-ok
returns-in-RangeListsRef-clause-ok g c = rw c.in-RangeListsRef.is (ok_then c.ranges_at.result _ _ (λ i h. ranges_made _ _ g.R.Reader.reading (goal.F-post g c.args.convert_address.now) (g.C.ConvertDebugInfoRef.entries c.args.refs.now) (g.C.ConvertDebugInfoRef.infos c.args.refs.now) c.args.unit _ _ h) c.ranges_at.ensures.ok)

pub returns-in-RangeListsRef-clause-err : goal.returns-in-RangeListsRef-clause-err
returns-in-RangeListsRef-clause-err g c = rw c.in-RangeListsRef.is (err_then c.ranges_at.result _ _ _ (λ e h. ranges_made _ _ g.R.Reader.reading (goal.F-post g c.args.convert_address.now) (g.C.ConvertDebugInfoRef.entries c.args.refs.now) (g.C.ConvertDebugInfoRef.infos c.args.refs.now) c.args.unit _ _ h) c.ranges_at.ensures.err)

pub returns-in-DebugRngListsIndex-clause-ok : goal.returns-in-DebugRngListsIndex-clause-ok
returns-in-DebugRngListsIndex-clause-ok g c = rw c.in-DebugRngListsIndex.is (ok_then c.indexed_ranges.result _ _ (λ i h. indexed_ranges_made _ _ g.R.Reader.reading (goal.F-post g c.args.convert_address.now) (g.C.ConvertDebugInfoRef.entries c.args.refs.now) (g.C.ConvertDebugInfoRef.infos c.args.refs.now) c.args.unit _ _ h) c.indexed_ranges.ensures.ok)

pub returns-in-DebugRngListsIndex-clause-err : goal.returns-in-DebugRngListsIndex-clause-err
returns-in-DebugRngListsIndex-clause-err g c = rw c.in-DebugRngListsIndex.is (err_then c.indexed_ranges.result _ _ _ (λ e h. indexed_ranges_made _ _ g.R.Reader.reading (goal.F-post g c.args.convert_address.now) (g.C.ConvertDebugInfoRef.entries c.args.refs.now) (g.C.ConvertDebugInfoRef.infos c.args.refs.now) c.args.unit _ _ h) c.indexed_ranges.ensures.err)

pub returns-in-LocationListsRef-clause-ok : goal.returns-in-LocationListsRef-clause-ok
returns-in-LocationListsRef-clause-ok g c = rw c.in-LocationListsRef.is (ok_then c.locations_at.result _ _ (λ i h. locations_made _ _ g.R.Reader.reading (goal.F-post g c.args.convert_address.now) (g.C.ConvertDebugInfoRef.entries c.args.refs.now) (g.C.ConvertDebugInfoRef.infos c.args.refs.now) c.args.unit _ _ h) c.locations_at.ensures.ok)

pub returns-in-LocationListsRef-clause-err : goal.returns-in-LocationListsRef-clause-err
returns-in-LocationListsRef-clause-err g c = rw c.in-LocationListsRef.is (err_then c.locations_at.result _ _ _ (λ e h. locations_made _ _ g.R.Reader.reading (goal.F-post g c.args.convert_address.now) (g.C.ConvertDebugInfoRef.entries c.args.refs.now) (g.C.ConvertDebugInfoRef.infos c.args.refs.now) c.args.unit _ _ h) c.locations_at.ensures.err)

pub returns-in-DebugLocListsIndex-clause-ok : goal.returns-in-DebugLocListsIndex-clause-ok
returns-in-DebugLocListsIndex-clause-ok g c = rw c.in-DebugLocListsIndex.is (ok_then c.indexed_locations.result _ _ (λ i h. indexed_locations_made _ _ g.R.Reader.reading (goal.F-post g c.args.convert_address.now) (g.C.ConvertDebugInfoRef.entries c.args.refs.now) (g.C.ConvertDebugInfoRef.infos c.args.refs.now) c.args.unit _ _ h) c.indexed_locations.ensures.ok)

pub returns-in-DebugLocListsIndex-clause-err : goal.returns-in-DebugLocListsIndex-clause-err
returns-in-DebugLocListsIndex-clause-err g c = rw c.in-DebugLocListsIndex.is (err_then c.indexed_locations.result _ _ _ (λ e h. indexed_locations_made _ _ g.R.Reader.reading (goal.F-post g c.args.convert_address.now) (g.C.ConvertDebugInfoRef.entries c.args.refs.now) (g.C.ConvertDebugInfoRef.infos c.args.refs.now) c.args.unit _ _ h) c.indexed_locations.ensures.err)

pub returns-in_ok-value-in_default-clause-ok : goal.returns-in_ok-value-in_default-clause-ok
returns-in_ok-value-in_default-clause-ok g c =
    let is : IsPlain c.args.value = record {
      string = c.in_default.not-DebugStrRef;
      line_string = c.in_default.not-DebugLineStrRef;
      indexed_string = c.in_default.not-DebugStrOffsetsIndex;
      ranges = c.in_default.not-RangeListsRef;
      indexed_ranges = c.in_default.not-DebugRngListsIndex;
      locations = c.in_default.not-LocationListsRef;
      indexed_locations = c.in_default.not-DebugLocListsIndex;
      expression = c.in_default.not-Exprloc;
    } in
    plain_ok _ _ g.R.Reader.reading (goal.F-post g c.args.convert_address.now) (g.C.ConvertDebugInfoRef.entries c.args.refs.now) (g.C.ConvertDebugInfoRef.infos c.args.refs.now) c.args.unit c.args.files.now (order_or_little (value_order g.R.Reader.reading c.args.value)) c.args.name.0 c.args.value c.in_ok-value-in_default.value is c.in_ok-value-in_default.ensures

pub returns-in_err-value-in_default-clause-err : goal.returns-in_err-value-in_default-clause-err
returns-in_err-value-in_default-clause-err g c =
    let why = c.in_err-value-in_default.field-0.0 in
    let e : c.from_residual-in_err-value-in_default.result ≡ Err why = is_err _ _ c.from_residual-in_err-value-in_default.ensures in
    let is : IsPlain c.args.value = record {
      string = c.in_default.not-DebugStrRef;
      line_string = c.in_default.not-DebugLineStrRef;
      indexed_string = c.in_default.not-DebugStrOffsetsIndex;
      ranges = c.in_default.not-RangeListsRef;
      indexed_ranges = c.in_default.not-DebugRngListsIndex;
      locations = c.in_default.not-LocationListsRef;
      indexed_locations = c.in_default.not-DebugLocListsIndex;
      expression = c.in_default.not-Exprloc;
    } in
    rw e (plain_err _ _ g.R.Reader.reading (goal.F-post g c.args.convert_address.now) (g.C.ConvertDebugInfoRef.entries c.args.refs.now) (g.C.ConvertDebugInfoRef.infos c.args.refs.now) c.args.unit c.args.files.now (order_or_little (value_order g.R.Reader.reading c.args.value)) c.args.name.0 c.args.value why is c.in_err-value-in_default.ensures)

pub returns-in-DebugStrRef-clause-text : goal.returns-in-DebugStrRef-clause-text
returns-in-DebugStrRef-clause-text g c = c.string_at.ensures.text

pub returns-in-DebugStrOffsetsIndex-clause-text : goal.returns-in-DebugStrOffsetsIndex-clause-text
returns-in-DebugStrOffsetsIndex-clause-text g c = c.indexed_string.ensures.text

pub returns-in-DebugLineStrRef-clause-text : goal.returns-in-DebugLineStrRef-clause-text
returns-in-DebugLineStrRef-clause-text g c = c.line_string_at.ensures.text

pub returns-in-RangeListsRef-clause-text : goal.returns-in-RangeListsRef-clause-text
returns-in-RangeListsRef-clause-text g c = c.ranges_at.ensures.text

pub returns-in-DebugRngListsIndex-clause-text : goal.returns-in-DebugRngListsIndex-clause-text
returns-in-DebugRngListsIndex-clause-text g c = c.indexed_ranges.ensures.text

pub returns-in-LocationListsRef-clause-text : goal.returns-in-LocationListsRef-clause-text
returns-in-LocationListsRef-clause-text g c = c.locations_at.ensures.text

pub returns-in-DebugLocListsIndex-clause-text : goal.returns-in-DebugLocListsIndex-clause-text
returns-in-DebugLocListsIndex-clause-text g c = c.indexed_locations.ensures.text

pub returns-in_err-read-in-Exprloc-clause-ok : goal.returns-in_err-read-in-Exprloc-clause-ok
returns-in_err-read-in-Exprloc-clause-ok g c = rw (is_err _ _ c.from_residual.ensures) tt

pub returns-in_err-read-in-Exprloc-clause-text : goal.returns-in_err-read-in-Exprloc-clause-text
returns-in_err-read-in-Exprloc-clause-text g c = rw (is_err _ _ c.from_residual.ensures) tt

pub returns-in_ok-read-in-Exprloc-clause-text : goal.returns-in_ok-read-in-Exprloc-clause-text
returns-in_ok-read-in-Exprloc-clause-text g c = tt

pub returns-in_ok-read-in-Exprloc-clause-err : goal.returns-in_ok-read-in-Exprloc-clause-err
returns-in_ok-read-in-Exprloc-clause-err g c = tt

pub returns-in_err-value-in_default-clause-ok : goal.returns-in_err-value-in_default-clause-ok
returns-in_err-value-in_default-clause-ok g c = rw (is_err _ _ c.from_residual-in_err-value-in_default.ensures) tt

pub returns-in_err-value-in_default-clause-text : goal.returns-in_err-value-in_default-clause-text
returns-in_err-value-in_default-clause-text g c = rw (is_err _ _ c.from_residual-in_err-value-in_default.ensures) tt

pub returns-in_ok-value-in_default-clause-text : goal.returns-in_ok-value-in_default-clause-text
returns-in_ok-value-in_default-clause-text g c = tt

pub returns-in_ok-value-in_default-clause-err : goal.returns-in_ok-value-in_default-clause-err
returns-in_ok-value-in_default-clause-err g c = tt

pub returns-in_ok-read-in-Exprloc-clause-ok : goal.returns-in_ok-read-in-Exprloc-clause-ok
returns-in_ok-read-in-Exprloc-clause-ok g c = rw c.in-Exprloc.is (Ok c.in_ok-read-in-Exprloc.read, c.in_ok-read-in-Exprloc.ensures.ok, refl)

pub returns-in_err-read-in-Exprloc-clause-err : goal.returns-in_err-read-in-Exprloc-clause-err
returns-in_err-read-in-Exprloc-clause-err g c =
    let why = c.in_err-read-in-Exprloc.field-0.0 in
    let e : c.from_residual.result ≡ Err why = is_err _ _ c.from_residual.ensures in
    rw (e, c.in-Exprloc.is) (⊎_elim (λ n. inl n) (λ h. inr (Err why, h, refl)) c.in_err-read-in-Exprloc.ensures.err)
