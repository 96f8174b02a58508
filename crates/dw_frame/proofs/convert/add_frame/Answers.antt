use Rattle.std.proofs.Common.{◌≡◌, ap, refl, inl, inr, ⊎_elim, Err}
use Rattle.std.proofs.lemmas.Result.{on_ok_weaker, IfErr-weaker}
use Rattle.dw_read.specs.Reading.{Reading, left}
use Rattle.dw_read_frames.specs.declared.cie.CommonInformationEntry.{CommonInformationEntry as ReadCie}
use Rattle.dw_sources.specs.ConvertErrors.{from_read}
use Rattle.dw_frame.proofs.ConvertLaws.{is_err}
use Rattle.dw_frame.proofs.ConvertTableSteps.{by_place, ends_by_place, cie_so, refuses_cie_so, fde_so, refuses_fde_so}
use Rattle.dw_frame.proofs.convert.add_frame.Goals as goal

pub returns-in_err-common-clause-ok : goal.returns-in_err-common-clause-ok
returns-in_err-common-clause-ok g c = rw (is_err _ _ c.from_residual.ensures) tt

pub returns-in_err-common-clause-err : goal.returns-in_err-common-clause-err
returns-in_err-common-clause-err g c =
    let why = c.in_err-common.field-0.0 in
    let e : c.from_residual.result ≡ Err (from_read why) = is_err _ _ c.from_residual.ensures in
    rw e (inr (inl (record { error = why; refused = by_place _ _ _ _ _ _ _ _ c.cie_offset.ensures c.in_err-common.ensures.err; is = refl })))

pub returns-in_err-read-clause-ok : goal.returns-in_err-read-clause-ok
returns-in_err-read-clause-ok g c = rw (is_err _ _ c.from_residual-in_err-read.ensures) tt

pub returns-in_err-read-clause-err : goal.returns-in_err-read-clause-err
returns-in_err-read-clause-err g c =
    let reading = g.R.Reader.reading in
    let common = c.in_ok-common.common in
    let why = c.in_err-read.field-0.0 in
    let e : c.from_residual-in_err-read.result ≡ Err (from_read why) = is_err _ _ c.from_residual-in_err-read.ensures in
    rw e (inr (inr (record {
      common = common.fields;
      first = left (reading common.instructions);
      found = by_place _ _ _ _ _ _ _ _ c.cie_offset.ensures c.in_ok-common.ensures.ok;
      cause = inl (record { error = why; refused = c.in_err-read.ensures.err; is = refl });
    })))

pub returns-clause-err : goal.returns-clause-err
returns-clause-err g c =
    let reading = g.R.Reader.reading in
    let answers = goal.F-post g c.args.convert_address.now in
    let common = c.in_ok-common.common in
    let read = c.in_ok-read.read in
    let took = c.in_ok-read.ensures.ok in
    let found = by_place _ _ _ _ _ _ _ _ c.cie_offset.ensures c.in_ok-common.ensures.ok in
    IfErr-weaker c.add_converted.result _ _ (λ why. ⊎_elim (λ n. inl n) (⊎_elim
    (λ h. inr (inr (record {
      common = common.fields;
      first = left (reading common.instructions);
      found = found;
      cause = inr (inl (record {
        cie_end = (reading common.instructions).end;
        ends = ends_by_place answers _ _ reading _ _ _ _ _ _ common c.cie_offset.ensures c.in_ok-read.ensures.cie c.in_ok-common.ensures.rest;
        refused = refuses_cie_so answers _ _ reading _ _ _ _ _ _ common c.cie_offset.ensures c.in_ok-read.ensures.cie c.in_ok-common.ensures.rest why h;
      }));
    })))
    (λ h. inr (inr (record {
      common = common.fields;
      first = left (reading common.instructions);
      found = found;
      cause = inr (inr (record {
        own = read.fields;
        more = left (reading read.instructions);
        says = took.value;
        refused = refuses_fde_so answers _ _ _ _ _ _ _ _ (ap (λ (r : Reading). r.is_big) took.passes.is) (ap (λ (r : Reading). r.end) took.passes.is) (ap (λ (k : ReadCie _ _). k.fields) c.in_ok-read.ensures.cie) why h;
      }));
    }))))) c.add_converted.ensures.err

pub returns-clause-ok : goal.returns-clause-ok
returns-clause-ok g c =
    let reading = g.R.Reader.reading in
    let answers = goal.F-post g c.args.convert_address.now in
    let common = c.in_ok-common.common in
    let read = c.in_ok-read.read in
    let took = c.in_ok-read.ensures.ok in
    on_ok_weaker c.add_converted.result (λ a. record {
      pair = a.pair;
      is = record {
        common = common.fields;
        first = left (reading common.instructions);
        found = by_place _ _ _ _ _ _ _ _ c.cie_offset.ensures c.in_ok-common.ensures.ok;
        own = read.fields;
        more = left (reading read.instructions);
        says = took.value;
        cie_end = (reading common.instructions).end;
        ends = ends_by_place answers _ _ reading _ _ _ _ _ _ common c.cie_offset.ensures c.in_ok-read.ensures.cie c.in_ok-common.ensures.rest;
        cie = cie_so answers _ _ reading _ _ _ _ _ _ common c.cie_offset.ensures c.in_ok-read.ensures.cie c.in_ok-common.ensures.rest _ a.cie;
        fde = fde_so answers _ _ _ _ _ _ _ _ (ap (λ (r : Reading). r.is_big) took.passes.is) (ap (λ (r : Reading). r.end) took.passes.is) (ap (λ (k : ReadCie _ _). k.fields) c.in_ok-read.ensures.cie) _ a.fde;
      };
      adds = a.adds;
    }) c.add_converted.ensures.ok
