use Rattle.std.proofs.lemmas.Result.{err_from_is_err_and}
use Rattle.dw_read.proofs.Chain.{went}
use Rattle.dw_read_frames.specs.HeadViews.{head_of, IsBody}
use Rattle.dw_read_frames.proofs.Steps.{took_none, took_some, if_some}
use Rattle.dw_read_frames.proofs.EntryLaws.{entry_no_head, entry_ends, entry_is_fde, entry_no_fields, entry_is_cie, body_goes_on}
use Rattle.dw_read_frames.proofs.entries.read_entry.Goals as goal

pub returns-in_err-head-clause-err : goal.returns-in_err-head-clause-err
returns-in_err-head-clause-err g c =
    let p = err_from_is_err_and c.from_residual.result c.from_residual.ensures.1 in
    rw (p.1, p.2) (entry_no_head c.args.is_eh c.args.size _ _ _ _ c.in_err-head.ensures.err)

pub returns-in_default-clause-ok : goal.returns-in_default-clause-ok
returns-in_default-clause-ok g c = entry_ends c.args.is_eh c.args.size _ _ (took_none _ _ _ _ _ _ _ c.in_ok-head.ensures.ok c.in_default.is)

pub returns-in-Some-cie-clause-ok : goal.returns-in-Some-cie-clause-ok
returns-in-Some-cie-clause-ok g c =
    let reading = g.R.Reader.reading in
    let t = took_some _ _ (head_of reading) _ _ _ _ _ c.in_ok-head.ensures.ok c.in-Some.is in
    entry_is_fde c.args.is_eh c.args.size c.in-Some.head.format c.in-Some.head.cie _ _ (reading c.in-Some.head.body) t c.in-Some-cie.cie_offset c.in-Some-cie.is

pub returns-in_err-cie-clause-err : goal.returns-in_err-cie-clause-err
returns-in_err-cie-clause-err g c =
    let reading = g.R.Reader.reading in
    let is = g.met.R.Reader.is_reading in
    let p = err_from_is_err_and c.from_residual-in_err-cie.result c.from_residual-in_err-cie.ensures.1 in
    let t = took_some _ _ (head_of reading) _ _ _ _ _ c.in_ok-head.ensures.ok c.in-Some.is in
    let b = if_some _ (λ x. IsBody (reading c.args.input.now) (reading c.read_head.new.input) (reading x.body)) _ _ c.in_ok-head.ensures.body c.in-Some.is in
    rw (p.1, p.2) (entry_no_fields c.args.is_eh c.args.size c.in-Some.head.format c.in-Some.head.cie _ _ (reading c.in-Some.head.body) t c.in_default-cie.is (is c.args.input.now) (is c.read_head.new.input) b _ c.in_err-cie.ensures.err)

pub returns-clause-ok : goal.returns-clause-ok
returns-clause-ok g c =
    let reading = g.R.Reader.reading in
    let is = g.met.R.Reader.is_reading in
    let t = took_some _ _ (head_of reading) _ _ _ _ _ c.in_ok-head.ensures.ok c.in-Some.is in
    let b = if_some _ (λ x. IsBody (reading c.args.input.now) (reading c.read_head.new.input) (reading x.body)) _ _ c.in_ok-head.ensures.body c.in-Some.is in
    entry_is_cie c.args.is_eh c.args.size c.in-Some.head.format c.in-Some.head.cie _ _ (reading c.in-Some.head.body) t c.in_default-cie.is (is c.args.input.now) (is c.read_head.new.input) b _ _ c.in_ok-cie.ensures.ok

pub returns-clause-rest : goal.returns-clause-rest
returns-clause-rest g c =
    let reading = g.R.Reader.reading in
    let is = g.met.R.Reader.is_reading in
    let b = if_some _ (λ x. IsBody (reading c.args.input.now) (reading c.read_head.new.input) (reading x.body)) _ _ c.in_ok-head.ensures.body c.in-Some.is in
    body_goes_on (reading c.args.input.now) (reading c.read_head.new.input) (reading c.in-Some.head.body) (reading c.in_ok-cie.cie.instructions) b (went _ _ (reading c.in-Some.head.body) (reading c.in_ok-cie.cie.instructions) _ c.in_ok-cie.ensures.ok) (is c.in_ok-cie.cie.instructions)
