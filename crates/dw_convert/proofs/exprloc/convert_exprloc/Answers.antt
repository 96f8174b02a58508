use Rattle.std.proofs.Common.{Ok, Err, inl}
use Rattle.std.proofs.lemmas.Result.{IfErr-weaker}
use Rattle.dw_convert.proofs.Formed.{ok_then, err_then}
use Rattle.dw_convert.proofs.Spelled.{spelled, unspelled}
use Rattle.dw_convert.proofs.exprloc.convert_exprloc.Goals as goal

pub returns-then-is_index-clause-ok : goal.returns-then-is_index-clause-ok
returns-then-is_index-clause-ok g c = ok_then c.spelled.result _ _ (λ x h. spelled _ _ g.R.Reader.reading (goal.F-post g c.args.convert_address.now) (g.C.ConvertDebugInfoRef.entries c.args.refs.now) (g.C.ConvertDebugInfoRef.infos c.args.refs.now) c.args.unit _ c.args.name.0 _ _ _ x c.to_slice.ensures c.is_index.ensures c.if-is_index.true h) c.spelled.ensures.ok

pub returns-then-is_index-clause-err : goal.returns-then-is_index-clause-err
returns-then-is_index-clause-err g c = IfErr-weaker c.spelled.result _ _ (λ e h. inl h) c.spelled.ensures.err

pub returns-clause-ok : goal.returns-clause-ok
returns-clause-ok g c = ok_then c.expression.result _ _ (λ x h. unspelled _ _ g.R.Reader.reading (goal.F-post g c.args.convert_address.now) (g.C.ConvertDebugInfoRef.entries c.args.refs.now) (g.C.ConvertDebugInfoRef.infos c.args.refs.now) c.args.unit _ c.args.name.0 _ _ _ _ (Ok x) c.to_slice.ensures c.is_index.ensures c.if-is_index.false c.encoding-encoding.ensures h) c.expression.ensures.ok

pub returns-clause-err : goal.returns-clause-err
returns-clause-err g c = err_then c.expression.result _ _ _ (λ e h. unspelled _ _ g.R.Reader.reading (goal.F-post g c.args.convert_address.now) (g.C.ConvertDebugInfoRef.entries c.args.refs.now) (g.C.ConvertDebugInfoRef.infos c.args.refs.now) c.args.unit _ c.args.name.0 _ _ _ _ (Err e) c.to_slice.ensures c.is_index.ensures c.if-is_index.false c.encoding-encoding.ensures h) c.expression.ensures.err
