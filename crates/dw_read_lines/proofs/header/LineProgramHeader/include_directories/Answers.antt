use Rattle.std.proofs.Common.{◌∙◌, arith, ap, subst, refl, true}
use Rattle.std.proofs.lemmas.Bool.{le-leb, lt-leb}
use Rattle.std.proofs.lemmas.Result.{IfOk-weaker, IfErr-weaker}
use Rattle.dw_read.specs.Reading.{Reading, left}
use Rattle.dw_read_lines.specs.FileEntryIters.{BeginsDescribed, MissesEntries}
use Rattle.dw_read_lines.proofs.header.LineProgramHeader.include_directories.Goals as goal

pub returns-then-encoding-lt5-clause-ok : goal.returns-then-encoding-lt5-clause-ok
returns-then-encoding-lt5-clause-ok g c =
    rw (lt-leb 5 c.args.self.now.encoding.encoding.version (omega arith)) (record { layout = refl; input = ap left c.duplicate-input.ensures; uncounted = refl; not_ended = refl })

pub returns-clause-err : goal.returns-clause-err
returns-clause-err g c =
    let v = le-leb 5 c.args.self.now.encoding.encoding.version (omega arith) in
    IfErr-weaker c.begin_described.result _ _ (λ e h. rw v (subst (λ (r : Reading). MissesEntries true r.is_big (left r) e) c.duplicate-input.ensures h)) c.begin_described.ensures.err

pub returns-clause-ok : goal.returns-clause-ok
returns-clause-ok g c =
    let v = le-leb 5 c.args.self.now.encoding.encoding.version (omega arith) in
    IfOk-weaker c.begin_described.result _ _ (λ i h. rw v (subst (λ (r : Reading). BeginsDescribed g.R.Reader.reading r.is_big c.args.self.now.encoding.encoding (left r) i) c.duplicate-input.ensures h)) c.begin_described.ensures.ok

pub returns-then-encoding-lt5-clause-order : goal.returns-then-encoding-lt5-clause-order
returns-then-encoding-lt5-clause-order g c = ap (λ (r : Reading). r.is_big) c.duplicate-input.ensures

pub returns-clause-order : goal.returns-clause-order
returns-clause-order g c = IfOk-weaker c.begin_described.result _ _ (λ i h. h ∙ ap (λ (r : Reading). r.is_big) c.duplicate-input.ensures) c.begin_described.ensures.order
