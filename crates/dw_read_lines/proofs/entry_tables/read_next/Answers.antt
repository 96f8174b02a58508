use Rattle.std.proofs.Common.{arith, ◌-◌}
use Rattle.std.proofs.lemmas.Result.{err_from_is_err_and, IfOk-weaker, IfErr-weaker}
use Rattle.dw_read_lines.proofs.TakenLaws.{takes_directory, takes_file, misses_directory, misses_file, takes_end, takes_described, misses_described}
use Rattle.dw_read_lines.proofs.entry_tables.read_next.Goals as goal

pub returns-in-Directories-clause-err : goal.returns-in-Directories-clause-err
returns-in-Directories-clause-err g c =
    let old = g.R.Reader.reading c.args.input.now in
    IfErr-weaker c.read_old_directory.result _ _ (λ e h. misses_directory g.R.Reader.reading old old c.args.layout.now c.args.remaining e c.in-Directories.is h) c.read_old_directory.ensures.err

pub returns-in-Files-clause-err : goal.returns-in-Files-clause-err
returns-in-Files-clause-err g c =
    let old = g.R.Reader.reading c.args.input.now in
    IfErr-weaker c.read_old_file.result _ _ (λ e h. misses_file g.R.Reader.reading old old c.args.layout.now c.args.remaining e c.in-Files.is h) c.read_old_file.ensures.err

pub returns-then-remaining-eq0-clause-ok : goal.returns-then-remaining-eq0-clause-ok
returns-then-remaining-eq0-clause-ok g c =
    takes_end g.R.Reader.reading (g.R.Reader.reading c.args.input.now) (g.R.Reader.reading c.args.input.now) c.args.layout.now c.args.remaining _ c.in-Described.is (omega arith) (g.met.R.Reader.is_reading c.args.input.now)

pub returns-in_err-entry-in-Described-clause-err : goal.returns-in_err-entry-in-Described-clause-err
returns-in_err-entry-in-Described-clause-err g c =
    let p = err_from_is_err_and c.from_residual.result c.from_residual.ensures.1 in
    rw (p.1, p.2) (misses_described g.R.Reader.reading (g.R.Reader.reading c.args.input.now) (g.R.Reader.reading c.args.input.now) c.args.layout.now c.args.remaining _ c.in-Described.is (c.args.remaining - 1) _ (omega arith) c.in_err-entry-in-Described.ensures.err)

pub returns-in-Directories-clause-ok : goal.returns-in-Directories-clause-ok
returns-in-Directories-clause-ok g c = IfOk-weaker c.read_old_directory.result _ _ (λ o h. takes_directory g.R.Reader.reading _ _ c.args.layout.now c.args.remaining _ c.in-Directories.is h) c.read_old_directory.ensures.ok

pub returns-in-Files-clause-ok : goal.returns-in-Files-clause-ok
returns-in-Files-clause-ok g c = IfOk-weaker c.read_old_file.result _ _ (λ o h. takes_file g.R.Reader.reading _ _ c.args.layout.now c.args.remaining _ c.in-Files.is h) c.read_old_file.ensures.ok

pub returns-in_ok-entry-in-Described-clause-ok : goal.returns-in_ok-entry-in-Described-clause-ok
returns-in_ok-entry-in-Described-clause-ok g c = takes_described g.R.Reader.reading _ _ c.args.layout.now c.args.remaining _ c.in-Described.is (c.args.remaining - 1) _ (omega arith) c.in_ok-entry-in-Described.ensures.ok
