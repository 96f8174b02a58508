use Rattle.std.proofs.Common.{ℕ, ◌-◌, refl, arith}
use Rattle.std.proofs.lemmas.Bool.{lt-ltb, le-ltb}
use Rattle.std.proofs.lemmas.Result.{err_from_is_err_and}
use Rattle.dw_base.specs.Leb128.{uleb_at}
use Rattle.dw_read.specs.Reasons.{uleb_read}
use Rattle.dw_read.proofs.Laws.{uleb_law}
use Rattle.dw_read.proofs.Chain.{took_of}
use Rattle.dw_read_frames.specs.Instructions.{Offset, AdvanceLoc, Restore, coded_row}
use Rattle.dw_read_frames.proofs.TableLaws.{no_row, none_ok, one_ok, one_err}
use Rattle.dw_read_frames.proofs.locations.read_coded.Goals as goal

pub returns-then-code-lt64-clause-ok : goal.returns-then-code-lt64-clause-ok
unfolding coded_row
returns-then-code-lt64-clause-ok g c = no_row (coded_row c.args.code) _ (g.met.R.Reader.is_reading c.args.input.now) (rw (lt-ltb c.args.code 64 (omega arith)) refl)

pub returns-then-code-lt128-clause-ok : goal.returns-then-code-lt128-clause-ok
unfolding coded_row
returns-then-code-lt128-clause-ok g c = none_ok (coded_row c.args.code) (AdvanceLoc _) _ (g.met.R.Reader.is_reading c.args.input.now) (rw (le-ltb c.args.code 64 (omega arith), lt-ltb c.args.code 128 (omega arith)) refl)

pub returns-in_err-factored_offset-clause-err : goal.returns-in_err-factored_offset-clause-err
unfolding coded_row
returns-in_err-factored_offset-clause-err g c =
    let p = err_from_is_err_and c.from_residual.result c.from_residual.ensures.1 in
    rw (p.1, p.2) (one_err (coded_row c.args.code) ℕ uleb_read (Offset (c.args.code - 128)) (rw (le-ltb c.args.code 64 (omega arith), le-ltb c.args.code 128 (omega arith), lt-ltb c.args.code 192 (omega arith)) refl) _ _ c.in_err-factored_offset.ensures.err.reason)

pub returns-then-code-lt192-clause-ok : goal.returns-then-code-lt192-clause-ok
unfolding coded_row
returns-then-code-lt192-clause-ok g c = one_ok (coded_row c.args.code) ℕ uleb_read (Offset (c.args.code - 128)) (rw (le-ltb c.args.code 64 (omega arith), le-ltb c.args.code 128 (omega arith), lt-ltb c.args.code 192 (omega arith)) refl) _ _ _ (took_of ℕ uleb_at uleb_read _ _ _ uleb_law c.in_ok-factored_offset.ensures.ok)

pub returns-clause-ok : goal.returns-clause-ok
unfolding coded_row
returns-clause-ok g c = none_ok (coded_row c.args.code) (Restore _) _ (g.met.R.Reader.is_reading c.args.input.now) (rw (le-ltb c.args.code 64 (omega arith), le-ltb c.args.code 128 (omega arith), le-ltb c.args.code 192 (omega arith)) refl)
