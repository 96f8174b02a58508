use Rattle.std.proofs.Common.{◌≤◌, subst}
use Rattle.dw_line.specs.LineStrings.{line_string_eq}
use Rattle.dw_line.specs.Names.{IsName, IsFull}
use Rattle.dw_line.proofs.NameSteps.{All-inserted, All-inserted_after, some_inserted}
use Rattle.std.proofs.lemmas.Result.{err_from_is_err_and}
use Rattle.dw_line.proofs.program.Program.add_directory.Goals as goal

pub invariant_of-self-2 : goal.invariant_of-self-2
invariant_of-self-2 c =
    let is = c.self.invariant in
    let ds = c.self.inside.directories.keys in
    let d = c.args.directory in
    let full = λ (old : c.self.inside.encoding.version ≤ 4). c.requires.full (subst (λ q. q.encoding.version ≤ 4) c.self.view_is old) in
    record {
      encoding = is.encoding;
      rooted = rw c.in_ok-index.ensures.keys (some_inserted line_string_eq ds d is.rooted);
      names = rw c.in_ok-index.ensures.keys (All-inserted IsName line_string_eq ds d is.names c.requires.name);
      listed = λ old. rw c.in_ok-index.ensures.keys (All-inserted_after IsFull line_string_eq ds d is.rooted (is.listed old) (full old));
      told = is.told;
      ordered = is.ordered;
      unended = is.unended;
    }

pub returns-in_err-index-clause-id : goal.returns-in_err-index-clause-id
returns-in_err-index-clause-id c = rw (err_from_is_err_and c.from_residual.result c.from_residual.ensures.1).1 tt

pub returns-in_err-index-clause-ok : goal.returns-in_err-index-clause-ok
returns-in_err-index-clause-ok c = rw (err_from_is_err_and c.from_residual.result c.from_residual.ensures.1).1 tt

pub returns-clause-err : goal.returns-clause-err
returns-clause-err c = tt

pub returns-clause-kept : goal.returns-clause-kept
returns-clause-kept c = tt
