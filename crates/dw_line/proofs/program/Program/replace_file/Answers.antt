use Rattle.std.proofs.Common.{sym, subst}
use Rattle.dw_line.specs.FileEqual.{file_eq}
use Rattle.dw_line.specs.ProgramTexts.{IsFile}
use Rattle.dw_line.proofs.NameSteps.{All-replaced}
use Rattle.std.proofs.lemmas.Result.{err_from_is_err_and}
use Rattle.dw_line.proofs.program.Program.replace_file.Goals as goal

pub invariant_of-self-2 : goal.invariant_of-self-2
invariant_of-self-2 c =
    let is = c.self.invariant in
    let version = c.self.inside.encoding.version in
    let file : IsFile version c.args.file = subst (λ q. IsFile q.encoding.version c.args.file) (sym c.self.view_is) c.requires in
    record {
      encoding = is.encoding;
      rooted = is.rooted;
      names = is.names;
      listed = is.listed;
      told = rw c.in_ok-index.ensures.keys (All-replaced (IsFile version) file_eq c.self.inside.files.keys c.args.file is.told file);
      ordered = is.ordered;
      unended = is.unended;
    }

pub returns-in_err-index-clause-id : goal.returns-in_err-index-clause-id
returns-in_err-index-clause-id c = rw (err_from_is_err_and c.from_residual.result c.from_residual.ensures.1).1 tt

pub returns-in_err-index-clause-ok : goal.returns-in_err-index-clause-ok
returns-in_err-index-clause-ok c = rw (err_from_is_err_and c.from_residual.result c.from_residual.ensures.1).1 tt

pub returns-clause-err : goal.returns-clause-err
returns-clause-err c = tt

pub returns-clause-kept : goal.returns-clause-kept
returns-clause-kept c = tt
