use Rattle.std.proofs.Common.{subst, Option, List}
use Rattle.std.proofs.lemmas.Result.{err_from_is_err_and}
use Rattle.dw_base.specs.Abbreviations.{Declaration}
use Rattle.dw_read.specs.Took.{Took}
use Rattle.dw_read.specs.Declarations.{declaration_read, table_read}
use Rattle.dw_read.proofs.Chain.{took, went, went_then, refused_of}
use Rattle.dw_read.proofs.Items.{collects_more}
use Rattle.dw_read.proofs.Declared.{one_is_declaration}
use Rattle.dw_read.proofs.Declared.{table_err, table_whole}
use Rattle.dw_read.proofs.abbreviations.read_table.Goals as goal

pub returns-in_err-abbreviation-clause-err : goal.returns-in_err-abbreviation-clause-err
returns-in_err-abbreviation-clause-err g c =
    let p = err_from_is_err_and c.from_residual.result c.from_residual.ensures.1 in
    rw (p.1, p.2) (refused_of (Option Declaration) (List Declaration) (declaration_read c.declarations.table) table_read (g.R.Reader.reading c.declarations.input) (g.R.Reader.reading c.args.input.now) _
    (table_err _ _ _ _ c.declarations.invariant.is) c.in_err-abbreviation.ensures.err)

pub returns-in_default-clause-ok : goal.returns-in_default-clause-ok
returns-in_default-clause-ok g c =
    let t = subst (λ (o : Option Declaration). Took (Option Declaration) (declaration_read c.declarations.table) (g.R.Reader.reading c.declarations.input) (g.R.Reader.reading c.read_declaration.new.input) o) c.in_default.is c.in_ok-abbreviation.ensures.ok in
    took (List Declaration) table_read _ _ _ (went_then _ _ _ c.declarations.invariant.went (went (Option Declaration) (declaration_read c.declarations.table) _ _ _ t))
    (table_whole _ _ _ _ c.declarations.invariant.is t.value)

pub declarations-smaller : goal.declarations-smaller
declarations-smaller g c =
    one_is_declaration.shorter c.declarations.table _ _ c.in_ok-abbreviation.ensures.ok.value

pub declarations-preserved : goal.declarations-preserved
declarations-preserved g c =
    let t = subst (λ (o : Option Declaration). Took (Option Declaration) (declaration_read c.declarations.table) (g.R.Reader.reading c.declarations.input) (g.R.Reader.reading c.read_declaration.new.input) o) c.in-Some.is c.in_ok-abbreviation.ensures.ok in
    record {
      went = went_then _ _ _ c.declarations.invariant.went (went (Option Declaration) (declaration_read c.declarations.table) _ _ _ t);
      is = collects_more Declaration declaration_read _ _ _ _ _ _ one_is_declaration c.declarations.invariant.is t.value c.in_ok-table.ensures.ok;
    }

pub returns-in_err-abbreviation-clause-ok : goal.returns-in_err-abbreviation-clause-ok
returns-in_err-abbreviation-clause-ok g c = rw (err_from_is_err_and c.from_residual.result c.from_residual.ensures.1).1 tt

pub returns-in_default-clause-err : goal.returns-in_default-clause-err
returns-in_default-clause-err g c = tt
