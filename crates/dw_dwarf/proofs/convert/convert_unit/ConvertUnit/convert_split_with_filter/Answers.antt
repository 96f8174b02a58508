use Rattle.std.proofs.Common.{subst, take, Some, inl, inr, ⊎_elim}
use Rattle.dw_writer.proofs.Outcomes.{IfErr-map}
use Rattle.dw_dwarf.proofs.Filtering.{units_are}
use Rattle.dw_dwarf.proofs.Setting.{is_err}
use Rattle.dw_lists.proofs.Causes.{IfOk-map}
use Rattle.dw_dwarf.specs.SplitSections.{BeginsPuttingBack}
use Rattle.dw_dwarf.proofs.convert.convert_unit.ConvertUnit.convert_split_with_filter.Goals as goal

pub returns-in_err-kept-clause-err : goal.returns-in_err-kept-clause-err
returns-in_err-kept-clause-err g c = rw (is_err _ _ c.from_residual-in_err-kept.ensures) (⊎_elim inl (λ why. inr (inl (inr why))) c.in_err-kept.ensures.err)

pub put_back-requires-clause-closed : goal.put_back-requires-clause-closed
put_back-requires-clause-closed g c = rw c.deref.ensures.value at c.in_ok-kept.ensures.closed

pub returns-clause-ok : goal.returns-clause-ok
returns-clause-ok g c =
    let reading = g.R.Reader.reading in
    let us = c.in_ok-units.units.items in
    let ok = rw c.deref.ensures.value at c.in_ok-kept.ensures.ok in
    IfOk-map c.put_back.result c.put_back.ensures.ok
    (λ s b. record {
      units = us;
      are = units_are reading c.args.filter c.dwarf-read.result c.counts.result.now us c.dwarf-read.ensures c.counts.ensures c.in_ok-units.ensures.first;
      kept = ok.places;
      keeps = ok.keeps;
      begins = subst (λ d. BeginsPuttingBack reading d (take 1 us) (Some ok.places) c.args.self.now s) c.dwarf-read.ensures
          (subst (λ k. BeginsPuttingBack reading c.dwarf-read.result (take 1 us) k c.args.self.now s) ok.is b);
    })

pub returns-clause-err : goal.returns-clause-err
returns-clause-err g c =
    let us = c.in_ok-units.units.items in
    IfErr-map c.put_back.result c.put_back.ensures.err
    (λ e. ⊎_elim inl (λ why. inr (inr (record {
      units = us;
      are = units_are g.R.Reader.reading c.args.filter c.dwarf-read.result c.counts.result.now us c.dwarf-read.ensures c.counts.ensures c.in_ok-units.ensures.first;
      why = why;
    }))))
