use Rattle.std.proofs.Common.{subst, take, inl, inr, ⊎_elim}
use Rattle.dw_writer.proofs.Outcomes.{IfErr-map}
use Rattle.dw_lists.proofs.Causes.{IfOk-map}
use Rattle.dw_dwarf.specs.SplitSections.{BeginsPuttingBack}
use Rattle.dw_dwarf.proofs.convert.convert_unit.ConvertUnit.convert_split.Goals as goal

pub returns-clause-ok : goal.returns-clause-ok
returns-clause-ok g c =
    IfOk-map c.put_back.result c.put_back.ensures.ok
    (λ s b. record {
      units = c.in_ok-units.units.items;
      are = c.in_ok-units.ensures.first;
      begins = subst (λ k. BeginsPuttingBack g.R.Reader.reading c.args.split_dwarf (take 1 c.in_ok-units.units.items) k c.args.self.now s) c.all.ensures b;
    })

pub returns-clause-err : goal.returns-clause-err
returns-clause-err g c =
    IfErr-map c.put_back.result c.put_back.ensures.err
    (λ e. ⊎_elim inl (λ why. inr (inr (record { units = c.in_ok-units.units.items; are = c.in_ok-units.ensures.first; why = why }))))
