use Rattle.std.proofs.Common.{◌∙◌, sym, ap, subst, arith, suc, ◌+◌}
use Rattle.dw_tree.specs.UnitValue.{UnitValue, IsReserved}
use Rattle.dw_build.specs.Drafted.{with_variable}
use Rattle.dw_build.proofs.Drafts.{IsDraft, none_drafted, one_drafted, base_reserved}
use Rattle.dw_build.proofs.Refusals.{is_err}
use Rattle.dw_build.proofs.make.add_entries.Goals as goal

pub loop-index-init : goal.loop-index-init
loop-index-init c = record {
  draft = subst (IsDraft c.args.from 0) (sym (c.reserve-base_type.ensures.unit ∙ ap (λ (u : UnitValue). record u { reserved = u.reserved + 1 }) c.requires.bare)) (none_drafted c.args.from);
  base = c.reserve-base_type.ensures.id ∙ ap (λ u. u.reserved) c.requires.bare;
}

pub loop-index-preserved : goal.loop-index-preserved
loop-index-preserved c =
    let i = c.loop-index.index in
    let same = c.in_ok-add_variable.ensures.ok ∙ ap (λ b. with_variable b (c.args.from + i) c.loop-index.unit) c.loop-index.invariant.base in
    let more = subst (IsDraft c.args.from (suc i)) (sym same) (one_drafted c.args.from i c.loop-index.unit c.loop-index.invariant.draft) in
    record {
      draft = subst (λ k. IsDraft c.args.from k c.add_variable.new.unit) (omega arith) more;
      base = c.loop-index.invariant.base;
    }

pub add_base_type-requires-clause-reserved : goal.add_base_type-requires-clause-reserved
add_base_type-requires-clause-reserved c =
    subst (IsReserved c.loop-index.unit) (sym c.loop-index.invariant.base) (base_reserved c.args.from c.loop-index.index c.loop-index.unit c.loop-index.invariant.draft)

pub returns-in_err-add_variable-clause-ok : goal.returns-in_err-add_variable-clause-ok
returns-in_err-add_variable-clause-ok c = rw (is_err _ _ c.from_residual.ensures) tt

pub returns-in_err-add_variable-clause-err : goal.returns-in_err-add_variable-clause-err
returns-in_err-add_variable-clause-err c = rw (is_err _ _ c.from_residual.ensures) c.in_err-add_variable.ensures.err
