use Rattle.std.proofs.Common.{◌≡◌, ◌∙◌, sym, subst, Bool, Some, None}
use Rattle.dw_base.specs.Numbers.{number_at}
use Rattle.dw_read.specs.Reading.{left}
use Rattle.dw_read.proofs.Lefts.{passes_then, same_order}
use Rattle.dw_arange_table.proofs.ReadSteps.{no_address, no_length, two_zeros, one_range}
use Rattle.dw_arange_table.proofs.read.read_range.Goals as goal

pub returns-in_default-clause-found : goal.returns-in_default-clause-found
returns-in_default-clause-found g c = no_address _ _ _ c.in_default.ensures.err.none

pub returns-in_default-read_uint-clause-found : goal.returns-in_default-read_uint-clause-found
returns-in_default-read_uint-clause-found g c =
    let reading = g.R.Reader.reading in
    let order = same_order _ _ _ c.in-Ok.ensures.passes in
    let none = subst (λ (big : Bool). number_at big c.args.size (left (reading c.read_uint.new.self)) ≡ None) order c.in_default-read_uint.ensures.err.none in
    no_length _ _ _ _ _ c.in-Ok.ensures.ok.value none

pub returns-then-is_end-clause-found : goal.returns-then-is_end-clause-found
returns-then-is_end-clause-found g c =
    let reading = g.R.Reader.reading in
    let order = same_order _ _ _ c.in-Ok.ensures.passes in
    let second = subst (λ (big : Bool). number_at big c.args.size (left (reading c.read_uint.new.self)) ≡ Some (c.in-Ok-read_uint.length, left (reading c.read_uint-2.new.self))) order c.in-Ok-read_uint.ensures.ok.value in
    two_zeros _ _ _ _ _ _ _ c.in-Ok.ensures.ok.value second (sym c.is_end.ensures ∙ c.if-is_end.true)

pub returns-clause-found : goal.returns-clause-found
returns-clause-found g c =
    let reading = g.R.Reader.reading in
    let order = same_order _ _ _ c.in-Ok.ensures.passes in
    let second = subst (λ (big : Bool). number_at big c.args.size (left (reading c.read_uint.new.self)) ≡ Some (c.in-Ok-read_uint.length, left (reading c.read_uint-2.new.self))) order c.in-Ok-read_uint.ensures.ok.value in
    record {
      count = _;
      passes = passes_then _ _ _ _ _ c.in-Ok.ensures.passes c.in-Ok-read_uint.ensures.passes;
      value = one_range _ _ _ _ _ _ _ c.in-Ok.ensures.ok.value second (sym c.is_end.ensures ∙ c.if-is_end.false);
    }
