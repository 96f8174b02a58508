use Rattle.std.proofs.Common.{◌≡◌, ◌∙◌, ◌<◌, length, Ok, Err, ap, sym, rules, arith}
use Rattle.std.proofs.lemmas.Bool.Decides.{nat_tests}
use Rattle.dw_script_fields.specs.declared.range.ScriptRange.{ScriptRange}
use Rattle.dw_script_fields.specs.Items.{Items, items_of}
use Rattle.dw_ends.specs.Pieces.{pieces_left}
use Rattle.dw_script_fields.specs.Ranges.{range_field}
use Rattle.dw_script_fields.proofs.Items.{items-none, items-step, items-failed}
use Rattle.dw_script_fields.proofs.Ranges.{range_field-takes}
use Rattle.dw_script_fields.proofs.range_list.pass_ranges.Goals as goal

pub loop-fields-smaller : goal.loop-fields-smaller
loop-fields-smaller c =
    let fields = pieces_left c.loop-fields.fields in
    let read : range_field fields ≡ Ok (c.in_ok-next_range.field-0, pieces_left c.next_range.new.fields) = search rules in
    range_field-takes fields _ read

pub loop-fields-preserved : goal.loop-fields-preserved
loop-fields-preserved c =
    let fields = pieces_left c.loop-fields.fields in
    let read : range_field fields ≡ Ok (c.in_ok-next_range.field-0, pieces_left c.next_range.new.fields) = search rules in
    let step = items-step range_field range_field-takes fields _ _ read in
    sym (ap (λ (i : Items ScriptRange). i.1) step) ∙ c.loop-fields.invariant

pub returns-in_err-next_range : goal.returns-in_err-next_range
returns-in_err-next_range c =
    let fields = pieces_left c.loop-fields.fields in
    let read : range_field fields ≡ Err c.in_err-next_range.field-0.0 = search rules in
    let some : 0 < length fields = grind (arith, nat_tests, c.is_at_end.ensures, c.loop-fields-test.true) in
    let failed = items-failed range_field fields _ some read in
    let ended : (items_of range_field (pieces_left c.args.fields)).1 ≡ Err c.in_err-next_range.field-0.0 =
    sym c.loop-fields.invariant ∙ ap (λ (i : Items ScriptRange). i.1) failed in
    search (rules, ended)

pub returns : goal.returns
returns c =
    let fields = pieces_left c.loop-fields.fields in
    let none : length fields ≡ 0 = grind (arith, nat_tests, c.is_at_end.ensures, c.loop-fields-test.false) in
    sym (ap (λ (i : Items ScriptRange). i.1) (items-none range_field fields none)) ∙ c.loop-fields.invariant
