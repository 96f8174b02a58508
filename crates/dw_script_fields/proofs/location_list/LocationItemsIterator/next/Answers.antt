use Rattle.std.proofs.Common.{◌≡◌, ◌<◌, length, Ok, Err, Some, ap, rules, arith}
use Rattle.std.proofs.lemmas.Bool.Decides.{nat_tests}
use Rattle.dw_script_fields.specs.declared.location.ScriptLocation.{ScriptLocation}
use Rattle.dw_script_fields.specs.Items.{Items, items_of, items_up_to}
use Rattle.dw_ends.specs.Pieces.{pieces_left}
use Rattle.dw_script_fields.specs.Locations.{location_field, locations_left}
use Rattle.dw_script_fields.proofs.Items.{items-none, items-step, items-failed}
use Rattle.dw_script_fields.proofs.Locations.{location_field-takes}
use Rattle.dw_script_fields.proofs.Steps.{progress-first}
use Rattle.dw_script_fields.proofs.location_list.LocationItemsIterator.next.Goals as goal

pub returns-then-is_at_end-clause-steps : goal.returns-then-is_at_end-clause-steps
unfolding locations_left
returns-then-is_at_end-clause-steps c =
    let fields = pieces_left c.args.self.now.fields in
    let ended : length fields ≡ 0 = grind (arith, nat_tests, c.is_at_end.ensures, c.if-is_at_end.true) in
    let none = ap (λ (i : Items ScriptLocation). i.0) (items-none location_field fields ended) in
    (none, none)

pub returns-in-Ok-clause-steps : goal.returns-in-Ok-clause-steps
unfolding locations_left
returns-in-Ok-clause-steps c =
    let fields = pieces_left c.args.self.now.fields in
    let read : location_field fields ≡ Ok (c.in-Ok.location, pieces_left c.next_location.new.fields) = search rules in
    ap (λ (i : Items ScriptLocation). i.0) (items-step location_field location_field-takes fields _ _ read)

pub returns-in-Ok-clause-goes : goal.returns-in-Ok-clause-goes
returns-in-Ok-clause-goes c = progress-first locations_left c.args.self.now (Some c.in-Ok.location) (record { fields = c.next_location.new.fields }) tt (returns-in-Ok-clause-steps c)

pub returns-in-Err-clause-steps : goal.returns-in-Err-clause-steps
unfolding locations_left items_up_to
returns-in-Err-clause-steps c =
    let fields = pieces_left c.args.self.now.fields in
    let read : location_field fields ≡ Err c.in-Err.field-0 = search rules in
    let some : 0 < length fields = grind (arith, nat_tests, c.is_at_end.ensures, c.if-is_at_end.false) in
    let failed = ap (λ (i : Items ScriptLocation). i.0) (items-failed location_field fields _ some read) in
    let passed = ap (λ f. (items_of location_field f).0) c.pass_all.ensures in
    (failed, passed)
