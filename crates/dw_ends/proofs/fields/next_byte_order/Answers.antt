use Rattle.std.proofs.Common.{◌≡◌, codes, refl, rules, arith}
use Rattle.std.proofs.lemmas.Slice.Eq.{text_from_reads}
use Rattle.dw_ends.proofs.fields.next_byte_order.Goals as goal

pub returns-in-little : goal.returns-in-little
returns-in-little c =
    let e : c.in_ok-next_field.field-0.now ≡ codes "little" = text_from_reads _ _ (omega arith) (search rules) in
    let next = c.in_ok-next_field.ensures in
    rw (next, e) refl
