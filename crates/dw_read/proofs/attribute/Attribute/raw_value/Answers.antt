use Rattle.std.proofs.Common.{◌∙◌, sym, ap, refl, rules, true, false, Some}
use mir.Val.{SFits}
use mir.Syntax.{w64}
use Rattle.std.proofs.lemmas.Int.{to_z-of_z}
use Rattle.dw_base.specs.Forms.{Absent, Number, Signed, Bytes, Text}
use Rattle.dw_read.specs.Reading.{Reading, left}
use Rattle.dw_read.specs.Operands.{operand_of}
use Rattle.dw_read.specs.Attributes.{attribute_of}
use Rattle.dw_read.specs.Values.{is_old_place, block_value}
use Rattle.dw_read.specs.declared.value.AttributeValue.TheVariants.{String}
use Rattle.dw_read.proofs.ValueLaws.{raw_is, raw_absent, raw_signed, raw_bytes, raw_text}
use Rattle.dw_read.specs.Values.{absent_value, number_value}
use Rattle.dw_read.specs.Orders.{operand_order}
use Rattle.dw_read.proofs.OrderLaws.{none_of, absent_plain, number_plain}
use Rattle.dw_read.proofs.attribute.Attribute.raw_value.Goals as goal

pub returns-in-Absent-clause-is : goal.returns-in-Absent-clause-is
returns-in-Absent-clause-is g c = c.absent_value.ensures ∙ raw_is c.args.self.now.encoding (attribute_of g.R.Reader.reading c.args.self.now) (is_old_place c.args.self.now.encoding c.args.self.now.name.0 c.args.self.now.form.0) Absent _ refl (ap (operand_of g.R.Reader.reading) c.in-Absent.is) (raw_absent c.args.self.now.form.0 c.args.self.now.constant (is_old_place c.args.self.now.encoding c.args.self.now.name.0 c.args.self.now.form.0))

pub returns-then-is_old_place-clause-is : goal.returns-then-is_old_place-clause-is
returns-then-is_old_place-clause-is g c = rw c.low_word.ensures (raw_is c.args.self.now.encoding (attribute_of g.R.Reader.reading c.args.self.now) true (Number c.in-Number.number) _ (sym c.is_old_place.ensures ∙ c.if-is_old_place.true) (ap (operand_of g.R.Reader.reading) c.in-Number.is) refl)

pub returns-else-is_old_place-clause-is : goal.returns-else-is_old_place-clause-is
returns-else-is_old_place-clause-is g c = c.number_value.ensures ∙ raw_is c.args.self.now.encoding (attribute_of g.R.Reader.reading c.args.self.now) false (Number c.in-Number.number) _ (sym c.is_old_place.ensures ∙ c.if-is_old_place.false) (ap (operand_of g.R.Reader.reading) c.in-Number.is) refl

pub returns-in-Signed-clause-is : goal.returns-in-Signed-clause-is
returns-in-Signed-clause-is g c =
    let fits : SFits w64 c.in-Signed.number = search rules in
    rw (to_z-of_z w64 c.in-Signed.number fits) (raw_is c.args.self.now.encoding (attribute_of g.R.Reader.reading c.args.self.now) (is_old_place c.args.self.now.encoding c.args.self.now.name.0 c.args.self.now.form.0) (Signed c.in-Signed.number) _ refl (ap (operand_of g.R.Reader.reading) c.in-Signed.is) (raw_signed c.args.self.now.form.0 c.args.self.now.constant (is_old_place c.args.self.now.encoding c.args.self.now.name.0 c.args.self.now.form.0) _))

pub returns-in-Bytes-clause-is : goal.returns-in-Bytes-clause-is
returns-in-Bytes-clause-is g c =
    c.block_value.ensures.is ∙ ap (λ (r : Reading). block_value c.args.self.now.form.0 (left r)) c.duplicate.ensures
    ∙ raw_is c.args.self.now.encoding (attribute_of g.R.Reader.reading c.args.self.now) (is_old_place c.args.self.now.encoding c.args.self.now.name.0 c.args.self.now.form.0) (Bytes (left (g.R.Reader.reading c.in-Bytes.bytes))) _ refl (ap (operand_of g.R.Reader.reading) c.in-Bytes.is) (raw_bytes c.args.self.now.form.0 c.args.self.now.constant (is_old_place c.args.self.now.encoding c.args.self.now.name.0 c.args.self.now.form.0) _)

pub returns-in-Text-clause-is : goal.returns-in-Text-clause-is
returns-in-Text-clause-is g c =
    ap (λ (r : Reading). String (left r)) c.duplicate-in-Text.ensures
    ∙ raw_is c.args.self.now.encoding (attribute_of g.R.Reader.reading c.args.self.now) (is_old_place c.args.self.now.encoding c.args.self.now.name.0 c.args.self.now.form.0) (Text (left (g.R.Reader.reading c.in-Text.text))) _ refl (ap (operand_of g.R.Reader.reading) c.in-Text.is) (raw_text c.args.self.now.form.0 c.args.self.now.constant (is_old_place c.args.self.now.encoding c.args.self.now.name.0 c.args.self.now.form.0) _)

pub returns-in-Absent-clause-order : goal.returns-in-Absent-clause-order
returns-in-Absent-clause-order g c =
    none_of g.R.Reader.reading _ (absent_value c.args.self.now.constant) c.absent_value.ensures (absent_plain c.args.self.now.constant)
    ∙ sym (ap (operand_order g.R.Reader.reading) c.in-Absent.is)

pub returns-else-is_old_place-clause-order : goal.returns-else-is_old_place-clause-order
returns-else-is_old_place-clause-order g c =
    none_of g.R.Reader.reading _ (number_value c.args.self.now.form.0 c.in-Number.number) c.number_value.ensures (number_plain c.args.self.now.form.0 c.in-Number.number)
    ∙ sym (ap (operand_order g.R.Reader.reading) c.in-Number.is)

pub returns-in-Bytes-clause-order : goal.returns-in-Bytes-clause-order
returns-in-Bytes-clause-order g c =
    c.block_value.ensures.order ∙ ap (λ (r : Reading). Some r.is_big) c.duplicate.ensures ∙ sym (ap (operand_order g.R.Reader.reading) c.in-Bytes.is)
