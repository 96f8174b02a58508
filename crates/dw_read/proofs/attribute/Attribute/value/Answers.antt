use Rattle.std.proofs.Common.{◌∙◌, refl}
use Rattle.dw_read.specs.Values.{typed_value}
use Rattle.dw_read.specs.declared.value.AttributeValue.TheVariants.{Data1, Data2, Data4, Data8, Udata, Sdata}
use Rattle.dw_read.proofs.OrderLaws.{none_of, place_plain, typed_plain, or_plain, named_plain}
use Rattle.dw_read.proofs.attribute.Attribute.value.Goals as goal

pub returns-in-SecOffset-clause-order : goal.returns-in-SecOffset-clause-order
returns-in-SecOffset-clause-order g c =
    none_of g.R.Reader.reading _ _ c.place_value.ensures (place_plain c.args.self.now.name.0 c.in-SecOffset.place) ∙ c.in-SecOffset.ensures.order

pub returns-in-Data1-clause-order : goal.returns-in-Data1-clause-order
returns-in-Data1-clause-order g c =
    none_of g.R.Reader.reading _ _ c.typed_or.ensures (or_plain (Data1 c.in-Data1.n) (typed_value c.args.self.now.name.0 c.in-Data1.n) refl (typed_plain c.args.self.now.name.0 c.in-Data1.n))
    ∙ c.in-Data1.ensures.order

pub returns-in-Data2-clause-order : goal.returns-in-Data2-clause-order
returns-in-Data2-clause-order g c =
    none_of g.R.Reader.reading _ _ c.typed_or-in-Data2.ensures (or_plain (Data2 c.in-Data2.n) (typed_value c.args.self.now.name.0 c.in-Data2.n) refl (typed_plain c.args.self.now.name.0 c.in-Data2.n))
    ∙ c.in-Data2.ensures.order

pub returns-in-Data4-clause-order : goal.returns-in-Data4-clause-order
returns-in-Data4-clause-order g c =
    none_of g.R.Reader.reading _ _ c.typed_or-in-Data4.ensures (or_plain (Data4 c.in-Data4.n) (typed_value c.args.self.now.name.0 c.in-Data4.n) refl (typed_plain c.args.self.now.name.0 c.in-Data4.n))
    ∙ c.in-Data4.ensures.order

pub returns-in-Data8-clause-order : goal.returns-in-Data8-clause-order
returns-in-Data8-clause-order g c =
    none_of g.R.Reader.reading _ _ c.typed_or-in-Data8.ensures (or_plain (Data8 c.in-Data8.n) (typed_value c.args.self.now.name.0 c.in-Data8.n) refl (typed_plain c.args.self.now.name.0 c.in-Data8.n))
    ∙ c.in-Data8.ensures.order

pub returns-in-Udata-clause-order : goal.returns-in-Udata-clause-order
returns-in-Udata-clause-order g c =
    none_of g.R.Reader.reading _ _ c.typed_or-in-Udata.ensures (or_plain (Udata c.in-Udata.n) (typed_value c.args.self.now.name.0 c.in-Udata.n) refl (typed_plain c.args.self.now.name.0 c.in-Udata.n))
    ∙ c.in-Udata.ensures.order

pub returns-in-Sdata-clause-order : goal.returns-in-Sdata-clause-order
returns-in-Sdata-clause-order g c =
    none_of g.R.Reader.reading _ _ c.named_signed.ensures (named_plain _ (Sdata _) refl) ∙ c.in-Sdata.ensures.order
