-- Which shapes are equal, and what a hasher is fed of one.
use Rattle.std.specs.Prelude.{Bool, ◌&&◌, ◌==◌, ◌++◌}
use Rattle.std.specs.Bool.{beq}
use Rattle.std.specs.Ordering.{int_eq}
use Rattle.std.specs.Option.{option_eq}
use Rattle.std.specs.Cmp.Lexicographic.{pointwise}
use Rattle.std.specs.Hash as fed
use Rattle.dw_base.specs.Abbreviations.{Specification, Shape}

-- the same name, form and constant
abbrev pub specification_eq : Specification → Specification → Bool
specification_eq a b = a.name == b.name && a.form == b.form && option_eq int_eq a.constant b.constant

-- the same tag, the same answer on children and the same attributes in the same order
abbrev pub shape_eq : Shape → Shape → Bool
shape_eq a b = a.tag == b.tag && beq a.has_children b.has_children && pointwise specification_eq a.attributes b.attributes

-- a hasher is fed each part in turn
abbrev pub specification_fed : Specification → fed.HashWrites
specification_fed s = fed.u16 s.name ++ fed.u16 s.form ++ fed.option fed.i64 s.constant

abbrev pub shape_fed : Shape → fed.HashWrites
shape_fed s = fed.u16 s.tag ++ fed.bool s.has_children ++ fed.slice specification_fed s.attributes
