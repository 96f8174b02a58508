-- The byte order that a value of the run-time type stands for.
use Rattle.std.specs.Prelude.{Bool, true, false}
use Rattle.dw_base.specs.declared.endianity.RunTimeEndian.{RunTimeEndian}
use Rattle.dw_base.specs.declared.endianity.RunTimeEndian.TheVariants.{Little, Big}

-- whether the highest byte stands first
abbrev pub is_big_of : RunTimeEndian → Bool
is_big_of Little = false
is_big_of Big = true
