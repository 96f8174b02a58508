-- What the code's operands are.
use Rattle.std.specs.Prelude.{List, [], ◌∷◌}
use Rattle.dw_expr.specs.Operands.{Operand, Nothing, Byte, Bytes, Uleb, Sleb, Count, Target, Base, Place, Info, Distance, dense}
use Rattle.dw_expr.specs.declared.op.operands.Operand.{Operand as Given}
use Rattle.dw_expr.specs.declared.op.operands.Operand.TheVariants as given
use Rattle.dw_expr.specs.declared.op.operands.Operands.{Operands}

abbrev pub operand_in : Given → Operand
operand_in given.Nothing = Nothing
operand_in (given.Byte n) = Byte n
operand_in (given.Bytes bytes) = Bytes bytes.now
operand_in (given.Uleb n) = Uleb n
operand_in (given.Sleb z) = Sleb z
operand_in (given.Count n) = Count n
operand_in (given.Target a) = Target a
operand_in (given.Base i) = Base i
operand_in (given.Place i) = Place i
operand_in (given.Info r w) = Info w r
operand_in (given.Distance t) = Distance t

abbrev pub operands_in : Operands → List Operand
operands_in os = dense (operand_in os.code ∷ operand_in os.first ∷ operand_in os.second ∷ operand_in os.third ∷ [])
