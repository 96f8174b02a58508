use Rattle.std.proofs.Common.{ap}
use Rattle.dw_expr.specs.Views.{node_of}
use Rattle.dw_expr.proofs.Copies.{owns_nothing-other}
use Rattle.dw_expr.proofs.op.copy.+copy.Goals as goal

pub copy_operation-returns-in_default : goal.copy_operation-returns-in_default
copy_operation-returns-in_default t c = ap node_of c.copy_values.ensures

pub copy_operation-copy_values-requires : goal.copy_operation-copy_values-requires
copy_operation-copy_values-requires t c =
    let other = c.in_default in owns_nothing-other c.args.operation.now other.not-Raw other.not-ConstantType other.not-ImplicitValue other.not-EntryValue
