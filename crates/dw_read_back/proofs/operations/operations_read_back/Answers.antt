use Rattle.dw_read_back.proofs.operations.operations_read_back.Goals as goal
use Rattle.dw_read_back.proofs.Law.{operations_read_back, expressions_read_back, nested_read_back, long_pieces_are_unread}

pub returns-clause-operations : goal.returns-clause-operations
returns-clause-operations c = operations_read_back

pub returns-clause-expressions : goal.returns-clause-expressions
returns-clause-expressions c = expressions_read_back

pub returns-clause-nested : goal.returns-clause-nested
returns-clause-nested c = nested_read_back

pub returns-clause-unread : goal.returns-clause-unread
returns-clause-unread c = long_pieces_are_unread
