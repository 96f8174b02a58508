mod WorkedExpressions
mod WorkedLists
