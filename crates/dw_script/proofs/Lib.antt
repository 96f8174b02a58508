mod Worked
mod WorkedLinePrograms
mod WorkedExpressions
mod WorkedLists
mod WorkedLinks
