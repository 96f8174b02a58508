mod FewRows
mod WholeFile
mod LiveEntries
mod Pruning
mod Refusals
mod InputLines
mod Answered
mod Runs
