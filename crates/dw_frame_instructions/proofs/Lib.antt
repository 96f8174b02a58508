pub mod FactorLaws
pub mod Steps
pub mod OperandSteps
pub mod InstructionSteps
pub mod AdvanceSteps
pub mod ProgramSteps
pub mod EqualSteps
