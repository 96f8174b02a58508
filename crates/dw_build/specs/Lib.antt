pub mod ScriptValue
pub mod Script
pub mod SetsValue
pub mod Sets
pub mod Generated
pub mod Drafted
