pub mod Lends
pub mod UnitIds
pub mod Filled
pub mod Alone
pub mod TableLends
pub mod WrittenUnits
