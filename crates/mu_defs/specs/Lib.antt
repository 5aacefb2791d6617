pub mod Base
pub mod DefinitionTables
pub mod Indexes
pub mod Owned
pub mod Sight
pub mod Units
pub mod Uses
