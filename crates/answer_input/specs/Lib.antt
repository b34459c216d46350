pub mod OfTables
