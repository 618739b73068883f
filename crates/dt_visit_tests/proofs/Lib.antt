pub mod RowLawful
