pub mod ColumnLaws
pub mod FileRows
pub mod RowLaws
pub mod KeyLaws
