mod AtRecords
mod RowByRow
pub mod Reasons
