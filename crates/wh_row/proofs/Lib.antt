pub mod Ring
pub mod WeighLaws
pub mod RowLaws
pub mod CountLaws
pub mod BagWeights
pub mod WrittenLaws
pub mod OneRow
pub mod BagLaws
mod Machine
mod MapLaws
mod NarrowLaws
mod AboveLaws
mod ShareLaws
mod PartLaws
mod AddLaws
mod RaiseLaws
mod OrderLaws
mod FlatLaws
mod RunningSums
mod AddedLaws
pub mod StartLaws
mod KeptLaws
pub mod KeyedLaws
mod KeptSums
mod BulkLaws
mod LaidLaws
mod Totals
