mod CutLaws
mod EntryLaws
mod EntrySteps
pub mod HoldLaws
mod WriteLaws
pub mod ApartLaws
pub mod ChangeLaws
mod CheckpointSteps
mod LoadLaws
mod LoopSteps
mod RowSteps
mod StoreLaws
