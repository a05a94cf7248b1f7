mod Answering
mod Fields
pub mod Gates
mod Grammar
mod Known
mod OneAnchor
pub mod PairLaws
mod Results
mod Targets
