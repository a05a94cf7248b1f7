mod AgreeLaws
mod ChunkLaws
mod CountSteps
pub mod LastVolume
mod ImageLaws
mod KeptLaws
mod Pieces
mod ShelfLaws
mod StopLaws
