pub mod PageSlots
pub mod StartLaws
pub mod SoundPages
pub mod PageMoves
pub mod SoundBehind
