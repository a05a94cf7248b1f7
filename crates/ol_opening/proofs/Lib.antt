mod Anchors
mod Faults
mod Images
mod Joined
mod Journals
