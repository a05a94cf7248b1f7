mod Clearing
mod FirstAnchor
mod Formatting
mod Spaces
