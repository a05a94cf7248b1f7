pub mod ArchivesPlayed
pub mod SessionsPlayed
pub mod RestoresPlayed
pub mod FurtherPlayed
pub mod FaultsPlayed
pub mod ArchivesTaped
