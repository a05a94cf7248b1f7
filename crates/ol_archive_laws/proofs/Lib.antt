pub mod ArchivedLaws
pub mod BegunLaws
pub mod ExampleLaws
pub mod FitsLaws
pub mod OrderLaws
pub mod PlayedLaws
