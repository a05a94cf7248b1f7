mod EntryLaws
mod LoopSteps
mod PageSteps
mod RestoreLaws
