mod EntryLaws
mod OpenLaws
