pub mod Blocks
pub mod ItemLaws
pub mod MadeLaws
pub mod Payloads
pub mod ScanLaws
pub mod WrittenLaws
