pub mod BeganLaws
pub mod CutLaws
pub mod ExampleLaws
pub mod RunLaws
pub mod SavesetLaws
