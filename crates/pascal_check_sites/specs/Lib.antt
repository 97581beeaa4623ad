pub mod TakenArguments
pub mod LabelHash
pub mod LabelLaws
