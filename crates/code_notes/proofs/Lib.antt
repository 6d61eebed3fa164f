pub mod Sizes
pub mod BeforeLength
pub mod ScratchParts
