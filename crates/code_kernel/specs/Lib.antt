pub mod RunnerOf
