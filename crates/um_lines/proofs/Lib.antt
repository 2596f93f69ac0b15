pub mod Lines
mod CutSources
mod Examples
