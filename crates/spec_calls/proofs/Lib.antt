pub mod KindRuns
