pub mod OrdinaryRun
pub mod PassingOver
pub mod FalsePositive
pub mod ClearTests
