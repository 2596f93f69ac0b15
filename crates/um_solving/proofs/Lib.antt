mod SolvingSteps
mod SolvedTypes
