mod Sums
mod NumberSums
mod RuleSteps
mod SideSums
