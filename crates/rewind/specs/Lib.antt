-- Demand 3: history, rules, runs, and the promise.
pub mod History
pub mod Rules
pub mod Run
pub mod Promise
