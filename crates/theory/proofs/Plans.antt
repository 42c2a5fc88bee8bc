-- Plans: one step, walks of steps, abstract plans, resolved plans and move lists.
pub mod Step
pub mod Walk
pub mod Crossing
pub mod Endings
pub mod Resolve
