-- Laws of the packet: its cases, its front written part by part, two of them compared, a write within a budget.
pub mod Cases
pub mod Fronts
mod Same
mod Budgeting
