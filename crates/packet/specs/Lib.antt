pub mod Packet
pub mod Judged
pub mod RoundTrip
pub mod Reading
pub mod Budgets
pub mod BudgetLaws
