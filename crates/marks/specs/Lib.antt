pub mod Marks
pub mod MarkLaws
pub mod MapPages
pub mod RootLaws
