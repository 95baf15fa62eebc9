-- Laws of the owner table, for this crate alone: a record written, the table searched page by page.
mod Claiming
mod Finding
