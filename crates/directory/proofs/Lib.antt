-- Laws of a directory's bytes, a file for each part: names, entries, extensions, control fields.
pub mod NameLaws
pub mod EntryLaws
pub mod ExtensionLaws
pub mod ControlLaws
