-- Laws of a dump's text, for this crate alone: the dump judged, the text laid out.
mod Judging
mod Laying
