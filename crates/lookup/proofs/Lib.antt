-- Laws of the lookup: of names and paths, of items, of the search's steps, and of the answer, which the rule settles.
pub mod PathLaws
pub mod ItemLaws
pub mod BehindLaws
pub mod SeekLaws
pub mod AnswerLaws
