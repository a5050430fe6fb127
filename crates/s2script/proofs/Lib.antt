pub mod KnownWords
pub mod NameLemmas
pub mod NamedLemmas
pub mod SimilarLemmas
pub mod TextLemmas
