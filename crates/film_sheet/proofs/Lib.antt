pub mod FilmLaws
pub mod FilmEdges
pub mod FirstBytes
