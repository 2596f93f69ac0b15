-- What a reader must trust: the texts of numbers, units, types and schemes, of values, and the layout of programs.
pub mod NumberText
pub mod UnitText
pub mod SchemeText
pub mod ValueText
pub mod Pieces
pub mod Layout
pub mod Unplaced
pub mod Laws
-- What mirrors the code: texts as its printing functions speak of them.
pub mod Lists
