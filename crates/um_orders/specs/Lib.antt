-- What a reader must trust: what words ask for.
pub mod Orders
