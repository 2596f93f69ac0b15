-- What a reader must trust, in reading order: what a host hands in and gets, with an open program and as by a command
-- line, and what its room for a program owns.
pub mod Embedded
pub mod CommandLine
pub mod Owned
-- What mirrors the code.
pub mod Kept
pub mod Calling
