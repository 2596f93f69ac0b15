-- To be trusted, in reading order: what is skipped, numbers, the texts of tokens, the tokens of a text, what holds of
-- them, lines and columns.
pub mod Gap
pub mod Numeral
pub mod Lexeme
pub mod Lexing
pub mod Laws
pub mod LineColumn
-- What is left of a token whose letters a reader has taken.
pub mod Emptied
-- What mirrors the code: the machine over characters, the scanner, characters of bytes, and the lexer that is fed. The
-- definitions above don't rest on these. Of `Feeding`, what a lexer answers (`IsTextAnswer`, `CountsTokens`) rests on
-- the definitions above alone; what a lexer stands for (`Stands`) rests on the scanner's states.
pub mod Machine
pub mod Scanning
pub mod Decoding
pub mod Feeding
-- Blocks of tokens, and tokens that follow one another, mirror the code too.
pub mod Blocks
pub mod Order
