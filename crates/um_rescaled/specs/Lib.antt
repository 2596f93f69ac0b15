-- What a reader must trust, in reading order: a text with other numbers has its tokens; with those of the rescaled
-- program they are that program; programs that are the same but for places; and their schemes.
pub mod RespelledTokens
pub mod TextLaws
pub mod Replaced
pub mod NumberLaws
pub mod UnplacedPrograms
pub mod PlaceLaws
pub mod UnplacedInferences
pub mod SchemeLaws
-- What mirrors the proof.
pub mod Respelling
