-- The text of a program with other numbers before its units has tokens.
use Rattle.um_rescaled.specs.TextLaws.{RespelledProgramsHaveTokens}
use Rattle.um_rescaled.proofs.RespelledBytes.{respelled_texts_have_tokens}
use Rattle.um_rescaled.proofs.Powers.{program_no_powers}

pub respelled_programs_have_tokens : RespelledProgramsHaveTokens
respelled_programs_have_tokens bytes numbers tokens ds lexed is unsigned =
    let r = respelled_texts_have_tokens bytes numbers tokens lexed.0 lexed.1 unsigned (program_no_powers numbers tokens ds is) in
    (r.1.0, (r.0, r.1.1), r.1.2)
