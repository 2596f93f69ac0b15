use Rattle.um_rescaled.proofs.RespelledBytes.{respelled_texts_have_tokens}
use Rattle.um_rescaled.proofs.RespelledPrograms.{respelled_programs_have_tokens}
use Rattle.um_rescaled.proofs.laws.respelled_numbers.Goals as goal

pub returns-clause-texts : goal.returns-clause-texts
returns-clause-texts c = respelled_texts_have_tokens

pub returns-clause-programs : goal.returns-clause-programs
returns-clause-programs c = respelled_programs_have_tokens
