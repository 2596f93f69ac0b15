use Rattle.um_sig.proofs.TypingLaws.{answers_say_what_typings_are}
use Rattle.um_sig.proofs.laws.typings.Goals as goal

pub returns : goal.returns
returns c = answers_say_what_typings_are
