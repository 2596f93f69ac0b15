use Rattle.um_scale.specs.Spelling.{number_at}
use Rattle.um_scale.proofs.RescaledTexts.{IsWritten}
use Rattle.um_scale.proofs.text.respelled.Given as goal

abbrev pub invariant-loop-k : goal.invariant-loop-k
invariant-loop-k l = IsWritten l.respelling.bytes.now (number_at l.respelling.numbers.now) l.tokens l.k l.from l.text.items
