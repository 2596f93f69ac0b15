use Rattle.std.proofs.Common.{◌+◌, length}
use Rattle.um_unit_reasons.proofs.LoopSteps.{LettersLeft}
use Rattle.um_unit_reasons.proofs.letters.letters.Given as goal

abbrev pub invariant-loop-k : goal.invariant-loop-k
invariant-loop-k l = LettersLeft l.names (l.count + length l.names) l.k l.texts.items
