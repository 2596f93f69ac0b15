use Rattle.std.proofs.Common.{◌≡◌, ◌++◌, take}
use Rattle.um_unit_reasons.proofs.texts.push_letters.Given as goal

abbrev pub invariant-loop-letter : goal.invariant-loop-letter
invariant-loop-letter l = l.texts.items ≡ l.initial.texts.items ++ take l.letter-index l.letters
