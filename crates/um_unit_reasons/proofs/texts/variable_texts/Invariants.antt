use Rattle.std.proofs.Common.{◌≡◌, map, take}
use Rattle.um_unit_reasons.proofs.texts.variable_texts.Given as goal

abbrev pub invariant-loop-one : goal.invariant-loop-one
invariant-loop-one l = l.texts.items ≡ map (λ n. n.text) (take l.one-index l.named)
