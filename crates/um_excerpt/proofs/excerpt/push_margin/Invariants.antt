use Rattle.std.proofs.Common.{◌≡◌, ◌++◌, take, map}
use Rattle.um_excerpt.proofs.excerpt.push_margin.Given as goal

abbrev pub invariant-loop-digit : goal.invariant-loop-digit
invariant-loop-digit l = l.text.items ≡ l.initial.text.items ++ map (λ _. 32) (take l._digit-index l.digits)
