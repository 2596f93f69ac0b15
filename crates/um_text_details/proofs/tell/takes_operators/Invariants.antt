use Rattle.std.proofs.Common.{take}
use Rattle.std.specs.List.{All}
use Rattle.um_syntax.specs.declared.token.Kind.TheVariants as kind
use Rattle.um_text_details.specs.Expected.{CanStand}
use Rattle.um_text_details.proofs.tell.takes_operators.Given as goal

abbrev pub invariant-loop-operator : goal.invariant-loop-operator
invariant-loop-operator l = All (λ s. CanStand l.trial (kind.Sign s)) (take l.operator-index l.operator-items)
