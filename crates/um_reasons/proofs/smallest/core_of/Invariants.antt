use Rattle.um_reasons.proofs.Growing.{IsGrowing}
use Rattle.um_reasons.proofs.smallest.core_of.Given as goal

abbrev pub invariant-loop : goal.invariant-loop
invariant-loop l = IsGrowing l.slots l.bases l.parameters l.rows l.counter l.list.items
