use Rattle.std.proofs.Common.{◌≡◌, ◌++◌, take}
use Rattle.um_measures.specs.RunningPowers.{ArePowersOf}
use Rattle.um_measures.proofs.running.RunningProduct.times.Given as goal

abbrev pub invariant-loop-term : goal.invariant-loop-term
invariant-loop-term l = record {
  terms : l.terms.items ≡ l.initial.terms.items ++ take l.term-index l.factors;
  powers : ArePowersOf l.powers l.terms.items;
}
