use Rattle.std.proofs.Common.{◌≡◌, ◌++◌, take, map}
use Rattle.um_sig.specs.Steps.{inverse_term}
use Rattle.um_sig.proofs.row.row_terms.Given as goal

abbrev pub invariant-loop-term : goal.invariant-loop-term
invariant-loop-term l = l.out.items ≡ l.own ++ map (inverse_term l.bases) (take l.term-index l.other)
