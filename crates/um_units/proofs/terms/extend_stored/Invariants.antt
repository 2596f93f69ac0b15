use Rattle.std.proofs.Common.{◌≡◌, ◌++◌, take}
use Rattle.um_units.specs.Storage.{stored_terms}
use Rattle.um_units.proofs.terms.extend_stored.Given as goal

abbrev pub invariant-loop-term : goal.invariant-loop-term
invariant-loop-term l = stored_terms l.storage ≡ stored_terms l.fn.storage ++ take l.term-index l.terms
