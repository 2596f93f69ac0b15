use Rattle.um_cells.proofs.WellFormed.{hold_from_values}
use Rattle.um_words.proofs.stack.Stack.new.Goals as goal

pub invariant_of-result : goal.invariant_of-result
invariant_of-result c = record { held = hold_from_values _ _ _ c.in_ok-words.ensures }
