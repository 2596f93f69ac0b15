use Rattle.um_cells.proofs.Denoting.{one_value, one_value_each}
use Rattle.um_cells.proofs.laws.one_value.Goals as goal

pub returns-clause-word : goal.returns-clause-word
returns-clause-word c = λ s. one_value s.cells.items

pub returns-clause-words : goal.returns-clause-words
returns-clause-words c = λ s. one_value_each s.cells.items
