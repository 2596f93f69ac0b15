use Rattle.um_cells.proofs.WellFormed.{value_of_word, holds_from_value, values_of_words, hold_from_values}
use Rattle.um_cells.proofs.laws.holding_words.Goals as goal

pub returns-clause-word : goal.returns-clause-word
returns-clause-word c = λ s w. (value_of_word s.cells.items s.formed w, λ p. holds_from_value s.cells.items w p.0 p.1)

pub returns-clause-words : goal.returns-clause-words
returns-clause-words c = λ s ws. (values_of_words s.cells.items s.formed ws, λ p. hold_from_values s.cells.items ws p.0 p.1)
