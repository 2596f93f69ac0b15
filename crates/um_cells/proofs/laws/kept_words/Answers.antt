use Rattle.um_cells.proofs.Denoting.{retained_each}
use Rattle.um_cells.proofs.WellFormed.{hold_kept}
use Rattle.um_cells.proofs.laws.kept_words.Goals as goal

pub returns-clause-words : goal.returns-clause-words
returns-clause-words c = λ s t k. retained_each s.cells.items t.cells.items k

pub returns-clause-holding : goal.returns-clause-holding
returns-clause-holding c = λ s t k ws. hold_kept s.cells.items t.cells.items ws s.formed k
