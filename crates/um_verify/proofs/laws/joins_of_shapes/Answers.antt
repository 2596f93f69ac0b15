use Rattle.um_verify.proofs.Joins.{join_is_least, no_join_no_bound}
use Rattle.um_verify.proofs.laws.joins_of_shapes.Goals as goal

pub returns-clause-least : goal.returns-clause-least
returns-clause-least c = join_is_least

pub returns-clause-none : goal.returns-clause-none
returns-clause-none c = no_join_no_bound
