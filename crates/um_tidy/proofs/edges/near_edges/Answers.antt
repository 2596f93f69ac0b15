use Rattle.std.proofs.Common.{refl}
use Rattle.um_tidy.proofs.Masks.{none_set, some_set}
use Rattle.um_tidy.proofs.NearEdges.{near_edge_is, near_edge_within}
use Rattle.um_tidy.proofs.edges.near_edges.Goals as goal

pub returns-clause-none : goal.returns-clause-none
returns-clause-none c = λ none. (near_edge_is c.args.gap.now c.args.at c.requires.some c.requires.within 16 _ refl (none_set _ none)).inner

pub returns-clause-within : goal.returns-clause-within
returns-clause-within c = λ some. near_edge_within c.args.gap.now c.args.at c.requires.some c.requires.within _ refl some

pub returns-clause-inner : goal.returns-clause-inner
returns-clause-inner c = λ some. (near_edge_is c.args.gap.now c.args.at c.requires.some c.requires.within _ _ refl (some_set _ some)).inner

pub returns-clause-ended : goal.returns-clause-ended
returns-clause-ended c = λ some. (near_edge_is c.args.gap.now c.args.at c.requires.some c.requires.within _ _ refl (some_set _ some)).ended (near_edge_within c.args.gap.now c.args.at c.requires.some c.requires.within _ refl some)
