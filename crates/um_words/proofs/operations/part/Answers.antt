use Rattle.um_words.proofs.Settled.{part_some, part_none}
use Rattle.um_words.proofs.operations.part.Goals as goal

pub returns-in-Some : goal.returns-in-Some
returns-in-Some c = λ v h. part_some c.args.store.now c.args.k v c.in-Some.part (c.in-Some.ensures v h)

pub returns-in-None : goal.returns-in-None
returns-in-None c = λ v h. part_none c.args.store.now c.args.k v (c.in-None.ensures v h)
