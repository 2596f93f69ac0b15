use Rattle.std.proofs.Common.{sym, arith}
use Rattle.um_measures.proofs.NameLists.{number_of-below}
use Rattle.um_sizes.proofs.read.set_size.Goals as goal

pub set-requires-clause-base : goal.set-requires-clause-base
set-requires-clause-base c =
    let below = number_of-below c.as_bytes.result.now c.args.bases.now c.in-Some-number.base (sym c.in-Some-number.ensures) in
    omega (arith, below, c.requires.many)
