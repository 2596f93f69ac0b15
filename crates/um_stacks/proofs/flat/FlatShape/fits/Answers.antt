use Rattle.std.proofs.Common.{arith}
use Rattle.um_stacks.proofs.Fitting.{low_void, low_plain, high, level}
use Rattle.um_stacks.proofs.flat.FlatShape.fits.Goals as goal

pub returns-in-Void : goal.returns-in-Void
returns-in-Void c = low_void c.args.self c.args.other c.if-self-other.true c.in-Void.is

pub returns-in-Bool : goal.returns-in-Bool
returns-in-Bool c = low_plain c.args.self c.args.other _ c.if-self-other.true c.in-Bool.is tt

pub returns-in-Num : goal.returns-in-Num
returns-in-Num c = low_plain c.args.self c.args.other _ c.if-self-other.true c.in-Num.is tt

pub returns-in-Record : goal.returns-in-Record
returns-in-Record c = low_plain c.args.self c.args.other _ c.if-self-other.true c.in-Record.is tt

pub returns-then-other-self : goal.returns-then-other-self
returns-then-other-self c = high c.args.self c.args.other c.if-other-self.true

pub returns-else-other-self : goal.returns-else-other-self
returns-else-other-self c = level c.args.self c.args.other c.fits.result (omega (arith, c.if-self-other.false, c.if-other-self.false)) c.fits.ensures
