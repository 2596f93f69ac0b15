use Rattle.um_image.proofs.Fitting.{FunctionsUntil}
use Rattle.um_image.proofs.Added.{FunctionsLeft}
use Rattle.um_image.proofs.encoding.put_functions.Given as goal

abbrev pub invariant-loop-i : goal.invariant-loop-i
invariant-loop-i l = FunctionsLeft l.heads l.ops l.entries l.i l.initial.out.items l.out.items × FunctionsUntil l.heads l.ops l.entries l.i
