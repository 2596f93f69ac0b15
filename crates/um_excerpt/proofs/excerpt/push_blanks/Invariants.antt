use Rattle.std.proofs.Common.{◌≡◌, ◌++◌, take, map}
use Rattle.um_excerpt.specs.Excerpt.{blank}
use Rattle.um_excerpt.proofs.excerpt.push_blanks.Given as goal

abbrev pub invariant-loop-c : goal.invariant-loop-c
invariant-loop-c l = l.text.items ≡ l.initial.text.items ++ map blank (take l.c-index l.part)
