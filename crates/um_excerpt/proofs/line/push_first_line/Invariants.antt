use Rattle.std.proofs.Common.{◌≡◌, ◌++◌, length, drop}
use Rattle.std.specs.Str.{chars}
use Rattle.um_excerpt.specs.SourceLine.{first_line}
use Rattle.um_excerpt.proofs.line.push_first_line.Given as goal

abbrev pub invariant-loop-c : goal.invariant-loop-c
invariant-loop-c l =
    l.line.items ++ first_line (drop (length l.yielded) (chars l.text)) ≡ l.initial.line.items ++ first_line (chars l.text)
