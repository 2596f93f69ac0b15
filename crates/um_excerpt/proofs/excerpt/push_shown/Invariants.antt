use Rattle.std.proofs.Common.{◌≡◌, ◌++◌, take, map}
use Rattle.std.specs.Str.{encode_utf8_all}
use Rattle.um_excerpt.specs.Excerpt.{shown}
use Rattle.um_excerpt.proofs.excerpt.push_shown.Given as goal

abbrev pub invariant-loop-c : goal.invariant-loop-c
invariant-loop-c l = l.text.items ≡ l.initial.text.items ++ encode_utf8_all (map shown (take l.c-index l.part))
