use Rattle.std.proofs.Common.{◌≡◌, length, drop, false}
use Rattle.std.specs.Str.{chars}
use Rattle.um_verifier.specs.Names.{reads}
use Rattle.um_verifier.proofs.names.is_identifier.Given as goal

abbrev pub invariant-loop-c : goal.invariant-loop-c
invariant-loop-c l = reads l.some (drop (length l.yielded) (chars l.text)) ≡ reads false (chars l.text)
