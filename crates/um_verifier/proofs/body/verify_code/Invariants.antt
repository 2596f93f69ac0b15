use Rattle.um_verifier.specs.KnownImages.{known_view}
use Rattle.um_verifier.proofs.EachBody.{Before}
use Rattle.um_verifier.proofs.body.verify_code.Given as goal

abbrev pub invariant-loop-f : goal.invariant-loop-f
invariant-loop-f l = Before (known_view l.known l.code) l.f
