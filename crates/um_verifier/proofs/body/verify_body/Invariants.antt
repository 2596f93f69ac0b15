use Rattle.std.proofs.Common.{length}
use Rattle.um_verifier.specs.KnownImages.{known_body, known_view}
use Rattle.um_verifier.specs.Tables.{AreMetBelow}
use Rattle.um_verifier.proofs.Loop.{TableIs}
use Rattle.um_verifier.proofs.body.verify_body.Given as goal

abbrev pub invariant-loop-n : goal.invariant-loop-n
invariant-loop-n l =
    TableIs (known_view l.view.known.now l.view.code.now) (known_body l.entry l.head) l.stacks l.table.items l.n × AreMetBelow (length l.stacks) l.table.items
