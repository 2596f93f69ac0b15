use Rattle.um_verify.specs.ImageTree.{image_tree}
use Rattle.um_verify.specs.Heads.{FunctionHolds}
use Rattle.um_verifier.specs.KnownHeads.{TakesHeads}
use Rattle.um_verifier.proofs.Firsts.{HoldBefore}
use Rattle.um_verifier.proofs.heads.add_each_head.Given as goal

abbrev pub invariant-loop-k : goal.invariant-loop-k
invariant-loop-k l = record {
  takes : TakesHeads (image_tree l.image) l.k l.known l.names;
  hold : HoldBefore (FunctionHolds (image_tree l.image)) (image_tree l.image).heads l.k;
}
