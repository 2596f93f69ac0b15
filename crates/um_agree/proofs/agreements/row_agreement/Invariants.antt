use Rattle.std.proofs.Common.{◌≤◌, List}
use Rattle.um_rows.specs.NodeTypes.{typed_nodes}
use Rattle.um_agree.specs.Agreements.{Agreement}
use Rattle.um_agree.specs.Made.{AreAgreed}
use Rattle.um_agree.proofs.RowLaws.{IsPast}
use Rattle.um_agree.proofs.agreements.row_agreement.Given as goal

abbrev pub invariant-loop-m : goal.invariant-loop-m
invariant-loop-m l = record {
  low : l.start ≤ l.k;
  past : (agreed : List Agreement) (g : AreAgreed agreed (typed_nodes l.nodes) l.rows l.asked) → IsPast agreed (typed_nodes l.nodes) l.rows l.asked g l.k l.m l.start;
}
