use Rattle.std.proofs.Common.{◌≡◌, ◌++◌, map, take}
use Rattle.um_tree.specs.ProgramTree.{program_tree}
use Rattle.um_rows.specs.NodeTypes.{typed_node}
use Rattle.um_reports.specs.Cursors.{AreAt}
use Rattle.um_answers.specs.AnnotAnswer.{node_lines}
use Rattle.um_answers.proofs.annot.add_nodes.Given as goal

abbrev pub invariant-loop-node : goal.invariant-loop-node
invariant-loop-node l =
    AreAt l.source.bytes.now l.heads
    × (l.text.items ≡ l.fn.text.items ++ node_lines l.source.bytes.now (program_tree l.program) (map typed_node (take l.node-index l.nodes)))
