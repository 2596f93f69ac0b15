use Rattle.um_tree.specs.ProgramTree.{program_tree}
use Rattle.um_code.proofs.AddedLines.{lines_first, lines_next, lines_last}
use Rattle.um_code.proofs.lines.push_ops.Goals as goal

pub loop-i-init : goal.loop-i-init
loop-i-init c = lines_first (program_tree c.args.program.now) c.args.start c.args.ops.now c.args.text.now.items

pub loop-i-preserved : goal.loop-i-preserved
loop-i-preserved c =
    lines_next (program_tree c.args.program.now) c.args.start c.args.ops.now c.loop-i.i c.index-ops-i.result c.args.text.now.items c.loop-i.text.items c.push_line.new.text.items c.loop-i-test.true c.index-ops-i.is c.loop-i.invariant c.in_ok-push_line.ensures

pub returns : goal.returns
returns c =
    lines_last (program_tree c.args.program.now) c.args.start c.args.ops.now c.loop-i.i c.args.text.now.items c.loop-i.text.items c.loop-i-test.false c.loop-i.invariant
