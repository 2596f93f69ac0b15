use Rattle.um_display.specs.UnitWords.{one_space_each}
use Rattle.um_display.proofs.Spaces.{spaces_more, spaces_all}
use Rattle.um_display.proofs.plain.one_space_each.Goals as goal

pub loop-i-preserved : goal.loop-i-preserved
loop-i-preserved c =
    spaces_more c.args.bytes.now c.loop-i.i (one_space_each c.args.bytes.now) c.loop-i.text.items c.push_unless_doubled.new.text.items
    c.loop-i-test.true c.loop-i.invariant c.in_ok-push_unless_doubled.ensures

pub returns : goal.returns
returns c = spaces_all c.args.bytes.now c.loop-i.i c.loop-i.text.items c.loop-i-test.false c.loop-i.invariant
