use Rattle.std.proofs.Common.{◌∙◌}
use Rattle.um_sizes.proofs.BaseNumbers.{one_added}
use Rattle.um_sizes.proofs.read.add_names.Goals as goal

pub loop-name-preserved : goal.loop-name-preserved
loop-name-preserved c =
    one_added c.args.names.now c.loop-name.name-index c.as_slice.result.now _ c.loop-name.table c.add.new.self
    c.requires.once c.loop-name-test.true (c.as_slice.ensures ∙ c.name-item.is) c.loop-name.invariant c.in_ok-add.ensures
