use Rattle.um_display.proofs.Words.{stated_by}
use Rattle.um_display.proofs.word.is_units.Goals as goal

pub returns : goal.returns
returns c = stated_by c.args.word.now c.in_ok-parts.parts c.is_some-stated.result c.is_some-stated.ensures c.in_ok-parts.ensures
