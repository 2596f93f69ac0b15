use Rattle.um_expr.proofs.Standing.{whole_left}
use Rattle.um_expr.proofs.query.none_is_left.Goals as goal

pub returns : goal.returns
returns c = whole_left c.args.frames.now.entries.items c.frames_left.result c.frames_left.ensures.left c.frames_left.ensures.within
