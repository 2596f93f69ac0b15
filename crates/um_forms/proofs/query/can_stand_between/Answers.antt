use Rattle.std.proofs.Common.{nat_lt, ap, ◌∙◌}
use Rattle.um_operands.specs.Ranks.{infix_rank, left_limit}
use Rattle.um_operands.specs.ExprBegun.{top_bound}
use Rattle.um_operands.specs.ExprStack.{frames_of}
use Rattle.um_operands.specs.Standing.{left}
use Rattle.um_forms.proofs.Standing.{infix_stands}
use Rattle.um_forms.proofs.query.can_stand_between.Goals as goal

pub returns : goal.returns
returns c at t =
    let frames = frames_of c.args.frames.now in
    ap (λ r. nat_lt r c.bound_left.result) c.rank.ensures
    ∙ ap (nat_lt (infix_rank c.args.sign)) (c.bound_left.ensures ∙ ap (λ n. top_bound (left n frames)) c.left_limit.ensures)
    ∙ infix_stands c.args.sign at (left_limit c.args.sign) frames t
