use Rattle.std.proofs.Common.{nat_lt, ap, ◌∙◌}
use Rattle.um_operands.specs.ExprStack.{frames_of}
use Rattle.um_forms.proofs.Standing.{greater_stands}
use Rattle.um_forms.proofs.query.can_be_greater.Goals as goal

pub returns : goal.returns
returns c at t = ap (nat_lt 6) c.bound_left.ensures ∙ greater_stands at 5 (frames_of c.args.frames.now) t
