use Rattle.std.proofs.Common.{◌≡◌, nat_lt, ap, ◌∙◌, arith}
use Rattle.um_forms.specs.ExprForms.{mark_ends}
use Rattle.um_forms.proofs.Standing.{ends_innermost, ends_none, no_mark}
use Rattle.um_forms.proofs.query.can_end_by_mark.Goals as goal

pub returns-then-left-gt0 : goal.returns-then-left-gt0
returns-then-left-gt0 c t =
    ends_innermost (mark_ends c.args.symbol) c.args.frames.now.entries.items c.frames_left-left.result c.frames_left-left.ensures.left t
    c.index.result.now c.ends_by_mark.result c.if-left-gt0.true c.frames_left-left.ensures.within c.index.ensures c.ends_by_mark.ensures

pub returns-else-left-gt0 : goal.returns-else-left-gt0
returns-else-left-gt0 c t =
    let none : c.frames_left-left.result ≡ 0 = omega (arith, c.if-left-gt0.false) in
    ap (nat_lt 0) none
    ∙ ends_none (mark_ends c.args.symbol) c.args.frames.now.entries.items c.frames_left-left.result c.frames_left-left.ensures.left t none (no_mark c.args.symbol)
