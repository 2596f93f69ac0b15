use Rattle.std.proofs.Common.{◌≡◌, nat_lt, ap, ◌∙◌, arith}
use Rattle.um_forms.specs.ExprForms.{word_ends}
use Rattle.um_forms.proofs.Standing.{ends_innermost, ends_none, no_word}
use Rattle.um_forms.proofs.query.can_end_by_word.Goals as goal

pub returns-then-left-gt0 : goal.returns-then-left-gt0
returns-then-left-gt0 c t =
    ends_innermost (word_ends c.args.keyword) c.args.frames.now.entries.items c.frames_left-left.result c.frames_left-left.ensures.left t
    c.index.result.now c.ends_by_word.result c.if-left-gt0.true c.frames_left-left.ensures.within c.index.ensures c.ends_by_word.ensures

pub returns-else-left-gt0 : goal.returns-else-left-gt0
returns-else-left-gt0 c t =
    let none : c.frames_left-left.result ≡ 0 = omega (arith, c.if-left-gt0.false) in
    ap (nat_lt 0) none
    ∙ ends_none (word_ends c.args.keyword) c.args.frames.now.entries.items c.frames_left-left.result c.frames_left-left.ensures.left t none (no_word c.args.keyword)
