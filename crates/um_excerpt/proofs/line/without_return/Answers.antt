use Rattle.std.proofs.Common.{sym, ◌∙◌, arith}
use Rattle.um_excerpt.proofs.Lines.{front_of_line, whole_line, empty_line}
use Rattle.um_excerpt.proofs.line.without_return.Goals as goal
use Rattle.um_excerpt.proofs.line.without_return.Goals.{else-len-gt0-via-then-len-gt0+else-line-len-eq13, else-len-gt0-via-else-len-gt0}

pub returns-then-line-len-eq13 : goal.returns-then-line-len-eq13
returns-then-line-len-eq13 c =
    let r = c.index-line-len.result in
    front_of_line c.args.line.now r (omega (arith, c.if-len-gt0.true)) (sym c.index-line-len.is ∙ c.if-line-len-eq13.true)

pub returns : goal.returns
returns c = elim c.else-len-gt0.branch [
  | else-len-gt0-via-then-len-gt0+else-line-len-eq13 w ↦
      whole_line c.args.line.now w.index-line-len.result (omega (arith, w.if-len-gt0.true)) (λ e. w.if-line-len-eq13.false (w.index-line-len.is ∙ e))
  | else-len-gt0-via-else-len-gt0 w ↦ empty_line c.args.line.now (omega (arith, w.if-len-gt0.false))
]
