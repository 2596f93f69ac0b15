use Rattle.um_tidy.proofs.LineMargins.{line_up_to}
use Rattle.um_tidy.proofs.margin.last_margin.Goals as goal

pub returns-clause-margin : goal.returns-clause-margin
returns-clause-margin c =
    let last = c.last_line_space-last in
    line_up_to c.args.gap.now c.args.margin last.result.end last.result.width c.requires.margin last.ensures.order.0 last.ensures.order.1 last.ensures.space last.ensures.width
