use Rattle.std.proofs.Common.{◌∷◌, ℕ, List, sym, ap, ◌∙◌}
use Rattle.um_lines.specs.Sources.{call_lines}
use Rattle.um_lines.proofs.Lines.{next_is}
use Rattle.um_lines.proofs.calls.next_line.Goals as goal

pub returns-in-Some-clause-lines : goal.returns-in-Some-clause-lines
returns-in-Some-clause-lines c =
    next_is c.args.calls.now c.in-Some.line.now c.in-Some.after.now c.in-Some.ensures.lines
    ∙ ap (λ (line : List ℕ). line ∷ call_lines c.in-Some.after.now) (sym c.without_return.ensures)
