use Rattle.std.proofs.Common.{◌+◌, ◌-◌, ◌∷◌, ℕ, List, length, take, drop, sym, ap, ◌∙◌, arith}
use Rattle.std.proofs.lemmas.List.{take_all, length-drop}
use Rattle.um_lines.specs.Sources.{lines_between}
use Rattle.um_lines.proofs.Lines.{one_line, line_at}
use Rattle.um_lines.proofs.cut.cut_line.Goals as goal

pub returns-in-Some-clause-lines : goal.returns-in-Some-clause-lines
returns-in-Some-clause-lines c =
    let bytes = c.args.bytes.now in
    let at = c.in-Some.at in
    let left = length-drop (at + 1) bytes in
    (line_at bytes at c.in-Some.ensures).lines
    ∙ ap (λ (s : List ℕ). take at bytes ∷ lines_between s) (sym (take_all (length bytes - (at + 1)) (drop (at + 1) bytes) (omega (arith, left))))

pub returns-in-None-clause-lines : goal.returns-in-None-clause-lines
returns-in-None-clause-lines c = one_line c.args.bytes.now c.in-None.ensures
