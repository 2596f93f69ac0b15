use Rattle.std.proofs.Common.{sym, ap, subst, ◌≡◌, ◌∙◌, ◌++◌, append_assoc, length, take, drop, OnOk, ◌+◌, ◌-◌, arith}
use Rattle.std.proofs.lemmas.List.{take_all}
use Rattle.um_tidy.specs.declared.gap.Above.TheVariants as above
use Rattle.um_tidy.specs.Gaps.{lines, each_line, own_line, line_end, last_gap}
use Rattle.um_tidy.proofs.Lines.{tail_all, last_one, last_several}
use Rattle.um_tidy.proofs.gap.push_last_gap.Goals as goal

pub returns-then-len-gap : goal.returns-then-len-gap
returns-then-len-gap c =
    let gap = c.args.gap.now in
    let n = c.line_len-len.result in
    let old = c.args.text.now.items in
    let whole = take_all n gap (omega (arith, c.if-len-gap.true)) in
    c.in_ok-push_line_end.ensures ∙ ap (λ xs. old ++ line_end xs) whole ∙ ap (λ xs. old ++ xs) (sym (last_one gap (sym c.line_len-len.ensures.len ∙ c.if-len-gap.true)))

pub returns : goal.returns
returns c =
    let gap = c.args.gap.now in
    let n = c.line_len-len.result in
    let old = c.args.text.now.items in
    let end = line_end (take n gap) in
    let rest = take (length gap - (n + 1)) (drop (n + 1) gap) in
    let more = each_line own_line above.Line (lines rest) in
    let whole = last_several gap n c.line_len-len.ensures.len (omega (arith, c.line_len-len.ensures.within, c.if-len-gap.false)) in
    let same : c.push_line_end.new.text.items ++ more ≡ old ++ last_gap gap = ap (λ xs. xs ++ more) c.in_ok-push_line_end.ensures ∙ append_assoc old end more ∙ ap (λ xs. old ++ (end ++ each_line own_line above.Line (lines xs))) (tail_all gap (n + 1)) ∙ ap (λ xs. old ++ xs) (sym whole) in
    subst (λ xs. OnOk c.push_to_end.result (c.push_to_end.new.text.items ≡ xs)) same c.push_to_end.ensures
