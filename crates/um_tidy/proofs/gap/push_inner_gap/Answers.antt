use Rattle.std.proofs.Common.{sym, ap, subst, ◌≡◌, ◌∙◌, ◌++◌, append_assoc, length, take, drop, OnOk, ◌+◌, ◌-◌, arith}
use Rattle.um_tidy.specs.declared.gap.Above.TheVariants as above
use Rattle.um_tidy.specs.Gaps.{lines, each_line, before_token, line_end, inner_gap}
use Rattle.um_tidy.proofs.Lines.{tail_all, one_spaced, several}
use Rattle.um_tidy.proofs.gap.push_inner_gap.Goals as goal

pub returns-then-len-gap : goal.returns-then-len-gap
returns-then-len-gap c =
    let gap = c.args.gap.now in
    let one = one_spaced c.args.spaced c.args.begins gap (sym c.line_len-len.ensures.len ∙ c.if-len-gap.true) in
    subst (λ xs. OnOk c.push_space.result (c.push_space.new.text.items ≡ c.args.text.now.items ++ xs)) (sym one) c.push_space.ensures

pub returns : goal.returns
returns c =
    let gap = c.args.gap.now in
    let n = c.line_len-len.result in
    let old = c.args.text.now.items in
    let end = line_end (take n gap) in
    let rest = take (length gap - (n + 1)) (drop (n + 1) gap) in
    let more = each_line (before_token c.args.begins) above.Line (lines rest) in
    let whole = several c.args.spaced c.args.begins gap n c.line_len-len.ensures.len (omega (arith, c.line_len-len.ensures.within, c.if-len-gap.false)) in
    let same : c.push_line_end.new.text.items ++ more ≡ old ++ inner_gap c.args.spaced c.args.begins gap = ap (λ xs. xs ++ more) c.in_ok-push_line_end.ensures ∙ append_assoc old end more ∙ ap (λ xs. old ++ (end ++ each_line (before_token c.args.begins) above.Line (lines xs))) (tail_all gap (n + 1)) ∙ ap (λ xs. old ++ xs) (sym whole) in
    subst (λ xs. OnOk c.push_to_token.result (c.push_to_token.new.text.items ≡ xs)) same c.push_to_token.ensures
