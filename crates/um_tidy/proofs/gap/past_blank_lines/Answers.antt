use Rattle.std.proofs.Common.{◌≡◌, sym, ap, ◌∙◌, ◌+◌, ◌-◌, ◌<◌, length, take, drop, get_or, true, arith}
use Rattle.std.specs.List.{prefix_len}
use Rattle.std.proofs.lemmas.List.{length-drop, length-take-le, get_or-take, get_or-drop}
use Rattle.um_syntax.specs.Gap.{is_space}
use Rattle.um_syntax.specs.LineColumn.{is_line_feed}
use Rattle.um_tidy.specs.Gaps.{in_line, lines, past_blank, each_line}
use Rattle.um_tidy.proofs.Lines.{other_byte, tail_all}
use Rattle.um_tidy.proofs.BlankLines.{prefix_dropped, prefix_past, past_feed}
use Rattle.um_tidy.proofs.gap.past_blank_lines.Goals as goal

pub returns-in-Some-clause-within : goal.returns-in-Some-clause-within
returns-in-Some-clause-within c =
    let gap = c.args.gap.now in
    let at = c.in-Some.at in
    let rest = ap length (tail_all gap (at + 1)) in
    let fewer = length-drop (at + 1) gap in
    omega (arith, rest, fewer, c.margin_len-margin.ensures.within)

pub returns-in-Some-clause-margin : goal.returns-in-Some-clause-margin
returns-in-Some-clause-margin c =
    let gap = c.args.gap.now in
    let at = c.in-Some.at in
    let (after, here) = c.in-Some.ensures in
    let within = after.high in
    let margin = c.margin_len-margin.ensures.len in
    let size = length-take-le c.margin_len-margin.result gap c.margin_len-margin.ensures.within in
    let less : at < c.margin_len-margin.result = omega (arith, within, size) in
    let past = prefix_dropped is_space gap (at + 1) (omega (arith, less, margin)) in
    let same = ap (prefix_len is_space) (tail_all gap (at + 1)) in
    omega (arith, past, margin, same)

pub returns-in-Some-clause-line : goal.returns-in-Some-clause-line
returns-in-Some-clause-line c =
    let gap = c.args.gap.now in
    let at = c.in-Some.at in
    let margin = c.margin_len-margin.result in
    let (after, here) = c.in-Some.ensures in
    let fewer = length-drop (at + 1) gap in
    let size = length-take-le margin gap c.margin_len-margin.ensures.within in
    let line = prefix_past in_line (drop (at + 1) gap) (margin - (at + 1)) (omega (arith, fewer, c.margin_len-margin.ensures.within)) (λ k less.
    let place : at + 1 + k < margin = omega (arith, less) in
    let same : get_or (take margin gap) (at + 1 + k) 0 ≡ get_or (drop (at + 1) gap) k 0 = get_or-take margin gap (at + 1 + k) 0 place ∙ sym (get_or-drop (at + 1) gap k 0) in
    ap in_line (sym same) ∙ other_byte (get_or (take margin gap) (at + 1 + k) 0) (after.after (at + 1 + k) (omega arith) (omega (arith, place, size)))) in
    ap (prefix_len in_line) (tail_all gap (at + 1)) ∙ line ∙ ap (λ xs. margin - (at + 1) + prefix_len in_line (drop (margin - (at + 1)) xs)) (sym (tail_all gap (at + 1)))

pub returns-in-Some-clause-lines : goal.returns-in-Some-clause-lines
returns-in-Some-clause-lines c =
    let gap = c.args.gap.now in
    let at = c.in-Some.at in
    let margin = c.margin_len-margin.result in
    let (after, here) = c.in-Some.ensures in
    let within = after.high in
    let size = length-take-le margin gap c.margin_len-margin.ensures.within in
    let less : at < margin = omega (arith, within, size) in
    let feed : is_line_feed (get_or gap at 0) ≡ true = ap is_line_feed (sym (get_or-take margin gap at 0 less)) ∙ here in
    λ last.
    ap (λ a. each_line last a (lines (take (length gap - (at + 1)) (drop (at + 1) gap)))) c.past_blank.ensures
    ∙ ap (λ xs. each_line last (past_blank c.args.above) (lines xs)) (tail_all gap (at + 1))
    ∙ sym (past_feed last c.args.above gap at (omega (arith, less, c.margin_len-margin.ensures.len)) feed)

pub returns-in-None-clause-line : goal.returns-in-None-clause-line
returns-in-None-clause-line c =
    let gap = c.args.gap.now in
    let margin = c.margin_len-margin.result in
    let size = length-take-le margin gap c.margin_len-margin.ensures.within in
    prefix_past in_line gap margin c.margin_len-margin.ensures.within (λ k less.
    ap in_line (sym (get_or-take margin gap k 0 less)) ∙ other_byte (get_or (take margin gap) k 0) (c.in-None.ensures k (omega arith) (omega (arith, less, size))))
