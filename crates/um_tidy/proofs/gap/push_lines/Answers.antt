use Rattle.std.proofs.Common.{◌≡◌, ◌<◌, sym, ap, ◌∙◌, ◌+◌, ◌-◌, ◌++◌, List, ℕ, length, take, drop, arith}
use Rattle.std.specs.List.{prefix_len}
use Rattle.std.proofs.lemmas.List.{length-drop}
use Rattle.um_syntax.specs.Gap.{is_space}
use Rattle.um_tidy.specs.Gaps.{in_line, lines, each_line}
use Rattle.um_tidy.proofs.Lines.{tail_all, lines_step, lines_end}
use Rattle.um_tidy.proofs.BlankLines.{prefix_taken}
use Rattle.um_tidy.proofs.gap.push_lines.Goals as goal

pub lines-init : goal.lines-init
lines-init c =
    let first = c.past_blank_lines-line.ensures in
    record {
      size = first.size;
      within = first.within;
      margin = first.margin;
      line = first.line;
      added = λ last. ap (λ xs. c.args.text.now.items ++ xs) (first.lines last);
    }

pub push_own_line-requires-clause-margin : goal.push_own_line-requires-clause-margin
push_own_line-requires-clause-margin c =
    let l = c.lines in
    let (after, within) = c.in-Some.ensures.within in
    l.invariant.margin ∙ sym (prefix_taken is_space l.line.rest.now c.in-Some.end (omega (arith, l.invariant.margin, after)))

-- what follows a line, and what follows those that stay as they are
rest_within : (rest : List ℕ) (end len : ℕ) → let more = take (length rest - (end + 1)) (drop (end + 1) rest) in end < length rest → length (take (length more - len) (drop len more)) + end < length rest
rest_within rest end len some =
    let more = take (length rest - (end + 1)) (drop (end + 1) rest) in
    let same = ap length (tail_all rest (end + 1)) in
    let fewer = length-drop (end + 1) rest in
    let last = ap length (tail_all more len) in
    let shorter = length-drop len more in
    omega (arith, same, fewer, last, shorter, some)

pub lines-smaller : goal.lines-smaller
lines-smaller c =
    let (after, within) = c.in-Some.ensures.within in
    let fewer = rest_within c.lines.line.rest.now c.in-Some.end c.in_ok-len.len within in
    let size = c.past_blank_lines-line-in-Some.ensures.size in
    omega (arith, fewer, size)

pub lines-preserved : goal.lines-preserved
lines-preserved c =
    let l = c.lines in
    let rest = l.line.rest.now in
    let end = c.in-Some.end in
    let len = c.in_ok-len.len in
    let more = take (length rest - (end + 1)) (drop (end + 1) rest) in
    let (after, within) = c.in-Some.ensures.within in
    let fewer = rest_within rest end len within in
    let next = c.past_blank_lines-line-in-Some.ensures in
    let size = next.size in
    let line : end ≡ prefix_len in_line rest = sym (l.invariant.line ∙ c.in-Some.ensures.first) in
    record {
      size = omega (arith, fewer, size, l.invariant.size);
      within = next.within;
      margin = next.margin;
      line = next.line;
      added = λ last.
          ap (λ xs. c.push_comments.new.text.items ++ xs) (next.lines last ∙ ap (λ xs. each_line last c.in_ok-above.above (lines xs)) (tail_all more len))
          ∙ c.in_ok-len.ensures.added last
          ∙ ap (λ xs. c.push_own_line.new.text.items ++ each_line last c.in_ok-above.above (lines xs)) (tail_all rest (end + 1))
          ∙ lines_step last l.line.above l.text.items _ rest end c.in_ok-above.above c.push_own_line.new.text.items line within c.in_ok-above.ensures.added c.in_ok-above.ensures.above (l.invariant.added last);
    }

pub returns-clause-added : goal.returns-clause-added
returns-clause-added c =
    let l = c.lines in
    let rest = l.line.rest.now in
    let none : prefix_len in_line (drop l.line.margin rest) ≡ length (drop l.line.margin rest) = rw c.in_default.is at c.line_feed.ensures.first in
    let fewer = length-drop l.line.margin rest in
    λ last. lines_end last l.line.above l.text.items _ rest (omega (arith, none, fewer, l.invariant.line, l.invariant.within)) (l.invariant.added last)
