use Rattle.std.proofs.Common.{length, not, arith, sym, ap, ◌∙◌}
use Rattle.std.proofs.lemmas.Iterator.{YieldsList-from_chars}
use Rattle.std.proofs.lemmas.Iterator.Consumers.{YieldsList-turn, YieldsList-end}
use Rattle.std.proofs.lemmas.List.{map-id}
use Rattle.std.proofs.lemmas.List.Sums.{suffix_len-le-length}
use Rattle.std.proofs.lemmas.Str.{encodes-chars, length-le-encodes}
use Rattle.std.specs.Str.{chars}
use Rattle.um_syntax.specs.LineColumn.{is_line_feed}
use Rattle.um_syntax.proofs.place.end_of.Goals as goal

-- The characters before the place are fewer than the limit, and the column counts some of them.
pub overflow_add-column : goal.overflow_add-column
overflow_add-column c =
    let prefix = c.args.text.now in
    let t = YieldsList-turn (YieldsList-from_chars prefix c.utf8.text cc) c.loop-c.yielded _ c.loop-c.yielded_by _ _ c.in-Some.c c.in-Some.is c.next.ensures.steps in
    let s = suffix_len-le-length (λ x. not (is_line_feed x)) c.loop-c.yielded in
    let n = length-le-encodes (chars prefix) in
    let e = ap length (encodes-chars prefix c.utf8.text) in
    omega (arith, t, s, n, e, c.loop-c.invariant.column)

pub returns-clause-line : goal.returns-clause-line
returns-clause-line c =
    let prefix = c.args.text.now in
    let t = YieldsList-end (YieldsList-from_chars prefix c.utf8.text cc) c.loop-c.yielded _ c.loop-c.yielded_by _ _ c.in-None.is c.next.ensures.steps in
    let all = sym (map-id c.loop-c.yielded) ∙ t.0 in
    rw (← all) c.loop-c.invariant.line

pub returns-clause-column : goal.returns-clause-column
returns-clause-column c =
    let prefix = c.args.text.now in
    let t = YieldsList-end (YieldsList-from_chars prefix c.utf8.text cc) c.loop-c.yielded _ c.loop-c.yielded_by _ _ c.in-None.is c.next.ensures.steps in
    let all = sym (map-id c.loop-c.yielded) ∙ t.0 in
    rw (← all) c.loop-c.invariant.column
