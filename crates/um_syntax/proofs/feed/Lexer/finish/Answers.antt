use Rattle.std.proofs.Common.{[], ◌≤◌, Err, arith, sym, subst, ◌∙◌, length, take, ap}
use Rattle.um_syntax.specs.Scanning.{scan_of}
use Rattle.um_syntax.specs.Feeding.{HasScanned, HasBehind, IsTextAnswer, is_readable}
use Rattle.um_syntax.proofs.Finishes.{partial_answer, fault_answer, tokens_answer, refusal_answer, something_held, nothing_held}
use Rattle.um_syntax.proofs.feed.Lexer.finish.Goals as goal

pub returns-then-ends_within_char-clause-answer : goal.returns-then-ends_within_char-clause-answer
returns-then-ends_within_char-clause-answer c = λ bytes h.
    let l = c.args.self in
    let room : l.held ≤ length l.partial = omega arith in
    let some = something_held l.fault l.held (sym c.ends_within_char.ensures ∙ c.if-ends_within_char.true) in
    partial_answer bytes h.cs h.tail l.fault l.valid l.held l.partial h.whole h.read.scalars h.read.place some.0 some.1 room l.begun h.behind

pub returns-in-Some-clause-answer : goal.returns-in-Some-clause-answer
returns-in-Some-clause-answer c = λ bytes h.
    let l = c.args.self in
    let empty = nothing_held l.fault l.held l.partial (sym c.ends_within_char.ensures ∙ c.if-ends_within_char.false) in
    fault_answer bytes h.cs h.tail (take l.held l.partial) c.in-Some.stop l.valid (scan_of l.scanner) h.whole h.read.scalars h.read.place
    (λ r. empty (ap is_readable c.in-Some.is ∙ r))
    (subst (λ f. HasScanned f (scan_of l.scanner) h.cs []) c.in-Some.is h.read.scanned)
    (subst (λ f. HasBehind f l.valid (take l.held l.partial) h.tail) c.in-Some.is h.behind)

pub returns-in-Ok-clause-answer : goal.returns-in-Ok-clause-answer
returns-in-Ok-clause-answer c = λ bytes h.
    let l = c.args.self in
    let empty = nothing_held l.fault l.held l.partial (sym c.ends_within_char.ensures ∙ c.if-ends_within_char.false) in
    tokens_answer bytes h.cs h.tail (take l.held l.partial) l.valid (scan_of l.scanner) c.in-Ok.tokens h.whole h.read.scalars
    (empty (ap is_readable c.in-None.is))
    (subst (λ f. HasScanned f (scan_of l.scanner) h.cs []) c.in-None.is h.read.scanned)
    (subst (λ f. HasBehind f l.valid (take l.held l.partial) h.tail) c.in-None.is h.behind)
    c.in-Ok.ensures

pub returns-in-Err-clause-answer : goal.returns-in-Err-clause-answer
returns-in-Err-clause-answer c = λ bytes h.
    let l = c.args.self in
    let empty = nothing_held l.fault l.held l.partial (sym c.ends_within_char.ensures ∙ c.if-ends_within_char.false) in
    subst (λ s. IsTextAnswer bytes (Err s)) (sym c.text_stop.ensures)
    (refusal_answer bytes h.cs h.tail (take l.held l.partial) l.valid (scan_of l.scanner) c.in-Err.stop h.whole h.read.scalars
    (empty (ap is_readable c.in-None.is))
    (subst (λ f. HasScanned f (scan_of l.scanner) h.cs []) c.in-None.is h.read.scanned)
    (subst (λ f. HasBehind f l.valid (take l.held l.partial) h.tail) c.in-None.is h.behind)
    c.in-Err.ensures)
