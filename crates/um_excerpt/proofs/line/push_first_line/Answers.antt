use Rattle.std.proofs.Common.{◌≡◌, ℕ, ◌+◌, ◌<◌, ◌++◌, List, [], ◌∷◌, length, drop, get_or, sym, ap, ◌∙◌, arith}
use Rattle.std.proofs.lemmas.Iterator.{YieldsList-from_chars}
use Rattle.std.proofs.lemmas.Iterator.Consumers.{YieldsList-turn, YieldsList-end}
use Rattle.std.proofs.lemmas.List.{append-nil, append_assoc, length_push, drop_more, drop_all}
use Rattle.std.specs.Str.{chars}
use Rattle.um_excerpt.specs.SourceLine.{first_line}
use Rattle.um_excerpt.proofs.Lines.{first_line_ends, first_line_goes}
use Rattle.um_excerpt.proofs.line.push_first_line.Goals as goal

-- the character at this turn stands first in what is left
at_turn : (cs : List ℕ) (n c : ℕ) → (n < length cs) × (c ≡ get_or cs n c) → drop n cs ≡ c ∷ drop (n + 1) cs
at_turn cs n c h = drop_more cs n c h.0 ∙ ap (λ x. x ∷ drop (n + 1) cs) (sym h.1)

pub returns-then-c-eq10 : goal.returns-then-c-eq10
returns-then-c-eq10 c =
    let cs = chars c.args.text.now in
    let n = length c.loop-c.yielded in
    let t = YieldsList-turn (YieldsList-from_chars c.args.text.now c.utf8.text cc) c.loop-c.yielded _ c.loop-c.yielded_by _ _ c.in-Some.c c.in-Some.is c.next.ensures.steps in
    let e = first_line_ends (drop n cs) c.in-Some.c (drop (n + 1) cs) (at_turn cs n c.in-Some.c t) c.if-c-eq10.true in
    sym (append-nil c.loop-c.line.items) ∙ ap (λ l. c.loop-c.line.items ++ l) (sym e) ∙ c.loop-c.invariant

pub loop-c-preserved : goal.loop-c-preserved
loop-c-preserved c =
    let cs = chars c.args.text.now in
    let n = length c.loop-c.yielded in
    let t = YieldsList-turn (YieldsList-from_chars c.args.text.now c.utf8.text cc) c.loop-c.yielded _ c.loop-c.yielded_by _ _ c.in-Some.c c.in-Some.is c.next.ensures.steps in
    let d = c.in-Some.c in
    let line = c.loop-c.line.items in
    let e = first_line_goes (drop n cs) d (drop (n + 1) cs) (at_turn cs n d t) c.if-c-eq10.false in
    ap (λ l. l ++ first_line (drop (length (c.loop-c.yielded ++ d ∷ [])) cs)) c.in_ok-push.ensures.items
    ∙ ap (λ m. (line ++ d ∷ []) ++ first_line (drop m cs)) (length_push c.loop-c.yielded d)
    ∙ append_assoc line (d ∷ []) (first_line (drop (n + 1) cs))
    ∙ ap (λ l. line ++ l) (sym e)
    ∙ c.loop-c.invariant

pub returns : goal.returns
returns c =
    let cs = chars c.args.text.now in
    let t = YieldsList-end (YieldsList-from_chars c.args.text.now c.utf8.text cc) c.loop-c.yielded _ c.loop-c.yielded_by _ _ c.in-None.is c.next.ensures.steps in
    let e = drop_all (length c.loop-c.yielded) cs (omega (arith, t.1)) in
    sym (append-nil c.loop-c.line.items) ∙ ap (λ l. c.loop-c.line.items ++ first_line l) (sym e) ∙ c.loop-c.invariant
