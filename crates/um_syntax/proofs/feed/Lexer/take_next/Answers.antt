use Rattle.std.proofs.Common.{◌≡◌, ◌≤◌, ◌++◌, take, drop, length, sym, ap, subst, ◌∙◌, arith}
use Rattle.std.proofs.lemmas.List.{append-nil}
use Rattle.std.proofs.lemmas.Str.{chars-nil}
use Rattle.std.specs.Char.{len_utf8}
use Rattle.std.specs.Str.{chars, IsCharBoundary}
use Rattle.um_syntax.specs.Feeding.{HasRead}
use Rattle.um_syntax.proofs.Kept.{first_char, chars_cut}
use Rattle.um_syntax.proofs.feed.Lexer.take_next.Goals as goal

pub take_char-requires-clause-room : goal.take_char-requires-clause-room
take_char-requires-clause-room c =
    let first = first_char c.args.text.now c.next.new.self.rest.now c.in-Some.c c.utf8.text (sym c.chars.ensures.rest ∙ c.in-Some.ensures.steps.0) in
    let within : len_utf8 c.in-Some.c ≤ length c.args.text.now = first.0.0 in
    let place = c.in_ok-len.ensures.place in
    omega (arith, within, c.requires.room, place)

pub returns-clause-front : goal.returns-clause-front
returns-clause-front c =
    let first = first_char c.args.text.now c.next.new.self.rest.now c.in-Some.c c.utf8.text (sym c.chars.ensures.rest ∙ c.in-Some.ensures.steps.0) in
    subst (IsCharBoundary c.args.text.now) (sym c.len_utf8.ensures.value) first.0

pub returns-clause-read : goal.returns-clause-read
returns-clause-read c = λ cs h.
    let text = c.args.text.now in
    let n = len_utf8 c.in-Some.c in
    let first = first_char text c.next.new.self.rest.now c.in-Some.c c.utf8.text (sym c.chars.ensures.rest ∙ c.in-Some.ensures.steps.0) in
    let none : c.in_ok-len.len ≡ 0 = omega arith in
    let mid = c.take_at_once.new.self in
    let before = subst (λ m. HasRead mid (cs ++ chars (take m text)) (chars (drop m text))) none (c.in_ok-len.ensures.read cs h) in
    let here = subst (λ l. HasRead mid l (chars text)) (ap (λ l. cs ++ l) chars-nil ∙ append-nil cs) before in
    let all = sym (chars_cut text n c.utf8.text first.0) ∙ ap (λ l. l ++ chars (drop n text)) first.1 in
    let reads = c.in_ok-take_char-in-Some.ensures.read cs (chars (drop n text)) (subst (HasRead mid cs) all here) in
    subst (λ m. HasRead c.take_char.new.self (cs ++ chars (take m text)) (chars (drop m text))) (sym c.len_utf8.ensures.value)
    (subst (λ l. HasRead c.take_char.new.self (cs ++ l) (chars (drop n text))) (sym first.1) reads)
