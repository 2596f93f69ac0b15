use Rattle.std.proofs.Common.{◌++◌, map, take, sym, ap, ◌∙◌, arith}
use Rattle.std.specs.Char.{encode_utf8}
use Rattle.std.specs.Str.{encode_utf8_all}
use Rattle.std.proofs.lemmas.List.{append_assoc}
use Rattle.um_excerpt.specs.Excerpt.{shown}
use Rattle.um_excerpt.proofs.Lines.{shown_more}
use Rattle.um_excerpt.proofs.excerpt.push_shown.Goals as goal

pub loop-c-preserved : goal.loop-c-preserved
loop-c-preserved c =
    let text = c.args.text.now.items in
    let part = c.args.part.now in
    let i = c.loop-c.c-index in
    let before = encode_utf8_all (map shown (take i part)) in
    c.in_ok-push_char.ensures
    ∙ ap (λ l. l ++ encode_utf8 c.shown.result) c.loop-c.invariant
    ∙ append_assoc text before (encode_utf8 c.shown.result)
    ∙ ap (λ l. text ++ l) (ap (λ z. before ++ encode_utf8 z) c.shown.ensures ∙ sym (shown_more part i c.c-item.result (omega (arith, c.loop-c-test.true)) c.c-item.is))
