use Rattle.std.proofs.Common.{[], ◌∷◌, ◌++◌, map, take, sym, ap, ◌∙◌, arith}
use Rattle.std.proofs.lemmas.List.{append_assoc}
use Rattle.um_excerpt.proofs.Lines.{mapped_more}
use Rattle.um_excerpt.proofs.excerpt.push_margin.Goals as goal

pub loop-digit-preserved : goal.loop-digit-preserved
loop-digit-preserved c =
    let text = c.args.text.now.items in
    let digits = c.args.digits.now in
    let i = c.loop-digit._digit-index in
    c.in_ok-push.ensures.items
    ∙ ap (λ l. l ++ 32 ∷ []) c.loop-digit.invariant
    ∙ append_assoc text (map (λ _. 32) (take i digits)) (32 ∷ [])
    ∙ ap (λ l. text ++ l) (sym (mapped_more (λ _. 32) digits i 0 (omega (arith, c.loop-digit-test.true))))
