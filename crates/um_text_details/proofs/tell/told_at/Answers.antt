use Rattle.std.proofs.Common.{subst, ◌∙◌, arith}
use Rattle.std.proofs.lemmas.List.{take_all}
use Rattle.um_text_details.specs.Expected.{IsExpected, AreChosen}
use Rattle.um_text_details.proofs.Tries.{words_more}
use Rattle.um_text_details.proofs.tell.told_at.Goals as goal

pub loop-word-preserved : goal.loop-word-preserved
loop-word-preserved c =
    words_more c.args.trial.now c.words-word-items.result.now c.loop-word.word-index _ c.loop-word.told.items
    c.push_if.new.told.items c.in_ok-stands.stands (omega (arith, c.loop-word-test.true)) c.loop-word.invariant
    c.in_ok-stands.ensures c.in_ok-push_if.ensures

pub returns : goal.returns
returns c =
    let items = c.words-word-items.result.now in
    subst (λ ws. AreChosen (IsExpected c.args.trial.now) ws c.loop-word.told.items)
    (take_all c.loop-word.word-index items (omega (arith, c.loop-word-test.false)) ∙ c.words-word-items.ensures)
    c.loop-word.invariant
