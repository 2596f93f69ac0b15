use Rattle.std.proofs.Common.{◌≡◌, ◌∙◌, ap, codes}
use Rattle.std.proofs.lemmas.Result.{IfOk-weaker}
use Rattle.um_embed.specs.CommandLine.{words_in}
use Rattle.um_embed.specs.Embedded.{words_between}
use Rattle.um_embed.proofs.LineWords.{words_of_text, words_of_other}
use Rattle.um_embed.proofs.line.words_of_line.Goals as goal

pub returns-in-Ok : goal.returns-in-Ok
returns-in-Ok c =
    let bytes = c.args.bytes.now in
    let same = ap words_between c.in-Ok.ensures.cases.0 ∙ words_of_text bytes c.in-Ok.ensures.cases.1 in
    IfOk-weaker c.parts_of.result (λ words. words ≡ words_between c.in-Ok.text.now) (λ words. words ≡ words_in bytes) (λ _ is. is ∙ same) c.parts_of.ensures

pub returns-in-Err : goal.returns-in-Err
returns-in-Err c =
    let bytes = c.args.bytes.now in
    let same = words_of_other bytes c.in-Err.ensures.cases.0 in
    IfOk-weaker c.parts_of-in-Err.result (λ words. words ≡ words_between (codes "?")) (λ words. words ≡ words_in bytes) (λ _ is. is ∙ same) c.parts_of-in-Err.ensures
