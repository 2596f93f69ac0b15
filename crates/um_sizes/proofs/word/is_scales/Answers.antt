use Rattle.std.proofs.Common.{ap, ◌∙◌}
use Rattle.std.specs.Prelude.{is_some}
use Rattle.std.proofs.lemmas.Result.{IfOk-weaker}
use Rattle.um_sizes.specs.Parts.{parts_of}
use Rattle.um_sizes.specs.Adding.{names_after}
use Rattle.um_sizes.proofs.OnceNames.{all_added}
use Rattle.um_sizes.proofs.word.is_scales.Goals as goal

pub returns : goal.returns
returns c =
    IfOk-weaker c.add_sizes-answer.result _ _
    (λ b h. h ∙ ap (λ names. is_some (names_after names (parts_of c.args.word.now))) c.with_digest-names.ensures ∙ all_added c.args.word.now)
    c.add_sizes-answer.ensures
