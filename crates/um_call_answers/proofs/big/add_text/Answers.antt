use Rattle.std.proofs.Common.{◌≡◌, [], ◌∷◌, ◌++◌, ◌∙◌, cond, subst}
use Rattle.std.specs.Prelude.{OnOk}
use Rattle.um_measures.specs.Known.{is_among}
use Rattle.um_call_answers.proofs.big.add_text.Goals as goal

pub returns : goal.returns
returns c =
    let old = c.args.texts.now in let added = c.add-added in
    subst (λ t. OnOk added.result (added.new.self ≡ cond (is_among old t) old (old ++ t ∷ []))) (c.deref.ensures.value ∙ c.in_ok-text.ensures) added.ensures
