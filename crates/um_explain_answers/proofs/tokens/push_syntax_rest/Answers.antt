use Rattle.std.proofs.lemmas.Result.{on_ok_weaker}
use Rattle.um_explain_answers.proofs.Adding.{syntax_added}
use Rattle.um_explain_answers.proofs.tokens.push_syntax_rest.Goals as goal

pub returns : goal.returns
returns c =
    on_ok_weaker c.push_missing.result
    (syntax_added c.args.bytes.now c.args.tokens.now c.args.at c.args.text.now.items c.push_source.new.text.items c.push_expected.new.text.items c.push_missing.new.text.items c.in_ok-missing.missing
    c.in_ok-push_source.ensures c.in_ok-missing.ensures.told)
    c.push_missing.ensures
