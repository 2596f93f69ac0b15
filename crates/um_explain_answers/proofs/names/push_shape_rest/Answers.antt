use Rattle.std.proofs.lemmas.Result.{on_ok_weaker}
use Rattle.um_explain_answers.proofs.Adding.{mismatch_added}
use Rattle.um_explain_answers.proofs.names.push_shape_rest.Goals as goal

pub returns-in_ok-push_source-in-Shape : goal.returns-in_ok-push_source-in-Shape
returns-in_ok-push_source-in-Shape c = λ p resolved.
    on_ok_weaker c.push_mismatch.result
    (mismatch_added c.args.bytes.now p c.args.stop c.in-Shape.at c.in-Shape.is c.args.text.now.items c.push_source.new.text.items c.push_mismatch.new.text.items c.in_ok-push_source-in-Shape.ensures)
    (c.push_mismatch.ensures p resolved)
