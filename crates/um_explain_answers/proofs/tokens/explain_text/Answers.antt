use Rattle.std.proofs.lemmas.Result.{on_ok_weaker}
use Rattle.um_explain_answers.proofs.StopPlaces.{text_place}
use Rattle.um_explain_answers.proofs.Refusals.{text_refused, text_follows}
use Rattle.um_explain_answers.proofs.tokens.explain_text.Goals as goal

pub push_text_rest-added-requires-clause-place : goal.push_text_rest-added-requires-clause-place
push_text_rest-added-requires-clause-place c = text_place c.args.bytes.now c.args.stop c.requires.stop

pub returns : goal.returns
returns c =
    let bytes = c.args.bytes.now in let line = c.in_ok-refusal.refusal.text.items in
    c.explained.ensures bytes line (text_refused bytes line c.in_ok-refusal.refusal.status c.args.stop c.requires.short c.requires.stop c.in_ok-refusal.ensures)
    (on_ok_weaker c.push_text_rest-added.result (text_follows bytes line c.push_text_rest-added.new.text.items c.args.stop c.requires.stop) c.push_text_rest-added.ensures)
