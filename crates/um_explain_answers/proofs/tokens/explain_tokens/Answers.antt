use Rattle.std.proofs.lemmas.Result.{on_ok_weaker}
use Rattle.um_explain_answers.proofs.StopPlaces.{parse_place}
use Rattle.um_explain_answers.proofs.Refusals.{parse_refused, parse_follows}
use Rattle.um_explain_answers.proofs.tokens.explain_tokens.Goals as goal

pub push_parse_rest-added-requires-clause-place : goal.push_parse_rest-added-requires-clause-place
push_parse_rest-added-requires-clause-place c = parse_place c.args.bytes.now c.args.tokens.now c.requires.tokens c.args.stop c.requires.stop

pub returns : goal.returns
returns c =
    let bytes = c.args.bytes.now in let tokens = c.args.tokens.now in let line = c.in_ok-refusal.refusal.text.items in
    c.explained.ensures bytes line (parse_refused bytes line c.in_ok-refusal.refusal.status tokens c.args.stop c.requires.short c.requires.tokens c.requires.stop c.in_ok-refusal.ensures)
    (on_ok_weaker c.push_parse_rest-added.result (parse_follows bytes line c.push_parse_rest-added.new.text.items tokens c.args.stop c.requires.tokens c.requires.stop) c.push_parse_rest-added.ensures)
