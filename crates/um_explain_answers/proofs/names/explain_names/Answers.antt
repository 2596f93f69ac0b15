use Rattle.std.proofs.lemmas.Result.{on_ok_weaker}
use Rattle.um_tree.specs.RawTree.{program_syntax}
use Rattle.um_explain_answers.proofs.StopPlaces.{name_place}
use Rattle.um_explain_answers.proofs.Refusals.{names_refused, names_follow}
use Rattle.um_explain_answers.proofs.names.explain_names.Goals as goal

pub push_name_rest-added-requires-clause-place : goal.push_name_rest-added-requires-clause-place
push_name_rest-added-requires-clause-place c = name_place c.args.bytes.now (program_syntax c.args.raw.now) c.requires.read c.args.stop c.requires.stop

pub returns : goal.returns
returns c =
    let bytes = c.args.bytes.now in let raw = program_syntax c.args.raw.now in let line = c.in_ok-refusal.refusal.text.items in
    c.explained.ensures bytes line (names_refused bytes line c.in_ok-refusal.refusal.status raw c.args.stop c.requires.read c.requires.stop c.in_ok-refusal.ensures)
    (on_ok_weaker c.push_name_rest-added.result (names_follow bytes line c.push_name_rest-added.new.text.items raw c.requires.read c.args.stop c.requires.stop) c.push_name_rest-added.ensures)
