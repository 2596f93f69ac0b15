use Rattle.std.proofs.lemmas.Result.{on_ok_weaker}
use Rattle.um_tree.specs.RawTree.{program_syntax}
use Rattle.um_explain_answers.proofs.StopPlaces.{shape_place}
use Rattle.um_explain_answers.proofs.Refusals.{shapes_refused, shapes_follow}
use Rattle.um_explain_answers.proofs.names.explain_shapes.Goals as goal

pub push_shape_rest-added-requires-clause-place : goal.push_shape_rest-added-requires-clause-place
push_shape_rest-added-requires-clause-place c =
    let (p, resolved, fault) = c.requires.stop in
    shape_place c.args.bytes.now (program_syntax c.args.raw.now) c.requires.read p resolved c.args.stop fault

pub returns : goal.returns
returns c =
    let bytes = c.args.bytes.now in let raw = program_syntax c.args.raw.now in let line = c.in_ok-refusal.refusal.text.items in
    let (p, resolved, fault) = c.requires.stop in
    c.explained.ensures bytes line (shapes_refused bytes line c.in_ok-refusal.refusal.status raw p c.args.stop c.requires.read resolved fault c.in_ok-refusal.ensures)
    (on_ok_weaker c.push_shape_rest-added.result (shapes_follow bytes line c.push_shape_rest-added.new.text.items raw c.requires.read p resolved c.args.stop fault) (c.push_shape_rest-added.ensures p resolved))
