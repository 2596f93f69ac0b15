use Rattle.std.proofs.lemmas.Result.{on_ok_weaker}
use Rattle.um_tree.specs.ProgramTree.{program_tree}
use Rattle.um_tree.specs.RawTree.{program_syntax}
use Rattle.um_explain_answers.proofs.StopPlaces.{infer_place}
use Rattle.um_explain_answers.proofs.Refusals.{schemes_refused, schemes_follow}
use Rattle.um_explain_answers.proofs.schemes.explain_schemes.Goals as goal

pub push_scheme_rest-added-requires-clause-place : goal.push_scheme_rest-added-requires-clause-place
push_scheme_rest-added-requires-clause-place c =
    infer_place c.args.bytes.now (program_syntax c.args.raw.now) c.requires.names.read (program_tree c.args.shaped.now) c.requires.names.resolved c.args.stop c.requires.inferred c.requires.typings

pub returns : goal.returns
returns c =
    let bytes = c.args.bytes.now in let raw = program_syntax c.args.raw.now in let p = program_tree c.args.shaped.now in
    let line = c.in_ok-refusal.refusal.text.items in
    c.explained.ensures bytes line (schemes_refused bytes line c.in_ok-refusal.refusal.status raw p c.requires.names c.requires.faultless c.in_ok-refusal.ensures)
    (on_ok_weaker c.push_scheme_rest-added.result
    (schemes_follow bytes line c.push_scheme_rest-added.new.text.items raw c.requires.names.read p c.requires.names.resolved c.args.stop c.requires.faultless c.requires.inferred)
    c.push_scheme_rest-added.ensures)
