use Rattle.std.proofs.Common.{◌≡◌, ◌<◌, length, get_or, slice_get, Some, subst, rules, arith}
use Rattle.std.proofs.lemmas.Result.{IfOk-weaker}
use Rattle.std.proofs.lemmas.List.{length-map}
use Rattle.um_tree.specs.declared.program.Schemes.{Schemes}
use Rattle.um_tree.specs.TypeTree.{type_tree, type_trees}
use Rattle.um_tree.specs.ProgramTree.{program_tree, scheme_tree}
use Rattle.um_infer.specs.Answers.{scheme_trees}
use Rattle.um_infer.proofs.InferenceLaws.{given_schemes_are_principal}
use Rattle.um_infer.proofs.SmallSchemes.{given_schemes_are_small}
use Rattle.um_sig.proofs.SignaturesIn.{formed_signatures_are_over_their_variables}
use Rattle.um_sig.specs.Answers.{IsConformed}
use Rattle.um_reports.specs.CallRefusals.{IsConformReply}
use Rattle.um_front.specs.Parts.{checked_tree}
use Rattle.um_front.proofs.CheckedTexts.{shaped_is_formed}
use Rattle.um_answers.specs.ConformAnswer.{MatchingAnswer}
use Rattle.um_answers.proofs.SchemesGiven.{as_many_schemes, scheme_at}
use Rattle.um_answers.proofs.conform.answer_matching.Goals as goal

pub index-scheme-requires : goal.index-scheme-requires
index-scheme-requires c =
    let p = program_tree c.args.checked.now.text.shaped in
    let formed = shaped_is_formed c.args.checked.now.text.text.bytes.items (checked_tree c.args.checked.now).text c.schemes.ensures.checked.shaped in
    let many = as_many_schemes p c.schemes.result.now.items.items formed c.schemes.ensures.inferred in
    omega (arith, many, c.requires.function)

pub conform-requires-clause-scheme : goal.conform-requires-clause-scheme
conform-requires-clause-scheme c =
    let p = program_tree c.args.checked.now.text.shaped in let ss = c.schemes.result.now.items.items in let s = c.index-scheme.result.now in
    let formed = shaped_is_formed c.args.checked.now.text.text.bytes.items (checked_tree c.args.checked.now).text c.schemes.ensures.checked.shaped in
    let many = as_many_schemes p ss formed c.schemes.ensures.inferred in
    let below : c.args.function < length ss = omega (arith, many, c.requires.function) in
    let found : s ≡ get_or ss c.args.function s = search rules in
    let given = given_schemes_are_principal p formed (scheme_trees c.schemes.result.now) c.schemes.ensures.inferred in
    (given.principal c.args.function (scheme_tree s) (scheme_at ss c.args.function s below found)).below

pub conform-requires-clause-few : goal.conform-requires-clause-few
conform-requires-clause-few c =
    let p = program_tree c.args.checked.now.text.shaped in let ss = c.schemes.result.now.items.items in let s = c.index-scheme.result.now in
    let formed = shaped_is_formed c.args.checked.now.text.text.bytes.items (checked_tree c.args.checked.now).text c.schemes.ensures.checked.shaped in
    let many = as_many_schemes p ss formed c.schemes.ensures.inferred in
    let below : c.args.function < length ss = omega (arith, many, c.requires.function) in
    let found : s ≡ get_or ss c.args.function s = search rules in
    (given_schemes_are_small p formed (scheme_trees c.schemes.result.now) c.schemes.ensures.inferred c.args.function (scheme_tree s) (scheme_at ss c.args.function s below found)).0

pub conform-requires-clause-signature : goal.conform-requires-clause-signature
conform-requires-clause-signature c =
    let p = program_tree c.args.checked.now.text.shaped in let signature = c.args.signature.now in
    (formed_signatures_are_over_their_variables (length p.bases) signature.vars p.records (type_trees signature.types) c.requires.signature).0

pub conform-requires-clause-params : goal.conform-requires-clause-params
conform-requires-clause-params c =
    let p = program_tree c.args.checked.now.text.shaped in let ss = c.schemes.result.now.items.items in let s = c.index-scheme.result.now in
    let formed = shaped_is_formed c.args.checked.now.text.text.bytes.items (checked_tree c.args.checked.now).text c.schemes.ensures.checked.shaped in
    let many = as_many_schemes p ss formed c.schemes.ensures.inferred in
    let below : c.args.function < length ss = omega (arith, many, c.requires.function) in
    let found : s ≡ get_or ss c.args.function s = search rules in
    let small = (given_schemes_are_small p formed (scheme_trees c.schemes.result.now) c.schemes.ensures.inferred c.args.function (scheme_tree s) (scheme_at ss c.args.function s below found)).1 in
    let counted = length-map s.params.items.items type_tree in
    omega (arith, small, counted)

pub returns : goal.returns
unfolding MatchingAnswer
returns c =
    let p = program_tree c.args.checked.now.text.shaped in let ss = c.schemes.result.now.items.items in let s = c.index-scheme.result.now in
    let formed = shaped_is_formed c.args.checked.now.text.text.bytes.items (checked_tree c.args.checked.now).text c.schemes.ensures.checked.shaped in
    let many = as_many_schemes p ss formed c.schemes.ensures.inferred in
    let below : c.args.function < length ss = omega (arith, many, c.requires.function) in
    let found : s ≡ get_or ss c.args.function s = search rules in
    let at : slice_get (scheme_trees c.schemes.result.now) c.args.function ≡ Some (scheme_tree s) = scheme_at ss c.args.function s below found in
    let types = type_trees c.args.signature.now.types in let checked = checked_tree c.args.checked.now in
    let there = subst (λ (given : Schemes). slice_get (scheme_trees given) c.args.function ≡ Some (scheme_tree s)) c.schemes.ensures.schemes at in
    let conformed = subst (λ n. IsConformed n (scheme_tree s) types c.conform.result) c.base_count-bases.ensures.count c.conform.ensures.conformed in
    IfOk-weaker c.reply_to_matching.result (λ reply. IsConformReply c.args.name.now c.conform.result reply.text.items reply.status)
    (λ reply. MatchingAnswer c.args.function c.args.name.now checked types reply.text.items reply.status)
    (λ reply says. (scheme_tree s, there, (c.conform.result, conformed, says)))
    c.reply_to_matching.ensures
