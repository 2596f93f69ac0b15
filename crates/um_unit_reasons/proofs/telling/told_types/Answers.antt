use Rattle.std.proofs.Common.{◌≡◌, [], length, refl, arith}
use Rattle.um_tree.specs.TypeTree.{type_tree}
use Rattle.um_unit_reasons.specs.UnitReasons.{own_named, own_types}
use Rattle.um_unit_reasons.specs.Answers.{refusal_of}
use Rattle.um_unit_reasons.proofs.TellingSteps.{length_numbered}
use Rattle.um_unit_reasons.proofs.telling.told_types.Goals as goal

pub told_after-told-requires-clause-own : goal.told_after-told-requires-clause-own
told_after-told-requires-clause-own c =
    let x = c.args.x.now in
    let r = refusal_of x [] in
    let types = own_types r (type_tree c.args.first) (type_tree c.args.second) in
    let two : length types ≡ 2 = refl in
    let all = length_numbered (own_named r) types c.in_ok-own.own (c.in_ok-own.ensures []) in
    omega (arith, all, two, c.requires.single)

pub returns : goal.returns
returns c = λ agreed.
    c.told_after-told.ensures agreed (own_types (refusal_of c.args.x.now agreed) (type_tree c.args.first) (type_tree c.args.second)) (c.in_ok-own.ensures agreed)
