use Rattle.std.proofs.Common.{[], subst, arith}
use Rattle.std.proofs.lemmas.List.{length-map}
use Rattle.um_agree.specs.declared.agreements.Told.{Told as Agreed}
use Rattle.um_agree.specs.Answers.{agreement_tree}
use Rattle.um_unit_reasons.specs.UnitReasons.{other_named, types_of}
use Rattle.um_unit_reasons.specs.Answers.{IsNumberingOf, refusal_of, told_trees}
use Rattle.um_unit_reasons.proofs.TellingSteps.{length_numbered, two_of_each}
use Rattle.um_unit_reasons.proofs.telling.told_after.Goals as goal

pub told_numbered-told-requires-clause-others : goal.told_numbered-told-requires-clause-others
told_numbered-told-requires-clause-others c =
    let x = c.args.x.now in
    let items = c.args.agreements.now.others.items in
    let others = c.in_ok-others.others in
    let is = subst (λ xs. IsNumberingOf (other_named (refusal_of x [])) (types_of (told_trees xs)) others) c.deref.ensures.value (c.in_ok-others.ensures []) in
    let all = length_numbered (other_named (refusal_of x [])) (types_of (told_trees items)) others is in
    let two = two_of_each (told_trees items) in
    let ones = length-map items (λ (t : Agreed). agreement_tree t.agreement) in
    omega (arith, all, two, ones)

pub returns : goal.returns
returns c = λ agreed types own.
    let x = c.args.x.now in
    c.told_numbered-told.ensures agreed types own (subst (λ xs. IsNumberingOf (other_named (refusal_of x agreed)) (types_of (told_trees xs)) c.in_ok-others.others) c.deref.ensures.value (c.in_ok-others.ensures agreed))
