use Rattle.std.proofs.Common.{◌+◌, ◌*◌, [], ◌∷◌, map, sym, ap, ◌∙◌, arith}
use Rattle.std.proofs.lemmas.List.{length-map, get_or-map}
use Rattle.um_tree.specs.TypeTree.{type_tree}
use Rattle.um_tree.specs.ProgramTree.{program_tree}
use Rattle.um_agree.specs.declared.agreements.Told.{Told as Agreed}
use Rattle.um_agree.specs.Answers.{agreement_tree}
use Rattle.um_unit_reasons.specs.TypeTexts.{told}
use Rattle.um_unit_reasons.specs.Answers.{told_trees}
use Rattle.um_unit_reasons.proofs.LoopSteps.{more_told}
use Rattle.um_unit_reasons.proofs.texts.push_told.Goals as goal

pub loop-j-preserved : goal.loop-j-preserved
loop-j-preserved c =
    let p = program_tree c.args.program.now in
    let texts = c.args.texts.now in
    let agreements = c.args.agreements.now in
    let types = c.args.types.now in
    let j = c.loop-j.j in
    let x = c.index-agreements-j.result in
    let a = agreement_tree x.agreement in
    let s = type_tree c.index-types-j.result in
    let t = type_tree c.index-types-j-in-loop-j.result in
    let all = length-map types type_tree in
    let ones = length-map agreements (λ (y : Agreed). agreement_tree y.agreement) in
    let inside = c.loop-j-test.true in
    let asked = c.requires in
    more_told p texts (told_trees agreements) (map type_tree types) j c.args.all.now.items c.loop-j.all.items c.push.new.self.items c.in_ok-told_of.field-0 a s t
    (omega (arith, all, ones, asked)) (omega (arith, inside, ones))
    (get_or-map (λ (y : Agreed). agreement_tree y.agreement) agreements j x a (omega (arith, inside)) ∙ ap (λ (y : Agreed). agreement_tree y.agreement) (sym c.index-agreements-j.is))
    (get_or-map type_tree types (2 * j) c.index-types-j.result s (omega (arith, inside, asked)) ∙ ap type_tree (sym c.index-types-j.is))
    (get_or-map type_tree types (2 * j + 1) c.index-types-j-in-loop-j.result t (omega (arith, inside, asked)) ∙ ap type_tree (sym c.index-types-j-in-loop-j.is))
    c.loop-j.invariant (c.in_ok-told_of.ensures ∙ ap (λ (y : Agreed). told p texts (agreement_tree y.agreement ∷ []) (s ∷ t ∷ [])) (sym c.index-agreements-j.is)) c.in_ok-push.ensures.items
