use Rattle.std.proofs.Common.{◌≡◌, ◌++◌, ℕ, List, map, drop, length, ap, ◌∙◌}
use Rattle.std.proofs.lemmas.Result.{on_ok_weaker}
use Rattle.um_tree.specs.declared.types.Ty.{Ty}
use Rattle.um_tree.specs.TypeTree.{type_tree}
use Rattle.um_tree.specs.ProgramTree.{program_tree}
use Rattle.um_unit_reasons.specs.declared.named.Named.{Named}
use Rattle.um_unit_reasons.specs.TypeTexts.{told}
use Rattle.um_unit_reasons.specs.Answers.{told_trees}
use Rattle.um_unit_reasons.proofs.texts.push_numbered.Goals as goal

pub returns : goal.returns
returns c =
    let p = program_tree c.args.program.now in
    let named = c.args.numbering.now.named.items in
    let types = c.args.numbering.now.types.items.items in
    let letters = c.args.letters.now in
    let agreed = told_trees c.args.agreements.now in
    let before = c.args.all.now.items in
    let texts : List (List ℕ) = map (λ (n : Named). n.text) named ++ letters in
    let texts_are : c.deref-3.result.now ≡ texts =
    c.deref-3.ensures.value ∙ c.in_ok-texts.ensures ∙ ap (λ (ns : List Named). map (λ (n : Named). n.text) ns ++ letters) c.deref.ensures.value in
    let types_are : c.types_after-types.result.now ≡ drop (length named) types =
    c.types_after-types.ensures ∙ ap (λ n. drop n c.deref-2.result.now) (c.len.ensures ∙ c.args.numbering.now.named.ok.0)
    ∙ ap (drop (length named)) c.deref-2.ensures.value in
    on_ok_weaker c.push_told.result
    (λ e.
    e ∙ ap (λ xs. before ++ told p xs agreed (map type_tree c.types_after-types.result.now)) texts_are
    ∙ ap (λ (ts : List Ty). before ++ told p texts agreed (map type_tree ts)) types_are)
    c.push_told.ensures
