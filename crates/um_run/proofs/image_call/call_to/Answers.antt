use Rattle.std.proofs.Common.{◌≡◌, List, All, length, map, refl, sym, subst, ◌∙◌, arith, Err}
use Rattle.std.specs.Prelude.{string_bytes}
use Rattle.std.proofs.lemmas.List.{length-map}
use Rattle.std.proofs.lemmas.Option.{same_Some}
use Rattle.um_tree.specs.declared.types.Shape.{Shape}
use Rattle.um_tree.specs.TypeTree.{shape_tree}
use Rattle.um_tree.specs.ValueTree.{input_tree}
use Rattle.um_value.specs.ValueGrammar.{IsShapeIn}
use Rattle.um_run.specs.Calls.{AreInputs}
use Rattle.um_run.specs.Reading.{AreArgumentsRead}
use Rattle.um_verify.specs.ImageTree.{HeadTree, head_tree, image_tree}
use Rattle.um_run.specs.ImageCalls.{known_in, IsImageCallTo}
use Rattle.um_run.proofs.ImagePrograms.{formed, params_in, few_params}
use Rattle.um_run.proofs.ImageCallLaws.{listed_head, refused_to}
use Rattle.um_run.proofs.image_call.call_to.Goals as goal

pub arguments_of-requires-clause-formed : goal.arguments_of-requires-clause-formed
arguments_of-requires-clause-formed c = formed (image_tree c.args.image.now) c.requires.verified c.requires.few

pub arguments_of-requires-clause-shapes : goal.arguments_of-requires-clause-shapes
arguments_of-requires-clause-shapes c =
    let image = image_tree c.args.image.now in
    let g = c.index-heads-function.result in
    let listed = listed_head c.args.image.now c.deref-heads.result.now c.args.function g c.deref-heads.ensures.value c.requires.function c.index-heads-function.is in
    subst (λ (ss : List Shape). All (IsShapeIn image.records) (map shape_tree ss)) (sym c.deref.ensures.value) (params_in image c.requires.verified c.requires.few c.args.function (head_tree g) listed)

pub arguments_of-requires-clause-few : goal.arguments_of-requires-clause-few
arguments_of-requires-clause-few c =
    let image = image_tree c.args.image.now in
    let g = c.index-heads-function.result in
    let listed = listed_head c.args.image.now c.deref-heads.result.now c.args.function g c.deref-heads.ensures.value c.requires.function c.index-heads-function.is in
    let low = few_params image c.requires.verified c.requires.few c.args.function (head_tree g) listed in
    let shown = length-map g.params.items.items shape_tree in
    let len = c.len.ensures ∙ g.params.items.ok.0 in
    let same = c.if-texts-len.false in
    omega (arith, low, shown, len, same)

pub returns-in-Ok : goal.returns-in-Ok
returns-in-Ok c = λ h e.
    let known = known_in (image_tree c.args.image.now) in
    let g = c.index-heads-function.result in
    let texts = map string_bytes c.args.texts.now in
    let inputs = map input_tree c.in-Ok.inputs.items.items in
    let listed = listed_head c.args.image.now c.deref-heads.result.now c.args.function g c.deref-heads.ensures.value c.requires.function c.index-heads-function.is in
    let own : head_tree g ≡ h = same_Some (head_tree g) h (sym listed ∙ e) in
    let read = subst (λ (ss : List Shape). AreInputs known (map shape_tree ss) texts inputs) c.deref.ensures.value c.in-Ok.ensures in
    (refl, subst (λ (x : HeadTree). AreInputs known x.params texts inputs) own read)

pub returns-in-Err : goal.returns-in-Err
returns-in-Err c = λ h e.
    let image = image_tree c.args.image.now in
    let g = c.index-heads-function.result in
    let texts = map string_bytes c.args.texts.now in
    let listed = listed_head c.args.image.now c.deref-heads.result.now c.args.function g c.deref-heads.ensures.value c.requires.function c.index-heads-function.is in
    let own : head_tree g ≡ h = same_Some (head_tree g) h (sym listed ∙ e) in
    let shown = length-map g.params.items.items shape_tree in
    let names = length-map c.args.texts.now string_bytes in
    let len = c.len.ensures ∙ g.params.items.ok.0 in
    let same = c.if-texts-len.false in
    let count : length texts ≡ length (head_tree g).params = omega (arith, shown, names, len, same) in
    let read = subst (λ (ss : List Shape). AreArgumentsRead (known_in image) (map shape_tree ss) texts (Err c.in-Err.refusal)) c.deref.ensures.value c.in-Err.ensures in
    subst (λ (x : HeadTree). IsImageCallTo image c.args.function x texts (Err c.in-Err.refusal)) own (refused_to image c.args.function (head_tree g) texts c.in-Err.refusal count read)
