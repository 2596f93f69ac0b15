use Rattle.std.proofs.Common.{◌≡◌, ◌<◌, ◌≤◌, List, ℕ, map, length, Some, slice_get, sym, ap, subst, ◌∙◌, arith}
use Rattle.std.specs.Prelude.{string_bytes}
use Rattle.std.proofs.lemmas.List.{length-map}
use Rattle.um_tree.specs.TypeTree.{shape_tree}
use Rattle.um_tree.specs.ValueTree.{input_tree}
use Rattle.um_tree.proofs.Moved.{All_at}
use Rattle.um_value.specs.ValueGrammar.{IsShapeIn}
use Rattle.um_run.specs.Reading.{known_names}
use Rattle.um_run.proofs.OneByOne.{shown_at, one_more, one_refused, all_read}
use Rattle.um_run.proofs.argument.read_arguments.Goals as goal

pub add_argument-requires-clause-shape : goal.add_argument-requires-clause-shape
add_argument-requires-clause-shape c =
    let shapes = c.args.shapes.now in
    let k = c.loop-k.k in
    let x = c.index-shapes-k.result in
    let within : k < length shapes = omega (arith, c.loop-k-test.true, c.requires.count) in
    All_at (IsShapeIn (known_names c.args.known.now).program.records) (map shape_tree shapes) k (shape_tree x) (shown_at shape_tree shapes k x within c.index-shapes-k.is) c.requires.shapes

pub add_argument-requires-clause-short : goal.add_argument-requires-clause-short
add_argument-requires-clause-short c =
    let texts = c.args.texts.now in
    let k = c.loop-k.k in
    let x = c.index-texts-k.result in
    subst (λ (text : List ℕ). length text ≤ 1048576) (sym c.as_str-text.ensures.value)
    (All_at (λ (text : List ℕ). length text ≤ 1048576) (map string_bytes texts) k (string_bytes x) (shown_at string_bytes texts k x c.loop-k-test.true c.index-texts-k.is) c.requires.short)

pub loop-k-preserved : goal.loop-k-preserved
loop-k-preserved c =
    let k = c.loop-k.k in
    let within : k < length c.args.shapes.now = omega (arith, c.loop-k-test.true, c.requires.count) in
    let shape = shown_at shape_tree c.args.shapes.now k c.index-shapes-k.result within c.index-shapes-k.is in
    let text : slice_get (map string_bytes c.args.texts.now) k ≡ Some c.as_str-text.result.now =
    shown_at string_bytes c.args.texts.now k c.index-texts-k.result c.loop-k-test.true c.index-texts-k.is ∙ ap (λ (t : List ℕ). Some t) (sym c.as_str-text.ensures.value) in
    one_more (known_names c.args.known.now) (map shape_tree c.args.shapes.now) (map string_bytes c.args.texts.now) k (map input_tree c.loop-k.items.items) c.loop-k.invariant
    (shape_tree c.index-shapes-k.result) c.as_str-text.result.now shape text (map input_tree c.add_argument.new.inputs.items) c.in-Ok.ensures

pub returns-in-Err : goal.returns-in-Err
returns-in-Err c =
    let k = c.loop-k.k in
    let within : k < length c.args.shapes.now = omega (arith, c.loop-k-test.true, c.requires.count) in
    let shape = shown_at shape_tree c.args.shapes.now k c.index-shapes-k.result within c.index-shapes-k.is in
    let text : slice_get (map string_bytes c.args.texts.now) k ≡ Some c.as_str-text.result.now =
    shown_at string_bytes c.args.texts.now k c.index-texts-k.result c.loop-k-test.true c.index-texts-k.is ∙ ap (λ (t : List ℕ). Some t) (sym c.as_str-text.ensures.value) in
    one_refused (known_names c.args.known.now) (map shape_tree c.args.shapes.now) (map string_bytes c.args.texts.now) k (map input_tree c.loop-k.items.items) c.loop-k.invariant
    (shape_tree c.index-shapes-k.result) c.as_str-text.result.now shape text (map input_tree c.loop-k.items.items) (map input_tree c.add_argument.new.inputs.items) c.in-Err.refusal c.in-Err.ensures

pub returns : goal.returns
returns c =
    let n = length-map c.args.shapes.now shape_tree in
    let m = length-map c.args.texts.now string_bytes in
    all_read (known_names c.args.known.now) (map shape_tree c.args.shapes.now) (map string_bytes c.args.texts.now) c.loop-k.k (map input_tree c.loop-k.items.items) c.loop-k.invariant (omega (arith, c.loop-k-test.false, c.requires.count)) (omega (arith, c.loop-k-test.false))
