use Rattle.std.proofs.Common.{All, List, length, map, sym, ap, subst, ◌∙◌, arith}
use Rattle.std.specs.Prelude.{string_bytes}
use Rattle.std.proofs.lemmas.List.{length-map}
use Rattle.um_tree.specs.TypeTree.{ShapeTree, shape_tree}
use Rattle.um_tree.specs.ValueTree.{input_tree}
use Rattle.um_tree.specs.ProgramTree.{ProgramTree, program_tree}
use Rattle.um_tree.specs.Shapes.{note_shape}
use Rattle.um_tree.specs.Formed.{IsFormed}
use Rattle.um_measures.specs.ClosedUnits.{given}
use Rattle.um_value.specs.KnownNames.{known_in}
use Rattle.um_value.specs.ValueGrammar.{IsShapeIn}
use Rattle.um_infer.proofs.SchemeLists.{item_at}
use Rattle.um_run.specs.Calls.{AreInputs}
use Rattle.um_run.proofs.CallParts.{params_in, wrong_count}
use Rattle.um_run.proofs.Inputs.{inputs_formed}
use Rattle.um_run.proofs.read.read_known_call.Goals as goal

pub returns-then-texts-shapes : goal.returns-then-texts-shapes
returns-then-texts-shapes c = λ f declared.
    let many = length-map c.args.texts.now string_bytes in
    let wrong = wrong_count f (length c.args.texts.now) c.param_shapes-shapes.result.now c.if-texts-shapes.true (c.param_shapes-shapes.ensures.shapes f declared) in
    λ e. wrong (sym many ∙ e)

pub read_arguments-requires-clause-formed : goal.read_arguments-requires-clause-formed
read_arguments-requires-clause-formed c = subst (λ (program : ProgramTree). IsFormed program) (sym c.requires.names) c.requires.formed

pub read_arguments-requires-clause-shapes : goal.read_arguments-requires-clause-shapes
read_arguments-requires-clause-shapes c =
    let p = program_tree c.args.shaped.now in
    let w = item_at p.functions c.args.function c.requires.function in
    let all = params_in p c.requires.formed c.args.function w.0 w.1 in
    subst (λ (program : ProgramTree). All (IsShapeIn program.records) (map shape_tree c.param_shapes-shapes.result.now)) (sym c.requires.names)
    (subst (λ (ss : List ShapeTree). All (IsShapeIn p.records) ss) (sym (c.param_shapes-shapes.ensures.shapes w.0 w.1)) all)

pub read_arguments-requires-clause-few : goal.read_arguments-requires-clause-few
read_arguments-requires-clause-few c =
    let p = program_tree c.args.shaped.now in
    let w = item_at p.functions c.args.function c.requires.function in
    let few = (c.requires.formed.functions c.args.function w.0 w.1).few_params in
    let same = ap (λ (ss : List ShapeTree). length ss) (c.param_shapes-shapes.ensures.shapes w.0 w.1) in
    let shown = length-map c.param_shapes-shapes.result.now shape_tree in
    let own = length-map w.0.params note_shape in
    let count = c.if-texts-shapes.false in
    omega (arith, few, same, shown, own, count)

pub typed_call-requires-clause-inputs : goal.typed_call-requires-clause-inputs
typed_call-requires-clause-inputs c =
    let p = program_tree c.args.shaped.now in
    let shorts = (known_in c.args.names.now).shorts in
    let texts = map string_bytes c.args.texts.now in
    let inputs = map input_tree c.in_ok-inputs.inputs.items.items in
    let shapes = map shape_tree c.param_shapes-shapes.result.now in
    let read = subst (λ (program : ProgramTree). AreInputs (given program shorts) shapes texts inputs) c.requires.names c.in_ok-inputs.ensures in
    inputs_formed (given p shorts) c.requires.closed shapes texts inputs read
