use Rattle.std.proofs.Common.{◌≡◌, map, refl, ap, ◌∙◌, rules}
use Rattle.um_tree.specs.TypeTree.{type_tree}
use Rattle.um_tree.specs.ExprTree.{expr_tree}
use Rattle.um_tree.specs.ProgramTree.{result_tree}
use Rattle.um_equal_types.specs.Steps.{first_past}
use Rattle.um_equal_types.specs.Pushed.{StopsPast}
use Rattle.um_rows.specs.Walk.{Walked}
use Rattle.um_rows.specs.Body.{body_steps}
use Rattle.um_rows.specs.NodeTypes.{typed_node}
use Rattle.um_rows.proofs.BodyLaws.{body_stops, type_is, note_stops, body_ends}
use Rattle.um_rows.proofs.KeptNodes.{kept_derived}
use Rattle.um_rows.proofs.equations.body_rows.Goals as goal

pub returns-in_err-result-clause-rows : goal.returns-in_err-result-clause-rows
returns-in_err-result-clause-rows c =
    let walk = c.args.walk.now in
    let records = walk.records.now in
    let schemes = walk.schemes.now in
    let context = walk.context in
    let definition = c.args.definition.now in
    let note = result_tree definition.result.now in
    let body = expr_tree definition.body.now in
    let err = c.in_err-result.field-0.0 in
    let scope = map type_tree c.in_ok-scope.scope.items in
    let same : scope ≡ map type_tree context.params.items = c.in_ok-scope.ensures ∙ ap (map type_tree) c.deref.ensures.value in
    let stops : StopsPast (first_past (body_steps records schemes context c.args.head definition.at note body)) err = body_stops records schemes context c.args.head definition.at note body c.new.result.items scope same err c.in_err-result.ensures.reached in
    search (rules, stops)

pub returns-in_err-note_against-clause-rows : goal.returns-in_err-note_against-clause-rows
returns-in_err-note_against-clause-rows c =
    let walk = c.args.walk.now in
    let records = walk.records.now in
    let schemes = walk.schemes.now in
    let context = walk.context in
    let definition = c.args.definition.now in
    let note = result_tree definition.result.now in
    let body = expr_tree definition.body.now in
    let err = c.in_err-note_against.field-0.0 in
    let scope = map type_tree c.in_ok-scope.scope.items in
    let same : scope ≡ map type_tree context.params.items = c.in_ok-scope.ensures ∙ ap (map type_tree) c.deref.ensures.value in
    let progress = c.derive.new.state.progress in
    let stops : StopsPast (first_past (body_steps records schemes context c.args.head definition.at note body)) err =
    note_stops records schemes context c.args.head definition.at note body c.new.result.items scope same (record { type = type_tree c.in_ok-result.result; rows = progress.rows.items; holes = progress.holes }) c.in_ok-result.ensures.reached err c.in_err-note_against.ensures in
    search (rules, stops)

pub returns-clause-rows : goal.returns-clause-rows
returns-clause-rows c =
    let walk = c.args.walk.now in
    let records = walk.records.now in
    let schemes = walk.schemes.now in
    let context = walk.context in
    let definition = c.args.definition.now in
    let note = result_tree definition.result.now in
    let body = expr_tree definition.body.now in
    let scope = map type_tree c.in_ok-scope.scope.items in
    let same : scope ≡ map type_tree context.params.items = c.in_ok-scope.ensures ∙ ap (map type_tree) c.deref.ensures.value in
    let progress = c.derive.new.state.progress in
    let w : Walked = record { type = type_tree c.in_ok-result.result; rows = progress.rows.items; holes = progress.holes } in
    let ends = body_ends records schemes context c.args.head definition.at note body c.new.result.items scope same w c.in_ok-result.ensures.reached c.new.ensures.items c.note_against.new.rows.items c.in_ok-note_against.ensures in
    record {
      in_range = ends.0;
      slots_are = refl;
      list_is = ends.1;
      params_are = ap (map type_tree) c.in_ok-result.ensures.scope ∙ same;
      result_is = type_is records schemes context c.args.head definition.at note body c.new.result.items scope same w c.in_ok-result.ensures.reached;
    }

pub returns-clause-nodes : goal.returns-clause-nodes
returns-clause-nodes c = λ asked.
    let walk = c.args.walk.now in
    let context = walk.context in
    let body = expr_tree c.args.definition.now.body.now in
    let scope = map type_tree c.in_ok-scope.scope.items in
    let same : scope ≡ map type_tree context.params.items = c.in_ok-scope.ensures ∙ ap (map type_tree) c.deref.ensures.value in
    let progress = c.derive.new.state.progress in
    let w : Walked = record { type = type_tree c.in_ok-result.result; rows = progress.rows.items; holes = progress.holes } in
    kept_derived walk.records.now walk.schemes.now context c.args.head body c.new.result.items scope same walk.keep asked w c.in_ok-result.ensures.reached (map typed_node c.new-kept.result.items) (map typed_node c.derive.new.state.kept.items) (ap (map typed_node) c.new-kept.ensures.items) c.in_ok-result.ensures.kept
