use Rattle.std.proofs.Common.{◌≡◌, ◌≤◌, ap, ◌∙◌, map, true, false, Ok, arith, rules}
use Rattle.um_tree.specs.TypeTree.{note_tree}
use Rattle.um_tree.specs.TreeHeights.{note_tree_height}
use Rattle.um_tree.specs.Heights.{greatest_height}
use Rattle.um_tree.specs.ProgramTree.{function_tree}
use Rattle.um_tree.specs.Shapes.{note_shape}
use Rattle.um_shape.specs.FlatShapes.{flat_shape, flat_shapes, known_records, heads_shapes}
use Rattle.um_shape.specs.RecordShapes.{tallest}
use Rattle.um_shape.specs.FirstFault.{fits_result}
use Rattle.um_shape.proofs.Declarations.{All-unmapped, mapped_twice, function_deep, function_stops, function_other, function_fine}
use Rattle.um_shape.proofs.functions.head_of.Goals as goal

pub note_shapes-requires : goal.note_shapes-requires
note_shapes-requires c = rw c.deref.ensures.value (record { low = All-unmapped (λ n. note_tree_height n ≤ greatest_height) note_tree c.args.function.now.params.items.items c.requires.low.params })

pub returns-then-tallest-gt-GREATEST_HEIGHT-clause-found : goal.returns-then-tallest-gt-GREATEST_HEIGHT-clause-found
returns-then-tallest-gt-GREATEST_HEIGHT-clause-found c =
    let f = function_tree c.args.function.now in
    let notes = c.args.function.now.params.items.items in
    let records = known_records c.args.known.now.records.items in
    let known = heads_shapes c.args.known.now.heads.items in
    let shapes = flat_shapes c.in_ok-params.params.items in
    let seen : shapes ≡ map (λ n. note_shape (note_tree n)) notes = search rules in
    let top : c.tallest.result ≡ tallest records shapes = search rules in
    function_deep records known f shapes (seen ∙ mapped_twice note_shape note_tree notes) (omega (arith, top, c.if-tallest-gt-GREATEST_HEIGHT.true))

pub body_shape-requires-clause-params : goal.body_shape-requires-clause-params
body_shape-requires-clause-params c =
    let notes = c.args.function.now.params.items.items in
    let shapes = flat_shapes c.deref-4.result.now in
    let seen : shapes ≡ map (λ n. note_shape (note_tree n)) notes = search rules in
    seen ∙ mapped_twice note_shape note_tree notes

pub returns-in_err-result-clause-found : goal.returns-in_err-result-clause-found
returns-in_err-result-clause-found c =
    let f = function_tree c.args.function.now in
    let notes = c.args.function.now.params.items.items in
    let records = known_records c.args.known.now.records.items in
    let known = heads_shapes c.args.known.now.heads.items in
    let shapes = flat_shapes c.deref-4.result.now in
    let seen : shapes ≡ map (λ n. note_shape (note_tree n)) notes = search rules in
    let top : c.tallest.result ≡ tallest records shapes = search rules in
    let halts = function_stops records known f shapes (seen ∙ mapped_twice note_shape note_tree notes) c.in_err-result.field-0.0 (omega (arith, top, c.if-tallest-gt-GREATEST_HEIGHT.false)) c.in_err-result.ensures.found in
    search (rules, halts)

pub returns-then-not-fits_result-clause-found : goal.returns-then-not-fits_result-clause-found
returns-then-not-fits_result-clause-found c =
    let f = function_tree c.args.function.now in
    let notes = c.args.function.now.params.items.items in
    let records = known_records c.args.known.now.records.items in
    let known = heads_shapes c.args.known.now.heads.items in
    let shapes = flat_shapes c.deref-4.result.now in
    let seen : shapes ≡ map (λ n. note_shape (note_tree n)) notes = search rules in
    let top : c.tallest.result ≡ tallest records shapes = search rules in
    let fits : fits_result f.result (flat_shape c.in_ok-result.result) ≡ false = search rules in
    function_other records known f shapes (seen ∙ mapped_twice note_shape note_tree notes) (flat_shape c.in_ok-result.result) (omega (arith, top, c.if-tallest-gt-GREATEST_HEIGHT.false)) c.in_ok-result.ensures.found fits

pub returns-clause-found : goal.returns-clause-found
returns-clause-found c =
    let f = function_tree c.args.function.now in
    let notes = c.args.function.now.params.items.items in
    let records = known_records c.args.known.now.records.items in
    let known = heads_shapes c.args.known.now.heads.items in
    let shapes = flat_shapes c.deref-4.result.now in
    let seen : shapes ≡ map (λ n. note_shape (note_tree n)) notes = search rules in
    let same : shapes ≡ flat_shapes c.in_ok-params.params.items = search rules in
    let top : c.tallest.result ≡ tallest records shapes = search rules in
    let fits : fits_result f.result (flat_shape c.in_ok-result.result) ≡ true = search rules in
    function_fine records known f shapes (seen ∙ mapped_twice note_shape note_tree notes) (flat_shape c.in_ok-result.result) (omega (arith, top, c.if-tallest-gt-GREATEST_HEIGHT.false)) c.in_ok-result.ensures.found fits ∙ ap (λ ps. Ok (record { params = ps; result = flat_shape c.in_ok-result.result })) same
