use Rattle.std.proofs.Common.{◌≡◌, ◌≤◌, ◌+◌, sym, ap, ◌∙◌, map, Ok, arith, rules}
use Rattle.um_tree.specs.TypeTree.{type_tree}
use Rattle.um_tree.specs.TreeHeights.{type_tree_height}
use Rattle.um_tree.specs.Heights.{greatest_height}
use Rattle.um_tree.specs.ProgramTree.{field_tree, record_tree}
use Rattle.um_tree.specs.Typing.{field_types}
use Rattle.um_tree.specs.Shapes.{type_shape}
use Rattle.um_shape.specs.FlatShapes.{flat_shapes, known_records}
use Rattle.um_shape.specs.RecordShapes.{tallest}
use Rattle.um_shape.proofs.Declarations.{All-unmapped, mapped_twice, record_deep, record_fine}
use Rattle.um_shape.proofs.records.known_record.Goals as goal

pub field_shapes-requires : goal.field_shapes-requires
field_shapes-requires c = rw c.deref.ensures.value (record { low = All-unmapped (λ f. type_tree_height f.type ≤ greatest_height) field_tree c.args.declared.now.fields.items.items c.requires.low })

pub returns-then-top-ge-GREATEST_HEIGHT : goal.returns-then-top-ge-GREATEST_HEIGHT
returns-then-top-ge-GREATEST_HEIGHT c =
    let d = record_tree c.args.declared.now in
    let fields = c.args.declared.now.fields.items.items in
    let earlier = known_records c.args.earlier.now in
    let shapes = flat_shapes c.in_ok-fields.fields.items in
    let seen : shapes ≡ map (λ f. type_shape (type_tree f.ty)) fields = search rules in
    let same : shapes ≡ map type_shape (field_types d) = seen ∙ mapped_twice (λ f. type_shape f.type) field_tree fields ∙ mapped_twice type_shape (λ f. f.type) (map field_tree fields) in
    let top : c.tallest-top.result ≡ tallest earlier shapes = search rules in
    record_deep earlier d shapes same (omega (arith, top, c.if-top-ge-GREATEST_HEIGHT.true))

pub returns : goal.returns
returns c =
    let d = record_tree c.args.declared.now in
    let fields = c.args.declared.now.fields.items.items in
    let earlier = known_records c.args.earlier.now in
    let shapes = flat_shapes c.in_ok-fields.fields.items in
    let seen : shapes ≡ map (λ f. type_shape (type_tree f.ty)) fields = search rules in
    let same : shapes ≡ map type_shape (field_types d) = seen ∙ mapped_twice (λ f. type_shape f.type) field_tree fields ∙ mapped_twice type_shape (λ f. f.type) (map field_tree fields) in
    let top : c.tallest-top.result ≡ tallest earlier shapes = search rules in
    record_fine earlier d shapes same (omega (arith, top, c.if-top-ge-GREATEST_HEIGHT.false)) ∙ ap (λ n. Ok (record { fields = shapes; height = n + 1 })) (sym top)
