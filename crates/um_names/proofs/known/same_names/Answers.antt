use Rattle.std.proofs.Common.{◌<◌, ◌+◌, map, drop, length, sym, ap, ◌∙◌, arith}
use Rattle.std.proofs.lemmas.List.{length-map}
use Rattle.um_tree.specs.ProgramTree.{FieldTree, field_tree}
use Rattle.um_tree.specs.RawTree.{FieldPart, field_part}
use Rattle.um_names.specs.ExprNames.{same_names}
use Rattle.um_measures.proofs.Stages.{map_from_more}
use Rattle.um_names.proofs.FieldNames.{other_length, same_next, same_stops}
use Rattle.um_names.proofs.known.same_names.Goals as goal

pub returns-then-decls-fields : goal.returns-then-decls-fields
returns-then-decls-fields c =
    let ds = c.args.decls.now in
    let fs = c.args.fields.now in
    sym (other_length (map (λ d. d.name) (map field_tree ds)) (map (λ f. f.name) (map field_part fs)) (λ e.
    c.if-decls-fields.true (omega (arith, e, length-map (map field_tree ds) (λ d. d.name), length-map ds field_tree, length-map (map field_part fs) (λ f. f.name), length-map fs field_part))))

pub returns-then-not-same_name : goal.returns-then-not-same_name
returns-then-not-same_name c =
    let ds = c.args.decls.now in
    let fs = c.args.fields.now in
    let i = c.loop-i.i in
    let d = c.index-decls-i.result in
    let f = c.index-fields-i.result in
    let below : i < length fs = omega (arith, c.loop-i-test.true, c.if-decls-fields.false) in
    sym (same_stops (same_names (map (λ d. d.name) (map field_tree ds)) (map (λ f. f.name) (map field_part fs))) (map (λ d. d.name) (map field_tree (drop (i + 1) ds))) (map (λ f. f.name) (map field_part (drop (i + 1) fs))) d.name (field_part f).name
    (map (λ d. d.name) (map field_tree (drop i ds))) (map (λ f. f.name) (map field_part (drop i fs))) c.loop-i.invariant
    (ap (map (λ (g : FieldTree). g.name)) (map_from_more field_tree ds i d c.loop-i-test.true c.index-decls-i.is)) (ap (map (λ (g : FieldPart). g.name)) (map_from_more field_part fs i f below c.index-fields-i.is))
    (sym c.same_name.ensures ∙ c.if-not-same_name.true))

pub loop-i-preserved : goal.loop-i-preserved
loop-i-preserved c =
    let ds = c.args.decls.now in
    let fs = c.args.fields.now in
    let i = c.loop-i.i in
    let d = c.index-decls-i.result in
    let f = c.index-fields-i.result in
    let below : i < length fs = omega (arith, c.loop-i-test.true, c.if-decls-fields.false) in
    same_next (same_names (map (λ d. d.name) (map field_tree ds)) (map (λ f. f.name) (map field_part fs))) (map (λ d. d.name) (map field_tree (drop (i + 1) ds))) (map (λ f. f.name) (map field_part (drop (i + 1) fs))) d.name (field_part f).name
    (map (λ d. d.name) (map field_tree (drop i ds))) (map (λ f. f.name) (map field_part (drop i fs))) c.loop-i.invariant
    (ap (map (λ (g : FieldTree). g.name)) (map_from_more field_tree ds i d c.loop-i-test.true c.index-decls-i.is)) (ap (map (λ (g : FieldPart). g.name)) (map_from_more field_part fs i f below c.index-fields-i.is))
    (sym c.same_name.ensures ∙ c.if-not-same_name.false)
