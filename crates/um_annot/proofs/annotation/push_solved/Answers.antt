use Rattle.std.proofs.Common.{◌≡◌, ℕ, ◌++◌, ◌+◌, ◌<◌, ◌≤◌, [], ◌∷◌, List, None, map, take, drop, length, get_or, refl, sym, ap, ◌∙◌, subst, rules, arith}
use Rattle.std.proofs.lemmas.List.{append-nil, drop_more, map-append, length-set, take_all, get_or_read}
use Rattle.std.proofs.lemmas.List.Elements.{All-get_or}
use Rattle.std.proofs.lemmas.Result.{err_from_is_err_and}
use Rattle.um_units.specs.PowerMap.{nth}
use Rattle.um_tree.specs.Typing.{put}
use Rattle.um_tree.specs.TypeTree.{TypeTree, type_tree}
use Rattle.um_rows.specs.declared.nodes.NodeType.{NodeType}
use Rattle.um_annot.specs.declared.order.Placed.{Placed}
use Rattle.um_annot.specs.Annotated.{first_past, node_types}
use Rattle.um_annot.specs.Answers.{StopsAt, node_at, solved_nodes}
use Rattle.um_annot.specs.Placing.{placed_nodes, type_of}
use Rattle.um_annot.proofs.PlacedNodes.{placed_more, placed_split, still_left, taken_type}
use Rattle.um_annot.proofs.AnnotSteps.{range_more, pushed_more, stops_among}
use Rattle.um_annot.proofs.annotation.push_solved.Goals as goal

abbrev none : Placed
none = record { at = 0; node = 0 }

same_item : (order : List Placed) (i : ℕ) → i < length order → get_or order i none ≡ get_or order i (get_or order i none)
same_item order i below =
    let item = get_or order i none in
    let both : item ∷ drop (i + 1) order ≡ get_or order i item ∷ drop (i + 1) order = sym (drop_more order i none below) ∙ drop_more order i item below in
    cc both

pub loop-placed-init : goal.loop-placed-init
loop-placed-init c =
    let same : c.reserve.new.self.items ≡ c.args.types.now.items = search rules in
    record {
      count = refl;
      left = λ j q low at. refl;
      solved = ap (map type_tree) same ∙ sym (append-nil (map type_tree c.args.types.now.items));
      range = refl;
    }

pub index_mut-requires : goal.index_mut-requires
index_mut-requires c =
    let nodes = c.args.nodes.now.items in
    let order = c.args.order.now in
    let i = c.loop-placed.placed-index in
    let within = All-get_or (λ (q : Placed). q.node < length nodes) order i none c.loop-placed-test.true c.requires.numbers.within in
    let count = c.loop-placed.invariant.count in
    omega (arith, within, count)

pub loop-placed-preserved : goal.loop-placed-preserved
loop-placed-preserved c =
    let us = c.args.solver.now.units in
    let old = c.args.nodes.now.items in
    let now = c.loop-placed.nodes.items in
    let order = c.args.order.now in
    let i = c.loop-placed.placed-index in
    let p = get_or order i none in
    let below = c.loop-placed-test.true in
    let is = same_item order i below in
    let inv = c.loop-placed.invariant in
    let count = inv.count in
    let within = All-get_or (λ (q : Placed). q.node < length old) order i none below c.requires.numbers.within in
    let inside : p.node < length now = omega (arith, within, count) in
    let n = c.index_mut.result.now in
    let ty = c.replace-ty.result in
    let taken : type_tree ty ≡ type_of old p.node = taken_type now old order i p n ty below is inside (get_or_read now p.node n inside c.index_mut.ensures.value n) c.replace-ty.ensures.value inv.left in
    let t = c.in_ok-solved_type.field-0 in
    let front = placed_nodes old (take i order) in
    let node = node_at p.at (type_of old p.node) in
    let more = placed_nodes old (take (i + 1) order) in
    let grown = placed_more old order i p below is in
    let left : NodeType = record { at = n.at; ty = c.replace-ty.new.dest } in
    let items : c.push.new.self.items ≡ c.loop-placed.types.items ++ t ∷ [] = search rules in
    record {
      count = length-set now p.node left ∙ count;
      left = still_left now old order i p left c.requires.numbers.apart is inv.left;
      solved =
          ap (map type_tree) items ∙ map-append type_tree c.loop-placed.types.items (t ∷ [])
          ∙ pushed_more us front node more (map type_tree c.args.types.now.items) (map type_tree c.loop-placed.types.items) (type_tree t) grown inv.solved (c.in_ok-solved_type.ensures.solved ∙ ap (put (nth us)) taken);
      range =
          range_more us front node more grown inv.range
          ∙ ap (λ (u : TypeTree). first_past (solved_nodes us (node_at p.at u ∷ []))) (sym taken) ∙ c.in_ok-solved_type.ensures.range;
    }

pub returns-in_err-solved_type-clause-range : goal.returns-in_err-solved_type-clause-range
returns-in_err-solved_type-clause-range c =
    let us = c.args.solver.now.units in
    let old = c.args.nodes.now.items in
    let now = c.loop-placed.nodes.items in
    let order = c.args.order.now in
    let i = c.loop-placed.placed-index in
    let p = get_or order i none in
    let below = c.loop-placed-test.true in
    let is = same_item order i below in
    let inv = c.loop-placed.invariant in
    let count = inv.count in
    let within = All-get_or (λ (q : Placed). q.node < length old) order i none below c.requires.numbers.within in
    let inside : p.node < length now = omega (arith, within, count) in
    let n = c.index_mut.result.now in
    let ty = c.replace-ty.result in
    let taken : type_tree ty ≡ type_of old p.node = taken_type now old order i p n ty below is inside (get_or_read now p.node n inside c.index_mut.ensures.value n) c.replace-ty.ensures.value inv.left in
    let e = c.in_err-solved_type.field-0.0 in
    let one = subst (λ (u : TypeTree). StopsAt (first_past (solved_nodes us (node_at p.at u ∷ []))) e) taken c.in_err-solved_type.ensures.range in
    let q = err_from_is_err_and c.from_residual-in_err-solved_type.result c.from_residual-in_err-solved_type.ensures.1 in
    rw (q.1, q.2) (stops_among us (placed_nodes old (take i order)) (node_at p.at (type_of old p.node)) (placed_nodes old (drop (i + 1) order)) (placed_nodes old order) e (placed_split old order i p below is) inv.range one)

pub returns-clause-solved : goal.returns-clause-solved
returns-clause-solved c =
    let us = c.args.solver.now.units in
    let old = c.args.nodes.now.items in
    let order = c.args.order.now in
    let past = c.loop-placed-test.false in
    let all : length order ≤ c.loop-placed.placed-index = omega (arith, past) in
    subst (λ (ps : List Placed). map type_tree c.loop-placed.types.items ≡ map type_tree c.args.types.now.items ++ node_types (solved_nodes us (placed_nodes old ps))) (take_all c.loop-placed.placed-index order all) c.loop-placed.invariant.solved

pub returns-clause-range : goal.returns-clause-range
returns-clause-range c =
    let us = c.args.solver.now.units in
    let old = c.args.nodes.now.items in
    let order = c.args.order.now in
    let past = c.loop-placed-test.false in
    let all : length order ≤ c.loop-placed.placed-index = omega (arith, past) in
    subst (λ (ps : List Placed). first_past (solved_nodes us (placed_nodes old ps)) ≡ None) (take_all c.loop-placed.placed-index order all) c.loop-placed.invariant.range
