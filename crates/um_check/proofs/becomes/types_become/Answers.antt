use Rattle.std.proofs.Common.{ap, ◌∙◌, sym, refl, arith, below_more, ◌<◌, length, map, get_or, subst}
use Rattle.std.proofs.lemmas.List.{get_or-map, ext_get_or, length-map}
use Rattle.um_units.specs.PowerMap.{nth}
use Rattle.um_tree.specs.TypeTree.{bool_type, type_tree}
use Rattle.um_tree.specs.Typing.{put}
use Rattle.um_check.proofs.FormTests.{becomes-put, put-becomes}
use Rattle.um_check.proofs.becomes.types_become.Goals as goal

pub returns : goal.returns
returns c =
    let f = put (nth c.args.by.now) in
    let ts = map type_tree c.args.types.now in
    let ws = map type_tree c.args.wanted.now in
    let many = length-map c.args.types.now type_tree in
    let more = length-map c.args.wanted.now type_tree in (
      (λ _. ext_get_or bool_type (map f ts) ws (length-map ts f ∙ many ∙ c.if-types-wanted.false ∙ sym more) (λ i h.
          let k : i < length ts = subst (λ n. i < n) (length-map ts f) h in
          get_or-map f ts i bool_type bool_type k ∙ c.loop-i.invariant i (let g = c.loop-i-test.false in omega (arith, k, g, many)))),
      (λ _. refl),
    )

pub returns-then-not-branch : goal.returns-then-not-branch
returns-then-not-branch c = (
  (λ g. cc),
  (λ e.
      let f = put (nth c.args.by.now) in
      let ts = map type_tree c.args.types.now in
      let ws = map type_tree c.args.wanted.now in
      let i = c.loop-i.i in
      let low : i < length c.args.types.now = c.loop-i-test.true in
      let same = c.if-types-wanted.false in
      let left = get_or-map type_tree c.args.types.now i c.index-types-i.result bool_type low ∙ ap type_tree (sym c.index-types-i.is) in
      let right = get_or-map type_tree c.args.wanted.now i c.index-wanted-i.result bool_type (omega (arith, low, same)) ∙ ap type_tree (sym c.index-wanted-i.is) in
      let many = length-map c.args.types.now type_tree in
      let here = sym (get_or-map f ts i bool_type bool_type (omega (arith, low, many))) ∙ ap (λ us. get_or us i bool_type) e in
      sym c.if-not-branch.true ∙ c.in_ok-type_becomes.ensures.1 (put-becomes (nth c.args.by.now) _ _ (ap f (sym left) ∙ here ∙ right))),
)

pub loop-i-preserved : goal.loop-i-preserved
loop-i-preserved c =
    let f = put (nth c.args.by.now) in
    let i = c.loop-i.i in
    let low : i < length c.args.types.now = c.loop-i-test.true in
    let same = c.if-types-wanted.false in
    let left = get_or-map type_tree c.args.types.now i c.index-types-i.result bool_type low ∙ ap type_tree (sym c.index-types-i.is) in
    let right = get_or-map type_tree c.args.wanted.now i c.index-wanted-i.result bool_type (omega (arith, low, same)) ∙ ap type_tree (sym c.index-wanted-i.is) in
    below_more _ _ c.loop-i.invariant (ap f left ∙ becomes-put (nth c.args.by.now) _ _ (c.in_ok-type_becomes.ensures.0 c.if-not-branch.false) ∙ sym right)
