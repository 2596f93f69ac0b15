use Rattle.std.proofs.Common.{◌≡◌, ◌+◌, List, length, map, sym, ◌∙◌, below_more, arith}
use Rattle.std.proofs.lemmas.List.{length-map}
use Rattle.um_tree.specs.TypeTree.{TypeTree, type_tree}
use Rattle.um_tree.specs.ProgramTree.{scheme_tree}
use Rattle.um_sig.specs.Instances.{scheme_types}
use Rattle.um_sig.proofs.FormLaws.{alike_here, differs_here, differs_behind, all_alike}
use Rattle.um_sig.proofs.TypesRead.{length-types}
use Rattle.um_sig.proofs.form.first_difference.Goals as goal

pub returns-then-not-alike_at : goal.returns-then-not-alike_at
returns-then-not-alike_at c = record {
  before = c.loop-i.invariant;
  here =
      differs_here (scheme_types (scheme_tree c.args.scheme.now)) (map type_tree c.args.types.now) c.loop-i.i (type_tree c.own_type.result.now) c.own_type.ensures
      (sym c.alike_at.ensures ∙ c.if-not-alike_at.true);
}

pub loop-i-preserved : goal.loop-i-preserved
loop-i-preserved c =
    below_more _ _ c.loop-i.invariant
    (alike_here (scheme_types (scheme_tree c.args.scheme.now)) (map type_tree c.args.types.now) c.loop-i.i (type_tree c.own_type.result.now) c.own_type.ensures
    (sym c.alike_at.ensures ∙ c.if-not-alike_at.false))

pub returns-then-count-types : goal.returns-then-count-types
returns-then-count-types c =
    let ps = c.args.scheme.now.params.items.items in
    let own : List TypeTree = scheme_types (scheme_tree c.args.scheme.now) in
    let ts : List TypeTree = map type_tree c.args.types.now in
    let count : length own ≡ length ps + 1 = length-types ps (type_tree c.args.scheme.now.result) in
    let types : length ts ≡ length c.args.types.now = length-map c.args.types.now type_tree in
    let more = c.if-count-types.true in
    let past = c.loop-i-test.false in
    record {
      before = λ j h. c.loop-i.invariant j (omega (arith, h, past));
      here = differs_behind own ts (c.len-count.result + 1) (omega (arith, count, c.len-count.ensures)) (omega (arith, types, more));
    }

pub returns : goal.returns
returns c =
    let ps = c.args.scheme.now.params.items.items in
    let own : List TypeTree = scheme_types (scheme_tree c.args.scheme.now) in
    let ts : List TypeTree = map type_tree c.args.types.now in
    let count : length own ≡ length ps + 1 = length-types ps (type_tree c.args.scheme.now.result) in
    let types : length ts ≡ length c.args.types.now = length-map c.args.types.now type_tree in
    let few = c.if-count-types.false in
    let past = c.loop-i-test.false in
    all_alike own ts c.loop-i.i c.loop-i.invariant (omega (arith, count, past, c.len-count.ensures)) (omega (arith, types, few, past))
