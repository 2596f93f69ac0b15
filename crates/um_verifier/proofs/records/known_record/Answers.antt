use Rattle.std.proofs.Common.{◌≡◌, ◌≤◌, List, true, sym, ap, ◌∙◌, arith, rules}
use Rattle.std.specs.Prelude.{vec_len}
use Rattle.std.specs.List.{list_all}
use Rattle.um_tree.specs.Heights.{greatest_height}
use Rattle.um_stacks.specs.FlatShapes.{flat_shapes}
use Rattle.um_verifier.specs.KnownImages.{known_heights, admits}
use Rattle.um_stacks.specs.declared.flat.FlatShape.{FlatShape}
use Rattle.um_verifier.proofs.OverRecords.{highest_low}
use Rattle.um_verifier.proofs.records.known_record.Goals as goal

pub overflow_add-height : goal.overflow_add-height
overflow_add-height c =
    let known = c.args.known.now in
    let shapes = flat_shapes c.deref-2.result.now in
    let same = c.deref-2.ensures.value ∙ sym c.deref.ensures.value in
    let low : list_all (admits known) shapes ≡ true = ap (λ (xs : List FlatShape). list_all (admits known) (flat_shapes xs)) same ∙ sym c.admits_all.ensures ∙ c.if-not-admits_all.false in
    let top = highest_low (vec_len known.records) (known_heights known) shapes low in
    let few : c.highest-height.result ≤ greatest_height = omega (arith, top, c.highest-height.ensures) in
    search (rules, few)

pub invariant_of-result : goal.invariant_of-result
invariant_of-result c =
    let known = c.args.known.now in
    let shapes = flat_shapes c.deref-2.result.now in
    let same = c.deref-2.ensures.value ∙ sym c.deref.ensures.value in
    let low : list_all (admits known) shapes ≡ true = ap (λ (xs : List FlatShape). list_all (admits known) (flat_shapes xs)) same ∙ sym c.admits_all.ensures ∙ c.if-not-admits_all.false in
    let top = highest_low (vec_len known.records) (known_heights known) shapes low in
    let few : c.highest-height.result ≤ greatest_height = omega (arith, top, c.highest-height.ensures) in
    record { some = omega arith; few = omega (arith, few) }
