use Rattle.std.proofs.Common.{◌≡◌, Ok, map, subst, rules}
use Rattle.std.specs.Prelude.{IsTrue}
use Rattle.um_tree.specs.TypeTree.{type_tree, list_type}
use Rattle.um_elim.specs.Application.{type_fits}
use Rattle.um_equal_types.specs.Against.{against_each}
use Rattle.um_rows.specs.Rules.{formed}
use Rattle.um_rows.specs.Walk.{node}
use Rattle.um_rows.proofs.NodeLaws.{node_formed}
use Rattle.um_rows.proofs.rules.list_from.Goals as goal

pub returns-clause-reached : goal.returns-clause-reached
returns-clause-reached c =
    let progress = c.args.progress.now in
    let at = c.args.at in
    let rows = against_each at (type_tree c.args.first.now) (map type_tree c.args.others.now) in
    let item = type_tree c.in_ok-new.field-0.value in
    let same : item ≡ type_tree c.args.first.now = search rules in
    let low : IsTrue (type_fits item) = search rules in
    subst (λ t. node progress.rows.items progress.holes (formed at rows (list_type t)) ≡ Ok (record { type = list_type item; rows = c.against_each.new.rows.items; holes = progress.holes })) same
    (node_formed progress.rows.items c.against_each.new.rows.items progress.holes at rows (list_type item) c.in_ok-against_each.ensures low)
