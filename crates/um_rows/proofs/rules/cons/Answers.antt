use Rattle.std.proofs.Common.{◌≡◌, Ok, sym, ap, subst}
use Rattle.std.specs.Prelude.{IsTrue}
use Rattle.um_tree.specs.TypeTree.{type_tree, list_type}
use Rattle.um_elim.specs.Application.{type_fits}
use Rattle.um_equal_types.specs.Against.{against}
use Rattle.um_rows.specs.Rules.{cons_rule}
use Rattle.um_equal_types.specs.Pushed.{AreBehind}
use Rattle.um_rows.specs.Walk.{node}
use Rattle.um_rows.proofs.NodeLaws.{node_formed}
use Rattle.um_rows.proofs.rules.cons.Goals as goal

pub returns-in_ok-against-in-List-clause-reached : goal.returns-in_ok-against-in-List-clause-reached
returns-in_ok-against-in-List-clause-reached c =
    let progress = c.args.progress.now in
    let at = c.args.at in
    let head = type_tree c.args.head.now in
    let item = type_tree c.in-List.item.value in
    let seen : type_tree c.args.tail ≡ list_type item = ap type_tree c.in-List.is in
    let low = subst (λ t. IsTrue (type_fits t)) seen c.requires.fits in
    let behind = subst (λ t. AreBehind (against at head (type_tree t)) progress.rows.items c.against.new.rows.items) c.deref.ensures c.in_ok-against-in-List.ensures in
    subst (λ t. node progress.rows.items progress.holes (cons_rule at head t) ≡ Ok (record { type = t; rows = c.against.new.rows.items; holes = progress.holes })) (sym seen)
    (node_formed progress.rows.items c.against.new.rows.items progress.holes at (against at head item) (list_type item) behind low)
