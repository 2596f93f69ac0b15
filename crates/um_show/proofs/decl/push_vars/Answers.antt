use Rattle.std.proofs.Common.{[], ◌∷◌, ap, map}
use Rattle.std.specs.List.{join_by}
use Rattle.um_tree.specs.RawTree.{var_syntax}
use Rattle.um_show.specs.Pieces.{less, greater, comma, space}
use Rattle.um_show.specs.Layout.{var_pieces, var_list_pieces}
use Rattle.um_show.proofs.Joined.{grown, closes, joined_all}
use Rattle.um_show.proofs.decl.push_vars.Goals as goal

pub returns : goal.returns
returns c =
    let first = c.in-Some.first.now in let rest = c.in-Some.rest.now in
    let separator = comma ∷ space ∷ [] in let joined = join_by var_pieces separator (map var_syntax (first ∷ rest)) in
    let items = joined_all var_pieces var_syntax separator first rest c.loop-var.var-index _ _ _ c.loop-var-test.false c.in_ok-push_var.ensures c.loop-var.invariant in
    let begun = grown _ _ _ (less ∷ []) joined c.in_ok-push.ensures.items items in
    closes c.extend_from_slice-2.result _ _ _ (less ∷ joined) (greater ∷ []) _ (ap (λ vs. var_list_pieces (map var_syntax vs)) c.in-Some.ensures.cases.0) begun c.extend_from_slice-2.ensures.items
