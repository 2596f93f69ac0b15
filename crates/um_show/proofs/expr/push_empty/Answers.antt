use Rattle.std.proofs.Common.{refl, ◌++◌, ◌∷◌, [], List}
use Rattle.um_tree.specs.RawTree.{type_syntax}
use Rattle.um_show.specs.Pieces.{Piece, space, list_open, list_close, bracket_open, bracket_close, colon}
use Rattle.um_show.specs.Layout.{type_pieces}
use Rattle.um_show.proofs.Joined.{grown, closes}
use Rattle.um_show.proofs.expr.push_empty.Goals as goal

pub returns : goal.returns
returns c =
    let ty = type_syntax c.args.ty.now in
    let head : List Piece = bracket_open ∷ list_open ∷ list_close ∷ space ∷ colon ∷ space ∷ [] in
    let begun = grown _ _ _ head (type_pieces ty) c.in_ok-extend_from_slice.ensures.items c.in_ok-push_type.ensures in
    closes c.extend_from_slice-2.result _ _ _ (head ++ type_pieces ty) (bracket_close ∷ []) _ refl begun c.extend_from_slice-2.ensures.items
