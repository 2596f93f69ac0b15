use Rattle.std.proofs.Common.{[], ◌∷◌, refl}
use Rattle.um_tree.specs.RawTree.{decl_syntax}
use Rattle.um_show.specs.Pieces.{line_end}
use Rattle.um_show.specs.Layout.{decl_pieces}
use Rattle.um_show.proofs.Joined.{closes}
use Rattle.um_show.proofs.decl.push_line.Goals as goal

pub returns : goal.returns
returns c =
    closes c.extend_from_slice.result _ _ _ (decl_pieces (decl_syntax c.args.decl.now)) (line_end ∷ []) _ refl c.in_ok-push_decl.ensures c.extend_from_slice.ensures.items
