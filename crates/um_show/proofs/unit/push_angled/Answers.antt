use Rattle.std.proofs.Common.{[], ◌∷◌, ap, map}
use Rattle.std.specs.List.{join_by}
use Rattle.um_tree.specs.RawTree.{note_syntax}
use Rattle.um_show.specs.Pieces.{less, greater, comma, space}
use Rattle.um_show.specs.Layout.{note_pieces, angled_pieces}
use Rattle.um_show.proofs.Joined.{grown, closes, joined_all}
use Rattle.um_show.proofs.unit.push_angled.Goals as goal

pub returns : goal.returns
returns c =
    let first = c.in-Some.first.now in let rest = c.in-Some.rest.now in
    let separator = comma ∷ space ∷ [] in let joined = join_by note_pieces separator (map note_syntax (first ∷ rest)) in
    let items = joined_all note_pieces note_syntax separator first rest c.loop-note.note-index _ _ _ c.loop-note-test.false c.in_ok-push_note.ensures c.loop-note.invariant in
    let begun = grown _ _ _ (less ∷ []) joined c.in_ok-push.ensures.items items in
    closes c.extend_from_slice-2.result _ _ _ (less ∷ joined) (greater ∷ []) _ (ap (λ ns. angled_pieces (map note_syntax ns)) c.in-Some.ensures.cases.0) begun c.extend_from_slice-2.ensures.items
