use Rattle.std.proofs.Common.{◌≡◌, ◌++◌, take, codes}
use Rattle.std.specs.List.{flat_map}
use Rattle.um_tree.specs.RawTree.{note_syntax}
use Rattle.um_show.specs.Pieces.{text_of}
use Rattle.um_show.specs.Layout.{note_pieces}
use Rattle.um_show.proofs.unit.push_angled.Given as goal

abbrev pub invariant-loop-note : goal.invariant-loop-note
invariant-loop-note l = l.text.items ≡ l.initial.text.items ++ flat_map (λ n. codes ", " ++ text_of (note_pieces (note_syntax n))) (take l.note-index l.rest)
