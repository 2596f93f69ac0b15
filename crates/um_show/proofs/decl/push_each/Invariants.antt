use Rattle.std.proofs.Common.{◌≡◌, ◌++◌}
use Rattle.std.specs.List.{flat_map}
use Rattle.um_tree.specs.RawTree.{decl_syntax}
use Rattle.um_show.specs.Pieces.{text_of}
use Rattle.um_show.specs.Layout.{line_pieces}
use Rattle.um_show.proofs.decl.push_each.Given as goal

abbrev pub invariant-loop-decl : goal.invariant-loop-decl
invariant-loop-decl l = l.text.items ≡ l.initial.text.items ++ flat_map (λ d. text_of (line_pieces (decl_syntax d))) l.yielded
