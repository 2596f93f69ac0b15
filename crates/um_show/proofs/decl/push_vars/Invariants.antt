use Rattle.std.proofs.Common.{◌≡◌, ◌++◌, take, codes}
use Rattle.std.specs.List.{flat_map}
use Rattle.um_tree.specs.RawTree.{var_syntax}
use Rattle.um_show.specs.Pieces.{text_of}
use Rattle.um_show.specs.Layout.{var_pieces}
use Rattle.um_show.proofs.decl.push_vars.Given as goal

abbrev pub invariant-loop-var : goal.invariant-loop-var
invariant-loop-var l = l.text.items ≡ l.initial.text.items ++ flat_map (λ v. codes ", " ++ text_of (var_pieces (var_syntax v))) (take l.var-index l.rest)
