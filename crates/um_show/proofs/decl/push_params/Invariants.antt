use Rattle.std.proofs.Common.{◌≡◌, ◌++◌, take}
use Rattle.std.specs.List.{flat_map}
use Rattle.um_tree.specs.RawTree.{param_syntax}
use Rattle.um_show.specs.Pieces.{text_of}
use Rattle.um_show.specs.Layout.{param_pieces}
use Rattle.um_show.proofs.decl.push_params.Given as goal

abbrev pub invariant-loop-param : goal.invariant-loop-param
invariant-loop-param l = l.text.items ≡ l.initial.text.items ++ flat_map (λ p. text_of (param_pieces (param_syntax p))) (take l.param-index l.params)
