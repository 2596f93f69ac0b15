use Rattle.std.proofs.Common.{◌≡◌, ◌++◌, take, map, codes}
use Rattle.std.specs.List.{flat_map}
use Rattle.um_tree.specs.TypeTree.{type_tree}
use Rattle.um_tree.specs.ProgramTree.{program_tree}
use Rattle.um_show.specs.SchemeText.{type_text}
use Rattle.um_show.proofs.printed_scheme.push_params.Given as goal

abbrev pub invariant-loop-ty : goal.invariant-loop-ty
invariant-loop-ty l = l.text.items ≡ l.initial.text.items ++ flat_map (λ t. type_text (program_tree l.program) t ++ codes " -> ") (map type_tree (take l.ty-index l.params))
