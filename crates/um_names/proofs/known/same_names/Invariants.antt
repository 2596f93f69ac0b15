use Rattle.std.proofs.Common.{◌≡◌, map, drop}
use Rattle.um_tree.specs.ProgramTree.{field_tree}
use Rattle.um_tree.specs.RawTree.{field_part}
use Rattle.um_names.specs.ExprNames.{same_names}
use Rattle.um_names.proofs.known.same_names.Given as goal

abbrev pub invariant-loop-i : goal.invariant-loop-i
invariant-loop-i l = same_names (map (λ d. d.name) (map field_tree l.decls)) (map (λ f. f.name) (map field_part l.fields)) ≡ same_names (map (λ d. d.name) (map field_tree (drop l.i l.decls))) (map (λ f. f.name) (map field_part (drop l.i l.fields)))
