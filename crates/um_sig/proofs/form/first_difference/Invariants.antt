use Rattle.std.proofs.Common.{◌≡◌, ℕ, ◌<◌, map}
use Rattle.um_tree.specs.TypeTree.{type_tree}
use Rattle.um_tree.specs.ProgramTree.{scheme_tree}
use Rattle.um_sig.specs.Form.{form_at}
use Rattle.um_sig.specs.Instances.{scheme_types}
use Rattle.um_sig.proofs.form.first_difference.Given as goal

abbrev pub invariant-loop-i : goal.invariant-loop-i
invariant-loop-i l = (j : ℕ) → j < l.i → form_at (scheme_types (scheme_tree l.scheme)) j ≡ form_at (map type_tree l.types) j
