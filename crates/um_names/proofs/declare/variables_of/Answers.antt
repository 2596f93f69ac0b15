use Rattle.std.proofs.Common.{◌≡◌, ℕ, List, subst}
use Rattle.std.specs.Prelude.{IfOk}
use Rattle.um_tree.specs.RawTree.{whole_function_syntax}
use Rattle.um_measures.proofs.BodyNotes.{head_has_all}
use Rattle.um_names.proofs.declare.variables_of.Goals as goal

pub returns-else-in_body : goal.returns-else-in_body
returns-else-in_body c =
    let f = whole_function_syntax c.args.raw.now in
    subst (λ (vs : List (List ℕ)). IfOk c.head_variables.result (λ names. names ≡ vs)) (head_has_all c.args.unit_params f (c.requires.body c.if-in_body.false)) c.head_variables.ensures
