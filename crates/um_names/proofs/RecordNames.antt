-- Records by the numbers of their names.
use Rattle.std.proofs.Common.{◌≡◌, ℕ, List, cond, ap, ◌∙◌, Ok, Err}
use Rattle.std.specs.Prelude.{Some, slice_get, ◌==◌}
use Rattle.um_tree.specs.ProgramTree.{RecordTree}
use Rattle.um_measures.specs.Faults.{wrong_count}
use Rattle.um_measures.specs.Known.{Known, number_of, record_names}
use Rattle.um_names.specs.TypeNames.{resolved_record, declared_record, counted}

pub record_numbered : (known : Known) (x : List ℕ) (n at r : ℕ) (d : RecordTree) → number_of (record_names known.program.records) x ≡ Some r → slice_get known.program.records r ≡ Some d
    → resolved_record known x n at ≡ cond (n == d.units) (Ok r) (Err (wrong_count at))
record_numbered known x n at r d e g =
    ap (λ o. declared_record known.program.records o n at) e ∙ ap (λ o. counted o r n at) g
