use Rattle.std.proofs.Common.{List, ℕ, ap, ◌∙◌}
use Rattle.um_measures.specs.Known.{number_of}
use Rattle.um_measures.proofs.NameNumbers.{name_number}
use Rattle.um_measures.proofs.table.NameTable.number.Goals as goal

pub returns-in-Some : goal.returns-in-Some
returns-in-Some c =
    c.in-Some.ensures.value ∙ name_number c.args.name.now c.self.inside.numbers.entries c.self.invariant.same
    ∙ ap (λ (names : List (List ℕ)). number_of names c.args.name.now) c.self.view_is

pub returns-in-None : goal.returns-in-None
returns-in-None c =
    c.in-None.ensures.value ∙ name_number c.args.name.now c.self.inside.numbers.entries c.self.invariant.same
    ∙ ap (λ (names : List (List ℕ)). number_of names c.args.name.now) c.self.view_is
