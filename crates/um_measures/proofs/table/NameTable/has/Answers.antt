use Rattle.std.proofs.Common.{List, ℕ, ap, ◌∙◌}
use Rattle.um_measures.specs.Known.{is_among}
use Rattle.um_measures.proofs.NameNumbers.{has_name}
use Rattle.um_measures.proofs.table.NameTable.has.Goals as goal

pub returns : goal.returns
returns c = c.contains_key.ensures ∙ has_name c.args.name.now c.self.inside.numbers.entries ∙ ap (λ (names : List (List ℕ)). is_among names c.args.name.now) c.self.view_is
