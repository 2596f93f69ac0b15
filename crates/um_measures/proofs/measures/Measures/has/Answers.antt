use Rattle.std.proofs.Common.{ℕ, List, ap, ◌∙◌}
use Rattle.std.specs.Prelude.{is_some}
use Rattle.um_measures.specs.declared.abbreviation.Abbreviation.{Abbreviation}
use Rattle.um_measures.specs.Known.{is_among, short_unit}
use Rattle.um_measures.proofs.NameLists.{is_some-short_unit}
use Rattle.um_measures.proofs.measures.Measures.has.Goals as goal

pub returns : goal.returns
returns c =
    let x = c.args.name.now in
    c.has.ensures ∙ ap (λ (ns : List (List ℕ)). is_among ns x) c.self.invariant ∙ is_some-short_unit x c.self.inside.units.items ∙ ap (λ (ss : List Abbreviation). is_some (short_unit ss x)) c.self.view_is
