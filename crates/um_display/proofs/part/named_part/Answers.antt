use Rattle.std.proofs.Common.{◌≡◌, Option, Some, sym, ap, ◌∙◌}
use Rattle.std.specs.Prelude.{MatchOption}
use Rattle.std.proofs.lemmas.Result.{IfOk-weaker}
use Rattle.um_tree.specs.RawTree.{UnitSyntax, unit_syntax}
use Rattle.um_display.specs.declared.part.Part.{Part}
use Rattle.um_display.specs.UnitWords.{PartSyntax, IsLowUnit, IsNamed}
use Rattle.um_display.specs.PartView.{part_syntax}
use Rattle.um_display.proofs.SizedParts.{named_by}
use Rattle.um_display.proofs.part.named_part.Goals as goal

pub returns : goal.returns
returns c =
    let name = c.args.name.now in let number = c.args.number.now in let inside = c.args.inside.now in
    let label = c.in_ok-label.label in let size = c.in-Some.size in
    IfOk-weaker c.with_unit.result
    (λ (o : Option Part). MatchOption o ((u : UnitSyntax) → IsLowUnit inside u → ⊥) (λ p. IsLowUnit inside (unit_syntax p.unit) × (p.label ≡ label) × (p.size ≡ Some size)))
    (λ (o : Option Part). MatchOption o ((p : PartSyntax) → IsNamed name number inside p → ⊥) (λ p. IsNamed name number inside (part_syntax p)))
    (λ o h. named_by name number inside label size o (sym c.in-Some-name_in.ensures ∙ ap Some (sym c.in_ok-label.ensures)) (sym c.in-Some.ensures) h)
    c.with_unit.ensures
