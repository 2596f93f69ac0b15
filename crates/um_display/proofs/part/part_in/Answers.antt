use Rattle.std.proofs.Common.{Option}
use Rattle.std.specs.Prelude.{MatchOption}
use Rattle.std.proofs.lemmas.Result.{IfOk-weaker}
use Rattle.um_display.specs.declared.part.Part.{Part}
use Rattle.um_display.specs.UnitWords.{PartSyntax, IsSized, IsPartOf}
use Rattle.um_display.specs.PartView.{part_syntax}
use Rattle.um_display.proofs.SizedParts.{form_by}
use Rattle.um_display.proofs.part.part_in.Goals as goal

pub returns-in-None : goal.returns-in-None
returns-in-None c =
    let bytes = c.args.text.now in let tokens = c.args.tokens.now in
    let none = rw c.in-None.is at c.in_ok-part.ensures in
    IfOk-weaker c.sized_part.result
    (λ (o : Option Part). MatchOption o ((p : PartSyntax) → IsSized tokens p → ⊥) (λ p. IsSized tokens (part_syntax p)))
    (λ (o : Option Part). MatchOption o ((p : PartSyntax) → IsPartOf bytes tokens p → ⊥) (λ p. IsPartOf bytes tokens (part_syntax p)))
    (λ o h. form_by bytes tokens o none h)
    c.sized_part.ensures
