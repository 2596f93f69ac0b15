use Rattle.std.proofs.Common.{rules, ◌≡◌, ◌∙◌, sym, ap, to_z, w32, FitsSigned}
use Rattle.std.proofs.lemmas.Int.{to_z-of_z}
use Rattle.um_units.proofs.staying.is_once.Goals as goal

pub returns-then-term-eq1 : goal.returns-then-term-eq1
returns-then-term-eq1 c = λ h.
    let f : FitsSigned w32 c.args.term.power = search rules in
    let same : c.args.term.atom ≡ c.args.a = search rules in
    (same, sym (to_z-of_z w32 c.args.term.power f) ∙ ap (to_z w32) c.if-term-eq1.true)
