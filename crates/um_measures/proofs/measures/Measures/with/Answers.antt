use Rattle.std.proofs.Common.{◌≡◌, ℕ, true, false, List, [], ◌∷◌, ◌++◌, sym, ap, ◌∙◌, subst}
use Rattle.um_measures.specs.declared.abbreviation.Abbreviation.{Abbreviation}
use Rattle.um_measures.specs.Known.{is_among, short_unit, short_names}
use Rattle.um_measures.proofs.NameLists.{short_unit-hidden, short_names-added}
use Rattle.um_measures.proofs.measures.Measures.with.Goals as goal

pub returns-then-has : goal.returns-then-has
returns-then-has c =
    let x = c.args.name.now in
    let ss = c.self.inside.units.items in
    let known : is_among (short_names ss) x ≡ true = sym (ap (λ (ns : List (List ℕ)). is_among ns x) c.self.invariant) ∙ sym c.has.ensures ∙ c.if-has.true in
    subst (λ (es : List Abbreviation). (y : List ℕ) → short_unit es y ≡ short_unit (es ++ record { name = x; unit = c.args.unit } ∷ []) y) c.self.view_is
    (short_unit-hidden ss (record { name = x; unit = c.args.unit }) known)

pub invariant_of-result : goal.invariant_of-result
invariant_of-result c =
    let x = c.args.name.now in
    let ss = c.self.inside.units.items in
    let absent : is_among c.self.inside.names x ≡ false = sym c.has.ensures ∙ c.if-has.false in
    let added = short_names-added x c.self.inside.names ss c.args.unit c.self.invariant absent in
    c.in_ok-add.ensures ∙ added ∙ ap (λ (y : List ℕ). short_names (ss ++ record { name = y; unit = c.args.unit } ∷ [])) (sym c.in_ok-name.ensures) ∙ sym (ap short_names c.in_ok-push.ensures.items)
