use Rattle.std.proofs.Common.{◌∙◌, sym, ap, rules, FitsSigned}
use Rattle.std.specs.Int.{w128}
use Rattle.std.specs.Prelude.{option_map}
use Rattle.std.proofs.lemmas.Int.{to_z-of_z}
use Rattle.um_units.specs.Terms.{power_in, is_normal}
use Rattle.um_units.proofs.Equality.{power_in-found, power_in-none}
use Rattle.um_units.specs.Wide.{as_term, as_terms}
use Rattle.um_wide.proofs.Terms.{terms_of, find_terms}
use Rattle.um_wide.proofs.WideUnit.power_of.Goals as goal

pub returns-in-Some : goal.returns-in-Some
returns-in-Some c =
    let ws = c.deref.result.now in
    let w = c.in-Some.term.now in
    let f : FitsSigned w128 w.power = search rules in
    let u = ap as_terms c.deref.ensures.value ∙ terms_of c.self.inside.terms.items c.args.self.now c.self.invariant c.self.view_is in
    record {
      power =
          to_z-of_z w128 w.power f
          ∙ sym (power_in-found c.args.a (as_terms ws) (ap (λ vs. is_normal (as_terms vs)) c.deref.ensures.value ∙ c.self.invariant) (as_term w) (find_terms c.args.a ws ∙ ap (option_map as_term) (sym c.in-Some.ensures)))
          ∙ ap (λ ts. power_in ts c.args.a) u;
    }

pub returns-in-None : goal.returns-in-None
returns-in-None c =
    let ws = c.deref.result.now in
    let u = ap as_terms c.deref.ensures.value ∙ terms_of c.self.inside.terms.items c.args.self.now c.self.invariant c.self.view_is in
    record { power = sym (power_in-none c.args.a (as_terms ws) (find_terms c.args.a ws ∙ ap (option_map as_term) (sym c.in-None.ensures))) ∙ ap (λ ts. power_in ts c.args.a) u }
