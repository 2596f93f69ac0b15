-- A unit that holds no variable asks for no slot.
use Rattle.std.proofs.Common.{◌≡◌, ℕ, List, [], ◌∷◌, ◌++◌, refl, ap, ◌∙◌, arith}
use Rattle.std.specs.Prelude.{IsTrue}
use Rattle.std.specs.List.{flat_map}
use Rattle.std.proofs.lemmas.Bool.{and_parts, ltb-true}
use Rattle.um_units.specs.declared.Atom.{Atom}
use Rattle.um_units.specs.declared.Atom.TheVariants.{Base, Var}
use Rattle.um_units.specs.declared.Term.{Term}
use Rattle.um_units.specs.Variables.{atom_below, variables_below}
use Rattle.um_tree.specs.Scheme.{atom_variables}

of_base : (x : Atom) → IsTrue (atom_below 0 x) → atom_variables x ≡ []
of_base (Base n) h = refl
of_base (Var k) h = absurd (let low = ltb-true k 0 h in omega (arith, low))

pub no_variables : (ts : List Term) → IsTrue (variables_below 0 ts) → flat_map (λ (t : Term). atom_variables t.atom) ts ≡ []
no_variables [] h = refl
no_variables (t ∷ ts) h =
    let parts = and_parts (atom_below 0 t.atom) (variables_below 0 ts) h in
    ap (λ (vs : List ℕ). vs ++ flat_map (λ (t : Term). atom_variables t.atom) ts) (of_base t.atom parts.0) ∙ no_variables ts parts.1
