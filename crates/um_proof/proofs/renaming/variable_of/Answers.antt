use Rattle.std.proofs.Common.{◌≡◌, ◌<◌, ℕ, List, [], ◌∷◌, length, get_or, pos, sym, ap, ◌∙◌, subst, arith}
use Rattle.um_units.specs.declared.Atom.TheVariants.{Base, Var}
use Rattle.um_units.specs.declared.Term.{Term}
use Rattle.um_units.specs.PowerMap.{PowerMap, atom}
use Rattle.um_units.proofs.Group.{terms-atom}
use Rattle.um_proof.proofs.renaming.variable_of.Goals as goal

abbrev some : Term
some = record { atom = Base 0; power = pos 0 }

only : (ts : List Term) (u : PowerMap) (n : ℕ) → ts ≡ u.terms → u ≡ atom (Var n) → ts ≡ record { atom = Var n; power = pos 1 } ∷ []
only ts u n e f = e ∙ ap (λ (v : PowerMap). v.terms) f ∙ terms-atom (Var n)

head_is : (ts : List Term) (u : PowerMap) (n : ℕ) → ts ≡ u.terms → u ≡ atom (Var n) → (get_or ts 0 some).atom ≡ Var n
head_is ts u n e f = ap (λ (xs : List Term). (get_or xs 0 some).atom) (only ts u n e f)

pub bounds-0 : goal.bounds-0
bounds-0 c = subst (λ xs. 0 < length xs) (sym (only c.terms.result.now c.args.unit.now c.requires.0 c.terms.ensures.terms c.requires.1)) (omega arith)

pub returns : goal.returns
returns c = λ n e. let same : Var c.in-Var.number ≡ Var n = sym c.in-Var.is ∙ head_is c.terms.result.now c.args.unit.now n c.terms.ensures.terms e in cc same

pub unreachable-requires : goal.unreachable-requires
unreachable-requires c = let same : Base c.in-Base.field-0 ≡ Var c.requires.0 = sym c.in-Base.is ∙ head_is c.terms.result.now c.args.unit.now c.requires.0 c.terms.ensures.terms c.requires.1 in cc same
