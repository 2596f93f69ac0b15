-- What an elimination step makes of one term of a unit.
-- Source: Kennedy (1996), on unification in the free abelian group: x is replaced by x times the product over the
-- other atoms y of y to the power of the negated quotient, rounded down, of y's power and x's.
use Rattle.std.specs.Prelude.{ℕ, if◌then◌else◌, pos}
use Rattle.std.proofs.Common.{neg_ℤ}
use Rattle.std.specs.Int.{int_div_euclid}
use Rattle.um_units.specs.declared.Atom.TheVariants.{Var}
use Rattle.um_units.specs.declared.Term.{Term}
use Rattle.um_units.specs.Atoms.{same_atom}

-- y^(-floor(a/p)) for the term y^a, and power 0 for variable m itself
abbrev pub less_quotient : ℕ → ℕ → Term → Term
less_quotient m p t = record {
  atom = t.atom;
  power = if same_atom (Var m) t.atom then pos 0 else neg_ℤ (int_div_euclid t.power (pos p));
}
