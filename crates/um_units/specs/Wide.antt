-- The code's: terms whose powers have room for sums of products of powers, which the code adds up before it looks at
-- the range.
-- Source: this project's own; the clauses of `um_units::wide` and of `um_wide` rest on it.
use Rattle.std.specs.Prelude.{◌≡◌, ◌+◌, ◌^◌, ◌<◌, ℕ, max, List, [], ◌∷◌, map, nat_abs}
use Rattle.um_units.specs.declared.Atom.{Atom}
use Rattle.um_units.specs.declared.Term.{Term}
use Rattle.um_units.specs.Terms.{power_in}
use Rattle.um_units.specs.PowerMap.{PowerMap}
use Rattle.um_units.specs.declared.wide.WideTerm.{WideTerm}

-- the term that a wide one stands for
abbrev pub as_term : WideTerm → Term
as_term w = record { atom = w.atom; power = w.power }

abbrev pub as_terms : List WideTerm → List Term
as_terms = map as_term

-- the wide terms are those of the unit
abbrev pub AreTermsOf : List WideTerm → PowerMap → Type 0
AreTermsOf ws u = as_terms ws ≡ u.terms

-- the sum of both powers of an atom fits in 128 bits
abbrev pub TermsHaveRoom : List Term → List Term → Type 0
TermsHaveRoom ts us = (x : Atom) → nat_abs (power_in ts x) + nat_abs (power_in us x) < 2 ^ 127

-- the greatest absolute power
abbrev pub greatest : List WideTerm → ℕ
greatest [] = 0
greatest (w ∷ ws) = max (nat_abs w.power) (greatest ws)
