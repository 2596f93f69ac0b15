-- The code's: how power maps are stored as data, by which a proof tells them apart. Two are equal if their terms are.
-- Source: this project's own; no public clause rests on it.
use Rattle.std.specs.Prelude.{◌≡◌, ℕ, ◌⊎◌, IsTrue, Bool, List, ℤ}
use Rattle.std.specs.Coded.{Coded, code_by, coded×, coded⊎, coded_ℕ, coded_ℤ, coded_list}
use Rattle.std.proofs.Common.{refl, inl, inr}
use Rattle.std.proofs.Math.Bool.{Bool-set}
use mathlib.Core.HLevel.{Σ_prop_path}
use base.Stored.{coded_via}
use Rattle.um_units.specs.declared.Atom.{Atom}
use Rattle.um_units.specs.declared.Atom.TheVariants.{Base, Var}
use Rattle.um_units.specs.declared.Term.{Term}
use Rattle.um_units.specs.Terms.{is_normal}
use Rattle.um_units.specs.PowerMap.{PowerMap}

IsTrue_prop : (b : Bool) → IsProp (IsTrue b)
IsTrue_prop b = hlevel Bool-set

pub same_from_terms : (u v : PowerMap) → u.terms ≡ v.terms → u ≡ v
same_from_terms u v e =
    let pairs : ◌≡◌ {A = (ts : List Term) × IsTrue (is_normal ts)} (u.terms, u.normal) (v.terms, v.normal) =
    Σ_prop_path (λ ts. IsTrue_prop (is_normal ts)) e in
    λ i. record { terms = (pairs i).0; normal = (pairs i).1 }

-- an atom as a number on one of two sides
abbrev pub atom_number : Atom → ℕ ⊎ ℕ
atom_number (Base n) = inl n
atom_number (Var n) = inr n

abbrev pub numbered_atom : ℕ ⊎ ℕ → Atom
numbered_atom (inl n) = Base n
numbered_atom (inr n) = Var n

pub numbered_atom-atom_number : (x : Atom) → numbered_atom (atom_number x) ≡ x
numbered_atom-atom_number (Base n) = refl
numbered_atom-atom_number (Var n) = refl

abbrev pub atom_code : Coded Atom
atom_code = code_by (ℕ ⊎ ℕ) (coded⊎ coded_ℕ coded_ℕ) atom_number numbered_atom numbered_atom-atom_number

abbrev pub term_code : Coded Term
term_code =
    code_by (Atom × ℤ) (coded× atom_code coded_ℤ)
    (λ t. (t.atom, t.power))
    (λ p. record { atom = p.0; power = p.1 })
    (λ _. refl)

abbrev pub power_map_code : Coded PowerMap
power_map_code = coded_via (coded_list term_code) (λ u. u.terms) same_from_terms
