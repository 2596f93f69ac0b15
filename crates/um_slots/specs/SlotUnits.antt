-- Units that are variables, no two of them the same: what stands for the holes of a function.
-- Source: this project's own; a new instance of a scheme renames its variables one for one (Kennedy 1996).
use Rattle.std.specs.Prelude.{◌≡◌, ℕ, ◌<◌, List, length}
use Rattle.um_units.specs.declared.Atom.TheVariants.{Var}
use Rattle.um_units.specs.PowerMap.{PowerMap, atom, nth}

-- the k-th is the variable of this number, and the number tells k
pub record AreNumbered (us : List PowerMap) : Type 0 where
  pub number : ℕ → ℕ
  pub place : ℕ → ℕ
  pub variable : (k : ℕ) → k < length us → nth us k ≡ atom (Var (number k))
  pub apart : (k : ℕ) → k < length us → place (number k) ≡ k

-- there are such numbers
abbrev pub AreVariables : List PowerMap → Type 0
AreVariables us = ∥ AreNumbered us ∥₁
