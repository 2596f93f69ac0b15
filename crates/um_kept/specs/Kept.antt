-- What the making of a certificate keeps, from row to row.
-- Source: Kennedy (1996), unification in the free abelian group, equation by equation. That a way back and the rows'
-- powers are kept beside the solution is this project's own.
use Rattle.std.specs.Prelude.{◌≡◌, ◌⊎◌, ℕ, zero, suc, ◌-◌, ◌<◌, if◌then◌else◌, List, map, ℤ, pos, ◌*ℤ◌}
use Rattle.um_units.specs.declared.Atom.{Atom}
use Rattle.um_units.specs.declared.Atom.TheVariants.{Base, Var}
use Rattle.um_units.specs.PowerMap.{PowerMap, one, atom, pow, replace, nth}
use Rattle.um_elim.specs.declared.elim_step.ElimStep.{ElimStep}
use Rattle.um_elim.specs.ElimStep.{substitute}
use Rattle.um_elim.specs.Solution.{rigid_units}
use Rattle.um_rows.specs.Generalised.{is_parameter}
use Rattle.um_elim.specs.EliminationSteps.{unit_after, units_after, AreStepsOf}
use Rattle.um_check.specs.Existence.{signed_by, inverse_after, total, parts_after}

-- a unit for each slot, the way back from an atom to slots, and for each slot the powers of rows, as a unit over the
-- rows' numbers, by which it comes back up to the power `divisor`
pub record Kept : Type 0 where
  pub solution : List PowerMap
  pub back : Atom → PowerMap
  pub divisor : ℤ
  pub parts : ℕ → PowerMap

-- ---- before any row

-- after so many declared base units the one of unit parameter k goes back to slot k, and each other atom to itself
abbrev pub first_back : ℕ → ℕ → Atom → PowerMap
first_back bases parameters (Base n) =
    if is_parameter bases parameters 0 n then atom (Var (n - bases)) else atom (Base n)
first_back bases parameters (Var k) = atom (Var k)

abbrev pub first : ℕ → ℕ → ℕ → Kept
first bases parameters slots = record {
  solution = rigid_units bases parameters slots;
  back = first_back bases parameters;
  divisor = pos 1;
  parts = λ _. one;
}

-- ---- row k of the rows

module _ (rows : List PowerMap) (kept : Kept) (k : ℕ) where
  -- what it becomes
  abbrev pub row_unit : PowerMap
  row_unit = replace (nth kept.solution) (nth rows k)

  -- the powers of rows that it goes back to, with the signs of the steps
  abbrev pub row_total : List ElimStep → PowerMap
  row_total ts = signed_by ts (total kept.parts (nth rows k) k kept.divisor)

  -- after these steps
  abbrev pub kept_after_steps : List ElimStep → Kept
  kept_after_steps ts = record {
    solution = units_after ts kept.solution;
    back = inverse_after ts kept.back;
    divisor = kept.divisor;
    parts = kept.parts;
  }

  -- after these steps, which left variable m to the power p, and with 1 for the variable
  abbrev pub ended : List ElimStep → ℕ → ℕ → Kept
  ended ts m p = record {
    solution = map (replace (substitute m one)) (units_after ts kept.solution);
    back = inverse_after ts kept.back;
    divisor = kept.divisor *ℤ pos p;
    parts = parts_after m p (row_total ts) (units_after ts kept.solution) kept.parts;
  }

  -- the steps leave variable m to the power p
  abbrev pub LeavePower : List ElimStep → ℕ → ℕ → Type 0
  LeavePower ts m p = (0 < p) × (unit_after ts row_unit ≡ pow (atom (Var m)) (pos p))

  -- what is kept after the row: the steps of what it becomes leave 1, or a power that then becomes 1
  abbrev pub IsRowMade : Kept → Type 0
  IsRowMade next =
      (ts : List ElimStep) × AreStepsOf row_unit ts
      × (((unit_after ts row_unit ≡ one) × (next ≡ kept_after_steps ts))
      ⊎ ((m p : ℕ) × LeavePower ts m p × (next ≡ ended ts m p)))

-- what is kept after the first rows, from what was kept before any
abbrev pub IsReached : List PowerMap → Kept → ℕ → Kept → Type 0
IsReached rows start zero kept = kept ≡ start
IsReached rows start (suc k) kept = (before : Kept) × IsReached rows start k before × IsRowMade rows before k kept
