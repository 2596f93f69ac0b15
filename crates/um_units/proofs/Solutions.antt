-- The first laws of joint solutions and instances.
-- Source: Kennedy (1996), on unification.
use Rattle.std.proofs.Common.{◌≡◌, ℕ, List, [], ◌∷◌, ◌++◌, map, length, refl, sym, ap, ◌∙◌, subst}
use Rattle.std.specs.Prelude.{All}
use Rattle.std.proofs.lemmas.List.{length-map}
use Rattle.std.proofs.lemmas.List.Elements.{All-nil, All-cons, All-head, All-tail, All-append}
use Rattle.um_units.specs.PowerMap.{PowerMap, one, atom, replace, nth}
use Rattle.um_units.specs.declared.Atom.TheVariants.{Var}
use Rattle.um_units.specs.Variables.{VariablesBelow}
use Rattle.um_units.specs.Solutions.{Solves, IsJointSolution, IsSolvable, IsSubstitutionInstance}
use Rattle.um_units.proofs.Replacement.{replace-one, replace-replace, replace-same, replace-nth_map}

-- ---- the rows that a substitution solves
pub Solves-nil : (s : ℕ → PowerMap) → Solves s []
Solves-nil s = All-nil (λ row. replace s row ≡ one)

pub Solves-append : (s : ℕ → PowerMap) (rows more : List PowerMap) → Solves s rows → Solves s more → Solves s (rows ++ more)
Solves-append s rows more h k = All-append (λ row. replace s row ≡ one) rows more h k

pub Solves-front : (s : ℕ → PowerMap) (rows more : List PowerMap) → Solves s (rows ++ more) → Solves s rows
Solves-front s [] more h = Solves-nil s
Solves-front s (row ∷ rows) more h =
    All-cons (λ row. replace s row ≡ one) row rows (All-head (λ row. replace s row ≡ one) row (rows ++ more) h) (Solves-front s rows more (All-tail (λ row. replace s row ≡ one) row (rows ++ more) h))

pub Solves-back : (s : ℕ → PowerMap) (rows more : List PowerMap) → Solves s (rows ++ more) → Solves s more
Solves-back s [] more h = h
Solves-back s (row ∷ rows) more h = Solves-back s rows more (All-tail (λ row. replace s row ≡ one) row (rows ++ more) h)

-- a substitution after one that solves the rows
pub Solves-then : (s t : ℕ → PowerMap) (rows : List PowerMap) → Solves s rows → Solves (λ k. replace t (s k)) rows
Solves-then s t [] h = Solves-nil (λ k. replace t (s k))
Solves-then s t (row ∷ rows) h =
    All-cons (λ row. replace (λ k. replace t (s k)) row ≡ one) row rows
    (sym (replace-replace s t row) ∙ ap (replace t) (All-head (λ row. replace s row ≡ one) row rows h) ∙ replace-one t)
    (Solves-then s t rows (All-tail (λ row. replace s row ≡ one) row rows h))

-- ---- joint solutions
pub IsJointSolution-nil : (units : List PowerMap) → IsJointSolution (length units) [] units
IsJointSolution-nil units = record { per_slot = refl; solves = Solves-nil (nth units) }

pub IsJointSolution-append : (slots : ℕ) (rows more units : List PowerMap) → IsJointSolution slots rows units → Solves (nth units) more → IsJointSolution slots (rows ++ more) units
IsJointSolution-append slots rows more units joint h = record { per_slot = joint.per_slot; solves = Solves-append (nth units) rows more joint.solves h }

-- the front of the rows has at least the solutions of the whole
pub IsJointSolution-front : (slots : ℕ) (rows more units : List PowerMap) → IsJointSolution slots (rows ++ more) units → IsJointSolution slots rows units
IsJointSolution-front slots rows more units joint = record { per_slot = joint.per_slot; solves = Solves-front (nth units) rows more joint.solves }

pub IsSolvable-front : (slots : ℕ) (rows more : List PowerMap) → IsSolvable slots (rows ++ more) → IsSolvable slots rows
IsSolvable-front slots rows more solvable = (solvable.0, IsJointSolution-front slots rows more solvable.0 solvable.1)

-- a replacement of a joint solution is one
pub IsJointSolution-replace : (slots : ℕ) (rows units : List PowerMap) (t : ℕ → PowerMap) → All (VariablesBelow slots) rows → IsJointSolution slots rows units → IsJointSolution slots rows (map (replace t) units)
IsJointSolution-replace slots rows units t below joint = record {
  per_slot = length-map units (replace t) ∙ joint.per_slot;
  solves = each rows (subst (λ n. All (VariablesBelow n) rows) (sym joint.per_slot) below) joint.solves;
}
  where
    each : (rows : List PowerMap) → All (VariablesBelow (length units)) rows → Solves (nth units) rows → Solves (nth (map (replace t) units)) rows
    each [] below h = Solves-nil (nth (map (replace t) units))
    each (row ∷ rows) below h =
        All-cons (λ row. replace (nth (map (replace t) units)) row ≡ one) row rows
        (replace-nth_map t units row (All-head (VariablesBelow (length units)) row rows below)
        ∙ ap (replace t) (All-head (λ row. replace (nth units) row ≡ one) row rows h) ∙ replace-one t)
        (each rows (All-tail (VariablesBelow (length units)) row rows below) (All-tail (λ row. replace (nth units) row ≡ one) row rows h))

-- ---- instances
pub IsSubstitutionInstance_refl : (units : List PowerMap) → IsSubstitutionInstance units units
IsSubstitutionInstance_refl units = ((λ k. atom (Var k)), each units)
  where
    each : (us : List PowerMap) → map (replace (λ k. atom (Var k))) us ≡ us
    each [] = refl
    each (u ∷ us) = λ i. replace-same u i ∷ each us i

-- an instance of an instance is an instance
pub IsSubstitutionInstance_trans : (us vs ws : List PowerMap) → IsSubstitutionInstance us vs → IsSubstitutionInstance vs ws → IsSubstitutionInstance us ws
IsSubstitutionInstance_trans us vs ws p q = ((λ k. replace q.0 (p.0 k)), each us ∙ ap (map (replace q.0)) p.1 ∙ q.1)
  where
    each : (us : List PowerMap) → map (replace (λ k. replace q.0 (p.0 k))) us ≡ map (replace q.0) (map (replace p.0) us)
    each [] = refl
    each (u ∷ us) = λ i. sym (replace-replace p.0 q.0 u) i ∷ each us i

pub length-instance : (us vs : List PowerMap) → IsSubstitutionInstance us vs → length vs ≡ length us
length-instance us vs p = ap length (sym p.1) ∙ length-map us (replace p.0)

-- an instance of a joint solution is one
pub IsJointSolution-instance : (slots : ℕ) (rows us vs : List PowerMap) → All (VariablesBelow slots) rows → IsJointSolution slots rows us → IsSubstitutionInstance us vs → IsJointSolution slots rows vs
IsJointSolution-instance slots rows us vs below joint p = subst (IsJointSolution slots rows) p.1 (IsJointSolution-replace slots rows us p.0 below joint)
