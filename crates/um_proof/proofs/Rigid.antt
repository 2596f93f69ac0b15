-- If some joint solution has a unit of its own for each unit parameter, each joint solution is one of these after units are
-- put for variables and unit parameters.
use Rattle.std.proofs.Common.{◌≡◌, sym, ap, ◌∙◌, inl, ℕ, ◌<◌, ◌≤◌, List, [], ◌∷◌, map, arith}
use Rattle.std.specs.Prelude.{All}
use Rattle.std.specs.List.{range_with_len}
use Rattle.std.proofs.lemmas.List.Elements.{All-nil, All-cons, All-head, All-tail}
use Rattle.std.proofs.lemmas.List.FromFn.{get_or-map-range_with_len, length-map-range_with_len}
use Rattle.um_units.specs.declared.Atom.TheVariants.{Var}
use Rattle.um_units.specs.PowerMap.{PowerMap, one, atom, mul, inv, replace, nth}
use Rattle.um_units.specs.Variables.{VariablesBelow}
use Rattle.um_units.specs.Solutions.{Solves, IsJointSolution}
use Rattle.um_units.proofs.Group.{mul-one, one-mul, mul-inv}
use Rattle.um_tree.specs.Typing.{parameter_unit}
use Rattle.um_tree.specs.Formed.{BasesBelow}
use Rattle.um_tree.proofs.Homomorphisms.{h-one, h-replace}
use Rattle.um_rows.specs.Solutions.{IsRigid}
use Rattle.um_rows.proofs.Variables.{replace_alike_below}
use Rattle.um_proof.proofs.Instantiated.{spread, spread-mul, given, given_is, given_parameter, given_back}
use Rattle.um_proof.proofs.Products.{quotient_taken, alone, product_put, alone_changed}

module _ (bases parameters slots : ℕ) (us rs : List PowerMap) (rigid : IsRigid bases parameters rs) (within : parameters ≤ slots) where
  -- the change that puts the units of the first solution for unit parameters
  abbrev pub put_back : PowerMap → PowerMap
  put_back = given bases parameters us

  -- what is left of each of these units, and the solution that keeps unit parameters apart
  abbrev left_of : ℕ → PowerMap
  left_of k = mul (nth us k) (inv (put_back (nth rs k)))

  abbrev apart : ℕ → PowerMap
  apart k = mul (nth rs k) (spread (left_of k))

  abbrev pub apart_units : List PowerMap
  apart_units = map apart (range_with_len 0 slots)

  is_apart : (k : ℕ) → k < slots → nth apart_units k ≡ apart k
  is_apart k low = get_or-map-range_with_len apart 0 slots k k (atom (Var k)) low (omega arith)

  -- ---- it gives the units back
  pub gives_back : (k : ℕ) → k < slots → put_back (nth apart_units k) ≡ nth us k
  gives_back k low =
      ap put_back (is_apart k low)
      ∙ (given_is bases parameters us).homomorphism (nth rs k) (spread (left_of k))
      ∙ ap (mul (put_back (nth rs k))) (given_back bases parameters us (left_of k))
      ∙ quotient_taken (put_back (nth rs k)) (nth us k)

  -- ---- it keeps unit parameters apart
  none_left : (k : ℕ) → k < parameters → left_of k ≡ one
  none_left k low = ap (λ u. mul (nth us k) (inv u)) (ap put_back (rigid k low) ∙ given_parameter bases parameters us k low) ∙ mul-inv (nth us k)

  pub apart_rigid : IsRigid bases parameters apart_units
  apart_rigid k low =
      is_apart k (omega (arith, low, within))
      ∙ (λ i. mul (rigid k low i) (spread (none_left k low i)))
      ∙ ap (mul (parameter_unit bases k)) (h-one spread spread-mul)
      ∙ mul-one (parameter_unit bases k)

  -- ---- it solves each row
  row_solved : (row : PowerMap) → BasesBelow bases row → replace (nth us) row ≡ one → replace (nth rs) row ≡ one → replace apart row ≡ one
  row_solved row declared solved also =
      let h-mul = (given_is bases parameters us).homomorphism in
      let split : replace (nth us) row ≡ mul (replace (λ k. put_back (nth rs k)) row) (alone left_of row) =
      (λ i. replace (λ k. sym (quotient_taken (put_back (nth rs k)) (nth us k)) i) row) ∙ product_put (λ k. put_back (nth rs k)) left_of row in
      let changed : replace (λ k. put_back (nth rs k)) row ≡ one =
      sym (h-replace put_back h-mul row (λ k held. (given_is bases parameters us).others k (inl (declared k held))) (nth rs)) ∙ ap put_back also ∙ h-one put_back h-mul in
      let none : alone left_of row ≡ one = sym (one-mul (alone left_of row)) ∙ ap (λ u. mul u (alone left_of row)) (sym changed) ∙ sym split ∙ solved in
      product_put (nth rs) (λ k. spread (left_of k)) row
      ∙ (λ i. mul (also i) (alone_changed spread spread-mul left_of row i))
      ∙ ap (λ u. mul one (spread u)) none
      ∙ ap (mul one) (h-one spread spread-mul)
      ∙ mul-one one

  rows_solved : (rows : List PowerMap) → All (VariablesBelow slots) rows → All (BasesBelow bases) rows → Solves (nth us) rows → Solves (nth rs) rows → Solves (nth apart_units) rows
  rows_solved [] low declared solved also = All-nil (λ row. replace (nth apart_units) row ≡ one)
  rows_solved (row ∷ rows) low declared solved also =
      let Ours = λ (s : ℕ → PowerMap) (u : PowerMap). replace s u ≡ one in
      All-cons (Ours (nth apart_units)) row rows
      (replace_alike_below slots (nth apart_units) apart is_apart row (All-head (VariablesBelow slots) row rows low)
      ∙ row_solved row (All-head (BasesBelow bases) row rows declared) (All-head (Ours (nth us)) row rows solved) (All-head (Ours (nth rs)) row rows also))
      (rows_solved rows (All-tail (VariablesBelow slots) row rows low) (All-tail (BasesBelow bases) row rows declared) (All-tail (Ours (nth us)) row rows solved) (All-tail (Ours (nth rs)) row rows also))

  pub apart_joint : (rows : List PowerMap) → All (VariablesBelow slots) rows → All (BasesBelow bases) rows → IsJointSolution slots rows us → IsJointSolution slots rows rs → IsJointSolution slots rows apart_units
  apart_joint rows low declared joint also = record {
    per_slot = length-map-range_with_len apart 0 slots;
    solves = rows_solved rows low declared joint.solves also.solves;
  }
