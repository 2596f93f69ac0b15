-- The slots' own variables: each list of a unit for each slot is an instance of them.
use Rattle.std.proofs.Common.{◌≡◌, ℕ, zero, suc, ◌+◌, ◌<◌, ◌≤◌, nat_lt, true, false, if◌then◌else◌, List, [], ◌∷◌, map, length, get_or, refl, sym, ap, ◌∙◌, subst, arith}
use Rattle.std.specs.List.{range_with_len}
use Rattle.std.proofs.lemmas.Bool.Decides.{nat_tests}
use Rattle.std.proofs.lemmas.List.Elements.{All-cons}
use Rattle.std.proofs.lemmas.List.FromFn.{get_or-map-range_with_len, length-map-range_with_len}
use Rattle.um_units.specs.declared.Atom.TheVariants.{Base, Var}
use Rattle.um_units.specs.PowerMap.{PowerMap, one, atom, mul, inv, replace, nth}
use Rattle.um_units.specs.Solutions.{Solves, IsJointSolution}
use Rattle.um_units.proofs.Group.{quotient-same, same_from_quotient}
use Rattle.um_units.proofs.Replacement.{replace-mul, replace-inv, replace-base, replace-variable, nth-map}
use Rattle.um_units.proofs.Solutions.{Solves-nil, IsJointSolution-nil, length-instance}
use Rattle.um_elim.specs.Instances.{SolvesExactly}
use Rattle.um_elim.specs.Solution.{own_variables, rigid_unit, rigid_units, parameter_row, parameter_rows}
use Rattle.um_elim.proofs.Cases.{on_test}

pub length-own : (slots : ℕ) → length (own_variables slots) ≡ slots
length-own slots = length-map-range_with_len (λ k. atom (Var k)) 0 slots

replaced : (s : ℕ → PowerMap) (ks : List ℕ) → map (replace s) (map (λ k. atom (Var k)) ks) ≡ map s ks
replaced s [] = refl
replaced s (k ∷ ks) = λ i. replace-variable s k i ∷ replaced s ks i

default : (v : List PowerMap) (i : ℕ) (d e : PowerMap) → i < length v → get_or v i d ≡ get_or v i e
default [] i d e h = absurd (omega (arith, h))
default (u ∷ v) zero d e h = refl
default (u ∷ v) (suc i) d e h = default v i d e (omega (arith, h))

shifted : (v : List PowerMap) (s : ℕ → PowerMap) (a : ℕ) → ((i : ℕ) → i < length v → s (a + i) ≡ get_or v i (atom (Var i))) → map s (range_with_len a (length v)) ≡ v
shifted [] s a same = refl
shifted (u ∷ v) s a same = λ i. first i ∷ shifted v s (a + 1) rest i
  where
    first : s a ≡ u
    first = ap s (omega arith) ∙ same 0 (omega arith)

    rest : (i : ℕ) → i < length v → s (a + 1 + i) ≡ get_or v i (atom (Var i))
    rest i h = ap s (omega arith) ∙ same (suc i) (omega (arith, h)) ∙ default v i (atom (Var (suc i))) (atom (Var i)) h

zero_plus : (i : ℕ) → 0 + i ≡ i
zero_plus i = omega arith

pub own_is_general : (slots : ℕ) → SolvesExactly slots [] (own_variables slots)
own_is_general slots v = (
  (λ i. subst (λ n. IsJointSolution n [] v) (length-instance (own_variables slots) v i ∙ length-own slots) (IsJointSolution-nil v)),
  (λ joint. (nth v, replaced (nth v) (range_with_len 0 slots) ∙ ap (λ n. map (nth v) (range_with_len 0 n)) (sym joint.per_slot) ∙ shifted v (nth v) 0 (λ i h. ap (nth v) (zero_plus i)))),
)

-- ---- where the first slots are those of unit parameters
pub length-rigid : (bases parameters slots : ℕ) → length (rigid_units bases parameters slots) ≡ slots
length-rigid bases parameters slots = length-map-range_with_len (rigid_unit bases parameters) 0 slots

-- without parameters they are the slots' own variables
rigid_from-own : (bases a n : ℕ) → map (rigid_unit bases 0) (range_with_len a n) ≡ map (λ k. atom (Var k)) (range_with_len a n)
rigid_from-own bases a zero = refl
rigid_from-own bases a (suc n) = ap (λ u. u ∷ map (rigid_unit bases 0) (range_with_len (a + 1) n)) (own a) ∙ ap (λ us. atom (Var a) ∷ us) (rigid_from-own bases (a + 1) n)
  where
    none : (k : ℕ) → nat_lt k 0 ≡ false
    none k = grind (arith, nat_tests)

    own : (k : ℕ) → rigid_unit bases 0 k ≡ atom (Var k)
    own k = ap (λ b. if b then atom (Base (bases + k)) else atom (Var k)) (none k)

pub rigid-own : (bases slots : ℕ) → rigid_units bases 0 slots ≡ own_variables slots
rigid-own bases slots = rigid_from-own bases 0 slots

module _ (bases parameters : ℕ) where
  row-put : (s : ℕ → PowerMap) (k : ℕ) → replace s (parameter_row bases k) ≡ mul (s k) (inv (atom (Base (bases + k))))
  row-put s k =
      replace-mul s (atom (Var k)) (inv (atom (Base (bases + k))))
      ∙ ap (λ u. mul u (replace s (inv (atom (Base (bases + k)))))) (replace-variable s k)
      ∙ ap (mul (s k)) (replace-inv s (atom (Base (bases + k))) ∙ ap inv (replace-base s (bases + k)))

  -- the equations hold exactly where each parameter's slot has its base unit
  pub rows_solved : (s : ℕ → PowerMap) (a n : ℕ) → ((k : ℕ) → a ≤ k → k < a + n → s k ≡ atom (Base (bases + k))) → Solves s (map (parameter_row bases) (range_with_len a n))
  rows_solved s a zero same = Solves-nil s
  rows_solved s a (suc n) same =
      All-cons (λ row. replace s row ≡ one) (parameter_row bases a) (map (parameter_row bases) (range_with_len (a + 1) n))
      (row-put s a ∙ quotient-same (s a) (atom (Base (bases + a))) (same a (omega arith) (omega arith)))
      (rows_solved s (a + 1) n (λ k l h. same k (omega (arith, l)) (omega (arith, h))))

  pub fixed_by_rows : (s : ℕ → PowerMap) → Solves s (parameter_rows bases parameters) → (k : ℕ) → k < parameters → s k ≡ atom (Base (bases + k))
  fixed_by_rows s h k low =
      let row : parameter_row bases k ≡ get_or (parameter_rows bases parameters) k one = sym (get_or-map-range_with_len (parameter_row bases) 0 parameters k k one low (zero_plus k)) in
      let long : k < length (parameter_rows bases parameters) = omega (arith, low, length-map-range_with_len (parameter_row bases) 0 parameters) in
      same_from_quotient (s k) (atom (Base (bases + k))) (sym (row-put s k) ∙ ap (replace s) row ∙ h k one long)

  rigid_put : (s : ℕ → PowerMap) → ((k : ℕ) → k < parameters → s k ≡ atom (Base (bases + k))) → (k : ℕ) → replace s (rigid_unit bases parameters k) ≡ s k
  rigid_put s fixed k =
      on_test (nat_lt k parameters)
      (λ t. ap (λ b. replace s (if b then atom (Base (bases + k)) else atom (Var k))) t ∙ replace-base s (bases + k) ∙ sym (fixed k (grind (arith, nat_tests))))
      (λ t. ap (λ b. replace s (if b then atom (Base (bases + k)) else atom (Var k))) t ∙ replace-variable s k)

  all_rigid_put : (s : ℕ → PowerMap) → ((k : ℕ) → k < parameters → s k ≡ atom (Base (bases + k))) → (ks : List ℕ) → map (replace s) (map (rigid_unit bases parameters) ks) ≡ map s ks
  all_rigid_put s fixed [] = refl
  all_rigid_put s fixed (k ∷ ks) = λ i. rigid_put s fixed k i ∷ all_rigid_put s fixed ks i

  -- an instance has the base unit in each parameter's slot
  instance_fixed : (slots : ℕ) → parameters ≤ slots → (s : ℕ → PowerMap) (k : ℕ) → k < parameters → nth (map (replace s) (rigid_units bases parameters slots)) k ≡ atom (Base (bases + k))
  instance_fixed slots few s k low =
      let inside : k < length (rigid_units bases parameters slots) = omega (arith, low, few, length-rigid bases parameters slots) in
      let there : k < slots = omega (arith, low, few) in
      let is_parameter : nat_lt k parameters ≡ true = grind (arith, nat_tests) in
      nth-map (replace s) (rigid_units bases parameters slots) k inside
      ∙ ap (replace s) (get_or-map-range_with_len (rigid_unit bases parameters) 0 slots k k (atom (Var k)) there (zero_plus k) ∙ ap (λ b. if b then atom (Base (bases + k)) else atom (Var k)) is_parameter)
      ∙ replace-base s (bases + k)

  pub rigid_is_general : (slots : ℕ) → parameters ≤ slots → SolvesExactly slots (parameter_rows bases parameters) (rigid_units bases parameters slots)
  rigid_is_general slots few v = (
    (λ i. record {
      per_slot = length-instance (rigid_units bases parameters slots) v i ∙ length-rigid bases parameters slots;
      solves = rows_solved (nth v) 0 parameters (λ k l h. ap (λ us. nth us k) (sym i.1) ∙ instance_fixed slots few i.0 k (omega (arith, h)));
    }),
    (λ joint.
        let fixed = fixed_by_rows (nth v) joint.solves in
        (nth v, all_rigid_put (nth v) fixed (range_with_len 0 slots) ∙ ap (λ n. map (nth v) (range_with_len 0 n)) (sym joint.per_slot) ∙ shifted v (nth v) 0 (λ i h. ap (nth v) (zero_plus i)))),
  )
