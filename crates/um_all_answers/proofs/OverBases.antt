-- Units and types over declared base units alone, with units put for variables.
use Rattle.std.proofs.Common.{◌≡◌, ◌≢◌, ℕ, zero, suc, ◌<◌, ◌≤◌, nat_lt, eqb-true, Bool, true, false, pos, List, [], ◌∷◌, map, refl, sym, ◌∙◌, arith}
use Rattle.std.specs.Prelude.{All, slice_index_or}
use Rattle.std.specs.Ordering.{int_eq}
use Rattle.std.proofs.lemmas.Bool.{false≢true}
use Rattle.std.proofs.lemmas.Bool.Decides.{nat_tests, Decides-int_eq}
use Rattle.std.proofs.lemmas.List.Elements.{All-head, All-tail, All-cons, All-nil}
use Rattle.um_units.specs.declared.Atom.{Atom}
use Rattle.um_units.specs.declared.Atom.TheVariants.{Base, Var}
use Rattle.um_units.specs.declared.Term.{Term}
use Rattle.um_units.specs.Atoms.{same_atom}
use Rattle.um_units.specs.Terms.{weigh}
use Rattle.um_units.specs.PowerMap.{PowerMap, power_of, atom, nth, image, replace}
use Rattle.um_units.specs.Variables.{VariablesBelow}
use Rattle.um_units.proofs.Equality.{tail_only}
use Rattle.um_units.proofs.Group.{power_of-other_atom}
use Rattle.um_units.proofs.Replacement.{weight_held, power_of-replace}
use Rattle.um_tree.specs.TypeTree.{TypeTree, bool_type, num_type, list_type, record_type}
use Rattle.um_tree.specs.ProgramTree.{RecordTree}
use Rattle.um_tree.specs.Formed.{BasesBelow, IsUnitIn, IsTypeIn}
use Rattle.um_tree.specs.Typing.{put}
use Rattle.um_rows.proofs.Variables.{TypeBelow}

-- each base unit of the unit is below n
abbrev pub AreOver : ℕ → PowerMap → Type 0
AreOver n u = BasesBelow n u

abbrev pub IsOver : ℕ → TypeTree → Type 0
IsOver n bool_type = Unit {0}
IsOver n (num_type u) = AreOver n u
IsOver n (list_type t) = IsOver n t
IsOver n (record_type r us) = All (AreOver n) us

pub over_in : (n vars : ℕ) (records : List RecordTree) (t : TypeTree) → IsTypeIn n vars records t → IsOver n t
over_in n vars records bool_type h = tt
over_in n vars records (num_type u) h = h.0
over_in n vars records (list_type t) h = over_in n vars records t h
over_in n vars records (record_type r us) h = units_over us h.1 where
  units_over : (us : List PowerMap) → All (IsUnitIn n vars) us → All (AreOver n) us
  units_over [] h = All-nil (AreOver n)
  units_over (u ∷ us) h = All-cons (AreOver n) u us (All-head (IsUnitIn n vars) u us h).0 (units_over us (All-tail (IsUnitIn n vars) u us h))

pub below_in : (n vars : ℕ) (records : List RecordTree) (t : TypeTree) → IsTypeIn n vars records t → TypeBelow vars t
below_in n vars records bool_type h = tt
below_in n vars records (num_type u) h = h.1
below_in n vars records (list_type t) h = below_in n vars records t h
below_in n vars records (record_type r us) h = units_below us h.1 where
  units_below : (us : List PowerMap) → All (IsUnitIn n vars) us → All (VariablesBelow vars) us
  units_below [] h = All-nil (VariablesBelow vars)
  units_below (u ∷ us) h = All-cons (VariablesBelow vars) u us (All-head (IsUnitIn n vars) u us h).1 (units_below us (All-tail (IsUnitIn n vars) u us h))

-- ---- units put for variables

no_power : (n : ℕ) (u : PowerMap) (k : ℕ) → AreOver n u → n ≤ k → power_of u (Base k) ≡ pos 0
no_power n u k h high = go (int_eq (power_of u (Base k)) (pos 0)) refl where
  go : (b : Bool) → int_eq (power_of u (Base k)) (pos 0) ≡ b → power_of u (Base k) ≡ pos 0
  go true e = (Decides-int_eq (power_of u (Base k)) (pos 0)).0 e
  go false e = absurd (let low = h k (λ z. false≢true (sym e ∙ (Decides-int_eq (power_of u (Base k)) (pos 0)).1 z)) in omega (arith, low, high))

zero_weight : (ts : List Term) → weigh (λ x. pos 0) ts ≡ pos 0
zero_weight [] = refl
zero_weight (t ∷ ts) = tail_only t.power (weigh (λ x. pos 0) ts) ∙ zero_weight ts

other_base : (j k : ℕ) → j < k → same_atom (Base k) (Base j) ≡ false
other_base j k low = go (same_atom (Base k) (Base j)) refl where
  go : (b : Bool) → same_atom (Base k) (Base j) ≡ b → same_atom (Base k) (Base j) ≡ false
  go false e = e
  go true e = absurd (let same : k ≡ j = eqb-true k j e in omega (arith, low, same))

index_all : (P : PowerMap → Type 0) (xs : List PowerMap) (k : ℕ) (d : PowerMap) → P d → All P xs → P (slice_index_or xs k d)
index_all P [] k d h all = h
index_all P (x ∷ xs) zero d h all = All-head P x xs all
index_all P (x ∷ xs) (suc k) d h all = index_all P xs k d h (All-tail P x xs all)

module _ (n : ℕ) (us : List PowerMap) (over : All (AreOver n) us) where
  variable_over : (i : ℕ) → AreOver n (nth us i)
  variable_over i = index_all (AreOver n) us i (atom (Var i)) (λ k some. absurd (some (power_of-other_atom (Base k) (Var i) refl))) over

  image_none : (u : PowerMap) → AreOver n u → (k : ℕ) → n ≤ k → (x : Atom) → power_of u x ≢ pos 0 → power_of (image (nth us) x) (Base k) ≡ pos 0
  image_none u h k high (Base j) some = power_of-other_atom (Base k) (Base j) (let low = h j some in other_base j k (omega (arith, low, high)))
  image_none u h k high (Var i) some = no_power n (nth us i) k (variable_over i) high

  replace_over : (u : PowerMap) → AreOver n u → AreOver n (replace (nth us) u)
  replace_over u h k some = go (nat_lt k n) refl where
    go : (b : Bool) → nat_lt k n ≡ b → k < n
    go true e = grind (arith, nat_tests)
    go false e =
        let high : n ≤ k = grind (arith, nat_tests) in
        absurd
        (
        some
        (
        power_of-replace (nth us) u (Base k)
        ∙ weight_held (λ x. power_of (image (nth us) x) (Base k)) (λ x. pos 0) u (image_none u h k high)
        ∙ zero_weight u.terms
        )
        )

  pub put_over : (t : TypeTree) → IsOver n t → IsOver n (put (nth us) t)
  put_over bool_type h = tt
  put_over (num_type u) h = replace_over u h
  put_over (list_type t) h = put_over t h
  put_over (record_type r vs) h = units_over vs h where
    units_over : (vs : List PowerMap) → All (AreOver n) vs → All (AreOver n) (map (replace (nth us)) vs)
    units_over [] all = All-nil (AreOver n)
    units_over (v ∷ vs) all = All-cons (AreOver n) (replace (nth us) v) (map (replace (nth us)) vs) (replace_over v (All-head (AreOver n) v vs all)) (units_over vs (All-tail (AreOver n) v vs all))
