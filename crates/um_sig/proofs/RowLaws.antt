-- The row of two units: what the code makes of their terms, which variables it holds, and when units satisfy it.
-- Source: Kennedy (1996): two units are equal where their quotient is 1.
use Rattle.std.proofs.Common.{◌≡◌, ℕ, zero, suc, ◌+◌, ◌<◌, ◌≤◌, ◌^◌, List, [], ◌∷◌, ◌++◌, length, take, map, get_or, ℤ, pos, negsuc, ◌+ℤ◌, ◌-ℤ◌, ◌*ℤ◌, nat_abs, FitsSigned, w32, arith, refl, sym, ap, ◌∙◌}
use Rattle.std.specs.Prelude.{All, IsTrue}
use Rattle.std.specs.List.{flat_map}
use Rattle.std.proofs.lemmas.List.{append_assoc, map_more}
use Rattle.std.proofs.lemmas.Bool.{leb-true}
use Rattle.std.proofs.lemmas.Int.{ints, fits_signed_from_abs}
use Rattle.std.proofs.lemmas.List.Folds.{list_all_at}
use Rattle.std.proofs.lemmas.List.Elements.{All-nil, All-cons, All-head}
use Rattle.std.proofs.lemmas.Simd.{map-map}
use Rattle.um_units.specs.declared.Atom.{Atom}
use Rattle.um_units.specs.declared.Atom.TheVariants.{Base, Var}
use Rattle.um_units.specs.declared.Term.{Term}
use Rattle.um_units.specs.Terms.{weigh, indicator}
use Rattle.um_units.specs.PowerMap.{PowerMap, product, weight, one, mul, inv, scale, image, replace}
use Rattle.um_units.specs.Variables.{IsClosed, VariablesBelow}
use Rattle.um_units.specs.Range.{in_range, all_in_range}
use Rattle.um_units.proofs.Equality.{same_unit}
use Rattle.um_units.proofs.Weights.{weigh-product, weigh-++, weigh_alike}
use Rattle.um_units.proofs.Group.{weigh-scale, weight-atom, weight-mul, weight-pow, quotient-same, same_from_quotient}
use Rattle.um_units.proofs.Replacement.{weight-replace, replace-mul, replace-inv, replace-closed}
use Rattle.um_units.proofs.Variables.{IsClosed-base, IsClosed-replace, VariablesBelow-closed, VariablesBelow-mul, VariablesBelow-inv}
use Rattle.um_tree.specs.TypeTree.{TypeTree, num_type, list_type, record_type}
use Rattle.um_tree.specs.Typing.{parameter_unit}
use Rattle.um_tree.specs.Scheme.{atom_variables, unit_variables, type_variables}
use Rattle.um_elim.proofs.Cases.{on_test}
use Rattle.um_elim.proofs.GrowingOrder.{All-front, All-back, All-at}
use Rattle.um_elim.proofs.VariablesKept.{unit_below}
use Rattle.um_sig.specs.Matching.{fixed, unit_row, unit_rows, type_rows}
use Rattle.um_sig.specs.Steps.{fixed_atom, inverse_term, HasRoom, HaveRoom}

-- ---- powers in range can be negated
same_size : (z : ℤ) → nat_abs (pos 0 -ℤ z) ≡ nat_abs z
same_size (pos zero) = let e : pos 0 -ℤ pos 0 ≡ pos 0 = omega (arith, ints) in ap nat_abs e
same_size (pos (suc n)) = let e : pos 0 -ℤ pos (suc n) ≡ negsuc n = omega (arith, ints) in ap nat_abs e
same_size (negsuc n) = let e : pos 0 -ℤ negsuc n ≡ pos (suc n) = omega (arith, ints) in ap nat_abs e

by_size : (z : ℤ) → nat_abs z ≤ 2147483647 → FitsSigned w32 (pos 0 -ℤ z)
by_size z h = fits_signed_from_abs w32 (pos 0 -ℤ z) (omega (arith, h, same_size z))

pub negated_fits : (ts : List Term) (i : ℕ) (d : Term) → i < length ts → IsTrue (all_in_range ts) → FitsSigned w32 (pos 0 -ℤ (get_or ts i d).power)
negated_fits ts i d l h =
    by_size (get_or ts i d).power
    (on_test (in_range (get_or ts i d).power)
    (λ e. leb-true (nat_abs (get_or ts i d).power) 2147483647 e)
    (λ e. let none = list_all_at (λ (t : Term). in_range t.power) ts i d l e in absurd (cc)))

module _ (bases : ℕ) where
  -- ---- the terms
  abbrev in_place : Term → Term
  in_place t = record { atom = fixed_atom bases t.atom; power = t.power }

  weigh-in_place : (f : Atom → ℤ) (ts : List Term) → weigh f (map in_place ts) ≡ weigh (λ x. f (fixed_atom bases x)) ts
  weigh-in_place f [] = refl
  weigh-in_place f (t ∷ ts) = ap (λ n. t.power *ℤ f (fixed_atom bases t.atom) +ℤ n) (weigh-in_place f ts)

  at_atom : (f : Atom → ℤ) (x : Atom) → f (fixed_atom bases x) ≡ weight f (image (parameter_unit bases) x)
  at_atom f (Base n) = sym (weight-atom f (Base n))
  at_atom f (Var k) = sym (weight-atom f (Base (bases + k)))

  weigh-inverse : (f : Atom → ℤ) (v : PowerMap) → weigh f (map (inverse_term bases) v.terms) ≡ negsuc 0 *ℤ weight f (fixed bases v)
  weigh-inverse f v =
      ap (weigh f) (sym (map-map (scale (negsuc 0)) in_place v.terms))
      ∙ weigh-scale f (negsuc 0) (map in_place v.terms)
      ∙ ap (λ n. negsuc 0 *ℤ n) (weigh-in_place f v.terms ∙ weigh_alike _ _ (at_atom f) v.terms ∙ sym (weight-replace f (parameter_unit bases) v))

  pub product-row : (u v : PowerMap) → product (u.terms ++ map (inverse_term bases) v.terms) ≡ unit_row bases u v
  product-row u v =
      same_unit _ _ (λ x. weigh-product (indicator x) (u.terms ++ map (inverse_term bases) v.terms)
      ∙ weigh-++ (indicator x) u.terms (map (inverse_term bases) v.terms)
      ∙ ap (λ n. weigh (indicator x) u.terms +ℤ n) (weigh-inverse (indicator x) v ∙ sym (weight-pow (indicator x) (fixed bases v) (negsuc 0)))
      ∙ sym (weight-mul (indicator x) u (inv (fixed bases v))))

  -- one more term
  pub terms_more : (own other : List Term) (i : ℕ) (d : Term) (out new : List Term) (v : Term) → i < length other → out ≡ own ++ map (inverse_term bases) (take i other) → new ≡ out ++ v ∷ [] →
      v ≡ inverse_term bases (get_or other i d) → new ≡ own ++ map (inverse_term bases) (take (i + 1) other)
  terms_more own other i d out new v l is pushed same =
      pushed
      ∙ ap (λ ts. ts ++ v ∷ []) is
      ∙ append_assoc own (map (inverse_term bases) (take i other)) (v ∷ [])
      ∙ ap (λ t. own ++ (map (inverse_term bases) (take i other) ++ t ∷ [])) same
      ∙ ap (λ ts. own ++ ts) (sym (map_more (inverse_term bases) other i d l))

  -- ---- room for the signature's variables
  atom_room : (x : Atom) → HaveRoom bases (atom_variables x) → HasRoom bases x
  atom_room (Base n) h = tt
  atom_room (Var k) h = All-head (λ j. bases + j < 2 ^ 32) k [] h

  pub terms_room : (v : PowerMap) → HaveRoom bases (unit_variables v) → All (λ (t : Term). HasRoom bases t.atom) v.terms
  terms_room v h = λ i d l. atom_room (get_or v.terms i d).atom (All-at (λ j. bases + j < 2 ^ 32) (λ (t : Term). atom_variables t.atom) v.terms i d l h)

  -- ---- the variables
  pub fixed_closed : (v : PowerMap) → IsClosed (fixed bases v)
  fixed_closed v = IsClosed-replace (parameter_unit bases) v (λ j held. IsClosed-base (bases + j))

  pub row_below : (n : ℕ) (u v : PowerMap) → VariablesBelow n u → VariablesBelow n (unit_row bases u v)
  row_below n u v h = VariablesBelow-mul n u (inv (fixed bases v)) h (VariablesBelow-inv n (fixed bases v) (VariablesBelow-closed n (fixed bases v) (fixed_closed v)))

  unit_rows_below : (n : ℕ) (us vs : List PowerMap) → All (λ k. k < n) (flat_map unit_variables us) → All (VariablesBelow n) (unit_rows bases us vs)
  unit_rows_below n [] [] h = All-nil (VariablesBelow n)
  unit_rows_below n [] (v ∷ vs) h = All-nil (VariablesBelow n)
  unit_rows_below n (u ∷ us) [] h = All-nil (VariablesBelow n)
  unit_rows_below n (u ∷ us) (v ∷ vs) h =
      All-cons (VariablesBelow n) (unit_row bases u v) (unit_rows bases us vs)
      (row_below n u v (unit_below n u (All-front (λ k. k < n) (unit_variables u) (flat_map unit_variables us) h)))
      (unit_rows_below n us vs (All-back (λ k. k < n) (unit_variables u) (flat_map unit_variables us) h))

  pub type_rows_below : (n : ℕ) (s t : TypeTree) → All (λ k. k < n) (type_variables s) → All (VariablesBelow n) (type_rows bases s t)
  type_rows_below n (num_type u) (num_type v) h =
      All-cons (VariablesBelow n) (unit_row bases u v) [] (row_below n u v (unit_below n u h)) (All-nil (VariablesBelow n))
  type_rows_below n (list_type s) (list_type t) h = type_rows_below n s t h
  type_rows_below n (record_type r us) (record_type q vs) h = unit_rows_below n us vs h
  type_rows_below n s t h = All-nil (VariablesBelow n)

  -- ---- what satisfies it
  row_put : (s : ℕ → PowerMap) (u v : PowerMap) → replace s (unit_row bases u v) ≡ mul (replace s u) (inv (fixed bases v))
  row_put s u v =
      replace-mul s u (inv (fixed bases v))
      ∙ ap (mul (replace s u)) (replace-inv s (fixed bases v) ∙ ap inv (replace-closed s (fixed bases v) (fixed_closed v)))

  pub same_from_row : (s : ℕ → PowerMap) (u v : PowerMap) → replace s (unit_row bases u v) ≡ one → replace s u ≡ fixed bases v
  same_from_row s u v e = same_from_quotient (replace s u) (fixed bases v) (sym (row_put s u v) ∙ e)

  pub row_from_same : (s : ℕ → PowerMap) (u v : PowerMap) → replace s u ≡ fixed bases v → replace s (unit_row bases u v) ≡ one
  row_from_same s u v e = row_put s u v ∙ quotient-same (replace s u) (fixed bases v) e
