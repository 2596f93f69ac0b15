-- The rows of types of the same forms are satisfied exactly by the units that make the scheme's types the signature's, whose
-- variables are units of their own.
-- Source: Kennedy (1996): two types are equal where their units are.
use Rattle.std.proofs.Common.{◌≡◌, ℕ, zero, suc, ◌<◌, List, [], ◌∷◌, map, take, refl, sym, ap, ◌∙◌, arith}
use Rattle.std.specs.Prelude.{All}
use Rattle.std.specs.List.{range_with_len}
use Rattle.std.proofs.lemmas.List.{take-map}
use Rattle.std.proofs.lemmas.List.Elements.{All-nil, All-cons, All-head, All-tail, All-append}
use Rattle.std.proofs.lemmas.List.FromFn.{get_or-map-range_with_len, length-map-range_with_len}
use Rattle.um_units.specs.declared.Atom.TheVariants.{Var}
use Rattle.um_units.specs.PowerMap.{PowerMap, one, atom, replace, nth}
use Rattle.um_units.specs.Variables.{VariablesBelow}
use Rattle.um_units.specs.Solutions.{Solves, IsSolvable}
use Rattle.um_units.proofs.Replacement.{replace_alike}
use Rattle.um_units.proofs.Solutions.{Solves-nil, Solves-append, Solves-front, Solves-back}
use Rattle.um_tree.specs.TypeTree.{TypeTree, bool_type, num_type, list_type, record_type}
use Rattle.um_tree.specs.Typing.{put}
use Rattle.um_tree.specs.Scheme.{type_variables, variables}
use Rattle.um_elim.proofs.GrowingOrder.{All-front, All-back}
use Rattle.um_sig.specs.Form.{form, AreAlike}
use Rattle.um_sig.specs.Matching.{fixed, fixed_type, unit_row, unit_rows, type_rows, matching_rows}
use Rattle.um_sig.specs.Instances.{AreMatched}
use Rattle.um_sig.proofs.RowLaws.{type_rows_below, same_from_row, row_from_same}

-- ---- a type with units put in has the form of the type
ones-put : (s : ℕ → PowerMap) (us : List PowerMap) → map (λ (u : PowerMap). one) (map (replace s) us) ≡ map (λ (u : PowerMap). one) us
ones-put s [] = refl
ones-put s (u ∷ us) = ap (λ vs. one ∷ vs) (ones-put s us)

pub form-put : (s : ℕ → PowerMap) (t : TypeTree) → form (put s t) ≡ form t
form-put s bool_type = refl
form-put s (num_type u) = refl
form-put s (list_type t) = ap list_type (form-put s t)
form-put s (record_type r us) = ap (record_type r) (ones-put s us)

pub forms-put : (s : ℕ → PowerMap) (ts : List TypeTree) → map form (map (put s) ts) ≡ map form ts
forms-put s [] = refl
forms-put s (t ∷ ts) = λ i. form-put s t i ∷ forms-put s ts i

-- so two lists of which one is an instance of the other's are alike
pub alike_from_same : (s r : ℕ → PowerMap) (ss ts : List TypeTree) → map (put s) ss ≡ map (put r) ts → AreAlike ss ts
alike_from_same s r ss ts e = sym (forms-put s ss) ∙ ap (map form) e ∙ forms-put r ts

module _ (bases : ℕ) (s : ℕ → PowerMap) where
  -- ---- from the rows to the types
  same_units : (us vs : List PowerMap) → map (λ (u : PowerMap). one) us ≡ map (λ (u : PowerMap). one) vs → Solves s (unit_rows bases us vs) → map (replace s) us ≡ map (fixed bases) vs
  same_units [] [] e h = refl
  same_units [] (v ∷ vs) e h = absurd (cc e)
  same_units (u ∷ us) [] e h = absurd (cc e)
  same_units (u ∷ us) (v ∷ vs) e h =
      let rest : map (λ (u : PowerMap). one) us ≡ map (λ (u : PowerMap). one) vs = cc e in
      let first = same_from_row bases s u v (All-head (λ row. replace s row ≡ one) (unit_row bases u v) (unit_rows bases us vs) h) in
      let others = same_units us vs rest (All-tail (λ row. replace s row ≡ one) (unit_row bases u v) (unit_rows bases us vs) h) in
      λ i. first i ∷ others i

  same_types : (t w : TypeTree) → form t ≡ form w → Solves s (type_rows bases t w) → put s t ≡ fixed_type bases w
  same_types bool_type bool_type e h = refl
  same_types (num_type u) (num_type v) e h = ap num_type (same_from_row bases s u v (All-head (λ row. replace s row ≡ one) (unit_row bases u v) [] h))
  same_types (list_type t) (list_type w) e h = let inner : form t ≡ form w = cc e in ap list_type (same_types t w inner h)
  same_types (record_type r us) (record_type q vs) e h =
      let number : r ≡ q = cc e in
      let ones : map (λ (u : PowerMap). one) us ≡ map (λ (u : PowerMap). one) vs = cc e in
      let units = same_units us vs ones h in
      λ i. record_type (number i) (units i)
  same_types t w e h = absurd (cc e)

  pub same_from_rows : (ss ts : List TypeTree) → AreAlike ss ts → Solves s (matching_rows bases ss ts) → map (put s) ss ≡ map (fixed_type bases) ts
  same_from_rows [] [] e h = refl
  same_from_rows [] (t ∷ ts) e h = absurd (cc e)
  same_from_rows (t ∷ ss) [] e h = absurd (cc e)
  same_from_rows (t ∷ ss) (w ∷ ts) e h =
      let form_first : form t ≡ form w = cc e in
      let forms_rest : map form ss ≡ map form ts = cc e in
      let first = same_types t w form_first (Solves-front s (type_rows bases t w) (matching_rows bases ss ts) h) in
      let rest = same_from_rows ss ts forms_rest (Solves-back s (type_rows bases t w) (matching_rows bases ss ts) h) in
      λ i. first i ∷ rest i

  -- ---- and back
  rows_from_units : (us vs : List PowerMap) → map (replace s) us ≡ map (fixed bases) vs → Solves s (unit_rows bases us vs)
  rows_from_units [] [] e = Solves-nil s
  rows_from_units [] (v ∷ vs) e = Solves-nil s
  rows_from_units (u ∷ us) [] e = Solves-nil s
  rows_from_units (u ∷ us) (v ∷ vs) e =
      let first : replace s u ≡ fixed bases v = cc e in
      let rest : map (replace s) us ≡ map (fixed bases) vs = cc e in
      All-cons (λ row. replace s row ≡ one) (unit_row bases u v) (unit_rows bases us vs) (row_from_same bases s u v first) (rows_from_units us vs rest)

  rows_from_types : (t w : TypeTree) → put s t ≡ fixed_type bases w → Solves s (type_rows bases t w)
  rows_from_types (num_type u) (num_type v) e =
      let same : replace s u ≡ fixed bases v = cc e in
      All-cons (λ row. replace s row ≡ one) (unit_row bases u v) [] (row_from_same bases s u v same) (Solves-nil s)
  rows_from_types (list_type t) (list_type w) e = let inner : put s t ≡ fixed_type bases w = cc e in rows_from_types t w inner
  rows_from_types (record_type r us) (record_type q vs) e = let units : map (replace s) us ≡ map (fixed bases) vs = cc e in rows_from_units us vs units
  rows_from_types t w e = Solves-nil s

  pub rows_from_same : (ss ts : List TypeTree) → map (put s) ss ≡ map (fixed_type bases) ts → Solves s (matching_rows bases ss ts)
  rows_from_same [] [] e = Solves-nil s
  rows_from_same [] (t ∷ ts) e = Solves-nil s
  rows_from_same (t ∷ ss) [] e = Solves-nil s
  rows_from_same (t ∷ ss) (w ∷ ts) e =
      let first : put s t ≡ fixed_type bases w = cc e in
      let rest : map (put s) ss ≡ map (fixed_type bases) ts = cc e in
      Solves-append s (type_rows bases t w) (matching_rows bases ss ts) (rows_from_types t w first) (rows_from_same ss ts rest)

-- ---- the rows hold the scheme's variables alone
pub rows_below : (bases n : ℕ) (ss ts : List TypeTree) → All (λ k. k < n) (variables ss) → All (VariablesBelow n) (matching_rows bases ss ts)
rows_below bases n [] [] h = All-nil (VariablesBelow n)
rows_below bases n [] (t ∷ ts) h = All-nil (VariablesBelow n)
rows_below bases n (s ∷ ss) [] h = All-nil (VariablesBelow n)
rows_below bases n (s ∷ ss) (t ∷ ts) h =
    All-append (VariablesBelow n) (type_rows bases s t) (matching_rows bases ss ts)
    (type_rows_below bases n s t (All-front (λ k. k < n) (type_variables s) (variables ss) h))
    (rows_below bases n ss ts (All-back (λ k. k < n) (type_variables s) (variables ss) h))

-- those of the first types too
pub front_below : (n j : ℕ) (ss : List TypeTree) → All (λ k. k < n) (variables ss) → All (λ k. k < n) (variables (take j ss))
front_below n zero ss h = All-nil (λ k. k < n)
front_below n (suc j) [] h = h
front_below n (suc j) (s ∷ ss) h =
    All-append (λ k. k < n) (type_variables s) (variables (take j ss))
    (All-front (λ k. k < n) (type_variables s) (variables ss) h)
    (front_below n j ss (All-back (λ k. k < n) (type_variables s) (variables ss) h))

-- ---- units for all variables as a list for those below n
module _ (n : ℕ) (s : ℕ → PowerMap) where
  abbrev listed : List PowerMap
  listed = map s (range_with_len 0 n)

  listed_at : (k : ℕ) → k < n → nth listed k ≡ s k
  listed_at k low = get_or-map-range_with_len s 0 n k k (atom (Var k)) low (omega arith)

  solves_listed : (rows : List PowerMap) → All (VariablesBelow n) rows → Solves s rows → Solves (nth listed) rows
  solves_listed [] below h = Solves-nil (nth listed)
  solves_listed (row ∷ rows) below h =
      let low = All-head (VariablesBelow n) row rows below in
      All-cons (λ r. replace (nth listed) r ≡ one) row rows
      (replace_alike (nth listed) s row (λ k held. listed_at k (low k held)) ∙ All-head (λ r. replace s r ≡ one) row rows h)
      (solves_listed rows (All-tail (VariablesBelow n) row rows below) (All-tail (λ r. replace s r ≡ one) row rows h))

  pub solvable_listed : (rows : List PowerMap) → All (VariablesBelow n) rows → Solves s rows → IsSolvable n rows
  solvable_listed rows below h = (listed, record { per_slot = length-map-range_with_len s 0 n; solves = solves_listed rows below h })

-- ---- the first types of two alike lists are matched exactly where their rows have a joint solution
alike_front : (j : ℕ) (ss ts : List TypeTree) → AreAlike ss ts → AreAlike (take j ss) (take j ts)
alike_front j ss ts e = sym (take-map form j ss) ∙ ap (take j) e ∙ take-map form j ts

pub matched_from_solvable : (bases n j : ℕ) (ss ts : List TypeTree) → AreAlike ss ts → IsSolvable n (matching_rows bases (take j ss) (take j ts)) → AreMatched bases j ss ts
matched_from_solvable bases n j ss ts alike h =
    (nth h.0, sym (same_from_rows bases (nth h.0) (take j ss) (take j ts) (alike_front j ss ts alike) h.1.solves))

pub solvable_from_matched : (bases n j : ℕ) (ss ts : List TypeTree) → All (λ k. k < n) (variables ss) → AreMatched bases j ss ts → IsSolvable n (matching_rows bases (take j ss) (take j ts))
solvable_from_matched bases n j ss ts below h =
    solvable_listed n h.0 (matching_rows bases (take j ss) (take j ts)) (rows_below bases n (take j ss) (take j ts) (front_below n j ss below))
    (rows_from_same bases h.0 (take j ss) (take j ts) (sym h.1))
