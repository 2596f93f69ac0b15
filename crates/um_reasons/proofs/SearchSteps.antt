-- Rows joined one by one: what the search for the next row has shown.
-- Source: Kennedy (1996), unification in the free abelian group, equation by equation.
use Rattle.std.proofs.Common.{◌≡◌, ℕ, ◌+◌, ◌<◌, ◌≤◌, add-one, Bool, true, false, List, [], ◌∷◌, ◌++◌, map, length, take, drop, get_or, sym, ap, ◌∙◌, subst, arith}
use Rattle.std.specs.Prelude.{All}
use Rattle.std.proofs.lemmas.List.{append-nil, append_assoc, map-append, take_more, take_all, take-append-drop, get_or-map, length-map}
use Rattle.std.proofs.lemmas.List.Elements.{All-get_or}
use Rattle.um_units.specs.PowerMap.{PowerMap, one, nth}
use Rattle.um_units.specs.Variables.{VariablesBelow}
use Rattle.um_units.specs.Solutions.{IsSolvable}
use Rattle.um_units.proofs.Solutions.{IsSubstitutionInstance_refl, IsSolvable-front, Solves-append, Solves-front, Solves-back}
use Rattle.um_elim.specs.Instances.{IsMostGeneral, IsRight, SolvesExactly}
use Rattle.um_elim.specs.Solution.{rigid_units, parameter_rows}
use Rattle.um_elim.proofs.Rows.{exactly-more, unsolvable-more, length-solved}
use Rattle.um_elim.proofs.Slots.{length-rigid}
use Rattle.um_equal_types.specs.declared.row.Row.{Row}
use Rattle.um_equal_types.specs.Steps.{units_of}
use Rattle.um_reasons.specs.Core.{picked, IsSolvableList, IsNextRow}
use Rattle.um_reasons.specs.Search.{AreSolved, outcome}

module _ (slots bases parameters : ℕ) where
  pub none_joined : (units : List PowerMap) → units ≡ rigid_units bases parameters slots → SolvesExactly slots (parameter_rows bases parameters) units → AreSolved slots bases parameters [] units
  none_joined units is exact = record {
    exact = subst (λ rs. SolvesExactly slots rs units) (sym (append-nil (parameter_rows bases parameters))) exact;
    count = ap length is ∙ length-rigid bases parameters slots;
  }

  -- a row that is solved joins those before
  pub one_joined : (rows : List PowerMap) (row : PowerMap) (old new : List PowerMap) → AreSolved slots bases parameters rows old → IsMostGeneral old row new → AreSolved slots bases parameters (rows ++ row ∷ []) new
  one_joined rows row old new h g = record {
    exact =
        subst (λ rs. SolvesExactly slots rs new) (append_assoc (parameter_rows bases parameters) rows (row ∷ []))
        (exactly-more slots (parameter_rows bases parameters ++ rows) row old new h.exact g);
    count = length-solved old row new g ∙ h.count;
  }

  -- rows that are solved are solvable
  pub joined_are_solvable : (rows units : List PowerMap) → AreSolved slots bases parameters rows units → IsSolvable slots (parameter_rows bases parameters ++ rows)
  joined_are_solvable rows units h = (units, (h.exact units).0 (IsSubstitutionInstance_refl units))

-- ---- rows by their numbers

module _ (slots : ℕ) (given : List PowerMap) (rows : List Row) where
  pub picked_more : (list : List ℕ) (i : ℕ) (row : Row) → i < length list → get_or list i 0 < length rows → row ≡ get_or rows (get_or list i 0) row →
      picked slots given (units_of rows) (take i list) ++ row.unit ∷ [] ≡ picked slots given (units_of rows) (take (i + 1) list)
  picked_more list i row l m is =
      let f : ℕ → PowerMap = λ k. get_or (units_of rows) k one in
      sym (ap (map f) (take_more list i 0 l) ∙ map-append f (take i list) (get_or list i 0 ∷ [])
      ∙ ap (λ u. map f (take i list) ++ u ∷ []) (get_or-map (λ (r : Row). r.unit) rows (get_or list i 0) row one m ∙ ap (λ (r : Row). r.unit) (sym is)))

  pub first_more : (j : ℕ) (row : Row) → j < length rows → row ≡ get_or rows j row →
      take j (units_of rows) ++ row.unit ∷ [] ≡ take (j + 1) (units_of rows)
  first_more j row l is =
      sym (take_more (units_of rows) j one (omega (arith, l, length-map rows (λ (r : Row). r.unit)))
      ∙ ap (λ u. take j (units_of rows) ++ u ∷ []) (get_or-map (λ (r : Row). r.unit) rows j row one l ∙ ap (λ (r : Row). r.unit) (sym is)))

pub row_below : (slots n : ℕ) (rows : List Row) (j : ℕ) (row : Row) → n ≡ slots → j < length rows → row ≡ get_or rows j row → All (λ (r : Row). VariablesBelow slots r.unit) rows → VariablesBelow n row.unit
row_below slots n rows j row e l is below =
    subst (λ m. VariablesBelow m row.unit) (sym e)
    (subst (λ (r : Row). VariablesBelow slots r.unit) (sym is) (All-get_or (λ (r : Row). VariablesBelow slots r.unit) rows j row l below))

-- a row that joins
pub when_joined : (old new : List PowerMap) (row : PowerMap) (b : Bool) → b ≡ true → IsRight old row (outcome b new) →
    (slots bases parameters : ℕ) (rows : List PowerMap) → AreSolved slots bases parameters rows old → AreSolved slots bases parameters (rows ++ row ∷ []) new
when_joined old new row true e g slots bases parameters rows h = one_joined slots bases parameters rows row old new h g
when_joined old new row false e g slots bases parameters rows h = absurd (cc e)

-- and one that doesn't
pub when_refused : (old new : List PowerMap) (row : PowerMap) (b : Bool) → b ≡ false → IsRight old row (outcome b new) →
    (slots : ℕ) (rows : List PowerMap) → SolvesExactly slots rows old → IsSolvable slots (rows ++ row ∷ []) → ⊥
when_refused old new row false e g slots rows h = unsolvable-more slots rows row old h g
when_refused old new row true e g slots rows h = absurd (cc e)

-- ---- what a refusal shows

module _ (slots : ℕ) (given : List PowerMap) (rows : List Row) where
  -- a list is unsolvable if its front is
  pub front_of_list : (list : List ℕ) (i : ℕ) (row : Row) → i < length list → get_or list i 0 < length rows → row ≡ get_or rows (get_or list i 0) row →
      IsSolvableList slots given (units_of rows) list → IsSolvable slots ((given ++ picked slots given (units_of rows) (take i list)) ++ row.unit ∷ [])
  front_of_list list i row l m is solvable =
      let f : ℕ → PowerMap = λ k. get_or (units_of rows) k one in
      let P = map f (take i list) in
      let R = row.unit ∷ [] in
      let D = map f (drop (i + 1) list) in
      IsSolvable-front slots ((given ++ P) ++ R) D (subst (IsSolvable slots)
      (ap (λ x. given ++ map f x) (sym (take-append-drop (i + 1) list))
      ∙ ap (λ x. given ++ x) (map-append f (take (i + 1) list) (drop (i + 1) list))
      ∙ ap (λ x. given ++ (x ++ D)) (sym (picked_more slots given rows list i row l m is))
      ∙ sym (append_assoc given (P ++ R) D) ∙ ap (λ x. x ++ D) (sym (append_assoc given P R))) solvable)

  -- row j is the next one
  pub next_row_is : (list : List ℕ) (j : ℕ) (row : Row) → j < length rows → row ≡ get_or rows j row →
      IsSolvable slots (given ++ (picked slots given (units_of rows) list ++ take j (units_of rows))) →
      (IsSolvable slots ((given ++ (picked slots given (units_of rows) list ++ take j (units_of rows))) ++ row.unit ∷ []) → ⊥) →
      IsSolvableList slots given (units_of rows) list × IsNextRow slots given (units_of rows) list j
  next_row_is list j row l is solvable refused =
      let part = picked slots given (units_of rows) list in
      let us = units_of rows in
      let before = subst (IsSolvable slots) (sym (append_assoc given part (take j us))) solvable in (
        IsSolvable-front slots (given ++ part) (take j us) before,
        record {
          within = omega (arith, l, length-map rows (λ (r : Row). r.unit));
          solvable = before;
          unsolvable = λ h. refused (subst (IsSolvable slots)
              (ap (λ n. (given ++ part) ++ take n us) (sym (add-one j))
              ∙ ap (λ x. (given ++ part) ++ x) (sym (first_more slots given rows j row l is))
              ∙ sym (append_assoc (given ++ part) (take j us) (row.unit ∷ []))
              ∙ ap (λ x. x ++ row.unit ∷ []) (append_assoc given part (take j us))) h);
        },
      )

  -- all rows are solvable if a list and all of them are
  pub all_solvable : (list : List ℕ) (j : ℕ) → length rows ≤ j →
      IsSolvable slots (given ++ (picked slots given (units_of rows) list ++ take j (units_of rows))) → IsSolvable slots (given ++ units_of rows)
  all_solvable list j l solvable =
      let part = picked slots given (units_of rows) list in
      let us = units_of rows in
      let whole = subst (λ x. IsSolvable slots (given ++ (part ++ x))) (take_all j us (omega (arith, l, length-map rows (λ (r : Row). r.unit)))) solvable in
      let u = whole.0 in
      let back = Solves-back (nth u) given (part ++ us) whole.1.solves in (
        u,
        record {
          per_slot = whole.1.per_slot;
          solves = Solves-append (nth u) given us (Solves-front (nth u) given (part ++ us) whole.1.solves) (Solves-back (nth u) part us back);
        },
      )
