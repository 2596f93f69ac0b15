-- Rows up to the first unsolvable one have a core.
-- Source: Tamiz, Mardle and Jones (1996), the additive method.
use Rattle.std.proofs.Common.{◌≡◌, ◌⊎◌, inl, inr, ℕ, zero, suc, ◌+◌, ◌-◌, ◌≤◌, Bool, true, false, List, [], ◌∷◌, ◌++◌, map, length, take, refl, sym, ap, ◌∙◌, subst, arith, append_assoc}
use Rattle.std.specs.Prelude.{All, slice_index_or}
use Rattle.std.proofs.lemmas.List.{append-nil, take_all, length-append}
use Rattle.std.proofs.lemmas.List.Elements.{All-nil, All-cons, All-head, All-tail}
use Rattle.um_units.specs.declared.Atom.TheVariants.{Var}
use Rattle.um_units.specs.PowerMap.{PowerMap, one, nth}
use Rattle.um_units.specs.Variables.{VariablesBelow}
use Rattle.um_units.specs.Solutions.{IsSolvable}
use Rattle.um_units.proofs.Group.{power_of-one}
use Rattle.um_units.proofs.Solutions.{Solves-append, Solves-front, Solves-back}
use Rattle.um_elim.specs.Solution.{parameter_rows}
use Rattle.um_equal_types.specs.declared.row.Row.{Row}
use Rattle.um_equal_types.specs.Steps.{units_of}
use Rattle.um_reasons.specs.Core.{picked, IsSolvableWith, IsSolvableList, IsNextRow, IsGrown, IsCore}
use Rattle.um_reasons.specs.CoreLaws.{EndsUnsolvable}
use Rattle.um_unit_reasons.proofs.WideRows.{rows_are_decided}

-- ---- what holds of rows holds of those that are picked

one_below : (slots : ℕ) → VariablesBelow slots one
one_below slots k held = absurd (held (power_of-one (Var k)))

module _ (slots : ℕ) where
  abbrev Below : PowerMap → Type 0
  Below = VariablesBelow slots

  both_below : (us vs : List PowerMap) → All Below us → All Below vs → All Below (us ++ vs)
  both_below [] vs h k = k
  both_below (u ∷ us) vs h k = All-cons Below u (us ++ vs) (All-head Below u us h) (both_below us vs (All-tail Below u us h) k)

  pub front_below : (n : ℕ) (us : List PowerMap) → All Below us → All Below (take n us)
  front_below zero us h = All-nil Below
  front_below (suc n) [] h = All-nil Below
  front_below (suc n) (u ∷ us) h = All-cons Below u (take n us) (All-head Below u us h) (front_below n us (All-tail Below u us h))

  item_below : (us : List PowerMap) (k : ℕ) → All Below us → Below (slice_index_or us k one)
  item_below [] k h = one_below slots
  item_below (u ∷ us) zero h = All-head Below u us h
  item_below (u ∷ us) (suc k) h = item_below us k (All-tail Below u us h)

  picked_below : (us : List PowerMap) (list : List ℕ) → All Below us → All Below (map (λ k. slice_index_or us k one) list)
  picked_below us [] h = All-nil Below
  picked_below us (k ∷ list) h = All-cons Below (slice_index_or us k one) (map (λ j. slice_index_or us j one) list) (item_below us k h) (picked_below us list h)

-- ---- the next row
module _ (slots bases parameters : ℕ) (rows : List Row) (few : parameters ≤ slots) (below : All (VariablesBelow slots) (units_of rows)) (ends : EndsUnsolvable slots (parameter_rows bases parameters) (units_of rows)) where
  abbrev given : List PowerMap
  given = parameter_rows bases parameters

  abbrev units : List PowerMap
  units = units_of rows

  abbrev With : List ℕ → ℕ → Type 0
  With list n = IsSolvableWith slots given units list n

  with_decided : (list : List ℕ) (n : ℕ) → With list n ⊎ (With list n → ⊥)
  with_decided list n =
      let part = picked slots given units list in
      let all = both_below slots part (take n units) (picked_below slots units list below) (front_below slots n units below) in
      subst (λ us. IsSolvable slots us ⊎ (IsSolvable slots us → ⊥)) (sym (append_assoc given part (take n units)))
      (rows_are_decided slots bases parameters (part ++ take n units) few all)

  -- not with all rows
  not_with_all : (list : List ℕ) → With list (length units) → ⊥
  not_with_all list solvable =
      let part = picked slots given units list in
      let whole = subst (IsSolvable slots) (append_assoc given part (take (length units) units) ∙ ap (λ us. given ++ (part ++ us)) (take_all (length units) units (omega arith))) solvable in
      let v = whole.0 in
      let back = Solves-back (nth v) given (part ++ units) whole.1.solves in
      ends.unsolvable (
        v,
        record {
          per_slot = whole.1.per_slot;
          solves = Solves-append (nth v) given units (Solves-front (nth v) given (part ++ units) whole.1.solves) (Solves-back (nth v) part units back);
        },
      )

  search : (list : List ℕ) (n j : ℕ) → j + n ≡ length units → With list j → (k : ℕ) × IsNextRow slots given units list k
  search list zero j e solvable = let all : j ≡ length units = omega (arith, e) in absurd (not_with_all list (subst (With list) all solvable))
  search list (suc n) j e solvable =
      elim (with_decided list (suc j)) [
        | inl more ↦ search list n (suc j) (omega (arith, e)) more
        | inr none ↦ (j, record { within = omega (arith, e); solvable = solvable; unsolvable = none })
      ]

  with_none : (list : List ℕ) → IsSolvableList slots given units list → With list 0
  with_none list solvable = subst (IsSolvable slots) (sym (append-nil (given ++ picked slots given units list))) solvable

  alone : (list : List ℕ) → With list 0 → IsSolvableList slots given units list
  alone list solvable = subst (IsSolvable slots) (append-nil (given ++ picked slots given units list)) solvable

  -- ---- row by row, up to 17

  grown_more : (list further : List ℕ) (j : ℕ) → IsGrown slots given units list further → IsNextRow slots given units (list ++ further) j → IsGrown slots given units list (further ++ j ∷ [])
  grown_more list [] j g next = (subst (λ l. IsNextRow slots given units l j) (append-nil list) next, tt)
  grown_more list (i ∷ further) j g next =
      (g.0, grown_more (list ++ i ∷ []) further j g.1 (subst (λ l. IsNextRow slots given units l j) (sym (append_assoc list (i ∷ []) further)) next))

  abbrev pub HasCore : Type 0
  HasCore = (core : List ℕ) × (cut_off : Bool) × IsCore slots given units core cut_off

  abbrev last : ℕ
  last = length units - 1

  module _ (further : List ℕ) (g : IsGrown slots given units (last ∷ []) further) (short : length (last ∷ further) ≤ 17) where
    unsolvable_core : (With (last ∷ further) 0 → ⊥) → HasCore
    unsolvable_core none = (
      last ∷ further,
      false,
      record { begun = record { further = further; begins = refl; grown = g }; few = short; ends = λ solvable. none (with_none (last ∷ further) solvable) },
    )

    cut_core : length (last ∷ further) ≡ 17 → With (last ∷ further) 0 → HasCore
    cut_core many solvable = (
      last ∷ further,
      true,
      record { begun = record { further = further; begins = refl; grown = g }; few = short; ends = (many, alone (last ∷ further) solvable) },
    )

  -- so many rows may still come
  grow : (left : ℕ) (further : List ℕ) → length (last ∷ further) + left ≡ 17 → IsGrown slots given units (last ∷ []) further → HasCore
  grow zero further e g =
      elim (with_decided (last ∷ further) 0) [
        | inl solvable ↦ cut_core further g (omega (arith, e)) (omega (arith, e)) solvable
        | inr none ↦ unsolvable_core further g (omega (arith, e)) none
      ]
  grow (suc left) further e g =
      elim (with_decided (last ∷ further) 0) [
        | inl solvable ↦
            let (j, is) = search (last ∷ further) (length units) 0 (omega arith) solvable in
            grow left (further ++ j ∷ []) (omega (arith, e, length-append further (j ∷ []))) (grown_more (last ∷ []) further j g is)
        | inr none ↦ unsolvable_core further g (omega (arith, e)) none
      ]

  pub has_core : HasCore
  has_core = grow 16 [] (omega arith) tt
