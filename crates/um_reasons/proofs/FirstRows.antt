-- The rows up to the first unsolvable one end with it.
use Rattle.std.proofs.Common.{◌≡◌, ℕ, suc, ◌-◌, List, [], ◌∷◌, ◌++◌, length, take, sym, ap, ◌∙◌, subst, arith}
use Rattle.std.proofs.lemmas.List.{append_assoc, length-append, length-map, map-append, take_at}
use Rattle.um_units.specs.PowerMap.{PowerMap, nth}
use Rattle.um_units.specs.Solutions.{IsSolvable}
use Rattle.um_units.proofs.Solutions.{Solves-back}
use Rattle.um_equal_types.specs.declared.row.Row.{Row}
use Rattle.um_equal_types.specs.Steps.{units_of}
use Rattle.um_rows.specs.FirstUnsolvable.{IsFirstUnsolvable, rows_up_to}
use Rattle.um_reasons.specs.CoreLaws.{EndsUnsolvable, FirstUnsolvableEnds, FirstUnsolvableEndsAlone}

module _ (slots : ℕ) (given : List PowerMap) (rows : List Row) (k at : ℕ) (first : IsFirstUnsolvable slots given rows k at) where
  up_to : rows_up_to k rows ≡ first.before ++ first.row ∷ []
  up_to =
      let l = length-append first.before (first.row ∷ []) in
      let i = first.index in
      ap (take (suc k)) (first.splits ∙ sym (append_assoc first.before (first.row ∷ []) first.behind))
      ∙ take_at (first.before ++ first.row ∷ []) first.behind (suc k) (omega (arith, l, i))

  units_are : units_of (rows_up_to k rows) ≡ units_of first.before ++ first.row.unit ∷ []
  units_are = ap units_of up_to ∙ map-append (λ (r : Row). r.unit) first.before (first.row ∷ [])

  count : length (units_of (rows_up_to k rows)) ≡ suc k
  count =
      let l = length-append (units_of first.before) (first.row.unit ∷ []) in
      let m = length-map first.before (λ (r : Row). r.unit) in
      let i = first.index in
      ap length units_are ∙ omega (arith, l, m, i)

  earlier : take (length (units_of (rows_up_to k rows)) - 1) (units_of (rows_up_to k rows)) ≡ units_of first.before
  earlier =
      let m = length-map first.before (λ (r : Row). r.unit) in
      let i = first.index in
      ap (λ us. take (length (units_of (rows_up_to k rows)) - 1) us) units_are
      ∙ take_at (units_of first.before) (first.row.unit ∷ []) (length (units_of (rows_up_to k rows)) - 1) (omega (arith, count, m, i))

  pub ends : EndsUnsolvable slots given (units_of (rows_up_to k rows))
  ends = record {
    some = omega (arith, count);
    solvable = subst (λ us. IsSolvable slots (given ++ us)) (sym earlier) first.solvable;
    unsolvable = λ h. first.unsolvable (subst (λ us. IsSolvable slots (given ++ us)) units_are h);
  }

  pub ends_alone : (IsSolvable slots (units_of (rows_up_to k rows)) → ⊥) → EndsUnsolvable slots [] (units_of (rows_up_to k rows))
  ends_alone none = record {
    some = omega (arith, count);
    solvable = subst (IsSolvable slots) (sym earlier) (
      first.solvable.0,
      record { per_slot = first.solvable.1.per_slot; solves = Solves-back (nth first.solvable.0) given (units_of first.before) first.solvable.1.solves },
    );
    unsolvable = none;
  }

pub first_unsolvable_ends : FirstUnsolvableEnds
first_unsolvable_ends slots given rows k at first = ends slots given rows k at first

pub first_unsolvable_ends_alone : FirstUnsolvableEndsAlone
first_unsolvable_ends_alone slots given rows k at first none = ends_alone slots given rows k at first none
