-- Units and types that are matched one after another, as the loops go on.
-- Source: Kennedy (1996), unification in the free abelian group, equation by equation.
use Rattle.std.proofs.Common.{◌≡◌, ℕ, ◌+◌, add-one, ◌<◌, ◌≤◌, List, [], ◌∷◌, length, drop, get_or, true, false, if◌then◌else◌, refl, sym, ap, ◌∙◌}
use Rattle.std.specs.Prelude.{Result, Ok, Err, Some, slice_get}
use Rattle.std.proofs.lemmas.List.{drop_more, drop_all}
use Rattle.um_units.specs.declared.UnitStop.{UnitStop}
use Rattle.um_units.specs.declared.UnitStop.TheVariants as unit_stop
use Rattle.um_units.specs.PowerMap.{PowerMap}
use Rattle.um_units.specs.Range.{fits, IsStopUnless}
use Rattle.um_tree.specs.TypeTree.{TypeTree}
use Rattle.um_elim.specs.Adding.{IsAdded}
use Rattle.um_elim.specs.Elimination.{Elimination, Solved, NoSolution, Range, eliminate, on_solved}
use Rattle.um_elim.specs.Stops.{stop_of}
use Rattle.um_elim.specs.Solution.{Solution, fresh}
use Rattle.um_elim.specs.declared.stop.ElimStop.{ElimStop}
use Rattle.um_elim.specs.declared.stop.ElimStop.TheVariants as elimination
use Rattle.um_elim.proofs.Slots.{length-own}
use Rattle.um_sig.specs.declared.stop.SigStop.{SigStop}
use Rattle.um_sig.specs.declared.stop.SigStop.TheVariants as stop
use Rattle.um_sig.specs.Matching.{unit_row, unit_rows, type_rows, eliminate_row, eliminate_each, matched, unmatched, out_of_range, after_type, match_from, match_types}
use Rattle.um_sig.specs.Answers.{IsMatching}
use Rattle.um_sig.specs.Steps.{AreEliminated, RefusesType, IsTypeMatched}
use Rattle.um_sig.proofs.TypesRead.{drop_is}

-- one row is all
single : (us : List PowerMap) (row : PowerMap) → eliminate_each us (row ∷ []) ≡ eliminate_row us row
single us row = at (eliminate_row us row)
  where
    at : (o : Elimination) → on_solved o (λ vs. Solved vs) ≡ o
    at (Solved vs) = refl
    at NoSolution = refl
    at Range = refl

-- in range it is eliminated, and else refused
within : (us : List PowerMap) (row : PowerMap) (o : Elimination) → fits row ≡ true → eliminate us row ≡ o → eliminate_each us (row ∷ []) ≡ o
within us row o f e = single us row ∙ ap (λ b. if b then eliminate us row else Range) f ∙ e

past : (us : List PowerMap) (row : PowerMap) → fits row ≡ false → eliminate_each us (row ∷ []) ≡ Range
past us row f = single us row ∙ ap (λ b. if b then eliminate us row else Range) f

pub row_refused : (old new : Solution) (row : PowerMap) (e : UnitStop) → IsStopUnless (fits row) e → AreEliminated (row ∷ []) old new (Err (stop_of e))
row_refused old new row unit_stop.Range f = past old.units row f
row_refused old new row unit_stop.NoMemory f = tt

pub row_added : (old new : Solution) (row : PowerMap) (r : Result (Unit {0}) ElimStop) → old.spent ≡ false → fits row ≡ true → IsAdded old row new r → length new.units ≡ length old.units → AreEliminated (row ∷ []) old new r
row_added old new row (Ok x) unspent f w same = (within old.units row (Solved new.units) f w.1, w.2, same)
row_added old new row (Err elimination.NoSolution) unspent f w same = within old.units row NoSolution f w.1
row_added old new row (Err elimination.Range) unspent f w same = within old.units row Range f w.1
row_added old new row (Err elimination.Spent) unspent f w same = let spent : old.spent ≡ true = w.0 in cc
row_added old new row (Err elimination.NoMemory) unspent f w same = tt

-- ---- unit by unit
module _ (bases : ℕ) (us vs : List PowerMap) where
  -- the units before index i are matched, and those from it on end as all do
  pub record AreMatchedUpTo (start : Solution) (i : ℕ) (solution : Solution) : Type 0 where
    pub goes_on : eliminate_each solution.units (unit_rows bases (drop i us) (drop i vs)) ≡ eliminate_each start.units (unit_rows bases us vs)
    pub unspent : solution.spent ≡ false
    pub count : length solution.units ≡ length start.units

  module _ (start : Solution) (i : ℕ) (u v : PowerMap) (old : Solution) (l : i < length us) (m : i < length vs) (is : u ≡ get_or us i u) (has : v ≡ get_or vs i v) (h : AreMatchedUpTo start i old) where
    next : eliminate_each old.units (unit_rows bases (drop i us) (drop i vs))
        ≡ on_solved (eliminate_row old.units (unit_row bases u v)) (λ ws. eliminate_each ws (unit_rows bases (drop (i + 1) us) (drop (i + 1) vs)))
    next =
        ap (λ xs. eliminate_each old.units (unit_rows bases xs (drop i vs))) (drop_more us i u l ∙ ap (λ x. x ∷ drop (i + 1) us) (sym is))
        ∙ ap (λ ys. eliminate_each old.units (unit_rows bases (u ∷ drop (i + 1) us) ys)) (drop_more vs i v m ∙ ap (λ y. y ∷ drop (i + 1) vs) (sym has))

    pub unit_matched : (new : Solution) → eliminate_each old.units (unit_row bases u v ∷ []) ≡ Solved new.units → new.spent ≡ false → length new.units ≡ length old.units → AreMatchedUpTo start (i + 1) new
    unit_matched new e unspent same = record {
      goes_on =
          sym (next ∙ ap (λ o. on_solved o (λ ws. eliminate_each ws (unit_rows bases (drop (i + 1) us) (drop (i + 1) vs)))) (sym (single old.units (unit_row bases u v)) ∙ e)) ∙ h.goes_on;
      unspent = unspent;
      count = same ∙ h.count;
    }

    pub unit_stops : (stop : Elimination) → on_solved stop (λ ws. eliminate_each ws (unit_rows bases (drop (i + 1) us) (drop (i + 1) vs))) ≡ stop → eliminate_each old.units (unit_row bases u v ∷ []) ≡ stop → eliminate_each start.units (unit_rows bases us vs) ≡ stop
    unit_stops stop stays e =
        sym h.goes_on ∙ next ∙ ap (λ o. on_solved o (λ ws. eliminate_each ws (unit_rows bases (drop (i + 1) us) (drop (i + 1) vs)))) (sym (single old.units (unit_row bases u v)) ∙ e) ∙ stays

    pub unit_refused : (new newest : Solution) (r : ElimStop) → AreEliminated (unit_row bases u v ∷ []) old new (Err r) → AreEliminated (unit_rows bases us vs) start newest (Err r)
    unit_refused new newest elimination.NoSolution e = unit_stops NoSolution refl e
    unit_refused new newest elimination.Range e = unit_stops Range refl e
    unit_refused new newest elimination.Spent e = e
    unit_refused new newest elimination.NoMemory e = tt

  pub none_matched : (start : Solution) → start.spent ≡ false → AreMatchedUpTo start 0 start
  none_matched start unspent = record { goes_on = refl; unspent = unspent; count = refl }

  pub all_matched : (start : Solution) (n : ℕ) (solution : Solution) → length us ≤ n → AreMatchedUpTo start n solution → AreEliminated (unit_rows bases us vs) start solution (Ok tt)
  all_matched start n solution l h = (
    sym h.goes_on ∙ ap (λ xs. eliminate_each solution.units (unit_rows bases xs (drop n vs))) (drop_all n us l),
    h.unspent,
    h.count,
  )

-- ---- type by type
module _ (bases vars : ℕ) (ss ts : List TypeTree) where
  pub record AreTypesMatchedUpTo (i : ℕ) (solution : Solution) : Type 0 where
    pub goes_on : match_from bases i (drop i ss) (drop i ts) solution.units ≡ match_types bases vars ss ts
    pub unspent : solution.spent ≡ false
    pub count : length solution.units ≡ vars

  pub no_type_matched : (solution : Solution) → solution ≡ fresh vars → AreTypesMatchedUpTo 0 solution
  no_type_matched solution is = record {
    goes_on = ap (λ (s : Solution). match_from bases 0 ss ts s.units) is;
    unspent = ap (λ (s : Solution). s.spent) is;
    count = ap (λ (s : Solution). length s.units) is ∙ length-own vars;
  }

  module _ (i : ℕ) (s t : TypeTree) (old : Solution) (is : slice_get ss i ≡ Some s) (has : slice_get ts i ≡ Some t) (h : AreTypesMatchedUpTo i old) where
    next_type : match_from bases i (drop i ss) (drop i ts) old.units ≡ after_type i (eliminate_each old.units (type_rows bases s t)) (match_from bases (i + 1) (drop (i + 1) ss) (drop (i + 1) ts))
    next_type =
        ap (λ xs. match_from bases i xs (drop i ts) old.units) (drop_is ss i s is)
        ∙ ap (λ ys. match_from bases i (s ∷ drop (i + 1) ss) ys old.units) (drop_is ts i t has)
        ∙ ap (λ n. after_type i (eliminate_each old.units (type_rows bases s t)) (match_from bases n (drop (i + 1) ss) (drop (i + 1) ts))) (sym (add-one i))

    so_far : (o : Elimination) → eliminate_each old.units (type_rows bases s t) ≡ o → match_types bases vars ss ts ≡ after_type i o (match_from bases (i + 1) (drop (i + 1) ss) (drop (i + 1) ts))
    so_far o e = sym h.goes_on ∙ next_type ∙ ap (λ x. after_type i x (match_from bases (i + 1) (drop (i + 1) ss) (drop (i + 1) ts))) e

    pub type_matched : (new : Solution) → IsTypeMatched i (type_rows bases s t) old new (Ok tt) → AreTypesMatchedUpTo (i + 1) new
    type_matched new w = record { goes_on = sym (so_far (Solved new.units) w.0); unspent = w.1; count = w.2 ∙ h.count }

    pub type_refused : (r : SigStop) → RefusesType i (eliminate_each old.units (type_rows bases s t)) r → IsMatching (match_types bases vars ss ts) (Err r)
    type_refused (stop.Form k) w = w
    type_refused (stop.Units k) w = so_far NoSolution w.0 ∙ ap unmatched (sym w.1)
    type_refused (stop.Range k) w = so_far Range w.0 ∙ ap out_of_range (sym w.1)
    type_refused stop.NoMemory w = tt

  pub all_types_matched : (n : ℕ) (solution : Solution) → length ss ≤ n → length ts ≤ n → AreTypesMatchedUpTo n solution → match_types bases vars ss ts ≡ matched solution.units
  all_types_matched n solution l m h =
      sym h.goes_on
      ∙ ap (λ xs. match_from bases n xs (drop n ts) solution.units) (drop_all n ss l)
      ∙ ap (λ ys. match_from bases n [] ys solution.units) (drop_all n ts m)
