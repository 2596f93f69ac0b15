-- A core that grows row by row.
use Rattle.std.proofs.Common.{◌≡◌, ℕ, ◌+◌, ◌-◌, ◌<◌, ◌≤◌, Bool, false, List, [], ◌∷◌, ◌++◌, length, refl, sym, ap, ◌∙◌, subst, arith}
use Rattle.std.specs.Prelude.{All}
use Rattle.std.proofs.lemmas.List.{append-nil, append_assoc, length-map, length-append}
use Rattle.std.proofs.lemmas.List.Elements.{All-nil, All-cons, All-push}
use Rattle.um_units.specs.PowerMap.{PowerMap}
use Rattle.um_elim.specs.Solution.{parameter_rows}
use Rattle.um_equal_types.specs.declared.row.Row.{Row}
use Rattle.um_equal_types.specs.Steps.{units_of}
use Rattle.um_reasons.specs.declared.search.Next.{Next}
use Rattle.um_reasons.specs.declared.search.Next.TheVariants.{Unsolvable, Row as row_of}
use Rattle.um_reasons.specs.Core.{IsNextRow, IsGrown, IsBegun, IsCore}
use Rattle.um_reasons.specs.Search.{IsNext, has_row}

module _ (slots : ℕ) (given rows : List PowerMap) where
  grown_more : (list further : List ℕ) (j : ℕ) → IsGrown slots given rows list further → IsNextRow slots given rows (list ++ further) j → IsGrown slots given rows list (further ++ j ∷ [])
  grown_more list [] j g next = (subst (λ l. IsNextRow slots given rows l j) (append-nil list) next, tt)
  grown_more list (i ∷ further) j g next =
      (g.0, grown_more (list ++ i ∷ []) further j g.1 (subst (λ l. IsNextRow slots given rows l j) (sym (append_assoc list (i ∷ []) further)) next))

  begun_more : (list : List ℕ) (j : ℕ) → IsBegun slots given rows list → IsNextRow slots given rows list j → IsBegun slots given rows (list ++ j ∷ [])
  begun_more list j g next = record {
    further = g.further ++ j ∷ [];
    begins = ap (λ l. l ++ j ∷ []) g.begins;
    grown = grown_more ((length rows - 1) ∷ []) g.further j g.grown (subst (λ l. IsNextRow slots given rows l j) g.begins next);
  }

module _ (slots bases parameters : ℕ) (rows : List Row) where
  abbrev units : List PowerMap
  units = units_of rows

  abbrev given : List PowerMap
  given = parameter_rows bases parameters

  many : length units ≡ length rows
  many = length-map rows (λ (r : Row). r.unit)

  -- so many rows so far, none of them past the end
  pub record IsGrowing (count : ℕ) (list : List ℕ) : Type 0 where
    pub begun : IsBegun slots given units list
    pub count_is : length list ≡ count
    pub below : All (λ k. k < length rows) list

  pub growing_first : (k : ℕ) (list : List ℕ) → 0 < length rows → k ≡ length rows - 1 → list ≡ k ∷ [] → IsGrowing 1 list
  growing_first k list some e is = record {
    begun = record { further = []; begins = is ∙ ap (λ n. n ∷ []) (e ∙ ap (λ n. n - 1) (sym many)); grown = tt };
    count_is = ap length is;
    below = subst (All (λ k. k < length rows)) (sym is) (All-cons (λ k. k < length rows) k [] (omega (arith, some, e)) (All-nil (λ k. k < length rows)));
  }

  pub growing_more : (count : ℕ) (list : List ℕ) (next : Next) (j : ℕ) (new : List ℕ) → IsGrowing count list → IsNext slots bases parameters rows list next → next ≡ row_of j → new ≡ list ++ j ∷ [] → IsGrowing (count + 1) new
  growing_more count list next j new g n e is =
      let here = subst (IsNext slots bases parameters rows list) e n in
      let within = here.1.within in
      record {
        begun = subst (IsBegun slots given units) (sym is) (begun_more slots given units list j g.begun here.1);
        count_is = ap length is ∙ length-append list (j ∷ []) ∙ ap (λ n. n + 1) g.count_is;
        below = subst (All (λ k. k < length rows)) (sym is) (All-push (λ k. k < length rows) list j g.below (omega (arith, within, many)));
      }

  -- the end
  pub unsolvable_core : (count : ℕ) (list : List ℕ) (next : Next) → IsGrowing count list → count ≤ 17 → IsNext slots bases parameters rows list next → next ≡ Unsolvable → IsCore slots given units list false
  unsolvable_core count list next g few n e = record {
    begun = g.begun;
    few = (let c = g.count_is in omega (arith, c, few));
    ends = subst (IsNext slots bases parameters rows list) e n;
  }

  pub last_core : (list : List ℕ) (next : Next) (b : Bool) → IsGrowing 17 list → IsNext slots bases parameters rows list next → b ≡ has_row next → IsCore slots given units list b
  last_core list next b g n e = subst (IsCore slots given units list) (sym e) (by next n) where
    by : (next : Next) → IsNext slots bases parameters rows list next → IsCore slots given units list (has_row next)
    by Unsolvable h = unsolvable_core 17 list Unsolvable g (omega arith) h refl
    by (row_of j) h = record { begun = g.begun; few = (let c = g.count_is in omega (arith, c)); ends = (g.count_is, h.0) }
