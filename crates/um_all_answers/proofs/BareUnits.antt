-- What a unit text stands for does not depend on its places.
use Rattle.std.proofs.Common.{◌≡◌, ℕ, ◌+◌, max, Bool, true, false, ◌&&◌, ◌||◌, cond, List, [], Option, Some, None, is_some, Ok, Err, refl, sym, ap, ◌∙◌}
use Rattle.um_units.specs.PowerMap.{PowerMap, one, mul, inv, pow}
use Rattle.um_units.specs.Range.{fits}
use Rattle.um_tree.specs.RawTree.{UnitSyntax, UnitSyntaxes, one_syntax, measure_syntax, variable_syntax, power_syntax, side_syntax, times_syntax, over_syntax, inverse_syntax, bracket_syntax, no_units, more_units}
use Rattle.um_tree.specs.Heights.{unit_height, tallest_unit}
use Rattle.um_measures.specs.Faults.{range}
use Rattle.um_measures.specs.Known.{is_among}
use Rattle.um_measures.specs.UnitNames.{or_else, unless, unknown_in, unknown_among, unit_of, product_of, parts_fit, products_fit, ranged, resolved_unit, first_place}
use Rattle.um_show.specs.Unplaced.{bare_unit, bare_units}

mutual
  height_bare : (u : UnitSyntax) → unit_height (bare_unit u) ≡ unit_height u
  height_bare (one_syntax at) = refl
  height_bare (measure_syntax at x) = refl
  height_bare (variable_syntax at x) = refl
  height_bare (power_syntax u k) = ap (λ n. n + 1) (height_bare u)
  height_bare (side_syntax us) = ap (λ n. n + 1) (tallest_bare us)
  height_bare (times_syntax u v) = λ i. max (height_bare u i) (height_bare v i) + 1
  height_bare (over_syntax u v) = λ i. max (height_bare u i) (height_bare v i) + 1
  height_bare (inverse_syntax at u) = ap (λ n. n + 1) (height_bare u)
  height_bare (bracket_syntax at u) = ap (λ n. n + 1) (height_bare u)

  tallest_bare : (us : UnitSyntaxes) → tallest_unit (bare_units us) ≡ tallest_unit us
  tallest_bare no_units = refl
  tallest_bare (more_units u us) = λ i. max (height_bare u i) (tallest_bare us i)

pub same_height : (u v : UnitSyntax) → bare_unit u ≡ bare_unit v → unit_height u ≡ unit_height v
same_height u v e = sym (height_bare u) ∙ ap unit_height e ∙ height_bare v

some_of_both : (a b : Option ℕ) → is_some (or_else a b) ≡ (is_some a || is_some b)
some_of_both None b = refl
some_of_both (Some at) b = refl

some_both : (a b c d : Option ℕ) → is_some a ≡ is_some c → is_some b ≡ is_some d → is_some (or_else a b) ≡ is_some (or_else c d)
some_both a b c d e f = some_of_both a b ∙ (λ i. e i || f i) ∙ sym (some_of_both c d)

some_unless : (b : Bool) (at other : ℕ) → is_some (unless b at) ≡ is_some (unless b other)
some_unless true at other = refl
some_unless false at other = refl

none_from : (o p : Option ℕ) → is_some o ≡ is_some p → p ≡ None → o ≡ None
none_from None p e none = refl
none_from (Some at) p e none = absurd (cc (e ∙ ap is_some none))

-- what is found in a unit text of which the names are known, and its powers in range
pub record IsResolved (measures : List ℕ → Option PowerMap) (u : UnitSyntax) (w : PowerMap) : Type 0 where
  pub known : unknown_in measures [] u ≡ None
  pub fit : parts_fit measures [] u ≡ true
  pub is : unit_of measures [] u ≡ w

module _ (measures : List ℕ → Option PowerMap) where
  mutual
    unknown_bare : (u : UnitSyntax) → is_some (unknown_in measures [] (bare_unit u)) ≡ is_some (unknown_in measures [] u)
    unknown_bare (one_syntax at) = refl
    unknown_bare (measure_syntax at x) = some_unless (is_some (measures x)) 0 at
    unknown_bare (variable_syntax at x) = some_unless (is_among [] x) 0 at
    unknown_bare (power_syntax u k) = unknown_bare u
    unknown_bare (side_syntax us) = among_bare us
    unknown_bare (times_syntax u v) =
        some_both (unknown_in measures [] (bare_unit u)) (unknown_in measures [] (bare_unit v)) (unknown_in measures [] u) (unknown_in measures [] v) (unknown_bare u) (unknown_bare v)
    unknown_bare (over_syntax u v) =
        some_both (unknown_in measures [] (bare_unit u)) (unknown_in measures [] (bare_unit v)) (unknown_in measures [] u) (unknown_in measures [] v) (unknown_bare u) (unknown_bare v)
    unknown_bare (inverse_syntax at u) = unknown_bare u
    unknown_bare (bracket_syntax at u) = unknown_bare u

    among_bare : (us : UnitSyntaxes) → is_some (unknown_among measures [] (bare_units us)) ≡ is_some (unknown_among measures [] us)
    among_bare no_units = refl
    among_bare (more_units u us) =
        some_both (unknown_in measures [] (bare_unit u)) (unknown_among measures [] (bare_units us)) (unknown_in measures [] u) (unknown_among measures [] us) (unknown_bare u) (among_bare us)

  mutual
    unit_bare : (u : UnitSyntax) → unit_of measures [] (bare_unit u) ≡ unit_of measures [] u
    unit_bare (one_syntax at) = refl
    unit_bare (measure_syntax at x) = refl
    unit_bare (variable_syntax at x) = refl
    unit_bare (power_syntax u k) = ap (λ v. pow v k) (unit_bare u)
    unit_bare (side_syntax us) = product_bare one us
    unit_bare (times_syntax u v) = λ i. mul (unit_bare u i) (unit_bare v i)
    unit_bare (over_syntax u v) = λ i. mul (unit_bare u i) (inv (unit_bare v i))
    unit_bare (inverse_syntax at u) = ap inv (unit_bare u)
    unit_bare (bracket_syntax at u) = unit_bare u

    product_bare : (before : PowerMap) (us : UnitSyntaxes) → product_of measures [] before (bare_units us) ≡ product_of measures [] before us
    product_bare before no_units = refl
    product_bare before (more_units u us) =
        ap (λ v. product_of measures [] (mul before v) (bare_units us)) (unit_bare u) ∙ product_bare (mul before (unit_of measures [] u)) us

  mutual
    fit_bare : (u : UnitSyntax) → parts_fit measures [] (bare_unit u) ≡ parts_fit measures [] u
    fit_bare (one_syntax at) = refl
    fit_bare (measure_syntax at x) = refl
    fit_bare (variable_syntax at x) = refl
    fit_bare (power_syntax u k) = λ i. fit_bare u i && fits (pow (unit_bare u i) k)
    fit_bare (side_syntax us) = products_bare one us
    fit_bare (times_syntax u v) = λ i. fit_bare u i && (fit_bare v i && fits (mul (unit_bare u i) (unit_bare v i)))
    fit_bare (over_syntax u v) = λ i. fit_bare u i && (fit_bare v i && fits (mul (unit_bare u i) (inv (unit_bare v i))))
    fit_bare (inverse_syntax at u) = fit_bare u
    fit_bare (bracket_syntax at u) = fit_bare u

    products_bare : (before : PowerMap) (us : UnitSyntaxes) → products_fit measures [] before (bare_units us) ≡ products_fit measures [] before us
    products_bare before no_units = refl
    products_bare before (more_units u us) =
        (λ i. fit_bare u i && (fits (mul before (unit_bare u i)) && products_fit measures [] (mul before (unit_bare u i)) (bare_units us)))
        ∙ ap (λ b. parts_fit measures [] u && (fits (mul before (unit_of measures [] u)) && b)) (products_bare (mul before (unit_of measures [] u)) us)

  pub resolved_from : (u : UnitSyntax) (w : PowerMap) → resolved_unit measures [] u ≡ Ok w → IsResolved measures u w
  resolved_from u w e = by (unknown_in measures [] u) refl where
    ranged_ok : (b : Bool) → parts_fit measures [] u ≡ b → unknown_in measures [] u ≡ None → cond b (Ok (unit_of measures [] u)) (Err (range (first_place u))) ≡ Ok w → IsResolved measures u w
    ranged_ok true fit known is = record { known = known; fit = fit; is = cc is }
    ranged_ok false fit known is = absurd (cc is)

    by : (o : Option ℕ) → unknown_in measures [] u ≡ o → IsResolved measures u w
    by None known = ranged_ok (parts_fit measures [] u) refl known (sym (ap (λ o. ranged measures [] u o) known) ∙ e)
    by (Some at) known = absurd (cc (sym (ap (λ o. ranged measures [] u o) known) ∙ e))

  pub resolved_is : (u : UnitSyntax) (w : PowerMap) → IsResolved measures u w → resolved_unit measures [] u ≡ Ok w
  resolved_is u w h =
      ap (λ o. ranged measures [] u o) h.known ∙ ap (λ b. cond b (Ok (unit_of measures [] u)) (Err (range (first_place u)))) h.fit ∙ ap Ok h.is

  -- of the same unit text, places aside
  pub resolved_alike : (u v : UnitSyntax) (w : PowerMap) → bare_unit v ≡ bare_unit u → IsResolved measures u w → IsResolved measures v w
  resolved_alike u v w e h = record {
    known = none_from (unknown_in measures [] v) (unknown_in measures [] u) (sym (unknown_bare v) ∙ ap (λ x. is_some (unknown_in measures [] x)) e ∙ unknown_bare u) h.known;
    fit = sym (fit_bare v) ∙ ap (parts_fit measures []) e ∙ fit_bare u ∙ h.fit;
    is = sym (unit_bare v) ∙ ap (unit_of measures []) e ∙ unit_bare u ∙ h.is;
  }
