-- The rows of two types hold exactly where the units make the types equal.
use Rattle.std.proofs.Common.{◌≡◌, ℕ, cond, List, [], ◌∷◌, map, refl, sym, ap, subst}
use Rattle.std.specs.Prelude.{◌==◌}
use Rattle.std.proofs.lemmas.Bool.{eqb-true, eq-eqb}
use Rattle.um_units.specs.PowerMap.{PowerMap, replace}
use Rattle.um_tree.specs.TypeTree.{TypeTree, bool_type, num_type, list_type, record_type}
use Rattle.um_tree.specs.Typing.{put, EachIs}
use Rattle.um_elim.proofs.Cases.{on_test}
use Rattle.um_equal_types.specs.Against.{never, units_against, against, types_against, against_each}
use Rattle.um_equal_types.proofs.HeldSteps.{Holds, Holds-front, Holds-back, Holds-append, never_solved, same_from_row, row-same}

module _ (v : ℕ → PowerMap) (at : ℕ) where
  -- ---- units
  same_units : (us ws : List PowerMap) → Holds v (units_against at us ws) → map (replace v) us ≡ map (replace v) ws
  same_units [] [] h = refl
  same_units (u ∷ us) (w ∷ ws) h = let first = same_from_row v u w h.0 in let rest = same_units us ws h.1 in λ i. first i ∷ rest i
  same_units us ws h = never_solved v h.0

  units_same : (us ws : List PowerMap) → map (replace v) us ≡ map (replace v) ws → Holds v (units_against at us ws)
  units_same [] [] e = tt
  units_same (u ∷ us) (w ∷ ws) e =
      let first : replace v u ≡ replace v w = cc e in
      let rest : map (replace v) us ≡ map (replace v) ws = cc e in
      (row-same v u w first, units_same us ws rest)
  units_same us ws e = absurd (cc e)

  -- ---- types
  pub same_from_rows : (s t : TypeTree) → Holds v (against at s t) → put v s ≡ put v t
  same_from_rows bool_type bool_type h = refl
  same_from_rows (num_type u) (num_type w) h = ap num_type (same_from_row v u w h.0)
  same_from_rows (list_type s) (list_type t) h = ap list_type (same_from_rows s t h)
  same_from_rows (record_type r us) (record_type q ws) h =
      on_test (r == q)
      (λ e.
      let same : r ≡ q = eqb-true r q e in
      let units = same_units us ws (subst (λ b. Holds v (cond b (units_against at us ws) (never at))) e h) in
      λ i. record_type (same i) (units i))
      (λ e. let none : Holds v (never at) = subst (λ b. Holds v (cond b (units_against at us ws) (never at))) e h in never_solved v none.0)
  same_from_rows s t h = never_solved v h.0

  pub rows-same : (s t : TypeTree) → put v s ≡ put v t → Holds v (against at s t)
  rows-same bool_type bool_type e = tt
  rows-same (num_type u) (num_type w) e = let same : replace v u ≡ replace v w = cc e in (row-same v u w same, tt)
  rows-same (list_type s) (list_type t) e = let same : put v s ≡ put v t = cc e in rows-same s t same
  rows-same (record_type r us) (record_type q ws) e =
      let same : r ≡ q = cc e in
      let units : map (replace v) us ≡ map (replace v) ws = cc e in
      subst (λ b. Holds v (cond b (units_against at us ws) (never at))) (sym (eq-eqb r q same)) (units_same us ws units)
  rows-same s t e = absurd (cc e)

  -- ---- lists of types
  pub types_same_from_rows : (ss ts : List TypeTree) → Holds v (types_against at ss ts) → map (put v) ss ≡ map (put v) ts
  types_same_from_rows [] [] h = refl
  types_same_from_rows (s ∷ ss) (t ∷ ts) h =
      let first = same_from_rows s t (Holds-front v (against at s t) (types_against at ss ts) h) in
      let rest = types_same_from_rows ss ts (Holds-back v (against at s t) (types_against at ss ts) h) in
      λ i. first i ∷ rest i
  types_same_from_rows ss ts h = never_solved v h.0

  pub rows-types_same : (ss ts : List TypeTree) → map (put v) ss ≡ map (put v) ts → Holds v (types_against at ss ts)
  rows-types_same [] [] e = tt
  rows-types_same (s ∷ ss) (t ∷ ts) e =
      let first : put v s ≡ put v t = cc e in
      let rest : map (put v) ss ≡ map (put v) ts = cc e in
      Holds-append v (against at s t) (types_against at ss ts) (rows-same s t first) (rows-types_same ss ts rest)
  rows-types_same ss ts e = absurd (cc e)

  pub each_same_from_rows : (s : TypeTree) (ts : List TypeTree) → Holds v (against_each at s ts) → EachIs (put v s) (map (put v) ts)
  each_same_from_rows s [] h = tt
  each_same_from_rows s (t ∷ ts) h = (sym (same_from_rows s t (Holds-front v (against at s t) (against_each at s ts) h)), each_same_from_rows s ts (Holds-back v (against at s t) (against_each at s ts) h))

  pub rows-each_same : (s : TypeTree) (ts : List TypeTree) → EachIs (put v s) (map (put v) ts) → Holds v (against_each at s ts)
  rows-each_same s [] h = tt
  rows-each_same s (t ∷ ts) h = Holds-append v (against at s t) (against_each at s ts) (rows-same s t (sym h.0)) (rows-each_same s ts h.1)
