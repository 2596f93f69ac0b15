-- The core's other rows solved one by one: what is left of them after the first rows.
use Rattle.std.proofs.Common.{◌≡◌, ℕ, suc, ◌+◌, ◌-◌, ◌<◌, ◌≤◌, Bool, true, false, cond, nat_eq, List, ◌∷◌, length, get_or, Some, None, sym, ap, ◌∙◌, subst, arith}
use Rattle.std.specs.Prelude.{filter}
use Rattle.std.specs.List.{list_any, range_with_len}
use Rattle.std.proofs.lemmas.List.{get_or-map, length-map}
use Rattle.um_units.specs.PowerMap.{PowerMap, one}
use Rattle.um_elim.specs.Elimination.{Elimination, Solved, NoSolution, Range, eliminate, on_solved, eliminate_rows}
use Rattle.um_elim.specs.Solution.{Solution, rigid, rigid_units}
use Rattle.um_elim.proofs.Slots.{length-rigid}
use Rattle.um_equal_types.specs.declared.row.Row.{Row}
use Rattle.um_equal_types.specs.Steps.{units_of}
use Rattle.um_reasons.specs.Reasons.{numbered, other_rows}
use Rattle.um_reasons.specs.Answers.{IsUnsolved, IsSolving, IsJoined}

module _ (bases parameters slots : ℕ) (rows : List Row) (core : List ℕ) where
  abbrev units : List PowerMap
  units = units_of rows

  many : length units ≡ length rows
  many = length-map rows (λ (r : Row). r.unit)

  abbrev is_other : ℕ → Bool
  is_other k = list_any (nat_eq k) core

  abbrev whole : Elimination
  whole = eliminate_rows (rigid_units bases parameters slots) (numbered units (other_rows (length units) core))

  -- the rows from number k on, m of them
  abbrev others : ℕ → ℕ → List PowerMap
  others k m = numbered units (filter is_other (range_with_len k m))

  -- the other rows before number k are solved
  pub record IsLeft (k : ℕ) (s : Solution) : Type 0 where
    pub rest : whole ≡ eliminate_rows s.units (others k ((length units - 1) - k))
    pub unspent : s.spent ≡ false
    pub count : length s.units ≡ slots

  pub none_solved : (s : Solution) → s ≡ rigid bases parameters slots → IsLeft 0 s
  none_solved s is = record {
    rest =
        (let all : length units - 1 ≡ (length units - 1) - 0 = omega arith in ap (λ n. eliminate_rows (rigid_units bases parameters slots) (others 0 n)) all)
        ∙ ap (λ (x : Solution). eliminate_rows x.units (others 0 ((length units - 1) - 0))) (sym is);
    unspent = ap (λ (x : Solution). x.spent) is;
    count = ap (λ (x : Solution). length x.units) is ∙ length-rigid bases parameters slots;
  }

  module _ (k : ℕ) (s : Solution) (below : k < length rows - 1) (left : IsLeft k s) where
    abbrev m : ℕ
    m = (length units - 1) - (k + 1)

    at_k : (length units - 1) - k ≡ suc m
    at_k = omega (arith, below, many)

    one_more : whole ≡ eliminate_rows s.units (numbered units (cond (is_other k) (k ∷ filter is_other (range_with_len (k + 1) m)) (filter is_other (range_with_len (k + 1) m))))
    one_more = left.rest ∙ ap (λ n. eliminate_rows s.units (others k n)) at_k

    -- a row that is none of the core
    pub passed : is_other k ≡ false → IsLeft (k + 1) s
    passed e = record {
      rest = one_more ∙ ap (λ b. eliminate_rows s.units (numbered units (cond b (k ∷ filter is_other (range_with_len (k + 1) m)) (filter is_other (range_with_len (k + 1) m))))) e;
      unspent = left.unspent;
      count = left.count;
    }

    module _ (row : Row) (is : row ≡ get_or rows k row) (new : Solution) where
      unit_is : get_or units k one ≡ row.unit
      unit_is = get_or-map (λ (r : Row). r.unit) rows k row one (omega (arith, below)) ∙ ap (λ (r : Row). r.unit) (sym is)

      here : is_other k ≡ true → whole ≡ on_solved (eliminate s.units row.unit) (λ vs. eliminate_rows vs (others (k + 1) m))
      here e =
          one_more ∙ ap (λ b. eliminate_rows s.units (numbered units (cond b (k ∷ filter is_other (range_with_len (k + 1) m)) (filter is_other (range_with_len (k + 1) m))))) e
          ∙ ap (λ u. on_solved (eliminate s.units u) (λ vs. eliminate_rows vs (others (k + 1) m))) unit_is

      -- the next row, which is one of the core
      pub joined : is_other k ≡ true → (b : Bool) → b ≡ true → IsJoined s row.unit new b → length new.units ≡ length s.units → IsLeft (k + 1) new
      joined e true f j same = record {
        rest = here e ∙ ap (λ o. on_solved o (λ vs. eliminate_rows vs (others (k + 1) m))) j.0;
        unspent = j.1;
        count = same ∙ left.count;
      }
      joined e false f j same = absurd (cc f)

      unsolved : (o : Elimination) → IsUnsolved o → IsUnsolved (on_solved o (λ vs. eliminate_rows vs (others (k + 1) m)))
      unsolved (Solved us) h = absurd h
      unsolved NoSolution h = tt
      unsolved Range h = tt

      pub refused : is_other k ≡ true → (b : Bool) → b ≡ false → IsJoined s row.unit new b → IsSolving whole None
      refused e true f j = absurd (cc f)
      refused e false f j = subst IsUnsolved (sym (here e)) (unsolved (eliminate s.units row.unit) j)

  pub all_solved : (k : ℕ) (s : Solution) → length rows - 1 ≤ k → IsLeft k s → IsSolving whole (Some s)
  all_solved k s past left = (left.rest ∙ (let e : (length units - 1) - k ≡ 0 = omega (arith, past, many) in ap (λ n. eliminate_rows s.units (others k n)) e), left.unspent)
