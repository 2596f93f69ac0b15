-- Rows of a list, and the first rows, that units satisfy.
use Rattle.std.proofs.Common.{◌≡◌, ◌⊎◌, inl, inr, ℕ, ◌<◌, List, [], ◌∷◌, ◌++◌, map, length, take, get_or, sym, subst, arith}
use Rattle.std.specs.Prelude.{All, Contains}
use Rattle.std.proofs.lemmas.List.{get_or-take, length-take}
use Rattle.std.proofs.lemmas.List.Elements.{All-nil, All-cons, All-head, All-tail, All-map, All-get_or, All-from_get_or, All-weaker, All-contains}
use Rattle.um_units.specs.PowerMap.{PowerMap, one, replace, nth}
use Rattle.um_units.specs.Solutions.{Solves, IsJointSolution}
use Rattle.um_units.proofs.Solutions.{Solves-append, Solves-front, Solves-back, IsSolvable-front}
use Rattle.um_reasons.specs.Core.{picked, IsSolvableWith, IsSolvableList}

pub all_unmap : (P : PowerMap → Type 0) (f : ℕ → PowerMap) (ks : List ℕ) → All P (map f ks) → All (λ k. P (f k)) ks
all_unmap P f [] h = All-nil (λ k. P (f k))
all_unmap P f (k ∷ ks) h =
    All-cons (λ k. P (f k)) k ks (All-head P (f k) (map f ks) h) (all_unmap P f ks (All-tail P (f k) (map f ks) h))

module _ (slots : ℕ) (given rows : List PowerMap) where
  abbrev Holds : List PowerMap → ℕ → Type 0
  Holds units k = replace (nth units) (get_or rows k one) ≡ one

  record Satisfied (list : List ℕ) (n : ℕ) (units : List PowerMap) : Type 0 where
    per_slot : length units ≡ slots
    always : Solves (nth units) given
    listed : All (Holds units) list
    first : (k : ℕ) → k < n → k < length rows → Holds units k

  satisfied : (list : List ℕ) (n : ℕ) (units : List PowerMap) → IsJointSolution slots (given ++ picked slots given rows list ++ take n rows) units → Satisfied list n units
  satisfied list n units joint =
      let P : PowerMap → Type 0 = λ row. replace (nth units) row ≡ one in
      let part = picked slots given rows list in
      let front = Solves-front (nth units) (given ++ part) (take n rows) joint.solves in
      let back = Solves-back (nth units) (given ++ part) (take n rows) joint.solves in
      record {
        per_slot = joint.per_slot;
        always = Solves-front (nth units) given part front;
        listed = all_unmap P (λ k. get_or rows k one) list (Solves-back (nth units) given part front);
        first = λ k l m.
            subst P (get_or-take n rows k one l) (All-get_or P (take n rows) k one (omega (arith, l, m, length-take n rows)) back);
      }

  solved : (list : List ℕ) (n : ℕ) (units : List PowerMap) → Satisfied list n units → IsJointSolution slots (given ++ picked slots given rows list ++ take n rows) units
  solved list n units h =
      let P : PowerMap → Type 0 = λ row. replace (nth units) row ≡ one in
      let part = picked slots given rows list in
      record {
        per_slot = h.per_slot;
        solves =
            Solves-append (nth units) (given ++ part) (take n rows)
            (Solves-append (nth units) given part h.always (All-map P (λ k. get_or rows k one) list h.listed))
            (All-from_get_or P (take n rows) one (λ k l.
            subst P (sym (get_or-take n rows k one (omega (arith, l, length-take n rows)))) (h.first k (omega (arith, l, length-take n rows)) (omega (arith, l, length-take n rows)))));
      }

  -- a row is one of the list, or one of the first
  abbrev pub IsAmong : List ℕ → ℕ → ℕ → Type 0
  IsAmong list n k = Contains list k ⊎ ((k < n) × (k < length rows))

  holds : (list : List ℕ) (n : ℕ) (units : List PowerMap) → Satisfied list n units → (k : ℕ) → IsAmong list n k → Holds units k
  holds list n units s k (inl c) = All-contains (Holds units) list k s.listed c
  holds list n units s k (inr (l, m)) = s.first k l m

  -- fewer rows are solvable if more are
  pub narrow : (list part : List ℕ) (n m : ℕ) → All (IsAmong list n) part → ((k : ℕ) → k < m → k < length rows → IsAmong list n k) → IsSolvableWith slots given rows list n → IsSolvableWith slots given rows part m
  narrow list part n m within front solvable =
      let units = solvable.0 in
      let s = satisfied list n units solvable.1 in (
        units,
        solved part m units (record {
          per_slot = s.per_slot;
          always = s.always;
          listed = All-weaker (IsAmong list n) (Holds units) (holds list n units s) part within;
          first = λ k l r. holds list n units s k (front k l r);
        }),
      )

  -- a list, without the first rows
  pub alone : (list : List ℕ) (n : ℕ) → IsSolvableWith slots given rows list n → IsSolvableList slots given rows list
  alone list n = IsSolvable-front slots (given ++ picked slots given rows list) (take n rows)
