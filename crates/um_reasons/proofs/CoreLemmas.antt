-- A core that isn't cut off is smallest, and rows have one core.
-- Source: Tamiz, Mardle and Jones (1996): the set that the additive method finds is irreducible.
use Rattle.std.proofs.Common.{◌≡◌, ◌⊎◌, inl, inr, ℕ, suc, ◌-◌, ◌<◌, ◌≤◌, Bool, true, false, List, [], ◌∷◌, ◌++◌, length, take, refl, sym, ap, ◌∙◌, subst, arith}
use Rattle.std.specs.Prelude.{All, Contains}
use Rattle.std.proofs.lemmas.Bool.{cases_lt}
use Rattle.std.proofs.lemmas.List.{append-nil, append_assoc, length-append, take_all}
use Rattle.std.proofs.lemmas.List.Elements.{All-nil, All-cons, All-weaker, All-contains, All-contains_itself, Contains-append_left, Contains-push, Contains-push_cases, Contains-append_cases}
use Rattle.um_units.specs.PowerMap.{PowerMap}
use Rattle.um_units.specs.Solutions.{IsSolvable}
use Rattle.um_reasons.specs.Core.{IsSolvableWith, IsSolvableList, IsNextRow, IsGrown, EndsAs, IsCore}
use Rattle.um_reasons.specs.CoreLaws.{IsSmallerPart, EndsUnsolvable, CoresAreSmallest, CutCoresAreSolvable, CoresAreUnique}
use Rattle.um_reasons.proofs.Satisfying.{IsAmong, narrow, alone}

at_head : (x j : ℕ) → Contains (j ∷ []) x → x ≡ j
at_head x j c = by (Contains-push_cases [] j x c) where
  by : Contains [] x ⊎ (j ≡ x) → x ≡ j
  by (inl none) = absurd (omega (arith, none.1))
  by (inr e) = sym e

module _ (slots : ℕ) (given rows : List PowerMap) where
  itself : (list : List ℕ) (n : ℕ) → All (IsAmong slots given rows list n) list
  itself list n = All-weaker (Contains list) (IsAmong slots given rows list n) (λ k c. inl c) list (All-contains_itself list)

  -- ---- numbers fall

  falls : (list : List ℕ) (j i : ℕ) → IsNextRow slots given rows list j → IsNextRow slots given rows (list ++ j ∷ []) i → i < j
  falls list j i a b = by (cases_lt i j) where
    among : j ≤ i → (k : ℕ) → k < suc j → k < length rows → IsAmong slots given rows (list ++ j ∷ []) i k
    among g k l r = each (cases_lt k j) where
      each : (k < j) ⊎ (j ≤ k) → IsAmong slots given rows (list ++ j ∷ []) i k
      each (inl m) = inr (omega (arith, m, g), r)
      each (inr m) = inl (subst (Contains (list ++ j ∷ [])) (let e : j ≡ k = omega (arith, l, m) in e) (Contains-push list j))

    by : (i < j) ⊎ (j ≤ i) → i < j
    by (inl l) = l
    by (inr g) = absurd (a.unsolvable (narrow slots given rows (list ++ j ∷ []) list i (suc j)
        (All-weaker (Contains list) (IsAmong slots given rows (list ++ j ∷ []) i) (λ k c. inl (Contains-append_left list (j ∷ []) k c)) list (All-contains_itself list))
        (among g) b.solvable))

  below : (list further : List ℕ) (j : ℕ) → IsNextRow slots given rows list j → IsGrown slots given rows (list ++ j ∷ []) further → All (λ i. i < j) further
  below list [] j a g = All-nil (λ i. i < j)
  below list (i ∷ further) j a g =
      let l = falls list j i a g.0 in
      All-cons (λ i. i < j) i further l
      (All-weaker (λ k. k < i) (λ k. k < j) (λ k m. omega (arith, m, l)) further (below (list ++ j ∷ []) further i g.0 g.1))

  -- ---- a part that misses a later row

  missing_here : (list further part : List ℕ) (j : ℕ) → IsNextRow slots given rows list j → IsGrown slots given rows (list ++ j ∷ []) further →
      ((k : ℕ) → Contains part k → Contains (list ++ j ∷ further) k) → (Contains part j → ⊥) → IsSolvableList slots given rows part
  missing_here list further part j a g within missing =
      alone slots given rows part 0 (narrow slots given rows list part j 0
      (All-weaker (Contains part) (IsAmong slots given rows list j) each part (All-contains_itself part))
      (λ k l r. absurd (omega (arith, l))) a.solvable)
    where
      later : (k : ℕ) → Contains part k → Contains (j ∷ []) k ⊎ Contains further k → IsAmong slots given rows list j k
      later k c (inl h) = absurd (missing (subst (Contains part) (at_head k j h) c))
      later k c (inr h) =
          let l = All-contains (λ i. i < j) further k (below list further j a g) h in
          inr (l, omega (arith, l, a.within))

      place : (k : ℕ) → Contains part k → Contains list k ⊎ Contains (j ∷ further) k → IsAmong slots given rows list j k
      place k c (inl h) = inl h
      place k c (inr h) = later k c (Contains-append_cases (j ∷ []) further k h)

      each : (k : ℕ) → Contains part k → IsAmong slots given rows list j k
      each k c = place k c (Contains-append_cases list (j ∷ further) k (within k c))

  missing_later : (list further part : List ℕ) (x : ℕ) → IsGrown slots given rows list further → Contains further x →
      ((k : ℕ) → Contains part k → Contains (list ++ further) k) → (Contains part x → ⊥) → IsSolvableList slots given rows part
  missing_later list [] part x g held within missing = absurd (omega (arith, held.1))
  missing_later list (j ∷ further) part x g held within missing =
      by (missing_later (list ++ j ∷ []) further part x g.1) (Contains-append_cases (j ∷ []) further x held)
    where
      by : (Contains further x → ((k : ℕ) → Contains part k → Contains ((list ++ j ∷ []) ++ further) k) → (Contains part x → ⊥) → IsSolvableList slots given rows part) →
          Contains (j ∷ []) x ⊎ Contains further x → IsSolvableList slots given rows part
      by rest (inl h) = missing_here list further part j g.0 g.1 within (λ c. missing (subst (Contains part) (sym (at_head x j h)) c))
      by rest (inr h) = rest h (λ k c. subst (λ l. Contains l k) (sym (append_assoc list (j ∷ []) further)) (within k c)) missing

  -- ---- a part that misses the last row

  module _ (ends : EndsUnsolvable slots given rows) where
    -- the rows before it
    before : IsSolvableWith slots given rows [] (length rows - 1)
    before = subst (λ g. IsSolvable slots (g ++ take (length rows - 1) rows)) (sym (append-nil given)) ends.solvable

    all_rows : IsSolvableWith slots given rows [] (length rows) → IsSolvable slots (given ++ rows)
    all_rows h =
        subst (λ rs. IsSolvable slots (given ++ rs)) (take_all (length rows) rows (omega arith))
        (subst (λ g. IsSolvable slots (g ++ take (length rows) rows)) (append-nil given) h)

    first_below : (j : ℕ) → IsNextRow slots given rows ((length rows - 1) ∷ []) j → j < length rows - 1
    first_below j a = by (cases_lt j (length rows - 1)) where
      among : length rows - 1 ≤ j → (k : ℕ) → k < length rows → k < length rows → IsAmong slots given rows ((length rows - 1) ∷ []) j k
      among g k l r = each (cases_lt k (length rows - 1)) where
        each : (k < length rows - 1) ⊎ (length rows - 1 ≤ k) → IsAmong slots given rows ((length rows - 1) ∷ []) j k
        each (inl m) = inr (omega (arith, m, g), r)
        each (inr m) = inl (subst (Contains ((length rows - 1) ∷ [])) (let e : length rows - 1 ≡ k = omega (arith, l, m) in e) (Contains-push [] (length rows - 1)))

      by : (j < length rows - 1) ⊎ (length rows - 1 ≤ j) → j < length rows - 1
      by (inl l) = l
      by (inr g) = absurd (ends.unsolvable (all_rows (narrow slots given rows ((length rows - 1) ∷ []) [] j (length rows)
          (All-nil (IsAmong slots given rows ((length rows - 1) ∷ []) j)) (among g) a.solvable)))

    pub further_below : (further : List ℕ) → IsGrown slots given rows ((length rows - 1) ∷ []) further → All (λ i. i < length rows - 1) further
    further_below [] g = All-nil (λ i. i < length rows - 1)
    further_below (j ∷ further) g =
        let l = first_below j g.0 in
        All-cons (λ i. i < length rows - 1) j further l
        (All-weaker (λ k. k < j) (λ k. k < length rows - 1) (λ k m. omega (arith, m, l)) further (below ((length rows - 1) ∷ []) further j g.0 g.1))

    missing_last : (further part : List ℕ) → IsGrown slots given rows ((length rows - 1) ∷ []) further →
        ((k : ℕ) → Contains part k → Contains ((length rows - 1) ∷ further) k) → (Contains part (length rows - 1) → ⊥) → IsSolvableList slots given rows part
    missing_last further part g within missing =
        alone slots given rows part 0 (narrow slots given rows [] part (length rows - 1) 0
        (All-weaker (Contains part) (IsAmong slots given rows [] (length rows - 1)) each part (All-contains_itself part))
        (λ k l r. absurd (omega (arith, l))) before)
      where
        place : (k : ℕ) → Contains part k → Contains ((length rows - 1) ∷ []) k ⊎ Contains further k → IsAmong slots given rows [] (length rows - 1) k
        place k c (inl h) = absurd (missing (subst (Contains part) (at_head k (length rows - 1) h) c))
        place k c (inr h) =
            let l = All-contains (λ i. i < length rows - 1) further k (further_below further g) h in
            inr (l, omega (arith, l))

        each : (k : ℕ) → Contains part k → IsAmong slots given rows [] (length rows - 1) k
        each k c = place k c (Contains-append_cases ((length rows - 1) ∷ []) further k (within k c))

    smaller_is_solvable : (further part : List ℕ) → IsGrown slots given rows ((length rows - 1) ∷ []) further → IsSmallerPart part ((length rows - 1) ∷ further) → IsSolvableList slots given rows part
    smaller_is_solvable further part g h = by (Contains-append_cases ((length rows - 1) ∷ []) further h.left_out h.held) where
      by : Contains ((length rows - 1) ∷ []) h.left_out ⊎ Contains further h.left_out → IsSolvableList slots given rows part
      by (inl e) = missing_last further part g h.rows (λ c. h.missing (subst (Contains part) (sym (at_head h.left_out (length rows - 1) e)) c))
      by (inr e) = missing_later ((length rows - 1) ∷ []) further part h.left_out g e h.rows h.missing

  -- ---- one core

  pub next_is_one : (list : List ℕ) (i j : ℕ) → IsNextRow slots given rows list i → IsNextRow slots given rows list j → j ≤ i
  next_is_one list i j a b = by (cases_lt i j) where
    by : (i < j) ⊎ (j ≤ i) → j ≤ i
    by (inr l) = l
    by (inl l) = absurd (a.unsolvable (narrow slots given rows list list j (suc i) (itself list j) (λ k m r. inr (omega (arith, m, l), r)) b.solvable))

  no_more : (list more : List ℕ) (j : ℕ) (cut_off : Bool) → IsNextRow slots given rows list j → EndsAs slots given rows list cut_off → length (list ++ j ∷ more) ≤ 17 → ⊥
  no_more list more j false a ends few = ends (alone slots given rows list j a.solvable)
  no_more list more j true a ends few = omega (arith, few, ends.0, length-append list (j ∷ more))

  same_further : (list further other : List ℕ) (cut_off also : Bool) → IsGrown slots given rows list further → IsGrown slots given rows list other →
      EndsAs slots given rows (list ++ further) cut_off → EndsAs slots given rows (list ++ other) also →
      length (list ++ further) ≤ 17 → length (list ++ other) ≤ 17 → further ≡ other
  same_further list [] [] cut_off also g h ends end few less = refl
  same_further list [] (j ∷ other) cut_off also g h ends end few less =
      absurd (no_more list other j cut_off h.0 (subst (λ l. EndsAs slots given rows l cut_off) (append-nil list) ends) less)
  same_further list (i ∷ further) [] cut_off also g h ends end few less =
      absurd (no_more list further i also g.0 (subst (λ l. EndsAs slots given rows l also) (append-nil list) end) few)
  same_further list (i ∷ further) (j ∷ other) cut_off also g h ends end few less =
      let e : i ≡ j = omega (arith, next_is_one list i j g.0 h.0, next_is_one list j i h.0 g.0) in
      let moved = append_assoc list (i ∷ []) further in
      let shifted = append_assoc list (i ∷ []) other in
      let like = subst (λ k. IsGrown slots given rows (list ++ k ∷ []) other) (sym e) h.1 in
      let ending = subst (λ k. EndsAs slots given rows (list ++ k ∷ other) also) (sym e) end in
      let fewer = subst (λ k. length (list ++ k ∷ other) ≤ 17) (sym e) less in
      let rest = same_further (list ++ i ∷ []) further other cut_off also g.1 like
      (subst (λ l. EndsAs slots given rows l cut_off) (sym moved) ends)
      (subst (λ l. EndsAs slots given rows l also) (sym shifted) ending)
      (subst (λ l. length l ≤ 17) (sym moved) few)
      (subst (λ l. length l ≤ 17) (sym shifted) fewer) in
      ap (λ l. i ∷ l) rest ∙ ap (λ k. k ∷ other) e

  same_end : (core : List ℕ) (cut_off also : Bool) → EndsAs slots given rows core cut_off → EndsAs slots given rows core also → cut_off ≡ also
  same_end core true true a b = refl
  same_end core false false a b = refl
  same_end core true false a b = absurd (b a.1)
  same_end core false true a b = absurd (a b.1)

-- ---- the laws

pub cores_are_smallest : CoresAreSmallest
cores_are_smallest slots given rows core ends c = (
  c.ends,
  (λ part h. smaller_is_solvable slots given rows ends c.begun.further part c.begun.grown (subst (IsSmallerPart part) c.begun.begins h)),
)

pub cut_cores_are_solvable : CutCoresAreSolvable
cut_cores_are_solvable slots given rows core c = c.ends.1

pub one_core : (slots : ℕ) (given rows : List PowerMap) (core other : List ℕ) (cut_off also : Bool) → IsCore slots given rows core cut_off → IsCore slots given rows other also → (core ≡ other) × (cut_off ≡ also)
one_core slots given rows core other cut_off also a b =
    let last = length rows - 1 in
    let e = same_further slots given rows (last ∷ []) a.begun.further b.begun.further cut_off also a.begun.grown b.begun.grown
    (subst (λ l. EndsAs slots given rows l cut_off) a.begun.begins a.ends)
    (subst (λ l. EndsAs slots given rows l also) b.begun.begins b.ends)
    (subst (λ l. length l ≤ 17) a.begun.begins a.few)
    (subst (λ l. length l ≤ 17) b.begun.begins b.few) in
    let same = a.begun.begins ∙ ap (λ l. last ∷ l) e ∙ sym b.begun.begins in
    (same, same_end slots given rows core cut_off also a.ends (subst (λ l. EndsAs slots given rows l also) (sym same) b.ends))

pub cores_are_unique : CoresAreUnique
cores_are_unique slots given rows core other cut_off also ends a b = one_core slots given rows core other cut_off also a b
