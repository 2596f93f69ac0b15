-- Units that are changed slot by slot, at the slots whose units hold a variable: where no other unit changes, each does.
use Rattle.std.proofs.Common.{◌≡◌, ℕ, zero, suc, ◌+◌, ◌<◌, ◌≤◌, true, false, not, ◌||◌, cond, eqb, List, [], ◌∷◌, ◌++◌, length, get_or, set, take, map, refl, sym, ap, ◌∙◌, length-append, arith}
use Rattle.std.specs.Prelude.{IsTrue}
use Rattle.std.proofs.Math.Seq.{get_or-append_seam}
use Rattle.std.proofs.lemmas.Bool.{eqb-true, eq-eqb, and_parts, and_from}
use Rattle.std.proofs.lemmas.List.{append_assoc, get_or-set_other, length-set}
use Rattle.um_units.specs.PowerMap.{PowerMap, one}
use Rattle.um_elim.specs.Index.{holds, holders, holders_from}
use Rattle.um_elim.proofs.Cases.{on_test}
use Rattle.std.proofs.lemmas.List.{get_or_default}
use Rattle.um_elim.proofs.FirstOccurrences.{member, distinct, member-at}

-- the units with f at each of the slots
abbrev pub changed : (PowerMap → PowerMap) → List ℕ → List PowerMap → List PowerMap
changed f [] us = us
changed f (s ∷ ss) us = changed f ss (set us s (f (get_or us s one)))

pub changed-push : (f : PowerMap → PowerMap) (ss : List ℕ) (s : ℕ) (us : List PowerMap) → changed f (ss ++ s ∷ []) us ≡ set (changed f ss us) s (f (get_or (changed f ss us) s one))
changed-push f [] s us = refl
changed-push f (x ∷ ss) s us = changed-push f ss s (set us x (f (get_or us x one)))

pub length-changed_slots : (f : PowerMap → PowerMap) (ss : List ℕ) (us : List PowerMap) → length (changed f ss us) ≡ length us
length-changed_slots f [] us = refl
length-changed_slots f (s ∷ ss) us = length-changed_slots f ss (set us s (f (get_or us s one))) ∙ length-set us s (f (get_or us s one))

-- what no slot was
pub changed_other : (f : PowerMap → PowerMap) (ss : List ℕ) (us : List PowerMap) (i : ℕ) → member i ss ≡ false → get_or (changed f ss us) i one ≡ get_or us i one
changed_other f [] us i h = refl
changed_other f (s ∷ ss) us i h =
    elim (eqb i s) as (λ b. eqb i s ≡ b → (b || member i ss) ≡ false → get_or (changed f ss (set us s (f (get_or us s one)))) i one ≡ get_or us i one) [
      | true ↦ λ e g. cc
      | false ↦ λ e g.
          let other : i ≡ s → ⊥ = λ q. let y = eq-eqb i s q in cc in
          changed_other f ss (set us s (f (get_or us s one))) i g ∙ get_or-set_other us s i (f (get_or us s one)) one other
    ] refl h

-- ---- all that hold the variable
set-seam : (xs us : List PowerMap) (u v : PowerMap) → set (xs ++ u ∷ us) (length xs) v ≡ xs ++ v ∷ us
set-seam [] us u v = refl
set-seam (x ∷ xs) us u v = ap (λ l. x ∷ l) (set-seam xs us u v)

module _ (f : PowerMap → PowerMap) (k : ℕ) (left : (u : PowerMap) → holds k u ≡ false → f u ≡ u) where
  one_longer : (xs : List PowerMap) (y : PowerMap) → suc (length xs) ≡ length (xs ++ y ∷ [])
  one_longer xs y = let e = length-append xs (y ∷ []) in omega (arith, e)

  changed_behind : (xs us : List PowerMap) → changed f (holders_from k (length xs) us) (xs ++ us) ≡ xs ++ map f us
  changed_behind xs [] = refl
  changed_behind xs (u ∷ us) =
      let hs = holders_from k (suc (length xs)) us in
      let rest : (y : PowerMap) → changed f hs (xs ++ y ∷ us) ≡ xs ++ y ∷ map f us = λ y.
      ap (λ n. changed f (holders_from k n us) (xs ++ y ∷ us)) (one_longer xs y)
      ∙ ap (changed f (holders_from k (length (xs ++ y ∷ [])) us)) (sym (append_assoc xs (y ∷ []) us))
      ∙ changed_behind (xs ++ y ∷ []) us
      ∙ append_assoc xs (y ∷ []) (map f us) in
      elim (holds k u) as (λ b. holds k u ≡ b → changed f (cond b (length xs ∷ hs) hs) (xs ++ u ∷ us) ≡ xs ++ f u ∷ map f us) [
        | true ↦ λ e. ap (λ v. changed f hs (set (xs ++ u ∷ us) (length xs) (f v))) (get_or-append_seam xs u us one) ∙ ap (changed f hs) (set-seam xs us u (f u)) ∙ rest (f u)
        | false ↦ λ e. rest u ∙ ap (λ y. xs ++ y ∷ map f us) (sym (left u e))
      ] refl

  pub changed_holders : (us : List PowerMap) → changed f (holders us k) us ≡ map f us
  changed_holders us = changed_behind [] us

-- ---- the slots
pub holders-within : (k a : ℕ) (us : List PowerMap) (i : ℕ) → IsTrue (member i (holders_from k a us)) → (a ≤ i) × (i < a + length us)
holders-within k a [] i h = cc
holders-within k a (u ∷ us) i h =
    let rest : IsTrue (member i (holders_from k (suc a) us)) → (a ≤ i) × (i < a + suc (length us)) = λ g. let w = holders-within k (suc a) us i g in (let l = w.0 in omega (arith, l), let l = w.1 in omega (arith, l)) in
    elim (holds k u) as (λ b. IsTrue (member i (cond b (a ∷ holders_from k (suc a) us) (holders_from k (suc a) us))) → (a ≤ i) × (i < a + suc (length us))) [
      | true ↦ λ g.
          on_test (eqb i a)
          (λ e. let q = eqb-true i a e in (omega (arith, q), omega (arith, q)))
          (λ e. rest (sym (ap (λ b. b || member i (holders_from k (suc a) us)) e) ∙ g))
      | false ↦ rest
    ] h

distinct-holders : (k a : ℕ) (us : List PowerMap) → IsTrue (distinct (holders_from k a us))
distinct-holders k a [] = refl
distinct-holders k a (u ∷ us) =
    let rest = distinct-holders k (suc a) us in
    let hs = holders_from k (suc a) us in
    elim (holds k u) as (λ b. IsTrue (distinct (cond b (a ∷ hs) hs))) [
      | true ↦ and_from _ _ (on_test (member a hs) (λ e. absurd (let w = holders-within k (suc a) us a e in let l = w.0 in omega (arith, l))) (λ e. ap not e)) rest
      | false ↦ rest
    ]

not_before : (ss : List ℕ) (j : ℕ) → IsTrue (distinct ss) → j < length ss → member (get_or ss j 0) (take j ss) ≡ false
not_before [] j d h = absurd (omega (arith, h))
not_before (s ∷ ss) zero d h = refl
not_before (s ∷ ss) (suc j) d h =
    let parts = and_parts (not (member s ss)) (distinct ss) d in
    let low : j < length ss = omega (arith, h) in
    let k = get_or ss j 0 in
    on_test (eqb k s)
    (λ e. absurd (let m : not (member s ss) ≡ false = ap not (ap (λ i. member i ss) (sym (eqb-true k s e)) ∙ member-at ss j low) in let n = parts.0 in cc))
    (λ e. ap (λ b. b || member k (take j ss)) e ∙ not_before ss j parts.1 low)

-- the unit at the next slot is as it was
pub next_unit : (f : PowerMap → PowerMap) (k : ℕ) (us : List PowerMap) (j : ℕ) → j < length (holders us k) → get_or (changed f (take j (holders us k)) us) (get_or (holders us k) j 0) one ≡ get_or us (get_or (holders us k) j 0) one
next_unit f k us j h = changed_other f (take j (holders us k)) us (get_or (holders us k) j 0) (not_before (holders us k) j (distinct-holders k 0 us) h)

pub next_within : (k : ℕ) (us : List PowerMap) (j : ℕ) → j < length (holders us k) → get_or (holders us k) j 0 < length us
next_within k us j h = let w = holders-within k 0 us (get_or (holders us k) j 0) (member-at (holders us k) j h) in let l = w.1 in omega (arith, l)

-- an item within a list doesn't depend on the default
pub own_default : (us : List PowerMap) (i : ℕ) → i < length us → get_or us i one ≡ get_or us i (get_or us i one)
own_default us i h = get_or_default us i one (get_or us i one) h
