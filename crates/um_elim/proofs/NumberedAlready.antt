-- Types whose variables have the numbers from 0 on in the order of their first occurrence: renumbering leaves them.
use Rattle.std.proofs.Common.{◌≡◌, inl, inr, ℕ, zero, suc, ◌+◌, ◌<◌, ◌≤◌, false, not, ◌||◌, cond, eqb, List, [], ◌∷◌, ◌++◌, length, get_or, take, map, refl, sym, ap, ◌∙◌, subst, length-append, arith}
use Rattle.std.specs.Prelude.{IsTrue}
use Rattle.std.specs.List.{flat_map}
use Rattle.std.proofs.lemmas.Bool.{cases_lt, eq-eqb, ne_eqb, or_parts}
use Rattle.std.proofs.lemmas.List.{append-nil, take_more}
use Rattle.std.proofs.lemmas.List.Folds.{list_any-append}
use Rattle.std.proofs.lemmas.Grind.{flat_map-append}
use Rattle.um_units.specs.declared.Atom.TheVariants.{Var}
use Rattle.um_units.specs.PowerMap.{PowerMap, atom, replace}
use Rattle.um_units.proofs.Replacement.{replace-same}
use Rattle.um_tree.specs.TypeTree.{TypeTree, bool_type, num_type, list_type, record_type}
use Rattle.um_tree.specs.Typing.{put}
use Rattle.um_tree.specs.Scheme.{variables, FirstComeInOrder, IsNumberedBy}
use Rattle.um_tree.proofs.Numbered.{in_order_below}
use Rattle.um_elim.specs.Numbering.{place, by_place, renumbered, variable_order}
use Rattle.um_elim.specs.Order.{with_variables}
use Rattle.um_elim.proofs.FirstOccurrences.{member, member-front, member-back, with_none, place-append}
use Rattle.um_elim.proofs.GrowingOrder.{All-member}
use Rattle.um_elim.proofs.NumberedTypes.{FirstComeInOrder-append}
use Rattle.um_elim.proofs.RenamedUnits.{puts_alike}

-- ---- the numbers below k, in order
abbrev upto : ℕ → List ℕ
upto zero = []
upto (suc k) = upto k ++ k ∷ []

one_more : (n : ℕ) → 1 + n ≡ suc n
one_more n = omega arith

length-upto : (k : ℕ) → length (upto k) ≡ k
length-upto zero = refl
length-upto (suc k) = length-append (upto k) (k ∷ []) ∙ ap (λ n. n + 1) (length-upto k) ∙ omega arith

member_upto : (k x : ℕ) → x < k → IsTrue (member x (upto k))
member_upto zero x h = absurd (omega (arith, h))
member_upto (suc k) x h = elim (cases_lt x k) [
  | inl l ↦ member-front x (upto k) (k ∷ []) (member_upto k x l)
  | inr g ↦ member-back x (upto k) (k ∷ []) (ap (λ b. b || false) (eq-eqb x k (omega (arith, g, h))))
]

not_member_upto : (k x : ℕ) → k ≤ x → member x (upto k) ≡ false
not_member_upto zero x h = refl
not_member_upto (suc k) x h =
    list_any-append (eqb x) (upto k) (k ∷ [])
    ∙ ap (λ b. b || (eqb x k || false)) (not_member_upto k x (omega (arith, h)))
    ∙ ap (λ b. b || false) (ne_eqb x k (λ e. omega (arith, e, h)))

place_new : (xs : List ℕ) (k : ℕ) → member k xs ≡ false → place (xs ++ k ∷ []) k ≡ length xs
place_new [] k h = ap (λ b. cond (not b) (1 + place [] k) 0) (eq-eqb k k refl)
place_new (x ∷ xs) k h =
    let w = or_parts (eqb k x) (member k xs) h in
    ap (λ b. cond (not b) (1 + place (xs ++ k ∷ []) k) 0) w.0 ∙ ap (λ n. 1 + n) (place_new xs k w.1) ∙ one_more (length xs)

place_upto : (k x : ℕ) → x < k → place (upto k) x ≡ x
place_upto zero x h = absurd (omega (arith, h))
place_upto (suc k) x h = elim (cases_lt x k) [
  | inl l ↦ place-append (upto k) (k ∷ []) x (member_upto k x l) ∙ place_upto k x l
  | inr g ↦
      let e : x ≡ k = omega (arith, g, h) in
      ap (place (upto k ++ k ∷ [])) e ∙ place_new (upto k) k (not_member_upto k k (omega arith)) ∙ length-upto k ∙ sym e
]

-- ---- the order of numbers that come in order
with_numbered : (k n : ℕ) (xs : List ℕ) → FirstComeInOrder k xs n → with_variables (upto k) xs ≡ upto n
with_numbered k n [] e = ap upto e
with_numbered k n (x ∷ xs) h = elim h [
  | inl p ↦ ap (λ b. with_variables (cond b (upto k) (upto k ++ x ∷ [])) xs) (member_upto k x p.0) ∙ with_numbered k n xs p.1
  | inr p ↦
      ap (λ b. with_variables (cond b (upto k) (upto k ++ x ∷ [])) xs) (not_member_upto k x (let e = p.0 in omega (arith, e)))
      ∙ ap (λ y. with_variables (upto k ++ y ∷ []) xs) p.0
      ∙ with_numbered (suc k) n xs p.1
]

order_is : (n : ℕ) (ts : List TypeTree) → IsNumberedBy n ts → variable_order ts ≡ upto n
order_is n ts h = sym (with_none (variables ts)) ∙ with_numbered 0 n (variables ts) h

pub count_is : (n : ℕ) (ts : List TypeTree) → IsNumberedBy n ts → n ≡ length (variable_order ts)
count_is n ts h = sym (ap length (order_is n ts h) ∙ length-upto n)

-- ---- each variable for itself
units_same : (us : List PowerMap) → map (replace (λ k. atom (Var k))) us ≡ us
units_same [] = refl
units_same (u ∷ us) = λ i. replace-same u i ∷ units_same us i

put_same : (t : TypeTree) → put (λ k. atom (Var k)) t ≡ t
put_same bool_type = refl
put_same (num_type u) = ap num_type (replace-same u)
put_same (list_type t) = ap list_type (put_same t)
put_same (record_type r us) = ap (record_type r) (units_same us)

puts_same : (ts : List TypeTree) → map (put (λ k. atom (Var k))) ts ≡ ts
puts_same [] = refl
puts_same (t ∷ ts) = λ i. put_same t i ∷ puts_same ts i

pub renumbered_same : (n : ℕ) (ts : List TypeTree) → IsNumberedBy n ts → renumbered ts ≡ ts
renumbered_same n ts h =
    ap (λ o. map (put (by_place o)) ts) (order_is n ts h)
    ∙ puts_alike (by_place (upto n)) (λ k. atom (Var k)) ts (λ k inside. ap (λ j. atom (Var j)) (place_upto n k (All-member (λ j. j < n) (variables ts) k (in_order_below 0 n (variables ts) h) inside)))
    ∙ puts_same ts

-- ---- a loop that goes on while numbers come in order
pub in_order_grows : {X : Type 0} (vars : X → List ℕ) (xs : List X) (i : ℕ) (d : X) → i < length xs → (k m n : ℕ) → FirstComeInOrder k (flat_map vars (take i xs)) m → FirstComeInOrder m (vars (get_or xs i d)) n → FirstComeInOrder k (flat_map vars (take (i + 1) xs)) n
in_order_grows vars xs i d h k m n before at =
    subst (λ l. FirstComeInOrder k l n)
    (ap (λ l. flat_map vars (take i xs) ++ l) (sym (append-nil (vars (get_or xs i d)))) ∙ sym (flat_map-append vars (take i xs) (get_or xs i d ∷ [])) ∙ ap (flat_map vars) (sym (take_more xs i d h)))
    (FirstComeInOrder-append k m n (flat_map vars (take i xs)) (vars (get_or xs i d)) before at)
