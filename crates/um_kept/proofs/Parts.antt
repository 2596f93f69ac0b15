-- Powers of rows of a whole row: their product over its terms, with a sign, and how much room it takes.
use Rattle.std.proofs.Common.{◌≡◌, ℕ, suc, ◌+◌, ◌<◌, ◌≤◌, Bool, true, false, List, [], ◌∷◌, ◌++◌, length, take, drop, get_or, ℤ, pos, negsuc, ◌+ℤ◌, ◌*ℤ◌, refl, sym, ap, ◌∙◌, subst, arith}
use Rattle.std.specs.Prelude.{IsTrue, All, slice_index_or, if◌then◌else◌}
use Rattle.std.proofs.lemmas.Bool.{and_parts, ltb-true}
use Rattle.std.proofs.lemmas.Int.{ints}
use Rattle.std.proofs.lemmas.List.{take-append-drop}
use Rattle.std.proofs.lemmas.List.Elements.{All-nil, All-cons}
use Rattle.std.proofs.Math.IntN.{*ℤ-zero}
use Rattle.um_frac.proofs.Integers.{*ℤ-+ℤ, *ℤ_assoc}
use Rattle.um_units.specs.declared.Atom.{Atom}
use Rattle.um_units.specs.declared.Atom.TheVariants.{Base, Var}
use Rattle.um_units.specs.declared.Term.{Term}
use Rattle.um_units.specs.Atoms.{is_before}
use Rattle.um_units.specs.Terms.{weigh, indicator, is_normal, is_before_all}
use Rattle.um_units.specs.NormalForm.{head_before_all, tail_normal}
use Rattle.um_units.specs.PowerMap.{PowerMap, power_of, one, atom, mul, inv, pow, extension}
use Rattle.um_units.specs.Variables.{VariablesBelow, atom_below, variables_below}
use Rattle.um_units.proofs.Equality.{same_unit}
use Rattle.um_units.proofs.Group.{power_of-one, power_of-mul, power_of-pow, pow-one, pow-pow, inv-mul, one-mul, mul-one, mul_assoc}
use Rattle.um_units.proofs.Replacement.{weight_held}
use Rattle.um_units.proofs.Variables.{variables_below-from_VariablesBelow}
use Rattle.um_pivots.specs.Pivot.{is_base}
use Rattle.um_elim.specs.ElimStep.{signed}
use Rattle.um_check.specs.Existence.{at_slot, total}
use Rattle.um_check.proofs.Extensions.{weight-extension}
use Rattle.um_kept.specs.Steps.{sign_of, variable_count, parts_product}

-- ---- the product is that of the whole row, with the sign
power_of-parts : (sign : ℤ) (parts : List PowerMap) (ts : List Term) (x : Atom) → power_of (parts_product sign parts ts) x ≡ sign *ℤ weigh (λ y. power_of (at_slot (λ j. slice_index_or parts j one) y) x) ts
power_of-parts sign parts [] x = power_of-one x ∙ sym (*ℤ-zero sign)
power_of-parts sign parts (t ∷ ts) x =
    let u = at_slot (λ j. slice_index_or parts j one) t.atom in
    power_of-mul (pow u (sign *ℤ t.power)) (parts_product sign parts ts) x
    ∙ ap (λ n. n +ℤ power_of (parts_product sign parts ts) x) (power_of-pow u (sign *ℤ t.power) x ∙ *ℤ_assoc sign t.power (power_of u x))
    ∙ ap (λ n. sign *ℤ (t.power *ℤ power_of u x) +ℤ n) (power_of-parts sign parts ts x)
    ∙ sym (*ℤ-+ℤ sign (t.power *ℤ power_of u x) (weigh (λ y. power_of (at_slot (λ j. slice_index_or parts j one) y) x) ts))

parts_product-is : (sign : ℤ) (parts : List PowerMap) (u : PowerMap) → parts_product sign parts u.terms ≡ pow (extension (at_slot (λ j. slice_index_or parts j one)) u) sign
parts_product-is sign parts u =
    same_unit _ _ (λ x. power_of-parts sign parts u.terms x
    ∙ ap (λ n. sign *ℤ n) (sym (weight-extension (indicator x) (at_slot (λ j. slice_index_or parts j one)) u))
    ∙ sym (power_of-pow (extension (at_slot (λ j. slice_index_or parts j one)) u) sign x))

signed_sum : (b : Bool) (u v : PowerMap) (d : ℤ) → mul (pow u (sign_of b)) (pow v (sign_of b *ℤ d)) ≡ signed b (mul u (pow v d))
signed_sum true u v d = ap (mul (inv u)) (sym (pow-pow v d (negsuc 0))) ∙ sym (inv-mul u (pow v d))
signed_sum false u v d = ap (λ w. mul w (pow v (pos 1 *ℤ d))) (pow-one u) ∙ ap (λ z. mul u (pow v z)) (once d)
  where
    once : (z : ℤ) → pos 1 *ℤ z ≡ z
    once z = omega (arith, ints)

pub row_sum : (b : Bool) (parts : List PowerMap) (row : PowerMap) (k : ℕ) (d : ℤ) (ts : List Term) (others own : PowerMap) → ts ≡ row.terms → others ≡ parts_product (sign_of b) parts ts → own ≡ pow (atom (Var k)) (sign_of b *ℤ d) →
    mul others own ≡ signed b (total (λ j. slice_index_or parts j one) row k d)
row_sum b parts row k d ts others own e f g =
    ap (λ u. mul u own) (f ∙ ap (parts_product (sign_of b) parts) e ∙ parts_product-is (sign_of b) parts row)
    ∙ ap (mul (pow (extension (at_slot (λ j. slice_index_or parts j one)) row) (sign_of b))) g
    ∙ signed_sum b (extension (at_slot (λ j. slice_index_or parts j one)) row) (atom (Var k)) d

-- only the slots that the row holds count
pub total_alike : (f g : ℕ → PowerMap) (row : PowerMap) (k : ℕ) (d : ℤ) (n : ℕ) → VariablesBelow n row → ((j : ℕ) → j < n → f j ≡ g j) → total f row k d ≡ total g row k d
total_alike f g row k d n below same =
    ap (λ u. mul u (pow (atom (Var k)) d)) (same_unit (extension (at_slot f) row) (extension (at_slot g) row) (λ x. weight-extension (indicator x) (at_slot f) row ∙ weight_held (λ y. power_of (at_slot f y) x) (λ y. power_of (at_slot g y) x) row (at x) ∙ sym (weight-extension (indicator x) (at_slot g) row)))
  where
    at : (x y : Atom) → (power_of row y ≡ pos 0 → ⊥) → power_of (at_slot f y) x ≡ power_of (at_slot g y) x
    at x (Base m) h = refl
    at x (Var j) h = ap (λ u. power_of u x) (same j (below j h))

-- ---- halves
parts-append : (sign : ℤ) (parts : List PowerMap) (ts us : List Term) → parts_product sign parts (ts ++ us) ≡ mul (parts_product sign parts ts) (parts_product sign parts us)
parts-append sign parts [] us = sym (one-mul (parts_product sign parts us))
parts-append sign parts (t ∷ ts) us =
    ap (mul (pow (at_slot (λ j. slice_index_or parts j one) t.atom) (sign *ℤ t.power))) (parts-append sign parts ts us)
    ∙ sym (mul_assoc (pow (at_slot (λ j. slice_index_or parts j one) t.atom) (sign *ℤ t.power)) (parts_product sign parts ts) (parts_product sign parts us))

pub parts-halves : (sign : ℤ) (parts : List PowerMap) (ts front back : List Term) (n : ℕ) → front ≡ take n ts → back ≡ drop n ts → mul (parts_product sign parts front) (parts_product sign parts back) ≡ parts_product sign parts ts
parts-halves sign parts ts front back n e f =
    sym (parts-append sign parts front back) ∙ ap (parts_product sign parts) (ap (λ us. us ++ back) e ∙ ap (λ us. take n ts ++ us) f ∙ take-append-drop n ts)

pub parts-none : (sign : ℤ) (parts : List PowerMap) (ts : List Term) → length ts < 1 → one ≡ parts_product sign parts ts
parts-none sign parts [] h = refl
parts-none sign parts (t ∷ ts) h = absurd (omega arith)

pub parts-one : (sign : ℤ) (parts : List PowerMap) (ts : List Term) (d : Term) → length ts < 2 → 0 < length ts →
    pow (at_slot (λ j. slice_index_or parts j one) (get_or ts 0 d).atom) (sign *ℤ (get_or ts 0 d).power) ≡ parts_product sign parts ts
parts-one sign parts [] d h l = absurd (omega (arith, l))
parts-one sign parts (t ∷ []) d h l = sym (mul-one (pow (at_slot (λ j. slice_index_or parts j one) t.atom) (sign *ℤ t.power)))
parts-one sign parts (t ∷ u ∷ ts) d h l = absurd (omega (arith, h))

-- ---- how many variables there are
pub count-append : (ts us : List Term) → variable_count (ts ++ us) ≡ variable_count ts + variable_count us
count-append [] us = zero_plus (variable_count us)
  where
    zero_plus : (n : ℕ) → n ≡ 0 + n
    zero_plus n = omega arith
count-append (t ∷ ts) us = moved (if is_base t.atom then 0 else 1) (variable_count (ts ++ us)) (variable_count ts) (variable_count us) (count-append ts us)
  where
    moved : (a w b c : ℕ) → w ≡ b + c → a + w ≡ a + b + c
    moved a w b c e = omega (arith, e)

pub count-halves : (ts front back : List Term) (n : ℕ) → front ≡ take n ts → back ≡ drop n ts → variable_count ts ≡ variable_count front + variable_count back
count-halves ts front back n e f =
    ap variable_count (sym (take-append-drop n ts)) ∙ count-append (take n ts) (drop n ts) ∙ ap (λ us. variable_count us + variable_count (drop n ts)) (sym e) ∙ ap (λ us. variable_count front + variable_count us) (sym f)

pub count-one : (ts : List Term) (d : Term) → length ts < 2 → 0 < length ts → variable_count (get_or ts 0 d ∷ []) ≡ variable_count ts
count-one [] d h l = absurd (omega (arith, l))
count-one (t ∷ []) d h l = refl
count-one (t ∷ u ∷ ts) d h l = absurd (omega (arith, h))

count-le : (ts : List Term) → variable_count ts ≤ length ts
count-le [] = omega arith
count-le (t ∷ ts) = more (is_base t.atom) (variable_count ts) (length ts) (count-le ts)
  where
    more : (b : Bool) (m n : ℕ) → m ≤ n → (if b then 0 else 1) + m ≤ suc n
    more true m n h = omega (arith, h)
    more false m n h = omega (arith, h)

-- variables rise, so that there are few of them below n
rising : (n k : ℕ) (ts : List Term) → IsTrue (is_normal ts) → IsTrue (is_before_all (Var k) ts) → IsTrue (variables_below n ts) → k < n → length ts + k < n
rising n k [] h b l i = omega (arith, i)
rising n k (t ∷ ts) h b l i =
    at (λ j before low. rising n j ts (tail_normal t ts h) before (and_parts (atom_below n t.atom) (variables_below n ts) l).1 low)
    t.atom refl (and_parts (is_before (Var k) t.atom) (is_before_all (Var k) ts) b).0 (and_parts (atom_below n t.atom) (variables_below n ts) l).0
  where
    at : ((j : ℕ) → IsTrue (is_before_all (Var j) ts) → j < n → length ts + j < n) → (x : Atom) → t.atom ≡ x → IsTrue (is_before (Var k) x) → IsTrue (atom_below n x) → length (t ∷ ts) + k < n
    at rest (Base m) e f g = absurd (cc f)
    at rest (Var j) e f g =
        let less = ltb-true k j f in
        let low = rest j (subst (λ y. IsTrue (is_before_all y ts)) e (head_before_all t ts h)) (ltb-true j n g) in
        omega (arith, less, low)

pub count_low : (n : ℕ) (ts : List Term) → IsTrue (is_normal ts) → IsTrue (variables_below n ts) → variable_count ts ≤ n
count_low n [] h l = omega arith
count_low n (t ∷ ts) h l =
    let p = and_parts (atom_below n t.atom) (variables_below n ts) l in
    at (count_low n ts (tail_normal t ts h) p.1) p.1 t.atom refl p.0
  where
    at : variable_count ts ≤ n → IsTrue (variables_below n ts) → (x : Atom) → t.atom ≡ x → IsTrue (atom_below n x) → variable_count (t ∷ ts) ≤ n
    at low below (Base m) e g = subst (λ y. (if is_base y then 0 else 1) + variable_count ts ≤ n) (sym e) (omega (arith, low))
    at low below (Var k) e g =
        subst (λ y. (if is_base y then 0 else 1) + variable_count ts ≤ n) (sym e)
        (let rest = rising n k ts (tail_normal t ts h) (subst (λ y. IsTrue (is_before_all y ts)) e (head_before_all t ts h)) below (ltb-true k n g) in
        let few = count-le ts in
        omega (arith, rest, few))

pub row_count : (n : ℕ) (row : PowerMap) → VariablesBelow n row → variable_count row.terms ≤ n
row_count n row below = count_low n row.terms row.normal (variables_below-from_VariablesBelow n row below)

pub row_below : (n : ℕ) (row : PowerMap) → VariablesBelow n row → All (λ (t : Term). IsTrue (atom_below n t.atom)) row.terms
row_below n row below = each row.terms (variables_below-from_VariablesBelow n row below)
  where
    each : (ts : List Term) → IsTrue (variables_below n ts) → All (λ (t : Term). IsTrue (atom_below n t.atom)) ts
    each [] h = All-nil (λ (t : Term). IsTrue (atom_below n t.atom))
    each (t ∷ ts) h = let p = and_parts (atom_below n t.atom) (variables_below n ts) h in All-cons (λ (t : Term). IsTrue (atom_below n t.atom)) t ts p.0 (each ts p.1)
