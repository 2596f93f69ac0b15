-- An index whose list of one variable is out of date, while the variable goes out of one unit after another.
use Rattle.std.proofs.Common.{◌≡◌, ℕ, suc, ◌<◌, false, not, cond, eqb, List, [], ◌∷◌, length, get_or, set, map, ℤ, pos, negsuc, ◌+ℤ◌, ◌*ℤ◌, neg_ℤ, refl, sym, ap, ◌∙◌, subst, arith}
use Rattle.std.specs.Prelude.{IsTrue, All}
use Rattle.std.proofs.lemmas.Bool.{eqb-true, eq-eqb}
use Rattle.std.proofs.lemmas.Int.{ints}
use Rattle.std.proofs.lemmas.List.{get_or-set_same, get_or-set_other, length-set, set-get_or}
use Rattle.std.proofs.lemmas.List.Elements.{All-set, All-get_or}
use Rattle.um_units.specs.declared.Atom.TheVariants.{Var}
use Rattle.um_units.specs.declared.Term.{Term}
use Rattle.um_units.specs.Terms.{is_zero, is_normal}
use Rattle.um_units.specs.PowerMap.{PowerMap, power_of, one, atom, inv, replace}
use Rattle.um_units.specs.Range.{fits}
use Rattle.um_units.specs.Variables.{VariablesBelow, variables_below}
use Rattle.um_units.proofs.Group.{power_of-mul, power_of-inv, power_of-atom, power_of-other_atom}
use Rattle.um_units.proofs.Variables.{variables_below-from_VariablesBelow}
use Rattle.um_elim.specs.ElimStep.{multiply}
use Rattle.um_elim.specs.Index.{holds, holders, holders_from, followed_terms, IsIndex}
use Rattle.um_elim.proofs.Cases.{on_test}
use Rattle.um_elim.proofs.Shear.{power_of-multiply}
use Rattle.um_elim.proofs.FirstOccurrences.{member}
use Rattle.um_elim.proofs.RenamedUnits.{term_variables}
use Rattle.um_elim.proofs.VariablesKept.{replaced_below}
use Rattle.um_elim.proofs.LastStep.{over_variable, over_variable-below}
use Rattle.um_elim.proofs.IndexLaws.{length-followed_terms, list_follows}
use Rattle.um_elim.proofs.IndexStep.{held_as_before, not_listed, multiply_stays}

-- the index but for the list of m
abbrev pub IsIndexBut : ℕ → List PowerMap → List (List ℕ) → Type 0
IsIndexBut m us index = IsIndex us (set index m (holders us m))

pub index_but : (m : ℕ) (us : List PowerMap) (index : List (List ℕ)) → IsIndex us index → m < length us → IsIndexBut m us index
index_but m us index is h =
    let e = is.exact m (subst (λ n. m < n) (sym is.slots) h) in
    subst (IsIndex us) (sym (ap (set index m) (sym e) ∙ set-get_or index m [])) is

pub length-but : (m : ℕ) (us : List PowerMap) (index : List (List ℕ)) → IsIndexBut m us index → length index ≡ length us
length-but m us index is = sym (length-set index m (holders us m)) ∙ is.slots

-- slot i gets the unit new, which holds the same variables but perhaps m and those that stand in the terms
pub index_follows_but : (m : ℕ) (us : List PowerMap) (index : List (List ℕ)) (i : ℕ) (new : PowerMap) (ts : List Term) →
    IsIndexBut m us index → m < length us → i < length us → IsTrue (is_normal ts) → IsTrue (variables_below (length us) ts) →
    ((k : ℕ) → eqb k m ≡ false → member k (term_variables ts) ≡ false → holds k new ≡ holds k (get_or us i one)) →
    VariablesBelow (length us) new → IsTrue (fits new) →
    IsIndexBut m (set us i new) (followed_terms index ts i (get_or us i one) new)
index_follows_but m us index i new ts is inside h normal below same low fit = record {
  slots = length-set after m now ∙ after_length ∙ sym (length-set us i new);
  exact = λ k l. exact k (subst (λ n. k < n) (length-set after m now ∙ after_length) l);
  variables = subst (λ n. All (VariablesBelow n) (set us i new)) (sym (length-set us i new)) (All-set (VariablesBelow (length us)) us i new low is.variables);
  fit = All-set (λ u. IsTrue (fits u)) us i new fit is.fit;
}
  where
    after : List (List ℕ)
    after = followed_terms index ts i (get_or us i one) new

    now : List ℕ
    now = holders (set us i new) m

    after_length : length after ≡ length us
    after_length = length-followed_terms i (get_or us i one) new ts index ∙ length-but m us index is

    exact : (k : ℕ) → k < length us → get_or (set after m now) k [] ≡ holders (set us i new) k
    exact k l =
        on_test (eqb k m)
        (λ e. let q : k ≡ m = eqb-true k m e in
        ap (λ j. get_or (set after m now) j []) q ∙ get_or-set_same after m now [] (subst (λ n. m < n) (sym after_length) inside) ∙ ap (holders (set us i new)) (sym q))
        (λ e. let other : k ≡ m → ⊥ = λ q. let y = eq-eqb k m q in cc in
        let before : get_or index k [] ≡ holders us k = sym (get_or-set_other index m k (holders us m) [] other) ∙ is.exact k (subst (λ n. k < n) (sym is.slots) l) in
        get_or-set_other after m k now [] other ∙ list_follows us index i new ts (length-but m us index is) h normal below k (same k e) before)

-- ---- the unit w, which is put for m by a product with w over m
over_variable-other : (m : ℕ) (w : PowerMap) (k : ℕ) → eqb k m ≡ false → power_of w (Var k) ≡ pos 0 → power_of (over_variable m w) (Var k) ≡ pos 0
over_variable-other m w k e z =
    let p = power_of-mul w (inv (atom (Var m))) (Var k) in
    let i = power_of-inv (atom (Var m)) (Var k) in
    let o = power_of-other_atom (Var k) (Var m) e in
    omega (arith, ints, p, i, o, z)

pub index_put : (m : ℕ) (us : List PowerMap) (index : List (List ℕ)) (i : ℕ) (w : PowerMap) →
    IsIndexBut m us index → m < length us → i < length us → VariablesBelow (length us) w → IsTrue (fits (replace (multiply m (over_variable m w)) (get_or us i one))) →
    IsIndexBut m (set us i (replace (multiply m (over_variable m w)) (get_or us i one))) (followed_terms index w.terms i (get_or us i one) (replace (multiply m (over_variable m w)) (get_or us i one)))
index_put m us index i w is inside h below fit =
    let old = get_or us i one in
    let x = over_variable m w in
    let n = length us in
    index_follows_but m us index i (replace (multiply m x) old) w.terms is inside h w.normal (variables_below-from_VariablesBelow n w below)
    (λ k e absent. held_as_before m x old k (over_variable-other m w k e (not_listed w k absent)))
    (replaced_below n (multiply m x) (multiply_stays n m x (over_variable-below n m w inside below)) old (All-get_or (VariablesBelow n) us i one h is.variables)) fit

-- ---- at the end no unit holds m
no_holder : (m a : ℕ) (f : PowerMap → PowerMap) → ((u : PowerMap) → holds m (f u) ≡ false) → (us : List PowerMap) → holders_from m a (map f us) ≡ []
no_holder m a f none [] = refl
no_holder m a f none (u ∷ us) =
    ap (λ b. cond b (a ∷ holders_from m (suc a) (map f us)) (holders_from m (suc a) (map f us))) (none u) ∙ no_holder m (suc a) f none us

not_held_then : (m : ℕ) (w : PowerMap) → power_of w (Var m) ≡ pos 0 → (u : PowerMap) → holds m (replace (multiply m (over_variable m w)) u) ≡ false
not_held_then m w absent u =
    ap (λ z. not (is_zero z)) (power_of-multiply m (over_variable m w) u (Var m)
    ∙ ap (λ z. power_of u (Var m) +ℤ power_of u (Var m) *ℤ z) inverse
    ∙ cancelled (power_of u (Var m)))
  where
    inverse : power_of (over_variable m w) (Var m) ≡ negsuc 0
    inverse =
        power_of-mul w (inv (atom (Var m))) (Var m) ∙ ap (λ z. z +ℤ power_of (inv (atom (Var m))) (Var m)) absent
        ∙ ap (λ z. pos 0 +ℤ z) (power_of-inv (atom (Var m)) (Var m) ∙ ap neg_ℤ (power_of-atom (Var m)))

    cancelled : (a : ℤ) → a +ℤ a *ℤ negsuc 0 ≡ pos 0
    cancelled a = omega (arith, ints)

pub holders-after : (m : ℕ) (w : PowerMap) → power_of w (Var m) ≡ pos 0 → (us : List PowerMap) → holders (map (replace (multiply m (over_variable m w))) us) m ≡ []
holders-after m w absent us = no_holder m 0 (replace (multiply m (over_variable m w))) (not_held_then m w absent) us
