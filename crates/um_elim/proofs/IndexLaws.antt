-- An index that followed a change of one slot's unit names again the slots whose units hold each variable.
use Rattle.std.proofs.Common.{◌≡◌, ℕ, zero, suc, ◌<◌, Bool, false, cond, eqb, ◌||◌, List, [], ◌∷◌, ◌++◌, length, get_or, set, refl, sym, ap, ◌∙◌, subst, arith}
use Rattle.std.specs.Prelude.{IsTrue, All}
use Rattle.std.proofs.lemmas.Bool.{and_parts, eqb-true, eq-eqb, ltb-true}
use Rattle.std.proofs.lemmas.List.{get_or-set_same, get_or-set_other, length-set}
use Rattle.std.proofs.lemmas.List.Elements.{All-set}
use Rattle.um_units.specs.declared.Atom.{Atom}
use Rattle.um_units.specs.declared.Atom.TheVariants.{Base, Var}
use Rattle.um_units.specs.declared.Term.{Term}
use Rattle.um_units.specs.Atoms.{is_before, same_atom}
use Rattle.um_units.specs.Terms.{is_before_all, is_normal}
use Rattle.um_units.specs.NormalForm.{head_before_all, tail_normal}
use Rattle.um_units.specs.PowerMap.{PowerMap, one}
use Rattle.um_units.specs.Range.{fits}
use Rattle.um_units.specs.Variables.{VariablesBelow, atom_below, variables_below}
use Rattle.um_units.proofs.Equality.{before-not_same}
use Rattle.um_elim.specs.Index.{holds, holders, followed, followed_at, followed_terms, IsIndex}
use Rattle.um_elim.proofs.Cases.{on_test}
use Rattle.um_elim.proofs.FirstOccurrences.{member}
use Rattle.um_elim.proofs.RenamedUnits.{term_variables, member-atom}
use Rattle.um_elim.proofs.Holders.{holders_set, holders_set_same}

-- a variable before all terms doesn't stand in them
not_behind : (k : ℕ) (ts : List Term) → IsTrue (is_before_all (Var k) ts) → member k (term_variables ts) ≡ false
not_behind k [] h = refl
not_behind k (t ∷ ts) h =
    let parts = and_parts (is_before (Var k) t.atom) (is_before_all (Var k) ts) h in
    member-atom t.atom k (term_variables ts) ∙ ap (λ b. b || member k (term_variables ts)) (before-not_same (Var k) t.atom parts.0) ∙ not_behind k ts parts.1

module _ (s : ℕ) (old new : PowerMap) where
  pub length-followed_at : (index : List (List ℕ)) (x : Atom) → length (followed_at index x s old new) ≡ length index
  length-followed_at index (Base n) = refl
  length-followed_at index (Var k) = length-set index k (followed (get_or index k []) s (holds k old) (holds k new))

  pub length-followed_terms : (ts : List Term) (index : List (List ℕ)) → length (followed_terms index ts s old new) ≡ length index
  length-followed_terms [] index = refl
  length-followed_terms (t ∷ ts) index = length-followed_terms ts (followed_at index t.atom s old new) ∙ length-followed_at index t.atom

  pub followed_terms-append : (ts us : List Term) (index : List (List ℕ)) → followed_terms index (ts ++ us) s old new ≡ followed_terms (followed_terms index ts s old new) us s old new
  followed_terms-append [] us index = refl
  followed_terms-append (t ∷ ts) us index = followed_terms-append ts us (followed_at index t.atom s old new)

  -- the list of each variable that stands in the terms has followed, and no other
  abbrev pub listed : List (List ℕ) → ℕ → Bool → List ℕ
  listed index k b = cond b (followed (get_or index k []) s (holds k old) (holds k new)) (get_or index k [])

  module _ (t : Term) (ts : List Term) (index : List (List ℕ)) (normal : IsTrue (is_normal (t ∷ ts))) (k : ℕ)
      (rest : get_or (followed_terms (followed_at index t.atom s old new) ts s old new) k [] ≡ listed (followed_at index t.atom s old new) k (member k (term_variables ts))) where
    at_atom : (x : Atom) → t.atom ≡ x → IsTrue (atom_below (length index) x) → listed (followed_at index x s old new) k (member k (term_variables ts)) ≡ listed index k (same_atom (Var k) x || member k (term_variables ts))
    at_atom (Base n) is below = refl
    at_atom (Var m) is below =
        let x = followed (get_or index m []) s (holds m old) (holds m new) in
        on_test (eqb k m)
        (λ e. let q : k ≡ m = eqb-true k m e in
        let absent : member k (term_variables ts) ≡ false = not_behind k ts (subst (λ y. IsTrue (is_before_all y ts)) (is ∙ ap Var (sym q)) (head_before_all t ts normal)) in
        let low : m < length index = ltb-true m (length index) below in
        let got : get_or (set index m x) k [] ≡ x = ap (λ i. get_or (set index m x) i []) q ∙ get_or-set_same index m x [] low in
        ap (listed (set index m x) k) absent ∙ got ∙ ap (λ i. followed (get_or index i []) s (holds i old) (holds i new)) (sym q) ∙ sym (ap (λ b. listed index k (b || member k (term_variables ts))) e))
        (λ e. let other : k ≡ m → ⊥ = λ q. let y = eq-eqb k m q in cc in
        let got : get_or (set index m x) k [] ≡ get_or index k [] = get_or-set_other index m k x [] other in
        ap (λ l. cond (member k (term_variables ts)) (followed l s (holds k old) (holds k new)) l) got ∙ sym (ap (λ b. listed index k (b || member k (term_variables ts))) e))

    at_term : IsTrue (atom_below (length index) t.atom) → get_or (followed_terms (followed_at index t.atom s old new) ts s old new) k [] ≡ listed index k (member k (term_variables (t ∷ ts)))
    at_term below = rest ∙ at_atom t.atom refl below ∙ ap (listed index k) (sym (member-atom t.atom k (term_variables ts)))

  pub at_terms : (ts : List Term) (index : List (List ℕ)) → IsTrue (is_normal ts) → IsTrue (variables_below (length index) ts) → (k : ℕ) → get_or (followed_terms index ts s old new) k [] ≡ listed index k (member k (term_variables ts))
  at_terms [] index normal below k = refl
  at_terms (t ∷ ts) index normal below k =
      let parts = and_parts (atom_below (length index) t.atom) (variables_below (length index) ts) below in
      let more = subst (λ n. IsTrue (variables_below n ts)) (sym (length-followed_at index t.atom)) parts.1 in
      at_term t ts index normal k (at_terms ts (followed_at index t.atom s old new) (tail_normal t ts normal) more k) parts.0

-- slot i gets the unit new: the list of a variable that names its holders follows, where the variable stands in the
-- terms or stays as it was
pub list_follows : (us : List PowerMap) (index : List (List ℕ)) (i : ℕ) (new : PowerMap) (ts : List Term) →
    length index ≡ length us → i < length us → IsTrue (is_normal ts) → IsTrue (variables_below (length us) ts) →
    (k : ℕ) → (member k (term_variables ts) ≡ false → holds k new ≡ holds k (get_or us i one)) → get_or index k [] ≡ holders us k →
    get_or (followed_terms index ts i (get_or us i one) new) k [] ≡ holders (set us i new) k
list_follows us index i new ts slots h normal below k same is =
    let old = get_or us i one in
    at_terms i old new ts index normal (subst (λ n. IsTrue (variables_below n ts)) (sym slots) below) k
    ∙ on_test (member k (term_variables ts))
    (λ e. ap (listed i old new index k) e ∙ ap (λ xs. followed xs i (holds k old) (holds k new)) is ∙ sym (holders_set k us i new h))
    (λ e. ap (listed i old new index k) e ∙ is ∙ sym (holders_set_same k 0 us i new h (same e)))

-- slot i gets the unit new, which holds the same variables but perhaps those that stand in the terms
pub index_follows : (us : List PowerMap) (index : List (List ℕ)) (i : ℕ) (new : PowerMap) (ts : List Term) →
    IsIndex us index → i < length us → IsTrue (is_normal ts) → IsTrue (variables_below (length us) ts) →
    ((k : ℕ) → member k (term_variables ts) ≡ false → holds k new ≡ holds k (get_or us i one)) →
    VariablesBelow (length us) new → IsTrue (fits new) →
    IsIndex (set us i new) (followed_terms index ts i (get_or us i one) new)
index_follows us index i new ts is h normal below same low fit =
    let old = get_or us i one in
    record {
      slots = length-followed_terms i old new ts index ∙ is.slots ∙ sym (length-set us i new);
      exact = λ k l. list_follows us index i new ts is.slots h normal below k (same k) (is.exact k (subst (λ n. k < n) (length-followed_terms i old new ts index) l));
      variables = subst (λ n. All (VariablesBelow n) (set us i new)) (sym (length-set us i new)) (All-set (VariablesBelow (length us)) us i new low is.variables);
      fit = All-set (λ u. IsTrue (fits u)) us i new fit is.fit;
    }

pub term_below : (n : ℕ) (ts : List Term) (i : ℕ) (d : Term) → i < length ts → IsTrue (variables_below n ts) → IsTrue (atom_below n (get_or ts i d).atom)
term_below n [] i d h below = absurd (omega (arith, h))
term_below n (t ∷ ts) zero d h below = (and_parts (atom_below n t.atom) (variables_below n ts) below).0
term_below n (t ∷ ts) (suc i) d h below = term_below n ts i d (omega (arith, h)) (and_parts (atom_below n t.atom) (variables_below n ts) below).1
