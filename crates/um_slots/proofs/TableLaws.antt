-- Slots that are given one by one: one more hole, one more name, and keys behind keys.
use Rattle.std.proofs.Common.{◌≡◌, ◌≢◌, ℕ, zero, suc, ◌+◌, ◌-◌, ◌<◌, ◌≤◌, ◌⊎◌, inl, inr, false, ◌||◌, cond, eqb, ltb, List, [], ◌∷◌, ◌++◌, length, get_or, take, drop, map, take-append-drop, Some, None, Ok, Err, refl, sym, ap, ◌∙◌, subst, arith}
use Rattle.std.specs.Prelude.{IsTrue, Result, is_some}
use Rattle.std.proofs.lemmas.Bool.Decides.{nat_tests}
use Rattle.std.proofs.lemmas.Bool.{eqb-true, eq-eqb, false_from_ne_true}
use Rattle.std.specs.List.{flat_map}
use Rattle.std.proofs.lemmas.List.{append-nil, length-append, map-append, take_more}
use Rattle.std.proofs.lemmas.Grind.{flat_map-append}
use Rattle.std.proofs.lemmas.List.Folds.{list_any-append}
use Rattle.um_units.specs.declared.Atom.TheVariants.{Var}
use Rattle.um_units.specs.declared.Term.{Term}
use Rattle.um_units.specs.PowerMap.{PowerMap, atom, nth}
use Rattle.um_elim.proofs.Cases.{on_test}
use Rattle.um_slots.specs.declared.stop.SlotStop.{SlotStop}
use Rattle.um_slots.specs.declared.stop.SlotStop.TheVariants as stop
use Rattle.um_slots.specs.declared.slots.Slots.{Slots}
use Rattle.um_slots.specs.Keys.{Key, hole, name, name_keys}
use Rattle.um_slots.specs.Slots.{same_key, has_slot, place}
use Rattle.um_slots.specs.Slotting.{with_keys, found_slot, IsTable, StopsSlots, HaveSlots}
use Rattle.um_slots.proofs.KeyOrder.{same_key-own, with_more, length-with_more, place-append, place-last}

-- ---- keys behind keys
pub slots_both : (a b : List Key) (old mid new : Slots) (x : Unit {0}) (r : Result (Unit {0}) SlotStop) → HaveSlots a old mid (Ok x) → HaveSlots b mid new r → HaveSlots (a ++ b) old new r
slots_both a b old mid new x (Ok y) h k order t = subst (λ o. IsTable o new) (sym (with_more order a b)) (k (with_keys order a) (h order t))
slots_both a b old mid new x (Err e) h k order t = subst (λ o. StopsSlots o e) (sym (with_more order a b)) (k (with_keys order a) (h order t))

pub slots_stop : (a b : List Key) (old new : Slots) (e : SlotStop) → HaveSlots a old new (Err e) → HaveSlots (a ++ b) old new (Err e)
slots_stop a b old new stop.TooMany h order t = let more = length-with_more order a b in let low : 2000 < length (with_keys order a) = h order t in omega (arith, more, low)
slots_stop a b old new stop.NoMemory h order t = tt

-- ---- one key more
module _ (order : List Key) (x : Key) (fresh : has_slot order x ≡ false) where
  with_fresh : with_keys order (x ∷ []) ≡ order ++ x ∷ []
  with_fresh = ap (λ b. cond b order (order ++ x ∷ [])) fresh

  has_more : (k : Key) → has_slot (order ++ x ∷ []) k ≡ (has_slot order k || (same_key k x || false))
  has_more k = list_any-append (same_key k) order (x ∷ [])

  had : (k : Key) → IsTrue (has_slot order k) → IsTrue (has_slot (order ++ x ∷ []) k)
  had k h = has_more k ∙ ap (λ b. b || (same_key k x || false)) h

  has_new : IsTrue (has_slot (order ++ x ∷ []) x)
  has_new = has_more x ∙ ap (λ b. b || (same_key x x || false)) fresh ∙ ap (λ b. b || false) (same_key-own x)

  found_other : (k : Key) → same_key k x ≡ false → found_slot (order ++ x ∷ []) k ≡ found_slot order k
  found_other k other = on_test (has_slot order k)
      (λ h. ap (λ b. cond b (Some (place (order ++ x ∷ []) k)) None) (had k h) ∙ ap Some (place-append order (x ∷ []) k h) ∙ sym (ap (λ b. cond b (Some (place order k)) None) h))
      (λ h. ap (λ b. cond b (Some (place (order ++ x ∷ []) k)) None) (has_more k ∙ ap (λ b. b || (same_key k x || false)) h ∙ ap (λ b. b || false) other) ∙ sym (ap (λ b. cond b (Some (place order k)) None) h))

  found_new : found_slot (order ++ x ∷ []) x ≡ Some (length order)
  found_new = ap (λ b. cond b (Some (place (order ++ x ∷ []) x)) None) has_new ∙ ap Some (place-last order x fresh)

  length_more : length (order ++ x ∷ []) ≡ length order + 1
  length_more = length-append order (x ∷ [])

-- the first of a list with one item behind it, and that item
front_at : (us : List PowerMap) (u d : PowerMap) (k : ℕ) → k < length us → get_or (us ++ u ∷ []) k d ≡ get_or us k d
front_at [] u d k h = absurd (omega (arith, h))
front_at (v ∷ us) u d zero h = refl
front_at (v ∷ us) u d (suc k) h = front_at us u d k (omega (arith, h))

last_at : (us : List PowerMap) (u d : PowerMap) → get_or (us ++ u ∷ []) (length us) d ≡ u
last_at [] u d = refl
last_at (v ∷ us) u d = last_at us u d

other_hole : (j k : ℕ) → j ≢ k → same_key (hole j) (hole k) ≡ false
other_hole j k h = false_from_ne_true (eqb j k) (λ e. h (eqb-true j k e))

other_name : (j k : ℕ) → j ≢ k → same_key (name j) (name k) ≡ false
other_name j k h = false_from_ne_true (eqb j k) (λ e. h (eqb-true j k e))

-- ---- one hole more
module _ (order : List Key) (old new : Slots) (t : IsTable order old) where
  abbrev n : ℕ
  n = length old.holes.items

  fresh_hole : has_slot order (hole n) ≡ false
  fresh_hole = t.later n (omega arith)

  pub hole_refused : 2000 ≤ old.count → 2000 < length (with_keys order (hole n ∷ []))
  hole_refused full =
      let more = ap length (with_fresh order (hole n) fresh_hole) ∙ length_more order (hole n) fresh_hole in
      let count = t.count in
      omega (arith, more, count, full)

  pub hole_added : old.count < 2000 → new.count ≡ old.count + 1 → new.holes.items ≡ old.holes.items ++ atom (Var old.count) ∷ [] → new.names.items ≡ old.names.items → IsTable (with_keys order (hole n ∷ [])) new
  hole_added low count holes names =
      let grown = with_fresh order (hole n) fresh_hole in
      let more = length_more order (hole n) fresh_hole in
      let was = t.count in
      let long : length new.holes.items ≡ n + 1 = ap length holes ∙ length-append old.holes.items (atom (Var old.count) ∷ []) in
      subst (λ o. IsTable o new) (sym grown) (record {
        count = omega (arith, more, was, count);
        few = omega (arith, more, was, low);
        holes = λ k l. at k (omega (arith, l, long));
        later = λ k l. (
            let absent = t.later k (omega (arith, l, long)) in
            let other = other_hole k n (λ e. omega (arith, l, long, e)) in
            has_more order (hole n) fresh_hole (hole k) ∙ ap (λ b. b || (same_key (hole k) (hole n) || false)) absent ∙ ap (λ b. b || false) other);
        names = λ k. ap (λ ns. get_or ns k None) names ∙ t.names k ∙ sym (found_other order (hole n) fresh_hole (name k) refl);
      })
    where
      at : (k : ℕ) → k < n + 1 → IsTrue (has_slot (order ++ hole n ∷ []) (hole k)) × (nth new.holes.items k ≡ atom (Var (place (order ++ hole n ∷ []) (hole k))))
      at k l = elim (cases k l) [
        | inl low ↦ (
          had order (hole n) fresh_hole (hole k) (t.holes k low).0,
          ap (λ us. nth us k) holes ∙ front_at old.holes.items (atom (Var old.count)) (atom (Var k)) k low ∙ (t.holes k low).1 ∙ ap (λ p. atom (Var p)) (sym (place-append order (hole n ∷ []) (hole k) (t.holes k low).0)),
        )
        | inr same ↦ subst (λ (j : ℕ). IsTrue (has_slot (order ++ hole n ∷ []) (hole j)) × (nth new.holes.items j ≡ atom (Var (place (order ++ hole n ∷ []) (hole j))))) same (
          has_new order (hole n) fresh_hole,
          ap (λ us. nth us n) holes ∙ last_at old.holes.items (atom (Var old.count)) (atom (Var n)) ∙ ap (λ p. atom (Var p)) (t.count ∙ sym (place-last order (hole n) fresh_hole)),
        )
      ]
        where
          cases : (j : ℕ) → j < n + 1 → (j < n) ⊎ (n ≡ j)
          cases j l = on_test (ltb j n) (λ e. let low : j < n = grind (arith, nat_tests) in inl low) (λ e. let past : n ≤ j = grind (arith, nat_tests) in inr (omega (arith, past, l)))

  -- ---- one name more, or one that has a slot already
  module _ (k : ℕ) where
    pub name_known : IsTrue (has_slot order (name k)) → IsTable (with_keys order (name k ∷ [])) old
    name_known h = subst (λ o. IsTable o old) (sym (ap (λ b. cond b order (order ++ name k ∷ [])) h)) t

    pub name_refused : has_slot order (name k) ≡ false → 2000 ≤ old.count → 2000 < length (with_keys order (name k ∷ []))
    name_refused fresh full =
        let more = ap length (with_fresh order (name k) fresh) ∙ length_more order (name k) fresh in
        let count = t.count in
        omega (arith, more, count, full)

    pub name_added : has_slot order (name k) ≡ false → old.count < 2000 → new.count ≡ old.count + 1 → new.holes.items ≡ old.holes.items → get_or new.names.items k None ≡ Some old.count →
        ((j : ℕ) → j ≢ k → get_or new.names.items j None ≡ get_or old.names.items j None) → IsTable (with_keys order (name k ∷ [])) new
    name_added fresh low count holes own others =
        let grown = with_fresh order (name k) fresh in
        let more = length_more order (name k) fresh in
        let was = t.count in
        let long : length new.holes.items ≡ n = ap length holes in
        subst (λ o. IsTable o new) (sym grown) (record {
          count = omega (arith, more, was, count);
          few = omega (arith, more, was, low);
          holes = λ j l. (
              let below : j < n = omega (arith, l, long) in (
                had order (name k) fresh (hole j) (t.holes j below).0,
                ap (λ us. nth us j) holes ∙ (t.holes j below).1 ∙ ap (λ p. atom (Var p)) (sym (place-append order (name k ∷ []) (hole j) (t.holes j below).0)),
              ));
          later = λ j l. (let absent = t.later j (omega (arith, l, long)) in has_more order (name k) fresh (hole j) ∙ ap (λ b. b || false) absent);
          names = λ j. on_test (eqb j k)
              (λ e. subst (λ (i : ℕ). get_or new.names.items i None ≡ found_slot (order ++ name k ∷ []) (name i)) (sym (eqb-true j k e)) (own ∙ ap Some t.count ∙ sym (found_new order (name k) fresh)))
              (λ e. (let apart : j ≢ k = λ same. absurd (cc (sym e ∙ eq-eqb j k same)) in others j apart ∙ t.names j ∙ sym (found_other order (name k) fresh (name j) e)));
        })

    -- what the table says of a name
    pub known_from : IsTrue (is_some (get_or old.names.items k None)) → IsTrue (has_slot order (name k))
    known_from h = on_test (has_slot order (name k)) (λ e. e)
        (λ e. absurd (cc (sym h ∙ ap is_some (t.names k) ∙ ap (λ b. is_some (cond b (Some (place order (name k))) None)) e)))

    pub fresh_from : is_some (get_or old.names.items k None) ≡ false → has_slot order (name k) ≡ false
    fresh_from h = on_test (has_slot order (name k))
        (λ e. absurd (cc (sym h ∙ ap is_some (t.names k) ∙ ap (λ b. is_some (cond b (Some (place order (name k))) None)) e)))
        (λ e. e)

-- ---- the names of some terms, one term after another
module _ (vars : Term → List ℕ) (terms : List Term) (i : ℕ) (d : Term) (h : i < length terms) (old now : Slots) (was : HaveSlots (map name (flat_map vars (take i terms))) old now (Ok tt)) (new : Slots) where
  abbrev term : Term
  term = get_or terms i d

  named_more : map name (flat_map vars (take (i + 1) terms)) ≡ map name (flat_map vars (take i terms)) ++ map name (vars term)
  named_more =
      ap (λ ts. map name (flat_map vars ts)) (take_more terms i d h) ∙ ap (map name) (flat_map-append vars (take i terms) (term ∷ []) ∙ ap (λ l. flat_map vars (take i terms) ++ l) (append-nil (vars term)))
      ∙ map-append name (flat_map vars (take i terms)) (vars term)

  named_all : map name (flat_map vars terms) ≡ map name (flat_map vars (take (i + 1) terms)) ++ map name (flat_map vars (drop (i + 1) terms))
  named_all =
      ap (λ ts. map name (flat_map vars ts)) (sym (take-append-drop (i + 1) terms)) ∙ ap (map name) (flat_map-append vars (take (i + 1) terms) (drop (i + 1) terms))
      ∙ map-append name (flat_map vars (take (i + 1) terms)) (flat_map vars (drop (i + 1) terms))

  pub names_next : HaveSlots (map name (vars term)) now new (Ok tt) → HaveSlots (map name (flat_map vars (take (i + 1) terms))) old new (Ok tt)
  names_next k = subst (λ ks. HaveSlots ks old new (Ok tt)) (sym named_more) (slots_both (map name (flat_map vars (take i terms))) (map name (vars term)) old now new tt (Ok tt) was k)

  pub names_stop : (e : SlotStop) → HaveSlots (map name (vars term)) now new (Err e) → HaveSlots (map name (flat_map vars terms)) old new (Err e)
  names_stop e k =
      subst (λ ks. HaveSlots ks old new (Err e)) (sym named_all)
      (slots_stop (map name (flat_map vars (take (i + 1) terms))) (map name (flat_map vars (drop (i + 1) terms))) old new e
      (subst (λ ks. HaveSlots ks old new (Err e)) (sym named_more) (slots_both (map name (flat_map vars (take i terms))) (map name (vars term)) old now new tt (Err e) was k)))

-- ---- the first names, one after another
names_split : (m n k : ℕ) → name_keys m (n + k) ≡ name_keys m n ++ name_keys (m + n) k
names_split m zero k = (let none : 0 + k ≡ k = omega arith in ap (name_keys m) none) ∙ (let same : m ≡ m + 0 = omega arith in ap (λ j. name_keys j k) same)
names_split m (suc n) k =
    (let one_more : suc n + k ≡ suc (n + k) = omega arith in ap (name_keys m) one_more)
    ∙ ap (λ ks. name m ∷ ks) (names_split (suc m) n k ∙ (let same : suc m + n ≡ m + suc n = omega arith in ap (λ j. name_keys (suc m) n ++ name_keys j k) same))

first_names : (n k : ℕ) → name_keys 0 (n + k) ≡ name_keys 0 n ++ name_keys n k
first_names n k = names_split 0 n k ∙ (let same : 0 + n ≡ n = omega arith in ap (λ j. name_keys 0 n ++ name_keys j k) same)

module _ (k : ℕ) (old now : Slots) (was : HaveSlots (name_keys 0 k) old now (Ok tt)) (new : Slots) where
  pub first_names_next : HaveSlots (name k ∷ []) now new (Ok tt) → HaveSlots (name_keys 0 (k + 1)) old new (Ok tt)
  first_names_next next = subst (λ ks. HaveSlots ks old new (Ok tt)) (sym (first_names k 1)) (slots_both (name_keys 0 k) (name k ∷ []) old now new tt (Ok tt) was next)

  pub first_names_stop : (many : ℕ) → k < many → (e : SlotStop) → HaveSlots (name k ∷ []) now new (Err e) → HaveSlots (name_keys 0 many) old new (Err e)
  first_names_stop many low e next =
      let whole : many ≡ (k + 1) + (many - (k + 1)) = omega (arith, low) in
      subst (λ ks. HaveSlots ks old new (Err e)) (sym (ap (name_keys 0) whole ∙ first_names (k + 1) (many - (k + 1))))
      (slots_stop (name_keys 0 (k + 1)) (name_keys (k + 1) (many - (k + 1))) old new e
      (subst (λ ks. HaveSlots ks old new (Err e)) (sym (first_names k 1)) (slots_both (name_keys 0 k) (name k ∷ []) old now new tt (Err e) was next)))

-- ---- slots of four stretches of keys
pub slots_all : (a b c d : List Key) (s t u v w : Slots) (x y z : Unit {0}) (r : Result (Unit {0}) SlotStop) → HaveSlots a s t (Ok x) → HaveSlots b t u (Ok y) → HaveSlots c u v (Ok z) → HaveSlots d v w r → HaveSlots (a ++ (b ++ (c ++ d))) s w r
slots_all a b c d s t u v w x y z r h k l m = slots_both a (b ++ (c ++ d)) s t w x r h (slots_both b (c ++ d) t u w y r k (slots_both c d u v w z r l m))
