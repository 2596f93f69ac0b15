-- Each key has a slot of its own, so that any units for the holes and the named variables come from units for the slots.
use Rattle.std.proofs.Common.{◌≡◌, ℕ, zero, suc, ◌+◌, ◌-◌, ◌*◌, ◌<◌, true, false, cond, ltb, ◌||◌, List, [], ◌∷◌, length, get_or, refl, ap, ◌∙◌, arith}
use Rattle.std.specs.Prelude.{IsTrue}
use Rattle.std.proofs.lemmas.Bool.Decides.{nat_tests}
use Rattle.um_units.specs.declared.Atom.TheVariants.{Var}
use Rattle.um_units.specs.PowerMap.{PowerMap, atom, replace, nth}
use Rattle.um_units.specs.Variables.{VariablesBelow}
use Rattle.um_units.proofs.Replacement.{replace-variable}
use Rattle.um_units.proofs.Variables.{VariablesBelow-variable, VariablesBelow-more}
use Rattle.um_elim.proofs.Cases.{on_test}
use Rattle.um_rows.specs.Derivation.{first_units}
use Rattle.um_slots.specs.Keys.{Key, hole, name}
use Rattle.um_slots.specs.Slots.{same_key, slot_order, has_slot, place, own_number, slot, slot_unit}
use Rattle.um_slots.proofs.KeyOrder.{same_key-own, has-order, place-low, at-place}
use Rattle.um_rows.proofs.Below.{KeysBelow}

-- ---- the key of a slot
abbrev next : Key → Key
next (hole k) = hole (suc k)
next (name k) = name (suc k)

-- the key that has this number of its own
abbrev numbered_key : ℕ → Key
numbered_key zero = hole 0
numbered_key (suc zero) = name 0
numbered_key (suc (suc n)) = next (numbered_key n)

numbered_own : (k : Key) → numbered_key (own_number k) ≡ k
numbered_own (hole zero) = refl
numbered_own (hole (suc k)) = let e : suc k * 2 ≡ suc (suc (k * 2)) = omega arith in ap numbered_key e ∙ ap next (numbered_own (hole k))
numbered_own (name zero) = refl
numbered_own (name (suc k)) = let e : suc k * 2 + 1 ≡ suc (suc (k * 2 + 1)) = omega arith in ap numbered_key e ∙ ap next (numbered_own (name k))

-- the key whose slot is j
abbrev key_at : List Key → ℕ → Key
key_at order j = cond (ltb j (length order)) (get_or order j (hole 0)) (numbered_key (j - length order))

key_at-slot : (order : List Key) (k : Key) → key_at order (slot order k) ≡ k
key_at-slot order k =
    let n = own_number k in
    on_test (has_slot order k)
    (λ e.
    let is : slot order k ≡ place order k = ap (λ b. cond b (place order k) (length order + n)) e in
    let low = place-low order k e in
    let test : ltb (place order k) (length order) ≡ true = grind (arith, nat_tests) in
    ap (key_at order) is ∙ ap (λ b. cond b (get_or order (place order k) (hole 0)) (numbered_key (place order k - length order))) test ∙ at-place order k (hole 0) e)
    (λ e.
    let is : slot order k ≡ length order + n = ap (λ b. cond b (place order k) (length order + n)) e in
    let test : ltb (length order + n) (length order) ≡ false = grind (arith, nat_tests) in
    let back : (length order + n) - length order ≡ n = omega arith in
    ap (key_at order) is ∙ ap (λ b. cond b (get_or order (length order + n) (hole 0)) (numbered_key ((length order + n) - length order))) test ∙ ap numbered_key back ∙ numbered_own k)

-- ---- any units of the keys
abbrev value : (ℕ → PowerMap) → (ℕ → PowerMap) → Key → PowerMap
value f choice (hole k) = f k
value f choice (name k) = choice k

-- units for the slots that give each hole k the unit f k, and each named variable k the unit choice k
abbrev pub slot_values : List Key → (ℕ → PowerMap) → (ℕ → PowerMap) → ℕ → PowerMap
slot_values order f choice j = value f choice (key_at order j)

pub hole_value : (order : List Key) (f choice : ℕ → PowerMap) (k : ℕ) → replace (slot_values order f choice) (slot_unit order (hole k)) ≡ f k
hole_value order f choice k = replace-variable (slot_values order f choice) (slot order (hole k)) ∙ ap (value f choice) (key_at-slot order (hole k))

pub name_value : (order : List Key) (f choice : ℕ → PowerMap) (k : ℕ) → replace (slot_values order f choice) (slot_unit order (name k)) ≡ choice k
name_value order f choice k = replace-variable (slot_values order f choice) (slot order (name k)) ∙ ap (value f choice) (key_at-slot order (name k))

-- ---- the keys that occur have slots below the count
variable_below : (n k : ℕ) → k < n → VariablesBelow n (atom (Var k))
variable_below n k l = VariablesBelow-more (k + 1) n (atom (Var k)) (omega (arith, l)) (VariablesBelow-variable k)

slot_below : (order : List Key) (k : Key) → IsTrue (has_slot order k) → VariablesBelow (length order) (slot_unit order k)
slot_below order k e =
    let is : slot order k ≡ place order k = ap (λ b. cond b (place order k) (length order + own_number k)) e in
    let low = place-low order k e in
    variable_below (length order) (slot order k) (omega (arith, is, low))

pub here : (k : Key) (ks : List Key) → IsTrue (has_slot (k ∷ ks) k)
here k ks = ap (λ b. b || has_slot ks k) (same_key-own k)

pub behind : (k j : Key) (ks : List Key) → IsTrue (has_slot ks k) → IsTrue (has_slot (j ∷ ks) k)
behind k j ks h = on_test (same_key k j) (λ e. ap (λ b. b || has_slot ks k) e) (λ e. ap (λ b. b || has_slot ks k) e ∙ h)

keys_below_in : (order : List Key) (ks : List Key) → ((k : Key) → IsTrue (has_slot ks k) → IsTrue (has_slot order k)) → KeysBelow (length order) (λ k. slot_unit order (hole k)) (λ k. slot_unit order (name k)) ks
keys_below_in order [] h = tt
keys_below_in order (hole k ∷ ks) h = (slot_below order (hole k) (h (hole k) (here (hole k) ks)), keys_below_in order ks (λ j m. h j (behind j (hole k) ks m)))
keys_below_in order (name k ∷ ks) h = (slot_below order (name k) (h (name k) (here (name k) ks)), keys_below_in order ks (λ j m. h j (behind j (name k) ks m)))

pub keys_below : (ks : List Key) → KeysBelow (length (slot_order ks)) (λ k. slot_unit (slot_order ks) (hole k)) (λ k. slot_unit (slot_order ks) (name k)) ks
keys_below ks = keys_below_in (slot_order ks) ks (λ k m. has-order k ks ∙ m)

-- ---- the list of the first units
pub length-first : (n : ℕ) (v : ℕ → PowerMap) → length (first_units n v) ≡ n
length-first zero v = refl
length-first (suc n) v = ap suc (length-first n (λ k. v (suc k)))

first_at : (n : ℕ) (v : ℕ → PowerMap) (k : ℕ) (d : PowerMap) → k < n → get_or (first_units n v) k d ≡ v k
first_at zero v k d h = absurd (omega arith)
first_at (suc n) v zero d h = refl
first_at (suc n) v (suc k) d h = first_at n (λ k. v (suc k)) k d (omega arith)

pub nth-first : (n : ℕ) (v : ℕ → PowerMap) (k : ℕ) → k < n → nth (first_units n v) k ≡ v k
nth-first n v k h = first_at n v k (atom (Var k)) h
