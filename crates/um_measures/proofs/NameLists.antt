-- Names in a list, by tests of their bytes.
use Rattle.std.proofs.Common.{◌≡◌, ℕ, suc, Bool, true, false, ◌||◌, List, [], ◌∷◌, ◌++◌, map, cond, refl, sym, ap, ◌∙◌, length, ◌<◌, arith}
use Rattle.std.specs.Prelude.{Option, Some, None, slice_get, option_map, is_some}
use Rattle.std.specs.Global.{Vec}
use Rattle.std.specs.Str.{bytes_eq}
use Rattle.std.proofs.lemmas.List.{map-append}
use Rattle.std.proofs.lemmas.Slice.Eq.{bytes_eq-Decides}
use Rattle.um_units.specs.PowerMap.{PowerMap}
use Rattle.um_measures.specs.declared.abbreviation.Abbreviation.{Abbreviation}
use Rattle.um_measures.specs.Known.{number_of, one_later, is_among, short_unit, short_names}

-- the bytes of each
abbrev pub texts : List (Vec ℕ) → List (List ℕ)
texts ks = map (λ k. k.items) ks

pub is_among-number : (x : List ℕ) (names : List (List ℕ)) → is_among names x ≡ is_some (number_of names x)
is_among-number x [] = refl
is_among-number x (y ∷ names) = by (bytes_eq x y) (number_of names x) (is_among-number x names) where
  by : (b : Bool) (o : Option ℕ) → is_among names x ≡ is_some o → (b || is_among names x) ≡ is_some (cond b (Some 0) (one_later o))
  by true o e = refl
  by false None e = e
  by false (Some k) e = e

-- an item by the number of its name
abbrev pub unit_at : List Abbreviation → Option ℕ → Option PowerMap
unit_at ss None = None
unit_at ss (Some k) = option_map (λ s. s.unit) (slice_get ss k)

pub short_unit-number : (x : List ℕ) (ss : List Abbreviation) → short_unit ss x ≡ unit_at ss (number_of (short_names ss) x)
short_unit-number x [] = refl
short_unit-number x (s ∷ ss) = by (bytes_eq x s.name) (number_of (short_names ss) x) (short_unit-number x ss) where
  by : (b : Bool) (o : Option ℕ) → short_unit ss x ≡ unit_at ss o → cond b (Some s.unit) (short_unit ss x) ≡ unit_at (s ∷ ss) (cond b (Some 0) (one_later o))
  by true o e = refl
  by false None e = e
  by false (Some k) e = e

pub is_some-short_unit : (x : List ℕ) (ss : List Abbreviation) → is_among (short_names ss) x ≡ is_some (short_unit ss x)
is_some-short_unit x [] = refl
is_some-short_unit x (s ∷ ss) = by (bytes_eq x s.name) (is_some-short_unit x ss) where
  by : (b : Bool) → is_among (short_names ss) x ≡ is_some (short_unit ss x) → (b || is_among (short_names ss) x) ≡ is_some (cond b (Some s.unit) (short_unit ss x))
  by true e = refl
  by false e = e

pub number_of-below : (x : List ℕ) (names : List (List ℕ)) (k : ℕ) → number_of names x ≡ Some k → k < length names
number_of-below x [] k e = absurd cc
number_of-below x (y ∷ names) k e = by (bytes_eq x y) (number_of names x) (number_of-below x names) e where
  by : (b : Bool) (o : Option ℕ) → ((j : ℕ) → o ≡ Some j → j < length names) → cond b (Some 0) (one_later o) ≡ Some k → k < suc (length names)
  by true o h e = let z : 0 ≡ k = cc e in omega arith
  by false None h e = absurd cc
  by false (Some j) h e = let z : suc j ≡ k = cc e in omega (arith, h j refl)

-- a name that isn't there is added
pub short_names-added : (x : List ℕ) (names : List (List ℕ)) (ss : List Abbreviation) (u : PowerMap) → names ≡ short_names ss → is_among names x ≡ false
    → cond (is_among names x) names (names ++ x ∷ []) ≡ short_names (ss ++ record { name = x; unit = u } ∷ [])
short_names-added x names ss u e absent =
    rw absent (ap (λ (ns : List (List ℕ)). ns ++ x ∷ []) e ∙ sym (map-append (λ s. s.name) ss (record { name = x; unit = u } ∷ [])))

abbrev pub or_else : {A : Type 0} → Option A → Option A → Option A
or_else None other = other
or_else (Some x) other = Some x

abbrev pub if_named : {A : Type 0} → List ℕ → List ℕ → A → Option A
if_named y x a = cond (bytes_eq y x) (Some a) None

-- what a name stands for, with one more behind
pub short_unit-append : (y : List ℕ) (ss : List Abbreviation) (e : Abbreviation) → short_unit (ss ++ e ∷ []) y ≡ or_else (short_unit ss y) (if_named y e.name e.unit)
short_unit-append y [] e = refl
short_unit-append y (s ∷ ss) e = by (bytes_eq y s.name) (short_unit-append y ss e) where
  by : (b : Bool) → short_unit (ss ++ e ∷ []) y ≡ or_else (short_unit ss y) (if_named y e.name e.unit)
      → cond b (Some s.unit) (short_unit (ss ++ e ∷ []) y) ≡ or_else (cond b (Some s.unit) (short_unit ss y)) (if_named y e.name e.unit)
  by true h = refl
  by false h = h

pub number_of-append : (y : List ℕ) (names : List (List ℕ)) (x : List ℕ) → number_of (names ++ x ∷ []) y ≡ or_else (number_of names y) (if_named y x (length names))
number_of-append y [] x = refl
number_of-append y (z ∷ names) x = by (bytes_eq y z) (number_of names y) (bytes_eq y x) refl (number_of-append y names x) where
  by : (b : Bool) (o : Option ℕ) (c : Bool) → bytes_eq y x ≡ c → number_of (names ++ x ∷ []) y ≡ or_else o (cond (bytes_eq y x) (Some (length names)) None)
      → cond b (Some 0) (one_later (number_of (names ++ x ∷ []) y)) ≡ or_else (cond b (Some 0) (one_later o)) (cond (bytes_eq y x) (Some (suc (length names))) None)
  by true o c e h = refl
  by false None true e h = rw h (rw e refl)
  by false None false e h = rw h (rw e refl)
  by false (Some k) c e h = rw h refl

-- a name that is known already hides what stands behind
pub short_unit-hidden : (ss : List Abbreviation) (e : Abbreviation) → is_among (short_names ss) e.name ≡ true → (y : List ℕ) → short_unit ss y ≡ short_unit (ss ++ e ∷ []) y
short_unit-hidden ss e known y = by (short_unit ss y) (bytes_eq y e.name) refl refl ∙ sym (short_unit-append y ss e) where
  by : (o : Option PowerMap) (b : Bool) → short_unit ss y ≡ o → bytes_eq y e.name ≡ b → o ≡ or_else o (cond b (Some e.unit) None)
  by (Some u) b f g = refl
  by None false f g = refl
  by None true f g =
      let same : y ≡ e.name = (bytes_eq-Decides y e.name).0 g in
      let absent : is_some (short_unit ss e.name) ≡ false = ap (λ (z : List ℕ). is_some (short_unit ss z)) (sym same) ∙ ap is_some f in
      let bad : true ≡ false = sym known ∙ is_some-short_unit e.name ss ∙ absent in
      absurd cc
