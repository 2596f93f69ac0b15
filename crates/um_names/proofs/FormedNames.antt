-- Names that are taken once in their space.
use Rattle.std.proofs.Common.{◌≡◌, ℕ, zero, suc, Bool, true, false, ◌||◌, List, [], ◌∷◌, ◌++◌, refl, sym, ap, subst, ◌∙◌}
use Rattle.std.specs.Prelude.{Some, slice_get}
use Rattle.std.specs.Str.{bytes_eq}
use Rattle.std.proofs.lemmas.Slice.Eq.{bytes_eq-Decides}
use Rattle.std.proofs.lemmas.List.Folds.{list_any-append}
use Rattle.um_tree.specs.Formed.{IsNameBytes, AreNames, AreDistinct}
use Rattle.um_measures.specs.Known.{is_among}

-- no name is one of those behind it
abbrev pub AreFresh : List (List ℕ) → Type 0
AreFresh [] = Unit {0}
AreFresh (x ∷ xs) = (is_among xs x ≡ false) × AreFresh xs

pub neither : (a b : Bool) → (a || b) ≡ false → (a ≡ false) × (b ≡ false)
neither true b e = absurd cc
neither false b e = (refl, e)

both_false : (a b : Bool) → a ≡ false → b ≡ false → (a || b) ≡ false
both_false true b e f = absurd cc
both_false false b e f = f

pub absent_append : (xs ys : List (List ℕ)) (x : List ℕ) → is_among xs x ≡ false → is_among ys x ≡ false → is_among (xs ++ ys) x ≡ false
absent_append xs ys x e f = list_any-append (bytes_eq x) xs ys ∙ both_false (is_among xs x) (is_among ys x) e f

other_way : (x y : List ℕ) → bytes_eq x y ≡ false → bytes_eq y x ≡ false
other_way x y e = by (bytes_eq y x) refl where
  by : (b : Bool) → bytes_eq y x ≡ b → b ≡ false
  by false f = refl
  by true f =
      let same : y ≡ x = (bytes_eq-Decides y x).0 f in
      let bad : true ≡ false = sym ((bytes_eq-Decides x y).1 (sym same)) ∙ e in
      absurd cc

absent_inserted : (xs ys : List (List ℕ)) (x z : List ℕ) → is_among (xs ++ ys) z ≡ false → bytes_eq z x ≡ false → is_among (xs ++ x ∷ ys) z ≡ false
absent_inserted [] ys x z e f = both_false (bytes_eq z x) (is_among ys z) f e
absent_inserted (y ∷ xs) ys x z e f =
    let w = neither (bytes_eq z y) (is_among (xs ++ ys) z) e in
    both_false (bytes_eq z y) (is_among (xs ++ x ∷ ys) z) w.0 (absent_inserted xs ys x z w.1 f)

-- a new name, anywhere among them
pub fresh_inserted : (xs ys : List (List ℕ)) (x : List ℕ) → AreFresh (xs ++ ys) → is_among (xs ++ ys) x ≡ false → AreFresh (xs ++ x ∷ ys)
fresh_inserted [] ys x h e = (e, h)
fresh_inserted (z ∷ xs) ys x h e =
    let w = neither (bytes_eq x z) (is_among (xs ++ ys) x) e in
    (absent_inserted xs ys x z h.0 (other_way x z w.0), fresh_inserted xs ys x h.1 w.1)

there : (xs : List (List ℕ)) (k : ℕ) (x : List ℕ) → slice_get xs k ≡ Some x → is_among xs x ≡ true
there [] k x e = absurd cc
there (y ∷ ys) zero x e =
    let same : y ≡ x = cc e in
    ap (λ b. b || is_among ys x) ((bytes_eq-Decides x y).1 (sym same))
there (y ∷ ys) (suc k) x e = by (bytes_eq x y) (there ys k x e) where
  by : (b : Bool) → is_among ys x ≡ true → (b || is_among ys x) ≡ true
  by true rest = refl
  by false rest = rest

pub fresh-distinct : (xs : List (List ℕ)) → AreFresh xs → AreDistinct xs
fresh-distinct [] h i j x e f = absurd cc
fresh-distinct (y ∷ ys) h zero zero x e f = refl
fresh-distinct (y ∷ ys) h zero (suc j) x e f =
    let same : y ≡ x = cc e in
    let bad : true ≡ false = sym (there ys j x f) ∙ ap (is_among ys) (sym same) ∙ h.0 in
    absurd cc
fresh-distinct (y ∷ ys) h (suc i) zero x e f =
    let same : y ≡ x = cc f in
    let bad : true ≡ false = sym (there ys i x e) ∙ ap (is_among ys) (sym same) ∙ h.0 in
    absurd cc
fresh-distinct (y ∷ ys) h (suc i) (suc j) x e f = ap suc (fresh-distinct ys h.1 i j x e f)

pub names-append : (xs ys : List (List ℕ)) → AreNames xs → AreNames ys → AreNames (xs ++ ys)
names-append [] ys h j k x e = j k x e
names-append (y ∷ xs) ys h j zero x e = h zero x e
names-append (y ∷ xs) ys h j (suc k) x e = names-append xs ys (λ l. h (suc l)) j k x e

pub names-one : (x : List ℕ) → IsNameBytes x → AreNames (x ∷ [])
names-one x h zero y e = let same : x ≡ y = cc e in subst IsNameBytes same h
names-one x h (suc k) y e = absurd cc

pub names-none : AreNames []
names-none k x e = absurd cc
