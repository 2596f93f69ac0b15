-- Names that are taken one after another.
use Rattle.std.proofs.Common.{◌≡◌, ℕ, zero, suc, ◌+◌, ◌<◌, Bool, true, false, cond, ◌||◌, ◌⊎◌, inl, inr, List, [], ◌∷◌, ◌++◌, length, map, take, drop, get_or, All, Some, slice_get, refl, sym, ap, subst, ◌∙◌, arith, append_assoc, append-nil}
use Rattle.std.specs.Str.{bytes_eq}
use Rattle.std.specs.Bool.{MatchBool}
use Rattle.std.proofs.lemmas.Bool.{both_ways}
use Rattle.std.proofs.lemmas.List.{take-append-drop, take_more, get_or-map, length-map}
use Rattle.std.proofs.lemmas.List.Elements.{All-nil, All-cons, All-push, All-head}
use Rattle.std.proofs.lemmas.Slice.Eq.{bytes_eq-Decides}
use Rattle.std.proofs.lemmas.Option.{slice_get_within}
use Rattle.um_tree.specs.declared.program.FieldDecl.{FieldDecl}
use Rattle.um_tree.specs.Formed.{IsNameBytes, AreDistinct}
use Rattle.um_measures.specs.Known.{is_among}
use Rattle.um_verifier.specs.Names.{AreTaken, Takes}

-- ---- distinct names

get_front : (xs ys : List (List ℕ)) (k : ℕ) (x : List ℕ) → slice_get xs k ≡ Some x → slice_get (xs ++ ys) k ≡ Some x
get_front [] ys zero x e = absurd cc
get_front [] ys (suc k) x e = absurd cc
get_front (y ∷ xs) ys zero x e = e
get_front (y ∷ xs) ys (suc k) x e = get_front xs ys k x e

get_end : (xs : List (List ℕ)) (x : List ℕ) → slice_get (xs ++ x ∷ []) (length xs) ≡ Some x
get_end [] x = refl
get_end (y ∷ xs) x = get_end xs x

pub distinct_front : (xs ys : List (List ℕ)) → AreDistinct (xs ++ ys) → AreDistinct xs
distinct_front xs ys d i j x h k = d i j x (get_front xs ys i x h) (get_front xs ys j x k)

-- where a name stands
abbrev Stands : List (List ℕ) → List ℕ → Type 0
Stands xs x = (k : ℕ) × (slice_get xs k ≡ Some x)

among_stands : (xs : List (List ℕ)) (x : List ℕ) → is_among xs x ≡ true → Stands xs x
among_stands [] x h = absurd cc
among_stands (y ∷ xs) x h = by (among_stands xs x) (bytes_eq x y) refl h where
  by : (is_among xs x ≡ true → Stands xs x) → (b : Bool) → bytes_eq x y ≡ b → (b || is_among xs x) ≡ true → Stands (y ∷ xs) x
  by later true e h = (zero, ap Some (sym ((bytes_eq-Decides x y).0 e)))
  by later false e h = let r = later h in (suc r.0, r.1)

stands_among : (xs : List (List ℕ)) (k : ℕ) (x : List ℕ) → slice_get xs k ≡ Some x → is_among xs x ≡ true
stands_among [] zero x e = absurd cc
stands_among [] (suc k) x e = absurd cc
stands_among (y ∷ xs) zero x e =
    let same : y ≡ x = cc e in
    ap (λ (b : Bool). b || is_among xs x) ((bytes_eq-Decides x y).1 (sym same))
stands_among (y ∷ xs) (suc k) x e = by (bytes_eq x y) (stands_among xs k x e) where
  by : (b : Bool) → is_among xs x ≡ true → (b || is_among xs x) ≡ true
  by true h = refl
  by false h = h

-- a name that is among them isn't taken once with them
among_twice : (xs : List (List ℕ)) (x : List ℕ) → is_among xs x ≡ true → AreDistinct (xs ++ x ∷ []) → ⊥
among_twice xs x h d =
    let s = among_stands xs x h in
    let same : s.0 ≡ length xs = d s.0 (length xs) x (get_front xs (x ∷ []) s.0 x s.1) (get_end xs x) in
    let within = slice_get_within xs s.0 x s.1 in
    absurd (omega arith)

-- where an element of a list with one more behind stands
abbrev Where : List (List ℕ) → List ℕ → ℕ → List ℕ → Type 0
Where xs x k y = (slice_get xs k ≡ Some y) ⊎ ((k ≡ length xs) × (x ≡ y))

where_is : (xs : List (List ℕ)) (x : List ℕ) (k : ℕ) (y : List ℕ) → slice_get (xs ++ x ∷ []) k ≡ Some y → Where xs x k y
where_is [] x zero y e = inr (refl, cc e)
where_is [] x (suc zero) y e = absurd cc
where_is [] x (suc (suc k)) y e = absurd cc
where_is (z ∷ xs) x zero y e = inl e
where_is (z ∷ xs) x (suc k) y e = by (where_is xs x k y e) where
  by : Where xs x k y → Where (z ∷ xs) x (suc k) y
  by (inl h) = inl h
  by (inr h) = inr (ap suc h.0, h.1)

-- a new name
distinct_push : (xs : List (List ℕ)) (x : List ℕ) → is_among xs x ≡ false → AreDistinct xs → AreDistinct (xs ++ x ∷ [])
distinct_push xs x new d i j y h k = by (where_is xs x i y h) (where_is xs x j y k) where
  bad : (n : ℕ) → slice_get xs n ≡ Some y → x ≡ y → ⊥
  bad n e s = both_ways (is_among xs x) new (ap (is_among xs) s ∙ stands_among xs n y e)

  by : Where xs x i y → Where xs x j y → i ≡ j
  by (inl a) (inl b) = d i j y a b
  by (inl a) (inr b) = absurd (bad i a b.1)
  by (inr a) (inl b) = absurd (bad j b a.1)
  by (inr a) (inr b) = a.0 ∙ sym b.0

-- ---- one name

pub no_name : (old new : List (List ℕ)) (x : List ℕ) (b : Bool) → b ≡ false → MatchBool b (IsNameBytes x) (IsNameBytes x → ⊥) → Takes false old (x ∷ []) new
no_name old new x b e h names once =
    let not = subst (λ (b : Bool). MatchBool b (IsNameBytes x) (IsNameBytes x → ⊥)) e h in
    not (All-head IsNameBytes x [] names)

pub was_taken : (old new : List (List ℕ)) (x : List ℕ) → is_among old x ≡ true → Takes false old (x ∷ []) new
was_taken old new x h names once = among_twice old x h once

pub is_taken : (old new : List (List ℕ)) (x : List ℕ) (b : Bool) → b ≡ true → MatchBool b (IsNameBytes x) (IsNameBytes x → ⊥) → is_among old x ≡ false → new ≡ cond (is_among old x) old (old ++ x ∷ []) → Takes true old (x ∷ []) new
is_taken old new x b e h k t = record {
  names = All-cons IsNameBytes x [] (subst (λ (b : Bool). MatchBool b (IsNameBytes x) (IsNameBytes x → ⊥)) e h) (All-nil IsNameBytes);
  once = distinct_push old x k;
  taken = t ∙ ap (λ (b : Bool). cond b old (old ++ x ∷ [])) k;
}

-- ---- one after another

pub none_taken : (old : List (List ℕ)) → AreTaken old [] old
none_taken old = record {
  names = All-nil IsNameBytes;
  once = subst AreDistinct (sym (append-nil old));
  taken = sym (append-nil old);
}

module _ (old zs mid new : List (List ℕ)) (i : ℕ) (x : List ℕ) (within : i < length zs) (is : x ≡ get_or zs i x) (before : AreTaken old (take i zs) mid) where
  one_more : take (i + 1) zs ≡ take i zs ++ x ∷ []
  one_more = take_more zs i x within ∙ ap (λ (y : List ℕ). take i zs ++ y ∷ []) (sym is)

  behind : (mid ++ x ∷ []) ≡ old ++ take (i + 1) zs
  behind = ap (λ (ys : List (List ℕ)). ys ++ x ∷ []) before.taken ∙ append_assoc old (take i zs) (x ∷ []) ∙ ap (λ (ys : List (List ℕ)). old ++ ys) (sym one_more)

  pub more_taken : Takes true mid (x ∷ []) new → AreTaken old (take (i + 1) zs) new
  more_taken t = record {
    names = subst (All IsNameBytes) (sym one_more) (All-push IsNameBytes (take i zs) x before.names (All-head IsNameBytes x [] t.names));
    once = λ d. subst AreDistinct behind (t.once (subst AreDistinct (sym before.taken) (before.once d)));
    taken = t.taken ∙ behind;
  }

  pub not_taken : Takes false mid (x ∷ []) new → Takes false old zs new
  not_taken t names once =
      let whole : (old ++ take (i + 1) zs) ++ drop (i + 1) zs ≡ old ++ zs = append_assoc old (take (i + 1) zs) (drop (i + 1) zs) ∙ ap (λ (ys : List (List ℕ)). old ++ ys) (take-append-drop (i + 1) zs) in
      let front : AreDistinct (old ++ take (i + 1) zs) = distinct_front (old ++ take (i + 1) zs) (drop (i + 1) zs) (subst AreDistinct (sym whole) once) in
      t (All-cons IsNameBytes x [] (subst IsNameBytes (sym is) (names i x within)) (All-nil IsNameBytes)) (subst AreDistinct (sym behind) front)

-- ---- the names of fields

pub field_name : (fs : List FieldDecl) (i : ℕ) (d : FieldDecl) → i < length fs → (get_or fs i d).name ≡ get_or (map (λ f. f.name) fs) i (get_or fs i d).name
field_name fs i d l = sym (get_or-map (λ (f : FieldDecl). f.name) fs i d (get_or fs i d).name l)

pub as_many : (fs : List FieldDecl) (i : ℕ) → i < length fs → i < length (map (λ (f : FieldDecl). f.name) fs)
as_many fs i l = let n = length-map fs (λ (f : FieldDecl). f.name) in omega arith
