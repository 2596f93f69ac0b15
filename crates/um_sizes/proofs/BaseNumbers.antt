-- Sizes that are set one by one are those of the base units.
use Rattle.std.proofs.Common.{◌≡◌, inl, inr, ℕ, zero, suc, ◌<◌, Bool, true, false, cond, ◌&&◌, ◌||◌, eqb, eqb-true, List, [], ◌∷◌, ◌++◌, length, Option, Some, None, refl, sym, ap, subst, ◌∙◌, arith, append_assoc}
use Rattle.std.specs.Prelude.{All, MatchOption, ◌+◌, drop, get_or, is_some, set, slice_get, take}
use Rattle.std.specs.Option.{option_and_then, option_map}
use Rattle.std.specs.Str.{bytes_eq}
use Rattle.std.proofs.lemmas.Bool.{eqb-false}
use Rattle.std.proofs.lemmas.List.{length-set, length-take, take-append-drop, take_more}
use Rattle.std.proofs.lemmas.List.Folds.{list_any-append}
use Rattle.std.proofs.lemmas.Option.{slice_get_within, slice_get-get_or, get_or_from_slice_get}
use Rattle.std.proofs.lemmas.Slice.Eq.{bytes_eq-Decides}
use Rattle.um_frac.specs.declared.number.Frac.{Frac}
use Rattle.um_tree.specs.Formed.{AreDistinct}
use Rattle.um_measures.specs.Known.{is_among, number_of, one_later}
use Rattle.um_measures.proofs.NameLists.{is_among-number}
use Rattle.um_sizes.specs.ScaleWords.{size_in, sizes_in, names_of}
use Rattle.um_sizes.specs.BaseSizes.{are_bases, IsOne, IsSizeOf, AreSizesOf}
use Rattle.um_sizes.specs.Setting.{sizes_set}

-- ---- items by their numbers

-- the name of a number
number_named : (names : List (List ℕ)) (x : List ℕ) (k : ℕ) → number_of names x ≡ Some k → slice_get names k ≡ Some x
number_named [] x k e = absurd (cc e)
number_named (y ∷ ys) x k e = by (bytes_eq x y) refl (number_of ys x) refl (number_named ys x) e where
  by : (b : Bool) → bytes_eq x y ≡ b → (o : Option ℕ) → number_of ys x ≡ o → ((j : ℕ) → number_of ys x ≡ Some j → slice_get ys j ≡ Some x)
      → cond b (Some 0) (one_later o) ≡ Some k → slice_get (y ∷ ys) k ≡ Some x
  by true s o t next h =
      let none_before : 0 ≡ k = cc h in
      subst (λ (j : ℕ). slice_get (y ∷ ys) j ≡ Some x) none_before (ap Some (sym ((bytes_eq-Decides x y).0 s)))
  by false s None t next h = absurd (cc h)
  by false s (Some j) t next h =
      let later : suc j ≡ k = cc h in
      subst (λ (i : ℕ). slice_get (y ∷ ys) i ≡ Some x) later (next j t)

set_here : (cs : List Frac) (k : ℕ) (c d : Frac) → slice_get (set cs k c) k ≡ Some d → c ≡ d
set_here [] k c d e = absurd (cc e)
set_here (x ∷ xs) zero c d e = cc e
set_here (x ∷ xs) (suc k) c d e = set_here xs k c d e

set_elsewhere : (cs : List Frac) (k j : ℕ) (c : Frac) → (j ≡ k → ⊥) → slice_get (set cs k c) j ≡ slice_get cs j
set_elsewhere [] k j c other = refl
set_elsewhere (x ∷ xs) zero zero c other = absurd (other refl)
set_elsewhere (x ∷ xs) zero (suc j) c other = refl
set_elsewhere (x ∷ xs) (suc k) zero c other = refl
set_elsewhere (x ∷ xs) (suc k) (suc j) c other = set_elsewhere xs k j c (λ e. other (ap suc e))

module _ {A : Type 0} where
  in_front : (xs ys : List A) (i : ℕ) (x : A) → slice_get xs i ≡ Some x → slice_get (xs ++ ys) i ≡ Some x
  in_front [] ys i x e = absurd (cc e)
  in_front (y ∷ xs) ys zero x e = e
  in_front (y ∷ xs) ys (suc i) x e = in_front xs ys i x e

  at_end : (xs : List A) (x : A) → slice_get (xs ++ x ∷ []) (length xs) ≡ Some x
  at_end [] x = refl
  at_end (y ∷ xs) x = at_end xs x

  nothing_behind : (xs : List A) → xs ++ [] ≡ xs
  nothing_behind [] = refl
  nothing_behind (x ∷ xs) = ap (λ (ys : List A). x ∷ ys) (nothing_behind xs)

pub distinct_front : (xs ys : List (List ℕ)) → AreDistinct (xs ++ ys) → AreDistinct xs
distinct_front xs ys once i j x a b = once i j x (in_front xs ys i x a) (in_front xs ys j x b)

-- ---- one size more

names_more : (sizes : List (List ℕ × Frac)) (s : List ℕ × Frac) → names_of (sizes ++ s ∷ []) ≡ names_of sizes ++ s.0 ∷ []
names_more [] s = refl
names_more (r ∷ sizes) s = ap (λ (xs : List (List ℕ)). r.0 ∷ xs) (names_more sizes s)

absent_still : (sizes : List (List ℕ × Frac)) (s : List ℕ × Frac) (x : List ℕ) → is_among (names_of sizes) x ≡ false → bytes_eq x s.0 ≡ false
    → is_among (names_of (sizes ++ s ∷ [])) x ≡ false
absent_still sizes s x absent other =
    ap (λ xs. is_among xs x) (names_more sizes s) ∙ list_any-append (bytes_eq x) (names_of sizes) (s.0 ∷ [])
    ∙ ap (λ b. b || (bytes_eq x s.0 || false)) absent ∙ ap (λ b. b || false) other

module _ (bases : List (List ℕ)) (once : AreDistinct bases) where
  kept : (sizes : List (List ℕ × Frac)) (s : List ℕ × Frac) (j k : ℕ) (x : List ℕ) (c : Frac) → number_of bases s.0 ≡ Some k → (j ≡ k → ⊥) → slice_get bases j ≡ Some x
      → IsSizeOf sizes x c → IsSizeOf (sizes ++ s ∷ []) x c
  kept sizes s j k x c at other there (inl h) = inl (h.0, in_front sizes (s ∷ []) h.0 (x, c) h.1)
  kept sizes s j k x c at other there (inr h) = inr (absent_still sizes s x h.0 (by (bytes_eq x s.0) refl), h.1) where
    by : (b : Bool) → bytes_eq x s.0 ≡ b → b ≡ false
    by true e =
        let same : x ≡ s.0 = (bytes_eq-Decides x s.0).0 e in
        absurd (other (once j k s.0 (there ∙ ap Some same) (number_named bases s.0 k at)))
    by false e = refl

  one_set : (sizes : List (List ℕ × Frac)) (cs : List Frac) (s : List ℕ × Frac) (k : ℕ) → number_of bases s.0 ≡ Some k
      → AreSizesOf bases sizes cs → AreSizesOf bases (sizes ++ s ∷ []) (set cs k s.1)
  one_set sizes cs s k at now = record {
    many = length-set cs k s.1 ∙ now.many;
    each = λ j x c there given. by j x c there given (eqb j k) refl;
  } where
    by : (j : ℕ) (x : List ℕ) (c : Frac) → slice_get bases j ≡ Some x → slice_get (set cs k s.1) j ≡ Some c → (b : Bool) → eqb j k ≡ b → IsSizeOf (sizes ++ s ∷ []) x c
    by j x c there given true e =
        let place : j ≡ k = eqb-true j k e in
        let named : slice_get bases j ≡ Some s.0 = ap (slice_get bases) place ∙ number_named bases s.0 k at in
        let name : s.0 ≡ x = cc (sym named ∙ there) in
        let number : s.1 ≡ c = set_here cs k s.1 c (ap (slice_get (set cs k s.1)) (sym place) ∙ given) in
        inl (length sizes, at_end sizes s ∙ ap Some (pair name number)) where
          pair : {x y : List ℕ} {c d : Frac} → x ≡ y → c ≡ d → ◌≡◌ {A = List ℕ × Frac} (x, c) (y, d)
          pair p q = λ i. (p i, q i)
    by j x c there given false e =
        let other : j ≡ k → ⊥ = eqb-false j k e in
        kept sizes s j k x c at other there (now.each j x c there (sym (set_elsewhere cs k j s.1 other) ∙ given))

  -- ---- all sizes

  -- what the sizes come to, behind those that are set
  abbrev pub AreAllSet : List (List ℕ × Frac) → List (List ℕ × Frac) → Option (List Frac) → Type 0
  AreAllSet done sizes o = MatchOption o (are_bases bases sizes ≡ false) (λ ds. (are_bases bases sizes ≡ true) × AreSizesOf bases (done ++ sizes) ds)

  further : (done : List (List ℕ × Frac)) (s : List ℕ × Frac) (sizes : List (List ℕ × Frac)) (o : Option (List Frac)) → is_among bases s.0 ≡ true
      → AreAllSet (done ++ s ∷ []) sizes o → AreAllSet done (s ∷ sizes) o
  further done s sizes None known h = ap (λ b. b && are_bases bases sizes) known ∙ h
  further done s sizes (Some ds) known h =
      (ap (λ b. b && are_bases bases sizes) known ∙ h.0, subst (λ ss. AreSizesOf bases ss ds) (append_assoc done (s ∷ []) sizes) h.1)

  pub all_set : (parts : List (List ℕ)) (done sizes : List (List ℕ × Frac)) (cs : List Frac) → sizes_in parts ≡ Some sizes → AreSizesOf bases done cs
      → AreAllSet done sizes (sizes_set bases cs parts)
  all_set [] done sizes cs e now =
      let none : [] ≡ sizes = cc e in
      subst (λ ss. AreAllSet done ss (Some cs)) none (refl, subst (λ ss. AreSizesOf bases ss cs) (sym (nothing_behind done)) now)
  all_set (part ∷ parts) done sizes cs e now = by (size_in part) (sizes_in parts) refl e (λ done sizes cs. all_set parts done sizes cs) where
    known : (s : List ℕ × Frac) (o : Option ℕ) → number_of bases s.0 ≡ o → is_among bases s.0 ≡ is_some o
    known s o h = is_among-number s.0 bases ∙ ap is_some h

    set_one : (s : List ℕ × Frac) (ss : List (List ℕ × Frac)) (o : Option ℕ) → number_of bases s.0 ≡ o → sizes_in parts ≡ Some ss
        → ((done sizes : List (List ℕ × Frac)) (cs : List Frac) → sizes_in parts ≡ Some sizes → AreSizesOf bases done cs → AreAllSet done sizes (sizes_set bases cs parts))
        → AreAllSet done (s ∷ ss) (option_and_then (λ ds. sizes_set bases ds parts) (option_map (λ k. set cs k s.1) o))
    set_one s ss None h t next = ap (λ b. b && are_bases bases ss) (known s None h)
    set_one s ss (Some k) h t next =
        further done s ss (sizes_set bases (set cs k s.1) parts) (known s (Some k) h) (next (done ++ s ∷ []) ss (set cs k s.1) t (one_set done cs s k h now))

    by : (o : Option (List ℕ × Frac)) (r : Option (List (List ℕ × Frac))) → sizes_in parts ≡ r
        → option_and_then (λ s. option_map (λ ss. s ∷ ss) r) o ≡ Some sizes
        → ((done sizes : List (List ℕ × Frac)) (cs : List Frac) → sizes_in parts ≡ Some sizes → AreSizesOf bases done cs → AreAllSet done sizes (sizes_set bases cs parts))
        → AreAllSet done sizes (option_and_then (λ ds. sizes_set bases ds parts) (option_and_then (λ s. option_map (λ k. set cs k s.1) (number_of bases s.0)) o))
    by None r t h next = absurd (cc h)
    by (Some s) None t h next = absurd (cc h)
    by (Some s) (Some ss) t h next =
        let whole : s ∷ ss ≡ sizes = cc h in
        subst (λ xs. AreAllSet done xs (option_and_then (λ ds. sizes_set bases ds parts) (option_map (λ k. set cs k s.1) (number_of bases s.0)))) whole
        (set_one s ss (number_of bases s.0) refl t next)

-- no size is set before any is
pub none_set : (bases : List (List ℕ)) (cs : List Frac) → length cs ≡ length bases → All IsOne cs → AreSizesOf bases [] cs
none_set bases cs many ones = record {
  many = many;
  each = λ k x c there given. inr (refl, subst IsOne (get_or_from_slice_get cs k c c given) (ones k c (slice_get_within cs k c given)));
}

-- ---- names added one by one

-- a name of those before it would be the same base unit
pub fresh : (names : List (List ℕ)) (i : ℕ) (x : List ℕ) → AreDistinct names → slice_get names i ≡ Some x → is_among (take i names) x ≡ false
fresh names i x once there = by (number_of (take i names) x) refl where
  by : (o : Option ℕ) → number_of (take i names) x ≡ o → is_among (take i names) x ≡ false
  by None e = is_among-number x (take i names) ∙ ap is_some e
  by (Some j) e =
      let front = number_named (take i names) x j e in
      let within = slice_get_within (take i names) j x front in
      let few = length-take i names in
      let whole : slice_get names j ≡ Some x = subst (λ xs. slice_get xs j ≡ Some x) (take-append-drop i names) (in_front (take i names) (drop i names) j x front) in
      let same = once j i x whole there in
      absurd (omega (arith, within, few, same))

pub one_added : (names : List (List ℕ)) (i : ℕ) (x d : List ℕ) (table new : List (List ℕ)) → AreDistinct names → i < length names → x ≡ get_or names i d
    → table ≡ take i names → new ≡ cond (is_among table x) table (table ++ x ∷ []) → new ≡ take (i + 1) names
one_added names i x d table new once within there so_far e =
    let here : slice_get names i ≡ Some x = slice_get-get_or names i d within ∙ ap Some (sym there) in
    e ∙ ap (λ (t : List (List ℕ)). cond (is_among t x) t (t ++ x ∷ [])) so_far
    ∙ ap (λ b. cond b (take i names) (take i names ++ x ∷ [])) (fresh names i x once here)
    ∙ ap (λ (y : List ℕ). take i names ++ y ∷ []) there ∙ sym (take_more names i d within)
