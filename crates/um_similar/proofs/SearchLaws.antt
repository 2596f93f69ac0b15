-- To look at names one by one finds the similar ones, the first four and each once.
use Rattle.std.proofs.Common.{◌≡◌, ℕ, ◌<◌, ◌≤◌, ◌⊎◌, inl, inr, Bool, true, false, not, ◌||◌, ◌&&◌, cond, if◌then◌else◌, List, [], ◌∷◌, ◌++◌, length, take, refl, sym, ap, ◌∙◌, arith}
use Rattle.std.specs.Prelude.{filter, nat_lt}
use Rattle.std.specs.List.{list_any}
use Rattle.std.specs.Str.{bytes_eq}
use Rattle.std.proofs.lemmas.Bool.{cases_lt, lt-ltb, le-ltb}
use Rattle.std.proofs.lemmas.List.{append-nil, append_assoc, length-append, length-take, take_all, take-append-le}
use Rattle.std.proofs.lemmas.Slice.Eq.{bytes_eq-Decides}
use Rattle.um_similar.specs.SimilarNames.{is_similar, each_once, Search, is_kept, looked_at_all}
use Rattle.um_similar.specs.Laws.{SearchesFindSimilar}

equal : (a b : List ℕ) → bytes_eq a b ≡ true → a ≡ b
equal a b = (bytes_eq-Decides a b).0

-- ---- lists of names

filter_more : (p : List ℕ → Bool) (ys : List (List ℕ)) (x : List ℕ) → filter p (ys ++ x ∷ []) ≡ filter p ys ++ cond (p x) (x ∷ []) []
filter_more p [] x = refl
filter_more p (y ∷ ys) x = ap (λ l. cond (p y) (y ∷ l) l) (filter_more p ys x) ∙ by (p y) where
  by : (t : Bool) → cond t (y ∷ (filter p ys ++ cond (p x) (x ∷ []) [])) (filter p ys ++ cond (p x) (x ∷ []) []) ≡ cond t (y ∷ filter p ys) (filter p ys) ++ cond (p x) (x ∷ []) []
  by true = refl
  by false = refl

-- a name other than y is found without the y
any_other : (x y : List ℕ) → bytes_eq x y ≡ false → (zs : List (List ℕ)) → list_any (bytes_eq x) (filter (λ z. not (bytes_eq y z)) zs) ≡ list_any (bytes_eq x) zs
any_other x y n [] = refl
any_other x y n (z ∷ zs) = by (any_other x y n zs) (bytes_eq y z) refl where
  by : list_any (bytes_eq x) (filter (λ z. not (bytes_eq y z)) zs) ≡ list_any (bytes_eq x) zs → (t : Bool) → bytes_eq y z ≡ t →
      list_any (bytes_eq x) (cond (not t) (z ∷ filter (λ z. not (bytes_eq y z)) zs) (filter (λ z. not (bytes_eq y z)) zs)) ≡ (bytes_eq x z || list_any (bytes_eq x) zs)
  by rest false e = ap (λ b. bytes_eq x z || b) rest
  by rest true e = rest ∙ sym (ap (λ b. b || list_any (bytes_eq x) zs) (ap (bytes_eq x) (sym (equal y z e)) ∙ n))

any_once : (x : List ℕ) (ys : List (List ℕ)) → list_any (bytes_eq x) (each_once ys) ≡ list_any (bytes_eq x) ys
any_once x [] = refl
any_once x (y ∷ ys) = by (any_once x ys) (bytes_eq x y) refl where
  by : list_any (bytes_eq x) (each_once ys) ≡ list_any (bytes_eq x) ys → (t : Bool) → bytes_eq x y ≡ t →
      (t || list_any (bytes_eq x) (filter (λ z. not (bytes_eq y z)) (each_once ys))) ≡ (t || list_any (bytes_eq x) ys)
  by rest true e = refl
  by rest false e = any_other x y e (each_once ys) ∙ rest

same_test : (x y : List ℕ) → bytes_eq x y ≡ bytes_eq y x
same_test x y = by (bytes_eq x y) (bytes_eq y x) refl refl where
  by : (s t : Bool) → bytes_eq x y ≡ s → bytes_eq y x ≡ t → s ≡ t
  by true true e f = refl
  by false false e f = refl
  by true false e f = sym ((bytes_eq-Decides y x).1 (sym (equal x y e))) ∙ f
  by false true e f = sym (sym ((bytes_eq-Decides x y).1 (sym (equal y x f))) ∙ e)

once_more : (ys : List (List ℕ)) (x : List ℕ) → each_once (ys ++ x ∷ []) ≡ cond (list_any (bytes_eq x) ys) (each_once ys) (each_once ys ++ x ∷ [])
once_more [] x = refl
once_more (y ∷ ys) x =
    ap (λ l. y ∷ filter (λ z. not (bytes_eq y z)) l) (once_more ys x)
    ∙ at (list_any (bytes_eq x) ys) (bytes_eq x y) refl
  where
    tested : (t : Bool) → bytes_eq x y ≡ t → cond (not (bytes_eq y x)) (x ∷ []) [] ≡ cond (not t) (x ∷ []) []
    tested t e = ap (λ b. cond (not b) (x ∷ []) []) (same_test y x ∙ e)

    at : (a t : Bool) → bytes_eq x y ≡ t →
        (y ∷ filter (λ z. not (bytes_eq y z)) (cond a (each_once ys) (each_once ys ++ x ∷ []))) ≡ cond (t || a) (each_once (y ∷ ys)) (each_once (y ∷ ys) ++ x ∷ [])
    at true true e = refl
    at true false e = refl
    at false true e =
        ap (λ l. y ∷ l) (filter_more (λ z. not (bytes_eq y z)) (each_once ys) x
        ∙ ap (λ l. filter (λ z. not (bytes_eq y z)) (each_once ys) ++ l) (tested true e)
        ∙ append-nil (filter (λ z. not (bytes_eq y z)) (each_once ys)))
    at false false e =
        ap (λ l. y ∷ l) (filter_more (λ z. not (bytes_eq y z)) (each_once ys) x
        ∙ ap (λ l. filter (λ z. not (bytes_eq y z)) (each_once ys) ++ l) (tested false e))

-- ---- one name more

module _ (unknown : List ℕ) where
  abbrev names : List (List ℕ) → List (List ℕ)
  names done = take 4 (each_once (filter (is_similar unknown) done))

  abbrev search : List (List ℕ) → Search
  search done = record { unknown = unknown; found = take 4 (each_once (filter (is_similar unknown) done)) }

  -- what a similar name does to the names found so far
  kept_name : (g : List (List ℕ)) (x : List ℕ) → (new : Bool) → list_any (bytes_eq x) g ≡ not new →
      (if nat_lt (length (take 4 g)) 4 && (not (list_any (bytes_eq x) (take 4 g)) && true) then take 4 g ++ x ∷ [] else take 4 g) ≡ take 4 (cond new (g ++ x ∷ []) g)
  kept_name g x new e = by (cases_lt (length g) 4) where
    room : length g < 4 → (b : Bool) → list_any (bytes_eq x) g ≡ not b →
        (if nat_lt (length (take 4 g)) 4 && (not (list_any (bytes_eq x) (take 4 g)) && true) then take 4 g ++ x ∷ [] else take 4 g) ≡ take 4 (cond b (g ++ x ∷ []) g)
    room l b f =
        let all : take 4 g ≡ g = take_all 4 g (omega (arith, l)) in
        ap (λ h. if nat_lt (length h) 4 && (not (list_any (bytes_eq x) h) && true) then h ++ x ∷ [] else h) all
        ∙ ap (λ t. if t && (not (list_any (bytes_eq x) g) && true) then g ++ x ∷ [] else g) (lt-ltb (length g) 4 l)
        ∙ ap (λ t. if not t && true then g ++ x ∷ [] else g) f
        ∙ each b
      where
        each : (b : Bool) → (if not (not b) && true then g ++ x ∷ [] else g) ≡ take 4 (cond b (g ++ x ∷ []) g)
        each true = sym (take_all 4 (g ++ x ∷ []) (omega (arith, l, length-append g (x ∷ []))))
        each false = sym (take_all 4 g (omega (arith, l)))

    full : 4 ≤ length g → (b : Bool) →
        (if nat_lt (length (take 4 g)) 4 && (not (list_any (bytes_eq x) (take 4 g)) && true) then take 4 g ++ x ∷ [] else take 4 g) ≡ take 4 (cond b (g ++ x ∷ []) g)
    full l b =
        ap (λ t. if t && (not (list_any (bytes_eq x) (take 4 g)) && true) then take 4 g ++ x ∷ [] else take 4 g) (le-ltb (length (take 4 g)) 4 (omega (arith, l, length-take 4 g)))
        ∙ each b
      where
        each : (b : Bool) → take 4 g ≡ take 4 (cond b (g ++ x ∷ []) g)
        each true = sym (take-append-le 4 g (x ∷ []) l)
        each false = refl

    by : (length g < 4) ⊎ (4 ≤ length g) → (if nat_lt (length (take 4 g)) 4 && (not (list_any (bytes_eq x) (take 4 g)) && true) then take 4 g ++ x ∷ [] else take 4 g) ≡ take 4 (cond new (g ++ x ∷ []) g)
    by (inl l) = room l new e
    by (inr l) = full l new

  not_kept : (g : List (List ℕ)) (a b : Bool) (more : List (List ℕ)) → (if a && (b && false) then more else g) ≡ g
  not_kept g true true more = refl
  not_kept g true false more = refl
  not_kept g false b more = refl

  flipped : (a : Bool) (g h : List (List ℕ)) → cond a g h ≡ cond (not a) h g
  flipped true g h = refl
  flipped false g h = refl

  twice : (a : Bool) → a ≡ not (not a)
  twice true = refl
  twice false = refl

  -- ys: the similar names among those before. t: whether x is similar
  one_found : (ys : List (List ℕ)) (x : List ℕ) (t : Bool) →
      (if nat_lt (length (take 4 (each_once ys))) 4 && (not (list_any (bytes_eq x) (take 4 (each_once ys))) && t) then take 4 (each_once ys) ++ x ∷ [] else take 4 (each_once ys)) ≡ take 4 (each_once (ys ++ cond t (x ∷ []) []))
  one_found ys x false =
      not_kept (take 4 (each_once ys)) (nat_lt (length (take 4 (each_once ys))) 4) (not (list_any (bytes_eq x) (take 4 (each_once ys)))) (take 4 (each_once ys) ++ x ∷ [])
      ∙ sym (ap (λ l. take 4 (each_once l)) (append-nil ys))
  one_found ys x true =
      kept_name (each_once ys) x (not (list_any (bytes_eq x) ys)) (any_once x ys ∙ twice (list_any (bytes_eq x) ys))
      ∙ ap (take 4) (sym (once_more ys x ∙ flipped (list_any (bytes_eq x) ys) (each_once ys) (each_once ys ++ x ∷ [])))

  one_more : (done : List (List ℕ)) (x : List ℕ) → (if is_kept unknown (names done) x then names done ++ x ∷ [] else names done) ≡ names (done ++ x ∷ [])
  one_more done x =
      one_found (filter (is_similar unknown) done) x (is_similar unknown x)
      ∙ sym (ap (λ l. take 4 (each_once l)) (filter_more (is_similar unknown) done x))

  from : (done known : List (List ℕ)) → looked_at_all (search done) known ≡ search (done ++ known)
  from done [] = ap search (sym (append-nil done))
  from done (x ∷ known) =
      ap (λ s. looked_at_all s known) (step (is_kept unknown (names done) x) ∙ ap (λ l. record { unknown = unknown; found = l }) (one_more done x))
      ∙ from (done ++ x ∷ []) known ∙ ap search (append_assoc done (x ∷ []) known)
    where
      step : (t : Bool) → (if t then record { unknown = unknown; found = names done ++ x ∷ [] } else search done) ≡ record { unknown = unknown; found = (if t then names done ++ x ∷ [] else names done) }
      step true = refl
      step false = refl

pub searches_find_similar : SearchesFindSimilar
searches_find_similar unknown known = from unknown [] known
