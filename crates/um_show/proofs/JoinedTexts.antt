-- Texts with a separator between each two, as they are written one after another.
use Rattle.std.proofs.Common.{◌≡◌, ℕ, ◌+◌, ◌<◌, ◌≤◌, Bool, true, false, cond, List, [], ◌∷◌, ◌++◌, length, take, get_or, refl, sym, ap, ◌∙◌, append_assoc}
use Rattle.std.specs.List.{filter, flat_map, join_by}
use Rattle.std.proofs.lemmas.Grind.{flat_map-append}
use Rattle.std.proofs.lemmas.List.{take_all, take_more, append-nil}
use Rattle.std.proofs.lemmas.List.Elements.{filter-append}

-- the first, and then each other behind the separator
pub joined : {X : Type 0} (text : X → List ℕ) (separator : List ℕ) (first : X) (rest xs : List X) (n : ℕ) (old mid new : List ℕ) → xs ≡ first ∷ rest → length rest ≤ n → mid ≡ old ++ text first → new ≡ mid ++ flat_map (λ x. separator ++ text x) (take n rest) → new ≡ old ++ join_by text separator xs
joined text separator first rest xs n old mid new cut all begun grown =
    let others = flat_map (λ x. separator ++ text x) rest in
    grown ∙ ap (λ ys. mid ++ flat_map (λ x. separator ++ text x) ys) (take_all n rest all) ∙ ap (λ s. s ++ others) begun
    ∙ append_assoc old (text first) others ∙ ap (λ ys. old ++ join_by text separator ys) (sym cut)

-- a separator behind each but the last
shifted : {X : Type 0} (text : X → List ℕ) (separator : List ℕ) (xs : List X) (last : X) → separator ++ flat_map (λ x. text x ++ separator) xs ++ text last ≡ flat_map (λ x. separator ++ text x) (xs ++ last ∷ [])
shifted text separator [] last = ap (λ s. s ++ text last) (append-nil separator) ∙ sym (append-nil (separator ++ text last))
shifted text separator (x ∷ xs) last =
    let more : separator ++ (text x ++ separator ++ flat_map (λ y. text y ++ separator) xs) ++ text last
    ≡ separator ++ text x ++ (separator ++ flat_map (λ y. text y ++ separator) xs ++ text last) = simp (append_assoc) refl in
    more ∙ ap (λ s. separator ++ text x ++ s) (shifted text separator xs last)

pub separated : {X : Type 0} (text : X → List ℕ) (separator : List ℕ) (xs : List X) (last : X) → flat_map (λ x. text x ++ separator) xs ++ text last ≡ join_by text separator (xs ++ last ∷ [])
separated text separator [] last = sym (append-nil (text last))
separated text separator (x ∷ xs) last =
    let more : text x ++ separator ++ flat_map (λ y. text y ++ separator) xs ++ text last
    ≡ text x ++ (separator ++ flat_map (λ y. text y ++ separator) xs ++ text last) = simp (append_assoc) refl in
    more ∙ ap (λ s. text x ++ s) (shifted text separator xs last)

-- ---- one more text behind others, of those of a list that pass a test
abbrev pub none : {X : Type 0} → List X → Bool
none [] = true
none (x ∷ xs) = false

pub some_more : {X : Type 0} (xs : List X) (x : X) → none (xs ++ x ∷ []) ≡ false
some_more [] x = refl
some_more (y ∷ xs) x = refl

pub join_more : {X : Type 0} (text : X → List ℕ) (separator : List ℕ) (xs : List X) (x : X) → join_by text separator (xs ++ x ∷ []) ≡ join_by text separator xs ++ cond (none xs) [] separator ++ text x
join_more text separator [] x = append-nil (text x)
join_more text separator (y ∷ ys) x =
    let rest = flat_map (λ z. separator ++ text z) ys in
    let more : flat_map (λ z. separator ++ text z) (ys ++ x ∷ []) ≡ rest ++ (separator ++ text x) = flat_map-append (λ z. separator ++ text z) ys (x ∷ []) ∙ ap (λ s. rest ++ s) (append-nil (separator ++ text x)) in
    ap (λ s. text y ++ s) more ∙ sym (append_assoc (text y) rest (separator ++ text x)) ∙ sym (append_assoc (text y ++ rest) separator (text x))

pub passing_more : {X : Type 0} (p : X → Bool) (xs : List X) (i : ℕ) (x d : X) (b : Bool) → i < length xs → x ≡ get_or xs i d → p x ≡ b → filter p (take (i + 1) xs) ≡ filter p (take i xs) ++ cond b (x ∷ []) []
passing_more p xs i x d b below is e =
    ap (filter p) (take_more xs i d below ∙ ap (λ y. take i xs ++ y ∷ []) (sym is)) ∙ filter-append p (take i xs) (x ∷ [])
    ∙ ap (λ c. filter p (take i xs) ++ cond c (x ∷ []) []) e

pub left_out : {X : Type 0} (p : X → Bool) (xs : List X) (i : ℕ) (x d : X) → i < length xs → x ≡ get_or xs i d → p x ≡ false → filter p (take (i + 1) xs) ≡ filter p (take i xs)
left_out p xs i x d below is e = passing_more p xs i x d false below is e ∙ append-nil (filter p (take i xs))
