-- Texts of lists with a separator between each two items, one more item at a time.
use Rattle.std.proofs.Common.{◌≡◌, refl, sym, ap, ◌∙◌, ℕ, ◌+◌, ◌<◌, ◌≤◌, List, [], ◌∷◌, ◌++◌, length, take, get_or, map, append_assoc, cond, Result, Ok, Err, is_ok, OnOk, arith}
use Rattle.std.proofs.lemmas.List.{append-nil, take_more, take_all, length-take-le}
use Rattle.std.proofs.Math.Dec.{eqb-suc-zero}
use Rattle.std.proofs.lemmas.Grind.{flat_map-append}
use Rattle.std.specs.List.{flat_map, join_by}
use Rattle.std.specs.Bool.{if◌then◌else◌}
use Rattle.um_show.specs.Pieces.{Piece, space, text_of, piece_text}
use Rattle.um_show.specs.Layout.{between}
use Rattle.um_show.specs.Lists.{gap_before, spaced_text}

-- the separator stands before each item but the first
joined_more : {A : Type 0} (f : A → List ℕ) (separator : List ℕ) (xs : List A) (x : A) → join_by f separator (xs ++ x ∷ []) ≡ join_by f separator xs ++ (gap_before (length xs) separator ++ f x)
joined_more f separator [] x = append-nil (f x)
joined_more f separator (y ∷ xs) x =
    let others = flat_map (λ z. separator ++ f z) in
    let gap : gap_before (length (y ∷ xs)) separator ≡ separator = ap (λ b. cond b [] separator) (eqb-suc-zero (length xs)) in
    let more : others (xs ++ x ∷ []) ≡ others xs ++ (separator ++ f x) = flat_map-append (λ z. separator ++ f z) xs (x ∷ []) ∙ ap (λ s. others xs ++ s) (append-nil (separator ++ f x)) in
    ap (λ s. f y ++ s) more ∙ sym (append_assoc (f y) (others xs) (separator ++ f x)) ∙ ap (λ g. (f y ++ others xs) ++ (g ++ f x)) (sym gap)

-- one more item of a list, with what stands before it
pub joined_next : {A : Type 0} (f : A → List ℕ) (separator : List ℕ) (xs : List A) (i : ℕ) (x : A) (old begun apart new : List ℕ) → i < length xs → x ≡ get_or xs i x → begun ≡ old ++ join_by f separator (take i xs) → apart ≡ begun ++ gap_before i separator → new ≡ apart ++ f x → new ≡ old ++ join_by f separator (take (i + 1) xs)
joined_next f separator xs i x old begun apart new below is so_far gap item =
    let whole : take (i + 1) xs ≡ take i xs ++ x ∷ [] = take_more xs i x below ∙ ap (λ y. take i xs ++ y ∷ []) (sym is) in
    let count : length (take i xs) ≡ i = length-take-le i xs (omega (arith, below)) in
    let before = join_by f separator (take i xs) in
    let grown : new ≡ ((old ++ before) ++ gap_before i separator) ++ f x = item ∙ ap (λ s. s ++ f x) (gap ∙ ap (λ s. s ++ gap_before i separator) so_far) in
    let flat : ((old ++ before) ++ gap_before i separator) ++ f x ≡ old ++ (before ++ (gap_before i separator ++ f x)) = simp (append_assoc) refl in
    let last : join_by f separator (take i xs ++ x ∷ []) ≡ before ++ (gap_before i separator ++ f x) = joined_more f separator (take i xs) x ∙ ap (λ n. before ++ (gap_before n separator ++ f x)) count in
    grown ∙ flat ∙ ap (λ s. old ++ s) (sym (ap (join_by f separator) whole ∙ last))

-- the text of pieces on both sides
pub text_append : (xs ys : List Piece) → text_of (xs ++ ys) ≡ text_of xs ++ text_of ys
text_append xs ys = flat_map-append piece_text xs ys

-- the text of a list's pieces is the texts of its items, one behind the other
pub text_flat_map : {A : Type 0} (f : A → List Piece) (xs : List A) → text_of (flat_map f xs) ≡ flat_map (λ x. text_of (f x)) xs
text_flat_map f [] = refl
text_flat_map f (x ∷ xs) = text_append (f x) (flat_map f xs) ∙ ap (λ s. text_of (f x) ++ s) (text_flat_map f xs)

-- a text that has grown by pieces, and then by more
pub grown : (old begun new : List ℕ) (xs ys : List Piece) → begun ≡ old ++ text_of xs → new ≡ begun ++ text_of ys → new ≡ old ++ text_of (xs ++ ys)
grown old begun new xs ys first next =
    next ∙ ap (λ s. s ++ text_of ys) first ∙ append_assoc old (text_of xs) (text_of ys) ∙ ap (λ s. old ++ s) (sym (text_append xs ys))

-- the same where the last call grew it
pub grows : {T E : Type 0} (r : Result T E) (old begun new : List ℕ) (xs ys all : List Piece) → all ≡ xs ++ ys → begun ≡ old ++ text_of xs → OnOk r (new ≡ begun ++ text_of ys) → OnOk r (new ≡ old ++ text_of all)
grows (Ok x) old begun new xs ys all is first next = grown old begun new xs ys first next ∙ ap (λ ps. old ++ text_of ps) (sym is)
grows (Err e) old begun new xs ys all is first next = tt

-- the same where the last call added a fixed text
pub closes : {T E : Type 0} (r : Result T E) (old begun new : List ℕ) (xs ys all : List Piece) → all ≡ xs ++ ys → begun ≡ old ++ text_of xs → new ≡ if◌then◌else◌ (is_ok r) (begun ++ text_of ys) begun → OnOk r (new ≡ old ++ text_of all)
closes (Ok x) old begun new xs ys all is first next = grown old begun new xs ys first next ∙ ap (λ ps. old ++ text_of ps) (sym is)
closes (Err e) old begun new xs ys all is first next = tt

-- the texts of later items, a separator before each
pub separated : {X A : Type 0} (f : A → List Piece) (g : X → A) (separator : List Piece) (xs : List X) → text_of (flat_map (λ y. separator ++ f y) (map g xs)) ≡ flat_map (λ x. text_of separator ++ text_of (f (g x))) xs
separated f g separator [] = refl
separated f g separator (x ∷ xs) =
    let later = flat_map (λ y. separator ++ f y) (map g xs) in
    text_append (separator ++ f (g x)) later ∙ ap (λ s. s ++ text_of later) (text_append separator (f (g x))) ∙ ap (λ s. (text_of separator ++ text_of (f (g x))) ++ s) (separated f g separator xs)

-- the first item, and then all the others
pub joined_all : {X A : Type 0} (f : A → List Piece) (g : X → A) (separator : List Piece) (x : X) (xs : List X) (i : ℕ) (old begun new : List ℕ) → length xs ≤ i → begun ≡ old ++ text_of (f (g x)) → new ≡ begun ++ flat_map (λ y. text_of separator ++ text_of (f (g y))) (take i xs) → new ≡ old ++ text_of (join_by f separator (map g (x ∷ xs)))
joined_all f g separator x xs i old begun new past first others =
    let later = flat_map (λ y. separator ++ f y) (map g xs) in
    let whole : new ≡ begun ++ text_of later = others ∙ ap (λ s. begun ++ s) (ap (flat_map (λ y. text_of separator ++ text_of (f (g y)))) (take_all i xs past) ∙ sym (separated f g separator xs)) in
    grown old begun new (f (g x)) later first whole

-- the text of signs between two operands
between_text : (a signs b : List Piece) → text_of (between a signs b) ≡ text_of a ++ spaced_text signs ++ text_of b
between_text a signs b =
    let gap : List Piece = space ∷ [] in
    let split : text_of (between a signs b) ≡ text_of (a ++ space ∷ signs) ++ (text_of gap ++ text_of b) = text_append (a ++ space ∷ signs) (space ∷ b) in
    let whole : spaced_text signs ≡ text_of (space ∷ signs) ++ text_of gap = text_append (space ∷ signs) gap in
    split ∙ ap (λ s. s ++ (text_of gap ++ text_of b)) (text_append a (space ∷ signs)) ∙ sym (append_assoc (text_of a ++ text_of (space ∷ signs)) (text_of gap) (text_of b))
    ∙ ap (λ s. s ++ text_of b) (append_assoc (text_of a) (text_of (space ∷ signs)) (text_of gap) ∙ ap (λ s. text_of a ++ s) (sym whole))

-- two operands and the sign between them were added
pub infix_added : {T E : Type 0} (r : Result T E) (old new : List ℕ) (all a signs b : List Piece) (sign : List ℕ) → all ≡ between a signs b → sign ≡ spaced_text signs → OnOk r (new ≡ old ++ (text_of a ++ sign ++ text_of b)) → OnOk r (new ≡ old ++ text_of all)
infix_added (Ok x) old new all a signs b sign is written added =
    added ∙ ap (λ s. old ++ (text_of a ++ s ++ text_of b)) written ∙ ap (λ s. old ++ s) (sym (ap text_of is ∙ between_text a signs b))
infix_added (Err e) old new all a signs b sign is written added = tt
