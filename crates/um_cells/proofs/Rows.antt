-- Lists and records of some words.
use Rattle.std.proofs.Common.{◌≡◌, refl, sym, ap, ◌∙◌, subst, ℕ, zero, suc, ◌+◌, ◌-◌, ◌<◌, ◌≤◌, List, [], ◌∷◌, ◌++◌, length, map, take, drop, get_or, Option, Some, arith, length-append}
use Rattle.std.proofs.lemmas.List.{take_more, take_all, map-append, length-map}
use Rattle.um_tree.specs.ValueTree.{ValueTree, ValueTrees, record_value, no_values, more_values, values_in_order}
use Rattle.um_cells.specs.declared.word.Word.{Word}
use Rattle.um_cells.specs.declared.word.Word.TheVariants.{Rec as RecordAt}
use Rattle.um_cells.specs.declared.cell.Cell.{Cell}
use Rattle.um_cells.specs.declared.cell.Cell.TheVariants.{Record, Part}
use Rattle.um_cells.specs.Denotes.{Denotes, ListFrom, PartsFrom, DenoteEach, Retains, value_count}
use Rattle.um_cells.proofs.Denoting.{retained_each, length-DenoteEach, DenoteEach-append}
use Rattle.um_cells.proofs.Growing.{retains_grown, next_cell}
use Rattle.um_cells.proofs.Adding.{shifted_parts, shifted_number}

-- behind the last word there is no item
pub no_items_left : (s : List Cell) (ws : List Word) (vs : List ValueTree) → DenoteEach s ws vs → values_in_order (drop (length ws) vs) ≡ no_values
no_items_left s [] [] h = refl
no_items_left s [] (v ∷ vs) h = absurd h
no_items_left s (w ∷ ws) [] h = absurd h
no_items_left s (w ∷ ws) (v ∷ vs) (x, h) = no_items_left s ws vs h

value_at_word : (s : List Cell) (ws : List Word) (vs : List ValueTree) (i : ℕ) (w d : Word) → DenoteEach s ws vs → i < length ws → w ≡ get_or ws i d → (v : ValueTree) × (values_in_order (drop i vs) ≡ more_values v (values_in_order (drop (suc i) vs))) × Denotes s w v
value_at_word s [] vs i w d h l e = absurd (omega arith)
value_at_word s (x ∷ ws) [] i w d h l e = absurd h
value_at_word s (x ∷ ws) (v ∷ vs) zero w d (p, h) l e = (v, refl, subst (λ y. Denotes s y v) (sym e) p)
value_at_word s (x ∷ ws) (v ∷ vs) (suc i) w d (p, h) l e = value_at_word s ws vs i w d h (omega arith) e

-- the list of the last words with one word more
pub longer_row : (s t u : List Cell) (ws : List Word) (vs : List ValueTree) (i : ℕ) (w d : Word) (first : Option ℕ) (n : ℕ) → Retains s t → DenoteEach s ws vs → 0 < i → i ≤ length ws → w ≡ get_or ws (i - 1) d → ListFrom t first (values_in_order (drop i vs)) → ((v : ValueTree) (vs : ValueTrees) → Denotes t w v → ListFrom t first vs → ListFrom u (Some n) (more_values v vs)) → ListFrom u (Some n) (values_in_order (drop (i - 1) vs))
longer_row s t u ws vs i w d first n k h p q e l g =
    let next : suc (i - 1) ≡ i = omega arith in
    let (v, is, x) = value_at_word s ws vs (i - 1) w d h (omega arith) e in
    let others : ListFrom t first (values_in_order (drop (suc (i - 1)) vs)) =
    subst (λ j. ListFrom t first (values_in_order (drop j vs))) (sym next) l in
    subst (λ us. ListFrom u (Some n) us) (sym is) (g v (values_in_order (drop (suc (i - 1)) vs)) (k w v x) others)

pub value_count-values_in_order : (vs : List ValueTree) → value_count (values_in_order vs) ≡ length vs
value_count-values_in_order [] = refl
value_count-values_in_order (v ∷ vs) = ap suc (value_count-values_in_order vs)

parts_added : (t before : List Cell) (ws : List Word) (vs : List ValueTree) (n : ℕ) → t ≡ before ++ map Part ws → n ≡ length before → DenoteEach t ws vs → PartsFrom t n (values_in_order vs)
parts_added t before [] [] n e m h = tt
parts_added t before [] (v ∷ vs) n e m h = absurd h
parts_added t before (w ∷ ws) [] n e m h = absurd h
parts_added t before (w ∷ ws) (v ∷ vs) n e m (x, h) =
    (w, next_cell before t (map Part ws) (Part w) n e m, x, parts_added t (before ++ Part w ∷ []) ws vs (n + 1) (shifted_parts before t (Part w) (map Part ws) e) (shifted_number before (Part w) n m) h)

pub record_added : (s t : List Cell) (ws : List Word) (vs : List ValueTree) (r n : ℕ) → t ≡ s ++ Record (length ws) ∷ map Part ws → n ≡ length s → DenoteEach s ws vs → Denotes t (RecordAt r n) (record_value r (values_in_order vs))
record_added s t ws vs r n e m h =
    let kept = retained_each s t (retains_grown s t _ e) ws vs h in
    let first = next_cell s t (map Part ws) (Record (length ws)) n e m in
    let many : length ws ≡ value_count (values_in_order vs) = sym (length-DenoteEach s ws vs h) ∙ sym (value_count-values_in_order vs) in
    (n, refl, first ∙ ap (λ i. Some (Record i)) many, parts_added t (s ++ Record (length ws) ∷ []) ws vs (n + 1) (shifted_parts s t (Record (length ws)) (map Part ws) e) (shifted_number s (Record (length ws)) n m) kept)

pub cells_of_record : (s t : List Cell) (ws : List Word) → t ≡ s ++ Record (length ws) ∷ map Part ws → length t ≡ length s + length ws + 1
cells_of_record s t ws e = omega (arith, ap length e, length-append s (Record (length ws) ∷ map Part ws), length-map ws Part)

-- the words of the first values, with one value more
pub one_more : {X : Type 0} (f : X → ValueTree) (s t : List Cell) (ws : List Word) (xs : List X) (i : ℕ) (x : X) (w : Word) → Retains s t → DenoteEach s ws (map f (take i xs)) → i < length xs → x ≡ get_or xs i x → Denotes t w (f x) → DenoteEach t (ws ++ w ∷ []) (map f (take (i + 1) xs))
one_more f s t ws xs i x w k h l e denotes =
    let more : take (i + 1) xs ≡ take i xs ++ x ∷ [] = take_more xs i x l ∙ ap (λ y. take i xs ++ y ∷ []) (sym e) in
    subst (λ vs. DenoteEach t (ws ++ w ∷ []) vs) (sym (ap (map f) more ∙ map-append f (take i xs) (x ∷ [])))
    (DenoteEach-append t ws (w ∷ []) (map f (take i xs)) (f x ∷ []) (retained_each s t k ws (map f (take i xs)) h) (denotes, tt))

pub all_words : {X : Type 0} (f : X → ValueTree) (s : List Cell) (ws : List Word) (xs : List X) (i : ℕ) → DenoteEach s ws (map f (take i xs)) → length xs ≤ i → DenoteEach s ws (map f xs)
all_words f s ws xs i h l = subst (λ ys. DenoteEach s ws (map f ys)) (take_all i xs l) h
