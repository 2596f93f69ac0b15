-- In well formed cells a word passes the test exactly where it denotes a value.
use Rattle.std.proofs.Common.{rules, ◌≡◌, refl, sym, ap, ◌∙◌, subst, ℕ, zero, suc, ◌+◌, ◌<◌, ◌≤◌, List, [], ◌∷◌, length, Option, Some, None, arith}
use Rattle.std.specs.Prelude.{slice_get, IsTrue, get_or}
use Rattle.std.specs.List.{list_all}
use Rattle.std.proofs.lemmas.Option.{slice_get_within}
use Rattle.um_tree.specs.ValueTree.{ValueTree, ValueTrees, truth_value, number_value, list_value, record_value, no_values, more_values}
use Rattle.um_cells.specs.declared.word.Word.{Word}
use Rattle.um_cells.specs.declared.word.Word.TheVariants.{Bool as Truth, Num as Number, Nil, List as ListAt, Rec as RecordAt}
use Rattle.um_cells.specs.declared.cell.Cell.{Cell}
use Rattle.um_cells.specs.declared.cell.Cell.TheVariants.{Item, Record, Part}
use Rattle.um_cells.specs.Denotes.{Denotes, ListFrom, PartsFrom, DenoteEach, Retains, list_from, value_count}
use Rattle.um_cells.specs.Formed.{is_item, is_record, names_among, part_formed, parts_formed, cell_formed, Formed, holds}
use Rattle.um_cells.proofs.Denoting.{Extends}
use Rattle.um_cells.proofs.Tests.{both_true, and_true, less_from_test, test_from_less, item_there, record_there, part_there}

-- what is named among the first cells is so among more of them, and where every cell is kept
pub names_among-more : (s t : List Cell) (m n : ℕ) (w : Word) → Extends s t → m ≤ n → IsTrue (names_among s m w) → IsTrue (names_among t n w)
names_among-more s t m n (Truth b) g l h = h
names_among-more s t m n (Number c) g l h = h
names_among-more s t m n Nil g l h = h
names_among-more s t m n (ListAt i) g l h =
    let (p, q) = both_true _ _ h in
    let less = less_from_test i m p in
    let (w, next, e) = item_there (slice_get s i) q in
    and_true _ _ (test_from_less i n (omega arith)) (subst (λ c. IsTrue (is_item c)) (sym (g i _ e)) (search rules))
names_among-more s t m n (RecordAt r i) g l h =
    let (p, q) = both_true _ _ h in
    let less = less_from_test i m p in
    let (k, e) = record_there (slice_get s i) q in
    and_true _ _ (test_from_less i n (omega arith)) (subst (λ c. IsTrue (is_record c)) (sym (g i _ e)) (search rules))

pub names_among-all : (s : List Cell) (m : ℕ) (w : Word) → m ≤ length s → IsTrue (names_among s m w) → IsTrue (holds s w)
names_among-all s m w l h = names_among-more s s m (length s) w (λ i c g. g) l h

parts_formed-more : (s t : List Cell) (n at k : ℕ) → Extends s t → IsTrue (parts_formed s n at k) → IsTrue (parts_formed t n at k)
parts_formed-more s t n at zero g h = h
parts_formed-more s t n at (suc k) g h =
    let (p, q) = both_true _ _ h in
    let (w, e, r) = part_there s n (slice_get s at) p in
    and_true _ _
    (subst (λ c. IsTrue (part_formed t n c)) (sym (g at _ e)) (names_among-more s t n n w g (omega arith) r))
    (parts_formed-more s t n (at + 1) k g q)

pub cell_formed-more : (s t : List Cell) (n : ℕ) (c : Cell) → Extends s t → IsTrue (cell_formed s n c) → IsTrue (cell_formed t n c)
cell_formed-more s t n (Item w next) g h =
    let (p, q) = both_true _ _ h in
    and_true _ _ (names_among-more s t n n w g (omega arith) p) (names_among-more s t n n (list_from next) g (omega arith) q)
cell_formed-more s t n (Record k) g h = parts_formed-more s t n (n + 1) k g h
cell_formed-more s t n (Part w) g h = h

-- the items of what a list's word denotes
pub list_of_word : (s : List Cell) (first : Option ℕ) (v : ValueTree) → Denotes s (list_from first) v → (vs : ValueTrees) × (v ≡ list_value vs) × ListFrom s first vs
list_of_word s None (truth_value b) h = absurd cc
list_of_word s (Some n) (truth_value b) h = absurd cc
list_of_word s None (number_value c) h = absurd cc
list_of_word s (Some n) (number_value c) h = absurd cc
list_of_word s None (record_value r vs) (n, e, c, p) = absurd cc
list_of_word s (Some m) (record_value r vs) (n, e, c, p) = absurd cc
list_of_word s None (list_value vs) (None, e, l) = (vs, refl, l)
list_of_word s None (list_value vs) (Some n, e, l) = absurd cc
list_of_word s (Some n) (list_value vs) (None, e, l) = absurd cc
list_of_word s (Some n) (list_value vs) (Some m, e, l) =
    let same : m ≡ n = cc in
    (vs, refl, subst (λ i. ListFrom s (Some i) vs) same l)

values_of_parts : (s : List Cell) (n : ℕ) → ((w : Word) → IsTrue (names_among s n w) → (v : ValueTree) × Denotes s w v) → (at k : ℕ) → IsTrue (parts_formed s n at k) → (vs : ValueTrees) × (value_count vs ≡ k) × PartsFrom s at vs
values_of_parts s n all at zero h = (no_values, refl, tt)
values_of_parts s n all at (suc k) h =
    let (p, q) = both_true _ _ h in
    let (w, e, r) = part_there s n (slice_get s at) p in
    let (v, x) = all w r in
    let (vs, many, ps) = values_of_parts s n all (at + 1) k q in
    (more_values v vs, ap suc many, (w, e, x, ps))

-- what a word names among the first cells is a value: by induction on the number of these cells
value_among : (s : List Cell) → Formed s → (n : ℕ) (w : Word) → IsTrue (names_among s n w) → (v : ValueTree) × Denotes s w v
value_among s f n (Truth b) h = (truth_value b, refl)
value_among s f n (Number c) h = (number_value c, refl)
value_among s f n Nil h = (list_value no_values, (None, refl, refl))
value_among s f zero (ListAt m) h = let (p, q) = both_true _ _ h in let less = less_from_test m 0 p in absurd (omega arith)
value_among s f (suc n) (ListAt m) h =
    let (p, q) = both_true _ _ h in
    let less = less_from_test m (suc n) p in
    let (w, next, e) = item_there (slice_get s m) q in
    let (a, b) = both_true _ _ (f m (Item w next) e) in
    let (v, x) = value_among s f n w (names_among-more s s m n w (λ i c g. g) (omega arith) a) in
    let (u, y) = value_among s f n (list_from next) (names_among-more s s m n (list_from next) (λ i c g. g) (omega arith) b) in
    let (vs, is, l) = list_of_word s next u y in
    (list_value (more_values v vs), (Some m, refl, (m, w, next, refl, e, x, l)))
value_among s f zero (RecordAt r m) h = let (p, q) = both_true _ _ h in let less = less_from_test m 0 p in absurd (omega arith)
value_among s f (suc n) (RecordAt r m) h =
    let (p, q) = both_true _ _ h in
    let less = less_from_test m (suc n) p in
    let (k, e) = record_there (slice_get s m) q in
    let all : (w : Word) → IsTrue (names_among s m w) → (v : ValueTree) × Denotes s w v =
    λ w a. value_among s f n w (names_among-more s s m n w (λ i c g. g) (omega arith) a) in
    let (vs, many, ps) = values_of_parts s m all (m + 1) k (f m (Record k) e) in
    (record_value r vs, (m, refl, e ∙ ap (λ i. Some (Record i)) (sym many), ps))

pub value_of_word : (s : List Cell) → Formed s → (w : Word) → IsTrue (holds s w) → (v : ValueTree) × Denotes s w v
value_of_word s f w h = value_among s f (length s) w h

pub item_holds : (s : List Cell) (n : ℕ) → IsTrue (is_item (slice_get s n)) → IsTrue (holds s (ListAt n))
item_holds s n h =
    let (w, next, e) = item_there (slice_get s n) h in
    and_true _ _ (test_from_less n (length s) (slice_get_within s n _ e)) h

pub record_holds : (s : List Cell) (r n : ℕ) → IsTrue (is_record (slice_get s n)) → IsTrue (holds s (RecordAt r n))
record_holds s r n h =
    let (k, e) = record_there (slice_get s n) h in
    and_true _ _ (test_from_less n (length s) (slice_get_within s n _ e)) h

pub holds_from_value : (s : List Cell) (w : Word) (v : ValueTree) → Denotes s w v → IsTrue (holds s w)
holds_from_value s w (truth_value b) h = subst (λ x. IsTrue (holds s x)) (sym h) (search rules)
holds_from_value s w (number_value c) h = subst (λ x. IsTrue (holds s x)) (sym h) (search rules)
holds_from_value s w (list_value no_values) (first, e, l) =
    subst (λ x. IsTrue (holds s x)) (sym (e ∙ ap list_from l)) (search rules)
holds_from_value s w (list_value (more_values v vs)) (first, e, (n, x, next, a, c, p, q)) =
    subst (λ x. IsTrue (holds s x)) (sym (e ∙ ap list_from a)) (item_holds s n (subst (λ d. IsTrue (is_item d)) (sym c) (search rules)))
holds_from_value s w (record_value r vs) (n, e, c, p) =
    subst (λ x. IsTrue (holds s x)) (sym e) (record_holds s r n (subst (λ d. IsTrue (is_record d)) (sym c) (search rules)))

-- the same of lists of words
pub values_of_words : (s : List Cell) → Formed s → (ws : List Word) → IsTrue (list_all (holds s) ws) → (vs : List ValueTree) × DenoteEach s ws vs
values_of_words s f [] h = ([], tt)
values_of_words s f (w ∷ ws) h =
    let (p, q) = both_true _ _ h in
    let (v, x) = value_of_word s f w p in
    let (vs, l) = values_of_words s f ws q in
    (v ∷ vs, (x, l))

pub hold_from_values : (s : List Cell) (ws : List Word) (vs : List ValueTree) → DenoteEach s ws vs → IsTrue (list_all (holds s) ws)
hold_from_values s [] [] h = search rules
hold_from_values s [] (v ∷ vs) h = absurd h
hold_from_values s (w ∷ ws) [] h = absurd h
hold_from_values s (w ∷ ws) (v ∷ vs) (x, h) = and_true _ _ (holds_from_value s w v x) (hold_from_values s ws vs h)

pub hold_kept : (s t : List Cell) (ws : List Word) → Formed s → Retains s t → IsTrue (list_all (holds s) ws) → IsTrue (list_all (holds t) ws)
hold_kept s t [] f k h = h
hold_kept s t (w ∷ ws) f k h =
    let (p, q) = both_true _ _ h in
    let (v, x) = value_of_word s f w p in
    and_true _ _ (holds_from_value t w v (k w v x)) (hold_kept s t ws f k q)

pub holds_at : (s : List Cell) (ws : List Word) (i : ℕ) (w d : Word) → i < length ws → w ≡ get_or ws i d → IsTrue (list_all (holds s) ws) → IsTrue (holds s w)
holds_at s [] i w d l e h = absurd (omega arith)
holds_at s (x ∷ ws) zero w d l e h = let (p, q) = both_true _ _ h in subst (λ y. IsTrue (holds s y)) (sym e) p
holds_at s (x ∷ ws) (suc i) w d l e h =
    let less : i < length ws = omega arith in
    let (p, q) = both_true _ _ h in
    holds_at s ws i w d less e q
