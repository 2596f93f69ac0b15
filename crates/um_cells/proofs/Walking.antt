-- Reading a value out of well formed cells, item after item and part after part.
use Rattle.std.proofs.Common.{rules, ◌≡◌, refl, sym, ap, ◌∙◌, subst, ℕ, zero, suc, ◌+◌, ◌<◌, ◌≤◌, List, [], ◌∷◌, ◌++◌, length, map, Option, Some, None, arith}
use Rattle.std.proofs.lemmas.List.{map-append, length-map}
use Rattle.std.proofs.lemmas.Option.{slice_get_within}
use Rattle.std.specs.Prelude.{slice_get, Bool, true, IsTrue}
use Rattle.um_tree.specs.ValueTree.{ValueTree, ValueTrees, list_value, record_value, no_values, more_values, values_in_order}
use Rattle.um_cells.specs.declared.word.Word.{Word}
use Rattle.um_cells.specs.declared.word.Word.TheVariants.{Bool as Truth, Num as Number, Nil, List as ListAt, Rec as RecordAt}
use Rattle.um_cells.specs.declared.cell.Cell.{Cell}
use Rattle.um_cells.specs.declared.cell.Cell.TheVariants.{Item, Record, Part}
use Rattle.um_cells.specs.Denotes.{Denotes, ListFrom, PartsFrom, list_from}
use Rattle.um_cells.specs.Formed.{Formed, is_item, is_record, is_part, names_among, parts_formed, holds}
use Rattle.um_cells.proofs.Tests.{both_true, less_from_test, part_there}
use Rattle.um_cells.proofs.WellFormed.{value_of_word, holds_from_value, names_among-all}
use Rattle.um_cells.proofs.Rows.{value_count-values_in_order}

-- among how many first cells a word's lies
abbrev pub reach : Word → ℕ
reach (Truth b) = 0
reach (Number c) = 0
reach Nil = 0
reach (ListAt n) = n + 1
reach (RecordAt r n) = n + 1

abbrev pub reach_of_next : Option ℕ → ℕ
reach_of_next None = 0
reach_of_next (Some n) = n + 1

abbrev pub next_is_item : List Cell → Option ℕ → Bool
next_is_item s None = true
next_is_item s (Some n) = is_item (slice_get s n)

-- some values, and then others
abbrev pub followed : List ValueTree → ValueTrees → ValueTrees
followed [] us = us
followed (v ∷ vs) us = more_values v (followed vs us)

followed-append : (vs : List ValueTree) (v : ValueTree) (us : ValueTrees) → followed (vs ++ v ∷ []) us ≡ followed vs (more_values v us)
followed-append [] v us = refl
followed-append (x ∷ vs) v us = ap (more_values x) (followed-append vs v us)

followed-none : (vs : List ValueTree) → followed vs no_values ≡ values_in_order vs
followed-none [] = refl
followed-none (v ∷ vs) = ap (more_values v) (followed-none vs)

followed-pushed : {X : Type 0} (f : X → ValueTree) (xs ys : List X) (x : X) (us : ValueTrees) → ys ≡ xs ++ x ∷ [] → followed (map f ys) us ≡ followed (map f xs) (more_values (f x) us)
followed-pushed f xs ys x us e =
    ap (λ zs. followed (map f zs) us) e ∙ ap (λ zs. followed zs us) (map-append f xs (x ∷ [])) ∙ followed-append (map f xs) (f x) us

pub reach_within : (s : List Cell) (n : ℕ) (w : Word) → IsTrue (names_among s n w) → reach w ≤ n
reach_within s n (Truth b) h = omega arith
reach_within s n (Number c) h = omega arith
reach_within s n Nil h = omega arith
reach_within s n (ListAt m) h = let (p, q) = both_true _ _ h in let l : m < n = less_from_test m n p in omega arith
reach_within s n (RecordAt r m) h = let (p, q) = both_true _ _ h in let l : m < n = less_from_test m n p in omega arith

pub next_within : (s : List Cell) (n : ℕ) (next : Option ℕ) → IsTrue (names_among s n (list_from next)) → reach_of_next next ≤ n
next_within s n None h = omega arith
next_within s n (Some m) h = let (p, q) = both_true _ _ h in let l : m < n = less_from_test m n p in omega arith

pub next_item : (s : List Cell) (n : ℕ) (next : Option ℕ) → IsTrue (names_among s n (list_from next)) → IsTrue (next_is_item s next)
next_item s n None h = search rules
next_item s n (Some m) h = let (p, q) = both_true _ _ h in q

-- what an item's cell names lies before it
pub item_names : (s : List Cell) (n : ℕ) (w : Word) (next : Option ℕ) → Formed s → slice_get s n ≡ Some (Item w next) → IsTrue (names_among s n w) × IsTrue (names_among s n (list_from next))
item_names s n w next f e = both_true _ _ (f n (Item w next) e)

part_in_row : (s : List Cell) (n at count k : ℕ) → IsTrue (parts_formed s n at count) → k < count → (w : Word) × (slice_get s (at + k) ≡ Some (Part w)) × IsTrue (names_among s n w)
part_in_row s n at zero k h l = absurd (omega arith)
part_in_row s n at (suc count) zero h l =
    let (p, q) = both_true _ _ h in
    let (w, e, r) = part_there s n (slice_get s at) p in
    (w, ap (slice_get s) (omega arith) ∙ e, r)
part_in_row s n at (suc count) (suc k) h l =
    let less : k < count = omega arith in
    let next : at + suc k ≡ at + 1 + k = omega arith in
    let (p, q) = both_true _ _ h in
    let (w, e, r) = part_in_row s n (at + 1) count k q less in
    (w, ap (slice_get s) next ∙ e, r)

pub part_is_there : (s : List Cell) (n count k : ℕ) → Formed s → slice_get s n ≡ Some (Record count) → k < count → IsTrue (is_part (slice_get s (n + 1 + k)))
part_is_there s n count k f e l =
    let (w, c, r) = part_in_row s n (n + 1) count k (f n (Record count) e) l in
    subst (λ d. IsTrue (is_part d)) (sym c) (search rules)

-- what a part names lies before the first cell of its record
pub part_names : (s : List Cell) (n count k : ℕ) (w : Word) → Formed s → slice_get s n ≡ Some (Record count) → k < count → slice_get s (n + 1 + k) ≡ Some (Part w) → IsTrue (names_among s n w)
part_names s n count k w f e l h =
    let (u, c, r) = part_in_row s n (n + 1) count k (f n (Record count) e) l in
    let same : u ≡ w = let k : Some (Part u) ≡ Some (Part w) = sym c ∙ h in cc in
    subst (λ x. IsTrue (names_among s n x)) same r

-- a word that a cell of the store names has a value
pub named_value : (s : List Cell) (n : ℕ) (c : Cell) (w : Word) → Formed s → slice_get s n ≡ Some c → IsTrue (names_among s n w) → (v : ValueTree) × Denotes s w v
named_value s n c w f e h =
    let within : n < length s = slice_get_within s n c e in
    value_of_word s f w (names_among-all s n w (omega arith) h)

pub item_of_value : (s : List Cell) (w : Word) (n : ℕ) → w ≡ ListAt n → (v : ValueTree) × Denotes s w v → IsTrue (is_item (slice_get s n))
item_of_value s w n e (v, h) = let (p, q) = both_true _ _ (subst (λ x. IsTrue (holds s x)) e (holds_from_value s w v h)) in q

pub record_of_value : (s : List Cell) (w : Word) (r n : ℕ) → w ≡ RecordAt r n → (v : ValueTree) × Denotes s w v → IsTrue (is_record (slice_get s n))
record_of_value s w r n e (v, h) = let (p, q) = both_true _ _ (subst (λ x. IsTrue (holds s x)) e (holds_from_value s w v h)) in q

pub list_step : {X : Type 0} (f : X → ValueTree) (s : List Cell) (first : ℕ) (here : Option ℕ) (n : ℕ) (w : Word) (next : Option ℕ) (xs ys : List X) (x : X) → here ≡ Some n → slice_get s n ≡ Some (Item w next) → Denotes s w (f x) → ys ≡ xs ++ x ∷ [] → ((us : ValueTrees) → ListFrom s here us → ListFrom s (Some first) (followed (map f xs) us)) → (us : ValueTrees) → ListFrom s next us → ListFrom s (Some first) (followed (map f ys) us)
list_step f s first here n w next xs ys x e c p q g us l =
    subst (λ vs. ListFrom s (Some first) vs) (sym (followed-pushed f xs ys x us q)) (g (more_values (f x) us) (n, w, next, e, c, p, l))

pub list_end : {X : Type 0} (f : X → ValueTree) (s : List Cell) (first : ℕ) (here : Option ℕ) (xs : List X) → here ≡ None → ((us : ValueTrees) → ListFrom s here us → ListFrom s (Some first) (followed (map f xs) us)) → ListFrom s (Some first) (values_in_order (map f xs))
list_end f s first here xs e g = subst (λ us. ListFrom s (Some first) us) (followed-none (map f xs)) (g no_values e)

pub parts_step : {X : Type 0} (f : X → ValueTree) (s : List Cell) (at k : ℕ) (w : Word) (xs ys : List X) (x : X) → slice_get s (at + k) ≡ Some (Part w) → Denotes s w (f x) → ys ≡ xs ++ x ∷ [] → ((us : ValueTrees) → PartsFrom s (at + k) us → PartsFrom s at (followed (map f xs) us)) → (us : ValueTrees) → PartsFrom s (at + (k + 1)) us → PartsFrom s at (followed (map f ys) us)
parts_step f s at k w xs ys x c p q g us l =
    let next : at + (k + 1) ≡ at + k + 1 = omega arith in
    subst (λ vs. PartsFrom s at vs) (sym (followed-pushed f xs ys x us q)) (g (more_values (f x) us) (w, c, p, subst (λ i. PartsFrom s i us) next l))

pub parts_end : {X : Type 0} (f : X → ValueTree) (s : List Cell) (at k : ℕ) (xs : List X) → ((us : ValueTrees) → PartsFrom s (at + k) us → PartsFrom s at (followed (map f xs) us)) → PartsFrom s at (values_in_order (map f xs))
parts_end f s at k xs g = subst (λ us. PartsFrom s at us) (followed-none (map f xs)) (g no_values tt)

pub record_read : {X : Type 0} (f : X → ValueTree) (s : List Cell) (w : Word) (r n : ℕ) (xs : List X) (v : ValueTree) → w ≡ RecordAt r n → v ≡ record_value r (values_in_order (map f xs)) → slice_get s n ≡ Some (Record (length xs)) → PartsFrom s (n + 1) (values_in_order (map f xs)) → Denotes s w v
record_read f s w r n xs v e is c p =
    let many = sym (value_count-values_in_order (map f xs) ∙ length-map xs f) in
    subst (λ v. Denotes s w v) (sym is) (n, e, c ∙ ap (λ i. Some (Record i)) many, p)

pub nil_read : {X : Type 0} (f : X → ValueTree) (s : List Cell) (w : Word) (xs : List X) (v : ValueTree) → w ≡ Nil → v ≡ list_value (values_in_order (map f xs)) → xs ≡ [] → Denotes s w v
nil_read f s w xs v e is h =
    subst (λ v. Denotes s w v) (sym (is ∙ ap (λ xs. list_value (values_in_order (map f xs))) h)) (None, e, refl)
