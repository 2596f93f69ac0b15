-- The operations on words beside those on values.
use Rattle.std.proofs.Common.{◌≡◌, refl, sym, ap, ◌∙◌, subst, ℕ, zero, suc, ◌+◌, ◌<◌, ◌≤◌, List, Option, Some, None, Err, Ok, arith}
use Rattle.std.specs.Prelude.{slice_get, IsTrue}
use Rattle.um_tree.specs.ValueTree.{ValueTree, ValueTrees, truth_value, number_value, list_value, record_value, no_values, more_values}
use Rattle.um_tree.specs.Meaning.{Out, stops, longer, on_list, value_at, wrong}
use Rattle.um_cells.specs.declared.store.Store.{Store}
use Rattle.um_cells.specs.declared.word.Word.{Word}
use Rattle.um_cells.specs.declared.word.Word.TheVariants.{Bool as Truth, Num as Number, Nil, List as ListAt, Rec as RecordAt}
use Rattle.um_cells.specs.declared.word.ListCase.{ListCase}
use Rattle.um_cells.specs.declared.cell.Cell.{Cell}
use Rattle.um_cells.specs.declared.cell.Cell.TheVariants.{Record, Part}
use Rattle.um_cells.specs.Denotes.{Denotes, ListFrom, PartsFrom, list_from, value_count}
use Rattle.um_cells.specs.Formed.{holds}
use Rattle.um_cells.specs.Operations.{Gives, TakenApart}
use Rattle.um_cells.specs.Laws.{TakesArm}
use Rattle.um_cells.specs.Reading.{first_cell, part_count, part_word}

first_cell-list_from : (first : Option ℕ) → first_cell (list_from first) ≡ Some first
first_cell-list_from None = refl
first_cell-list_from (Some n) = refl

-- a word that has a first cell is that list's word
pub list_word : (w : Word) (first : Option ℕ) → first_cell w ≡ Some first → w ≡ list_from first
list_word (Truth b) first e = absurd cc
list_word (Number c) first e = absurd cc
list_word Nil first e = let same : None ≡ first = cc in ap list_from same
list_word (ListAt n) first e = let same : Some n ≡ first = cc in ap list_from same
list_word (RecordAt r n) first e = absurd cc

pub list_holds : (s : List Cell) (w : Word) (first : Option ℕ) → first_cell w ≡ Some first → IsTrue (holds s w) → IsTrue (holds s (list_from first))
list_holds s w first e h = subst (λ x. IsTrue (holds s x)) (list_word w first e) h

list_items : (s : List Cell) (w : Word) (first : Option ℕ) (vs : ValueTrees) → first_cell w ≡ Some first → Denotes s w (list_value vs) → ListFrom s first vs
list_items s w first vs e (other, is, l) =
    let same : other ≡ first =
    let k : Some other ≡ Some first = sym (first_cell-list_from other) ∙ sym (ap first_cell is) ∙ e in cc in
    subst (λ i. ListFrom s i vs) same l

pub longer_some : (s : List Cell) (t : Store) (w : Word) (first : Option ℕ) (n : ℕ) (v u : ValueTree) → first_cell w ≡ Some first → ((vs : ValueTrees) → ListFrom s first vs → ListFrom t.cells.items (Some n) (more_values v vs)) → Denotes s w u → Gives t (longer v u) (Some (ListAt n))
longer_some s t w first n v (truth_value b) e g h = absurd (let k : None ≡ Some first = sym (ap first_cell h) ∙ e in cc)
longer_some s t w first n v (number_value c) e g h = absurd (let k : None ≡ Some first = sym (ap first_cell h) ∙ e in cc)
longer_some s t w first n v (record_value r vs) e g (m, is, c, p) = absurd (let k : None ≡ Some first = sym (ap first_cell is) ∙ e in cc)
longer_some s t w first n v (list_value vs) e g h = (Some n, refl, g vs (list_items s w first vs e h))

part_at_place : (s : List Cell) (n k : ℕ) (vs : ValueTrees) → k < value_count vs → PartsFrom s n vs → (w : Word) × (v : ValueTree) × (slice_get s (n + k) ≡ Some (Part w)) × (value_at vs k ≡ Ok v) × Denotes s w v
part_at_place s n k no_values h p = absurd (omega arith)
part_at_place s n zero (more_values v vs) h (w, c, x, p) = (w, v, ap (slice_get s) (omega arith) ∙ c, refl, x)
part_at_place s n (suc k) (more_values v vs) h (w, c, x, p) =
    let less : k < value_count vs = omega arith in
    let (y, u, d, e, z) = part_at_place s (n + 1) k vs less p in
    (y, u, ap (slice_get s) (omega arith) ∙ d, e, z)

no_value_at : (k : ℕ) (vs : ValueTrees) → value_count vs ≤ k → value_at vs k ≡ Err wrong
no_value_at k no_values h = refl
no_value_at zero (more_values v vs) h = absurd (omega arith)
no_value_at (suc k) (more_values v vs) h = no_value_at k vs (omega arith)

count_is : (s : List Cell) (n count : ℕ) (vs : ValueTrees) → Some count ≡ part_count (slice_get s n) → slice_get s n ≡ Some (Record (value_count vs)) → count ≡ value_count vs
count_is s n count vs h c = let k : Some count ≡ Some (value_count vs) = h ∙ ap part_count c in cc

pub no_part : (s : Store) (n count k : ℕ) (vs : ValueTrees) → Some count ≡ part_count (slice_get s.cells.items n) → count ≤ k → slice_get s.cells.items n ≡ Some (Record (value_count vs)) → Gives s (value_at vs k) None
no_part s n count k vs h l c =
    let many = count_is s.cells.items n count vs h c in
    subst (λ o. Gives s o None) (sym (no_value_at k vs (omega arith))) refl

pub some_part : (s : Store) (n count k : ℕ) (vs : ValueTrees) (o : Option Word) → Some count ≡ part_count (slice_get s.cells.items n) → k < count → o ≡ part_word (slice_get s.cells.items (n + 1 + k)) → slice_get s.cells.items n ≡ Some (Record (value_count vs)) → PartsFrom s.cells.items (n + 1) vs → Gives s (value_at vs k) o
some_part s n count k vs o h l is c p =
    let many = count_is s.cells.items n count vs h c in
    let less : k < value_count vs = omega arith in
    let (w, u, here, found, denotes) = part_at_place s.cells.items (n + 1) k vs less p in
    subst (λ i. Gives s i o) (sym found) (subst (λ i. Gives s (Ok u) i) (sym (is ∙ ap part_word here)) denotes)

-- a list that is taken apart takes the arm that its meaning takes
pub arm_taken : (s : Store) (v : ValueTree) (given : Option ListCase) (x : ℕ → Out ValueTree) (y : ValueTree → ValueTree → ℕ → Out ValueTree) (b : ℕ) → TakenApart s v given → TakesArm s given x y b (on_list v x y b)
arm_taken s (truth_value a) given x y b e = subst (λ g. TakesArm s g x y b (stops wrong)) (sym e) refl
arm_taken s (number_value c) given x y b e = subst (λ g. TakesArm s g x y b (stops wrong)) (sym e) refl
arm_taken s (list_value no_values) given x y b e = subst (λ g. TakesArm s g x y b (x b)) (sym e) refl
arm_taken s (list_value (more_values v vs)) given x y b (first, others, e, p, q) =
    subst (λ g. TakesArm s g x y b (y v (list_value vs) b)) (sym e) (v, list_value vs, p, q, refl)
arm_taken s (record_value r vs) given x y b e = subst (λ g. TakesArm s g x y b (stops wrong)) (sym e) refl
