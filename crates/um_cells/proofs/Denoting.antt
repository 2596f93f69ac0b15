-- A word denotes one value at most, and what it denotes is kept where every cell is.
use Rattle.std.proofs.Common.{◌≡◌, refl, sym, ap, ◌∙◌, subst, ℕ, suc, ◌+◌, List, [], ◌∷◌, ◌++◌, length, Option, Some, None, arith}
use Rattle.std.specs.Prelude.{slice_get}
use Rattle.um_tree.specs.ValueTree.{ValueTree, ValueTrees, truth_value, number_value, list_value, record_value, no_values, more_values}
use Rattle.um_cells.specs.declared.word.Word.{Word}
use Rattle.um_cells.specs.declared.cell.Cell.{Cell}
use Rattle.um_cells.specs.declared.cell.Cell.TheVariants.{Item, Record, Part}
use Rattle.um_cells.specs.Denotes.{Denotes, ListFrom, PartsFrom, DenoteEach, Retains, list_from, value_count}

list_from-injective : (a b : Option ℕ) → list_from a ≡ list_from b → a ≡ b
list_from-injective None None h = refl
list_from-injective None (Some n) h = absurd cc
list_from-injective (Some n) None h = absurd cc
list_from-injective (Some n) (Some m) h = cc

mutual
  pub one_value : (s : List Cell) (w : Word) (v u : ValueTree) → Denotes s w v → Denotes s w u → v ≡ u
  one_value s w (truth_value a) (truth_value b) h k = cc
  one_value s w (truth_value a) (number_value b) h k = absurd cc
  one_value s w (truth_value a) (list_value us) h (None, e, l) = absurd cc
  one_value s w (truth_value a) (list_value us) h (Some n, e, l) = absurd cc
  one_value s w (truth_value a) (record_value r us) h (n, e, c, p) = absurd cc
  one_value s w (number_value a) (truth_value b) h k = absurd cc
  one_value s w (number_value a) (number_value b) h k = cc
  one_value s w (number_value a) (list_value us) h (None, e, l) = absurd cc
  one_value s w (number_value a) (list_value us) h (Some n, e, l) = absurd cc
  one_value s w (number_value a) (record_value r us) h (n, e, c, p) = absurd cc
  one_value s w (list_value vs) (truth_value b) (None, e, l) k = absurd cc
  one_value s w (list_value vs) (truth_value b) (Some n, e, l) k = absurd cc
  one_value s w (list_value vs) (number_value b) (None, e, l) k = absurd cc
  one_value s w (list_value vs) (number_value b) (Some n, e, l) k = absurd cc
  one_value s w (list_value vs) (list_value us) (first, e, l) (other, f, m) =
      ap list_value (one_list s first other vs us (list_from-injective first other (sym e ∙ f)) l m)
  one_value s w (list_value vs) (record_value r us) (None, e, l) (n, f, c, p) = absurd cc
  one_value s w (list_value vs) (record_value r us) (Some m, e, l) (n, f, c, p) = absurd cc
  one_value s w (record_value q vs) (truth_value b) (n, e, c, p) k = absurd cc
  one_value s w (record_value q vs) (number_value b) (n, e, c, p) k = absurd cc
  one_value s w (record_value q vs) (list_value us) (n, e, c, p) (None, f, l) = absurd cc
  one_value s w (record_value q vs) (list_value us) (n, e, c, p) (Some m, f, l) = absurd cc
  one_value s w (record_value q vs) (record_value r us) (n, e, c, p) (m, f, d, o) =
      let same_record : q ≡ r = cc in
      let same_cell : n ≡ m = cc in
      let same_count : value_count vs ≡ value_count us =
      let k : slice_get s n ≡ Some (Record (value_count us)) = ap (slice_get s) same_cell ∙ d in cc in
      let same : vs ≡ us = one_row s (n + 1) (m + 1) vs us (ap (λ i. i + 1) same_cell) same_count p o in
      cc

  one_list : (s : List Cell) (first other : Option ℕ) (vs us : ValueTrees) → first ≡ other → ListFrom s first vs → ListFrom s other us → vs ≡ us
  one_list s first other no_values no_values e h k = refl
  one_list s first other no_values (more_values u us) e h (n, w, next, f, c, x, l) = absurd cc
  one_list s first other (more_values v vs) no_values e (n, w, next, f, c, x, l) k = absurd cc
  one_list s first other (more_values v vs) (more_values u us) e (n, w, next, f, c, x, l) (m, y, after, g, d, z, o) =
      let same_cell : n ≡ m = cc in
      let cell : Some (Item w next) ≡ Some (Item y after) = sym c ∙ ap (slice_get s) same_cell ∙ d in
      let same_word : w ≡ y = cc in
      let same_next : next ≡ after = cc in
      let item : v ≡ u = one_value s w v u x (subst (λ i. Denotes s i u) (sym same_word) z) in
      let items : vs ≡ us = one_list s next after vs us same_next l o in
      cc

  one_row : (s : List Cell) (n m : ℕ) (vs us : ValueTrees) → n ≡ m → value_count vs ≡ value_count us → PartsFrom s n vs → PartsFrom s m us → vs ≡ us
  one_row s n m no_values no_values e many h k = refl
  one_row s n m no_values (more_values u us) e many h k = absurd (omega arith)
  one_row s n m (more_values v vs) no_values e many h k = absurd (omega arith)
  one_row s n m (more_values v vs) (more_values u us) e many (w, c, x, p) (y, d, z, o) =
      let cell : Some (Part w) ≡ Some (Part y) = sym c ∙ ap (slice_get s) e ∙ d in
      let same_word : w ≡ y = cc in
      let item : v ≡ u = one_value s w v u x (subst (λ i. Denotes s i u) (sym same_word) z) in
      let fewer : value_count vs ≡ value_count us = omega arith in
      let items : vs ≡ us = one_row s (n + 1) (m + 1) vs us (ap (λ i. i + 1) e) fewer p o in
      cc

pub one_value_each : (s : List Cell) (ws : List Word) (vs us : List ValueTree) → DenoteEach s ws vs → DenoteEach s ws us → vs ≡ us
one_value_each s [] [] [] h k = refl
one_value_each s [] [] (u ∷ us) h k = absurd k
one_value_each s [] (v ∷ vs) us h k = absurd h
one_value_each s (w ∷ ws) [] us h k = absurd h
one_value_each s (w ∷ ws) (v ∷ vs) [] h k = absurd k
one_value_each s (w ∷ ws) (v ∷ vs) (u ∷ us) (x, h) (y, k) =
    let first : v ≡ u = one_value s w v u x y in
    let others : vs ≡ us = one_value_each s ws vs us h k in
    cc

-- every cell of the first is one of the second
abbrev pub Extends : List Cell → List Cell → Type 0
Extends s t = (n : ℕ) (c : Cell) → slice_get s n ≡ Some c → slice_get t n ≡ Some c

mutual
  pub retained : (s t : List Cell) → Extends s t → (w : Word) (v : ValueTree) → Denotes s w v → Denotes t w v
  retained s t g w (truth_value b) h = h
  retained s t g w (number_value c) h = h
  retained s t g w (list_value vs) (first, e, l) = (first, e, retained_list s t g first vs l)
  retained s t g w (record_value r vs) (n, e, c, p) = (n, e, g n _ c, retained_parts s t g (n + 1) vs p)

  pub retained_list : (s t : List Cell) → Extends s t → (first : Option ℕ) (vs : ValueTrees) → ListFrom s first vs → ListFrom t first vs
  retained_list s t g first no_values h = h
  retained_list s t g first (more_values v vs) (n, w, next, e, c, x, l) =
      (n, w, next, e, g n _ c, retained s t g w v x, retained_list s t g next vs l)

  retained_parts : (s t : List Cell) → Extends s t → (n : ℕ) (vs : ValueTrees) → PartsFrom s n vs → PartsFrom t n vs
  retained_parts s t g n no_values h = h
  retained_parts s t g n (more_values v vs) (w, c, x, p) =
      (w, g n _ c, retained s t g w v x, retained_parts s t g (n + 1) vs p)

pub retained_each : (s t : List Cell) → Retains s t → (ws : List Word) (vs : List ValueTree) → DenoteEach s ws vs → DenoteEach t ws vs
retained_each s t k [] [] h = h
retained_each s t k [] (v ∷ vs) h = h
retained_each s t k (w ∷ ws) [] h = h
retained_each s t k (w ∷ ws) (v ∷ vs) (x, h) = (k w v x, retained_each s t k ws vs h)

pub retains_both : (s t u : List Cell) → Retains s t → Retains t u → Retains s u
retains_both s t u h k w v x = k w v (h w v x)

pub length-DenoteEach : (s : List Cell) (ws : List Word) (vs : List ValueTree) → DenoteEach s ws vs → length vs ≡ length ws
length-DenoteEach s [] [] h = refl
length-DenoteEach s [] (v ∷ vs) h = absurd h
length-DenoteEach s (w ∷ ws) [] h = absurd h
length-DenoteEach s (w ∷ ws) (v ∷ vs) (x, h) = ap suc (length-DenoteEach s ws vs h)

pub DenoteEach-append : (s : List Cell) (ws ns : List Word) (vs us : List ValueTree) → DenoteEach s ws vs → DenoteEach s ns us → DenoteEach s (ws ++ ns) (vs ++ us)
DenoteEach-append s [] ns [] us h k = k
DenoteEach-append s [] ns (v ∷ vs) us h k = absurd h
DenoteEach-append s (w ∷ ws) ns [] us h k = absurd h
DenoteEach-append s (w ∷ ws) ns (v ∷ vs) us (x, h) k = (x, DenoteEach-append s ws ns vs us h k)

-- words that denote some values do so under another name
pub some_values : (s : List Cell) (ws ns : List Word) (vs : List ValueTree) → ns ≡ ws → DenoteEach s ws vs → (us : List ValueTree) × DenoteEach s ns us
some_values s ws ns vs e h = (vs, subst (λ xs. DenoteEach s xs vs) (sym e) h)
