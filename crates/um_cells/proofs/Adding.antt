-- Cells behind well formed ones: an item, and a record with its parts.
use Rattle.std.proofs.Common.{rules, ◌≡◌, refl, sym, ap, ◌∙◌, subst, ℕ, zero, suc, ◌+◌, ◌≤◌, List, [], ◌∷◌, ◌++◌, length, map, Option, Some, Result, Ok, Err, cond, arith, length-append, append_assoc, inl, inr}
use Rattle.std.specs.Prelude.{slice_get, Bool, true, false, IsTrue, OnOk, OnErr}
use Rattle.std.specs.List.{list_all}
use Rattle.um_tree.specs.ValueTree.{ValueTree, ValueTrees, more_values}
use Rattle.um_cells.specs.declared.word.Word.{Word}
use Rattle.um_cells.specs.declared.word.Word.TheVariants.{List as ListAt}
use Rattle.um_cells.specs.declared.cell.Cell.{Cell}
use Rattle.um_cells.specs.declared.cell.Cell.TheVariants.{Item, Record, Part}
use Rattle.um_cells.specs.Denotes.{Denotes, ListFrom, list_from}
use Rattle.um_cells.specs.Formed.{is_item, part_formed, parts_formed, cell_formed, Formed, holds}
use Rattle.um_cells.proofs.Denoting.{Extends, retained, retained_list}
use Rattle.um_cells.proofs.Tests.{both_true, and_true}
use Rattle.um_cells.proofs.Growing.{extends_grown, next_cell, cell_of_append}
use Rattle.um_cells.proofs.WellFormed.{names_among-more, cell_formed-more, item_holds}

formed_behind : (s t more : List Cell) → t ≡ s ++ more → Formed s → ((k : ℕ) (c : Cell) → slice_get more k ≡ Some c → IsTrue (cell_formed t (length s + k) c)) → Formed t
formed_behind s t more e f g n c h =
    elim (cell_of_append s more n c (ap (λ u. slice_get u n) (sym e) ∙ h)) [
      | inl a ↦ cell_formed-more s t n c (extends_grown s t more e) (f n c a)
      | inr a ↦ subst (λ i. IsTrue (cell_formed t i c)) (sym a.1) (g a.0 c a.2)
    ]

formed_item : (s t : List Cell) (w : Word) (next : Option ℕ) → t ≡ s ++ Item w next ∷ [] → Formed s → IsTrue (holds s w) → IsTrue (holds s (list_from next)) → Formed t
formed_item s t w next e f h k = formed_behind s t (Item w next ∷ []) e f last
  where
    grown : Extends s t
    grown = extends_grown s t _ e

    last : (i : ℕ) (c : Cell) → slice_get (Item w next ∷ []) i ≡ Some c → IsTrue (cell_formed t (length s + i) c)
    last zero c a =
        let same : Item w next ≡ c = cc in
        let first = names_among-more s t (length s) (length s + 0) w grown (omega arith) h in
        let others = names_among-more s t (length s) (length s + 0) (list_from next) grown (omega arith) k in
        subst (λ d. IsTrue (cell_formed t (length s + 0) d)) same (and_true _ _ first others)
    last (suc i) c a = absurd cc

pub formed_pushed : (b : Bool) (s t : List Cell) (w : Word) (next : Option ℕ) → t ≡ cond b (s ++ Item w next ∷ []) s → Formed s → IsTrue (holds s w) → IsTrue (holds s (list_from next)) → Formed t
formed_pushed true s t w next e f h k = formed_item s t w next e f h k
formed_pushed false s t w next e f h k = subst Formed (sym e) f

-- the list that begins at the new cell
pub list_added : (s t : List Cell) (w : Word) (next : Option ℕ) (n : ℕ) (v : ValueTree) (vs : ValueTrees) → t ≡ s ++ Item w next ∷ [] → n ≡ length s → Denotes s w v → ListFrom s next vs → ListFrom t (Some n) (more_values v vs)
list_added s t w next n v vs e m h l =
    let grown = extends_grown s t _ e in
    (n, w, next, refl, next_cell s t [] (Item w next) n e m, retained s t grown w v h, retained_list s t grown next vs l)

pub item_added : (s t : List Cell) (w : Word) (next : Option ℕ) (n : ℕ) → t ≡ s ++ Item w next ∷ [] → n ≡ length s → IsTrue (holds t (ListAt n))
item_added s t w next n e m =
    item_holds t n (subst (λ c. IsTrue (is_item c)) (sym (next_cell s t [] (Item w next) n e m)) (search rules))

-- the cells behind the first of these parts
pub shifted_parts : (s t : List Cell) (c : Cell) (cs : List Cell) → t ≡ s ++ c ∷ cs → t ≡ (s ++ c ∷ []) ++ cs
shifted_parts s t c cs e = e ∙ sym (append_assoc s (c ∷ []) cs)

pub shifted_number : (s : List Cell) (c : Cell) (n : ℕ) → n ≡ length s → n + 1 ≡ length (s ++ c ∷ [])
shifted_number s c n e = ap (λ i. i + 1) e ∙ sym (length-append s (c ∷ []))

formed_parts : (s t before : List Cell) (n at : ℕ) (ws : List Word) → Extends s t → length s ≤ n → t ≡ before ++ map Part ws → at ≡ length before → IsTrue (list_all (holds s) ws) → IsTrue (parts_formed t n at (length ws))
formed_parts s t before n at [] g l e a h = search rules
formed_parts s t before n at (w ∷ ws) g l e a h =
    let (p, q) = both_true _ _ h in
    let here = next_cell before t (map Part ws) (Part w) at e a in
    and_true _ _
    (subst (λ c. IsTrue (part_formed t n c)) (sym here) (names_among-more s t (length s) n w g l p))
    (formed_parts s t (before ++ Part w ∷ []) n (at + 1) ws g l (shifted_parts before t (Part w) (map Part ws) e) (shifted_number before (Part w) at a) q)

part_is_formed : (t : List Cell) (n i : ℕ) (ws : List Word) (c : Cell) → slice_get (map Part ws) i ≡ Some c → IsTrue (cell_formed t n c)
part_is_formed t n i [] c h = absurd cc
part_is_formed t n zero (w ∷ ws) c h =
    let same : Part w ≡ c = cc in subst (λ d. IsTrue (cell_formed t n d)) same (search rules)
part_is_formed t n (suc i) (w ∷ ws) c h = part_is_formed t n i ws c h

formed_record : (s t : List Cell) (ws : List Word) → t ≡ s ++ Record (length ws) ∷ map Part ws → Formed s → IsTrue (list_all (holds s) ws) → Formed t
formed_record s t ws e f h = formed_behind s t (Record (length ws) ∷ map Part ws) e f last
  where
    grown : Extends s t
    grown = extends_grown s t _ e

    head : Cell
    head = Record (length ws)

    last : (i : ℕ) (c : Cell) → slice_get (Record (length ws) ∷ map Part ws) i ≡ Some c → IsTrue (cell_formed t (length s + i) c)
    last zero c a =
        let same : Record (length ws) ≡ c = cc in
        let at : length s + 0 + 1 ≡ length (s ++ head ∷ []) = shifted_number s head (length s + 0) (omega arith) in
        subst (λ d. IsTrue (cell_formed t (length s + 0) d)) same
        (formed_parts s t (s ++ head ∷ []) (length s + 0) (length s + 0 + 1) ws grown (omega arith) (shifted_parts s t head (map Part ws) e) at h)
    last (suc i) c a = part_is_formed t (length s + suc i) i ws c a

pub formed_made : (E : Type 0) (r : Result (Unit {0}) E) (s t : List Cell) (ws : List Word) → OnOk r (t ≡ s ++ Record (length ws) ∷ map Part ws) → OnErr r (t ≡ s) → Formed s → IsTrue (list_all (holds s) ws) → Formed t
formed_made E (Ok u) s t ws o e f h = formed_record s t ws o f h
formed_made E (Err x) s t ws o e f h = subst Formed (sym e) f
