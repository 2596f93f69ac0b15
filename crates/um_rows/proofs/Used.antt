-- The units that a typing uses for the holes, in the order of the text.
use Rattle.std.proofs.Common.{◌≡◌, ℕ, ◌+◌, ◌-◌, ◌<◌, true, false, cond, ltb, List, [], ◌∷◌, ◌++◌, map, Option, Some, None, slice_get, ap, ◌∙◌, arith}
use Rattle.std.proofs.lemmas.Bool.Decides.{nat_tests}
use Rattle.um_units.specs.PowerMap.{PowerMap, one}
use Rattle.um_tree.specs.declared.note.UnitNote.{UnitNote}
use Rattle.um_tree.specs.TypeTree.{TypeTree, bool_type, num_type, list_type, record_type, NoteTree, bool_note, num_note, list_note, record_note}
use Rattle.um_tree.specs.ExprTree.{ExprTree, ExprTrees, truth, number, local, call, negate, not_expr, pown, arith as arith_tree, compare, both, either, if, bind, split, nil, list_expr, cons, record_expr, field, none, more}
use Rattle.um_tree.specs.ProgramTree.{RecordTree, Signature}
use Rattle.um_tree.specs.Typing.{put, unit_at, field_types, UnitsMatch, Matches, TypesMatch, ResultMatches, Typed, AllTyped}
use Rattle.um_rows.proofs.PutLiterals.{put_literals, all_put_literals}
use Rattle.um_slots.specs.Holes.{unit_holes, note_holes, Callee, known_by, itself, nobody, callee_holes, record_holes, expr_holes}
use Rattle.um_rows.proofs.Callees.{Offers}

-- ---- units one after another
-- f on the first m numbers, and then g
abbrev pub then_units : ℕ → (ℕ → PowerMap) → (ℕ → PowerMap) → ℕ → PowerMap
then_units m f g k = cond (ltb k m) (f k) (g (k - m))

-- from n on s is f, for m numbers
abbrev pub Agrees : (ℕ → PowerMap) → ℕ → ℕ → (ℕ → PowerMap) → Type 0
Agrees s n m f = (k : ℕ) → k < m → s (n + k) ≡ f k

then_units-first : (m k : ℕ) (f g : ℕ → PowerMap) → k < m → then_units m f g k ≡ f k
then_units-first m k f g h = let e : ltb k m ≡ true = grind (arith, nat_tests) in ap (λ b. cond b (f k) (g (k - m))) e

then_units-second : (m k : ℕ) (f g : ℕ → PowerMap) → then_units m f g (m + k) ≡ g k
then_units-second m k f g =
    let e : ltb (m + k) m ≡ false = grind (arith, nat_tests) in
    let same : (m + k) - m ≡ k = omega arith in
    ap (λ b. cond b (f (m + k)) (g ((m + k) - m))) e ∙ ap g same

pub agrees_first : (s : ℕ → PowerMap) (n m p : ℕ) (f g : ℕ → PowerMap) → Agrees s n (m + p) (then_units m f g) → Agrees s n m f
agrees_first s n m p f g h k l = h k (omega arith) ∙ then_units-first m k f g l

pub agrees_second : (s : ℕ → PowerMap) (n m p : ℕ) (f g : ℕ → PowerMap) → Agrees s n (m + p) (then_units m f g) → Agrees s (n + m) p g
agrees_second s n m p f g h k l = let same : (n + m) + k ≡ n + (m + k) = omega arith in ap s same ∙ h (m + k) (omega arith) ∙ then_units-second m k f g

pub agrees_at : (s : ℕ → PowerMap) (n : ℕ) (u : PowerMap) → Agrees s n 1 (λ _. u) → s n ≡ u
agrees_at s n u h = let same : n ≡ n + 0 = omega arith in ap s same ∙ h 0 (omega arith)

module _ (choice : ℕ → PowerMap) where
  -- ---- notes
  abbrev pub units_used : (ms : List UnitNote) (us : List PowerMap) → UnitsMatch choice ms us → ℕ → PowerMap
  units_used [] us h = λ k. one
  units_used (m ∷ ms) us h = then_units (unit_holes m) (λ _. h.0) (units_used ms h.1 h.3)

  abbrev pub note_used : (m : NoteTree) (t : TypeTree) → Matches choice m t → ℕ → PowerMap
  note_used bool_note t h = λ k. one
  note_used (num_note m) t h = λ k. h.0
  note_used (list_note m) t h = note_used m h.0 h.1
  note_used (record_note r ms) t h = units_used ms h.0 h.1

  abbrev pub notes_used : (ms : List NoteTree) (ts : List TypeTree) → TypesMatch choice ms ts → ℕ → PowerMap
  notes_used [] ts h = λ k. one
  notes_used (m ∷ ms) ts h = then_units (note_holes m) (note_used m h.0 h.2) (notes_used ms h.1 h.3)

  abbrev pub result_used : (r : Option NoteTree) (t : TypeTree) → ResultMatches choice r t → ℕ → PowerMap
  result_used None t h = λ k. one
  result_used (Some m) t h = note_used m t h

  -- ---- expressions
  module _ (records : List RecordTree) (self : Signature) (callee : ℕ → Callee) (calls : ℕ → Signature → Type 0) (opens : (j : ℕ) (g : Signature) → calls j g → Offers self (callee j) g) where
    -- the units of an instance
    abbrev pub offer_used : (c : Callee) (g : Signature) → Offers self c g → ℕ → PowerMap
    offer_used (known_by s) g h = h.0
    offer_used itself g h = λ k. one
    offer_used nobody g h = λ k. one

    abbrev mutual
      pub used : (vars : List TypeTree) (e : ExprTree) (t : TypeTree) → Typed records calls choice vars (put_literals choice e) t → ℕ → PowerMap
      used vars (truth at b) t h = λ k. one
      used vars (number at c m) t h = λ k. h.0
      used vars (local at k) t h = λ k. one
      used vars (call at j es) t h =
          let g : Signature = record { params = h.0; result = t } in
          then_units (callee_holes (callee j)) (offer_used (callee j) g (opens j g h.2)) (all_used vars es h.0 h.1)
      used vars (negate at a) t h = used vars a (num_type h.0) h.1
      used vars (not_expr at a) t h = used vars a bool_type h.0
      used vars (pown at a i) t h = used vars a (num_type h.0) h.1
      used vars (arith_tree at op a b) t h = then_units (expr_holes records callee a) (used vars a (num_type h.0) h.3) (used vars b (num_type h.1) h.4)
      used vars (compare at sign a b) t h = then_units (expr_holes records callee a) (used vars a (num_type h.0) h.1) (used vars b (num_type h.0) h.2)
      used vars (both at a b) t h = then_units (expr_holes records callee a) (used vars a bool_type h.0) (used vars b bool_type h.1)
      used vars (either at a b) t h = then_units (expr_holes records callee a) (used vars a bool_type h.0) (used vars b bool_type h.1)
      used vars (if at c a b) t h = then_units (expr_holes records callee c) (used vars c bool_type h.0) (then_units (expr_holes records callee a) (used vars a t h.1) (used vars b t h.2))
      used vars (bind at a b) t h = then_units (expr_holes records callee a) (used vars a h.0 h.1) (used (vars ++ h.0 ∷ []) b t h.2)
      used vars (split at l a b) t h =
          then_units (expr_holes records callee l) (used vars l (list_type h.0) h.1) (then_units (expr_holes records callee a) (used vars a t h.2) (used (vars ++ h.0 ∷ list_type h.0 ∷ []) b t h.3))
      used vars (nil at m) t h = note_used m (list_type h.0) h.1
      used vars (list_expr at es) t h = all_used vars es (h.0 ∷ h.1) h.2
      used vars (cons at a b) t h = then_units (expr_holes records callee a) (used vars a h.0 h.1) (used vars b (list_type h.0) h.2)
      used vars (record_expr at r es) t h = then_units (record_holes (slice_get records r)) (unit_at h.0) (all_used vars es (map (put (unit_at h.0)) (field_types h.1)) h.3)
      used vars (field at r k a) t h = used vars a (record_type r h.0) h.5

      pub all_used : (vars : List TypeTree) (es : ExprTrees) (ts : List TypeTree) → AllTyped records calls choice vars (all_put_literals choice es) ts → ℕ → PowerMap
      all_used vars none ts h = λ k. one
      all_used vars (more e es) ts h = then_units (expr_holes records callee e) (used vars e h.0 h.2) (all_used vars es h.1 h.3)
