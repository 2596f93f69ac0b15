-- What is formed stays so where more is declared.
use Rattle.std.proofs.Common.{◌≡◌, ℕ, zero, suc, ◌≤◌, ◌+◌, List, [], ◌∷◌, ◌++◌, length, get_or, refl, ap, arith, inl, inr, length-append}
use Rattle.std.specs.Prelude.{Option, Some, None, slice_get, ◌⊎◌}
use Rattle.um_frac.specs.declared.number.Frac.{Frac}
use Rattle.um_tree.specs.declared.note.UnitNote.{UnitNote}
use Rattle.um_tree.specs.declared.note.UnitNote.TheVariants as note
use Rattle.um_tree.specs.TypeTree.{TypeTree, bool_type, num_type, list_type, record_type, NoteTree, bool_note, num_note, list_note, record_note}
use Rattle.um_tree.specs.ExprTree.{ExprTree, ExprTrees, truth, number, local, call, negate, not_expr, pown, arith as arith_tree, compare, both, either, if, bind, split, nil, list_expr, cons, record_expr, field, none, more}
use Rattle.um_tree.specs.ProgramTree.{RecordTree, FunctionTree, ProgramTree}
use Rattle.um_tree.specs.Formed.{IsNoteIn, TakesUnits, IsTypeIn, IsNoteTreeIn, IsLiteral, IsFormedIn, AllFormedIn, IsFormedRecord, ResultFormed, IsFormedFunction}
use Rattle.um_names.proofs.CallableNames.{slice_get-prefix}
use Rattle.um_names.proofs.FormedUnits.{BasesBelow-more, in_more}

-- the one program begins with the other
pub record Extends (p q : ProgramTree) : Type 0 where
  pub bases : length p.bases ≤ length q.bases
  pub records : (r : ℕ) (d : RecordTree) → slice_get p.records r ≡ Some d → slice_get q.records r ≡ Some d
  pub functions : (j : ℕ) (g : FunctionTree) → slice_get p.functions j ≡ Some g → slice_get q.functions j ≡ Some g

module _ (p q : ProgramTree) (extends : Extends p q) where
  takes_more : (r n : ℕ) → TakesUnits p.records r n → TakesUnits q.records r n
  takes_more r n h = (h.0, extends.records r h.0 h.1, h.2)

  type_more : (v : ℕ) (t : TypeTree) → IsTypeIn (length p.bases) v p.records t → IsTypeIn (length q.bases) v q.records t
  type_more v bool_type h = tt
  type_more v (num_type u) h = in_more (length p.bases) v (length q.bases) u extends.bases h
  type_more v (list_type t) h = type_more v t h
  type_more v (record_type r us) h = (takes_more r (length us) h.0, λ k d l. in_more (length p.bases) v (length q.bases) (get_or us k d) extends.bases (h.1 k d l))

  note_more : (v : ℕ) (n : UnitNote) → IsNoteIn (length p.bases) v n → IsNoteIn (length q.bases) v n
  note_more v note.Hole h = tt
  note_more v (note.Written u) h = in_more (length p.bases) v (length q.bases) u extends.bases h

  pub note_tree_more : (v : ℕ) (n : NoteTree) → IsNoteTreeIn (length p.bases) v p.records n → IsNoteTreeIn (length q.bases) v q.records n
  note_tree_more v bool_note h = tt
  note_tree_more v (num_note n) h = note_more v n h
  note_tree_more v (list_note n) h = note_tree_more v n h
  note_tree_more v (record_note r ns) h = (takes_more r (length ns) h.0, λ k d l. note_more v (get_or ns k d) (h.1 k d l))

  literal_more : (c : Frac) (n : UnitNote) → IsLiteral (length p.bases) c n → IsLiteral (length q.bases) c n
  literal_more c note.Hole h = h
  literal_more c (note.Written u) h = (h.0, BasesBelow-more (length p.bases) (length q.bases) u extends.bases h.1)

  module _ (i : ℕ) (f : FunctionTree) where
    mutual
      expr_more : (n : ℕ) (e : ExprTree) → IsFormedIn p i f n e → IsFormedIn q i f n e
      expr_more n (truth at b) w = tt
      expr_more n (number at c u) w = literal_more c u w
      expr_more n (local at k) w = w
      expr_more n (call at j es) w = (record { function = w.0.function; known = w.0.known; declared = extends.functions j w.0.function w.0.declared; arguments = w.0.arguments }, exprs_more n es w.1)
      expr_more n (negate at a) w = expr_more n a w
      expr_more n (not_expr at a) w = expr_more n a w
      expr_more n (pown at a k) w = expr_more n a w
      expr_more n (arith_tree at op a b) w = (expr_more n a w.0, expr_more n b w.1)
      expr_more n (compare at sign a b) w = (expr_more n a w.0, expr_more n b w.1)
      expr_more n (both at a b) w = (expr_more n a w.0, expr_more n b w.1)
      expr_more n (either at a b) w = (expr_more n a w.0, expr_more n b w.1)
      expr_more n (if at c a b) w = (expr_more n c w.0, expr_more n a w.1, expr_more n b w.2)
      expr_more n (bind at a b) w = (expr_more n a w.0, expr_more (n + 1) b w.1)
      expr_more n (split at l a b) w = (expr_more n l w.0, expr_more n a w.1, expr_more (n + 2) b w.2)
      expr_more n (nil at note) w = (note_tree_more f.named note w.0, w.1)
      expr_more n (list_expr at es) w = (w.0, exprs_more n es w.1)
      expr_more n (cons at a b) w = (expr_more n a w.0, expr_more n b w.1)
      expr_more n (record_expr at r es) w = ((w.0.0, extends.records r w.0.0 w.0.1, w.0.2), exprs_more n es w.1)
      expr_more n (field at r k a) w = ((w.0.0, extends.records r w.0.0 w.0.1, w.0.2), expr_more n a w.1)

      exprs_more : (n : ℕ) (es : ExprTrees) → AllFormedIn p i f n es → AllFormedIn q i f n es
      exprs_more n none w = tt
      exprs_more n (more e es) w = (expr_more n e w.0, exprs_more n es w.1)

    result_more : (o : Option NoteTree) → ResultFormed p f o → ResultFormed q f o
    result_more None h = tt
    result_more (Some n) h = (note_tree_more f.named n h.0, h.1)

    pub function_more : IsFormedFunction p i f → IsFormedFunction q i f
    function_more h = record {
      few_params = h.few_params;
      few_units = h.few_units;
      units = h.units;
      params = λ k d l. (note_tree_more f.named (get_or f.params k d) (h.params k d l).0, (h.params k d l).1);
      result = result_more f.result h.result;
      noted = h.noted;
      body = expr_more (length f.params) f.body h.body;
      height = h.height;
      nodes = h.nodes;
    }

  pub record_more : (r : ℕ) (d : RecordTree) → IsFormedRecord p r d → IsFormedRecord q r d
  record_more r d h = record {
    some_field = h.some_field;
    few_fields = h.few_fields;
    few_units = h.few_units;
    fields = λ k f l. (type_more d.units (get_or d.fields k f).type (h.fields k f l).0, (h.fields k f l).1, (h.fields k f l).2);
  }

-- ---- one more of each

pub extends_base : (p : ProgramTree) (x : List ℕ) → Extends p (record { bases = p.bases ++ x ∷ []; records = p.records; functions = p.functions })
extends_base p x = record { bases = (let l = length-append p.bases (x ∷ []) in omega (arith, l)); records = λ r d e. e; functions = λ j g e. e }

pub extends_record : (p : ProgramTree) (d : RecordTree) → Extends p (record { bases = p.bases; records = p.records ++ d ∷ []; functions = p.functions })
extends_record p d = record { bases = omega arith; records = λ r e h. slice_get-prefix p.records (d ∷ []) r e h; functions = λ j g e. e }

pub extends_function : (p : ProgramTree) (f : FunctionTree) → Extends p (record { bases = p.bases; records = p.records; functions = p.functions ++ f ∷ [] })
extends_function p f = record { bases = omega arith; records = λ r d e. e; functions = λ j g h. slice_get-prefix p.functions (f ∷ []) j g h }

-- one of these, or the last
pub slice_get-split : {A : Type 0} (xs : List A) (x : A) (k : ℕ) (y : A) → slice_get (xs ++ x ∷ []) k ≡ Some y → (slice_get xs k ≡ Some y) ⊎ ((k ≡ length xs) × (x ≡ y))
slice_get-split [] x zero y e = inr (refl, cc e)
slice_get-split [] x (suc k) y e = absurd cc
slice_get-split (z ∷ xs) x zero y e = inl e
slice_get-split (z ∷ xs) x (suc k) y e = elim (slice_get-split xs x k y e) [ inl h ↦ inl h | inr h ↦ inr (ap suc h.0, h.1) ]
