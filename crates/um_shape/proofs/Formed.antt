-- Each type and each note of a formed program is at most 400 high.
use Rattle.std.proofs.Common.{ℕ, ◌+◌, length, All, Option, Some, None, get_or}
use Rattle.std.proofs.lemmas.Option.{slice_get-get_or}
use Rattle.um_tree.specs.TypeTree.{NoteTree}
use Rattle.um_tree.specs.ExprTree.{ExprTree, ExprTrees, truth, number, local, call, negate, not_expr, pown, arith, compare, both, either, if, bind, split, nil, list_expr, cons, record_expr, field, none, more}
use Rattle.um_tree.specs.ProgramTree.{RecordTree, FunctionTree, ProgramTree}
use Rattle.um_tree.specs.Formed.{IsFormed, IsFormedRecord, IsFormedFunction, ResultFormed, IsFormedIn, AllFormedIn}
use Rattle.um_shape.specs.LowNotes.{HasLowNotes, HaveLowNotes, HasLowFields, HasLowResult, IsLow}

module _ (p : ProgramTree) where
  module _ (i : ℕ) (f : FunctionTree) where
    mutual
      low_notes : (n : ℕ) (e : ExprTree) → IsFormedIn p i f n e → HasLowNotes e
      low_notes n (truth at b) w = tt
      low_notes n (number at c u) w = tt
      low_notes n (local at k) w = tt
      low_notes n (call at j es) w = have_low_notes n es w.1
      low_notes n (negate at a) w = low_notes n a w
      low_notes n (not_expr at a) w = low_notes n a w
      low_notes n (pown at a i) w = low_notes n a w
      low_notes n (arith at op a b) w = (low_notes n a w.0, low_notes n b w.1)
      low_notes n (compare at sign a b) w = (low_notes n a w.0, low_notes n b w.1)
      low_notes n (both at a b) w = (low_notes n a w.0, low_notes n b w.1)
      low_notes n (either at a b) w = (low_notes n a w.0, low_notes n b w.1)
      low_notes n (if at c a b) w = (low_notes n c w.0, low_notes n a w.1, low_notes n b w.2)
      low_notes n (bind at a b) w = (low_notes n a w.0, low_notes (n + 1) b w.1)
      low_notes n (split at l a b) w = (low_notes n l w.0, low_notes n a w.1, low_notes (n + 2) b w.2)
      low_notes n (nil at note) w = w.1
      low_notes n (list_expr at es) w = have_low_notes n es w.1
      low_notes n (cons at a b) w = (low_notes n a w.0, low_notes n b w.1)
      low_notes n (record_expr at r es) w = have_low_notes n es w.1
      low_notes n (field at r k a) w = low_notes n a w.1

      have_low_notes : (n : ℕ) (es : ExprTrees) → AllFormedIn p i f n es → HaveLowNotes es
      have_low_notes n none w = tt
      have_low_notes n (more e es) w = (low_notes n e w.0, have_low_notes n es w.1)

    low_result : (n : Option NoteTree) → ResultFormed p f n → HasLowResult n
    low_result None w = tt
    low_result (Some n) w = w.1

    low_function : IsFormedFunction p i f → IsLow f
    low_function w = record {
      params = λ k d below. (w.params k d below).1;
      result = low_result f.result w.result;
      body = low_notes (length f.params) f.body w.body;
    }

  low_record : (r : ℕ) (d : RecordTree) → IsFormedRecord p r d → HasLowFields d
  low_record r d w = λ k f below. (w.fields k f below).2

  module _ (formed : IsFormed p) where
    pub low_records : All HasLowFields p.records
    low_records = λ r d below. low_record r (get_or p.records r d) (formed.records r (get_or p.records r d) (slice_get-get_or p.records r d below))

    pub low_functions : All IsLow p.functions
    low_functions = λ i f below. low_function i (get_or p.functions i f) (formed.functions i (get_or p.functions i f) (slice_get-get_or p.functions i f below))
