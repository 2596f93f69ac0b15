-- The test of a word is true exactly where the word denotes a value.
use Rattle.std.proofs.Common.{rules, ◌≡◌, sym, subst, ℕ, List, ◌↔◌}
use Rattle.std.specs.Prelude.{slice_get, Bool, true, IsTrue}
use Rattle.um_tree.specs.ValueTree.{ValueTree}
use Rattle.um_cells.specs.declared.word.Word.{Word}
use Rattle.um_cells.specs.declared.word.Word.TheVariants.{List as ListAt, Rec as RecordAt}
use Rattle.um_cells.specs.declared.cell.Cell.{Cell}
use Rattle.um_cells.specs.Denotes.{Denotes}
use Rattle.um_cells.specs.Formed.{Formed, holds, is_item, is_record}
use Rattle.um_cells.proofs.WellFormed.{value_of_word, item_holds, record_holds}
use Rattle.um_cells.proofs.Walking.{item_of_value, record_of_value}

pub exact_true : (s : List Cell) (w : Word) → Formed s → IsTrue (holds s w) → IsTrue true ↔ ((v : ValueTree) × Denotes s w v)
exact_true s w f h = (λ u. value_of_word s f w h, λ p. search rules)

pub exact_list : (s : List Cell) (w : Word) (n : ℕ) (b : Bool) → Formed s → w ≡ ListAt n → b ≡ is_item (slice_get s n) → IsTrue b ↔ ((v : ValueTree) × Denotes s w v)
exact_list s w n b f e is = (
  λ h. value_of_word s f w (subst (λ x. IsTrue (holds s x)) (sym e) (item_holds s n (subst IsTrue is h))),
  λ p. subst IsTrue (sym is) (item_of_value s w n e p),
)

pub exact_record : (s : List Cell) (w : Word) (r n : ℕ) (b : Bool) → Formed s → w ≡ RecordAt r n → b ≡ is_record (slice_get s n) → IsTrue b ↔ ((v : ValueTree) × Denotes s w v)
exact_record s w r n b f e is = (
  λ h. value_of_word s f w (subst (λ x. IsTrue (holds s x)) (sym e) (record_holds s r n (subst IsTrue is h))),
  λ p. subst IsTrue (sym is) (record_of_value s w r n e p),
)
