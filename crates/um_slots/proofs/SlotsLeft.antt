-- The keys of expressions one after another: what is left when the first ones have their slots.
use Rattle.std.proofs.Common.{◌≡◌, refl, sym, ap, subst, ◌∙◌, ℕ, ◌+◌, ◌<◌, ◌≤◌, List, [], ◌++◌, length, get_or, Ok, Err, arith}
use Rattle.std.proofs.lemmas.List.{append_assoc, append-nil}
use Rattle.um_tree.specs.declared.expression.Expr.{Expr}
use Rattle.um_tree.specs.ExprTree.{expr_tree}
use Rattle.um_tree.specs.ProgramTree.{RecordTree}
use Rattle.um_slots.specs.declared.stop.SlotStop.{SlotStop}
use Rattle.um_slots.specs.declared.slots.Slots.{Slots}
use Rattle.um_uses.specs.Holes.{Callee, expr_holes, exprs_holes}
use Rattle.um_slots.specs.Keys.{Key, expr_keys, exprs_keys}
use Rattle.um_slots.specs.Slotting.{HaveSlots}
use Rattle.um_slots.proofs.Parts.{from, from_more, from_end}
use Rattle.um_slots.proofs.TableLaws.{slots_both, slots_stop}

module _ (records : List RecordTree) (callee : ℕ → Callee) (old : Slots) (es : List Expr) where
  abbrev n : ℕ
  n = length old.holes.items

  abbrev left : ℕ → ℕ → List Key
  left k i = exprs_keys records callee k (from es i)

  -- the first i expressions have their slots
  pub record SlotsLeft (i : ℕ) (now : Slots) : Type 0 where
    pub done : List Key
    pub whole : left n 0 ≡ done ++ left (length now.holes.items) i
    pub table : HaveSlots done old now (Ok tt)
    pub holes : n + exprs_holes records callee (from es 0) ≡ length now.holes.items + exprs_holes records callee (from es i)

  pub slots_left_first : SlotsLeft 0 old
  slots_left_first = record { done = []; whole = refl; table = λ order t. t; holes = refl }

  module _ (i : ℕ) (e : Expr) (now : Slots) (below : i < length es) (is : e ≡ get_or es i e) (l : SlotsLeft i now) where
    abbrev m : ℕ
    m = length now.holes.items

    abbrev first : List Key
    first = expr_keys records callee m (expr_tree e)

    abbrev rest : List Key
    rest = left (m + expr_holes records callee (expr_tree e)) (i + 1)

    split : left m i ≡ first ++ rest
    split = ap (exprs_keys records callee m) (from_more es i e below is)

    pub slots_left_stops : (new : Slots) (x : SlotStop) → HaveSlots first now new (Err x) → HaveSlots (left n 0) old new (Err x)
    slots_left_stops new x h =
        subst (λ ks. HaveSlots ks old new (Err x)) (sym (l.whole ∙ ap (λ ks. l.done ++ ks) split)) (slots_both l.done (first ++ rest) old now new tt (Err x) l.table (slots_stop first rest now new x h))

    pub slots_left_next : (new : Slots) → HaveSlots first now new (Ok tt) → length new.holes.items ≡ m + expr_holes records callee (expr_tree e) → SlotsLeft (i + 1) new
    slots_left_next new h counted = record {
      done = l.done ++ first;
      whole = l.whole ∙ ap (λ ks. l.done ++ ks) split ∙ sym (append_assoc l.done first rest) ∙ ap (λ (k : ℕ). (l.done ++ first) ++ left k (i + 1)) (sym counted);
      table = slots_both l.done first old now new tt (Ok tt) l.table h;
      holes = (let more = ap (exprs_holes records callee) (from_more es i e below is) in let had = l.holes in omega (arith, more, had, counted));
    }

  pub slots_left_last : (i : ℕ) (now : Slots) → length es ≤ i → SlotsLeft i now → HaveSlots (left n 0) old now (Ok tt) × (length now.holes.items ≡ n + exprs_holes records callee (from es 0))
  slots_left_last i now past l =
      let end : left n 0 ≡ l.done = l.whole ∙ ap (λ xs. l.done ++ exprs_keys records callee (length now.holes.items) xs) (from_end es i past) ∙ append-nil l.done in
      let none_left = ap (exprs_holes records callee) (from_end es i past) in
      let had = l.holes in
      (subst (λ ks. HaveSlots ks old now (Ok tt)) (sym end) l.table, omega (arith, none_left, had))
