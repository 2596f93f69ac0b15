use Rattle.std.proofs.Common.{ℕ, List, ◌++◌, ◌∷◌, [], ◌∙◌, sym, ap, map, nat_lt, if◌then◌else◌, arith}
use Rattle.std.specs.List.{range_with_len}
use Rattle.std.proofs.lemmas.List.FromFn.{map-range_with_len_more}
use Rattle.um_elim.proofs.solver.first_index.Goals as goal

pub loop-slot-preserved : goal.loop-slot-preserved
loop-slot-preserved c =
    let holders : ℕ → List ℕ = λ k. if nat_lt k c.args.parameters then [] else k ∷ [] in
    c.in_ok-push.ensures.items ∙ ap (λ xs. xs ++ c.in_ok-first_holders.field-0 ∷ []) c.loop-slot.invariant
    ∙ ap (λ (x : List ℕ). map holders (range_with_len 0 c.loop-slot.slot) ++ x ∷ []) c.in_ok-first_holders.ensures
    ∙ sym (map-range_with_len_more holders 0 c.loop-slot.slot c.loop-slot.slot (omega arith))
