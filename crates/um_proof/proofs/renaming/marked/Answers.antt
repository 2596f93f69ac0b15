use Rattle.std.proofs.Common.{◌++◌, [], ◌∷◌, cond, false, sym, ap, ◌∙◌}
use Rattle.std.specs.Prelude.{slice_index_or}
use Rattle.um_proof.proofs.HeldVariables.{range_more}
use Rattle.um_proof.proofs.renaming.marked.Goals as goal

pub loop-k-preserved : goal.loop-k-preserved
loop-k-preserved c =
    let k = c.loop-k.k in
    c.in_ok-push_marked.ensures
    ∙ ap (λ xs. xs ++ cond (slice_index_or c.args.marks.now k false) (k ∷ []) []) c.loop-k.invariant
    ∙ sym (range_more (λ i. slice_index_or c.args.marks.now i false) k)
