use Rattle.std.proofs.Common.{◌+◌, [], ◌∷◌, ◌++◌, Some, refl, sym, ap, ◌∙◌}
use Rattle.std.proofs.lemmas.List.FromFn.{map-range_with_len_more}
use Rattle.um_unit_reasons.proofs.telling.own_variables.Goals as goal

pub loop-v-preserved : goal.loop-v-preserved
loop-v-preserved c =
    c.in_ok-push.ensures.items ∙ ap (λ xs. xs ++ Some (c.args.slots + c.loop-v.v) ∷ []) c.loop-v.invariant
    ∙ sym (map-range_with_len_more Some c.args.slots c.loop-v.v (c.args.slots + c.loop-v.v) refl)
