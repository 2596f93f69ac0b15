use Rattle.std.proofs.Common.{◌≡◌, ◌+◌, suc, ◌++◌, [], ◌∷◌, sym, ap, ◌∙◌, arith}
use Rattle.std.specs.List.{range_with_len}
use Rattle.um_gen.proofs.Places.{one_more_place}
use Rattle.um_gen.proofs.program.set_places.Goals as goal

pub loop-k-preserved : goal.loop-k-preserved
loop-k-preserved c =
    let k = c.loop-k.k in
    let next : k + 1 ≡ suc k = omega arith in
    record {
      places = c.in_ok-push.ensures.items ∙ ap (λ ps. ps ++ k ∷ []) c.loop-k.invariant.places ∙ sym (ap (range_with_len 0) next ∙ one_more_place k);
      ops = c.loop-k.invariant.ops;
    }
