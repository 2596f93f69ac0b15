use Rattle.std.proofs.Common.{◌≡◌, ◌∙◌, ◌+◌, ◌-◌, ◌<◌, ◌∷◌, [], ◌++◌, Some, ap, arith, length, reverse, slice_get, subst, sym, take}
use Rattle.std.specs.Prelude.{IsTrue}
use Rattle.std.proofs.lemmas.List.{reverse-append, take_all, take_more}
use Rattle.std.proofs.lemmas.Option.{get_or_from_slice_get, slice_get_within}
use Rattle.um_eval.proofs.evaluator.Evaluator.ends_body.Goals as goal

pub returns-in-Some : goal.returns-in-Some
returns-in-Some c = λ h.
    let xs = c.deref.result.now in
    let f = c.in-Some.frame.now in
    let k = length xs - 1 in
    let got : slice_get xs k ≡ Some f = sym c.in-Some.ensures.value in
    let within : k < length xs = slice_get_within xs k f got in
    let all = take_all (k + 1) xs (omega (arith, within)) in
    let whole = sym all ∙ take_more xs k f within ∙ ap (λ g. take k xs ++ g ∷ []) (get_or_from_slice_get xs k f f got) in
    (f, reverse (take k xs), ap reverse (sym c.deref.ensures.value ∙ whole) ∙ reverse-append (take k xs) (f ∷ []), subst IsTrue c.is_body.ensures h)
