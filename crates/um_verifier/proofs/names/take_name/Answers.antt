use Rattle.std.proofs.Common.{◌∷◌, [], ℕ, List, true, sym, ap, subst, ◌∙◌}
use Rattle.um_measures.specs.Known.{is_among}
use Rattle.um_verifier.specs.Names.{Takes}
use Rattle.um_verifier.proofs.TakenNames.{was_taken, is_taken}
use Rattle.um_verifier.proofs.names.take_name.Goals as goal

pub returns-then-has : goal.returns-then-has
returns-then-has c =
    let same = c.as_slice-bytes.ensures in
    was_taken c.args.taken.now c.args.taken.now c.args.name.now (ap (is_among c.args.taken.now) (sym same) ∙ sym c.has.ensures ∙ c.if-has.true)

pub returns : goal.returns
returns c =
    let bytes = c.as_slice-bytes.result.now in
    let new = c.add.new.self in
    subst (λ (x : List ℕ). Takes true c.args.taken.now (x ∷ []) new) c.as_slice-bytes.ensures
    (is_taken c.args.taken.now new bytes c.is_name.result c.if-not-is_name.false c.is_name.ensures (sym c.has.ensures ∙ c.if-has.false) c.in_ok-add.ensures)
