use Rattle.std.proofs.Common.{◌++◌, ◌∷◌, [], map, take, sym, ap, ◌∙◌, subst}
use Rattle.std.specs.Prelude.{All}
use Rattle.std.proofs.lemmas.List.{map-append, take_more}
use Rattle.std.proofs.lemmas.List.Elements.{All-nil, All-cons, All-append, All-get_or}
use Rattle.um_units.specs.Variables.{VariablesBelow}
use Rattle.um_check.specs.Combination.{NamesRowsBelow}
use Rattle.um_check.specs.Existence.{exponents}
use Rattle.um_check.specs.Tidy.{AreTidyParts}
use Rattle.um_proof.proofs.yes.part_lists.Goals as goal

pub loop-slot-preserved : goal.loop-slot-preserved
loop-slot-preserved c =
    let old = c.loop-slot.items.items in
    let i = c.loop-slot.slot-index in
    let p = c.in_ok-parts_of.field-0 in
    let low = c.loop-slot-test.true in
    record {
      exact =
          ap (map exponents) c.in_ok-push.ensures.items ∙ map-append exponents old (p ∷ []) ∙ ap (λ xs. xs ++ exponents p ∷ []) c.loop-slot.invariant.exact
          ∙ ap (λ u. take i c.args.powers.now ++ u ∷ []) (c.in_ok-parts_of.ensures.exact ∙ c.slot-item.is) ∙ sym (take_more c.args.powers.now i c.slot-item.result low);
      named = λ n h.
          subst (All (NamesRowsBelow n)) (sym c.in_ok-push.ensures.items)
          (All-append (NamesRowsBelow n) old (p ∷ []) (c.loop-slot.invariant.named n h)
          (All-cons (NamesRowsBelow n) p [] (c.in_ok-parts_of.ensures.named n (subst (VariablesBelow n) (sym c.slot-item.is) (All-get_or (VariablesBelow n) c.args.powers.now i c.slot-item.result low h))) (All-nil (NamesRowsBelow n))));
      tidy = λ n few h.
          subst (All AreTidyParts) (sym c.in_ok-push.ensures.items)
          (All-append AreTidyParts old (p ∷ []) (c.loop-slot.invariant.tidy n few h)
          (All-cons AreTidyParts p [] (c.in_ok-parts_of.ensures.tidy n few (subst (VariablesBelow n) (sym c.slot-item.is) (All-get_or (VariablesBelow n) c.args.powers.now i c.slot-item.result low h))) (All-nil AreTidyParts)));
    }
