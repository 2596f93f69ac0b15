use Rattle.std.proofs.Common.{◌≡◌, ℕ, ◌<◌, cond, [], map, length, refl, sym, ap, ◌∙◌, subst, arith}
use Rattle.std.specs.Prelude.{All, IsTrue, nat_eq}
use Rattle.std.proofs.lemmas.List.{length-map}
use Rattle.um_units.specs.PowerMap.{one, nth, replace}
use Rattle.um_units.specs.Variables.{VariablesBelow}
use Rattle.um_tree.specs.Typing.{put_signature}
use Rattle.um_equal_types.specs.Steps.{units_of}
use Rattle.um_rows.specs.Answers.{rows_signature}
use Rattle.um_elim.specs.Numbering.{by_place}
use Rattle.um_rows.specs.Generalised.{generalised_unit}
use Rattle.um_rows.specs.Judgement.{signature_fits}
use Rattle.um_check.specs.Validity.{returned}
use Rattle.um_wide.specs.Room.{IsNarrow}
use Rattle.um_proof.specs.Renaming.{certificate_order, general_units, IsRenamed}
use Rattle.um_proof.specs.Steps.{CarriesReturned}
use Rattle.um_proof.proofs.TidyYes.{tidy_yes}
use Rattle.um_proof.proofs.ValidYes.{head, below, count, state, fits_in_place, end_passes, valid_yes, parts_closed, parts_below}
use Rattle.um_proof.proofs.yes.certificate.Goals as goal

pub renamed_solution-requires-clause-bases : goal.renamed_solution-requires-clause-bases
renamed_solution-requires-clause-bases c = c.requires.rows.bases_below

pub renamed_solution-requires-clause-few : goal.renamed_solution-requires-clause-few
renamed_solution-requires-clause-few c = let f = c.requires.rows.few in let w = c.requires.rows.parameters_within in omega (arith, f, w)

pub renamed_solution-requires-clause-count : goal.renamed_solution-requires-clause-count
renamed_solution-requires-clause-count c =
    let k = c.requires.reached in let j = c.requires.judged in
    ap length (c.deref.ensures.value ∙ k.2.solution) ∙ count c.args.bases c.args.units c.args.rows.now c.requires.rows c.args.partial.now k.0 k.2 k.1 j.0 j.1 j.2

pub renamed_solution-requires-clause-back : goal.renamed_solution-requires-clause-back
renamed_solution-requires-clause-back c = ap length c.deref-2.ensures.value ∙ c.requires.reached.2.back_count

pub renamed_solution-requires-clause-below : goal.renamed_solution-requires-clause-below
renamed_solution-requires-clause-below c =
    let k = c.requires.reached in let j = c.requires.judged in
    subst (All (VariablesBelow c.args.rows.now.slots)) (sym (c.deref.ensures.value ∙ k.2.solution)) (below c.args.bases c.args.units c.args.rows.now c.requires.rows c.args.partial.now k.0 k.2 k.1 j.0 j.1 j.2)

pub renamed_solution-requires-clause-types : goal.renamed_solution-requires-clause-types
renamed_solution-requires-clause-types c = c.requires.rows.types

pub renamed_solution-requires-clause-fits : goal.renamed_solution-requires-clause-fits
renamed_solution-requires-clause-fits c =
    let k = c.requires.reached in let j = c.requires.judged in
    let r = c.args.rows.now in
    subst (λ us. IsTrue (signature_fits (put_signature (nth (general_units (head c.args.bases c.args.units r c.requires.rows) (rows_signature r) us)) (rows_signature r)))) (sym (c.deref.ensures.value ∙ k.2.solution))
    (fits_in_place c.args.bases c.args.units r c.requires.rows c.args.partial.now k.0 k.2 k.1 j.0 j.1 j.2)

pub all_return-requires : goal.all_return-requires
all_return-requires c =
    let k = c.requires.reached in let j = c.requires.judged in
    let few = c.requires.rows.few in
    let r = c.args.rows.now in
    let units = c.deref.result.now in
    let general = general_units (head c.args.bases c.args.units r c.requires.rows) (rows_signature r) units in
    let long = ap length (c.deref.ensures.value ∙ k.2.solution) ∙ count c.args.bases c.args.units r c.requires.rows c.args.partial.now k.0 k.2 k.1 j.0 j.1 j.2 in
    let first = length-map units (generalised_unit c.args.bases c.args.units r.slots) in
    let second = length-map general (replace (by_place (certificate_order (head c.args.bases c.args.units r c.requires.rows) (rows_signature r) units))) in
    let made = ap length (c.deref-3.ensures.value ∙ c.in_ok-renaming.ensures.solution) in
    omega (arith, few, long, first, second, made)

pub with_parts-requires-clause-narrow : goal.with_parts-requires-clause-narrow
with_parts-requires-clause-narrow c = c.requires.reached.2.narrow

pub with_parts-requires-clause-rows : goal.with_parts-requires-clause-rows
with_parts-requires-clause-rows c =
    let k = c.requires.reached in let j = c.requires.judged in
    parts_closed c.args.bases c.args.units c.args.rows.now c.args.partial.now k.0 k.2 (state c.args.bases c.args.units c.args.rows.now c.requires.rows c.args.partial.now k.0 k.2 k.1 j.0 j.1 j.2)

pub returns-in_ok-with_parts-in-Ok-clause-made : goal.returns-in_ok-with_parts-in-Ok-clause-made
returns-in_ok-with_parts-in-Ok-clause-made c = λ at s so.
    let k = c.requires.reached in
    let r = c.args.rows.now in
    let h = head c.args.bases c.args.units r c.requires.rows in
    let yes = c.in_ok-with_parts-in-Ok.field-0 in
    let facts = c.in_ok-with_parts-in-Ok.ensures in
    let is : IsRenamed h (rows_signature r) k.0.solution c.args.partial.now.back.items c.in_ok-renaming.renaming =
    subst (λ us. IsRenamed h (rows_signature r) us c.args.partial.now.back.items c.in_ok-renaming.renaming) (c.deref.ensures.value ∙ k.2.solution)
    (subst (λ bs. IsRenamed h (rows_signature r) c.deref.result.now bs c.in_ok-renaming.renaming) c.deref-2.ensures.value c.in_ok-renaming.ensures) in
    let kept = state c.args.bases c.args.units r c.requires.rows c.args.partial.now k.0 k.2 k.1 at s so in
    valid_yes c.args.bases c.args.units r c.requires.rows c.args.partial.now k.0 k.2 k.1 at s so c.in_ok-renaming.renaming.back.items is.back yes.parts facts.parts
    (facts.named (length r.list.items.items) (parts_below c.args.bases c.args.units r c.args.partial.now k.0 k.2 kept))
    (subst (λ us. (j : ℕ) → j < length us → IsNarrow (returned us c.in_ok-renaming.renaming.back.items j)) (c.deref-3.ensures.value ∙ is.solution)
    (subst (λ bs. (j : ℕ) → j < length c.deref-3.result.now → IsNarrow (returned c.deref-3.result.now bs j)) c.deref-4.ensures.value c.in-Ok.ensures))
    yes (facts.vars ∙ is.vars) (facts.solution ∙ is.solution) facts.back (ap length facts.back ∙ is.back_count ∙ sym facts.vars) facts.divisor refl (facts.rigid ∙ ap (λ us. cond (nat_eq c.args.units 0) [] (map (replace (λ _. one)) us)) k.2.solution)

pub returns-in_ok-with_parts-in-Ok-clause-tidy : goal.returns-in_ok-with_parts-in-Ok-clause-tidy
returns-in_ok-with_parts-in-Ok-clause-tidy c = λ declared.
    let k = c.requires.reached in let j = c.requires.judged in
    let r = c.args.rows.now in
    let h = head c.args.bases c.args.units r c.requires.rows in
    let yes = c.in_ok-with_parts-in-Ok.field-0 in
    let facts = c.in_ok-with_parts-in-Ok.ensures in
    let is : IsRenamed h (rows_signature r) k.0.solution c.args.partial.now.back.items c.in_ok-renaming.renaming =
    subst (λ us. IsRenamed h (rows_signature r) us c.args.partial.now.back.items c.in_ok-renaming.renaming) (c.deref.ensures.value ∙ k.2.solution)
    (subst (λ bs. IsRenamed h (rows_signature r) c.deref.result.now bs c.in_ok-renaming.renaming) c.deref-2.ensures.value c.in_ok-renaming.ensures) in
    let kept = state c.args.bases c.args.units r c.requires.rows c.args.partial.now k.0 k.2 k.1 j.0 j.1 j.2 in
    let units : yes.solution ≡ map (replace (by_place (certificate_order h (rows_signature r) k.0.solution))) (general_units h (rows_signature r) k.0.solution) = facts.solution ∙ is.solution in
    let rigid : yes.rigid ≡ cond (nat_eq c.args.units 0) [] (map (replace (λ _. one)) k.0.solution) = facts.rigid ∙ ap (λ us. cond (nat_eq c.args.units 0) [] (map (replace (λ _. one)) us)) k.2.solution in
    tidy_yes c.args.bases c.args.units r.slots (units_of r.list.items.items) (length r.list.items.items) k.0 k.1 declared c.args.partial.now k.2 (certificate_order h (rows_signature r) k.0.solution) c.in_ok-renaming.renaming.back.items is.declared yes units facts.back
    (facts.tidy (length r.list.items.items) c.requires.rows.number (parts_below c.args.bases c.args.units r c.args.partial.now k.0 k.2 kept)) rigid

pub returns-in-Err-clause-made : goal.returns-in-Err-clause-made
returns-in-Err-clause-made c = λ at s so.
    let k = c.requires.reached in
    let r = c.args.rows.now in
    let h = head c.args.bases c.args.units r c.requires.rows in
    let is : IsRenamed h (rows_signature r) k.0.solution c.args.partial.now.back.items c.in_ok-renaming.renaming =
    subst (λ us. IsRenamed h (rows_signature r) us c.args.partial.now.back.items c.in_ok-renaming.renaming) (c.deref.ensures.value ∙ k.2.solution)
    (subst (λ bs. IsRenamed h (rows_signature r) c.deref.result.now bs c.in_ok-renaming.renaming) c.deref-2.ensures.value c.in_ok-renaming.ensures) in
    end_passes c.args.bases c.args.units r c.requires.rows c.args.partial.now k.0 k.2 k.1 at s so c.in_ok-renaming.renaming.back.items is.back c.in-Err.stop
    (subst (λ us. CarriesReturned us c.in_ok-renaming.renaming.back.items c.in-Err.stop) (c.deref-3.ensures.value ∙ is.solution)
    (subst (λ bs. CarriesReturned c.deref-3.result.now bs c.in-Err.stop) c.deref-4.ensures.value c.in-Err.ensures))
