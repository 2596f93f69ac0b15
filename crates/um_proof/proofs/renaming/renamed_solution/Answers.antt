use Rattle.std.proofs.Common.{◌≡◌, ◌+◌, ◌<◌, List, map, length, sym, ap, ◌∙◌, subst, arith}
use Rattle.std.specs.Prelude.{All, IfOk}
use Rattle.std.proofs.lemmas.List.{length-map}
use Rattle.std.proofs.lemmas.List.Elements.{All-weaker}
use Rattle.um_units.specs.PowerMap.{replace}
use Rattle.um_units.specs.Variables.{VariablesBelow}
use Rattle.um_tree.specs.TypeTree.{TypeTree, type_tree, type_trees}
use Rattle.um_tree.specs.Scheme.{signature_types, variables}
use Rattle.um_rows.specs.Answers.{rows_signature}
use Rattle.um_rows.specs.Generalised.{generalised_unit}
use Rattle.um_elim.specs.Numbering.{by_place, variable_order, renumbered}
use Rattle.um_proof.specs.declared.renaming.Renaming.{Renaming}
use Rattle.um_proof.specs.Renaming.{held_below, to_number, AreNumbered, GoBack, certificate_order}
use Rattle.um_proof.proofs.General.{all_general_below}
use Rattle.um_proof.proofs.Renamed.{held_low, to_number_low, are_numbered, is_renamed}
use Rattle.um_proof.proofs.renaming.renamed_solution.Goals as goal

pub held_variables-requires : goal.held_variables-requires
held_variables-requires c =
    let h = c.args.head in
    let us = c.deref.ensures.value ∙ c.in_ok-general.ensures in
    subst (All (VariablesBelow (h.slots + h.parameters))) (sym us) (all_general_below h.bases h.parameters h.slots c.args.solution.now c.requires.count c.requires.below)

pub numbered_solution-requires-clause-variables : goal.numbered_solution-requires-clause-variables
numbered_solution-requires-clause-variables c =
    let h = c.args.head in
    let g = rows_signature c.args.rows.now in
    let n = h.slots + h.parameters in
    let general = map (generalised_unit h.bases h.parameters h.slots) c.args.solution.now in
    let us = c.deref-2.ensures.value ∙ c.in_ok-general.ensures in
    let ks = c.deref-3.ensures.value ∙ c.in_ok-held.ensures ∙ ap (held_below n) (c.deref.ensures.value ∙ c.in_ok-general.ensures) in
    let long : length general ≡ h.slots = length-map c.args.solution.now (generalised_unit h.bases h.parameters h.slots) ∙ c.requires.count in
    let types : All (λ k. k < length general) (variables (signature_types g)) = subst (λ m. All (λ k. k < m) (variables (signature_types g))) (sym long) c.requires.types in
    let low = to_number_low n general (all_general_below h.bases h.parameters h.slots c.args.solution.now c.requires.count c.requires.below) g (held_below n general) types (held_low n general) in
    let few = c.requires.few in
    let wide = All-weaker (λ k. k < n) (λ k. k < 4294967295) (λ k l. omega (arith, l, few)) (variables (to_number g general (held_below n general))) low in
    subst (λ vs. All (λ k. k < 4294967295) (variables (to_number g vs c.deref-3.result.now))) (sym us) (subst (λ is. All (λ k. k < 4294967295) (variables (to_number g general is))) (sym ks) wide)

pub read_numbered-made-requires-clause-numbered : goal.read_numbered-made-requires-clause-numbered
read_numbered-made-requires-clause-numbered c =
    let h = c.args.head in
    let g = rows_signature c.args.rows.now in
    let n = h.slots + h.parameters in
    let general = map (generalised_unit h.bases h.parameters h.slots) c.args.solution.now in
    let order = certificate_order h g c.args.solution.now in
    let us = c.deref-2.ensures.value ∙ c.in_ok-general.ensures in
    let held = c.in_ok-held.ensures ∙ ap (held_below n) (c.deref.ensures.value ∙ c.in_ok-general.ensures) in
    let whole : to_number g c.deref-2.result.now c.deref-3.result.now ≡ to_number g general (held_below n general) = ap (λ vs. to_number g vs c.deref-3.result.now) us ∙ ap (to_number g general) (c.deref-3.ensures.value ∙ held) in
    let types : type_trees c.in_ok-numbered.numbered.types ≡ renumbered (to_number g general (held_below n general)) = c.in_ok-numbered.ensures.types ∙ ap renumbered whole in
    let many = length-map c.args.rows.now.params.items.items type_tree ∙ sym (c.len.ensures ∙ c.args.rows.now.params.items.ok.0) in (
      order,
      map (replace (by_place order)) general,
      sym (c.in_ok-numbered.ensures.vars ∙ ap (λ (ts : List TypeTree). length (variable_order ts)) whole),
      subst (λ ks. AreNumbered (c.len.result + 1) order ks (map (replace (by_place order)) general) (type_trees c.in_ok-numbered.numbered.types)) (sym (c.deref-4.ensures.value ∙ held))
          (are_numbered g n c.len.result general (type_trees c.in_ok-numbered.numbered.types) many types),
    )

pub read_numbered-made-requires-clause-held : goal.read_numbered-made-requires-clause-held
read_numbered-made-requires-clause-held c =
    let h = c.args.head in
    let n = h.slots + h.parameters in
    let held = c.deref-4.ensures.value ∙ c.in_ok-held.ensures in
    subst (λ m. All (λ k. k < m) c.deref-4.result.now) (sym c.requires.back) (subst (All (λ k. k < n)) (sym held) (held_low n c.deref.result.now))

pub returns : goal.returns
returns c =
    let h = c.args.head in
    let g = rows_signature c.args.rows.now in
    let n = h.slots + h.parameters in
    let general = map (generalised_unit h.bases h.parameters h.slots) c.args.solution.now in
    let order = certificate_order h g c.args.solution.now in
    let us = c.deref-2.ensures.value ∙ c.in_ok-general.ensures in
    let held = c.in_ok-held.ensures ∙ ap (held_below n) (c.deref.ensures.value ∙ c.in_ok-general.ensures) in
    let whole : to_number g c.deref-2.result.now c.deref-3.result.now ≡ to_number g general (held_below n general) = ap (λ vs. to_number g vs c.deref-3.result.now) us ∙ ap (to_number g general) (c.deref-3.ensures.value ∙ held) in
    let types : type_trees c.in_ok-numbered.numbered.types ≡ renumbered (to_number g general (held_below n general)) = c.in_ok-numbered.ensures.types ∙ ap renumbered whole in
    let many = length-map c.args.rows.now.params.items.items type_tree ∙ sym (c.len.ensures ∙ c.args.rows.now.params.items.ok.0) in
    let numbered : AreNumbered (c.len.result + 1) order c.deref-4.result.now (map (replace (by_place order)) general) (type_trees c.in_ok-numbered.numbered.types) =
    subst (λ ks. AreNumbered (c.len.result + 1) order ks (map (replace (by_place order)) general) (type_trees c.in_ok-numbered.numbered.types)) (sym (c.deref-4.ensures.value ∙ held))
    (are_numbered g n c.len.result general (type_trees c.in_ok-numbered.numbered.types) many types) in
    let result = c.read_numbered-made.result in
    is_renamed h g c.args.solution.now c.args.back.now c.in_ok-numbered.numbered.vars result (c.in_ok-numbered.ensures.vars ∙ ap (λ (ts : List TypeTree). length (variable_order ts)) whole)
    c.read_numbered-made.ensures.vars
    (c.read_numbered-made.ensures.solution order (map (replace (by_place order)) general) numbered)
    (subst (λ ks. IfOk result (λ (r : Renaming). GoBack order ks c.args.back.now r.back.items)) (c.deref-4.ensures.value ∙ held) (c.read_numbered-made.ensures.back order (map (replace (by_place order)) general) numbered))
    c.read_numbered-made.ensures.count
    (λ m declared. c.read_numbered-made.ensures.declared m declared)
