use Rattle.std.proofs.Common.{ℕ, List, ap, sym, map, drop, ◌+◌, ◌∙◌}
use Rattle.std.specs.List.{flat_map}
use Rattle.um_tree.specs.RawTree.{TypeSyntax, type_syntax}
use Rattle.um_measures.specs.Variables.{first_occurrences, type_variables}
use Rattle.um_sig.specs.SignatureNames.{signature_variables}
use Rattle.um_measures.proofs.Stages.{map_from_more, map_from-end}
use Rattle.um_measures.proofs.Occurrences.{occur_next}
use Rattle.um_sig.proofs.types.signature_variables.Goals as goal

pub loop-ty-init : goal.loop-ty-init
loop-ty-init c = ap (λ (ns : List (List ℕ)). first_occurrences ns (flat_map type_variables (map type_syntax c.args.raw.now))) (sym c.with_digest-names.ensures)

pub loop-ty-preserved : goal.loop-ty-preserved
loop-ty-preserved c =
    let ts = c.args.raw.now in
    let i = c.loop-ty.ty-index in
    let x = c.ty-item.result in
    occur_next (signature_variables (map type_syntax ts)) c.loop-ty.names c.add_type_variables.new.names (flat_map type_variables (map type_syntax (drop i ts))) (type_variables (type_syntax x)) (flat_map type_variables (map type_syntax (drop (i + 1) ts)))
    c.loop-ty.invariant (ap (flat_map type_variables) (map_from_more type_syntax ts i x c.loop-ty-test.true c.ty-item.is)) c.in_ok-add_type_variables.ensures

pub returns : goal.returns
returns c = sym (c.loop-ty.invariant ∙ ap (λ (ts : List TypeSyntax). first_occurrences c.loop-ty.names (flat_map type_variables ts)) (map_from-end type_syntax c.args.raw.now c.loop-ty.ty-index c.loop-ty-test.false))
