use Rattle.std.proofs.Common.{◌≡◌, ◌++◌, [], ◌∷◌, ap, ◌∙◌, append_assoc, map, codes, rules}
use Rattle.std.specs.List.{flat_map, join_by}
use Rattle.um_tree.specs.TypeTree.{type_tree}
use Rattle.um_tree.specs.ProgramTree.{program_tree}
use Rattle.um_show.specs.SchemeText.{type_text}
use Rattle.um_show.proofs.JoinedTexts.{separated}
use Rattle.um_show.proofs.printed_scheme.scheme_text.Goals as goal

pub returns : goal.returns
returns c =
    let text = type_text (program_tree c.args.program.now) in
    let params = c.deref.result.now in let last = type_tree c.args.scheme.now.result in
    let head = c.args.name.now ++ codes " : " in
    let named : c.in_ok-text.text.items ≡ c.args.name.now = search rules in
    let begun = c.in_ok-extend_from_slice.ensures.items ∙ ap (λ s. s ++ codes " : ") named in
    let written = flat_map (λ t. text t ++ codes " -> ") (map type_tree params) in
    c.in_ok-push_type.ensures ∙ ap (λ s. s ++ text last) (c.in_ok-push_params.ensures ∙ ap (λ s. s ++ written) begun)
    ∙ append_assoc head written (text last)
    ∙ ap (λ s. head ++ s) (separated text (codes " -> ") (map type_tree params) last)
    ∙ ap (λ ps. head ++ join_by text (codes " -> ") (map type_tree ps ++ last ∷ [])) c.deref.ensures.value
