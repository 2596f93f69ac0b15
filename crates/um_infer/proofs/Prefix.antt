-- The numbering of the types that stand first: what stands behind them doesn't change it.
use Rattle.std.proofs.Common.{◌≡◌, ℕ, List, [], ◌∷◌, ◌++◌, sym, ap, ◌∙◌, subst}
use Rattle.std.specs.Prelude.{IsTrue}
use Rattle.std.proofs.lemmas.Grind.{flat_map-append}
use Rattle.um_units.specs.declared.Atom.TheVariants.{Var}
use Rattle.um_units.specs.PowerMap.{PowerMap, atom}
use Rattle.um_tree.specs.TypeTree.{TypeTree}
use Rattle.um_tree.specs.ProgramTree.{Signature}
use Rattle.um_tree.specs.Typing.{put_signature}
use Rattle.um_tree.specs.Scheme.{signature_types, type_variables, variables}
use Rattle.um_elim.specs.Numbering.{first_occurrences, variable_order, place, by_place}
use Rattle.um_elim.proofs.FirstOccurrences.{member, member-front, member-back, member-first, added, first-append, place-append}
use Rattle.um_elim.proofs.RenamedUnits.{put_alike, puts_alike}

pub place_in_front : (ts us : List TypeTree) (k : ℕ) → IsTrue (member k (variables ts)) → place (variable_order (ts ++ us)) k ≡ place (variable_order ts) k
place_in_front ts us k h =
    ap (λ xs. place (first_occurrences xs) k) (flat_map-append type_variables ts us)
    ∙ ap (λ o. place o k) (first-append (variables ts) (variables us))
    ∙ place-append (variable_order ts) (added (variable_order ts) (variables us)) k (member-first k (variables ts) ∙ h)

-- units that are alike at the variables of a signature
pub signature_alike : (s t : ℕ → PowerMap) (g : Signature) → ((k : ℕ) → IsTrue (member k (variables (signature_types g))) → s k ≡ t k) → put_signature s g ≡ put_signature t g
signature_alike s t g same =
    let parts : variables (signature_types g) ≡ variables g.params ++ variables (g.result ∷ []) = flat_map-append type_variables g.params (g.result ∷ []) in
    let params = puts_alike s t g.params (λ k h. same k (subst (λ xs. IsTrue (member k xs)) (sym parts) (member-front k (variables g.params) (variables (g.result ∷ [])) h))) in
    let result = put_alike s t g.result (λ k h. same k (subst (λ xs. IsTrue (member k xs)) (sym parts) (member-back k (variables g.params) (variables (g.result ∷ [])) (member-front k (type_variables g.result) [] h)))) in
    λ i. record { params = params i; result = result i }

pub numbered_in_front : (g : Signature) (us : List TypeTree) → put_signature (by_place (variable_order (signature_types g ++ us))) g ≡ put_signature (by_place (variable_order (signature_types g))) g
numbered_in_front g us = signature_alike _ _ g (λ k h. ap (λ n. atom (Var n)) (place_in_front (signature_types g) us k h))
