-- Loops over the parameters of a function, as the code keeps them.
use Rattle.std.proofs.Common.{◌≡◌, ℕ, ◌<◌, ◌+◌, List, [], ◌∷◌, ◌++◌, map, take, drop, get_or, length, ap, sym, ◌∙◌, subst, Ok}
use Rattle.std.proofs.lemmas.List.{map-append, take_more}
use Rattle.um_tree.specs.declared.note.Note.{Note}
use Rattle.um_tree.specs.declared.raw.RawParam.{RawParam}
use Rattle.um_tree.specs.TypeTree.{NoteTree, note_tree}
use Rattle.um_tree.specs.RawTree.{ParamSyntax, param_syntax}
use Rattle.um_measures.specs.Known.{Known}
use Rattle.um_measures.specs.Scopes.{Scope}
use Rattle.um_names.proofs.Params.{ParamStage, one_param, param_next}
use Rattle.um_measures.proofs.Stages.{map_from_more}

-- the variables of these parameters
abbrev pub bound : List RawParam → Scope
bound ps = map (λ q. q.binder.name) (map param_syntax ps)

pub param_pushed : (known : Known) (variables : List (List ℕ)) (ps : List RawParam) (i : ℕ) (p : RawParam) (notes new : List Note) (n : Note) (scope after : Scope)
    → ParamStage known variables (map param_syntax ps) (map note_tree notes) scope (map param_syntax (drop i ps)) → i < length ps → p ≡ get_or ps i p → one_param known variables scope (param_syntax p) ≡ Ok (note_tree n)
    → new ≡ notes ++ n ∷ [] → after ≡ scope ++ p.binder.name ∷ [] → ParamStage known variables (map param_syntax ps) (map note_tree new) after (map param_syntax (drop (i + 1) ps))
param_pushed known variables ps i p notes new n scope after s h e r g f =
    let next = param_next known variables (map param_syntax ps) (map note_tree notes) scope (map param_syntax (drop i ps)) (map param_syntax (drop (i + 1) ps)) (param_syntax p) (note_tree n) s (map_from_more param_syntax ps i p h e) r in
    let pushed : map note_tree new ≡ map note_tree notes ++ note_tree n ∷ [] = ap (λ (ns : List Note). map note_tree ns) g ∙ map-append note_tree notes (n ∷ []) in
    subst (λ (ns : List NoteTree). ParamStage known variables (map param_syntax ps) ns after (map param_syntax (drop (i + 1) ps))) (sym pushed)
    (subst (λ (s : Scope). ParamStage known variables (map param_syntax ps) (map note_tree notes ++ note_tree n ∷ []) s (map param_syntax (drop (i + 1) ps))) (sym f) next)

pub bound_more : (ps : List RawParam) (i : ℕ) (p : RawParam) (scope after : Scope) → scope ≡ bound (take i ps) → i < length ps → p ≡ get_or ps i p → after ≡ scope ++ p.binder.name ∷ [] → after ≡ bound (take (i + 1) ps)
bound_more ps i p scope after inv h e f =
    let more : take (i + 1) ps ≡ take i ps ++ p ∷ [] = take_more ps i p h ∙ ap (λ q. take i ps ++ q ∷ []) (sym e) in
    let split : bound (take i ps ++ p ∷ []) ≡ bound (take i ps) ++ p.binder.name ∷ [] =
    ap (λ (qs : List ParamSyntax). map (λ q. q.binder.name) qs) (map-append param_syntax (take i ps) (p ∷ [])) ∙ map-append (λ q. q.binder.name) (map param_syntax (take i ps)) (param_syntax p ∷ []) in
    f ∙ ap (λ (s : Scope). s ++ p.binder.name ∷ []) inv ∙ sym split ∙ sym (ap bound more)
