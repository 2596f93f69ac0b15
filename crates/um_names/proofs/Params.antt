-- Loops over the parameters of a function.
use Rattle.std.proofs.Common.{◌≡◌, ℕ, List, [], ◌∷◌, ◌++◌, refl, ap, sym, ◌∙◌, Ok, Err, append_assoc, append-nil, true}
use Rattle.um_tree.specs.TypeTree.{NoteTree}
use Rattle.um_tree.specs.RawTree.{ParamSyntax}
use Rattle.um_measures.specs.declared.stop.NameStop.{NameStop}
use Rattle.um_measures.specs.Faults.{Fault, Found, and_then}
use Rattle.um_measures.specs.Stops.{IsFirst}
use Rattle.um_measures.specs.Known.{Known}
use Rattle.um_names.specs.TypeNames.{resolved_type}
use Rattle.um_measures.specs.Scopes.{Scope}
use Rattle.um_names.specs.Resolution.{resolved_params, unless_repeated}
use Rattle.um_measures.proofs.Firsts.{first_from}

-- a parameter: its name, and then its type
abbrev pub one_param : Known → List (List ℕ) → Scope → ParamSyntax → Found NoteTree
one_param known variables scope p = and_then (unless_repeated scope p.binder) (λ _. resolved_type known variables true p.type)

-- these stand for the parameters before, if the others stand for something
pub record ParamStage (known : Known) (variables : List (List ℕ)) (ps : List ParamSyntax) (done : List NoteTree) (scope : Scope) (rest : List ParamSyntax) : Type 0 where
  pub is : resolved_params known variables [] ps ≡ and_then (resolved_params known variables scope rest) (λ ns. Ok (done ++ ns))

goes : (u : Found (Unit {0})) (t : Found NoteTree) (rest : Found (List NoteTree)) (n : NoteTree) → and_then u (λ _. t) ≡ Ok n → and_then u (λ _. and_then t (λ m. and_then rest (λ ns. Ok (m ∷ ns)))) ≡ and_then rest (λ ns. Ok (n ∷ ns))
goes (Ok x) (Ok m) rest n e = let same : m ≡ n = cc e in ap (λ (z : NoteTree). and_then rest (λ ns. Ok (z ∷ ns))) same
goes (Ok x) (Err f) rest n e = absurd cc
goes (Err f) t rest n e = absurd cc

stops : (u : Found (Unit {0})) (t : Found NoteTree) (rest : Found (List NoteTree)) (f : Fault) → and_then u (λ _. t) ≡ Err f → and_then u (λ _. and_then t (λ m. and_then rest (λ ns. Ok (m ∷ ns)))) ≡ Err f
stops (Ok x) (Ok m) rest f e = absurd cc
stops (Ok x) (Err g) rest f e = let same : g ≡ f = cc e in ap (λ (z : Fault). Err z) same
stops (Err g) t rest f e = let same : g ≡ f = cc e in ap (λ (z : Fault). Err z) same

shift : (done : List NoteTree) (n : NoteTree) (rest : Found (List NoteTree)) → and_then (and_then rest (λ ns. Ok (n ∷ ns))) (λ ns. Ok (done ++ ns)) ≡ and_then rest (λ ns. Ok ((done ++ n ∷ []) ++ ns))
shift done n (Ok ns) = ap Ok (sym (append_assoc done (n ∷ []) ns))
shift done n (Err f) = refl

pub param_next : (known : Known) (variables : List (List ℕ)) (ps : List ParamSyntax) (done : List NoteTree) (scope : Scope) (rest qs : List ParamSyntax) (p : ParamSyntax) (n : NoteTree) → ParamStage known variables ps done scope rest → rest ≡ p ∷ qs
    → one_param known variables scope p ≡ Ok n → ParamStage known variables ps (done ++ n ∷ []) (scope ++ p.binder.name ∷ []) qs
param_next known variables ps done scope rest qs p n s e r = record {
  is = s.is ∙ ap (λ (xs : List ParamSyntax). and_then (resolved_params known variables scope xs) (λ ns. Ok (done ++ ns))) e
      ∙ ap (λ z. and_then z (λ ns. Ok (done ++ ns))) (goes (unless_repeated scope p.binder) (resolved_type known variables true p.type) (resolved_params known variables (scope ++ p.binder.name ∷ []) qs) n r)
      ∙ shift done n (resolved_params known variables (scope ++ p.binder.name ∷ []) qs);
}

pub param_stops : (known : Known) (variables : List (List ℕ)) (ps : List ParamSyntax) (done : List NoteTree) (scope : Scope) (rest qs : List ParamSyntax) (p : ParamSyntax) (stop : NameStop) → ParamStage known variables ps done scope rest → rest ≡ p ∷ qs
    → IsFirst (one_param known variables scope p) stop → IsFirst (resolved_params known variables [] ps) stop
param_stops known variables ps done scope rest qs p stop s e = first_from (one_param known variables scope p) (resolved_params known variables [] ps) (λ f r.
    s.is ∙ ap (λ (xs : List ParamSyntax). and_then (resolved_params known variables scope xs) (λ ns. Ok (done ++ ns))) e
    ∙ ap (λ z. and_then z (λ ns. Ok (done ++ ns))) (stops (unless_repeated scope p.binder) (resolved_type known variables true p.type) (resolved_params known variables (scope ++ p.binder.name ∷ []) qs) f r)) stop

pub params_end : (known : Known) (variables : List (List ℕ)) (ps : List ParamSyntax) (done : List NoteTree) (scope : Scope) (rest : List ParamSyntax) → ParamStage known variables ps done scope rest → rest ≡ [] → resolved_params known variables [] ps ≡ Ok done
params_end known variables ps done scope rest s e =
    s.is ∙ ap (λ (xs : List ParamSyntax). and_then (resolved_params known variables scope xs) (λ ns. Ok (done ++ ns))) e ∙ ap Ok (append-nil done)
