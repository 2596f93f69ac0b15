-- The variables of types and steps.
use Rattle.std.proofs.Common.{◌≡◌, ℕ, ◌<◌, List, [], ◌∷◌, map, length, refl, ap, sym, ◌∙◌}
use Rattle.std.specs.Prelude.{All}
use Rattle.std.proofs.lemmas.List.Elements.{All-nil, All-cons, All-head, All-tail}
use Rattle.um_units.specs.declared.Atom.TheVariants.{Base}
use Rattle.um_units.specs.PowerMap.{PowerMap, replace, nth, atom}
use Rattle.um_units.specs.Variables.{VariablesBelow}
use Rattle.um_units.proofs.Replacement.{replace_alike}
use Rattle.um_units.proofs.Variables.{VariablesBelow-replace_nth}
use Rattle.um_tree.specs.TypeTree.{TypeTree, bool_type, num_type, list_type, record_type}
use Rattle.um_tree.specs.ProgramTree.{Signature}
use Rattle.um_tree.specs.Typing.{put, put_signature}
use Rattle.um_tree.specs.Laws.{TypeHas}
use Rattle.um_equal_types.specs.Steps.{Step, row_at, wrong_shape_at, type_at}
use Rattle.um_slots.specs.Holes.{Callee, known_by, itself, nobody}
use Rattle.um_equal_types.proofs.HeldSteps.{Holds}

-- each variable of the type is below n
abbrev pub TypeBelow : ℕ → TypeTree → Type 0
TypeBelow n t = TypeHas (VariablesBelow n) t

abbrev pub TypesBelow : ℕ → List TypeTree → Type 0
TypesBelow n [] = Unit {0}
TypesBelow n (t ∷ ts) = TypeBelow n t × TypesBelow n ts

abbrev pub SignatureBelow : ℕ → Signature → Type 0
SignatureBelow n g = TypesBelow n g.params × TypeBelow n g.result

abbrev pub StepsBelow : ℕ → List Step → Type 0
StepsBelow n [] = Unit {0}
StepsBelow n (row_at at u ∷ ss) = VariablesBelow n u × StepsBelow n ss
StepsBelow n (wrong_shape_at at ∷ ss) = VariablesBelow n (atom (Base 0)) × StepsBelow n ss
StepsBelow n (type_at at t ∷ ss) = TypeBelow n t × StepsBelow n ss

-- each variable of the scheme is below their number
abbrev pub CalleeBelow : Callee → Type 0
CalleeBelow (known_by s) = SignatureBelow s.vars s.signature
CalleeBelow itself = Unit {0}
CalleeBelow nobody = Unit {0}

-- ---- replacements that are alike below n
module _ (n : ℕ) (s t : ℕ → PowerMap) (alike : (k : ℕ) → k < n → s k ≡ t k) where
  pub replace_alike_below : (u : PowerMap) → VariablesBelow n u → replace s u ≡ replace t u
  replace_alike_below u low = replace_alike s t u (λ k held. alike k (low k held))

  units_alike_below : (us : List PowerMap) → All (VariablesBelow n) us → map (replace s) us ≡ map (replace t) us
  units_alike_below [] low = refl
  units_alike_below (u ∷ us) low =
      let first = replace_alike_below u (All-head (VariablesBelow n) u us low) in
      let rest = units_alike_below us (All-tail (VariablesBelow n) u us low) in
      λ i. first i ∷ rest i

  pub put_alike_below : (type : TypeTree) → TypeBelow n type → put s type ≡ put t type
  put_alike_below bool_type low = refl
  put_alike_below (num_type u) low = ap num_type (replace_alike_below u low)
  put_alike_below (list_type type) low = ap list_type (put_alike_below type low)
  put_alike_below (record_type r us) low = ap (record_type r) (units_alike_below us low)

  pub types_put_alike_below : (types : List TypeTree) → TypesBelow n types → map (put s) types ≡ map (put t) types
  types_put_alike_below [] low = refl
  types_put_alike_below (type ∷ types) low = let first = put_alike_below type low.0 in let rest = types_put_alike_below types low.1 in λ i. first i ∷ rest i

  pub signature_put_alike_below : (g : Signature) → SignatureBelow n g → put_signature s g ≡ put_signature t g
  signature_put_alike_below g low = λ i. record { params = types_put_alike_below g.params low.0 i; result = put_alike_below g.result low.1 i }

  pub Holds_alike_below : (ss : List Step) → StepsBelow n ss → Holds s ss → Holds t ss
  Holds_alike_below [] low h = tt
  Holds_alike_below (row_at at u ∷ ss) low h = (sym (replace_alike_below u low.0) ∙ h.0, Holds_alike_below ss low.1 h.1)
  Holds_alike_below (wrong_shape_at at ∷ ss) low h = (sym (replace_alike_below (atom (Base 0)) low.0) ∙ h.0, Holds_alike_below ss low.1 h.1)
  Holds_alike_below (type_at at type ∷ ss) low h = Holds_alike_below ss low.1 h

-- ---- units that hold variables below n, put in for variables that have one
module _ (n : ℕ) (us : List PowerMap) (all : All (VariablesBelow n) us) where
  units_put_below : (vs : List PowerMap) → All (VariablesBelow (length us)) vs → All (VariablesBelow n) (map (replace (nth us)) vs)
  units_put_below [] low = All-nil (VariablesBelow n)
  units_put_below (v ∷ vs) low =
      All-cons (VariablesBelow n) (replace (nth us) v) (map (replace (nth us)) vs)
      (VariablesBelow-replace_nth n us v all (All-head (VariablesBelow (length us)) v vs low))
      (units_put_below vs (All-tail (VariablesBelow (length us)) v vs low))

  type_put_below : (t : TypeTree) → TypeBelow (length us) t → TypeBelow n (put (nth us) t)
  type_put_below bool_type low = tt
  type_put_below (num_type u) low = VariablesBelow-replace_nth n us u all low
  type_put_below (list_type t) low = type_put_below t low
  type_put_below (record_type r vs) low = units_put_below vs low

  types_put_below : (ts : List TypeTree) → TypesBelow (length us) ts → TypesBelow n (map (put (nth us)) ts)
  types_put_below [] low = tt
  types_put_below (t ∷ ts) low = (type_put_below t low.0, types_put_below ts low.1)

  pub signature_put_below : (g : Signature) → SignatureBelow (length us) g → SignatureBelow n (put_signature (nth us) g)
  signature_put_below g low = (types_put_below g.params low.0, type_put_below g.result low.1)
