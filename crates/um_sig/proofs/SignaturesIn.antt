-- The types of a signature that is read are over the declared base units, their own variables and the declared records.
use Rattle.std.proofs.Common.{sym, ◌≡◌, ℕ, ◌<◌, false, List, [], ◌∷◌, ◌++◌, length, get_or, subst}
use Rattle.std.specs.Prelude.{All, Result, Ok, Err, IfOk}
use Rattle.std.specs.List.{flat_map}
use Rattle.std.proofs.lemmas.List.{append-nil, append_assoc}
use Rattle.std.proofs.lemmas.List.Elements.{All-nil, All-cons, All-head, All-tail, All-append}
use Rattle.um_units.specs.PowerMap.{PowerMap}
use Rattle.um_tree.specs.TypeTree.{TypeTree, NoteTree, bool_type, num_type, list_type, record_type}
use Rattle.um_tree.specs.ProgramTree.{RecordTree, ProgramTree}
use Rattle.um_tree.specs.RawTree.{TypeSyntax}
use Rattle.um_tree.specs.Scheme.{unit_variables, type_variables, variables}
use Rattle.um_tree.specs.Formed.{BasesBelow, IsUnitIn, IsTypeIn}
use Rattle.um_tree.specs.Laws.{TypeHas}
use Rattle.um_elim.proofs.VariablesKept.{unit_all}
use Rattle.um_measures.specs.declared.abbreviation.Abbreviation.{Abbreviation}
use Rattle.um_measures.specs.ClosedUnits.{given}
use Rattle.um_measures.specs.Faults.{and_then}
use Rattle.um_measures.specs.Known.{Known}
use Rattle.um_names.specs.TypeNames.{resolved_type, written_type}
use Rattle.um_sig.specs.SignatureNames.{SignatureTypes, all_type_names, one_type, resolved_types, signature_variables, resolved_signature}
use Rattle.um_names.proofs.FormedUnits.{AreClosedIn, closed_last, closed_none}
use Rattle.um_names.proofs.FormedTypes.{then_found, type_in, type_written}
use Rattle.um_sig.specs.declared.signature.Signature.{Signature}
use Rattle.um_sig.specs.declared.stop.SigText.{SigText}
use Rattle.um_sig.specs.Instances.{AreOverBases}
use Rattle.um_sig.specs.Laws.{FormedSignaturesAreOverTheirVariables}
use Rattle.um_sig.specs.Reading.{signature_types_of, AreClosedUnits, IsSignatureIn}
use Rattle.um_sig.specs.ReadingSteps.{IsNamed}

-- ---- what such types hold
module _ (n m : ℕ) (records : List RecordTree) where
  units_variables : (us : List PowerMap) → All (IsUnitIn n m) us → All (λ k. k < m) (flat_map unit_variables us)
  units_variables [] h = All-nil (λ k. k < m)
  units_variables (u ∷ us) h =
      All-append (λ k. k < m) (unit_variables u) (flat_map unit_variables us)
      (unit_all m u (All-head (IsUnitIn n m) u us h).1)
      (units_variables us (All-tail (IsUnitIn n m) u us h))

  type_over : (t : TypeTree) → IsTypeIn n m records t → All (λ k. k < m) (type_variables t)
  type_over bool_type h = All-nil (λ k. k < m)
  type_over (num_type u) h = unit_all m u h.1
  type_over (list_type t) h = type_over t h
  type_over (record_type r us) h = units_variables us h.1

  pub types_over : (ts : List TypeTree) → All (IsTypeIn n m records) ts → All (λ k. k < m) (variables ts)
  types_over [] h = All-nil (λ k. k < m)
  types_over (t ∷ ts) h =
      All-append (λ k. k < m) (type_variables t) (variables ts)
      (type_over t (All-head (IsTypeIn n m records) t ts h))
      (types_over ts (All-tail (IsTypeIn n m records) t ts h))

  type_over_bases : (t : TypeTree) → IsTypeIn n m records t → TypeHas (BasesBelow n) t
  type_over_bases bool_type h = tt
  type_over_bases (num_type u) h = h.0
  type_over_bases (list_type t) h = type_over_bases t h
  type_over_bases (record_type r us) h = λ k d l. (h.1 k d l).0

  pub types_over_bases : (ts : List TypeTree) → All (IsTypeIn n m records) ts → AreOverBases n ts
  types_over_bases ts h = λ k d l. type_over_bases (get_or ts k d) (h k d l)

pub formed_signatures_are_over_their_variables : FormedSignaturesAreOverTheirVariables
formed_signatures_are_over_their_variables bases vars records types h = (types_over bases vars records types h, types_over_bases bases vars records types h)

-- ---- what is read
closed_behind : (n : ℕ) (done ss : List Abbreviation) → AreClosedIn n done → AreClosedUnits n ss → AreClosedIn n (done ++ ss)
closed_behind n done [] closed h = subst (AreClosedIn n) (sym (append-nil done)) closed
closed_behind n done (s ∷ ss) closed h =
    subst (AreClosedIn n) (append_assoc done (s ∷ []) ss)
    (closed_behind n (done ++ s ∷ []) ss
    (closed_last n done s closed (All-head (λ (a : Abbreviation). IsUnitIn n 0 a.unit) s ss h))
    (All-tail (λ (a : Abbreviation). IsUnitIn n 0 a.unit) s ss h))

closed_units : (n : ℕ) (ss : List Abbreviation) → AreClosedUnits n ss → AreClosedIn n ss
closed_units n ss h = closed_behind n [] ss (closed_none n) h

module _ (known : Known) (variables : List (List ℕ)) (closed : AreClosedIn (length known.program.bases) known.shorts) where
  abbrev Has : TypeTree → Type 0
  Has = IsTypeIn (length known.program.bases) (length variables) known.program.records

  one_in : (text : TypeSyntax) (t : TypeTree) → one_type known variables text ≡ Ok t → Has t
  one_in text t e =
      let w = then_found (resolved_type known variables false text) (λ (n : NoteTree). Ok (written_type n)) t e in
      let same : written_type w.0 ≡ t = cc (w.2) in
      subst Has same (type_written (length known.program.bases) (length variables) known.program.records w.0 (type_in known variables false closed text w.0 w.1).0)

  each_in : (texts : List TypeSyntax) (ts : List TypeTree) → resolved_types known variables texts ≡ Ok ts → All Has ts
  each_in [] ts e = let same : [] ≡ ts = cc e in subst (All Has) same (All-nil Has)
  each_in (text ∷ texts) ts e =
      let w = then_found (one_type known variables text) (λ (t : TypeTree). and_then (resolved_types known variables texts) (λ (us : List TypeTree). Ok (t ∷ us))) ts e in
      let z = then_found (resolved_types known variables texts) (λ (us : List TypeTree). Ok (w.0 ∷ us)) ts w.2 in
      let same : w.0 ∷ z.0 ≡ ts = cc (z.2) in
      subst (All Has) same (All-cons Has w.0 z.0 (one_in text w.0 w.1) (each_in texts z.0 z.1))

signature_in : (known : Known) → AreClosedIn (length known.program.bases) known.shorts → (texts : List TypeSyntax) (s : SignatureTypes) → resolved_signature known texts ≡ Ok s →
    All (IsTypeIn (length known.program.bases) s.vars known.program.records) s.types
unfolding resolved_signature
signature_in known closed texts s e =
    let names = signature_variables texts in
    let found : List TypeTree → SignatureTypes = λ types. record { types = types; vars = length names } in
    let w = then_found (all_type_names known names texts) (λ _. and_then (resolved_types known names texts) (λ types. Ok (found types))) s e in
    let z = then_found (resolved_types known names texts) (λ types. Ok (found types)) s w.2 in
    let same : found z.0 ≡ s = cc (z.2) in
    subst (λ (q : SignatureTypes). All (IsTypeIn (length known.program.bases) q.vars known.program.records) q.types) same (each_in known names closed texts z.0 z.1)

pub named_in : (p : ProgramTree) (shorts : List Abbreviation) (texts : List TypeSyntax) (r : Result Signature SigText) → AreClosedUnits (length p.bases) shorts →
    IsNamed (resolved_signature (given p shorts) texts) r → IfOk r (IsSignatureIn p)
named_in p shorts texts (Ok s) closed is = signature_in (given p shorts) (closed_units (length p.bases) shorts closed) texts (signature_types_of s) is
named_in p shorts texts (Err e) closed is = tt
