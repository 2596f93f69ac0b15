-- The types of signature texts name records by their heads alone.
use Rattle.std.proofs.Common.{◌≡◌, ℕ, zero, suc, false, List, [], ◌∷◌, map, length, refl, ap, sym, subst, ◌∙◌, Ok}
use Rattle.std.specs.Prelude.{Option, Some, None, slice_get}
use Rattle.um_tree.specs.TypeTree.{TypeTree}
use Rattle.um_tree.specs.ProgramTree.{RecordTree, ProgramTree}
use Rattle.um_tree.specs.RawTree.{TypeSyntax, bool_syntax, num_syntax, record_syntax, list_type_syntax, bracket_type_syntax}
use Rattle.um_measures.specs.declared.abbreviation.Abbreviation.{Abbreviation}
use Rattle.um_measures.specs.declared.stop.NameStop.{NameStop}
use Rattle.um_measures.specs.ClosedUnits.{given}
use Rattle.um_measures.specs.Faults.{Found, and_then}
use Rattle.um_sig.specs.Heads.{head_of, heads}
use Rattle.um_measures.specs.Known.{Known, number_of, record_names}
use Rattle.um_sig.specs.SignatureNames.{SignatureTypes, all_note_names, type_names, all_type_names, one_type, resolved_types, signature_variables, resolved_signature}
use Rattle.um_measures.specs.Stops.{IsFirst}
use Rattle.um_names.specs.TypeNames.{counted, declared_record, resolved_record, resolved_notes, resolved_type, written_type}
use Rattle.um_tree.specs.TypeTree.{list_note, record_note}
use Rattle.um_measures.proofs.Firsts.{first_and_then, first_next}
use Rattle.um_sig.proofs.HeadNames.{names_of_heads}

counted_head : (ds : List RecordTree) (q r n at : ℕ) → counted (slice_get (map head_of ds) q) r n at ≡ counted (slice_get ds q) r n at
counted_head [] q r n at = refl
counted_head (d ∷ ds) zero r n at = refl
counted_head (d ∷ ds) (suc q) r n at = counted_head ds q r n at

declared_head : (ds : List RecordTree) (o : Option ℕ) (n at : ℕ) → declared_record (map head_of ds) o n at ≡ declared_record ds o n at
declared_head ds None n at = refl
declared_head ds (Some r) n at = counted_head ds r r n at

module _ (p : ProgramTree) (ss : List Abbreviation) where
  head_is : (x : List ℕ) (n at : ℕ) → resolved_record (heads p ss) x n at ≡ resolved_record (given p ss) x n at
  head_is x n at = ap (λ (ns : List (List ℕ)). declared_record (map head_of p.records) (number_of ns x) n at) (names_of_heads p.records) ∙ declared_head p.records (number_of (record_names p.records) x) n at

  module _ (variables : List (List ℕ)) where
    names_are : (t : TypeSyntax) → type_names (heads p ss) variables t ≡ type_names (given p ss) variables t
    names_are bool_syntax = refl
    names_are (num_syntax n) = refl
    names_are (record_syntax at x ns) = ap (λ r. and_then r (λ _. all_note_names (given p ss) variables ns)) (head_is x (length ns) at)
    names_are (list_type_syntax t) = names_are t
    names_are (bracket_type_syntax t) = names_are t

    all_names_are : (ts : List TypeSyntax) → all_type_names (heads p ss) variables ts ≡ all_type_names (given p ss) variables ts
    all_names_are [] = refl
    all_names_are (t ∷ ts) =
        ap (λ r. and_then r (λ _. all_type_names (heads p ss) variables ts)) (names_are t) ∙ ap (λ (q : Found (Unit {0})). and_then (type_names (given p ss) variables t) (λ _. q)) (all_names_are ts)

    type_is : (t : TypeSyntax) → resolved_type (heads p ss) variables false t ≡ resolved_type (given p ss) variables false t
    type_is bool_syntax = refl
    type_is (num_syntax n) = refl
    type_is (record_syntax at x ns) = ap (λ r. and_then r (λ q. and_then (resolved_notes (given p ss) variables false ns) (λ ms. Ok (record_note q ms)))) (head_is x (length ns) at)
    type_is (list_type_syntax t) = ap (λ r. and_then r (λ n. Ok (list_note n))) (type_is t)
    type_is (bracket_type_syntax t) = type_is t

    one_is : (t : TypeSyntax) → one_type (heads p ss) variables t ≡ one_type (given p ss) variables t
    one_is t = ap (λ r. and_then r (λ n. Ok (written_type n))) (type_is t)

    types_are : (ts : List TypeSyntax) → resolved_types (heads p ss) variables ts ≡ resolved_types (given p ss) variables ts
    types_are [] = refl
    types_are (t ∷ ts) =
        ap (λ r. and_then r (λ y. and_then (resolved_types (heads p ss) variables ts) (λ ys. Ok (y ∷ ys)))) (one_is t)
        ∙ ap (λ (q : Found (List TypeTree)). and_then (one_type (given p ss) variables t) (λ y. and_then q (λ ys. Ok (y ∷ ys)))) (types_are ts)

  -- the signature's types are those beside the whole program
  pub signature_alike : (ts : List TypeSyntax) → resolved_signature (heads p ss) ts ≡ resolved_signature (given p ss) ts
  unfolding resolved_signature
  signature_alike ts =
      let names = signature_variables ts in
      ap (λ (r : Found (Unit {0})). and_then r (λ _. and_then (resolved_types (heads p ss) names ts) (λ (types : List TypeTree). Ok (let found : SignatureTypes = record { types = types; vars = length names } in found)))) (all_names_are names ts)
      ∙ ap (λ (r : Found (List TypeTree)). and_then (all_type_names (given p ss) names ts) (λ _. and_then r (λ types. Ok (let found : SignatureTypes = record { types = types; vars = length names } in found)))) (types_are names ts)

-- part by part
module _ (known : Known) (ts : List TypeSyntax) where
  abbrev names : List (List ℕ)
  names = signature_variables ts

  abbrev with_types : List TypeTree → Found SignatureTypes
  with_types types = Ok (record { types = types; vars = length names })

  abbrev with_names : Unit {0} → Found SignatureTypes
  with_names _ = and_then (resolved_types known names ts) with_types

  pub signature_is : (variables : List (List ℕ)) (types : List TypeTree) (n : ℕ) (u : Unit {0}) → variables ≡ names → all_type_names known variables ts ≡ Ok u → resolved_types known variables ts ≡ Ok types → n ≡ length variables
      → resolved_signature known ts ≡ Ok (record { types = types; vars = n })
  unfolding resolved_signature
  signature_is variables types n u v a t m =
      ap (λ r. and_then r with_names) (subst (λ (vs : List (List ℕ)). all_type_names known vs ts ≡ Ok u) v a) ∙ ap (λ r. and_then r with_types) (subst (λ (vs : List (List ℕ)). resolved_types known vs ts ≡ Ok types) v t)
      ∙ ap (λ (l : ℕ). Ok (record { types = types; vars = l })) (ap length (sym v) ∙ sym m)

  pub names_stop : (variables : List (List ℕ)) (stop : NameStop) → variables ≡ names → IsFirst (all_type_names known variables ts) stop → IsFirst (resolved_signature known ts) stop
  unfolding resolved_signature
  names_stop variables stop v h = first_and_then (all_type_names known names ts) with_names stop (subst (λ (vs : List (List ℕ)). IsFirst (all_type_names known vs ts) stop) v h)

  pub types_stop : (variables : List (List ℕ)) (stop : NameStop) (u : Unit {0}) → variables ≡ names → all_type_names known variables ts ≡ Ok u → IsFirst (resolved_types known variables ts) stop → IsFirst (resolved_signature known ts) stop
  unfolding resolved_signature
  types_stop variables stop u v a h =
      first_next (all_type_names known names ts) with_names u stop (subst (λ (vs : List (List ℕ)). all_type_names known vs ts ≡ Ok u) v a)
      (first_and_then (resolved_types known names ts) with_types stop (subst (λ (vs : List (List ℕ)). IsFirst (resolved_types known vs ts) stop) v h))
