-- Nothing is declared in a signature text, so nothing is declared twice.
use Rattle.std.proofs.Common.{◌≡◌, ◌≢◌, ℕ, Bool, true, false, cond, List, [], ◌∷◌, length, ap, subst}
use Rattle.std.specs.Prelude.{◌==◌, Option, Some, None, Result, Ok, Err, slice_get, IfErr}
use Rattle.um_tree.specs.TypeTree.{num_note, list_note, record_note}
use Rattle.um_tree.specs.ProgramTree.{RecordTree}
use Rattle.um_tree.specs.declared.note.UnitNote.TheVariants as note
use Rattle.um_tree.specs.RawTree.{UnitSyntax, NoteSyntax, hole_syntax, unit_note_syntax, TypeSyntax, bool_syntax, num_syntax, record_syntax, list_type_syntax, bracket_type_syntax}
use Rattle.um_measures.specs.declared.stop.NameStop.{NameStop}
use Rattle.um_measures.specs.declared.stop.NameStop.TheVariants.{Twice}
use Rattle.um_measures.specs.Stops.{IsFirst}
use Rattle.um_measures.specs.Faults.{Fault, twice, wrong_count, range, Found, and_then, each}
use Rattle.um_measures.specs.Known.{Known, number_of, record_names, measure_unit}
use Rattle.um_measures.specs.UnitNames.{first_place, unknown_in, unit_of, parts_fit, ranged, resolved_unit}
use Rattle.um_names.specs.TypeNames.{counted, declared_record, resolved_record, resolved_note, resolved_notes, resolved_number, resolved_type, written_type}
use Rattle.um_sig.specs.SignatureNames.{SignatureTypes, unless_unknown, note_names, all_note_names, number_names, type_names, all_type_names, one_type, resolved_types, signature_variables, resolved_signature}

abbrev pub IsNeverTwice : {A : Type 0} → Found A → Type 0
IsNeverTwice found = (at : ℕ) → found ≡ Err (twice at) → ⊥

then_never : {A B : Type 0} (r : Found A) (next : A → Found B) → IsNeverTwice r → ((x : A) → IsNeverTwice (next x)) → IsNeverTwice (and_then r next)
then_never (Ok x) next h k = k x
then_never (Err f) next h k = λ at e. let same : f ≡ twice at = cc e in h at (ap Err same)

each_never : {A B : Type 0} (f : A → Found B) → ((x : A) → IsNeverTwice (f x)) → (xs : List A) → IsNeverTwice (each f xs)
each_never f h [] = λ at e. cc
each_never f h (x ∷ xs) = then_never (f x) (λ y. and_then (each f xs) (λ ys. Ok (y ∷ ys))) (h x) (λ y. then_never (each f xs) (λ ys. Ok (y ∷ ys)) (each_never f h xs) (λ ys at e. cc))

tested_never : {A : Type 0} (b : Bool) (x : A) (f : Fault) → ((at : ℕ) → f ≡ twice at → ⊥) → IsNeverTwice (cond b (Ok x) (Err f))
tested_never true x f h = λ at e. cc
tested_never false x f h = λ at e. let same : f ≡ twice at = cc e in h at same

-- ---- records
counted_never : (o : Option RecordTree) (r n at : ℕ) → IsNeverTwice (counted o r n at)
counted_never None r n at = λ b e. cc
counted_never (Some d) r n at = tested_never (n == d.units) r (wrong_count at) (λ b e. cc)

declared_never : (records : List RecordTree) (o : Option ℕ) (n at : ℕ) → IsNeverTwice (declared_record records o n at)
declared_never records None n at = λ b e. cc
declared_never records (Some r) n at = counted_never (slice_get records r) r n at

module _ (known : Known) (variables : List (List ℕ)) where
  record_never : (x : List ℕ) (n at : ℕ) → IsNeverTwice (resolved_record known x n at)
  record_never x n at = declared_never known.program.records (number_of (record_names known.program.records) x) n at

  -- ---- names
  unknown_never : (o : Option ℕ) → IsNeverTwice (unless_unknown o)
  unknown_never None = λ b e. cc
  unknown_never (Some at) = λ b e. cc

  note_names_never : (n : NoteSyntax) → IsNeverTwice (note_names known variables n)
  note_names_never (hole_syntax at) = λ b e. cc
  note_names_never (unit_note_syntax at u) = unknown_never (unknown_in (measure_unit known) variables u)

  all_note_names_never : (ns : List NoteSyntax) → IsNeverTwice (all_note_names known variables ns)
  all_note_names_never [] = λ b e. cc
  all_note_names_never (n ∷ ns) = then_never (note_names known variables n) (λ _. all_note_names known variables ns) (note_names_never n) (λ _. all_note_names_never ns)

  number_names_never : (n : Option NoteSyntax) → IsNeverTwice (number_names known variables n)
  number_names_never None = λ b e. cc
  number_names_never (Some n) = note_names_never n

  type_names_never : (t : TypeSyntax) → IsNeverTwice (type_names known variables t)
  type_names_never bool_syntax = λ b e. cc
  type_names_never (num_syntax n) = number_names_never n
  type_names_never (record_syntax at x ns) =
      then_never (resolved_record known x (length ns) at) (λ _. all_note_names known variables ns) (record_never x (length ns) at) (λ _. all_note_names_never ns)
  type_names_never (list_type_syntax t) = type_names_never t
  type_names_never (bracket_type_syntax t) = type_names_never t

  all_type_names_never : (ts : List TypeSyntax) → IsNeverTwice (all_type_names known variables ts)
  all_type_names_never [] = λ b e. cc
  all_type_names_never (t ∷ ts) = then_never (type_names known variables t) (λ _. all_type_names known variables ts) (type_names_never t) (λ _. all_type_names_never ts)

  -- ---- types
  ranged_never : (u : UnitSyntax) (o : Option ℕ) → IsNeverTwice (ranged (measure_unit known) variables u o)
  ranged_never u (Some at) = λ b e. cc
  ranged_never u None = tested_never (parts_fit (measure_unit known) variables u) (unit_of (measure_unit known) variables u) (range (first_place u)) (λ b e. cc)

  note_never : (n : NoteSyntax) → IsNeverTwice (resolved_note known variables false n)
  note_never (hole_syntax at) = λ b e. cc
  note_never (unit_note_syntax at u) =
      then_never (resolved_unit (measure_unit known) variables u) (λ v. Ok (note.Written v)) (ranged_never u (unknown_in (measure_unit known) variables u)) (λ v b e. cc)

  number_never : (n : Option NoteSyntax) → IsNeverTwice (resolved_number known variables false n)
  number_never None = λ b e. cc
  number_never (Some n) = note_never n

  resolved_never : (t : TypeSyntax) → IsNeverTwice (resolved_type known variables false t)
  resolved_never bool_syntax = λ b e. cc
  resolved_never (num_syntax n) = then_never (resolved_number known variables false n) (λ m. Ok (num_note m)) (number_never n) (λ m b e. cc)
  resolved_never (record_syntax at x ns) =
      then_never (resolved_record known x (length ns) at) (λ r. and_then (resolved_notes known variables false ns) (λ ms. Ok (record_note r ms))) (record_never x (length ns) at)
      (λ r. then_never (resolved_notes known variables false ns) (λ ms. Ok (record_note r ms)) (each_never (resolved_note known variables false) note_never ns) (λ ms b e. cc))
  resolved_never (list_type_syntax t) = then_never (resolved_type known variables false t) (λ n. Ok (list_note n)) (resolved_never t) (λ n b e. cc)
  resolved_never (bracket_type_syntax t) = resolved_never t

  one_never : (t : TypeSyntax) → IsNeverTwice (one_type known variables t)
  one_never t = then_never (resolved_type known variables false t) (λ n. Ok (written_type n)) (resolved_never t) (λ n b e. cc)

pub signature_is_never_twice : (known : Known) (ts : List TypeSyntax) → IsNeverTwice (resolved_signature known ts)
unfolding resolved_signature
signature_is_never_twice known ts =
    let variables = signature_variables ts in
    then_never (all_type_names known variables ts) (λ _. and_then (resolved_types known variables ts) (λ types. Ok (let found : SignatureTypes = record { types = types; vars = length variables } in found)))
    (all_type_names_never known variables ts)
    (λ _. then_never (resolved_types known variables ts) (λ types. Ok (let found : SignatureTypes = record { types = types; vars = length variables } in found))
    (each_never (one_type known variables) (one_never known variables) ts) (λ types b e. cc))

-- a first fault that is never that of a second declaration is refused as none
pub no_twice : {T A : Type 0} → (found : Found A) (r : Result T NameStop) → IsNeverTwice found → IfErr r (IsFirst found) → IfErr r (λ stop. (at : ℕ) → stop ≢ Twice at)
no_twice found (Ok x) never h = tt
no_twice found (Err stop) never h = λ at same. never at (subst (IsFirst found) same h)
