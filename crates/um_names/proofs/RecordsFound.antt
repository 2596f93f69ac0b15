-- The record of a record text.
use Rattle.std.proofs.Common.{◌≡◌, ℕ, zero, suc, ◌+◌, Bool, true, false, ◌&&◌, cond, List, [], ◌∷◌, ◌++◌, length, refl, sym, ap, subst, ◌∙◌, arith}
use Rattle.std.specs.Prelude.{Option, Some, None, slice_get}
use Rattle.std.specs.Str.{bytes_eq}
use Rattle.std.proofs.lemmas.Slice.Eq.{bytes_eq-Decides}
use Rattle.um_tree.specs.Formed.{AreDistinct}
use Rattle.um_tree.specs.ProgramTree.{RecordTree}
use Rattle.um_names.specs.declared.callable.FieldNumber.{FieldNumber}
use Rattle.um_names.specs.ExprNames.{same_names, if_same_names, with_all_fields, field_or, field_of, later_record}
use Rattle.um_measures.specs.Known.{number_of, one_later, names_of_fields, field_names}
use Rattle.um_names.specs.RecordLaws.{RecordHasTheseFields, RecordIsFound}
use Rattle.um_names.proofs.CallableNames.{slice_get-prefix}
use Rattle.um_names.proofs.DistinctNames.{behind, distinct-back}
use Rattle.um_measures.proofs.NameLists.{number_of-below}

itself : (x : List ℕ) → bytes_eq x x ≡ true
itself x = (bytes_eq-Decides x x).1 refl

same-itself : (xs : List (List ℕ)) → same_names xs xs ≡ true
same-itself [] = refl
same-itself (x ∷ xs) = ap (λ b. b && same_names xs xs) (itself x) ∙ same-itself xs

same-equal : (xs ys : List (List ℕ)) → same_names xs ys ≡ true → ys ≡ xs
same-equal [] [] e = refl
same-equal [] (y ∷ ys) e = absurd cc
same-equal (x ∷ xs) [] e = absurd cc
same-equal (x ∷ xs) (y ∷ ys) e = by (bytes_eq x y) refl (same-equal xs ys) e where
  by : (b : Bool) → bytes_eq x y ≡ b → (same_names xs ys ≡ true → ys ≡ xs) → (b && same_names xs ys) ≡ true → (y ∷ ys) ≡ (x ∷ xs)
  by true f rest h = ap (λ (z : List ℕ). z ∷ ys) (sym ((bytes_eq-Decides x y).0 f)) ∙ ap (λ (zs : List (List ℕ)). x ∷ zs) (rest h)
  by false f rest h = absurd cc

abbrev IsOf : List RecordTree → List (List ℕ) → ℕ → Type 0
IsOf records names r = (d : RecordTree) × (slice_get records r ≡ Some d) × (names ≡ names_of_fields d)

with_all-is : (records : List RecordTree) (o : Option FieldNumber) (names : List (List ℕ)) (r : ℕ) → with_all_fields records o names ≡ Some r → IsOf records names r
with_all-is records None names r e = absurd cc
with_all-is records (Some f) names r e = by (slice_get records f.record_number) refl e where
  of : (d : RecordTree) (b : Bool) → slice_get records f.record_number ≡ Some d → same_names (names_of_fields d) names ≡ b → cond b (Some f.record_number) None ≡ Some r → IsOf records names r
  of d true g h i = let same : f.record_number ≡ r = cc i in subst (IsOf records names) same (d, g, same-equal (names_of_fields d) names h)
  of d false g h i = absurd cc

  by : (o : Option RecordTree) → slice_get records f.record_number ≡ o → if_same_names o f.record_number names ≡ Some r → IsOf records names r
  by None g h = absurd cc
  by (Some d) g h = of d (same_names (names_of_fields d) names) g refl h

pub record_has_these_fields : RecordHasTheseFields
record_has_these_fields records [] r e = absurd cc
record_has_these_fields records (x ∷ xs) r e = with_all-is records (field_of records x) (x ∷ xs) r e

number_there : (names : List (List ℕ)) (x : List ℕ) (k : ℕ) → number_of names x ≡ Some k → slice_get names k ≡ Some x
number_there [] x k e = absurd cc
number_there (y ∷ ys) x k e = by (bytes_eq x y) refl (number_of ys x) (number_there ys x) e where
  by : (b : Bool) → bytes_eq x y ≡ b → (o : Option ℕ) → ((j : ℕ) → o ≡ Some j → slice_get ys j ≡ Some x) → cond b (Some 0) (one_later o) ≡ Some k → slice_get (y ∷ ys) k ≡ Some x
  by true f o rest h = let z : 0 ≡ k = cc h in subst (λ j. slice_get (y ∷ ys) j ≡ Some x) z (ap Some (sym ((bytes_eq-Decides x y).0 f)))
  by false f None rest h = absurd cc
  by false f (Some j) rest h = let z : suc j ≡ k = cc h in subst (λ i. slice_get (y ∷ ys) i ≡ Some x) z (rest j refl)

-- a record's first field is one of all fields
field_there : (ds : List RecordTree) (r : ℕ) (d : RecordTree) (x : List ℕ) (xs : List (List ℕ)) → slice_get ds r ≡ Some d → names_of_fields d ≡ x ∷ xs → (j : ℕ) × (slice_get (field_names ds) j ≡ Some x)
field_there [] r d x xs e n = absurd cc
field_there (c ∷ ds) zero d x xs e n =
    let same : c ≡ d = cc e in
    (0, ap (λ (ns : List (List ℕ)). slice_get (ns ++ field_names ds) 0) (ap names_of_fields same ∙ n))
field_there (c ∷ ds) (suc r) d x xs e n =
    let w = field_there ds r d x xs e n in
    (length (names_of_fields c) + w.0, behind (names_of_fields c) (field_names ds) w.0 ∙ w.1)

abbrev FoundAt : List RecordTree → List ℕ → ℕ → Type 0
FoundAt ds x r = (f : FieldNumber) × (field_of ds x ≡ Some f) × (f.record_number ≡ r)

field_found : (ds : List RecordTree) (r : ℕ) (d : RecordTree) (x : List ℕ) (xs : List (List ℕ)) → AreDistinct (field_names ds) → slice_get ds r ≡ Some d → names_of_fields d ≡ x ∷ xs → FoundAt ds x r
field_found [] r d x xs once e n = absurd cc
field_found (c ∷ ds) zero d x xs once e n =
    let same : c ≡ d = cc e in
    let first : number_of (names_of_fields c) x ≡ Some 0 = ap (λ (ns : List (List ℕ)). number_of ns x) (ap names_of_fields same ∙ n) ∙ ap (λ b. cond b (Some 0) (one_later (number_of xs x))) (itself x) in
    (record { record_number = 0; field_number = 0 }, ap (λ o. field_or o (field_of ds x)) first, refl)
field_found (c ∷ ds) (suc r) d x xs once e n =
    by (number_of (names_of_fields c) x) refl (field_found ds r d x xs (distinct-back (names_of_fields c) (field_names ds) once) e n)
  where
    by : (o : Option ℕ) → number_of (names_of_fields c) x ≡ o → FoundAt ds x r → FoundAt (c ∷ ds) x (suc r)
    by None h w =
        (record { record_number = suc (w.0).record_number; field_number = (w.0).field_number }, ap (λ o. field_or o (field_of ds x)) h ∙ ap later_record w.1, ap suc w.2)
    by (Some k) h w =
        let there = field_there ds r d x xs e n in
        let same : k ≡ length (names_of_fields c) + there.0 =
        once k (length (names_of_fields c) + there.0) x (slice_get-prefix (names_of_fields c) (field_names ds) k x (number_there (names_of_fields c) x k h)) (behind (names_of_fields c) (field_names ds) there.0 ∙ there.1) in
        let below = number_of-below x (names_of_fields c) k h in
        absurd (omega (arith, same, below))

pub record_is_found : RecordIsFound
record_is_found records r d x xs once e n =
    let w = field_found records r d x xs once e n in
    let here : slice_get records (w.0).record_number ≡ Some d = ap (slice_get records) w.2 ∙ e in
    let all : same_names (names_of_fields d) (x ∷ xs) ≡ true = ap (λ (ns : List (List ℕ)). same_names ns (x ∷ xs)) n ∙ same-itself (x ∷ xs) in
    ap (λ o. with_all_fields records o (x ∷ xs)) w.1 ∙ ap (λ o. if_same_names o (w.0).record_number (x ∷ xs)) here ∙ ap (λ b. cond b (Some ((w.0).record_number)) None) all ∙ ap Some w.2
