-- The fields of record texts, by name.
use Rattle.std.proofs.Common.{◌≡◌, ℕ, suc, Bool, true, false, ◌&&◌, List, [], ◌∷◌, map, length, cond, refl, sym, subst, ap, ◌∙◌}
use Rattle.std.specs.Prelude.{Option, Some, None, is_some}
use Rattle.std.specs.Str.{bytes_eq}
use Rattle.um_tree.specs.ProgramTree.{RecordTree}
use Rattle.um_tree.specs.RawTree.{FieldPart, ExprSyntax, fields_in_order, exprs_in_order}
use Rattle.std.specs.Prelude.{Ok}
use Rattle.um_measures.specs.Faults.{and_then}
use Rattle.um_names.specs.declared.callable.FieldNumber.{FieldNumber}
use Rattle.um_names.specs.ExprNames.{same_names, if_same_names, field_text_names, length_of, field_of, record_of, with_all_fields, known_fields, resolved_fields, found_record}

pub other_length : (xs ys : List (List ℕ)) → (length xs ≡ length ys → ⊥) → same_names xs ys ≡ false
other_length [] [] h = absurd (h refl)
other_length [] (y ∷ ys) h = refl
other_length (x ∷ xs) [] h = refl
other_length (x ∷ xs) (y ∷ ys) h = by (bytes_eq x y) (other_length xs ys (λ e. h (ap suc e))) where
  by : (b : Bool) → same_names xs ys ≡ false → (b && same_names xs ys) ≡ false
  by true e = e
  by false e = refl

pub same_next : (whole : Bool) (xs ys : List (List ℕ)) (x y : List ℕ) (us vs : List (List ℕ)) → whole ≡ same_names us vs → us ≡ x ∷ xs → vs ≡ y ∷ ys → bytes_eq x y ≡ true → whole ≡ same_names xs ys
same_next whole xs ys x y us vs h e f g = rw h (rw (e, f) (rw g refl))

pub same_stops : (whole : Bool) (xs ys : List (List ℕ)) (x y : List ℕ) (us vs : List (List ℕ)) → whole ≡ same_names us vs → us ≡ x ∷ xs → vs ≡ y ∷ ys → bytes_eq x y ≡ false → whole ≡ false
same_stops whole xs ys x y us vs h e f g = rw h (rw (e, f) (rw g refl))

-- as many names as fields, and as many texts as arguments
pub names-in_order : (fs : List FieldPart) → field_text_names (fields_in_order fs) ≡ map (λ f. f.name) fs
names-in_order [] = refl
names-in_order (f ∷ fs) = ap (λ ns. f.name ∷ ns) (names-in_order fs)

pub length_of-in_order : {A : Type 0} (g : A → ExprSyntax) (es : List A) → length_of (exprs_in_order (map g es)) ≡ length es
length_of-in_order g [] = refl
length_of-in_order g (e ∷ es) = ap suc (length_of-in_order g es)

pub found_number : (o : Option RecordTree) (r : ℕ) (names : List (List ℕ)) → is_some (if_same_names o r names) ≡ true → if_same_names o r names ≡ Some r
found_number None r names e = cc
found_number (Some d) r names e = by (same_names (map (λ f. f.name) d.fields) names) refl e where
  by : (b : Bool) → same_names (map (λ f. f.name) d.fields) names ≡ b → is_some (cond b (Some r) None) ≡ true → cond b (Some r) None ≡ Some r
  by true h f = refl
  by false h f = cc

pub no_number : (o : Option RecordTree) (r : ℕ) (names : List (List ℕ)) → is_some (if_same_names o r names) ≡ false → if_same_names o r names ≡ None
no_number o r names e = by (if_same_names o r names) e where
  by : (p : Option ℕ) → is_some p ≡ false → p ≡ None
  by None f = refl
  by (Some k) f = cc

record_of_first : (records : List RecordTree) (p : FieldPart) (ps : List FieldPart) (o : Option FieldNumber) → field_of records p.name ≡ o → record_of records (map (λ f. f.name) (p ∷ ps)) ≡ with_all_fields records o (map (λ f. f.name) (p ∷ ps))
record_of_first records p ps o e = ap (λ q. with_all_fields records q (map (λ f. f.name) (p ∷ ps))) e

-- the record of a record text is that of its first field, or none
pub record_text_is : (records : List RecordTree) (fs : List FieldPart) (p : FieldPart) (ps : List FieldPart) (u : Unit {0}) (o : Option FieldNumber) (at : ℕ) → fs ≡ p ∷ ps → known_fields records (fields_in_order fs) ≡ Ok u → field_of records p.name ≡ o
    → resolved_fields records (fields_in_order fs) at ≡ found_record (with_all_fields records o (map (λ f. f.name) fs)) at
record_text_is records fs p ps u o at e k f =
    ap (λ r. and_then r (λ _. found_record (record_of records (field_text_names (fields_in_order fs))) at)) k
    ∙ ap (λ (ns : List (List ℕ)). found_record (record_of records ns) at) (names-in_order fs)
    ∙ ap (λ (r : Option ℕ). found_record r at) (subst (λ (qs : List FieldPart). record_of records (map (λ g. g.name) qs) ≡ with_all_fields records o (map (λ g. g.name) qs)) (sym e) (record_of_first records p ps o f))
