-- Fields of all records by name, where one more is there.
use Rattle.std.proofs.Common.{◌≡◌, ℕ, zero, suc, ◌<◌, ◌+◌, Bool, true, false, cond, List, [], ◌∷◌, ◌++◌, map, take, get_or, length, refl, ap, sym, ◌∙◌, arith, length-take-le}
use Rattle.std.specs.Prelude.{Option, Some, None, is_some, slice_get}
use Rattle.std.specs.Str.{bytes_eq}
use Rattle.std.proofs.lemmas.List.{map-append, take_more, length-map}
use Rattle.std.proofs.lemmas.Slice.Eq.{bytes_eq-Decides}
use Rattle.um_tree.specs.declared.program.FieldDecl.{FieldDecl}
use Rattle.um_tree.specs.ProgramTree.{FieldTree, RecordTree, field_tree}
use Rattle.um_names.specs.declared.callable.FieldNumber.{FieldNumber}
use Rattle.um_measures.specs.Known.{number_of, is_among, names_of_fields}
use Rattle.um_names.specs.ExprNames.{field_or, field_of}
use Rattle.um_names.specs.Parts.{field_else, field_if, field_at}
use Rattle.um_names.specs.Tables.{numbered_field}
use Rattle.um_measures.proofs.NameLists.{or_else, if_named, is_among-number, number_of-append, number_of-below}
use Rattle.um_names.proofs.CallableNames.{slice_get-prefix, slice_get-last}

is_there : {A : Type 0} (xs : List A) (k : ℕ) → k < length xs → is_some (slice_get xs k) ≡ true
is_there [] k h = absurd (omega arith)
is_there (x ∷ xs) zero h = refl
is_there (x ∷ xs) (suc k) h = is_there xs k (omega arith)

else_there : (o p : Option FieldNumber) → is_some o ≡ true → field_else o p ≡ o
else_there None p e = cc
else_there (Some f) p e = refl

prefix_there : (ns : List FieldNumber) (n : FieldNumber) (k : ℕ) (p o : Option FieldNumber) → slice_get ns k ≡ o → is_some o ≡ true → slice_get (ns ++ n ∷ []) k ≡ field_else o p
prefix_there ns n k p None e h = cc
prefix_there ns n k p (Some f) e h = slice_get-prefix ns (n ∷ []) k f e

-- the name of a field is new
pub field_added : (names : List (List ℕ)) (ns : List FieldNumber) (x : List ℕ) (n : FieldNumber) → length names ≡ length ns
    → (y : List ℕ) → numbered_field (ns ++ n ∷ []) (number_of (names ++ x ∷ []) y) ≡ field_else (numbered_field ns (number_of names y)) (field_if y x n)
field_added names ns x n counts y = ap (numbered_field (ns ++ n ∷ [])) (number_of-append y names x) ∙ by (number_of names y) (bytes_eq y x) refl where
  by : (o : Option ℕ) (b : Bool) → number_of names y ≡ o → numbered_field (ns ++ n ∷ []) (or_else o (cond b (Some (length names)) None)) ≡ field_else (numbered_field ns o) (cond b (Some n) None)
  by (Some k) b e = prefix_there ns n k (cond b (Some n) None) (slice_get ns k) refl (is_there ns k (omega (arith, number_of-below y names k e, counts)))
  by None true e = ap (λ (k : ℕ). slice_get (ns ++ n ∷ []) k) counts ∙ slice_get-last ns n
  by None false e = refl

-- or it is known, and the field is hidden
pub field_hidden : (names : List (List ℕ)) (ns : List FieldNumber) (x : List ℕ) (n : FieldNumber) → length names ≡ length ns → is_among names x ≡ true
    → (y : List ℕ) → numbered_field ns (number_of names y) ≡ field_else (numbered_field ns (number_of names y)) (field_if y x n)
field_hidden names ns x n counts known y = by (number_of names y) (bytes_eq y x) refl refl where
  by : (o : Option ℕ) (b : Bool) → number_of names y ≡ o → bytes_eq y x ≡ b → numbered_field ns o ≡ field_else (numbered_field ns o) (cond b (Some n) None)
  by (Some k) b e g = sym (else_there (slice_get ns k) (cond b (Some n) None) (is_there ns k (omega (arith, number_of-below y names k e, counts))))
  by None false e g = refl
  by None true e g =
      let same : y ≡ x = (bytes_eq-Decides y x).0 g in
      let absent : is_some (number_of names x) ≡ false = ap (λ (z : List ℕ). is_some (number_of names z)) (sym same) ∙ ap is_some e in
      let bad : true ≡ false = sym known ∙ is_among-number x names ∙ absent in
      absurd cc

else_else : (a b c : Option FieldNumber) → field_else (field_else a b) c ≡ field_else a (field_else b c)
else_else None b c = refl
else_else (Some f) b c = refl

at_else : (r i : ℕ) (o : Option ℕ) (b : Bool) → field_else (field_at r o) (cond b (Some (record { record_number = r; field_number = i })) None) ≡ field_at r (or_else o (cond b (Some i) None))
at_else r i None true = refl
at_else r i None false = refl
at_else r i (Some k) b = refl

-- the names of these fields
abbrev pub decl_names : List FieldDecl → List (List ℕ)
decl_names fs = map (λ f. f.name) (map field_tree fs)

decl_names_more : (fs : List FieldDecl) (i : ℕ) (f : FieldDecl) → i < length fs → f ≡ get_or fs i f → decl_names (take (i + 1) fs) ≡ decl_names (take i fs) ++ f.name ∷ []
decl_names_more fs i f h e =
    let more : take (i + 1) fs ≡ take i fs ++ f ∷ [] = take_more fs i f h ∙ ap (λ g. take i fs ++ g ∷ []) (sym e) in
    ap decl_names more ∙ ap (λ (gs : List FieldTree). map (λ g. g.name) gs) (map-append field_tree (take i fs) (f ∷ [])) ∙ map-append (λ g. g.name) (map field_tree (take i fs)) (field_tree f ∷ [])

decl_names_length : (fs : List FieldDecl) → length (decl_names fs) ≡ length fs
decl_names_length fs = length-map (map field_tree fs) (λ f. f.name) ∙ length-map fs field_tree

-- one more field of a record
pub fields_more : (r : ℕ) (fs : List FieldDecl) (i : ℕ) (f : FieldDecl) (before now after : List ℕ → Option FieldNumber) → ((y : List ℕ) → now y ≡ field_else (before y) (field_at r (number_of (decl_names (take i fs)) y))) → i < length fs → f ≡ get_or fs i f
    → ((y : List ℕ) → after y ≡ field_else (now y) (field_if y f.name (record { record_number = r; field_number = i })))
    → (y : List ℕ) → after y ≡ field_else (before y) (field_at r (number_of (decl_names (take (i + 1) fs)) y))
fields_more r fs i f before now after inv h e added y =
    let count : length (decl_names (take i fs)) ≡ i = decl_names_length (take i fs) ∙ length-take-le i fs (omega arith) in
    let number : number_of (decl_names (take (i + 1) fs)) y ≡ or_else (number_of (decl_names (take i fs)) y) (if_named y f.name i) =
    ap (λ (ns : List (List ℕ)). number_of ns y) (decl_names_more fs i f h e) ∙ number_of-append y (decl_names (take i fs)) f.name ∙ ap (λ (k : ℕ). or_else (number_of (decl_names (take i fs)) y) (if_named y f.name k)) count in
    added y ∙ ap (λ o. field_else o (field_if y f.name (record { record_number = r; field_number = i }))) (inv y)
    ∙ else_else (before y) (field_at r (number_of (decl_names (take i fs)) y)) (field_if y f.name (record { record_number = r; field_number = i }))
    ∙ ap (field_else (before y)) (at_else r i (number_of (decl_names (take i fs)) y) (bytes_eq y f.name) ∙ ap (field_at r) (sym number))

pub else_none : (o : Option FieldNumber) → o ≡ field_else o None
else_none None = refl
else_none (Some f) = refl

-- the fields where one more record is declared
pub field_of-append : (ds : List RecordTree) (d : RecordTree) (x : List ℕ) → field_of (ds ++ d ∷ []) x ≡ field_else (field_of ds x) (field_at (length ds) (number_of (names_of_fields d) x))
field_of-append [] d x = by (number_of (names_of_fields d) x) where
  by : (o : Option ℕ) → field_or o None ≡ field_at 0 o
  by None = refl
  by (Some k) = refl
field_of-append (e ∷ ds) d x = ap (field_or (number_of (names_of_fields e) x)) (field_of-append ds d x) ∙ by (number_of (names_of_fields e) x) (field_of ds x) (number_of (names_of_fields d) x) where
  by : (o : Option ℕ) (p : Option FieldNumber) (q : Option ℕ) → field_or o (field_else p (field_at (length ds) q)) ≡ field_else (field_or o p) (field_at (suc (length ds)) q)
  by (Some k) p q = refl
  by None (Some f) q = refl
  by None None None = refl
  by None None (Some k) = refl
