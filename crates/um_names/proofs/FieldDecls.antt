-- The declared fields of a record, one after another.
use Rattle.std.proofs.Common.{◌≡◌, ℕ, Bool, true, false, ◌||◌, cond, List, [], ◌∷◌, ◌++◌, map, refl, ap, sym, ◌∙◌, Ok, Err}
use Rattle.std.specs.Prelude.{Option, Some, None, is_some}
use Rattle.std.specs.Str.{bytes_eq}
use Rattle.std.proofs.lemmas.List.{map-append}
use Rattle.std.proofs.lemmas.List.Folds.{list_any-append}
use Rattle.um_tree.specs.TypeTree.{NoteTree}
use Rattle.um_tree.specs.ProgramTree.{FieldTree, RecordTree}
use Rattle.um_tree.specs.RawTree.{FieldDeclSyntax}
use Rattle.um_names.specs.declared.callable.FieldNumber.{FieldNumber}
use Rattle.um_measures.specs.declared.stop.NameStop.{NameStop}
use Rattle.um_measures.specs.Faults.{Fault, Found, and_then, unless_taken}
use Rattle.um_measures.specs.Stops.{IsFirst}
use Rattle.um_measures.specs.Known.{Known, number_of, is_among, names_of_fields, field_names}
use Rattle.um_names.specs.TypeNames.{resolved_type, written_type}
use Rattle.um_names.specs.ExprNames.{field_or, field_of}
use Rattle.um_names.specs.Resolution.{resolved_field_decls}
use Rattle.um_names.specs.Parts.{resolved_field_decl}
use Rattle.um_measures.proofs.Firsts.{first_from}
use Rattle.um_measures.proofs.NameLists.{is_among-number}

abbrev pub names_in : List FieldTree → List (List ℕ)
names_in fs = map (λ g. g.name) fs

-- a name is one of a field of some record where a field of it is found
pub field_known : (ds : List RecordTree) (x : List ℕ) → is_some (field_of ds x) ≡ is_among (field_names ds) x
field_known [] x = refl
field_known (d ∷ ds) x =
    by (number_of (names_of_fields d) x) (field_of ds x) (is_among (field_names ds) x) (field_known ds x)
    ∙ ap (λ b. b || is_among (field_names ds) x) (sym (is_among-number x (names_of_fields d)))
    ∙ sym (list_any-append (bytes_eq x) (names_of_fields d) (field_names ds))
  where
    by : (o : Option ℕ) (p : Option FieldNumber) (b : Bool) → is_some p ≡ b → is_some (field_or o p) ≡ (is_some o || b)
    by (Some k) p b e = refl
    by None None b e = e
    by None (Some f) b e = e

-- a field that is declared
abbrev declared : List ℕ → NoteTree → FieldTree
declared x n = record { name = x; type = written_type n }

goes : {A : Type 0} (u : Found (Unit {0})) (t : Found NoteTree) (x : List ℕ) (g : FieldTree) (next : FieldTree → Found A) → and_then u (λ _. and_then t (λ n. Ok (declared x n))) ≡ Ok g → and_then u (λ _. and_then t (λ n. next (declared x n))) ≡ next g
goes (Ok v) (Ok n) x g next e = let same : declared x n ≡ g = cc e in ap next same
goes (Ok v) (Err f) x g next e = absurd cc
goes (Err f) t x g next e = absurd cc

stops : {A : Type 0} (u : Found (Unit {0})) (t : Found NoteTree) (x : List ℕ) (f : Fault) (next : FieldTree → Found A) → and_then u (λ _. and_then t (λ n. Ok (declared x n))) ≡ Err f → and_then u (λ _. and_then t (λ n. next (declared x n))) ≡ Err f
stops (Ok v) (Ok n) x f next e = absurd cc
stops (Ok v) (Err g) x f next e = let same : g ≡ f = cc e in ap (λ (z : Fault). Err z) same
stops (Err g) t x f next e = let same : g ≡ f = cc e in ap (λ (z : Fault). Err z) same

is_new : (a b : Bool) (at : ℕ) (t : Found NoteTree) (x : List ℕ) (g : FieldTree) → and_then (unless_taken (a || b) at) (λ _. and_then t (λ n. Ok (declared x n))) ≡ Ok g → b ≡ false
is_new true b at t x g e = absurd cc
is_new false true at t x g e = absurd cc
is_new false false at t x g e = refl

is_named : (u : Found (Unit {0})) (t : Found NoteTree) (x : List ℕ) (g : FieldTree) → and_then u (λ _. and_then t (λ n. Ok (declared x n))) ≡ Ok g → g.name ≡ x
is_named (Ok v) (Ok n) x g e = let same : declared x n ≡ g = cc e in ap (λ (z : FieldTree). z.name) (sym same)
is_named (Ok v) (Err f) x g e = absurd cc
is_named (Err f) t x g e = absurd cc

module _ (known : Known) (variables : List (List ℕ)) where
  pub field_next : (whole : Found (List FieldTree)) (done : List FieldTree) (f : FieldDeclSyntax) (rest fs : List FieldDeclSyntax) (g : FieldTree) → whole ≡ resolved_field_decls known variables done rest → rest ≡ f ∷ fs
      → resolved_field_decl known variables (names_in done) f ≡ Ok g → whole ≡ resolved_field_decls known variables (done ++ g ∷ []) fs
  field_next whole done f rest fs g h e r =
      h ∙ ap (resolved_field_decls known variables done) e
      ∙ goes (unless_taken (is_among (field_names known.program.records) f.name || is_among (names_in done) f.name) f.at) (resolved_type known variables false f.type) f.name g (λ z. resolved_field_decls known variables (done ++ z ∷ []) fs) r

  pub field_stops : (whole : Found (List FieldTree)) (done : List FieldTree) (f : FieldDeclSyntax) (rest fs : List FieldDeclSyntax) (stop : NameStop) → whole ≡ resolved_field_decls known variables done rest → rest ≡ f ∷ fs
      → IsFirst (resolved_field_decl known variables (names_in done) f) stop → IsFirst whole stop
  field_stops whole done f rest fs stop h e = first_from (resolved_field_decl known variables (names_in done) f) whole (λ fault r.
      h ∙ ap (resolved_field_decls known variables done) e
      ∙ stops (unless_taken (is_among (field_names known.program.records) f.name || is_among (names_in done) f.name) f.at) (resolved_type known variables false f.type) f.name fault (λ z. resolved_field_decls known variables (done ++ z ∷ []) fs) r) stop

  -- its name is new among those of its own record
  pub names_next : (own more : List (List ℕ)) (done : List FieldTree) (f : FieldDeclSyntax) (g : FieldTree) → own ≡ names_in done → resolved_field_decl known variables own f ≡ Ok g
      → more ≡ cond (is_among own f.name) own (own ++ f.name ∷ []) → more ≡ names_in (done ++ g ∷ [])
  names_next own more done f g inv r m =
      let new : is_among own f.name ≡ false = is_new (is_among (field_names known.program.records) f.name) (is_among own f.name) f.at (resolved_type known variables false f.type) f.name g r in
      let named : g.name ≡ f.name = is_named (unless_taken (is_among (field_names known.program.records) f.name || is_among own f.name) f.at) (resolved_type known variables false f.type) f.name g r in
      m ∙ ap (λ b. cond b own (own ++ f.name ∷ [])) new ∙ ap (λ (ns : List (List ℕ)). ns ++ f.name ∷ []) inv ∙ ap (λ (x : List ℕ). names_in done ++ x ∷ []) (sym named)
      ∙ sym (map-append (λ g. g.name) done (g ∷ []))
