-- The texts of items and of fields, one more at a time.
use Rattle.std.proofs.Common.{◌≡◌, ℕ, zero, suc, ◌+◌, ◌<◌, ◌≤◌, List, [], ◌∷◌, ◌++◌, map, drop, get_or, length, cond, codes, refl, sym, ap, ◌∙◌, append_assoc, add-one, arith}
use Rattle.std.proofs.Math.Dec.{eqb-suc-zero}
use Rattle.std.specs.Prelude.{Bool, true, false, ◌&&◌, IsTrue, Some, slice_get}
use Rattle.std.proofs.lemmas.List.{drop_more}
use Rattle.std.proofs.lemmas.Option.{slice_get_within, get_or_from_slice_get}
use Rattle.um_frac.specs.declared.number.Frac.{Frac}
use Rattle.um_units.specs.declared.UnitStop.{UnitStop}
use Rattle.um_units.specs.declared.UnitStop.TheVariants.{Range, NoMemory}
use Rattle.um_units.specs.PowerMap.{PowerMap}
use Rattle.um_units.specs.Range.{IsStopUnless}
use Rattle.um_tree.specs.declared.program.FieldDecl.{FieldDecl}
use Rattle.um_tree.specs.TypeTree.{TypeTree}
use Rattle.um_tree.specs.ProgramTree.{FieldTree, ProgramTree, field_tree}
use Rattle.um_tree.specs.ValueTree.{ValueTree, ValueTrees, no_values, more_values, values_in_order}
use Rattle.um_show.specs.Lists.{gap_before}
use Rattle.um_show.specs.ValueText.{separator, field_at, text_by, items_by, fields_by, fields_fit}

-- those from number i on
abbrev pub values_from : {A : Type 0} → (A → ValueTree) → List A → ℕ → ValueTrees
values_from f xs i = values_in_order (map f (drop i xs))

values_from_next : {A : Type 0} (f : A → ValueTree) (xs : List A) (i : ℕ) (x : A) → i < length xs → x ≡ get_or xs i x → values_from f xs i ≡ more_values (f x) (values_from f xs (suc i))
values_from_next f [] i x h e = absurd (omega arith)
values_from_next f (y ∷ xs) zero x h e = ap (λ z. more_values (f z) (values_from f xs 0)) (sym e)
values_from_next f (y ∷ xs) (suc i) x h e = values_from_next f xs i x (omega arith) e

pub values_from-end : {A : Type 0} (f : A → ValueTree) (xs : List A) (i : ℕ) → length xs ≤ i → values_from f xs i ≡ no_values
values_from-end f [] zero h = refl
values_from-end f [] (suc i) h = refl
values_from-end f (y ∷ xs) zero h = absurd (omega arith)
values_from-end f (y ∷ xs) (suc i) h = values_from-end f xs i (omega arith)

pub values_from_more : {A : Type 0} (f : A → ValueTree) (xs : List A) (i : ℕ) (x : A) → i < length xs → x ≡ get_or xs i x → values_from f xs i ≡ more_values (f x) (values_from f xs (i + 1))
values_from_more f xs i x h e = rw add-one (values_from_next f xs i x h e)

gap_more : (i : ℕ) (between : List ℕ) → gap_before (i + 1) between ≡ between
gap_more i between = rw add-one (ap (λ b. cond b [] between) (eqb-suc-zero i))

-- one more item is written
pub item_written : (number : Frac → TypeTree → List ℕ) (p : ProgramTree) (v : ValueTree) (vs : ValueTrees) (t : TypeTree) (i : ℕ) (whole begun apart new : List ℕ) → whole ≡ begun ++ items_by number p (gap_before i separator) (more_values v vs) t → apart ≡ begun ++ gap_before i separator
    → new ≡ apart ++ text_by number p v t → whole ≡ new ++ items_by number p (gap_before (i + 1) separator) vs t
item_written number p v vs t i whole begun apart new so_far gap item =
    let g = gap_before i separator in
    let w = text_by number p v t in
    let rest = items_by number p separator vs t in
    let flat : begun ++ ((g ++ w) ++ rest) ≡ ((begun ++ g) ++ w) ++ rest = simp (append_assoc) refl in
    so_far ∙ flat ∙ ap (λ s. (s ++ w) ++ rest) (sym gap) ∙ ap (λ s. s ++ rest) (sym item) ∙ ap (λ s. new ++ items_by number p s vs t) (sym (gap_more i separator))

-- one more field is written
pub field_written : (number : Frac → TypeTree → List ℕ) (p : ProgramTree) (v : ValueTree) (vs : ValueTrees) (f : FieldTree) (fs : List FieldTree) (i : ℕ) (whole begun named new : List ℕ) → whole ≡ begun ++ fields_by number p (gap_before i separator) (more_values v vs) (f ∷ fs)
    → named ≡ begun ++ (gap_before i separator ++ f.name ++ codes " = ") → new ≡ named ++ text_by number p v f.type → whole ≡ new ++ fields_by number p (gap_before (i + 1) separator) vs fs
field_written number p v vs f fs i whole begun named new so_far name value =
    let g = gap_before i separator in
    let w = text_by number p v f.type in
    let rest = fields_by number p separator vs fs in
    let flat : begun ++ ((((g ++ f.name) ++ codes " = ") ++ w) ++ rest) ≡ ((begun ++ ((g ++ f.name) ++ codes " = ")) ++ w) ++ rest = simp (append_assoc) refl in
    so_far ∙ flat ∙ ap (λ s. (s ++ w) ++ rest) (sym name) ∙ ap (λ s. s ++ rest) (sym value) ∙ ap (λ s. new ++ fields_by number p s vs fs) (sym (gap_more i separator))

-- ---- the fields from number i on, with the record's units put in

abbrev pub fields_from : List PowerMap → List FieldDecl → ℕ → List FieldTree
fields_from us xs i = map (field_at us) (map field_tree (drop i xs))

pub fields_from_more : (us : List PowerMap) (xs : List FieldDecl) (i : ℕ) (x : FieldDecl) → slice_get xs i ≡ Some x → fields_from us xs i ≡ field_at us (field_tree x) ∷ fields_from us xs (i + 1)
fields_from_more us xs i x e =
    ap (λ (ys : List FieldDecl). map (field_at us) (map field_tree ys)) (drop_more xs i x (slice_get_within xs i x e) ∙ ap (λ (y : FieldDecl). y ∷ drop (i + 1) xs) (get_or_from_slice_get xs i x x e))

pub fields_from-end : (us : List PowerMap) (xs : List FieldDecl) (i : ℕ) → length xs ≤ i → fields_from us xs i ≡ []
fields_from-end us [] zero h = refl
fields_from-end us [] (suc i) h = refl
fields_from-end us (x ∷ xs) zero h = absurd (omega (arith, h))
fields_from-end us (x ∷ xs) (suc i) h = fields_from-end us xs i (omega (arith, h))

-- ---- ranges of the parts, one after another

pub true_and : (a b : Bool) → IsTrue a → (a && b) ≡ b
true_and true b h = refl
true_and false b h = absurd cc

pub stop_and : (a b : Bool) (stop : UnitStop) → IsStopUnless a stop → IsStopUnless (a && b) stop
stop_and true b Range h = absurd cc
stop_and false b Range h = h
stop_and a b NoMemory h = tt

-- where no field is left
pub no_fields : (number : Frac → TypeTree → List ℕ) (p : ProgramTree) (gap : List ℕ) (vs : ValueTrees) → fields_by number p gap vs [] ≡ []
no_fields number p gap no_values = refl
no_fields number p gap (more_values v vs) = refl

pub no_fields_fit : (p : ProgramTree) (vs : ValueTrees) → fields_fit p vs [] ≡ true
no_fields_fit p no_values = refl
no_fields_fit p (more_values v vs) = refl
