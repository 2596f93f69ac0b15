-- A value of an image can be printed: its records take no units, and each of their numbers has unit 1.
use Rattle.std.proofs.Common.{◌≡◌, ℕ, suc, List, [], ◌∷◌, map, All, IsTrue, Some, None, slice_get, refl, sym, ap, subst, ◌∙◌}
use Rattle.std.specs.Prelude.{◌&&◌}
use Rattle.std.specs.List.{list_all}
use Rattle.std.specs.declared.option.Option.{Option}
use Rattle.std.proofs.lemmas.Option.{slice_get_within, get_or_from_slice_get}
use Rattle.um_units.specs.PowerMap.{PowerMap, nth, replace}
use Rattle.um_units.specs.Range.{fits}
use Rattle.um_units.proofs.Replacement.{replace-one}
use Rattle.um_units.proofs.InRange.{fits-one}
use Rattle.um_tree.specs.TypeTree.{TypeTree, bool_type, num_type, list_type, record_type}
use Rattle.um_tree.specs.ProgramTree.{FieldTree, RecordTree, ProgramTree}
use Rattle.um_tree.specs.ValueTree.{ValueTree, ValueTrees, truth_value, number_value, list_value, record_value, no_values, more_values}
use Rattle.um_tree.specs.Typing.{put}
use Rattle.um_elim.specs.Application.{type_fits}
use Rattle.um_show.specs.ValueText.{item_in, units_in, field_at, fields_in, parts_fit, items_fit, fields_fit}
use Rattle.um_verify.specs.ImageTree.{IsPlainType, IsPlainField, IsPlainRecord}

put_fits : (s : ℕ → PowerMap) (t : TypeTree) → IsPlainType t → IsTrue (type_fits (put s t))
put_fits s bool_type plain = refl
put_fits s (num_type u) plain = subst (λ w. IsTrue (fits w)) (sym (ap (replace s) plain ∙ replace-one s)) fits-one
put_fits s (list_type t) plain = put_fits s t plain
put_fits s (record_type r us) plain = subst (λ ws. IsTrue (list_all fits (map (replace s) ws))) (sym plain) refl

-- an element that `All` speaks of
at_number : {A : Type 0} (P : A → Type 0) (xs : List A) (k : ℕ) (x : A) → All P xs → slice_get xs k ≡ Some x → P x
at_number P xs k x all is = subst P (get_or_from_slice_get xs k x x is) (all k x (slice_get_within xs k x is))

abbrev EachFits : List FieldTree → Type 0
EachFits [] = Unit {0}
EachFits (f ∷ fs) = IsTrue (type_fits f.type) × EachFits fs

fields_put : (us : List PowerMap) (fs : List FieldTree) → ((k : ℕ) (f : FieldTree) → slice_get fs k ≡ Some f → IsPlainField f) → EachFits (map (field_at us) fs)
fields_put us [] plain = tt
fields_put us (f ∷ fs) plain = (put_fits (nth us) f.type (plain 0 f refl).plain, fields_put us fs (λ k g is. plain (suc k) g is))

module _ (p : ProgramTree) (plain : All IsPlainRecord p.records) where
  fields_of : (r : ℕ) (us : List PowerMap) → EachFits (fields_in (slice_get p.records r) us)
  fields_of r us = by (slice_get p.records r) refl where
    by : (o : Option RecordTree) → slice_get p.records r ≡ o → EachFits (fields_in o us)
    by None is = tt
    by (Some d) is = fields_put us d.fields (λ k f there. at_number IsPlainField d.fields k f (at_number IsPlainRecord p.records r d plain is).fields there)

  mutual
    pub value_fits : (v : ValueTree) (t : TypeTree) → IsTrue (parts_fit p v t)
    value_fits (truth_value b) t = refl
    value_fits (number_value c) t = refl
    value_fits (list_value vs) t = items_all vs (item_in t)
    value_fits (record_value r vs) t = fields_all vs (fields_in (slice_get p.records r) (units_in t)) (fields_of r (units_in t))

    items_all : (vs : ValueTrees) (t : TypeTree) → IsTrue (items_fit p vs t)
    items_all no_values t = refl
    items_all (more_values v vs) t = ap (λ b. b && items_fit p vs t) (value_fits v t) ∙ items_all vs t

    fields_all : (vs : ValueTrees) (fs : List FieldTree) → EachFits fs → IsTrue (fields_fit p vs fs)
    fields_all no_values fs each = refl
    fields_all (more_values v vs) [] each = refl
    fields_all (more_values v vs) (f ∷ fs) (first, rest) =
        ap (λ b. b && (parts_fit p v f.type && fields_fit p vs fs)) first
        ∙ (ap (λ b. b && fields_fit p vs fs) (value_fits v f.type) ∙ fields_all vs fs rest)
