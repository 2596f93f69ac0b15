-- A copy without units of what has none is the same.
use Rattle.std.proofs.Common.{◌≡◌, refl, sym, ap, List, [], ◌∷◌, map, All}
use Rattle.std.specs.List.{AllByRecursion}
use Rattle.std.proofs.lemmas.List.Elements.{recursion_from_All}
use Rattle.um_tree.specs.TypeTree.{TypeTree, bool_type, num_type, list_type, record_type}
use Rattle.um_tree.specs.ProgramTree.{FieldTree, RecordTree}
use Rattle.um_verify.specs.ImageTree.{IsPlainType, IsPlainField, IsPlainRecord}
use Rattle.um_image.specs.ProgramImage.{plain_type, plain_field, plain_record}

same_type : (t : TypeTree) → IsPlainType t → plain_type t ≡ t
same_type bool_type h = refl
same_type (num_type u) h = ap (λ v. num_type v) (sym h)
same_type (list_type t) h = ap (λ (u : TypeTree). list_type u) (same_type t h)
same_type (record_type r us) h = ap (λ vs. record_type r vs) (sym h)

same_each : {A : Type 0} (f : A → A) (P : A → Type 0) → ((x : A) → P x → f x ≡ x) → (xs : List A) → AllByRecursion P xs → map f xs ≡ xs
same_each f P h [] p = refl
same_each f P h (x ∷ xs) p = λ i. h x p.0 i ∷ same_each f P h xs p.1 i

same_field : (f : FieldTree) → IsPlainField f → plain_field f ≡ f
same_field f h = λ i. record { name = f.name; type = same_type f.type h.plain i }

same_record : (d : RecordTree) → IsPlainRecord d → plain_record d ≡ d
same_record d h = λ i. record { name = d.name; at = (sym h.at) i; units = (sym h.units) i; fields = same_each plain_field IsPlainField same_field d.fields (recursion_from_All IsPlainField d.fields h.fields) i }

pub same_records : (ds : List RecordTree) → All IsPlainRecord ds → map plain_record ds ≡ ds
same_records ds h = same_each plain_record IsPlainRecord same_record ds (recursion_from_All IsPlainRecord ds h)
