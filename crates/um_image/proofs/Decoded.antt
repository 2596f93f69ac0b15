-- What `decode` answers, by what reading gives.
use Rattle.std.proofs.Common.{◌≡◌, ◌⊎◌, inl, inr, refl, sym, subst, ap, ◌∙◌, ℕ, ◌-◌, ◌<◌, ◌≤◌, List, [], ◌∷◌, length, map, All, Result, Ok, Err, arith}
use Rattle.um_tree.specs.declared.program.Records.{Records}
use Rattle.um_tree.specs.ProgramTree.{RecordTree, record_tree}
use Rattle.um_verify.specs.ImageTree.{ImageTree, HasForm}
use Rattle.um_image.specs.declared.stop.ReadStop.{ReadStop}
use Rattle.um_image.specs.declared.stop.ReadStop.TheVariants as stop
use Rattle.um_image.specs.declared.function.Functions.{Functions}
use Rattle.um_image.specs.Encoding.{written, spell, FunctionPart, ImageParts, parts_items, image_parts, image_bytes}
use Rattle.um_image.specs.Places.{IsBadAt, IsWritable, PartsFit}
use Rattle.um_image.specs.Reading.{◌>>=◌, Fails, letters_at, records_at, last_functions_at, image_at}
use Rattle.um_image.specs.FunctionsRead.{Holds, image_of_parts, kept_image}
use Rattle.um_image.specs.Laws.{BytesAreAnswered}
use Rattle.um_image.proofs.Formats.{IsBytes, not_both, item_format, rest_of}
use Rattle.um_image.proofs.ItemFormats.{own_bytes, AreLetters, letters_item}
use Rattle.um_image.proofs.PartFormats.{with_functions, records_format}
use Rattle.um_image.proofs.ReadLaws.{read_takes, read_again, read_refused, refused_there, is_bytes}
use Rattle.um_image.proofs.ImagesAsParts.{parts_back, image_back, form_from, records_few, written_image}

abbrev value_or : ImageParts → Result ImageParts ℕ → ImageParts
value_or q (Ok r) = r
value_or q (Err l) = q

same_parts : (r : Result ImageParts ℕ) (p q : ImageParts) → r ≡ Ok p → r ≡ Ok q → p ≡ q
same_parts r p q e f = ap (value_or p) (sym e ∙ f)

-- ---- reading part by part

module _ (bytes letters behind : List ℕ) (rs : List RecordTree) (rest : List ℕ) (first : letters_at bytes ≡ Ok (letters, behind)) (second : records_at behind ≡ Ok (rs, rest)) where
  image_by : image_at bytes ≡ (last_functions_at rest >>= λ fs. Ok (with_functions rs fs))
  unfolding image_at
  image_by =
      ap (λ (r : Result (List ℕ × List ℕ) ℕ). r >>= λ l. records_at l.1 >>= λ ds. last_functions_at ds.1 >>= λ fs. Ok (with_functions ds.0 fs)) first
      ∙ ap (λ (r : Result (List RecordTree × List ℕ) ℕ). r >>= λ ds. last_functions_at ds.1 >>= λ fs. Ok (with_functions ds.0 fs)) second

  pub image_done : (fs : List FunctionPart) → last_functions_at rest ≡ Ok fs → image_at bytes ≡ Ok (with_functions rs fs)
  image_done fs e = image_by ∙ ap (λ (r : Result (List FunctionPart) ℕ). r >>= λ gs. Ok (with_functions rs gs)) e

  pub image_failed : (e : ReadStop) → Fails e (last_functions_at rest) → Fails e (image_at bytes)
  image_failed stop.NoMemory h = tt
  image_failed (stop.Bad left) h = image_by ∙ ap (λ (r : Result (List FunctionPart) ℕ). r >>= λ gs. Ok (with_functions rs gs)) h

  pub few_left : IsBytes bytes → length rest ≤ length bytes
  few_left b =
      let one = rest_of letters_at (λ l. written l ∷ []) AreLetters (item_format letters_at own_bytes AreLetters letters_item) bytes letters behind b first in
      let two = rest_of records_at _ _ records_format behind rs rest one.1 second in
      let p = one.0 in
      let q = two.0 in
      omega arith

pub kept_is : (records : Records) (kept : Functions) (fs : List FunctionPart) → Holds kept fs → kept_image records kept ≡ image_of_parts (with_functions (map record_tree records.items.items) fs)
kept_is records kept fs h = λ i. record { records = map record_tree records.items.items; heads = h.heads i; code = record { ops = h.ops i; entries = h.entries i } }

-- ---- the image that was read

module _ (bytes : List ℕ) (b : IsBytes bytes) (few : length bytes ≤ 16777216) (image : ImageTree) (p : ImageParts) (e : image_at bytes ≡ Ok p) (is : image ≡ image_of_parts p) where
  pub has_form : HasForm image
  has_form =
      let t = read_takes bytes p b e in
      subst HasForm (sym is) (form_from p t.0 t.1 (subst (λ (s : List ℕ). length s ≤ 16777216) t.2 few))

  pub is_writable : IsWritable image
  is_writable = record {
    form = has_form;
    numbers = subst (λ (i : ImageTree). PartsFit (image_parts i)) (sym is) (subst PartsFit (sym (parts_back p)) (read_takes bytes p b e).0);
  }

  pub few_records : length image.records ≤ 16777216
  few_records =
      let t = read_takes bytes p b e in
      subst (λ (i : ImageTree). length i.records ≤ 16777216) (sym is) (records_few p (subst (λ (s : List ℕ). length s ≤ 16777216) t.2 few))

  pub has_bytes : bytes ≡ image_bytes image
  has_bytes = (read_takes bytes p b e).2 ∙ ap (λ (q : ImageParts). spell (parts_items q)) (sym (parts_back p)) ∙ ap image_bytes (sym is)

  pub is_only : (other : ImageTree) → IsWritable other → bytes ≡ image_bytes other → image ≡ other
  is_only other w same =
      let again : image_at bytes ≡ Ok (image_parts other) = ap image_at same ∙ read_again (image_parts other) w.numbers (written_image other w.form) in
      is ∙ ap image_of_parts (same_parts (image_at bytes) p (image_parts other) e again) ∙ image_back other w.form

pub no_image : (bytes : List ℕ) (left : ℕ) (other : ImageTree) → image_at bytes ≡ Err left → IsWritable other → bytes ≡ image_bytes other → ⊥
no_image bytes left other e w same = not_both (image_at bytes) (image_parts other) left (ap image_at same ∙ read_again (image_parts other) w.numbers (written_image other w.form)) e

-- ---- laws

pub bad_is_none : (bytes : List ℕ) (a : ℕ) (image : ImageTree) → All (λ x. x < 256) bytes → IsBadAt bytes a → IsWritable image → bytes ≡ image_bytes image → ⊥
bad_is_none bytes a image h bad w same = let r = refused_there bytes a (is_bytes bytes h) bad in no_image bytes r.0 image r.1 w same

pub one_image : (image other : ImageTree) → IsWritable image → IsWritable other → image_bytes image ≡ image_bytes other → image ≡ other
one_image image other v w same =
    let own = read_again (image_parts image) v.numbers (written_image image v.form) in
    let its = ap image_at same ∙ read_again (image_parts other) w.numbers (written_image other w.form) in
    sym (image_back image v.form) ∙ ap image_of_parts (same_parts (image_at (image_bytes image)) (image_parts image) (image_parts other) own its) ∙ image_back other w.form

pub bytes_are_answered : BytesAreAnswered
bytes_are_answered bytes small few = by (image_at bytes) refl where
  b : IsBytes bytes
  b = is_bytes bytes small

  by : (r : Result ImageParts ℕ) → image_at bytes ≡ r → ((image : ImageTree) × IsWritable image × (bytes ≡ image_bytes image) × (length image.records ≤ 16777216)) ⊎ ((at : ℕ) × IsBadAt bytes at)
  by (Ok p) e =
      let image = image_of_parts p in
      inl (image, is_writable bytes b few image p e refl, has_bytes bytes b few image p e refl, few_records bytes b few image p e refl)
  by (Err left) e = inr (length bytes - left, (read_refused bytes left b e).0)
