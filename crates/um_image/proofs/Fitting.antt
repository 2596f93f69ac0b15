-- What holds of the first elements of a list, as a loop shows it of one after another; and the numbers of an image fit.
use Rattle.std.proofs.Common.{◌≡◌, ◌⊎◌, inl, inr, refl, sym, subst, ◌∙◌, ℕ, zero, suc, ◌+◌, ◌<◌, ◌≤◌, List, [], ◌∷◌, All, map, length, get_or, Some, None, slice_get, arith}
use Rattle.std.specs.declared.option.Option.{Option}
use Rattle.std.specs.Option.{option_map}
use Rattle.std.proofs.lemmas.Bool.{cases_lt}
use Rattle.std.proofs.lemmas.Option.{same_Some, slice_get-map, slice_get_read, slice_get_within}
use Rattle.um_machine.specs.declared.op.Op.{Op}
use Rattle.um_machine.specs.declared.code.Entry.{Entry}
use Rattle.um_verify.specs.declared.image.Head.{Head}
use Rattle.um_verify.specs.ImageTree.{ImageTree, head_tree, HasForm}
use Rattle.um_image.specs.Encoding.{FunctionPart, own_ops, function_parts, image_parts}
use Rattle.um_image.specs.Places.{RecordFits, FunctionFits, PartsFit}
use Rattle.um_image.proofs.Items.{all_of}
use Rattle.um_image.proofs.Added.{match_lengths}
use Rattle.um_image.proofs.Spelled.{parts_length}

-- an element that is read by its number
at_number : {A : Type 0} (xs : List A) (i k : ℕ) (x y : A) → i < length xs → x ≡ get_or xs i x → k ≡ i → slice_get xs k ≡ Some y → x ≡ y
at_number xs i k x y lt is same there =
    let here : slice_get xs i ≡ Some x = slice_get_read xs (length xs) i x refl lt is in
    same_Some x y (sym here ∙ subst (λ n. slice_get xs n ≡ Some y) same there)

-- P holds of the trees of the first i elements
pub record Until {A B : Type 0} (P : B → Type 0) (tree : A → B) (xs : List A) (i : ℕ) : Type 0 where
  pub holds : (k : ℕ) (x : A) → k < i → slice_get xs k ≡ Some x → P (tree x)

module _ {A B : Type 0} (P : B → Type 0) (tree : A → B) (xs : List A) where
  pub until_none : Until P tree xs 0
  until_none = record { holds = λ k x below there. absurd (omega (arith, below)) }

  pub until_next : (i : ℕ) (x : A) → i < length xs → x ≡ get_or xs i x → P (tree x) → Until P tree xs i → Until P tree xs (i + 1)
  until_next i x lt is here before = record { holds = λ k y below there. at k y below there (cases_lt k i) } where
    at : (k : ℕ) (y : A) → k < i + 1 → slice_get xs k ≡ Some y → (k < i) ⊎ (i ≤ k) → P (tree y)
    at k y below there (inl less) = before.holds k y less there
    at k y below there (inr least) =
        let same : k ≡ i = omega (arith, least, below) in
        subst (λ z. P (tree z)) (at_number xs i k x y lt is same there) here

  pub until_last : (i : ℕ) → length xs ≤ i → Until P tree xs i → All P (map tree xs)
  until_last i le all = all_of P (map tree xs) at where
    by : (k : ℕ) (y : B) (o : Option A) → slice_get xs k ≡ o → option_map tree o ≡ Some y → P y
    by k y None is none = absurd (cc none)
    by k y (Some x) is one =
        let same : tree x ≡ y = same_Some (tree x) y one in
        let within = slice_get_within xs k x is in
        subst P same (all.holds k x (omega (arith, le, within)) is)

    at : (k : ℕ) (y : B) → slice_get (map tree xs) k ≡ Some y → P y
    at k y there = by k y (slice_get xs k) refl (sym (slice_get-map tree xs k) ∙ there)

module _ {A : Type 0} (P : A → Type 0) (xs : List A) where
  pub all_until : (i : ℕ) → length xs ≤ i → Until P (λ x. x) xs i → All P xs
  all_until i le all = all_of P xs (λ k x there. let within = slice_get_within xs k x there in all.holds k x (omega (arith, le, within)) there)

-- ---- functions

abbrev part_of : List Op → Head → Entry → FunctionPart
part_of ops h e = record { head = head_tree h; ops = own_ops ops e }

-- those of the first i functions fit
pub record FunctionsUntil (hs : List Head) (ops : List Op) (es : List Entry) (i : ℕ) : Type 0 where
  pub holds : (k : ℕ) (h : Head) (e : Entry) → k < i → slice_get hs k ≡ Some h → slice_get es k ≡ Some e → FunctionFits (part_of ops h e)

module _ (hs : List Head) (ops : List Op) (es : List Entry) where
  pub functions_until_none : FunctionsUntil hs ops es 0
  functions_until_none = record { holds = λ k h e below there here. absurd (omega (arith, below)) }

  pub functions_until_next : (i : ℕ) (h : Head) (e : Entry) (own : List Op) → i < length hs → i < length es → h ≡ get_or hs i h → e ≡ get_or es i e → own ≡ own_ops ops e → FunctionFits (record { head = head_tree h; ops = own }) → FunctionsUntil hs ops es i → FunctionsUntil hs ops es (i + 1)
  functions_until_next i h e own lt less is also owned fits before = record { holds = λ k x y below there here. at k x y below there here (cases_lt k i) } where
    at : (k : ℕ) (x : Head) (y : Entry) → k < i + 1 → slice_get hs k ≡ Some x → slice_get es k ≡ Some y → (k < i) ⊎ (i ≤ k) → FunctionFits (part_of ops x y)
    at k x y below there here (inl under) = before.holds k x y under there here
    at k x y below there here (inr least) =
        let same : k ≡ i = omega (arith, least, below) in
        let one : h ≡ x = at_number hs i k h x lt is same there in
        let two : e ≡ y = at_number es i k e y less also same here in
        let mine : FunctionFits (part_of ops h e) = subst (λ (ws : List Op). FunctionFits (record { head = head_tree h; ops = ws })) owned fits in
        subst (λ f. FunctionFits f) (λ n. part_of ops (one n) (two n)) mine

parts_fit : (hs : List Head) (ops : List Op) (es : List Entry) → ((k : ℕ) (h : Head) (e : Entry) → slice_get hs k ≡ Some h → slice_get es k ≡ Some e → FunctionFits (part_of ops h e)) → (k : ℕ) (f : FunctionPart) → slice_get (function_parts (map head_tree hs) ops es) k ≡ Some f → FunctionFits f
parts_fit [] ops [] all zero f is = absurd (cc is)
parts_fit [] ops [] all (suc k) f is = absurd (cc is)
parts_fit [] ops (e ∷ es) all zero f is = absurd (cc is)
parts_fit [] ops (e ∷ es) all (suc k) f is = absurd (cc is)
parts_fit (h ∷ hs) ops [] all zero f is = absurd (cc is)
parts_fit (h ∷ hs) ops [] all (suc k) f is = absurd (cc is)
parts_fit (h ∷ hs) ops (e ∷ es) all zero f is =
    let same : part_of ops h e ≡ f = same_Some (part_of ops h e) f is in
    subst (λ x. FunctionFits x) same (all zero h e refl refl)
parts_fit (h ∷ hs) ops (e ∷ es) all (suc k) f is = parts_fit hs ops es (λ j x y s t. all (suc j) x y s t) k f is

pub functions_until_last : (hs : List Head) (ops : List Op) (es : List Entry) (i : ℕ) → length hs ≤ i → FunctionsUntil hs ops es i → All FunctionFits (function_parts (map head_tree hs) ops es)
functions_until_last hs ops es i le all =
    all_of FunctionFits (function_parts (map head_tree hs) ops es)
    (parts_fit hs ops es (λ k h e there here. let within = slice_get_within hs k h there in all.holds k h e (omega (arith, le, within)) there here))

-- ---- the whole

pub numbers_fit : (image : ImageTree) → HasForm image → All RecordFits image.records → All FunctionFits (function_parts image.heads image.code.ops image.code.entries) → PartsFit (image_parts image)
numbers_fit image form records functions =
    let both = form.count in
    let long = parts_length image.heads image.code.ops image.code.entries (match_lengths image.code.entries image.heads form.entries) in
    record {
      count = omega (arith, both);
      records = records;
      functions_count = omega (arith, both, long);
      functions = functions;
    }
