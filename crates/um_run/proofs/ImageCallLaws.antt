-- Calls of a verified image can be run, and words have one answer, memory aside.
use Rattle.std.proofs.Common.{◌≡◌, ◌⊎◌, inl, inr, ℕ, ◌<◌, ◌≤◌, List, length, map, get_or, Some, None, slice_get, refl, sym, ap, subst, ◌∙◌, Ok, Err, arith}
use Rattle.std.specs.Prelude.{Result, IfOk}
use Rattle.std.proofs.lemmas.List.{length-map}
use Rattle.std.proofs.lemmas.Option.{none-some, same_Some}
use Rattle.um_tree.specs.TypeTree.{ShapeTree}
use Rattle.um_tree.proofs.Moved.{All_at}
use Rattle.um_measures.specs.Known.{number_of}
use Rattle.um_measures.proofs.NameLists.{number_of-below}
use Rattle.um_value.specs.ValueGrammar.{IsShapeIn}
use Rattle.um_run.specs.declared.call.CallRefusal.{CallRefusal}
use Rattle.um_run.specs.declared.call.CallRefusal.TheVariants as refusal
use Rattle.um_run.specs.Reading.{AreArgumentsRead}
use Rattle.um_run.proofs.OneByOne.{shown_at}
use Rattle.um_run.proofs.Inputs.{values_have, same_count}
use Rattle.um_run.proofs.UniqueCalls.{same_inputs, inputs_or_refused, same_refused}
use Rattle.um_verify.specs.declared.image.Head.{Head}
use Rattle.um_verify.specs.declared.image.Image.{Image}
use Rattle.um_verify.specs.ImageTree.{HeadTree, ImageTree, head_tree, image_tree}
use Rattle.um_verify.specs.Verified.{IsVerified}
use Rattle.um_run.specs.declared.call.ImageCall.{ImageCall}
use Rattle.um_run.specs.ImageCalls.{ImageCallTree, known_in, head_names, IsNamedHead, IsImageCallTo, IsImageCallOf, image_call_tree, image_call_answer}
use Rattle.um_run.specs.ImageLaws.{IsShapedCall, ImageCallsAreShaped, ImageCallsAreUnique}
use Rattle.um_run.proofs.ImagePrograms.{get_there, formed, params_in}

pub call_shaped : (image : ImageTree) (k : ℕ) (h : HeadTree) (texts : List (List ℕ)) (call : ImageCallTree) → slice_get image.heads k ≡ Some h → IsImageCallTo image k h texts (Ok call) → IsShapedCall image call
call_shaped image k h texts call e c =
    (h, record { listed = ap (slice_get image.heads) c.0 ∙ e; values = values_have (known_in image) h.params texts call.inputs c.1 })

pub calls_are_shaped : ImageCallsAreShaped
calls_are_shaped image name texts call (k, h, named, c) = call_shaped image k h texts call named.listed c

pub answer_shaped : (image : ImageTree) (k : ℕ) (h : HeadTree) (texts : List (List ℕ)) → slice_get image.heads k ≡ Some h → (r : Result ImageCall CallRefusal) → IsImageCallTo image k h texts (image_call_answer r) → IfOk r (λ call. IsShapedCall image (image_call_tree call))
answer_shaped image k h texts e (Ok call) c = call_shaped image k h texts (image_call_tree call) e c
answer_shaped image k h texts e (Err stop) c = tt

-- an argument is refused, and so is the call
pub refused_to : (image : ImageTree) (k : ℕ) (h : HeadTree) (texts : List (List ℕ)) (r : CallRefusal) → length texts ≡ length h.params → AreArgumentsRead (known_in image) h.params texts (Err r) → IsImageCallTo image k h texts (Err r)
refused_to image k h texts refusal.NoFunction count a = absurd a
refused_to image k h texts refusal.WrongCount count a = absurd a
refused_to image k h texts (refusal.Argument index stop) count a = (count, a)
refused_to image k h texts refusal.Units count a = absurd a
refused_to image k h texts refusal.PowerRange count a = absurd a
refused_to image k h texts refusal.Slots count a = absurd a
refused_to image k h texts refusal.NoMemory count a = tt

-- the head of a number
pub listed_head : (image : Image) (hs : List Head) (k : ℕ) (g : Head) → hs ≡ image.heads.items.items → k < length (image_tree image).heads → g ≡ get_or hs k g → slice_get (image_tree image).heads k ≡ Some (head_tree g)
listed_head image hs k g same below there =
    let shown = length-map image.heads.items.items head_tree in
    let within : k < length image.heads.items.items = omega (arith, below, shown) in
    subst (λ (xs : List Head). slice_get (map head_tree xs) k ≡ Some (head_tree g)) same
    (shown_at head_tree hs k g (subst (λ (xs : List Head). k < length xs) (sym same) within) there)

-- the head of a name
pub named_below : (image : ImageTree) (name : List ℕ) (k : ℕ) → Some k ≡ number_of (head_names image.heads) name → k < length image.heads
named_below image name k e =
    let below = number_of-below name (head_names image.heads) k (sym e) in
    let shown = length-map image.heads (λ (h : HeadTree). h.name) in
    omega (arith, below, shown)

pub named_head : (image : ImageTree) (name : List ℕ) (k : ℕ) → Some k ≡ number_of (head_names image.heads) name → (h : HeadTree) × IsNamedHead image name k h
named_head image name k e = let w = get_there image.heads k (named_below image name k e) in (w.0, record { number = sym e; listed = w.1 })

-- what is answered behind a name
pub behind_name : (image : ImageTree) (name : List ℕ) (texts : List (List ℕ)) (k : ℕ) (h : HeadTree) → IsNamedHead image name k h → (r : Result ImageCallTree CallRefusal) → IsImageCallTo image k h texts r → IsImageCallOf image name texts r
behind_name image name texts k h named (Ok call) c = (k, h, named, c)
behind_name image name texts k h named (Err refusal.NoFunction) c = absurd c
behind_name image name texts k h named (Err refusal.WrongCount) c = (k, h, named, c)
behind_name image name texts k h named (Err (refusal.Argument index stop)) c = (k, h, named, c)
behind_name image name texts k h named (Err refusal.Units) c = absurd c
behind_name image name texts k h named (Err refusal.PowerRange) c = absurd c
behind_name image name texts k h named (Err refusal.Slots) c = absurd c
behind_name image name texts k h named (Err refusal.NoMemory) c = tt

-- ---- one answer

abbrev AreOne : Result ImageCallTree CallRefusal → Result ImageCallTree CallRefusal → Type 0
AreOne r q = (r ≡ q) ⊎ ((r ≡ Err refusal.NoMemory) ⊎ (q ≡ Err refusal.NoMemory))

module _ (image : ImageTree) (v : IsVerified image) (few : length image.records ≤ 16777216) (texts : List (List ℕ)) where
  module _ (k : ℕ) (h : HeadTree) (listed : slice_get image.heads k ≡ Some h) where
    over : (i : ℕ) (s : ShapeTree) → slice_get h.params i ≡ Some s → IsShapeIn image.records s
    over i s e = All_at (IsShapeIn image.records) h.params i s e (params_in image v few k h listed)

    one_to : (r q : Result ImageCallTree CallRefusal) → IsImageCallTo image k h texts r → IsImageCallTo image k h texts q → AreOne r q
    one_to (Err refusal.NoMemory) q a b = inr (inl refl)
    one_to r (Err refusal.NoMemory) a b = inr (inr refl)
    one_to (Err refusal.NoFunction) q a b = absurd a
    one_to (Err refusal.Units) q a b = absurd a
    one_to (Err refusal.PowerRange) q a b = absurd a
    one_to (Err refusal.Slots) q a b = absurd a
    one_to r (Err refusal.NoFunction) a b = absurd b
    one_to r (Err refusal.Units) a b = absurd b
    one_to r (Err refusal.PowerRange) a b = absurd b
    one_to r (Err refusal.Slots) a b = absurd b
    one_to (Ok c) (Ok d) a b = inl (λ i. Ok (record { function = (a.0 ∙ sym b.0) i; inputs = same_inputs (known_in image) (formed image v few) h.params texts c.inputs d.inputs over a.1 b.1 i }))
    one_to (Ok c) (Err refusal.WrongCount) a b = absurd (b (same_count (known_in image) h.params texts c.inputs a.1))
    one_to (Ok c) (Err (refusal.Argument index stop)) a b = absurd (inputs_or_refused (known_in image) (formed image v few) h.params texts over c.inputs index stop a.1 b.1)
    one_to (Err refusal.WrongCount) (Ok d) a b = absurd (a (same_count (known_in image) h.params texts d.inputs b.1))
    one_to (Err refusal.WrongCount) (Err refusal.WrongCount) a b = inl refl
    one_to (Err refusal.WrongCount) (Err (refusal.Argument index stop)) a b = absurd (a b.0)
    one_to (Err (refusal.Argument index stop)) (Ok d) a b = absurd (inputs_or_refused (known_in image) (formed image v few) h.params texts over d.inputs index stop b.1 a.1)
    one_to (Err (refusal.Argument index stop)) (Err refusal.WrongCount) a b = absurd (b a.0)
    one_to (Err (refusal.Argument index stop)) (Err (refusal.Argument other cause)) a b =
        let same = same_refused (known_in image) (formed image v few) h.params texts over index other stop cause a.1 b.1 in
        inl (λ i. Err (refusal.Argument (same.0 i) (same.1 i)))

  module _ (name : List ℕ) where
    abbrev HasNoHead : Result ImageCallTree CallRefusal → Type 0
    HasNoHead r = (r ≡ Err refusal.NoFunction) × (number_of (head_names image.heads) name ≡ None)

    abbrev IsOfHead : Result ImageCallTree CallRefusal → Type 0
    IsOfHead r = (k : ℕ) × (h : HeadTree) × IsNamedHead image name k h × IsImageCallTo image k h texts r

    abbrev Said : Result ImageCallTree CallRefusal → Type 0
    Said r = (r ≡ Err refusal.NoMemory) ⊎ (HasNoHead r ⊎ IsOfHead r)

    said : (r : Result ImageCallTree CallRefusal) → IsImageCallOf image name texts r → Said r
    said (Ok call) h = inr (inr h)
    said (Err refusal.NoFunction) h = inr (inl (refl, h))
    said (Err refusal.WrongCount) h = inr (inr h)
    said (Err (refusal.Argument index stop)) h = inr (inr h)
    said (Err refusal.Units) h = inr (inr h)
    said (Err refusal.PowerRange) h = inr (inr h)
    said (Err refusal.Slots) h = inr (inr h)
    said (Err refusal.NoMemory) h = inl refl

    one_head : (r q : Result ImageCallTree CallRefusal) → IsOfHead r → IsOfHead q → AreOne r q
    one_head r q (k, h, a, here) (j, g, b, there) =
        let number : k ≡ j = same_Some k j (sym a.number ∙ b.number) in
        let own : h ≡ g = same_Some h g (sym a.listed ∙ ap (slice_get image.heads) number ∙ b.listed) in
        one_to j g b.listed r q (subst (λ (x : HeadTree). IsImageCallTo image j x texts r) own (subst (λ (n : ℕ). IsImageCallTo image n h texts r) number here)) there

    one_said : (r q : Result ImageCallTree CallRefusal) → Said r → Said q → AreOne r q
    one_said r q (inl a) b = inr (inl a)
    one_said r q (inr a) (inl b) = inr (inr b)
    one_said r q (inr (inl a)) (inr (inl b)) = inl (a.0 ∙ sym b.0)
    one_said r q (inr (inl a)) (inr (inr b)) = absurd (none-some b.0 (sym a.1 ∙ b.2.number))
    one_said r q (inr (inr a)) (inr (inl b)) = absurd (none-some a.0 (sym b.1 ∙ a.2.number))
    one_said r q (inr (inr a)) (inr (inr b)) = one_head r q a b

pub calls_are_unique : ImageCallsAreUnique
calls_are_unique image name texts r q v few a b = one_said image v few texts name r q (said image v few texts name r a) (said image v few texts name q b)
