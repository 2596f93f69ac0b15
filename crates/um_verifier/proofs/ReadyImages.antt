-- An image whose heads hold is ready for its code to be looked at, by what the rules look at.
use Rattle.std.proofs.Common.{◌≡◌, refl, sym, ap, subst, ◌∙◌, ℕ, ◌<◌, List, [], ◌∷◌, length, map, get_or, Option, Some, None, slice_get, arith}
use Rattle.std.specs.Prelude.{MatchOption}
use Rattle.std.proofs.lemmas.List.{length-map, get_or-map}
use Rattle.std.proofs.lemmas.Option.{slice_get-get_or}
use Rattle.um_tree.specs.TypeTree.{bool_shape}
use Rattle.um_machine.specs.declared.code.Entry.{Entry}
use Rattle.um_verify.specs.StackShape.{on_stack}
use Rattle.um_verify.specs.ImageTree.{HeadTree, ImageTree, HasForm}
use Rattle.um_verify.specs.Heads.{record_shapes}
use Rattle.um_verify.specs.Rules.{Body, View, body_of, bodies_of, view_of, low_state}
use Rattle.um_verify.specs.Verified.{CodeHolds, IsFirstAddress}
use Rattle.um_verifier.specs.KnownImages.{known_body, known_bodies, known_view}
use Rattle.um_verifier.specs.States.{AreLow}
use Rattle.um_verifier.specs.Bodies.{AreReady}
use Rattle.um_verifier.specs.KnownHeads.{StackSignature, known_signature, head_signature, AreKnownHeads}
use Rattle.um_verifier.specs.declared.known.KnownHead.{KnownHead}
use Rattle.um_verifier.specs.declared.known.Known.{Known}
use Rattle.um_verifier.proofs.OverRecords.{all_over, over_low}
use Rattle.um_verifier.proofs.FunctionHeads.{match_lengths}

abbrev with_signature : Entry → StackSignature → Body
with_signature e s = record { start = e.start; end = e.end; params = s.params; result = s.result }

abbrev with_signatures : List Entry → List StackSignature → List Body
with_signatures (e ∷ es) (s ∷ ss) = with_signature e s ∷ with_signatures es ss
with_signatures es ss = []

known_signed : (es : List Entry) (hs : List KnownHead) → known_bodies es hs ≡ with_signatures es (map known_signature hs)
known_signed [] [] = refl
known_signed [] (h ∷ hs) = refl
known_signed (e ∷ es) [] = refl
known_signed (e ∷ es) (h ∷ hs) = ap (λ (bs : List Body). known_body e h ∷ bs) (known_signed es hs)

heads_signed : (es : List Entry) (hs : List HeadTree) → bodies_of es hs ≡ with_signatures es (map head_signature hs)
heads_signed [] [] = refl
heads_signed [] (h ∷ hs) = refl
heads_signed (e ∷ es) [] = refl
heads_signed (e ∷ es) (h ∷ hs) = ap (λ (bs : List Body). body_of e h ∷ bs) (heads_signed es hs)

module _ (image : ImageTree) (known : Known) (knows : AreKnownHeads image known) where
  bodies_are : known_bodies image.code.entries known.heads.items ≡ bodies_of image.code.entries image.heads
  bodies_are = known_signed image.code.entries known.heads.items ∙ ap (with_signatures image.code.entries) knows.heads ∙ sym (heads_signed image.code.entries image.heads)

  -- what is known is what the rules look at
  pub view_is : known_view known image.code ≡ view_of image
  view_is = (λ i. record {
    ops = image.code.ops;
    bodies = bodies_are i;
    fields = knows.shapes.fields i;
    heights = knows.shapes.heights i;
  })

  as_many : length known.heads.items ≡ length image.heads
  as_many =
      sym (length-map known.heads.items known_signature) ∙ ap (λ (ss : List StackSignature). length ss) knows.heads ∙ length-map image.heads head_signature

  -- the head of a place
  head_at : (k : ℕ) (d : HeadTree) → k < length image.heads → slice_get image.heads k ≡ Some (get_or image.heads k d)
  head_at k d l = slice_get-get_or image.heads k d l

  params_low : (k : ℕ) (d : KnownHead) (x : HeadTree) → k < length known.heads.items → AreLow known (get_or known.heads.items k d).params.items
  params_low k d x l =
      let within : k < length image.heads = omega (arith, as_many) in
      let h = get_or image.heads k x in
      let holds = knows.functions k h (head_at k x within) in
      let mapped : get_or (map known_signature known.heads.items) k (head_signature h) ≡ known_signature (get_or known.heads.items k d) = get_or-map known_signature known.heads.items k d (head_signature h) l in
      let others : get_or (map head_signature image.heads) k (head_signature h) ≡ head_signature h = get_or-map head_signature image.heads k x (head_signature h) within in
      let same : known_signature (get_or known.heads.items k d) ≡ head_signature h = sym mapped ∙ ap (λ (ss : List StackSignature). get_or ss k (head_signature h)) knows.heads ∙ others in
      let low = over_low (length image.records) (record_shapes image.records) (map on_stack h.params) (all_over (length image.records) (record_shapes image.records) h.params holds.params) in
      (λ i. low_state (knows.shapes.heights i) (same i).params) ∙ low

  some_entry : (k : ℕ) (d : Entry) → length image.code.entries ≡ length image.heads → k < length image.code.entries → (x : HeadTree) → (get_or image.code.entries k d).start < (get_or image.code.entries k d).end
  some_entry k d n l x =
      let within : k < length image.heads = omega (arith, n) in
      (knows.functions k (get_or image.heads k x) (head_at k x within)).some_instruction (get_or image.code.entries k d) (slice_get-get_or image.code.entries k d l)

  pub ready : HasForm image → AreReady known image.code
  ready form =
      let n : length image.code.entries ≡ length image.heads = match_lengths image.code.entries image.heads form.entries in
      record {
        count = n ∙ sym as_many;
        filled = λ k d l. some_entry k d n l none;
        low = λ k d l. params_low k d none l;
      }
    where
      none : HeadTree
      none = record { name = []; params = []; result = bool_shape }

  abbrev Answered : View → Option ℕ → Type 0
  Answered view o = MatchOption o (CodeHolds view) (λ a. IsFirstAddress view a)

  pub code_holds : (o : Option ℕ) → o ≡ None → Answered (known_view known image.code) o → CodeHolds (view_of image)
  code_holds o e h = subst CodeHolds view_is (subst (Answered (known_view known image.code)) e h)

  pub code_fails : (o : Option ℕ) (a : ℕ) → o ≡ Some a → Answered (known_view known image.code) o → IsFirstAddress (view_of image) a
  code_fails o a e h = subst (λ (view : View). IsFirstAddress view a) view_is (subst (Answered (known_view known image.code)) e h)
