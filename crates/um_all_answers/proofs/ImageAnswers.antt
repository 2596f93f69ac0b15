-- The program of a text has an image, and this can be written.
use Rattle.std.proofs.Common.{◌≡◌, ℕ, zero, suc, ◌+◌, List, [], ◌∷◌, length, map, Some, refl, sym, ap, subst, arith}
use Rattle.std.specs.Prelude.{All, slice_get}
use Rattle.um_tree.specs.ProgramTree.{FunctionTree, ProgramTree}
use Rattle.um_tree.specs.Formed.{IsFormed}
use Rattle.um_tree.specs.Shapes.{IsShaped}
use Rattle.um_shape.specs.Laws.{FaultlessIsShaped}
use Rattle.um_machine.specs.declared.code.Code.{Code}
use Rattle.um_gen.specs.ProgramCode.{program_code}
use Rattle.um_verify.specs.ImageTree.{HeadTree, ImageTree}
use Rattle.um_image.specs.Encoding.{image_bytes}
use Rattle.um_image.specs.Places.{OpFits}
use Rattle.um_image.specs.ProgramImage.{plain_record, IsHeadOf, IsImageOf}
use Rattle.um_image.specs.Laws.{GeneratedIsVerified}
use Rattle.um_reports.specs.declared.status.Status.TheVariants.{Done}
use Rattle.um_front.specs.Stages.{CheckedTree, IsCheckedText}
use Rattle.um_front.proofs.CheckedTexts.{shaped_is_formed}
use Rattle.um_answers.specs.ImageAnswer.{IsImageReply, ImageAnswer}
use Rattle.um_answers.proofs.ShortNames.{short_names}
use Rattle.um_all_answers.specs.TextLaws.{EachTextHasStages}
use Rattle.um_all_answers.proofs.Answers.{Told, of_checked}
use Rattle.um_all_answers.specs.TextLaws.{EachTextHasImage}
use Rattle.um_all_answers.proofs.Bodies.{Low, text_low}
use Rattle.um_all_answers.proofs.Operands.{AreFunctionsFrom, functions_after, all_functions, code_fits}
use Rattle.um_all_answers.proofs.ImageNumbers.{numbers_fit}

-- ---- the heads of functions with shapes
module _ (p : ProgramTree) (formed : IsFormed p) (shaped : IsShaped p) where
  abbrev HeadsFrom : ℕ → List FunctionTree → Type 0
  HeadsFrom i fs = (hs : List HeadTree) × (length hs ≡ length fs) × ((k : ℕ) (h : HeadTree) → slice_get hs k ≡ Some h → IsHeadOf p (i + k) h)

  head_of : (i : ℕ) (f : FunctionTree) → slice_get p.functions i ≡ Some f → (h : HeadTree) × IsHeadOf p i h
  head_of i f e =
      let (g, its) = shaped i f e in
      let h : HeadTree = record { name = f.name; params = g.params; result = g.result } in
      (h, record { function = f; listed = e; name = refl; shapes = its })

  each_head : (i : ℕ) (h : HeadTree) (hs : List HeadTree) → IsHeadOf p (i + 0) h → ((k : ℕ) (g : HeadTree) → slice_get hs k ≡ Some g → IsHeadOf p (suc i + k) g) → (k : ℕ) (g : HeadTree) → slice_get (h ∷ hs) k ≡ Some g → IsHeadOf p (i + k) g
  each_head i h hs first others zero g e = let same : h ≡ g = cc e in subst (IsHeadOf p (i + 0)) same first
  each_head i h hs first others (suc k) g e = let same : suc i + k ≡ i + suc k = omega arith in subst (λ (n : ℕ). IsHeadOf p n g) same (others k g e)

  heads_from : (i : ℕ) (fs : List FunctionTree) → AreFunctionsFrom p formed i fs → HeadsFrom i fs
  heads_from i [] are = ([], refl, λ k h e. absurd (cc e))
  heads_from i (f ∷ fs) are =
      let (h, is) = head_of (i + 0) f (are 0 f refl) in
      let (hs, many, others) = heads_from (suc i) fs (functions_after p formed i f fs are) in
      (h ∷ hs, ap (λ n. suc n) many, each_head i h hs is others)

  has_image : (image : ImageTree) × IsImageOf p (program_code p.functions) image
  has_image =
      let (hs, many, heads) = heads_from 0 p.functions (all_functions p formed) in
      let image : ImageTree = record { records = map plain_record p.records; heads = hs; code = program_code p.functions } in
      (image, record { records = refl; code_is = refl; count = many; heads = from_zero hs heads })
    where
      from_zero : (hs : List HeadTree) → ((k : ℕ) (h : HeadTree) → slice_get hs k ≡ Some h → IsHeadOf p (0 + k) h) → (k : ℕ) (h : HeadTree) → slice_get hs k ≡ Some h → IsHeadOf p k h
      from_zero hs heads k h e = let same : 0 + k ≡ k = omega arith in subst (λ (n : ℕ). IsHeadOf p n h) same (heads k h e)

  abbrev OpsFit : Code → Type 0
  OpsFit code = All OpFits code.ops

  program_fits : All Low p.functions → OpsFit (program_code p.functions)
  unfolding program_code
  program_fits low = code_fits p formed low

-- ---- it can be written
module _ (stages : EachTextHasStages) (shapes : FaultlessIsShaped) (law : GeneratedIsVerified) where
  image_told : (bytes : List ℕ) (c : CheckedTree) → IsCheckedText bytes c → Told (IsImageReply c)
  unfolding IsImageReply
  image_told bytes c is =
      let p = c.text.program in
      let formed = shaped_is_formed bytes c.text is.shaped in
      let shaped = shapes p is.shaped.faultless in
      let (image, is_image) = has_image p formed shaped in
      let verified = law p image formed is.shaped.faultless (short_names bytes c.text is.shaped) is_image in
      let fits = subst (OpsFit p formed shaped) (sym is_image.code_is) (program_fits p formed shaped (text_low bytes c.text is.shaped)) in
      (image_bytes image, Done, (image, is_image, record { form = verified.form; numbers = numbers_fit image verified fits }, (refl, refl)))

  pub each_text_has_image : EachTextHasImage
  unfolding ImageAnswer
  each_text_has_image bytes = of_checked bytes IsImageReply (image_told bytes) (stages bytes).1
