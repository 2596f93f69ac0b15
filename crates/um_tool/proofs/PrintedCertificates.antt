-- What is answered to `prove`.
use Rattle.std.proofs.Common.{◌≡◌, ◌⊎◌, ℕ, ◌≤◌, ℤ, IsTrue, List, [], ◌∷◌, length, codes, slice_get, Option, Result, Ok, Err, None, Some, refl, sym, ap, subst, ◌∙◌, inl, inr, arith}
use Rattle.std.proofs.lemmas.List.{length-map}
use Rattle.std.proofs.lemmas.Option.{slice_get_within}
use Rattle.um_parse.specs.Laws.{AnswersAreUnique as ParsesAreUnique}
use Rattle.um_tree.specs.ProgramTree.{FunctionTree, ProgramTree, SchemeTree, scheme_tree}
use Rattle.um_tree.specs.Formed.{IsFormed}
use Rattle.um_infer.specs.Answers.{scheme_trees}
use Rattle.um_infer.specs.Inference.{Inference, all_schemes, stops_at_slots, stops_at_range, stops_at_units, stops_at_not_general, infer}
use Rattle.um_infer.specs.Schemes.{IsFirstWithoutUnits, IsFirstNotGeneral}
use Rattle.um_infer.proofs.InferenceLaws.{first_are_principal, given_schemes_are_principal, units_stop_at_first_untyped, not_general_stops_at_first_untyped}
use Rattle.um_check.specs.declared.certificate.No.{No}
use Rattle.um_proof.specs.declared.proofs.Proofs.{Proofs}
use Rattle.um_proof.specs.declared.stop.ProveStop.{ProveStop}
use Rattle.um_proof.specs.declared.stop.ProveStop.TheVariants as prove_stop
use Rattle.um_proof.specs.Proving.{IsRefusal, AreProofs, AreTidyProofs, PassesInFunction, IsWithinLimits, IsProved}
use Rattle.um_certificates.specs.CertificateText.{certificates_text}
use Rattle.um_orders.specs.declared.order.Order.TheVariants.{Prove}
use Rattle.um_orders.specs.Orders.{order_of}
use Rattle.um_reports.specs.declared.status.Status.{Status}
use Rattle.um_reports.specs.declared.status.Status.TheVariants.{Done, CertRange}
use Rattle.um_reports.specs.Refusals.{IsSlotsReply, IsRangeReply, IsCertificateReply}
use Rattle.um_front.specs.Stages.{ShapedTree, IsShapedText}
use Rattle.um_front.specs.Refused.{OfFunction}
use Rattle.um_front.proofs.CheckedTexts.{shaped_is_formed}
use Rattle.um_front.proofs.RefusalStatuses.{unshaped_early}
use Rattle.um_answers.specs.ProveAnswer.{IsProofReply, IsProveReply, ProveAnswer}
use Rattle.um_tool.specs.Answer.{Answer}
use Rattle.um_tool.specs.CertificateLaws.{EndsProofs, AreCertificates, PrintedCertificatesAreValid, RefusedCertificatesPass, tells_of_certificates, ProofsAreUnique}
use Rattle.um_tool.proofs.PrintedSchemes.{one_function}
use Rattle.um_tool.proofs.ShapedTexts.{one_shaped, shaped_is_not_refused, unshaped_once}

pub prove_ordered : order_of (codes "prove" ∷ []) ≡ Some Prove
unfolding order_of
prove_ordered = refl

-- ---- certificates
module _ (p : ProgramTree) (formed : IsFormed p) (proofs : Proofs) (valid : AreProofs p proofs) where
  abbrev n : ℕ
  n = length proofs.schemes.items.items

  abbrev schemes : List SchemeTree
  schemes = scheme_trees proofs.schemes

  as_many : length schemes ≡ n
  as_many = length-map proofs.schemes.items.items scheme_tree

  -- the certificates end where the inference does
  ended : (inferred : Inference) (last : Option No) → infer p ≡ inferred → IsRefusal p schemes inferred last → EndsProofs p n last × (n ≤ length p.functions)
  ended (all_schemes all) None is same =
      let count = (given_schemes_are_principal p formed all is).count in
      let every : n ≡ length p.functions = sym as_many ∙ ap length (sym same) ∙ count in
      (every, omega (arith, every))
  ended (all_schemes all) (Some c) is refused = absurd refused
  ended (stops_at_slots i) last is refused = absurd refused
  ended (stops_at_range i at) last is refused = absurd refused
  ended (stops_at_units i row at) None is refused = absurd refused
  ended (stops_at_units i row at) (Some c) is (here, valid, last, loose) =
      let u = units_stop_at_first_untyped p formed i row at is in
      let below = slice_get_within p.functions i u.0.function u.0.declared in
      let first : i ≡ n = sym here ∙ as_many in
      let placed = subst (λ k. IsFirstWithoutUnits p n k at) (sym last) (subst (λ k. IsFirstWithoutUnits p k row at) first u) in
      ((at, inl (loose, placed)), omega (arith, below, first))
  ended (stops_at_not_general i row at) None is refused = absurd refused
  ended (stops_at_not_general i row at) (Some c) is (here, valid, last, loose) =
      let u = not_general_stops_at_first_untyped p formed i row at is in
      let below = slice_get_within p.functions i u.0.function u.0.declared in
      let first : i ≡ n = sym here ∙ as_many in
      let placed = subst (λ k. IsFirstNotGeneral p n k at) (sym last) (subst (λ k. IsFirstNotGeneral p k row at) first u) in
      ((at, inr (loose, placed)), omega (arith, below, first))

  certificates : AreTidyProofs p proofs → AreCertificates p proofs
  certificates tidy =
      let end = ended (infer p) proofs.no refl valid.no in
      record { valid = valid; tidy = tidy; principal = first_are_principal p formed n schemes end.1 valid.schemes; ends = end.0 }

-- ---- what is printed
module _ (bytes text : List ℕ) where
  abbrev pub ArePrinted : ProgramTree → Type 0
  ArePrinted p = (proofs : Proofs) × AreCertificates p proofs × (text ≡ certificates_text p proofs.yes.items.items proofs.no)

  printed : (p : ProgramTree) → IsFormed p → (r : Result Proofs ProveStop) → IsProved p r → IsProofReply bytes p r text Done → ArePrinted p
  printed p formed (Ok proofs) (valid, tidy) reply = (proofs, certificates p formed proofs valid tidy, reply.0)
  printed p formed (Err (prove_stop.Slots i)) valid reply = absurd (cc reply.2.1)
  printed p formed (Err (prove_stop.PowerRange i at)) valid reply = absurd (cc reply.2.1)
  printed p formed (Err (prove_stop.CertRange i number)) valid reply = absurd (cc reply.2.1)
  printed p formed (Err prove_stop.NoMemory) valid reply = absurd reply

  pub printed_of : ProveAnswer bytes text Done → (s : ShapedTree) × IsShapedText bytes s × ArePrinted s.program
  unfolding ProveAnswer IsProveReply
  printed_of (inl (s, is, (r, valid, reply))) = (s, is, printed s.program (shaped_is_formed bytes s is) r valid reply)
  printed_of (inr unshaped) = absurd (let early = unshaped_early bytes text Done unshaped in cc early)

  abbrev Passes : ProgramTree → Type 0
  Passes p = (i : ℕ) × (number : ℤ) × (f : FunctionTree) × (slice_get p.functions i ≡ Some f) × PassesInFunction p i number × IsCertificateReply f.name number text CertRange

  passed : (p : ProgramTree) → (r : Result Proofs ProveStop) → IsProved p r → IsProofReply bytes p r text CertRange → Passes p
  passed p (Ok proofs) valid reply = absurd (cc reply.1)
  passed p (Err (prove_stop.Slots i)) valid reply = absurd (cc reply.2.1)
  passed p (Err (prove_stop.PowerRange i at)) valid reply = absurd (cc reply.2.1)
  passed p (Err (prove_stop.CertRange i number)) valid (f, declared, reply) = (i, number, f, declared, valid.1, reply)
  passed p (Err prove_stop.NoMemory) valid reply = absurd reply

  passed_of : ProveAnswer bytes text CertRange → (s : ShapedTree) × IsShapedText bytes s × Passes s.program
  unfolding ProveAnswer IsProveReply
  passed_of (inl (s, is, (r, valid, reply))) = (s, is, passed s.program r valid reply)
  passed_of (inr unshaped) = absurd (let early = unshaped_early bytes text CertRange unshaped in cc early)

pub printed_certificates_are_valid : PrintedCertificatesAreValid
unfolding Answer
printed_certificates_are_valid bytes text answer =
    let given : ProveAnswer bytes text Done = rw prove_ordered at answer in
    printed_of bytes text given

pub refused_certificates_pass : RefusedCertificatesPass
unfolding Answer
refused_certificates_pass bytes text answer =
    let given : ProveAnswer bytes text CertRange = rw prove_ordered at answer in
    passed_of bytes text given

-- ---- answers are one, but for certificates
module _ (bytes text other : List ℕ) (status another : Status) (p : ProgramTree) where
  abbrev AreAlike : Type 0
  AreAlike = ((text ≡ other) × (status ≡ another)) ⊎ (IsTrue (tells_of_certificates status) × IsTrue (tells_of_certificates another))

  -- certificates, or one that a number is too large for
  abbrev IsHeld : Result Proofs ProveStop → Type 0
  IsHeld (Ok proofs) = Unit {0}
  IsHeld (Err (prove_stop.Slots i)) = ⊥
  IsHeld (Err (prove_stop.PowerRange i at)) = ⊥
  IsHeld (Err (prove_stop.CertRange i number)) = Unit {0}
  IsHeld (Err prove_stop.NoMemory) = ⊥

  held_tells : (r : Result Proofs ProveStop) (reply : List ℕ) (end : Status) → IsHeld r → IsProofReply bytes p r reply end → IsTrue (tells_of_certificates end)
  held_tells (Ok proofs) reply end held is = rw is.1 refl
  held_tells (Err (prove_stop.Slots i)) reply end held is = absurd held
  held_tells (Err (prove_stop.PowerRange i at)) reply end held is = absurd held
  held_tells (Err (prove_stop.CertRange i number)) reply end held is = rw is.2.1 refl
  held_tells (Err prove_stop.NoMemory) reply end held is = absurd held

  -- they come only where no limit is passed
  held_within : (r : Result Proofs ProveStop) → IsHeld r → IsProved p r → IsWithinLimits (infer p)
  held_within (Ok proofs) held (valid, tidy) = by (infer p) proofs.no valid.no where
    by : (inferred : Inference) (last : Option No) → IsRefusal p (scheme_trees proofs.schemes) inferred last → IsWithinLimits inferred
    by (all_schemes all) last refused = tt
    by (stops_at_slots i) last refused = refused
    by (stops_at_range i at) last refused = refused
    by (stops_at_units i row at) last refused = tt
    by (stops_at_not_general i row at) last refused = tt
  held_within (Err (prove_stop.Slots i)) held valid = absurd held
  held_within (Err (prove_stop.PowerRange i at)) held valid = absurd held
  held_within (Err (prove_stop.CertRange i number)) held valid = valid.0
  held_within (Err prove_stop.NoMemory) held valid = absurd held

  not_within : (r : Result Proofs ProveStop) (inferred : Inference) → IsHeld r → IsProved p r → infer p ≡ inferred → (IsWithinLimits inferred → ⊥) → AreAlike
  not_within r inferred held valid is past = absurd (past (subst IsWithinLimits is (held_within r held valid)))

  of_one : (i : ℕ) (Says Tells : FunctionTree → Type 0) → ((f : FunctionTree) → Says f → Tells f → (text ≡ other) × (status ≡ another)) → OfFunction p i Says → OfFunction p i Tells → (text ≡ other) × (status ≡ another)
  of_one i Says Tells alike (f, declared, x) (g, is, y) = alike g (subst Says (one_function p i f g declared is) x) y

  proofs_alike : (r q : Result Proofs ProveStop) → IsProved p r → IsProved p q → IsProofReply bytes p r text status → IsProofReply bytes p q other another → AreAlike
  proofs_alike (Err (prove_stop.Slots i)) (Err (prove_stop.Slots k)) a b x y =
      let both : stops_at_slots i ≡ stops_at_slots k = sym a ∙ b in let same : i ≡ k = cc both in
      inl (of_one k _ _ (λ f c d. (c.0 ∙ sym d.0, c.1 ∙ sym d.1)) (subst (λ j. OfFunction p j (λ f. IsSlotsReply bytes f.at text status)) same x) y)
  proofs_alike (Err (prove_stop.PowerRange i at)) (Err (prove_stop.PowerRange k place)) a b x y =
      let both : stops_at_range i at ≡ stops_at_range k place = sym a ∙ b in let same : i ≡ k = cc both in let spot : at ≡ place = cc both in
      let here = subst (λ j. OfFunction p j (λ f. IsRangeReply bytes f.name at text status)) same x in
      inl (of_one k _ _ (λ f c d. (c.0 ∙ sym d.0, c.1 ∙ sym d.1)) (subst (λ j. OfFunction p k (λ f. IsRangeReply bytes f.name j text status)) spot here) y)
  proofs_alike (Err (prove_stop.Slots i)) (Err (prove_stop.PowerRange k place)) a b x y = absurd (cc (sym a ∙ b))
  proofs_alike (Err (prove_stop.PowerRange i at)) (Err (prove_stop.Slots k)) a b x y = absurd (cc (sym a ∙ b))
  proofs_alike (Err (prove_stop.Slots i)) (Ok proofs) a b x y = not_within (Ok proofs) (stops_at_slots i) tt b a (λ h. h)
  proofs_alike (Err (prove_stop.Slots i)) (Err (prove_stop.CertRange k number)) a b x y = not_within (Err (prove_stop.CertRange k number)) (stops_at_slots i) tt b a (λ h. h)
  proofs_alike (Err (prove_stop.PowerRange i at)) (Ok proofs) a b x y = not_within (Ok proofs) (stops_at_range i at) tt b a (λ h. h)
  proofs_alike (Err (prove_stop.PowerRange i at)) (Err (prove_stop.CertRange k number)) a b x y = not_within (Err (prove_stop.CertRange k number)) (stops_at_range i at) tt b a (λ h. h)
  proofs_alike (Ok proofs) (Err (prove_stop.Slots k)) a b x y = not_within (Ok proofs) (stops_at_slots k) tt a b (λ h. h)
  proofs_alike (Ok proofs) (Err (prove_stop.PowerRange k at)) a b x y = not_within (Ok proofs) (stops_at_range k at) tt a b (λ h. h)
  proofs_alike (Err (prove_stop.CertRange i number)) (Err (prove_stop.Slots k)) a b x y = not_within (Err (prove_stop.CertRange i number)) (stops_at_slots k) tt a b (λ h. h)
  proofs_alike (Err (prove_stop.CertRange i number)) (Err (prove_stop.PowerRange k at)) a b x y = not_within (Err (prove_stop.CertRange i number)) (stops_at_range k at) tt a b (λ h. h)
  proofs_alike (Ok proofs) (Ok others) a b x y = inr (held_tells (Ok proofs) text status tt x, held_tells (Ok others) other another tt y)
  proofs_alike (Ok proofs) (Err (prove_stop.CertRange k number)) a b x y = inr (held_tells (Ok proofs) text status tt x, held_tells (Err (prove_stop.CertRange k number)) other another tt y)
  proofs_alike (Err (prove_stop.CertRange i number)) (Ok others) a b x y = inr (held_tells (Err (prove_stop.CertRange i number)) text status tt x, held_tells (Ok others) other another tt y)
  proofs_alike (Err (prove_stop.CertRange i number)) (Err (prove_stop.CertRange k value)) a b x y =
      inr (held_tells (Err (prove_stop.CertRange i number)) text status tt x, held_tells (Err (prove_stop.CertRange k value)) other another tt y)
  proofs_alike (Err prove_stop.NoMemory) q a b x y = absurd x
  proofs_alike r (Err prove_stop.NoMemory) a b x y = absurd y

module _ (one : ParsesAreUnique) (bytes text other : List ℕ) (status another : Status) where
  abbrev AreOne : Type 0
  AreOne = ((text ≡ other) × (status ≡ another)) ⊎ (IsTrue (tells_of_certificates status) × IsTrue (tells_of_certificates another))

  replies_one : (p : ProgramTree) → IsProveReply bytes p text status → IsProveReply bytes p other another → AreOne
  unfolding IsProveReply
  replies_one p (r, a, x) (q, b, y) = proofs_alike bytes text other status another p r q a b x y

  prove_one : ProveAnswer bytes text status → ProveAnswer bytes other another → AreOne
  unfolding ProveAnswer
  prove_one (inl (s, is, x)) (inl (t, also, y)) =
      let same : s ≡ t = one_shaped bytes s t is also in
      replies_one t.program (subst (λ (z : ShapedTree). IsProveReply bytes z.program text status) same x) y
  prove_one (inl (s, is, x)) (inr refused) = absurd (shaped_is_not_refused bytes other another s is refused)
  prove_one (inr refused) (inl (t, also, y)) = absurd (shaped_is_not_refused bytes text status t also refused)
  prove_one (inr refused) (inr unshaped) = inl (unshaped_once text other status another one bytes refused unshaped)

pub proofs_are_one : ParsesAreUnique → ProofsAreUnique
unfolding Answer
proofs_are_one one words bytes text other status another ordered a b =
    let x : ProveAnswer bytes text status = rw ordered at a in
    let y : ProveAnswer bytes other another = rw ordered at b in
    prove_one one bytes text other status another x y
