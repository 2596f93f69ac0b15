-- It is decided whether the rules of an image's code hold, and which address is the first whose rule fails.
use Rattle.std.proofs.Common.{◌≡◌, ◌≢◌, ◌⊎◌, inl, inr, ℕ, zero, suc, ◌+◌, ◌-◌, ◌≤◌, ◌<◌, List, [], ◌∷◌, length, Option, Some, None, refl, sym, ap, subst, ◌∙◌, arith}
use Rattle.std.specs.Prelude.{slice_get}
use Rattle.std.proofs.lemmas.Bool.{cases_lt}
use Rattle.std.proofs.lemmas.Option.{slice_get_within}
use Rattle.um_verify.specs.ImageTree.{ImageTree, HasForm}
use Rattle.um_verify.specs.Rules.{Body, View, view_of, Flow, fails, passes}
use Rattle.um_verify.specs.Verified.{flow, Passes, BodyHolds, CodeHolds, IsVerified, FirstFailure, IsFirstAddress}
use Rattle.um_verifier.specs.declared.stop.VerifyStop.{VerifyStop}
use Rattle.um_verifier.specs.declared.stop.VerifyStop.TheVariants.{Head, Code, NoMemory}
use Rattle.um_verifier.specs.Refusals.{IsRefusal}
use Rattle.um_verifier.specs.Laws.{ImagesAreVerifiedOrRefused}
use Rattle.um_verifier.proofs.Decisions.{Dec, first_failing}
use Rattle.um_verifier.proofs.DecidedHeads.{heads_or_first}

-- nothing stands past the end alone
slice_get_past_none : {A : Type 0} (xs : List A) (k : ℕ) → slice_get xs k ≡ None → length xs ≤ k
slice_get_past_none [] k e = omega arith
slice_get_past_none (x ∷ xs) zero e = absurd (cc e)
slice_get_past_none (x ∷ xs) (suc k) e = let past = slice_get_past_none xs k e in omega (arith, past)

passes_or_not : (f : Flow) → Dec (Passes f)
passes_or_not fails = inr (λ h. h)
passes_or_not (passes ps) = inl tt

module _ (view : View) where
  body_or_first : (body : Body) → BodyHolds view body ⊎ ((n : ℕ) × FirstFailure view body n)
  body_or_first body =
      elim (first_failing (λ n. Passes (flow view body n)) (λ n. passes_or_not (flow view body n)) (body.end - body.start)) [
        | inl holds ↦ inl (λ n low. holds n (omega (arith, low)))
        | inr w ↦ let low = w.1 in inr (w.0, (omega (arith, low), w.2, w.3))
      ]

  -- of the functions from number f on, all before hold
  abbrev HoldBefore : ℕ → Type 0
  HoldBefore f = (g : ℕ) (other : Body) → g < f → slice_get view.bodies g ≡ Some other → BodyHolds view other

  one_more : (f : ℕ) (body : Body) → slice_get view.bodies f ≡ Some body → BodyHolds view body → HoldBefore f → HoldBefore (suc f)
  one_more f body listed holds before g other low is =
      elim (cases_lt g f) [
        | inl lt ↦ before g other lt is
        | inr le ↦
            let same : f ≡ g = omega (arith, low, le) in
            let both : Some body ≡ Some other = sym listed ∙ ap (slice_get view.bodies) same ∙ is in
            let one : body ≡ other = cc both in
            subst (BodyHolds view) one holds
      ]

  -- as many functions are left
  from_function : (left f : ℕ) → f + left ≡ length view.bodies → HoldBefore f → CodeHolds view ⊎ ((a : ℕ) × IsFirstAddress view a)
  from_function zero f e before = inl (λ g other is. let within = slice_get_within view.bodies g other is in before g other (omega (arith, within, e)) is)
  from_function (suc left) f e before = by (λ later. from_function left (suc f) (omega (arith, e)) later) (slice_get view.bodies f) refl where
    by : (HoldBefore (suc f) → CodeHolds view ⊎ ((a : ℕ) × IsFirstAddress view a)) → (o : Option Body) → slice_get view.bodies f ≡ o → CodeHolds view ⊎ ((a : ℕ) × IsFirstAddress view a)
    by further None none = let past = slice_get_past_none view.bodies f none in absurd (omega (arith, e, past))
    by further (Some body) listed =
        elim (body_or_first body) [
          | inl holds ↦ further (one_more f body listed holds before)
          | inr w ↦ inr (body.start + w.0, record { f = f; n = w.0; body = body; listed = listed; address = refl; failure = w.1; functions = before })
        ]

  code_or_first : CodeHolds view ⊎ ((a : ℕ) × IsFirstAddress view a)
  code_or_first = from_function (length view.bodies) 0 (omega arith) (λ g other low is. absurd (omega (arith, low)))

module _ (image : ImageTree) (form : HasForm image) where
  abbrev Verdict : Type 0
  Verdict = IsVerified image ⊎ ((stop : VerifyStop) × (stop ≢ NoMemory) × IsRefusal image stop)

  verdict : Verdict
  verdict =
      elim (heads_or_first image) [
        | inr w ↦ inr (Head w.0, (λ e. cc e), w.1)
        | inl heads ↦
            elim (code_or_first (view_of image)) [
              | inl code ↦ inl (record { form = form; heads = heads; code = code })
              | inr w ↦ inr (Code w.0, (λ e. cc e), (heads, w.1))
            ]
      ]

pub images_are_answered : ImagesAreVerifiedOrRefused
images_are_answered image form = verdict image form
