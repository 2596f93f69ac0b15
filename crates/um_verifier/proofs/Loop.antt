-- The loop over the addresses of a function.
use Rattle.std.proofs.Common.{◌≡◌, sym, ap, ◌∙◌, subst, ℕ, zero, suc, ◌+◌, ◌-◌, ◌<◌, ◌≤◌, Bool, true, false, cond, List, length, get_or, slice_get, arith, ◌⊎◌, inl, inr}
use Rattle.std.specs.Prelude.{nat_eq}
use Rattle.std.proofs.lemmas.Bool.{cases_order}
use Rattle.std.proofs.lemmas.Bool.Decides.{nat_tests}
use Rattle.um_verify.specs.Rules as rules
use Rattle.um_verify.specs.Rules.{Body, View}
use Rattle.um_verify.specs.Verified as verified
use Rattle.um_verify.specs.Verified.{nobody, arrived, passed, sends, met, flow, Passes, BodyHolds}
use Rattle.std.proofs.lemmas.List.{get_or_default}
use Rattle.um_verify.specs.StackShape.{StackShape}
use Rattle.um_stacks.specs.FlatShapes.{flat_shapes}
use Rattle.um_stacks.specs.Stacks.{stack_at}
use Rattle.um_stacks.specs.declared.flat.FlatShape.{FlatShape}
use Rattle.um_verifier.specs.Tables.{met_of, met_at, IsMetBelow, AreMetBelow, FailsIf}
use Rattle.um_verify.specs.Verified.{FirstFailure}
use Rattle.um_verifier.specs.KnownImages.{known_heights}
use Rattle.um_verifier.specs.States.{IsLowMet}
use Rattle.um_verifier.specs.declared.known.Known.{Known}
use Rattle.um_verifier.specs.declared.table.Met.{Met}
use Rattle.um_verifier.specs.declared.table.Met.TheVariants.{Nobody, Clash, Arrived}
use Rattle.um_verifier.proofs.LowMet.{LowMet}

-- the table holds what has arrived from the addresses before n, and their rules hold
abbrev pub TableIs : View → Body → List (List FlatShape) → List Met → ℕ → Type 0
TableIs view e stacks table n =
    (length table ≡ e.end - e.start) × ((t : ℕ) → n ≤ t → t < e.end - e.start → met_at stacks table t ≡ met view e (e.start + t) n) × ((k : ℕ) → k < n → Passes (flow view e k))

pub table_start : (view : View) (e : Body) (stacks : List (List FlatShape)) (table : List Met) (first : ℕ) (params : List FlatShape) → length table ≡ e.end - e.start → get_or table 0 Nobody ≡ Arrived first → ((t : ℕ) → 0 < t → get_or table t Nobody ≡ Nobody) → stack_at stacks first ≡ params → e.params ≡ flat_shapes params → TableIs view e stacks table 0
table_start view e stacks table k params l h others s r = (l, λ t a b. first t, λ j b. absurd (omega arith))
  where
    here : met_at stacks table 0 ≡ arrived e.params
    here = ap (met_of stacks) h ∙ ap (λ (st : List FlatShape). arrived (flat_shapes st)) s ∙ ap (λ (st : List StackShape). arrived st) (sym r)

    same : (t : ℕ) (b : Bool) → nat_eq (e.start + t) e.start ≡ b → met_at stacks table t ≡ cond b (arrived e.params) nobody → met_at stacks table t ≡ met view e (e.start + t) 0
    same t b q r = r ∙ ap (λ (b : Bool). cond b (arrived e.params) nobody) (sym q)

    first : (t : ℕ) → met_at stacks table t ≡ met view e (e.start + t) 0
    first zero = let q : nat_eq (e.start + 0) e.start ≡ true = grind (arith, nat_tests) in same 0 true q here
    first (suc t) = let q : nat_eq (e.start + suc t) e.start ≡ false = grind (arith, nat_tests) in same (suc t) false q (ap (met_of stacks) (others (suc t) (omega arith)))

pub start_below : (n first : ℕ) (table : List Met) → get_or table 0 Nobody ≡ Arrived first → ((t : ℕ) → 0 < t → get_or table t Nobody ≡ Nobody) → first < n → AreMetBelow n table
start_below n first table h others l zero = subst (IsMetBelow n) (sym h) l
start_below n first table h others l (suc t) = subst (IsMetBelow n) (sym (others (suc t) (omega arith))) tt

-- what stands at place n is what has arrived there
pub taken_is : (view : View) (e : Body) (stacks : List (List FlatShape)) (table : List Met) (n : ℕ) (m : Met) → TableIs view e stacks table n → n < e.end - e.start → m ≡ get_or table n m → met_of stacks m ≡ met view e (e.start + n) n
taken_is view e stacks table n m h l r = ap (met_of stacks) (r ∙ get_or_default table n m Nobody (omega (arith, h.0, l))) ∙ h.1 n (omega arith) l

pub flow_met : (view : View) (e : Body) (n : ℕ) (m : verified.Met) (f : rules.Flow) → m ≡ met view e (e.start + n) n → f ≡ passed view e (e.start + n) (slice_get view.ops (e.start + n)) m → f ≡ flow view e n
flow_met view e n m f r q = q ∙ ap (λ (m : verified.Met). passed view e (e.start + n) (slice_get view.ops (e.start + n)) m) r

pub table_next : (view : View) (e : Body) (stacks more : List (List FlatShape)) (old new : List Met) (n : ℕ) (f : rules.Flow) → TableIs view e stacks old n → n < e.end - e.start → f ≡ flow view e n → Passes f → length new ≡ length old → ((t : ℕ) → met_at more new t ≡ sends (met_at stacks old t) f (e.start + t)) → TableIs view e more new (suc n)
table_next view e stacks more old new n f h l q p len g = (
  len ∙ h.0,
  λ t a b.
      g t ∙ ap (λ (m : verified.Met). sends m f (e.start + t)) (h.1 t (omega arith) b) ∙ ap (λ (f : rules.Flow). sends (met view e (e.start + t) n) f (e.start + t)) q,
  λ k b. holds k b (cases_order k n),
)
  where
    holds : (k : ℕ) → k < suc n → (k ≡ n) ⊎ ((k < n) ⊎ (n < k)) → Passes (flow view e k)
    holds k b (inl c) = subst (λ (k : ℕ). Passes (flow view e k)) (sym c) (subst Passes q p)
    holds k b (inr (inl c)) = h.2 k c
    holds k b (inr (inr c)) = absurd (omega arith)

pub first_failure : (view : View) (e : Body) (stacks : List (List FlatShape)) (table : List Met) (n : ℕ) (f : rules.Flow) → TableIs view e stacks table n → n < e.end - e.start → f ≡ flow view e n → (Passes f → ⊥) → FirstFailure view e n
first_failure view e stacks table n f h l q p = (omega arith, λ g. p (subst Passes (sym q) g), h.2)

pub all_passed : (view : View) (e : Body) (stacks : List (List FlatShape)) (table : List Met) (n : ℕ) → TableIs view e stacks table n → e.end - e.start ≤ n → BodyHolds view e
all_passed view e stacks table n h l = λ k b. h.2 k (omega arith)

pub has_passed : (b : Bool) (f : rules.Flow) → b ≡ false → FailsIf b f → Passes f
has_passed b f h k = subst (λ (b : Bool). FailsIf b f) h k

pub has_failed : (b : Bool) (f : rules.Flow) → b ≡ true → FailsIf b f → Passes f → ⊥
has_failed b f h k = subst (λ (b : Bool). FailsIf b f) h k

pub is_low_met : (known : Known) (stacks : List (List FlatShape)) (m : Met) → LowMet (known_heights known) (met_of stacks m) → IsLowMet known stacks m
is_low_met known stacks Nobody h = tt
is_low_met known stacks Clash h = tt
is_low_met known stacks (Arrived k) h = h
