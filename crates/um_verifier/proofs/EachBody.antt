-- The loop over the functions.
use Rattle.std.proofs.Common.{◌≡◌, sym, ap, ◌∙◌, subst, ℕ, zero, suc, ◌+◌, ◌<◌, ◌≤◌, All, List, [], ◌∷◌, length, get_or, Option, Some, None, slice_get, arith}
use Rattle.std.specs.Prelude.{MatchOption}
use Rattle.std.proofs.lemmas.List.{get_or_default}
use Rattle.um_machine.specs.declared.code.Entry.{Entry}
use Rattle.um_machine.specs.declared.code.Code.{Code}
use Rattle.um_verify.specs.Rules.{Body, View}
use Rattle.um_verify.specs.Verified.{BodyHolds, CodeHolds}
use Rattle.um_verifier.specs.KnownImages.{known_body, known_bodies, known_view}
use Rattle.um_verify.specs.Verified.{FirstFailure}
use Rattle.um_verifier.specs.Bodies.{AreReady}
use Rattle.um_verifier.specs.declared.known.KnownHead.{KnownHead}
use Rattle.um_verifier.specs.declared.known.Known.{Known}
use Rattle.um_verifier.proofs.Firsts.{HoldBefore, hold_next}

pub at_place : {A : Type 0} (P : A → Type 0) (xs : List A) (k : ℕ) (x : A) → All P xs → k < length xs → x ≡ get_or xs k x → P x
at_place P xs k x h l e = subst P (sym e) (h k x l)

pub body_is : (es : List Entry) (hs : List KnownHead) (f : ℕ) (e : Entry) (h : KnownHead) → length es ≡ length hs → f < length es → e ≡ get_or es f e → h ≡ get_or hs f h → slice_get (known_bodies es hs) f ≡ Some (known_body e h)
body_is [] hs f e h n l s t = absurd (omega arith)
body_is (x ∷ es) [] f e h n l s t = absurd (omega arith)
body_is (x ∷ es) (y ∷ hs) zero e h n l s t = (λ i. Some (known_body (sym s i) (sym t i)))
body_is (x ∷ es) (y ∷ hs) (suc f) e h n l s t = body_is es hs f e h (omega arith) (omega arith) s t

within : (es : List Entry) (hs : List KnownHead) (f : ℕ) (b : Body) → slice_get (known_bodies es hs) f ≡ Some b → f < length es
within [] [] zero b s = absurd cc
within [] [] (suc f) b s = absurd cc
within [] (y ∷ hs) zero b s = absurd cc
within [] (y ∷ hs) (suc f) b s = absurd cc
within (x ∷ es) [] zero b s = absurd cc
within (x ∷ es) [] (suc f) b s = absurd cc
within (x ∷ es) (y ∷ hs) zero b s = omega arith
within (x ∷ es) (y ∷ hs) (suc f) b s = let l = within es hs f b s in omega arith

-- the functions before f hold
abbrev pub Before : View → ℕ → Type 0
Before view f = HoldBefore (λ g b. BodyHolds view b) view.bodies f

pub before_next : (view : View) (f : ℕ) (b : Body) → Before view f → slice_get view.bodies f ≡ Some b → BodyHolds view b → Before view (f + 1)
before_next view f b h s k = hold_next (λ g b. BodyHolds view b) view.bodies f b s h k

pub all_hold : (known : Known) (code : Code) (f : ℕ) → Before (known_view known code) f → length code.entries ≤ f → CodeHolds (known_view known code)
all_hold known code f h l g b s = let w = within code.entries known.heads.items g b s in h g b (omega arith) s

pub holds_of : (view : View) (b : Body) (o : Option ℕ) → o ≡ None → MatchOption o (BodyHolds view b) (λ n. FirstFailure view b n) → BodyHolds view b
holds_of view b o e h = subst (λ (o : Option ℕ). MatchOption o (BodyHolds view b) (λ n. FirstFailure view b n)) e h

pub fails_of : (view : View) (b : Body) (o : Option ℕ) (n : ℕ) → o ≡ Some n → MatchOption o (BodyHolds view b) (λ n. FirstFailure view b n) → FirstFailure view b n
fails_of view b o n e h = subst (λ (o : Option ℕ). MatchOption o (BodyHolds view b) (λ n. FirstFailure view b n)) e h

-- the body of function f, whose entry was read from a copy of the entries
pub read_body : (known : Known) (code : Code) (es : List Entry) (f : ℕ) (d e : Entry) (h : KnownHead) → AreReady known code → es ≡ code.entries → f < length es → e ≡ get_or es f d → h ≡ get_or known.heads.items f h → slice_get (known_view known code).bodies f ≡ Some (known_body e h)
read_body known code es f d e h ready s l r t =
    let n = ready.count in
    let lengths : length es ≡ length code.entries = ap (λ (xs : List Entry). length xs) s in
    let read : e ≡ get_or code.entries f e = r ∙ get_or_default es f d e l ∙ ap (λ (xs : List Entry). get_or xs f e) s in
    body_is code.entries known.heads.items f e h n (omega arith) read t
