-- What a machine that reads a grammar says of it: what its states begin, what it finds, what one token more tells.
-- Published: crates above use it.
use Rattle.std.proofs.Common.{◌≡◌, ◌≢◌, ℕ, ◌≤◌, ◌<◌, List, [], ◌∷◌, ◌++◌, Option, Some, None, sym, ap, subst, ◌∙◌, arith}
use Rattle.um_reader.specs.Texts.{BeginsText, BeginsTextWithin, IsUnambiguous, IsTreeOf}
use Rattle.um_reader.specs.Machine.{Machine, runs, reached, IsReaderOf}
use Rattle.um_reader.specs.Takes.{Gives, Takes}
use Rattle.um_reader.specs.Readers.{HasTaken, TokenTells, ReadsTexts}
use Rattle.um_reader.specs.declared.taken.Taken.{Taken}
use Rattle.um_reader.specs.declared.taken.Taken.TheVariants as taken
use Rattle.um_reader.proofs.Reaching.{runs_append, runs_refused}

pub none_some : {A : Type 0} → (t : A) → ◌≡◌ {A = Option A} None (Some t) → ⊥
none_some t e = cc

pub some_same : {A : Type 0} → (t u : A) → ◌≡◌ {A = Option A} (Some t) (Some u) → t ≡ u
some_same t u e = cc

-- the state after one token more
pub one_more : {S T A : Type 0} → (m : Machine S T A) → (read : List T) (token : T) → m.step (reached m read) token ≡ reached m (read ++ token ∷ [])
one_more m read token = sym (runs_append m.step read (token ∷ []) m.start)

-- the same of states that end alike, where the next state is written in two ways
pub gives_as : {S T A : Type 0} → (m : Machine S T A) → (limit : ℕ) (old other next same : S) (given : Taken) (new : S) → m.finish old ≡ m.finish other → next ≡ same → Gives m limit old next given new
    → Gives m limit other same given new
gives_as m limit old other next same taken.Goes new ends e g = (g.0 ∙ e, g.1, g.2)
gives_as m limit old other next same taken.Stops new ends e g = (sym e ∙ g.0, g.1 ∙ ends)
gives_as m limit old other next same taken.High new ends e g = ((λ h. g.0 (e ∙ h)), subst (λ s. limit < m.least s) e g.1)

module _ {S T A : Type 0} {m : Machine S T A} {Is : List T → A → Type 0} {height : A → ℕ} (law : IsReaderOf m Is height) where
  -- the grammar is unambiguous
  pub unambiguous : IsUnambiguous Is
  unambiguous tokens t u p q = some_same t u (sym (law.finds tokens t p) ∙ law.finds tokens u q)

  -- what isn't refused begins a text
  pub begins_text : (tokens : List T) → reached m tokens ≢ m.refused → BeginsText Is tokens
  begins_text tokens ok = let c = law.completed tokens ok in (c.0, c.1, c.2)

  pub begins_within : (tokens : List T) (limit : ℕ) → reached m tokens ≢ m.refused → m.least (reached m tokens) ≤ limit → BeginsTextWithin Is height limit tokens
  begins_within tokens limit ok low = let c = law.completed tokens ok in (c.0, c.1, c.2, omega (arith, low, c.3))

  -- what is refused begins none
  pub begins_none : (tokens : List T) → reached m tokens ≡ m.refused → BeginsText Is tokens → ⊥
  begins_none tokens e b =
      let gone : reached m (tokens ++ b.0) ≡ m.refused = runs_append m.step tokens b.0 m.start ∙ ap (λ s. runs m.step s b.0) e ∙ runs_refused m.step m.refused law.stays b.0 in
      none_some b.1 (sym law.nothing ∙ ap m.finish (sym gone) ∙ law.finds (tokens ++ b.0) b.1 b.2)

  -- more tokens never lower the least height
  runs_up : (more : List T) (state : S) → runs m.step state more ≢ m.refused → m.least state ≤ m.least (runs m.step state more)
  runs_up [] state ok = omega arith
  runs_up (x ∷ more) state ok =
      let goes : m.step state x ≢ m.refused = λ e. ok (ap (λ s. runs m.step s more) e ∙ runs_refused m.step m.refused law.stays more) in
      omega (arith, law.up state x goes, runs_up more (m.step state x) ok)

  -- no text that the tokens begin is lower
  pub none_within : (tokens : List T) (limit : ℕ) → limit < m.least (reached m tokens) → BeginsTextWithin Is height limit tokens → ⊥
  none_within tokens limit high b =
      let last = runs m.step (reached m tokens) b.0 in
      let e : m.finish last ≡ Some b.1 = ap m.finish (sym (runs_append m.step tokens b.0 m.start)) ∙ law.finds (tokens ++ b.0) b.1 b.2 in
      let ok : last ≢ m.refused = λ h. none_some b.1 (sym law.nothing ∙ ap m.finish (sym h) ∙ e) in
      let up = runs_up b.0 (reached m tokens) ok in
      let same = law.same_height last b.1 e in
      let low = b.3 in
      absurd (omega (arith, high, up, same, low))

  -- what is found is the tree of the tokens
  found_tree : (tokens : List T) (found : Option A) → found ≡ m.finish (reached m tokens) → IsTreeOf Is tokens found
  found_tree tokens (Some t) e = law.found tokens t (sym e)
  found_tree tokens None e = λ t p. none_some t (e ∙ law.finds tokens t p)

  module _ (limit : ℕ) where
    tells : (old new : S) (read : List T) (token : T) (given : Taken) → HasTaken m old read → Takes m limit old token given new → TokenTells m Is height limit read token given new
    tells old new read token taken.Goes has t =
        let e : new ≡ reached m (read ++ token ∷ []) = t.0 ∙ ap (λ s. m.step s token) has ∙ one_more m read token in
        (e, begins_within (read ++ token ∷ []) limit (λ h. t.1 (e ∙ h)) (subst (λ s. m.least s ≤ limit) e t.2))
    tells old new read token taken.Stops has t =
        (begins_none (read ++ token ∷ []) (sym (one_more m read token) ∙ ap (λ s. m.step s token) (sym has) ∙ t.0), t.1 ∙ ap m.finish has)
    tells old new read token taken.High has t =
        let e : m.step old token ≡ reached m (read ++ token ∷ []) = ap (λ s. m.step s token) has ∙ one_more m read token in
        (begins_text (read ++ token ∷ []) (λ h. t.0 (e ∙ h)), none_within (read ++ token ∷ []) limit (subst (λ s. limit < m.least s) e t.1))

    pub reads_texts : ReadsTexts m Is height limit
    reads_texts = record { one_text = unambiguous; tells = tells; finds = λ state read found ends is. found_tree read found (is ∙ ends) }
