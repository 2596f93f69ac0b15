-- Machines that take one token at a time: what they read in parts, and one machine inside another. Published: crates above use it.
use Rattle.std.proofs.Common.{◌≡◌, ◌≢◌, List, [], ◌∷◌, ◌++◌, refl, sym, ap, ◌∙◌, append_assoc}
use Rattle.std.proofs.lemmas.List.{append-nil}
use Rattle.um_reader.specs.Machine.{runs, Yields, Reaches}

pub runs_append : {S T : Type 0} → (act : S → T → S) → (tokens more : List T) (state : S) → runs act state (tokens ++ more) ≡ runs act (runs act state tokens) more
runs_append act [] more state = refl
runs_append act (token ∷ tokens) more state = runs_append act tokens more (act state token)

-- moves in parts
pub yields_here : {S T : Type 0} → (act : S → T → S) → (old new : S) → (tokens rest : List T) → old ≡ new → tokens ≡ rest → Yields act old tokens new rest
yields_here act old new tokens rest e f = ([], f, e)

pub yields_one : {S T : Type 0} → (act : S → T → S) → (old new : S) → (token : T) (tokens rest : List T) → tokens ≡ token ∷ rest → act old token ≡ new → Yields act old tokens new rest
yields_one act old new token tokens rest parts step = (token ∷ [], parts, step)

pub yields_then : {S T : Type 0} → (act : S → T → S) → (a b c : S) → (s t r : List T) → Yields act a s b t → Yields act b t c r → Yields act a s c r
yields_then act a b c s t r p q = (
  p.0 ++ q.0,
  p.1 ∙ ap (λ w. p.0 ++ w) q.1 ∙ sym (append_assoc p.0 q.0 r),
  runs_append act p.0 q.0 a ∙ ap (λ o. runs act o q.0) p.2 ∙ q.2,
)

-- the same, where the last state is written in two ways
pub yields_as : {S T : Type 0} → (act : S → T → S) → (a b c : S) → (s r : List T) → Yields act a s b r → b ≡ c → Yields act a s c r
yields_as act a b c s r p e = (p.0, p.1, p.2 ∙ e)

-- a machine that stays where it refused
pub runs_refused : {S T : Type 0} → (act : S → T → S) → (refused : S) → ((token : T) → act refused token ≡ refused) → (tokens : List T) → runs act refused tokens ≡ refused
runs_refused act refused stays [] = refl
runs_refused act refused stays (token ∷ tokens) = ap (λ s. runs act s tokens) (stays token) ∙ runs_refused act refused stays tokens

pub reaches_one : {S T : Type 0} → (act : S → T → S) → (refused old new : S) → (token : T) (tokens rest : List T) → tokens ≡ token ∷ rest → act old token ≡ new → new ≢ refused
    → Reaches act refused old tokens new rest
reaches_one act refused old new token tokens rest parts step ok = (token ∷ [], parts, step, ok)

pub reaches_then : {S T : Type 0} → (act : S → T → S) → (refused a b c : S) → (s t r : List T) → Reaches act refused a s b t → Reaches act refused b t c r → Reaches act refused a s c r
reaches_then act refused a b c s t r p q =
    let y = yields_then act a b c s t r (p.0, p.1, p.2) (q.0, q.1, q.2) in (y.0, y.1, y.2, q.3)

-- what is read up to the end
pub reaches_all : {S T : Type 0} → (act : S → T → S) → (refused old new : S) → (tokens : List T) → Reaches act refused old tokens new [] → runs act old tokens ≡ new
reaches_all act refused old new tokens r = ap (runs act old) (r.1 ∙ append-nil r.0) ∙ r.2

-- while the machine inside goes on, so does the one around it
pub lift : {U O T : Type 0} → (act : U → T → U) → (refused : U) → ((token : T) → act refused token ≡ refused) → (outer : O → T → O) → (inside : U → O)
    → ((u new : U) (token : T) → act u token ≡ new → new ≢ refused → outer (inside u) token ≡ inside new)
    → (tokens : List T) (u new : U) → runs act u tokens ≡ new → new ≢ refused → runs outer (inside u) tokens ≡ inside new
lift act refused stays outer inside goes [] u new e ok = ap inside e
lift act refused stays outer inside goes (token ∷ tokens) u new e ok =
    ap (λ o. runs outer o tokens) (goes u (act u token) token refl (λ h. ok (sym e ∙ ap (λ s. runs act s tokens) h ∙ runs_refused act refused stays tokens)))
    ∙ lift act refused stays outer inside goes tokens (act u token) new e ok

pub reaches_inside : {U O T : Type 0} → (act : U → T → U) → (refused : U) → ((token : T) → act refused token ≡ refused) → (outer : O → T → O) → (stop : O) → (inside : U → O)
    → ((u new : U) (token : T) → act u token ≡ new → new ≢ refused → outer (inside u) token ≡ inside new)
    → (old new : U) (tokens rest : List T) → inside new ≢ stop → Reaches act refused old tokens new rest → Reaches outer stop (inside old) tokens (inside new) rest
reaches_inside act refused stays outer stop inside goes old new tokens rest ok r = (r.0, r.1, lift act refused stays outer inside goes r.0 old new r.2 r.3, ok)

-- what the tokens of a state say goes over from token to token
pub runs_sound : {S T : Type 0} → (act : S → T → S) → (Spells : S → List T → List T → Type 0)
    → ((st : S) (x : T) (tokens rest : List T) → Spells st tokens (x ∷ rest) → Spells (act st x) tokens rest)
    → (read : List T) (st : S) (tokens rest : List T) → Spells st tokens (read ++ rest) → Spells (runs act st read) tokens rest
runs_sound act Spells sound [] st tokens rest h = h
runs_sound act Spells sound (x ∷ read) st tokens rest h = runs_sound act Spells sound read (act st x) tokens rest (sound st x tokens (read ++ rest) h)
