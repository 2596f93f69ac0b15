-- The search for the last open `let`, from the end.
use Rattle.std.proofs.Common.{◌≡◌, ℕ, zero, suc, ◌+◌, ◌-◌, ◌≤◌, ◌<◌, ◌==◌, ◌&&◌, Bool, true, false, cond, List, [], ◌∷◌, Some, None, drop, get_or, length, refl, sym, ap, ◌∙◌, arith}
use Rattle.std.specs.List.{count_by}
use Rattle.std.proofs.Math.Seq.{drop-cons}
use Rattle.std.proofs.lemmas.List.Sums.{sum_by-cons}
use Rattle.um_syntax.specs.declared.token.Token.{Token}
use Rattle.um_text_details.specs.OpenLets.{is_in, is_let, is_open, open_let}

-- from one place to the one before it
cut_down : (tokens : List Token) (k : ℕ) (t : Token) → 0 < k → k ≤ length tokens → t ≡ get_or tokens (k - 1) t → drop (k - 1) tokens ≡ t ∷ drop k tokens
cut_down tokens k t low within is =
    let same : suc (k - 1) ≡ k = omega (arith, low) in
    drop-cons tokens (k - 1) t (omega (arith, low, within)) ∙ ap (λ x. x ∷ drop (suc (k - 1)) tokens) (sym is) ∙ ap (λ (n : ℕ). t ∷ drop n tokens) same

count_cons : (p : Token → Bool) (t : Token) (ts : List Token) → count_by p (t ∷ ts) ≡ cond (p t) (1 + count_by p ts) (count_by p ts)
count_cons p t ts = sum_by-cons (λ x. cond (p x) 1 0) t ts ∙ by (p t) (count_by p ts) where
  by : (b : Bool) (n : ℕ) → cond b 1 0 + n ≡ cond b (1 + n) n
  by true n = refl
  by false n = omega arith

pub count_down : (p : Token → Bool) (tokens : List Token) (k count : ℕ) (t : Token) → 0 < k → k ≤ length tokens → t ≡ get_or tokens (k - 1) t → count ≡ count_by p (drop k tokens) → cond (p t) (1 + count) count ≡ count_by p (drop (k - 1) tokens)
count_down p tokens k count t low within is h =
    ap (λ (n : ℕ). cond (p t) (1 + n) n) h ∙ sym (count_cons p t (drop k tokens)) ∙ sym (ap (count_by p) (cut_down tokens k t low within is))

-- whether the token is open, by counts
open_by : (tokens : List Token) (k lets ins : ℕ) (t : Token) → lets ≡ count_by is_let (drop k tokens) → ins ≡ count_by is_in (drop k tokens) → (is_let t && ins == lets) ≡ is_open t (drop k tokens)
open_by tokens k lets ins t l i = rw (l, i) refl

pub none_down : (tokens : List Token) (k lets ins : ℕ) (t : Token) → 0 < k → k ≤ length tokens → t ≡ get_or tokens (k - 1) t
    → lets ≡ count_by is_let (drop k tokens) → ins ≡ count_by is_in (drop k tokens) → (is_let t && ins == lets) ≡ false → open_let (drop k tokens) ≡ None → open_let (drop (k - 1) tokens) ≡ None
none_down tokens k lets ins t low within is l i shut none =
    let closed : is_open t (drop k tokens) ≡ false = sym (open_by tokens k lets ins t l i) ∙ shut in
    ap open_let (cut_down tokens k t low within is) ∙ rw (none, closed) refl

-- what stands before doesn't matter
before_open : (tokens : List Token) (k at : ℕ) → open_let (drop k tokens) ≡ Some at → open_let tokens ≡ Some at
before_open tokens zero at e = e
before_open [] (suc k) at e = e
before_open (t ∷ ts) (suc k) at e = rw (before_open ts k at e) refl

pub some_down : (tokens : List Token) (k lets ins : ℕ) (t : Token) → 0 < k → k ≤ length tokens → t ≡ get_or tokens (k - 1) t
    → lets ≡ count_by is_let (drop k tokens) → ins ≡ count_by is_in (drop k tokens) → (is_let t && ins == lets) ≡ true → open_let (drop k tokens) ≡ None → Some t.start ≡ open_let tokens
some_down tokens k lets ins t low within is l i told none =
    let opened : is_open t (drop k tokens) ≡ true = sym (open_by tokens k lets ins t l i) ∙ told in
    let here : open_let (drop (k - 1) tokens) ≡ Some t.start = ap open_let (cut_down tokens k t low within is) ∙ rw (none, opened) refl in
    sym (before_open tokens (k - 1) t.start here)
