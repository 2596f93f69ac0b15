-- Texts with the numbers of a rescaled program.
use Rattle.std.proofs.Common.{◌≡◌, refl, sym, ap, subst, ◌∙◌, ℕ, zero, suc, ◌+◌, ◌<◌, ◌≤◌, Bool, true, false, cond, ◌&&◌, nat_eq, List, [], ◌∷◌, ◌++◌, length, get_or, drop, set, replicate, Option, Some, None, slice_get, arith}
use Rattle.std.specs.Prelude.{slice_range}
use Rattle.std.specs.Option.{option_or}
use Rattle.std.specs.Str.{chars}
use Rattle.std.proofs.lemmas.Bool.{eqb-true, eqb-false}
use Rattle.std.proofs.lemmas.List.{append_assoc, drop_all, drop_more, get_or-replicate, get_or-set_other, length-replicate, length-set}
use Rattle.std.proofs.lemmas.Grind.{get_or-set_at}
use Rattle.um_frac.specs.declared.number.Frac.{Frac}
use Rattle.um_syntax.specs.declared.token.Token.{Token}
use Rattle.um_syntax.specs.Order.{AreInOrder}
use Rattle.um_syntax.proofs.Whole.{unique_tokens}
use Rattle.um_tree.specs.ProgramTree.{ProgramTree}
use Rattle.um_scale.specs.RescaledText.{literals_of, literal_at, is_number, opens_unit, printed, spelling, respelled, IsRescaledText}
use Rattle.um_scale.specs.Spelling.{by_place, number_at}

-- ---- a text with its numbers is unique
pub texts_are_unique : (bytes : List ℕ) (q : ProgramTree) (a b : List ℕ) → IsRescaledText bytes q a → IsRescaledText bytes q b → a ≡ b
texts_are_unique bytes q a b h g =
    let same = unique_tokens (chars bytes) h.0 g.0 h.1 g.1 in
    h.2 ∙ ap (respelled bytes (literal_at (literals_of q.functions)) 0) same ∙ sym g.2

-- ---- the table of numbers
length-by_place : (table : List (Option Frac)) (ls : List (ℕ × Frac)) → length (by_place table ls) ≡ length table
length-by_place table [] = refl
length-by_place table (l ∷ ls) = length-set (by_place table ls) l.0 (Some l.1) ∙ length-by_place table ls

placed : (table : List (Option Frac)) (ls : List (ℕ × Frac)) (at : ℕ) (c : Frac) (place : ℕ) → place < length table → number_at (by_place table ls) place ≡ option_or (literal_at ls place) (number_at table place) → (b : Bool) → nat_eq place at ≡ b → number_at (set (by_place table ls) at (Some c)) place ≡ option_or (cond b (Some c) (literal_at ls place)) (number_at table place)
placed table ls at c place below before true e =
    let here : place ≡ at = eqb-true place at e in
    get_or-set_at (by_place table ls) at place (Some c) None here (omega (arith, here, length-by_place table ls, below))
placed table ls at c place below before false e = get_or-set_other (by_place table ls) at place (Some c) None (eqb-false place at e) ∙ before

by_place-at : (table : List (Option Frac)) (ls : List (ℕ × Frac)) (place : ℕ) → place < length table → number_at (by_place table ls) place ≡ option_or (literal_at ls place) (number_at table place)
by_place-at table [] place below = refl
by_place-at table (l ∷ ls) place below = placed table ls l.0 l.1 place below (by_place-at table ls place below) (nat_eq place l.0) refl

or_none : {A : Type 0} (o : Option A) → option_or o None ≡ o
or_none None = refl
or_none (Some x) = refl

-- a table made so has each literal's number
pub table_at : (places : ℕ) (ls : List (ℕ × Frac)) (place : ℕ) → place < places → number_at (by_place (replicate places None) ls) place ≡ literal_at ls place
table_at places ls place below =
    let table : List (Option Frac) = replicate places None in
    let many : length table ≡ places = length-replicate places None in
    by_place-at table ls place (omega (arith, many, below))
    ∙ ap (option_or (literal_at ls place)) (get_or-replicate places place None None below)
    ∙ or_none (literal_at ls place)

pub table_length : (places : ℕ) (ls : List (ℕ × Frac)) → length (by_place (replicate places None) ls) ≡ places
table_length places ls = length-by_place (replicate places None) ls ∙ length-replicate places None

-- two tables that agree within the text give one text
pub same_text : (bytes : List ℕ) (f g : ℕ → Option Frac) (len : ℕ) → ((place : ℕ) → place ≤ len → f place ≡ g place) → (tokens : List Token) (from : ℕ) → AreInOrder from tokens len → respelled bytes f from tokens ≡ respelled bytes g from tokens
same_text bytes f g len same [] from h = refl
same_text bytes f g len same (t ∷ ts) from h =
    let within : t.start ≤ len = omega (arith, h.1, h.2) in
    λ i. slice_range bytes from t.start
    ++ (printed (cond (is_number t.kind && opens_unit (slice_get ts 0)) (same t.start within i) None) (slice_range bytes t.start t.end)
    ++ same_text bytes f g len same ts t.end h.3 i)

-- ---- token by token
first_left : {A : Type 0} (xs : List A) (n : ℕ) → slice_get (drop n xs) 0 ≡ slice_get xs n
first_left [] zero = refl
first_left [] (suc n) = refl
first_left (x ∷ xs) zero = refl
first_left (x ∷ xs) (suc n) = first_left xs n

module _ (bytes : List ℕ) (f : ℕ → Option Frac) (tokens : List Token) where
  -- the text so far, up to a place behind the first k tokens
  pub record IsWritten (k from : ℕ) (text : List ℕ) : Type 0 where
    pub whole : text ++ respelled bytes f from (drop k tokens) ≡ respelled bytes f 0 tokens
    pub in_order : AreInOrder from (drop k tokens) (length bytes)

  pub written_first : AreInOrder 0 tokens (length bytes) → IsWritten 0 0 []
  written_first h = record { whole = refl; in_order = h }

  module _ (k from : ℕ) (text : List ℕ) (written : IsWritten k from text) where
    pub written_last : length tokens ≤ k → (from ≤ length bytes) × (text ++ drop from bytes ≡ respelled bytes f 0 tokens)
    written_last past =
        let none : drop k tokens ≡ [] = drop_all k tokens past in
        (subst (λ ts. AreInOrder from ts (length bytes)) none written.in_order, ap (λ ts. text ++ respelled bytes f from ts) (sym none) ∙ written.whole)

    module _ (t : Token) (below : k < length tokens) (is : t ≡ get_or tokens k t) where
      next_token : drop k tokens ≡ t ∷ drop (k + 1) tokens
      next_token = drop_more tokens k t below ∙ ap (λ (x : Token). x ∷ drop (k + 1) tokens) (sym is)

      pub token_lies : AreInOrder from (t ∷ drop (k + 1) tokens) (length bytes)
      token_lies = subst (λ ts. AreInOrder from ts (length bytes)) next_token written.in_order

      pub written_next : (more : List ℕ) → more ≡ text ++ (slice_range bytes from t.start ++ spelling bytes f t (opens_unit (slice_get tokens (k + 1)))) → IsWritten (k + 1) t.end more
      written_next more e =
          let rest = respelled bytes f t.end (drop (k + 1) tokens) in
          let before = slice_range bytes from t.start in
          let spelled = spelling bytes f t (opens_unit (slice_get tokens (k + 1))) in
          let next : respelled bytes f from (drop k tokens) ≡ before ++ (spelled ++ rest) = ap (respelled bytes f from) next_token ∙ ap (λ o. before ++ (spelling bytes f t (opens_unit o) ++ rest)) (first_left tokens (k + 1)) in
          record {
            whole =
                ap (λ xs. xs ++ rest) e
                ∙ append_assoc text (before ++ spelled) rest
                ∙ ap (λ xs. text ++ xs) (append_assoc before spelled rest ∙ sym next)
                ∙ written.whole;
            in_order = token_lies.3;
          }
