-- The parts of a text, one cut after another.
use Rattle.std.proofs.Common.{◌≡◌, ℕ, suc, ◌+◌, ◌≤◌, Bool, true, false, cond, not, eqb, ltb, List, [], ◌∷◌, length, Option, Some, None, refl, ap, ◌∙◌, arith}
use Rattle.std.specs.List.{position_or_len, before_first, after_first, slice_split, onto_first}
use Rattle.std.proofs.lemmas.Bool.{ltb-true, ltb-false}
use Rattle.std.proofs.lemmas.List.Splits.{slice_split_first}
use Rattle.um_sizes.specs.Parts.{cut, parts_of}

-- where no element passes, there is one part
split_none : (p : ℕ → Bool) (xs : List ℕ) → length xs ≤ position_or_len p xs → slice_split p xs ≡ xs ∷ []
split_none p [] h = refl
split_none p (x ∷ xs) h = by (p x) (split_none p xs) h where
  by : (b : Bool) → (length xs ≤ position_or_len p xs → slice_split p xs ≡ xs ∷ []) → suc (length xs) ≤ cond (not b) (1 + position_or_len p xs) 0
      → cond b ([] ∷ slice_split p xs) (onto_first x (slice_split p xs)) ≡ (x ∷ xs) ∷ []
  by true next few = absurd (omega (arith, few))
  by false next few = ap (onto_first x) (next (omega (arith, few)))

pub parts_cut : (text part more : List ℕ) → cut 44 text ≡ Some (part, more) → parts_of text ≡ part ∷ parts_of more
parts_cut text part more e = by (ltb (position_or_len (λ b. eqb b 44) text) (length text)) refl e where
  by : (t : Bool) → ltb (position_or_len (λ b. eqb b 44) text) (length text) ≡ t
      → cond {A = Option (List ℕ × List ℕ)} t (Some (before_first (λ b. eqb b 44) text, after_first (λ b. eqb b 44) text)) None ≡ Some (part, more) → parts_of text ≡ part ∷ parts_of more
  by true s h =
      let sides : ◌≡◌ {A = List ℕ × List ℕ} (before_first (λ b. eqb b 44) text, after_first (λ b. eqb b 44) text) (part, more) = cc h in
      let first : before_first (λ b. eqb b 44) text ≡ part = ap (λ (x : List ℕ × List ℕ). x.0) sides in
      let behind : after_first (λ b. eqb b 44) text ≡ more = ap (λ (x : List ℕ × List ℕ). x.1) sides in
      slice_split_first (λ b. eqb b 44) text 0 (ltb-true (position_or_len (λ b. eqb b 44) text) (length text) s)
      ∙ ap (λ (x : List ℕ). x ∷ parts_of (after_first (λ b. eqb b 44) text)) first ∙ ap (λ (x : List ℕ). part ∷ parts_of x) behind
  by false s h = absurd (cc h)

pub parts_last : (text : List ℕ) → cut 44 text ≡ None → parts_of text ≡ text ∷ []
parts_last text e = by (ltb (position_or_len (λ b. eqb b 44) text) (length text)) refl e where
  by : (t : Bool) → ltb (position_or_len (λ b. eqb b 44) text) (length text) ≡ t
      → cond {A = Option (List ℕ × List ℕ)} t (Some (before_first (λ b. eqb b 44) text, after_first (λ b. eqb b 44) text)) None ≡ None → parts_of text ≡ text ∷ []
  by true s h = absurd (cc h)
  by false s h = split_none (λ b. eqb b 44) text (ltb-false (position_or_len (λ b. eqb b 44) text) (length text) s)
