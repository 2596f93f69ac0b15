-- Whether a token goes on, form by form.
use Rattle.std.proofs.Common.{◌≡◌, ℕ, ◌-◌, ◌<◌, ◌≤◌, pos, Bool, true, false, cond, nat_lt, is_some, option_map, List, [], ◌∷◌, length, take, get_or, Option, Some, None, refl, sym, ap, ◌∙◌}
use Rattle.um_frac.specs.declared.number.Frac.{Frac}
use Rattle.um_vocabulary.specs.declared.vocabulary.Keyword.{Keyword}
use Rattle.um_vocabulary.specs.declared.vocabulary.Keyword.TheVariants as keyword
use Rattle.um_vocabulary.specs.declared.vocabulary.Symbol.{Symbol}
use Rattle.um_vocabulary.specs.declared.vocabulary.Symbol.TheVariants as symbol
use Rattle.um_tree.specs.RawTree.{ExprSyntax}
use Rattle.um_operands.specs.declared.frame.Entry.{Entry}
use Rattle.um_operands.specs.declared.infix.Infix.{Infix}
use Rattle.um_operands.specs.Ranks.{infix_rank}
use Rattle.um_operands.specs.ExprBegun.{Frame, Expected, PownDigits, State, Need, Have, Greater, Refused, InRight, reduce, top_bound}
use Rattle.um_operands.specs.ExprFrames.{entry_frame, stack}
use Rattle.um_operands.specs.Standing.{stands, left}
use Rattle.um_operands.proofs.FramesLeft.{innermost, reduced}
use Rattle.um_forms.specs.declared.token.ExprToken.TheVariants.{Number as number}
use Rattle.um_forms.specs.ExprForms.{if_may, infix_after, greater_after, mark_ends, word_ends, inside}
use Rattle.um_forms.specs.ExprSteps.{expects_digits}

stands_if : (b : Bool) (s : State) → stands s ≡ true → b ≡ stands (cond b s Refused)
stands_if true s e = sym e
stands_if false s e = refl

-- a form goes on if what stands there may have its rank
may_stand : (frames : List Frame) (rank : ℕ) (s : State) → stands s ≡ true → nat_lt rank (top_bound frames) ≡ stands (if_may frames rank s)
may_stand frames rank s e = stands_if (nat_lt rank (top_bound frames)) s e

pub infix_stands : (sign : Infix) (at limit : ℕ) (frames : List Frame) (t : ExprSyntax)
    → nat_lt (infix_rank sign) (top_bound (left limit frames)) ≡ stands (infix_after sign at (reduce limit frames t))
infix_stands sign at limit frames t =
    let r = reduced limit frames t in
    may_stand (left limit frames) (infix_rank sign) (Need (InRight at sign r.0 ∷ left limit frames)) refl
    ∙ ap (λ s. stands (infix_after sign at s)) (sym r.1)

pub greater_stands : (at limit : ℕ) (frames : List Frame) (t : ExprSyntax)
    → nat_lt 6 (top_bound (left limit frames)) ≡ stands (greater_after at (reduce limit frames t))
greater_stands at limit frames t =
    let r = reduced limit frames t in
    may_stand (left limit frames) 6 (Greater (left limit frames) at r.0) refl
    ∙ ap (λ s. stands (greater_after at s)) (sym r.1)

-- ---- what a token ends, by the first n entries, which are left

module _ (ends : State → State) (entries : List Entry) (n : ℕ) (are : stack (take n entries) ≡ left 9 (stack entries)) (t : ExprSyntax) where
  -- it ends the innermost of them, or goes on with it
  pub ends_innermost : (e : Entry) (b : Bool) → 0 < n → n ≤ length entries → e ≡ get_or entries (n - 1) e
      → ((frames : List Frame) (u : ExprSyntax) → b ≡ stands (ends (Have (entry_frame e ∷ frames) u))) → b ≡ stands (ends (reduce 9 (stack entries) t))
  ends_innermost e b some within is here =
      let r = reduced 9 (stack entries) t in
      here (stack (take (n - 1) entries)) r.0
      ∙ ap (λ frames. stands (ends (Have frames r.0))) (sym (innermost entries n e some within is) ∙ are)
      ∙ ap (λ s. stands (ends s)) (sym r.1)

  -- none is left
  pub ends_none : n ≡ 0 → ((u : ExprSyntax) → ends (Have [] u) ≡ Refused) → false ≡ stands (ends (reduce 9 (stack entries) t))
  ends_none none refused =
      let r = reduced 9 (stack entries) t in
      ap stands (sym (refused r.0))
      ∙ ap (λ frames. stands (ends (Have frames r.0))) (ap (λ k. stack (take k entries)) (sym none) ∙ are)
      ∙ ap (λ s. stands (ends s)) (sym r.1)

pub no_mark : (s : Symbol) (u : ExprSyntax) → mark_ends s (Have [] u) ≡ Refused
no_mark symbol.RightParen u = refl
no_mark symbol.RightBracket u = refl
no_mark symbol.RightBrace u = refl
no_mark symbol.Semicolon u = refl
no_mark symbol.Bar u = refl
no_mark _ u = refl

pub no_word : (k : Keyword) (u : ExprSyntax) → word_ends k (Have [] u) ≡ Refused
no_word keyword.In u = refl
no_word keyword.Then u = refl
no_word keyword.Else u = refl
no_word keyword.With u = refl
no_word _ u = refl

-- ---- a number inside a fixed run of tokens

pub digits_stand : (frames : List Frame) (w : Expected) (c : Frac) (at : ℕ) (power : Option ℕ) → cond (expects_digits w) (is_some power) false ≡ stands (inside frames w (number c) at power)
digits_stand frames (PownDigits start e) c at (Some n) = refl
digits_stand frames (PownDigits start e) c at None = refl
digits_stand frames _ c at power = refl

pub some_pos : (power : Option ℕ) → is_some (option_map pos power) ≡ is_some power
some_pos (Some n) = refl
some_pos None = refl
