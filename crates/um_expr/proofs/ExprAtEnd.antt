-- The state once an expression was read: where its last token is a number, and how it goes on.
use Rattle.std.proofs.Common.{◌≡◌, ◌≢◌, ℕ, List, ◌++◌, Bool, true, false, refl, sym, ap, ◌∙◌, append_assoc}
use Rattle.um_syntax.specs.declared.token.Token.{Token}
use Rattle.um_syntax.specs.declared.token.Kind.{Kind}
use Rattle.um_tree.specs.declared.expression.Sign.TheVariants as compare
use Rattle.um_tree.specs.RawTree.{ExprSyntax}
use Rattle.um_reader.specs.Machine.{Yields}
use Rattle.um_operands.specs.declared.infix.Infix.TheVariants as between
use Rattle.um_operands.specs.ExprKinds.{is_plain_number}
use Rattle.um_operands.specs.ExprBegun.{Frame, State, Need, Have, HavePower, reduce}
use Rattle.um_forms.specs.declared.token.ExprToken.{ExprToken}
use Rattle.um_forms.specs.declared.token.ExprToken.TheVariants.{Operator as operator}
use Rattle.um_forms.specs.ExprTokens.{less}
use Rattle.um_expr.specs.ExprGrammar.{First, FirstAt, AfterNumber}
use Rattle.um_forms.specs.ExprForms.{infix_after}
use Rattle.um_expr.specs.ExprMachine.{act, step}
use Rattle.um_expr.proofs.ExprEnds.{opened, last_atom, less_free}
use Rattle.um_expr.proofs.ExprYields.{thence, yields_first, yields_at}

-- the state with this at focus, where the flag says that it is a whole power whose number is the last token
abbrev pub at_end : Bool → List Frame → ExprSyntax → State
at_end false frames t = Have frames t
at_end true frames t = HavePower frames t

abbrev pub number_last : Bool → ExprSyntax → Bool
number_last true t = true
number_last false t = is_plain_number t

-- from a state the tokens up to the rest lead to a state with this at focus
pub record ReadsTo (old : State) (tokens : List Token) (frames : List Frame) (t : ExprSyntax) (rest : List Token) : Type 0 where
  pub power : Bool
  pub yields : Yields step old tokens (at_end power frames t) rest
  pub number : number_last power t ≡ true → AfterNumber tokens rest

-- the expression was read inside the frames
abbrev pub Reads : State → List Token → List Frame → ExprSyntax → List Token → Type 0
Reads old tokens frames t rest = ReadsTo old tokens (opened frames t) (last_atom t) rest

pub after_more : (read tokens next rest : List Token) → tokens ≡ read ++ next → AfterNumber next rest → AfterNumber tokens rest
after_more read tokens next rest e a = (read ++ a.0, a.1, a.2, e ∙ ap (λ w. read ++ w) a.3 ∙ sym (append_assoc read a.0 a.1), a.4)

pub reads_then : {old mid : State} → {tokens next rest : List Token} → {frames : List Frame} → {t : ExprSyntax} → Yields step old tokens mid next → ReadsTo mid next frames t rest → ReadsTo old tokens frames t rest
reads_then {tokens = tokens} {next = next} {rest = rest} y r = record { power = r.power; yields = thence y r.yields; number = λ h. after_more y.0 tokens next rest y.1 (r.number h) }

-- no number is the last token
pub plain_end : (old : State) (tokens : List Token) (frames : List Frame) (t : ExprSyntax) (rest : List Token) → Yields step old tokens (Have frames t) rest → is_plain_number t ≡ false → ReadsTo old tokens frames t rest
plain_end old tokens frames t rest y plain = record { power = false; yields = y; number = λ h. let bad : false ≡ true = sym plain ∙ h in absurd cc }

pub need_apart : (b : Bool) (frames fs : List Frame) (t : ExprSyntax) → Need frames ≢ at_end b fs t
need_apart false frames fs t e = cc
need_apart true frames fs t e = cc

abbrev pub is_less : ExprToken → Bool
is_less (operator (between.Compare compare.Lt)) = true
is_less _ = false

-- but for `<` it doesn't matter whether a number is the last token
pub end_alike : (b : Bool) (frames : List Frame) (t : ExprSyntax) (what : ExprToken) (at : ℕ) (glued : Bool) (k : Kind) → is_less what ≡ false → act (at_end b frames t) what at glued k ≡ act (Have frames t) what at glued k
end_alike false frames t what at glued k h = refl
end_alike true frames t (operator (between.Compare compare.Lt)) at glued k h = absurd cc
end_alike true frames t what at glued k h = refl

pub less_at_end : (b : Bool) (frames : List Frame) (t : ExprSyntax) (glued : Bool) (at : ℕ) (k : Kind) → (number_last b t ≡ true → glued ≡ false)
    → act (at_end b frames t) less at glued k ≡ infix_after (between.Compare compare.Lt) at (reduce 5 frames t)
less_at_end false frames t glued at k free = less_free frames t glued at free
less_at_end true frames t false at k free = refl
less_at_end true frames t true at k free = let bad : true ≡ false = free refl in absurd cc

pub ends_first : {old : State} → {tokens mid rest : List Token} → {frames : List Frame} → {t : ExprSyntax} → ReadsTo old tokens frames t mid → (new : State) (what : ExprToken) → First what mid rest → is_less what ≡ false
    → ((at : ℕ) (glued : Bool) (k : Kind) → act (Have frames t) what at glued k ≡ new) → Yields step old tokens new rest
ends_first {mid = mid} {rest = rest} {frames = frames} {t = t} r new what f free e =
    thence r.yields (yields_first (at_end r.power frames t) new what mid rest f (λ at g k. end_alike r.power frames t what at g k free ∙ e at g k))

pub ends_at : {old : State} → {tokens mid rest : List Token} → {frames : List Frame} → {t : ExprSyntax} → ReadsTo old tokens frames t mid → (new : State) (what : ExprToken) (at : ℕ) → FirstAt what at mid rest → is_less what ≡ false
    → ((glued : Bool) (k : Kind) → act (Have frames t) what at glued k ≡ new) → Yields step old tokens new rest
ends_at {mid = mid} {rest = rest} {frames = frames} {t = t} r new what at f free e =
    thence r.yields (yields_at (at_end r.power frames t) new what at mid rest f (λ g k. end_alike r.power frames t what at g k free ∙ e g k))
