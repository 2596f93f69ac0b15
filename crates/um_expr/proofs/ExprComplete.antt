-- What an expression spells is read as it, inside any frames, whatever follows.
use Rattle.std.proofs.Common.{◌≡◌, ℕ, ◌≤◌, ◌<◌, List, [], ◌∷◌, Bool, false, Option, Some, None, refl, ap, ◌∙◌}
use Rattle.std.proofs.lemmas.Bool.{lt-ltb}
use Rattle.um_frac.specs.declared.number.Frac.{Frac}
use Rattle.um_syntax.specs.declared.token.Token.{Token}
use Rattle.um_syntax.specs.declared.token.Kind.{Kind}
use Rattle.um_tree.specs.declared.expression.Sign.{Sign}
use Rattle.um_tree.specs.declared.expression.Sign.TheVariants as compare
use Rattle.um_tree.specs.RawTree.{NoteSyntax, BinderSyntax, ExprSyntax, number_syntax}
use Rattle.um_types.specs.NoteMachine.{NeedNote}
use Rattle.um_types.proofs.NoteComplete.{note_into}
use Rattle.um_reader.specs.Machine.{Yields}
use Rattle.um_reader.proofs.Reaching.{yields_here, yields_then}
use Rattle.um_operands.specs.declared.infix.Infix.{Infix}
use Rattle.um_operands.specs.declared.infix.Infix.TheVariants as between
use Rattle.um_operands.specs.Ranks.{infix_rank, left_limit}
use Rattle.um_operands.specs.ExprBegun.{Frame, InRight, top_bound, State, Need, Have, Greater, InNote, reduce}
use Rattle.um_forms.specs.declared.token.ExprToken.TheVariants.{Name as name, Hole as hole, Operator as operator}
use Rattle.um_forms.specs.ExprTokens.{equal, less, greater}
use Rattle.um_expr.specs.ExprGrammar.{FirstAt, bound, BinderSpells, InfixAt, WrittenNote, Spells, rank, NoteFitsIn, Fits}
use Rattle.um_forms.specs.ExprForms.{if_may, infix_after, greater_after}
use Rattle.um_expr.specs.ExprMachine.{act, step}
use Rattle.um_expr.proofs.ExprEnds.{opened, last_atom, stays, ends_as, infix_opens}
use Rattle.um_expr.proofs.ExprAtEnd.{at_end, Reads, reads_then, need_apart, is_less, less_at_end, ends_at}
use Rattle.um_expr.proofs.ExprYields.{thence, yields_at, yields_glued, yields_alike, yields_note, yields_note_end}
use Rattle.um_expr.proofs.ExprFirsts.{is_no_equal, first_no_equal, greater_alike}

pub may : (frames : List Frame) (rank : ℕ) (st : State) → rank < top_bound frames → if_may frames rank st ≡ st
may frames rank st lt = rw lt-ltb refl

-- ---- signs between two operands

-- after the left operand all ends that binds as tightly as it may
left_ends : (sign : Infix) (frames : List Frame) (a : ExprSyntax) → Fits a → rank a ≤ left_limit sign → infix_rank sign < top_bound frames → reduce (left_limit sign) (opened frames a) (last_atom a) ≡ Have frames a
left_ends sign frames a fits le lt = ends_as a (left_limit sign) frames fits le ∙ stays (left_limit sign) frames a (infix_opens sign frames lt)

pub after_left : (sign : Infix) (at : ℕ) (frames : List Frame) (a : ExprSyntax) → Fits a → rank a ≤ left_limit sign → infix_rank sign < top_bound frames
    → infix_after sign at (reduce (left_limit sign) (opened frames a) (last_atom a)) ≡ Need (InRight at sign a ∷ frames)
after_left sign at frames a fits le lt = ap (infix_after sign at) (left_ends sign frames a fits le lt) ∙ may frames (infix_rank sign) (Need (InRight at sign a ∷ frames)) lt

less_ends : (at : ℕ) (frames : List Frame) (a : ExprSyntax) (old : State) (tokens mid rest : List Token) → Reads old tokens frames a mid → Fits a → rank a ≤ 5 → 6 < top_bound frames
    → InfixAt (between.Compare compare.Lt) tokens at mid rest → Yields step old tokens (Need (InRight at (between.Compare compare.Lt) a ∷ frames)) rest
less_ends at frames a old tokens mid rest r fits le lt s =
    let token : Token = s.0 in
    let held : State = at_end r.power (opened frames a) (last_atom a) in
    let y : Yields step held mid (Need (InRight at (between.Compare compare.Lt) a ∷ frames)) rest = (
      token ∷ [],
      s.4,
      ap (λ w. act held w token.start token.glued token.kind) s.1
          ∙ less_at_end r.power (opened frames a) (last_atom a) token.glued token.start token.kind (λ h. s.3 (r.number h))
          ∙ ap (λ p. infix_after (between.Compare compare.Lt) p (reduce 5 (opened frames a) (last_atom a))) s.2
          ∙ after_left (between.Compare compare.Lt) at frames a fits le lt,
    )
    in thence r.yields y

after_left_greater : (at : ℕ) (frames : List Frame) (a : ExprSyntax) → Fits a → rank a ≤ 5 → 6 < top_bound frames → greater_after at (reduce 5 (opened frames a) (last_atom a)) ≡ Greater frames at a
after_left_greater at frames a fits le lt = ap (greater_after at) (left_ends (between.Compare compare.Gt) frames a fits le lt) ∙ may frames 6 (Greater frames at a) lt

-- `>` and the right operand, where it is read after other signs
greater_ends : (at : ℕ) (frames : List Frame) (a b : ExprSyntax) (old : State) (tokens mid next rest : List Token) → Reads old tokens frames a mid → Fits a → rank a ≤ 5 → 6 < top_bound frames → FirstAt greater at mid next
    → Spells b next rest → Reads (Need (InRight at (between.Compare compare.Gt) a ∷ frames)) next (InRight at (between.Compare compare.Gt) a ∷ frames) b rest
    → Reads old tokens (InRight at (between.Compare compare.Gt) a ∷ frames) b rest
greater_ends at frames a b old tokens mid next rest r fits le lt s right p =
    let behind : List Frame = InRight at (between.Compare compare.Gt) a ∷ frames in
    let to : State = at_end p.power (opened behind b) (last_atom b) in
    let sign : Yields step old tokens (Greater frames at a) next = ends_at r (Greater frames at a) greater at s refl (λ g k. after_left_greater at frames a fits le lt) in
    let y : Yields step (Greater frames at a) next to rest
    = yields_alike is_no_equal (Greater frames at a) (Need behind) to next rest (first_no_equal b next rest right) (λ w q g k h. greater_alike frames at a w q g k h) (need_apart p.power behind (opened behind b) (last_atom b)) p.yields in
    reads_then sign (record { power = p.power; yields = y; number = p.number })

at_least_ends : (at : ℕ) (frames : List Frame) (a : ExprSyntax) (old : State) (tokens mid rest : List Token) → Reads old tokens frames a mid → Fits a → rank a ≤ 5 → 6 < top_bound frames
    → InfixAt (between.Compare compare.Ge) tokens at mid rest → Yields step old tokens (Need (InRight at (between.Compare compare.Ge) a ∷ frames)) rest
at_least_ends at frames a old tokens mid rest r fits le lt s =
    thence (ends_at r (Greater frames at a) greater at s.1 refl (λ g k. after_left_greater at frames a fits le lt))
    (yields_glued (Greater frames at a) (Need (InRight at (between.Compare compare.Ge) a ∷ frames)) equal s.0 rest s.2 (λ p k. refl))

-- a sign that is no comparison, and the other comparisons
pub sign_ends : (sign : Infix) (at : ℕ) (frames : List Frame) (a : ExprSyntax) (old : State) (tokens mid rest : List Token) → Reads old tokens frames a mid → Fits a → rank a ≤ left_limit sign → infix_rank sign < top_bound frames
    → FirstAt (operator sign) at mid rest → is_less (operator sign) ≡ false
    → ((p : ℕ) (g : Bool) (k : Kind) → act (Have (opened frames a) (last_atom a)) (operator sign) p g k ≡ infix_after sign p (reduce (left_limit sign) (opened frames a) (last_atom a)))
    → Yields step old tokens (Need (InRight at sign a ∷ frames)) rest
sign_ends sign at frames a old tokens mid rest r fits le lt f free e =
    ends_at r (Need (InRight at sign a ∷ frames)) (operator sign) at f free (λ g k. e at g k ∙ after_left sign at frames a fits le lt)

-- a comparison
pub compare_ends : (sign : Sign) (at : ℕ) (frames : List Frame) (a b : ExprSyntax) (old : State) (tokens mid next rest : List Token) → Reads old tokens frames a mid → Fits a → rank a ≤ 5 → 6 < top_bound frames
    → InfixAt (between.Compare sign) tokens at mid next → Spells b next rest → Reads (Need (InRight at (between.Compare sign) a ∷ frames)) next (InRight at (between.Compare sign) a ∷ frames) b rest
    → Reads old tokens (InRight at (between.Compare sign) a ∷ frames) b rest
compare_ends compare.Gt at frames a b old tokens mid next rest r fits le lt s right p = greater_ends at frames a b old tokens mid next rest r fits le lt s right p
compare_ends compare.Lt at frames a b old tokens mid next rest r fits le lt s right p = reads_then (less_ends at frames a old tokens mid next r fits le lt s) p
compare_ends compare.Ge at frames a b old tokens mid next rest r fits le lt s right p = reads_then (at_least_ends at frames a old tokens mid next r fits le lt s) p
compare_ends compare.Le at frames a b old tokens mid next rest r fits le lt s right p = reads_then (sign_ends (between.Compare compare.Le) at frames a old tokens mid next r fits le lt s refl (λ q g k. refl)) p
compare_ends compare.Eq at frames a b old tokens mid next rest r fits le lt s right p = reads_then (sign_ends (between.Compare compare.Eq) at frames a old tokens mid next r fits le lt s refl (λ q g k. refl)) p
compare_ends compare.Ne at frames a b old tokens mid next rest r fits le lt s right p = reads_then (sign_ends (between.Compare compare.Ne) at frames a old tokens mid next r fits le lt s refl (λ q g k. refl)) p

-- ---- runs of tokens that are fixed

pub yields_binder : (old : State) (new : BinderSyntax → State) (x : BinderSyntax) (tokens rest : List Token) → BinderSpells x tokens rest
    → ((y : List ℕ) (p : ℕ) (g : Bool) (k : Kind) → act old (name y) p g k ≡ new (record { at = p; name = Some y }))
    → ((p : ℕ) (g : Bool) (k : Kind) → act old hole p g k ≡ new (record { at = p; name = None })) → Yields step old tokens (new x) rest
yields_binder old new x tokens rest s named free = by_name x.name s
  where
    by_name : (o : Option (List ℕ)) → FirstAt (bound o) x.at tokens rest → Yields step old tokens (new (record { at = x.at; name = o })) rest
    by_name (Some y) f = yields_at old (new (record { at = x.at; name = Some y })) (name y) x.at tokens rest f (λ g k. named y x.at g k)
    by_name None f = yields_at old (new (record { at = x.at; name = None })) hole x.at tokens rest f (λ g k. free x.at g k)

pub yields_written : (frames : List Frame) (at : ℕ) (c : Frac) (n : Option NoteSyntax) (tokens rest : List Token) → WrittenNote n tokens rest → NoteFitsIn n
    → Yields step (Have frames (number_syntax at c None)) tokens (Have frames (number_syntax at c n)) rest
yields_written frames at c None tokens rest s fits = yields_here step (Have frames (number_syntax at c None)) (Have frames (number_syntax at c None)) tokens rest refl s
yields_written frames at c (Some n) tokens rest s fits =
    yields_then step (Have frames (number_syntax at c None)) (InNote frames at c NeedNote) (Have frames (number_syntax at c (Some n))) tokens s.0 rest
    (yields_glued (Have frames (number_syntax at c None)) (InNote frames at c NeedNote) less tokens s.0 s.2 (λ p k. refl))
    (
    yields_then step (InNote frames at c NeedNote) (InNote frames at c (note_into n)) (Have frames (number_syntax at c (Some n))) s.0 s.1 rest
    (yields_note frames at c n s.0 s.1 s.3 fits) (yields_note_end frames at c n s.1 rest fits s.4)
    )
