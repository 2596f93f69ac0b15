-- Whether a token goes on in an expression, by what the questions of its forms answer.
use Rattle.std.proofs.Common.{◌≡◌, ℕ, ◌≤◌, Bool, true, false, nat_eq, is_some, List, [], ◌∷◌, length, take, reverse, Option, Some, None, refl, sym, ap, ◌∙◌}
use Rattle.std.proofs.Math.Dec.{eqb-suc-zero}
use Rattle.std.proofs.lemmas.List.{length-map, length-reverse, length-take-le}
use Rattle.um_frac.specs.declared.number.Frac.{Frac}
use Rattle.um_syntax.specs.declared.token.Kind.{Kind}
use Rattle.um_syntax.specs.declared.token.Kind.TheVariants as kind
use Rattle.um_vocabulary.specs.declared.vocabulary.Keyword.TheVariants as keyword
use Rattle.um_vocabulary.specs.declared.vocabulary.Symbol.{Symbol}
use Rattle.um_vocabulary.specs.declared.vocabulary.Symbol.TheVariants as symbol
use Rattle.um_tree.specs.declared.expression.Sign.TheVariants as compare
use Rattle.um_tree.specs.RawTree.{ExprSyntax, NoteSyntax, TypeSyntax}
use Rattle.um_types.specs.NoteMachine.{NoteState, NoNote}
use Rattle.um_types.specs.TypeMachine.{TypeState, NoType}
use Rattle.um_types.specs.Standing.{note_stands, type_stands}
use Rattle.um_operands.specs.declared.frame.Entry.{Entry}
use Rattle.um_operands.specs.declared.infix.Infix.TheVariants as between
use Rattle.um_operands.specs.ExprBegun.{Frame, State, Have, InRight, reduce, whole}
use Rattle.um_operands.specs.ExprFrames.{entry_frame, stack}
use Rattle.um_operands.specs.Standing.{stands, left}
use Rattle.um_operands.proofs.FramesLeft.{reduced}
use Rattle.um_forms.specs.declared.token.ExprToken.{ExprToken}
use Rattle.um_forms.specs.declared.token.ExprToken.TheVariants.{Name as name, Number as number, Truth as truth}
use Rattle.um_forms.specs.declared.token.ExprToken.TheVariants.{Mark as mark}
use Rattle.um_forms.specs.ExprForms.{begin, begin_in, begins_atom, argument, after_greater, mark_ends}
use Rattle.um_forms.specs.ExprSteps.{NoPlainOperator}
use Rattle.um_forms.specs.ExprTokens.{expr_token, symbol_token}
use Rattle.um_expr.specs.ExprMachine.{after, mark_after, power_after, note_ends, note_goes, type_ends, type_goes}
use Rattle.um_expr.specs.Standing.{is_equal, is_glued_less}

-- ---- an atom after an operand

atom_stands : (token : ExprToken) (frames : List Frame) (at : ℕ) → begins_atom token ≡ true → true ≡ stands (begin frames token at)
atom_stands (name x) frames at atom = refl
atom_stands (number c) frames at atom = refl
atom_stands (truth b) frames at atom = refl
atom_stands (mark symbol.LeftParen) frames at atom = refl
atom_stands (mark symbol.LeftBracket) frames at atom = refl
atom_stands (mark symbol.LeftBrace) frames at atom = refl
atom_stands _ frames at atom = absurd cc

argued : (found : Option (List Frame)) (token : ExprToken) (at : ℕ) → begins_atom token ≡ true → is_some found ≡ stands (begin_in found token at)
argued None token at atom = refl
argued (Some frames) token at atom = atom_stands token frames at atom

pub argument_stands : (frames : List Frame) (t : ExprSyntax) (token : ExprToken) (at : ℕ) → begins_atom token ≡ true → is_some (argument frames t) ≡ stands (begin_in (argument frames t) token at)
argument_stands frames t token at atom = argued (argument frames t) token at atom

-- ---- a sign after an operand

pub mark_token : (s : Symbol) → NoPlainOperator s → (s ≡ symbol.Less → ⊥) → (s ≡ symbol.Greater → ⊥) → symbol_token s ≡ mark s
mark_token symbol.Less plain less greater = absurd (less refl)
mark_token symbol.Greater plain less greater = absurd (greater refl)
mark_token _ plain less greater = plain

pub other_mark : (frames : List Frame) (t : ExprSyntax) (s : Symbol) (at : ℕ) → (s ≡ symbol.LeftParen → ⊥) → (s ≡ symbol.LeftBracket → ⊥) → (s ≡ symbol.LeftBrace → ⊥) → (s ≡ symbol.Dot → ⊥)
    → mark_ends s (reduce 9 frames t) ≡ mark_after frames t s at
other_mark frames t symbol.LeftParen at paren bracket brace dot = absurd (paren refl)
other_mark frames t symbol.LeftBracket at paren bracket brace dot = absurd (bracket refl)
other_mark frames t symbol.LeftBrace at paren bracket brace dot = absurd (brace refl)
other_mark frames t symbol.Dot at paren bracket brace dot = absurd (dot refl)
other_mark frames t _ at paren bracket brace dot = refl

-- ---- after the number of a whole power; after `>`

pub power_refused : (frames : List Frame) (t : ExprSyntax) (k : Kind) (at : ℕ) (glued : Bool) (power : Option ℕ) → is_glued_less k glued ≡ true → false ≡ stands (power_after frames t (expr_token k) at glued power)
power_refused frames t (kind.Sign symbol.Less) at true power less = refl
power_refused frames t (kind.Sign symbol.Less) at false power less = absurd cc
power_refused frames t _ at glued power less = absurd cc

pub power_alike : (frames : List Frame) (t : ExprSyntax) (k : Kind) (at : ℕ) (glued : Bool) (power : Option ℕ) → is_glued_less k glued ≡ false → after frames t (expr_token k) at glued power ≡ power_after frames t (expr_token k) at glued power
power_alike frames t (kind.Sign symbol.Less) at true power less = absurd cc
power_alike frames t (kind.Sign symbol.Less) at false power less = refl
power_alike frames t (kind.Word keyword.True) at glued power less = refl
power_alike frames t _ at glued power less = refl

pub greater_equal : (frames : List Frame) (place : ℕ) (left : ExprSyntax) (k : Kind) (at : ℕ) (glued : Bool) → is_equal k ≡ true → glued ≡ stands (after_greater frames place left (expr_token k) at glued)
greater_equal frames place left (kind.Sign symbol.Equal) at true equal = refl
greater_equal frames place left (kind.Sign symbol.Equal) at false equal = refl
greater_equal frames place left _ at glued equal = absurd cc

pub greater_other : (frames : List Frame) (place : ℕ) (left : ExprSyntax) (k : Kind) (at : ℕ) (glued : Bool) → is_equal k ≡ false
    → begin (InRight place (between.Compare compare.Gt) left ∷ frames) (expr_token k) at ≡ after_greater frames place left (expr_token k) at glued
greater_other frames place left (kind.Sign symbol.Equal) at glued equal = absurd cc
greater_other frames place left (kind.Word keyword.True) at glued equal = refl
greater_other frames place left _ at glued equal = refl

-- ---- in the note of a number

module _ (frames : List Frame) (place : ℕ) (value : Frac) where
  pub note_on : (s : NoteState) (ended : State) → true ≡ note_stands s → true ≡ stands (note_goes frames place value s ended)
  note_on NoNote ended on = absurd cc
  note_on _ ended on = refl

  pub note_over : (s : NoteState) (ended : State) → false ≡ note_stands s → stands ended ≡ stands (note_goes frames place value s ended)
  note_over NoNote ended over = refl
  note_over _ ended over = absurd cc

  pub note_found : (found : Option NoteSyntax) (token : ExprToken) (b : Bool) → true ≡ is_some found → ((note : NoteSyntax) → b ≡ stands (note_ends frames place value (Some note) token))
      → b ≡ stands (note_ends frames place value found token)
  note_found (Some note) token b whole ends = ends note
  note_found None token b whole ends = absurd cc

  pub note_open : (found : Option NoteSyntax) (token : ExprToken) → false ≡ is_some found → false ≡ stands (note_ends frames place value found token)
  note_open (Some note) token lacks = absurd cc
  note_open None token lacks = refl

-- ---- in the type of an empty list

module _ (frames : List Frame) (place : ℕ) where
  pub type_on : (s : TypeState) (ended : State) → true ≡ type_stands s → true ≡ stands (type_goes frames place s ended)
  type_on NoType ended on = absurd cc
  type_on _ ended on = refl

  pub type_over : (s : TypeState) (ended : State) → false ≡ type_stands s → stands ended ≡ stands (type_goes frames place s ended)
  type_over NoType ended over = refl
  type_over _ ended over = absurd cc

  pub type_found : (found : Option TypeSyntax) (token : ExprToken) (b : Bool) → true ≡ is_some found → ((t : TypeSyntax) → b ≡ stands (type_ends frames place (Some t) token))
      → b ≡ stands (type_ends frames place found token)
  type_found (Some t) token b whole ends = ends t
  type_found None token b whole ends = absurd cc

  pub type_open : (found : Option TypeSyntax) (token : ExprToken) → false ≡ is_some found → false ≡ stands (type_ends frames place found token)
  type_open (Some t) token lacks = absurd cc
  type_open None token lacks = refl

-- ---- no frame is left

whole_frames : (frames : List Frame) (t : ExprSyntax) → nat_eq (length frames) 0 ≡ is_some (whole (Have frames t))
whole_frames [] t = refl
whole_frames (frame ∷ frames) t = eqb-suc-zero (length frames)

pub whole_left : (entries : List Entry) (n : ℕ) → stack (take n entries) ≡ left 9 (stack entries) → n ≤ length entries → (t : ExprSyntax) → nat_eq n 0 ≡ is_some (whole (reduce 9 (stack entries) t))
whole_left entries n are within t =
    let r = reduced 9 (stack entries) t in
    let count : length (stack (take n entries)) ≡ n = length-map (reverse (take n entries)) entry_frame ∙ length-reverse (take n entries) ∙ length-take-le n entries within in
    ap (λ m. nat_eq m 0) (sym count)
    ∙ whole_frames (stack (take n entries)) r.0
    ∙ ap (λ frames. is_some (whole (Have frames r.0))) are
    ∙ ap (λ s. is_some (whole s)) (sym r.1)
