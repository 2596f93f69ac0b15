-- One token more of a body; what the type is that has refused a token; and what is left of a token that is refused begins a
-- declaration exactly where the token does.
use Rattle.std.proofs.Common.{◌≡◌, ◌≢◌, ℕ, ◌≤◌, List, Option, Some, ◌⊎◌, inl, inr, refl, sym, ap, ◌∙◌, arith}
use Rattle.um_syntax.specs.declared.token.Kind.{Kind}
use Rattle.um_syntax.specs.declared.token.Kind.TheVariants as kind
use Rattle.um_syntax.specs.declared.token.Token.{Token}
use Rattle.um_syntax.specs.Emptied.{emptied_kind, emptied}
use Rattle.um_tree.specs.RawTree.{TypeSyntax, ParamSyntax}
use Rattle.um_reader.specs.Takes.{Takes}
use Rattle.um_reader.specs.declared.taken.Taken.{Taken}
use Rattle.um_reader.specs.declared.taken.Taken.TheVariants as taken
use Rattle.um_types.specs.TypeHeights.{whole_height}
use Rattle.um_types.specs.TypeMachine.{TypeState, type_finish, type_least, machine_of_types}
use Rattle.um_unit_texts.specs.UnitStops.{greatest_height}
use Rattle.um_types.proofs.TypeLaws.{type_found_height}
use Rattle.um_operands.specs.ExprBegun.{State, Refused}
use Rattle.um_forms.specs.ExprTokens.{expr_token}
use Rattle.um_expr.specs.ExprMachine.{step, machine_of_expressions}
use Rattle.um_decls.specs.DeclMachine.{FunctionStart, DeclBegin, Expects, InBody, NoDecl, take_expected, body_goes, body_found, decl_step}
use Rattle.um_decls.specs.DeclLeast.{decl_least, machine_of_declarations}
use Rattle.um_decls.specs.DeclTokens.{BeginsAlike, IfStops}

-- the machine of expressions goes on inside
pub body_inside : (head : FunctionStart) (ps : List ParamSyntax) (r : Option TypeSyntax) (e new : State) (token : Token) → step e token ≡ new → new ≢ Refused
    → decl_step (InBody head ps r e) token ≡ InBody head ps r new
body_inside head ps r e new token same ok = ap (body_goes head ps r) same ∙ body_on new ok
  where
    body_on : (w : State) → w ≢ Refused → body_goes head ps r w ≡ InBody head ps r w
    body_on Refused h = absurd (h refl)
    body_on _ h = refl

pub kind_alike : (k : Kind) (p : ℕ) → take_expected DeclBegin (expr_token (emptied_kind k)) p ≡ take_expected DeclBegin (expr_token k) p
kind_alike (kind.Name x) p = refl
kind_alike _ p = refl

-- whether its letters were taken or not
pub alike : (left token : Token) → (left ≡ token) ⊎ (left ≡ emptied token) → BeginsAlike left token
alike left token h =
    elim h [
      | inl e ↦ ap (decl_step (Expects DeclBegin)) e
      | inr e ↦ ap (decl_step (Expects DeclBegin)) e ∙ kind_alike token.kind token.start
    ]

pub if_stops : {A : Type 0} → (t : Taken) → (t ≡ taken.Stops → A) → IfStops t A
if_stops taken.Stops h = h refl
if_stops _ h = tt

-- one token more of a body
pub body_takes : (head : FunctionStart) (ps : List ParamSyntax) (r : Option TypeSyntax) (old new : State) (token : Token) (given : Taken) → decl_least (InBody head ps r old) ≤ greatest_height
    → Takes machine_of_expressions greatest_height old token given new → Takes machine_of_declarations greatest_height (InBody head ps r old) token given (InBody head ps r new)
body_takes head ps r old new token taken.Goes low t = (sym (body_inside head ps r old new token (sym t.0) t.1), (λ h. cc), omega (arith, low, t.2))
body_takes head ps r old new token taken.Stops low t = (ap (body_goes head ps r) t.0, ap (body_found head ps r) t.1)
body_takes head ps r old new token taken.High low t =
    let e : decl_step (InBody head ps r old) token ≡ InBody head ps r (step old token) = body_inside head ps r old (step old token) token refl t.0 in
    ((λ h. let bad : InBody head ps r (step old token) ≡ NoDecl = sym e ∙ h in cc), omega (arith, t.1, ap decl_least e))

-- the type that has refused a token isn't too high
pub type_low : (old mid : TypeState) (token : Token) → type_least old ≤ greatest_height → Takes machine_of_types greatest_height old token taken.Stops mid
    → (t : TypeSyntax) → type_finish mid ≡ Some t → whole_height t ≤ greatest_height
type_low old mid token low refused t is = let same = type_found_height old t (sym refused.1 ∙ is) in omega (arith, low, same)
