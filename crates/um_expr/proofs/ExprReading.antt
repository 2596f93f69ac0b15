-- The machine of expressions reads the grammar.
use Rattle.std.proofs.Common.{◌≡◌, ◌≢◌, List, [], ◌++◌, Some, refl, sym, subst}
use Rattle.std.proofs.lemmas.List.{append-nil}
use Rattle.um_syntax.specs.declared.token.Token.{Token}
use Rattle.um_tree.specs.RawTree.{ExprSyntax}
use Rattle.um_reader.specs.Machine.{runs, IsReaderOf}
use Rattle.um_operands.specs.ExprHeights.{whole_expr_height}
use Rattle.um_operands.specs.ExprBegun.{State, Need, Refused, finish}
use Rattle.um_operands.specs.ExprLeast.{whole_least}
use Rattle.um_expr.specs.ExprGrammar.{IsExpr}
use Rattle.um_expr.specs.ExprMachine.{step, machine_of_expressions}
use Rattle.um_expr.proofs.ExprPrefixes.{SpellsPrefix}
use Rattle.um_expr.proofs.ExprSound.{spells_prefix, expr_found}
use Rattle.um_expr.proofs.ExprCompletions.{expr_ending, expr_completed, expr_can_end}
use Rattle.um_expr.proofs.ExprHeights.{expr_completed_height, expr_up, expr_found_height}
use Rattle.um_expr.proofs.ExprLaws.{expr_is_found}

expr_is : (tokens : List Token) (t : ExprSyntax) → finish (runs step (Need []) tokens) ≡ Some t → IsExpr tokens t
expr_is tokens t e =
    let p = expr_found (runs step (Need []) tokens) t (tokens ++ []) [] (spells_prefix tokens []) e in
    subst (λ w. IsExpr w t) (append-nil tokens) (record { spelled = p.0; fits = p.1 })

expr_ends : (tokens : List Token) → runs step (Need []) tokens ≢ Refused
    → (more : List Token) × (t : ExprSyntax) × IsExpr (tokens ++ more) t × (whole_expr_height t ≡ whole_least (runs step (Need []) tokens))
expr_ends tokens ok =
    let st : State = runs step (Need []) tokens in
    let more : List Token = expr_ending st in
    let h : SpellsPrefix st (tokens ++ more) more = spells_prefix tokens more in
    let p = expr_can_end st (tokens ++ more) [] (subst (λ w. SpellsPrefix st (tokens ++ more) w) (sym (append-nil more)) h) ok in
    (more, expr_completed st, record { spelled = p.0; fits = p.1 }, expr_completed_height st (tokens ++ more) more h ok)

pub exprs_read : IsReaderOf machine_of_expressions IsExpr whole_expr_height
exprs_read = record { stays = λ token. refl; nothing = refl; finds = expr_is_found; found = expr_is; completed = expr_ends; up = expr_up; same_height = expr_found_height }
