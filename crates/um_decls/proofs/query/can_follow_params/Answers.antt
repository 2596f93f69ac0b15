use Rattle.std.proofs.Common.{sym, ap, ◌∙◌}
use Rattle.um_forms.specs.ExprTokens.{expr_token}
use Rattle.um_decls.specs.DeclMachine.{started, take_params}
use Rattle.um_decls.specs.DeclStanding.{decl_stands}
use Rattle.um_decls.proofs.query.can_follow_params.Goals as goal

pub returns-then-recursive : goal.returns-then-recursive
returns-then-recursive c at x vs ps =
    c.can_follow_recursive.ensures at x vs ps
    ∙ ap (λ b. decl_stands (take_params (started b at x vs) ps (expr_token c.args.kind.now))) (sym c.if-recursive.true)

pub returns-else-recursive : goal.returns-else-recursive
returns-else-recursive c at x vs ps =
    c.can_follow_plain.ensures at x vs ps
    ∙ ap (λ b. decl_stands (take_params (started b at x vs) ps (expr_token c.args.kind.now))) (sym c.if-recursive.false)
