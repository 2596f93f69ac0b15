use Rattle.std.proofs.Common.{[], sym, ap, ◌∙◌}
use Rattle.um_decls.specs.DeclStanding.{decl_stands}
use Rattle.um_decls.proofs.DeclStanding.{params_begin, vars_begin}
use Rattle.um_decls.proofs.query.can_follow_function.Goals as goal

pub returns-then-is_less : goal.returns-then-is_less
returns-then-is_less c at x p =
    c.if-is_less.true ∙ vars_begin c.args.recursive at x c.args.kind.now p (sym c.is_less.ensures ∙ c.if-is_less.true)

pub returns-else-is_less : goal.returns-else-is_less
returns-else-is_less c at x p =
    c.can_follow_params.ensures at x [] []
    ∙ ap decl_stands (params_begin c.args.recursive at x c.args.kind.now p (sym c.is_less.ensures ∙ c.if-is_less.false))
