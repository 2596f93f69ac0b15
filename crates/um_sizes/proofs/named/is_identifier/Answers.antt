use Rattle.std.proofs.Common.{◌&&◌, sym, ap, ◌∙◌}
use Rattle.std.specs.List.{list_all}
use Rattle.std.specs.Str.{chars}
use Rattle.unicode_ident.specs.Ident.{is_xid_continue}
use Rattle.um_sizes.proofs.NameTests.{begins_and_continues}
use Rattle.um_sizes.proofs.named.is_identifier.Goals as goal

pub returns-then-starts_as_name : goal.returns-then-starts_as_name
returns-then-starts_as_name c =
    c.continues_as_name.ensures
    ∙ ap (λ b. b && list_all is_xid_continue (chars c.args.text.now)) (sym (sym c.starts_as_name.ensures ∙ c.if-starts_as_name.true))
    ∙ begins_and_continues (chars c.args.text.now)
