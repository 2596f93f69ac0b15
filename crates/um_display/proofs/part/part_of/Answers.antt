use Rattle.std.proofs.Common.{◌≤◌, List, length, sym, subst, arith}
use Rattle.um_syntax.specs.declared.token.Token.{Token}
use Rattle.um_syntax.proofs.TokenCounts.{tokens_within_bytes}
use Rattle.um_display.proofs.part.part_of.Goals as goal

pub part_in-part-requires : goal.part_in-part-requires
part_in-part-requires c =
    let within = tokens_within_bytes c.args.text.now c.args.tokens c.utf8.text c.requires.lexed in
    let short = c.requires.short in
    record { few = subst (λ (ts : List Token). length ts ≤ 1048576) (sym c.as_slice.ensures) (omega (arith, within, short)) }
