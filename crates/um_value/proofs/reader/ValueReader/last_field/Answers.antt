use Rattle.std.proofs.Common.{rules, ◌≡◌, map, ap}
use Rattle.um_syntax.specs.declared.token.Kind.TheVariants as kind
use Rattle.um_vocabulary.specs.declared.vocabulary.Symbol.TheVariants as symbol
use Rattle.um_value.specs.declared.raw.RawValue.{the_lemmas}
use Rattle.um_value.specs.ValueSyntax.{raw_record, raws_in_order, value_syntax}
use Rattle.um_value.specs.ValueMachine.{Have, last_end}
use Rattle.um_value.specs.ValueView.{stack, value_state}
use Rattle.um_value.proofs.ValueMoves.{value_given}
use Rattle.um_value.proofs.reader.ValueReader.last_field.Goals as goal

pub returns-in-Sign-RightBrace : goal.returns-in-Sign-RightBrace
returns-in-Sign-RightBrace c =
    let frames = stack c.args.self.now.frames.items in
    let parts = map value_syntax c.args.parts.items in
    let v = raw_record c.args.r (raws_in_order parts) in
    let brace : c.args.token.now.kind ≡ kind.Sign symbol.RightBrace = search rules in
    let is : value_state c.give.new.self ≡ Have frames v = rw c.give.ensures.state (search (rules, the_lemmas)) in
    value_given frames v (last_end frames c.args.r parts c.args.token.now.kind) (value_state c.give.new.self) c.give.result c.give.ensures.goes is (ap (last_end frames c.args.r parts) brace)
