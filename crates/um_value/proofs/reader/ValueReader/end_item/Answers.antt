use Rattle.std.proofs.Common.{rules, ◌≡◌, map, ap}
use Rattle.um_syntax.specs.declared.token.Kind.TheVariants as kind
use Rattle.um_vocabulary.specs.declared.vocabulary.Symbol.TheVariants as symbol
use Rattle.um_value.specs.declared.raw.RawValue.{the_lemmas}
use Rattle.um_value.specs.ValueSyntax.{raw_list, raws_in_order, value_syntax}
use Rattle.um_value.specs.ValueMachine.{Have, item_end}
use Rattle.um_value.specs.ValueView.{wanted_shape, stack, value_state}
use Rattle.um_value.proofs.ValueMoves.{value_given}
use Rattle.um_value.proofs.reader.ValueReader.end_item.Goals as goal

pub returns-in-Sign-RightBracket : goal.returns-in-Sign-RightBracket
returns-in-Sign-RightBracket c =
    let frames = stack c.args.self.now.frames.items in
    let items = map value_syntax c.args.items.items in
    let t = wanted_shape c.args.item in
    let v = raw_list (raws_in_order items) in
    let bracket : c.args.token.now.kind ≡ kind.Sign symbol.RightBracket = search rules in
    let is : value_state c.give.new.self ≡ Have frames v = rw c.give.ensures.state (search (rules, the_lemmas)) in
    value_given frames v (item_end frames t items c.args.token.now.kind) (value_state c.give.new.self) c.give.result c.give.ensures.goes is (ap (item_end frames t items) bracket)
