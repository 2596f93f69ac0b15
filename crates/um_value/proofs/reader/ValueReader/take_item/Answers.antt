use Rattle.std.proofs.Common.{rules, ◌≡◌, List, map, ap, ◌∙◌}
use Rattle.um_syntax.specs.declared.token.Kind.{Kind}
use Rattle.um_syntax.specs.declared.token.Kind.TheVariants as kind
use Rattle.um_vocabulary.specs.declared.vocabulary.Symbol.TheVariants as symbol
use Rattle.um_tree.specs.ProgramTree.{record_tree}
use Rattle.um_value.specs.declared.raw.RawValue.{RawValue, the_lemmas}
use Rattle.um_value.specs.ValueSyntax.{raw_list, raw_none, raws_in_order, value_syntax}
use Rattle.um_value.specs.ValueMachine.{Have, begun}
use Rattle.um_value.specs.ValueView.{wanted_shape, stack, value_state}
use Rattle.um_value.proofs.ValueMoves.{value_given}
use Rattle.um_value.proofs.reader.ValueReader.take_item.Goals as goal

pub returns-in-Sign-RightBracket : goal.returns-in-Sign-RightBracket
returns-in-Sign-RightBracket c =
    let frames = stack c.args.self.now.frames.items in
    let records = map record_tree c.args.records.now in
    let t = wanted_shape c.args.item in
    let at = c.args.token.now.start in
    let items = c.new-items.result.items in
    let bracket : c.args.token.now.kind ≡ kind.Sign symbol.RightBracket = search rules in
    let made : value_state c.give.new.self ≡ Have frames (raw_list (raws_in_order (map value_syntax items))) = rw c.give.ensures.state (search (rules, the_lemmas)) in
    let is : value_state c.give.new.self ≡ Have frames (raw_list raw_none) = made ∙ ap (λ (vs : List RawValue). Have frames (raw_list (raws_in_order (map value_syntax vs)))) c.new-items.ensures.items in
    value_given frames (raw_list raw_none) (begun records frames t c.args.token.now.kind at) (value_state c.give.new.self) c.give.result c.give.ensures.goes is (ap (λ (k : Kind). begun records frames t k at) bracket)
