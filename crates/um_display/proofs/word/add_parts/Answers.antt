use Rattle.std.proofs.Common.{◌≡◌, Bool, true, false, Some, rules, arith}
use Rattle.std.proofs.lemmas.Result.{IfOk-weaker}
use Rattle.um_display.specs.UnitWords.{texts_in}
use Rattle.um_display.specs.PartView.{list_syntax, AddsPart, AddsParts}
use Rattle.um_display.proofs.Words.{texts_next, refused, one_more, ended}
use Rattle.um_display.proofs.word.add_parts.Goals as goal

pub returns-then-not-branch : goal.returns-then-not-branch
returns-then-not-branch c =
    let l = c.parts in
    let cut = texts_next l.rest.now (Some (c.in-Some.text, c.in-Some.more)) c.in-Some.ensures.cases in
    let no : c.in_ok-add_part.field-0 ≡ false = search rules in
    refused (list_syntax c.args.items.now.items) (list_syntax l.items.items) (list_syntax c.add_part.new.items.items) (texts_in c.args.word.now) (texts_in l.rest.now) (texts_in c.in-Some.more.now) c.in-Some.text.now
    l.invariant.stand cut (rw no at c.in_ok-add_part.ensures)

pub parts-preserved : goal.parts-preserved
parts-preserved c =
    let l = c.parts in
    let cut = texts_next l.rest.now (Some (c.in-Some.text, c.in-Some.more)) c.in-Some.ensures.cases in
    let yes : c.in_ok-add_part.field-0 ≡ true = search rules in
    let lengths = c.in-Some.ensures.cases.7 in let short = l.invariant.short in
    record {
      stand = one_more (list_syntax c.args.items.now.items) (list_syntax l.items.items) (list_syntax c.add_part.new.items.items) (texts_in c.args.word.now) (texts_in l.rest.now) (texts_in c.in-Some.more.now) c.in-Some.text.now
          l.invariant.stand cut (rw yes at c.in_ok-add_part.ensures);
      text = search rules;
      short = omega (arith, lengths, short);
    }

pub returns : goal.returns
returns c =
    let l = c.parts in
    let before = list_syntax c.args.items.now.items in let now = list_syntax l.items.items in let new = list_syntax c.add_part-2.new.items.items in
    let last = rw c.in_default.is at (texts_next l.rest.now c.split_once.result c.split_once.ensures.cases) in
    IfOk-weaker c.add_part-2.result (λ (one : Bool). AddsPart now new l.rest.now one) (λ (all : Bool). AddsParts before new (texts_in c.args.word.now) all)
    (λ one h. ended before now new (texts_in c.args.word.now) (texts_in l.rest.now) l.rest.now one l.invariant.stand last h)
    c.add_part-2.ensures
