use Rattle.std.proofs.Common.{rules, ◌∙◌, ◌++◌, ap, sym, arith}
use Rattle.std.proofs.lemmas.Str.Pattern.{split_parts}
use Rattle.um_embed.specs.Embedded.{words_between}
use Rattle.um_embed.proofs.Parts.{words_cut, words_end}
use Rattle.um_embed.proofs.line.parts_of.Goals as goal

pub loop-word-preserved : goal.loop-word-preserved
loop-word-preserved c =
    let rest = c.loop-word.rest.now in
    let cut = rw c.in-Some.is at (split_parts 0 rest c.split_once.result c.split_once.ensures.cases (omega arith)) in
    record {
      text = search rules;
      parts = words_cut c.args.text.now c.loop-word.words rest c.in-Some.word.now c.in-Some.after.now c.loop-word.invariant.parts cut.0 cut.1 ∙ ap (λ ws. ws ++ words_between c.in-Some.after.now) (sym c.in_ok-push.ensures.ok);
    }

pub returns : goal.returns
returns c =
    let rest = c.loop-word.rest.now in
    let none = rw c.in_default.is at (split_parts 0 rest c.split_once.result c.split_once.ensures.cases (omega arith)) in
    c.in_ok-push-2.ensures.ok ∙ ap (λ ws. c.loop-word.words ++ ws) (sym (words_end rest none)) ∙ sym c.loop-word.invariant.parts
