use Rattle.std.proofs.Common.{rules, ◌∙◌, ◌∷◌, ◌++◌, [], ap, sym, arith, length, length-append, map}
use Rattle.std.specs.Prelude.{string_bytes}
use Rattle.std.proofs.lemmas.List.{length-map}
use Rattle.std.proofs.lemmas.Str.Pattern.{split_parts}
use Rattle.um_embed.specs.Embedded.{words_between}
use Rattle.um_embed.proofs.Parts.{words_cut, words_end}
use Rattle.um_embed.proofs.words.words_of.Goals as goal

pub loop-word-preserved : goal.loop-word-preserved
loop-word-preserved c =
    let rest = c.loop-word.rest.now in
    let cut = rw c.in-Some.is at (split_parts 0 rest c.split_once.result c.split_once.ensures.cases (omega arith)) in
    record {
      text = search rules;
      words =
          words_cut c.args.text.now (map string_bytes c.loop-word.words.items) rest c.in-Some.word.now c.in-Some.after.now c.loop-word.invariant.words cut.0 cut.1
          ∙ ap (λ ws. ws ++ words_between c.in-Some.after.now) (sym c.in_ok-add_word.ensures);
    }

pub returns-clause-exact : goal.returns-clause-exact
returns-clause-exact c =
    let rest = c.loop-word.rest.now in
    let none = rw c.in_default.is at (split_parts 0 rest c.split_once.result c.split_once.ensures.cases (omega arith)) in
    c.in_ok-add_word-2.ensures ∙ ap (λ ws. map string_bytes c.loop-word.words.items ++ ws) (sym (words_end rest none)) ∙ sym c.loop-word.invariant.words

pub returns-clause-some : goal.returns-clause-some
returns-clause-some c =
    let so_far = map string_bytes c.loop-word.words.items in let words = c.add_word-2.new.words.items in
    let all = ap length c.in_ok-add_word-2.ensures ∙ length-append so_far (c.loop-word.rest.now ∷ []) in
    let many = length-map words string_bytes in
    omega (arith, all, many)
