use Rattle.std.proofs.Common.{◌≤◌, ◌++◌, ◌∙◌, ap, arith, length}
use Rattle.um_text_details.specs.SyntaxDetails.{expected_line, missing_in}
use Rattle.um_text_details.proofs.RefusedTokens.{refused_begins, refused_after, refused_within, told_of_refused}
use Rattle.um_text_details.proofs.syntax.push_expected.Goals as goal

pub words_at-requires-clause-begins : goal.words_at-requires-clause-begins
words_at-requires-clause-begins c = refused_begins c.args.bytes.now c.args.tokens.now c.args.at c.requires.lexed c.requires.refused c.number_at-k.result c.number_at-k.ensures.exact

pub words_at-requires-clause-short : goal.words_at-requires-clause-short
words_at-requires-clause-short c = refused_after c.args.bytes.now c.args.tokens.now c.args.at c.requires.lexed c.requires.refused c.number_at-k.result c.number_at-k.ensures.exact

pub words_at-requires-clause-place : goal.words_at-requires-clause-place
words_at-requires-clause-place c =
    let within = refused_within c.args.bytes.now c.args.tokens.now c.args.at c.requires.lexed c.requires.refused in
    let short : length c.args.bytes.now ≤ 1048576 = c.requires.short in
    omega (arith, within, short)

pub returns : goal.returns
returns c =
    let old = c.args.text.now.items in
    let tokens = c.args.tokens.now in
    let k = c.number_at-k.result in
    record {
      told = told_of_refused c.args.bytes.now tokens c.args.at c.requires.lexed c.requires.refused k c.number_at-k.ensures.exact
          c.in_ok-told.told.items c.in_ok-told.ensures old c.push_told.new.text.items
          (c.in_ok-missing.ensures.line ∙ ap (λ words. old ++ expected_line words) c.deref.ensures.value)
          c.in_ok-missing.missing (c.in_ok-missing.ensures.missing ∙ ap (λ words. missing_in tokens k words) c.deref.ensures.value);
    }
