use Rattle.std.proofs.Common.{length, refl, sym, ◌∙◌}
use Rattle.std.proofs.lemmas.Bool.{ne_eqb}
use Rattle.um_vocabulary.specs.Tables.{keywords}
use Rattle.um_vocabulary.proofs.Keywords.{found_by_len, none_found}
use Rattle.um_vocabulary.proofs.vocabulary.keyword_of.Goals as goal

pub returns-then-len-eq2 : goal.returns-then-len-eq2
returns-then-len-eq2 c = c.of_two.ensures ∙ sym (found_by_len 2 c.args.letters.now keywords c.if-len-eq2.true)

pub returns-then-len-eq3 : goal.returns-then-len-eq3
returns-then-len-eq3 c = c.of_three.ensures ∙ sym (found_by_len 3 c.args.letters.now keywords c.if-len-eq3.true)

pub returns-then-len-eq4 : goal.returns-then-len-eq4
returns-then-len-eq4 c = c.of_four.ensures ∙ sym (found_by_len 4 c.args.letters.now keywords c.if-len-eq4.true)

pub returns-then-len-eq5 : goal.returns-then-len-eq5
returns-then-len-eq5 c = c.of_five.ensures ∙ sym (found_by_len 5 c.args.letters.now keywords c.if-len-eq5.true)

pub returns-then-len-eq7 : goal.returns-then-len-eq7
returns-then-len-eq7 c = c.of_seven.ensures ∙ sym (found_by_len 7 c.args.letters.now keywords c.if-len-eq7.true)

pub returns-else-len-eq7 : goal.returns-else-len-eq7
returns-else-len-eq7 c =
    let letters = c.args.letters.now in
    let n = length letters in
    let two = ne_eqb 2 n (λ e. c.if-len-eq2.false (sym e)) in
    let three = ne_eqb 3 n (λ e. c.if-len-eq3.false (sym e)) in
    let four = ne_eqb 4 n (λ e. c.if-len-eq4.false (sym e)) in
    let five = ne_eqb 5 n (λ e. c.if-len-eq5.false (sym e)) in
    let seven = ne_eqb 7 n (λ e. c.if-len-eq7.false (sym e)) in
    sym (none_found n letters refl two three four five seven)
