use Rattle.std.proofs.Common.{◌≡◌, ◌++◌, List, ℕ, OnOk, subst, sym, append-nil}
use Rattle.um_sites.specs.NameDetails.{similar_line}
use Rattle.um_sites.proofs.Words.{similar_word, similar_none}
use Rattle.um_sites.proofs.text.push_similar.Goals as goal

pub returns-in-Ok : goal.returns-in-Ok
returns-in-Ok c =
    subst (λ (names : List (List ℕ)). OnOk c.push_similar_to.result (c.push_similar_to.new.text.items ≡ c.args.text.now.items ++ similar_line c.args.quoted names))
    (similar_word c.args.name.now c.in-Ok.word.now c.args.known.now c.in-Ok.ensures.cases.0 c.in-Ok.ensures.cases.1) c.push_similar_to.ensures

pub returns-in-Err : goal.returns-in-Err
returns-in-Err c = rw (similar_none c.args.name.now c.args.known.now c.in-Err.ensures.cases.0) (sym (append-nil c.args.text.now.items))
