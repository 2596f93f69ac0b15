use Rattle.std.proofs.Common.{◌≡◌, true, nat_eq, sym, ◌∙◌}
use Rattle.std.specs.List.{list_any}
use Rattle.std.proofs.lemmas.Result.{err_from_is_err_and}
use Rattle.um_unit_reasons.proofs.OtherSteps.{listed, any_flip, added, row_stop}
use Rattle.um_unit_reasons.proofs.others.push_other.Goals as goal

pub returns-in_err-one : goal.returns-in_err-one
returns-in_err-one c = λ agreed kept before found.
    let core = c.args.core.now in
    let j = c.args.j in
    let there : list_any (nat_eq j) core ≡ true = sym (any_flip j core) ∙ sym c.contains.ensures.value ∙ c.if-not-contains.false in
    let p = err_from_is_err_and c.from_residual.result c.from_residual.ensures.1 in
    rw (p.1, p.2) (row_stop agreed c.args.found.now core j kept c.requires.some (listed core j there) c.in_err-one.field-0.0 (c.in_err-one.ensures agreed kept))

pub returns : goal.returns
returns c = λ agreed kept before found.
    let core = c.args.core.now in
    let j = c.args.j in
    let there : list_any (nat_eq j) core ≡ true = sym (any_flip j core) ∙ sym c.contains.ensures.value ∙ c.if-not-contains.false in
    added agreed core c.args.last before j c.in_ok-one.one c.args.told.now.items c.push_news.new.told.items there (c.in_ok-one.ensures agreed kept) found c.in_ok-push_news.ensures
