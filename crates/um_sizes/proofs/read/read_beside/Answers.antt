use Rattle.std.proofs.Common.{◌≡◌, cond, length, List, ℕ, Some, None, ap, subst, ◌∙◌}
use Rattle.um_sizes.specs.Parts.{parts_of}
use Rattle.um_sizes.specs.Setting.{sizes_set}
use Rattle.um_sizes.proofs.BaseScales.{read_all}
use Rattle.um_sizes.proofs.read.read_beside.Goals as goal

pub returns-then-set_sizes : goal.returns-then-set_sizes
returns-then-set_sizes c =
    let scales = c.in_ok-scales.scales in
    let many = c.in_ok-scales.ensures.many ∙ c.count.ensures ∙ ap length c.in_ok-add_names.ensures in
    let set = c.set_sizes.ensures ∙ ap (λ b. cond b (Some c.set_sizes.new.scales) None) c.if-set_sizes.true in
    read_all c.args.names.now c.args.word.now scales (Some c.set_sizes.new.scales) c.requires.once c.requires.word many c.in_ok-scales.ensures.ones
    (subst (λ (bases : List (List ℕ)). sizes_set bases scales (parts_of c.args.word.now) ≡ Some c.set_sizes.new.scales) c.in_ok-add_names.ensures set)

pub returns-else-set_sizes : goal.returns-else-set_sizes
returns-else-set_sizes c =
    let scales = c.in_ok-scales.scales in
    let many = c.in_ok-scales.ensures.many ∙ c.count.ensures ∙ ap length c.in_ok-add_names.ensures in
    let set = c.set_sizes.ensures ∙ ap (λ b. cond b (Some c.set_sizes.new.scales) None) c.if-set_sizes.false in
    read_all c.args.names.now c.args.word.now scales None c.requires.once c.requires.word many c.in_ok-scales.ensures.ones
    (subst (λ (bases : List (List ℕ)). sizes_set bases scales (parts_of c.args.word.now) ≡ None) c.in_ok-add_names.ensures set)
