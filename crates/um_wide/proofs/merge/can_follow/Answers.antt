use Rattle.std.proofs.Common.{◌-◌, ◌<◌, ◌++◌, List, length, pos, sym, ap, ◌∙◌, subst, rules, arith}
use Rattle.std.specs.Prelude.{IsTrue}
use Rattle.std.proofs.lemmas.List.{append-nil}
use Rattle.um_units.specs.declared.Atom.TheVariants.{Base}
use Rattle.um_units.specs.Terms.{is_normal}
use Rattle.um_units.specs.declared.wide.WideTerm.{WideTerm}
use Rattle.um_units.specs.Wide.{as_terms}
use Rattle.um_wide.proofs.Terms.{no_terms, normal_after}
use Rattle.um_wide.proofs.merge.can_follow.Goals as goal

abbrev none : WideTerm
none = record { atom = Base 0; power = pos 0 }

pub returns-then-is_empty : goal.returns-then-is_empty
returns-then-is_empty c = λ h.
    subst (λ (ws : List WideTerm). IsTrue (is_normal (as_terms ws ++ as_terms c.args.back.now))) (sym (no_terms c.args.front.now (search rules))) c.requires.back

pub returns-then-is_empty-2 : goal.returns-then-is_empty-2
returns-then-is_empty-2 c = λ h.
    subst (λ (ws : List WideTerm). IsTrue (is_normal (as_terms c.args.front.now ++ as_terms ws))) (sym (no_terms c.args.back.now (search rules)))
    (ap is_normal (append-nil (as_terms c.args.front.now)) ∙ c.requires.front)

pub returns : goal.returns
returns c = λ h.
    let front : 0 < length c.args.front.now = search rules in
    let back : 0 < length c.args.back.now = search rules in
    normal_after c.args.front.now c.args.back.now (length c.args.front.now - 1) none none (omega (arith, front)) back c.requires.front c.requires.back (sym c.comes_before.ensures ∙ h)
