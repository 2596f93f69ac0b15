use Rattle.std.proofs.Common.{ap, ◌∙◌, sym, subst, length, arith, rules, to_z, of_z, w64, FitsSigned}
use Rattle.std.proofs.lemmas.Int.{to_z-of_z}
use Rattle.um_units.specs.PowerMap.{nth}
use Rattle.um_units.specs.Solutions.{Solves}
use Rattle.um_tree.specs.ProgramTree.{scheme_tree}
use Rattle.um_tree.specs.Typing.{put_signature}
use Rattle.um_rows.specs.Answers.{rows_signature}
use Rattle.um_equal_types.specs.Steps.{units_of}
use Rattle.um_check.specs.Validity.{ShowsGeneral}
use Rattle.um_check.specs.Tests.{AllComeBack}
use Rattle.um_check.proofs.YesTests.{valid_from, all_by, moved_back}
use Rattle.um_check.proofs.Returns.{valid_yes_is_exact}
use Rattle.um_check.proofs.scheme.check_yes.Goals as goal

pub returns-then-not-branch-2-clause-exact : goal.returns-then-not-branch-2-clause-exact
returns-then-not-branch-2-clause-exact c = (
  (λ g. cc),
  (λ v. sym c.if-not-branch-2.true ∙ c.in_ok-gives_scheme.ensures.1 (ap (λ us. put_signature (nth us) (rows_signature c.args.rows.now)) c.as_slice-solution.ensures.items ∙ v.gives)),
)

pub all_come_back-requires-clause-slots : goal.all_come_back-requires-clause-slots
all_come_back-requires-clause-slots c =
    let sized = c.is_sized.ensures.sized.0 c.if-not-is_sized.false in
    let many = sized.units in
    let few = c.is_sized.ensures.few in
    let same = ap length c.as_slice-solution.ensures.items in
    omega (arith, many, few, same)

pub returns-clause-exact : goal.returns-clause-exact
returns-clause-exact c =
    let cert = c.args.cert.now in
    let rows = c.args.rows.now in
    let list = units_of rows.list.items.items in
    let s = scheme_tree c.args.scheme.now in
    let g = rows_signature rows in
    let us = c.as_slice-solution.result.now in
    let items = c.as_slice-solution.ensures.items in
    let value = ap units_of c.deref-list.ensures.value in
    let k = to_z w64 (of_z w64 cert.divisor) in
    let f : FitsSigned w64 cert.divisor = search rules in
    let divisor = to_z-of_z w64 cert.divisor f in
    let back = c.as_slice-back.ensures.items in
    let parts = c.as_slice-parts.ensures.items in (
      (λ t.
          valid_from c.args.bases c.args.units rows.slots list g s cert (c.is_sized.ensures.sized.0 c.if-not-is_sized.false)
          (subst (λ vs. Solves (nth vs) list) items (subst (Solves (nth us)) value (c.in_ok-solves.ensures.0 c.if-not-branch.false)))
          (ap (λ vs. put_signature (nth vs) g) (sym items) ∙ c.in_ok-gives_scheme.ensures.0 c.if-not-branch-2.false)
          (subst (ShowsGeneral c.args.bases rows.slots c.args.units list) c.as_slice.ensures.items (c.in_ok-shows_general.ensures.0 c.if-not-branch-3.false))
          (moved_back list us cert.solution c.as_slice-back.result.now cert.back k cert.divisor c.as_slice-parts.result.now cert.parts items back divisor parts
          (subst (λ rs. AllComeBack rs us c.as_slice-back.result.now k c.as_slice-parts.result.now) value (c.in_ok-all.ensures.0 t)))),
      (λ v.
          c.in_ok-all.ensures.1
          (subst (λ rs. AllComeBack rs us c.as_slice-back.result.now k c.as_slice-parts.result.now) (sym value)
          (moved_back list cert.solution us cert.back c.as_slice-back.result.now cert.divisor k cert.parts c.as_slice-parts.result.now (sym items) (sym back) (sym divisor) (sym parts)
          (all_by c.args.bases c.args.units rows.slots list g s cert v)))),
    )

pub returns-clause-shows : goal.returns-clause-shows
returns-clause-shows c t held =
    valid_yes_is_exact c.args.bases c.args.units c.args.rows.now.slots (units_of c.args.rows.now.list.items.items) (rows_signature c.args.rows.now) (scheme_tree c.args.scheme.now) c.args.cert.now held.rows held.types ((returns-clause-exact c).0 t)
