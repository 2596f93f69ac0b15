use Rattle.std.proofs.Common.{◌≡◌, ◌∙◌, pos, neg_ℤ, to_z, of_z, w32, sym, ap, subst}
use Rattle.std.specs.Prelude.{MatchResult, OnOk}
use Rattle.std.proofs.lemmas.Int.{to_z-of_z}
use Rattle.um_units.specs.PowerMap.{PowerMap, mul, pow}
use Rattle.um_units.proofs.Group.{pow-one}
use Rattle.um_wide.specs.Room.{IsNarrow}
use Rattle.um_kept.specs.Answers.{CarriesPower}
use Rattle.um_kept.proofs.kept.slot_parts.Goals as goal

pub returns-then-p-eq1-clause-exact : goal.returns-then-p-eq1-clause-exact
returns-then-p-eq1-clause-exact c =
    let parts = c.args.parts.now in
    let e : to_z w32 (of_z w32 c.args.e) ≡ c.args.e = to_z-of_z w32 c.args.e c.ranges.e in
    let is : c.args.p ≡ pos 1 = sym (to_z-of_z w32 c.args.p c.ranges.p) ∙ ap (to_z w32) c.if-p-eq1.true in
    subst (λ (u : PowerMap). OnOk c.take_row.result (c.take_row.new.parts ≡ u))
    ((λ i. mul parts (pow c.args.total.now (neg_ℤ (e i)))) ∙ ap (λ u. mul u (pow c.args.total.now (neg_ℤ c.args.e))) (sym (ap (pow parts) is ∙ pow-one parts))) c.take_row.ensures.exact

pub returns-then-p-eq1-clause-narrow : goal.returns-then-p-eq1-clause-narrow
returns-then-p-eq1-clause-narrow c =
    let parts = c.args.parts.now in
    let e : to_z w32 (of_z w32 c.args.e) ≡ c.args.e = to_z-of_z w32 c.args.e c.ranges.e in
    let is : c.args.p ≡ pos 1 = sym (to_z-of_z w32 c.args.p c.ranges.p) ∙ ap (to_z w32) c.if-p-eq1.true in
    subst (λ (u : PowerMap). MatchResult c.take_row.result (λ _. IsNarrow c.take_row.new.parts) (CarriesPower 9223372036854775807 u))
    ((λ i. mul parts (pow c.args.total.now (neg_ℤ (e i)))) ∙ ap (λ u. mul u (pow c.args.total.now (neg_ℤ c.args.e))) (sym (ap (pow parts) is ∙ pow-one parts))) c.take_row.ensures.narrow
