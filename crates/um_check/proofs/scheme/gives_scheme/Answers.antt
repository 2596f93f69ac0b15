use Rattle.std.proofs.Common.{ap, ◌∙◌, sym, map}
use Rattle.um_units.specs.PowerMap.{nth}
use Rattle.um_tree.specs.TypeTree.{type_tree}
use Rattle.um_tree.specs.ProgramTree.{Signature}
use Rattle.um_tree.specs.Typing.{put}
use Rattle.um_check.proofs.FormTests.{becomes-put, put-becomes}
use Rattle.um_check.proofs.scheme.gives_scheme.Goals as goal

pub returns-then-not-branch : goal.returns-then-not-branch
returns-then-not-branch c = (
  (λ g. cc),
  (λ e.
      let s = put (nth c.args.units.now) in
      sym c.if-not-branch.true
      ∙ c.in_ok-types_become.ensures.1 (ap (λ ts. map s (map type_tree ts)) c.deref.ensures.value ∙ ap (λ (g : Signature). g.params) e ∙ ap (map type_tree) (sym c.deref-2.ensures.value))),
)

pub returns : goal.returns
returns c =
    let s = put (nth c.args.units.now) in (
      (λ g.
          let p =
          ap (λ ts. map s (map type_tree ts)) (sym c.deref.ensures.value) ∙ c.in_ok-types_become.ensures.0 c.if-not-branch.false ∙ ap (map type_tree) c.deref-2.ensures.value in
          let r = becomes-put (nth c.args.units.now) (type_tree c.args.rows.now.result) (type_tree c.args.scheme.now.result) (c.in_ok-shown.ensures.0 g) in
          λ i. record { params = p i; result = r i }),
      (λ e. c.in_ok-shown.ensures.1 (put-becomes (nth c.args.units.now) (type_tree c.args.rows.now.result) (type_tree c.args.scheme.now.result) (ap (λ (g : Signature). g.result) e))),
    )
