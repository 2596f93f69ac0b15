use Rattle.std.proofs.Common.{rules, ◌≡◌, ap, sym, subst, ◌∙◌, arith}
use Rattle.um_syntax.specs.declared.token.Kind.TheVariants as kind
use Rattle.um_vocabulary.specs.declared.vocabulary.Symbol.TheVariants as symbol
use Rattle.um_tree.specs.RawTree.{note_syntax}
use Rattle.um_reader.specs.Takes.{Gives}
use Rattle.um_reader.specs.declared.taken.Taken.{Taken}
use Rattle.um_unit_texts.specs.UnitStops.{greatest_height}
use Rattle.um_types.specs.TypeMachine.{NeedType, HaveType, note_end, owned, type_least, machine_of_types}
use Rattle.um_types.specs.TypeView.{view_owner, type_state}
use Rattle.um_types.proofs.TypeLaws.{owned_height}
use Rattle.um_types.proofs.Inside.{have_type}
use Rattle.um_types.proofs.type_reader.TypeReader.end_note.Goals as goal

pub returns-in_ok-operand-in-Sign-Greater : goal.returns-in_ok-operand-in-Sign-Greater
returns-in_ok-operand-in-Sign-Greater c =
    let depth = c.args.self.now.depth in
    let owner = view_owner c.args.owner in
    let n = note_syntax c.args.note in
    let new = type_state c.give.new.self in
    let greater : c.args.token.now.kind ≡ kind.Sign symbol.Greater = search rules in
    let is : new ≡ HaveType depth (owned owner n) = c.give.ensures.state ∙ ap (λ t. HaveType depth t) c.in_ok-operand-in-Sign-Greater.ensures in
    let e = owned_height owner n in
    subst (λ (t : Taken). Gives machine_of_types greatest_height (NeedType depth) (note_end depth owner n c.args.token.now.kind) t new) (sym c.give.ensures.goes) (
      is ∙ sym (ap (note_end depth owner n) greater),
      (λ h. have_type depth (owned owner n) (sym is ∙ h)),
      omega (arith, c.requires.low, ap type_least is, e.0, e.1),
    )
