use Rattle.std.proofs.Common.{length, pos, refl, sym, ◌∙◌, subst, get_or}
use Rattle.std.specs.Prelude.{IsTrue}
use Rattle.um_units.specs.declared.Atom.TheVariants.{Base}
use Rattle.um_units.specs.declared.Term.{Term}
use Rattle.um_units.specs.Variables.{atom_below}
use Rattle.um_tree.specs.Scheme.{atom_variables}
use Rattle.um_proof.proofs.HeldVariables.{marked_none, marked_more, passes}
use Rattle.um_proof.proofs.renaming.mark_terms.Goals as goal

abbrev some : Term
some = record { atom = Base 0; power = pos 0 }

pub loop-term-init : goal.loop-term-init
loop-term-init c = record {
  count = refl;
  marks = marked_none (λ (t : Term). atom_variables t.atom) c.args.marks.now.items;
}

pub mark_atom-requires : goal.mark_atom-requires
mark_atom-requires c =
    subst (λ n. IsTrue (atom_below n (get_or c.args.terms.now c.loop-term.term-index some).atom)) (sym c.loop-term.invariant.count)
    (passes (λ (t : Term). atom_below (length c.args.marks.now.items) t.atom) c.args.terms.now c.loop-term.term-index some c.loop-term-test.true c.requires)

pub loop-term-preserved : goal.loop-term-preserved
loop-term-preserved c = record {
  count = c.mark_atom.ensures.count ∙ c.loop-term.invariant.count;
  marks = marked_more (λ (t : Term). atom_variables t.atom) c.args.marks.now.items c.loop-term.marks.items c.mark_atom.new.marks.items c.args.terms.now c.loop-term.term-index some c.loop-term-test.true c.loop-term.invariant.marks c.mark_atom.ensures.marks;
}
