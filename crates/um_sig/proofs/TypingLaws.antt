-- What an answer says of the typings of a function, whose scheme it is.
-- Source: Kennedy (1996): a function's scheme has exactly its typings as instances; Kennedy (1997): a homomorphism of units
-- that leaves what is declared keeps typings.
use Rattle.std.proofs.Common.{◌≡◌, ℕ, ◌+◌, List, [], ◌∷◌, map, length, refl, sym, ap, ◌∙◌, subst}
use Rattle.std.specs.Prelude.{Ok, Err}
use Rattle.std.proofs.lemmas.List.{map-append}
use Rattle.um_units.specs.PowerMap.{PowerMap}
use Rattle.um_units.specs.Variables.{IsClosed}
use Rattle.um_tree.specs.TypeTree.{TypeTree}
use Rattle.um_tree.specs.ProgramTree.{ProgramTree, Signature, SchemeTree}
use Rattle.um_tree.specs.Typing.{put, put_signature, moved, moved_signature, parameter_unit, Typing}
use Rattle.um_tree.specs.Scheme.{signature_types, IsPrincipal}
use Rattle.um_tree.specs.Formed.{BasesBelow, IsFormed}
use Rattle.um_tree.specs.Laws.{ProgramHas, Leaves, Fixes}
use Rattle.um_tree.proofs.TypingLaws.{homomorphisms_keep_typings, closed_units_are_fixed}
use Rattle.um_tree.proofs.WrittenUnits.{program_has_both, formed_units_are_declared}
use Rattle.um_elim.specs.Numbering.{IsInstanceOf}
use Rattle.um_sig.specs.declared.stop.SigStop.TheVariants as stop
use Rattle.um_sig.specs.Matching.{fixed_type}
use Rattle.um_sig.specs.Instances.{scheme_types, AreTypesOfTyping, AreAllTypings, AreOverBases}
use Rattle.um_sig.specs.Laws.{AnswersSayWhatTypingsAre}
use Rattle.um_sig.proofs.FixedSignatures.{unfixed, unfixed-mul, unfixed-parameter, leaves_declared, types_unfixed}
use Rattle.um_sig.proofs.InstanceLaws.{fixed_instance, fixed_from_matched, first_unmatched, matched_up_to, no_difference}

types_put : (s : ℕ → PowerMap) (g : Signature) → signature_types (put_signature s g) ≡ map (put s) (signature_types g)
types_put s g = sym (map-append (put s) g.params (g.result ∷ []))

types_moved : (h : PowerMap → PowerMap) (g : Signature) → signature_types (moved_signature h g) ≡ map (moved h) (signature_types g)
types_moved h g = sym (map-append (moved h) g.params (g.result ∷ []))

module _ (p : ProgramTree) (i : ℕ) (s : SchemeTree) (types : List TypeTree) (principal : IsPrincipal p i s) where
  abbrev b : ℕ
  b = length p.bases

  -- where all instances are typings, the fixed signature is an instance of the scheme
  pub fixed_from_typings : AreAllTypings p i types → IsInstanceOf (scheme_types s) (map (fixed_type (length p.bases)) types)
  fixed_from_typings all =
      let w = all (map (fixed_type b) types) (fixed_instance b (scheme_types s) types) in
      let h = (principal.instances w.0).0 w.2 in
      (h.0, sym w.1 ∙ ap signature_types h.1 ∙ types_put h.0 s.signature)

  -- and back
  module _ (formed : IsFormed p) (low : AreOverBases (length p.bases) types) (has : IsInstanceOf (scheme_types s) (map (fixed_type (length p.bases)) types)) (units : ℕ → PowerMap) where
    abbrev change : PowerMap → PowerMap
    change = unfixed (length p.bases) units

    abbrev fixed_signature : Signature
    fixed_signature = put_signature has.0 s.signature

    -- it leaves what the program writes
    left : ProgramHas (Leaves change) (Fixes change) p i
    left =
        let declared = formed_units_are_declared p i formed in
        program_has_both (BasesBelow b) (BasesBelow b) (Leaves change) (λ u. IsClosed u × BasesBelow b u) (λ u. IsClosed u × BasesBelow b u) (Fixes change)
        (λ u v w. leaves_declared b units u v)
        (λ u v w. closed_units_are_fixed change u (unfixed-mul b units) (leaves_declared b units u v.1) v.0)
        p i declared declared

    typed : Typing p i (moved_signature change fixed_signature)
    typed =
        homomorphisms_keep_typings p i fixed_signature change (formed_units_are_declared p i formed) (unfixed-mul b units) left
        ((principal.instances fixed_signature).1 (has.0, refl))

    pub instance_typed : AreTypesOfTyping p i (map (put units) types)
    instance_typed = (
      moved_signature change fixed_signature,
      types_moved change fixed_signature
          ∙ ap (map (moved change)) (types_put has.0 s.signature ∙ sym has.1)
          ∙ types_unfixed b units (parameter_unit b) units (unfixed-parameter b units) types low,
      typed,
    )

pub answers_say_what_typings_are : AnswersSayWhatTypingsAre
answers_say_what_typings_are p i s types (Ok x) formed principal low is =
    let has = fixed_from_matched (length p.bases) (scheme_types s) types s.vars principal.below is.0 is.1.0 is.1.1 in
    λ ts w. subst (AreTypesOfTyping p i) (sym w.1) (instance_typed p i s types principal formed low has w.0)
answers_say_what_typings_are p i s types (Err (stop.Form k)) formed principal low is =
    λ all. no_difference (length p.bases) (scheme_types s) types k is (fixed_from_typings p i s types principal all)
answers_say_what_typings_are p i s types (Err (stop.Units k)) formed principal low is =
    let first = first_unmatched (length p.bases) (scheme_types s) types s.vars principal.below is.0 k is.1 in
    λ all. first.through (matched_up_to (length p.bases) (scheme_types s) types (k + 1) (fixed_from_typings p i s types principal all))
answers_say_what_typings_are p i s types (Err (stop.Range k)) formed principal low is = tt
answers_say_what_typings_are p i s types (Err stop.NoMemory) formed principal low is = tt
