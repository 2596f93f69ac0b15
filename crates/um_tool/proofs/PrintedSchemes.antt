-- What `types` and `code` printed say of the program that the bytes spell.
use Rattle.std.proofs.Common.{◌≡◌, ℕ, List, [], ◌∷◌, codes, slice_get, Some, refl, ap, sym, ◌∙◌, inl, inr}
use Rattle.um_tree.specs.ProgramTree.{FunctionTree, ProgramTree}
use Rattle.um_tree.specs.Formed.{IsFormed}
use Rattle.um_infer.specs.Inference.{Inference, all_schemes, stops_at_slots, stops_at_range, stops_at_units, stops_at_not_general, infer}
use Rattle.um_infer.specs.Schemes.{IsFirstWithoutUnits, IsFirstNotGeneral}
use Rattle.um_infer.proofs.InferenceLaws.{units_stop_at_first_untyped, not_general_stops_at_first_untyped}
use Rattle.um_orders.specs.declared.order.Order.TheVariants.{Types, Code}
use Rattle.um_orders.specs.Orders.{order_of}
use Rattle.um_reports.specs.declared.status.Status.TheVariants.{Done, Units, NotGeneral}
use Rattle.um_reports.specs.Refusals.{placed, units_label, not_general_label}
use Rattle.um_front.specs.Stages.{ShapedTree, IsShapedText}
use Rattle.um_front.specs.Refused.{IsUntypedReply, IsUnchecked}
use Rattle.um_front.proofs.CheckedTexts.{shaped_is_formed, schemes_are_principal}
use Rattle.um_front.proofs.RefusalStatuses.{unshaped_early}
use Rattle.um_front.proofs.StageLaws.{checked_reached}
use Rattle.um_answers.specs.TypesAnswer.{IsSchemeList, TypesAnswer}
use Rattle.um_answers.specs.CodeAnswer.{IsListing, CodeAnswer}
use Rattle.um_tool.specs.Answer.{Answer}
use Rattle.um_tool.specs.Laws.{PrintedTypesArePrincipalSchemes, UnitsNameTheFirstUntyped, NotGeneralNamesTheFirstUntyped}
use Rattle.um_tool.specs.CallLaws.{PrintedCodeIsTheProgramsCode}

pub types_ordered : order_of (codes "types" ∷ []) ≡ Some Types
unfolding order_of
types_ordered = refl

code_ordered : order_of (codes "code" ∷ []) ≡ Some Code
unfolding order_of
code_ordered = refl

pub printed_types_are_principal_schemes : PrintedTypesArePrincipalSchemes
unfolding Answer TypesAnswer
printed_types_are_principal_schemes bytes text answer =
    let given : TypesAnswer bytes text Done = rw types_ordered at answer in
    let r = checked_reached IsSchemeList bytes text Done refl given in
    (r.0, r.1, schemes_are_principal bytes r.0 r.1, r.2.0)

-- ---- the first function without a typing

-- the function that is declared at a number is one
pub one_function : (p : ProgramTree) (i : ℕ) (f g : FunctionTree) → slice_get p.functions i ≡ Some f → slice_get p.functions i ≡ Some g → f ≡ g
one_function p i f g a b = let e : Some f ≡ Some g = sym a ∙ b in cc e

module _ (bytes text : List ℕ) where
  abbrev IsUntypedAt : ProgramTree → Type 0
  IsUntypedAt p = (i row at : ℕ) × (untyped : IsFirstWithoutUnits p i row at) × (text ≡ placed (units_label untyped.0.function.name) bytes at)

  untyped_named : (p : ProgramTree) → IsFormed p → (inferred : Inference) → infer p ≡ inferred → IsUntypedReply bytes text Units p inferred → IsUntypedAt p
  untyped_named p formed (all_schemes schemes) is reply = absurd reply
  untyped_named p formed (stops_at_slots i) is reply = absurd (cc reply.2.1)
  untyped_named p formed (stops_at_range i at) is reply = absurd (cc reply.2.1)
  untyped_named p formed (stops_at_not_general i row at) is reply = absurd (cc reply.2.1)
  untyped_named p formed (stops_at_units i row at) is (f, declared, reply) =
      let u = units_stop_at_first_untyped p formed i row at is in
      (i, row, at, u, reply.0 ∙ ap (λ g. placed (units_label g.name) bytes at) (one_function p i f u.0.function declared u.0.declared))

  abbrev IsLessGeneralAt : ProgramTree → Type 0
  IsLessGeneralAt p = (i row at : ℕ) × (untyped : IsFirstNotGeneral p i row at) × (text ≡ placed (not_general_label untyped.0.function.name) bytes at)

  less_general_named : (p : ProgramTree) → IsFormed p → (inferred : Inference) → infer p ≡ inferred → IsUntypedReply bytes text NotGeneral p inferred → IsLessGeneralAt p
  less_general_named p formed (all_schemes schemes) is reply = absurd reply
  less_general_named p formed (stops_at_slots i) is reply = absurd (cc reply.2.1)
  less_general_named p formed (stops_at_range i at) is reply = absurd (cc reply.2.1)
  less_general_named p formed (stops_at_units i row at) is reply = absurd (cc reply.2.1)
  less_general_named p formed (stops_at_not_general i row at) is (f, declared, reply) =
      let u = not_general_stops_at_first_untyped p formed i row at is in
      (i, row, at, u, reply.0 ∙ ap (λ g. placed (not_general_label g.name) bytes at) (one_function p i f u.0.function declared u.0.declared))

  units_of : TypesAnswer bytes text Units → (s : ShapedTree) × IsShapedText bytes s × IsUntypedAt s.program
  unfolding TypesAnswer IsUnchecked
  units_of (inl (c, is, reply)) = absurd (cc reply.1)
  units_of (inr (inl unshaped)) = absurd (let early = unshaped_early bytes text Units unshaped in cc early)
  units_of (inr (inr (s, shaped, reply))) = (s, shaped, untyped_named s.program (shaped_is_formed bytes s shaped) (infer s.program) refl reply)

  not_general_of : TypesAnswer bytes text NotGeneral → (s : ShapedTree) × IsShapedText bytes s × IsLessGeneralAt s.program
  unfolding TypesAnswer IsUnchecked
  not_general_of (inl (c, is, reply)) = absurd (cc reply.1)
  not_general_of (inr (inl unshaped)) = absurd (let early = unshaped_early bytes text NotGeneral unshaped in cc early)
  not_general_of (inr (inr (s, shaped, reply))) = (s, shaped, less_general_named s.program (shaped_is_formed bytes s shaped) (infer s.program) refl reply)

pub units_name_the_first_untyped : UnitsNameTheFirstUntyped
unfolding Answer
units_name_the_first_untyped bytes text answer =
    let given : TypesAnswer bytes text Units = rw types_ordered at answer in
    units_of bytes text given

pub not_general_names_the_first_untyped : NotGeneralNamesTheFirstUntyped
unfolding Answer
not_general_names_the_first_untyped bytes text answer =
    let given : TypesAnswer bytes text NotGeneral = rw types_ordered at answer in
    not_general_of bytes text given

-- ---- the code
pub printed_code_is_the_programs_code : PrintedCodeIsTheProgramsCode
unfolding Answer CodeAnswer
printed_code_is_the_programs_code bytes text answer =
    let given : CodeAnswer bytes text Done = rw code_ordered at answer in
    let r = checked_reached IsListing bytes text Done refl given in
    (r.0, r.1, r.2.0)
