-- The agreements that are told, by their numbered types.
use Rattle.std.proofs.Common.{◌≡◌, ℕ, suc, ◌+◌, ◌-◌, ◌*◌, ◌<◌, ◌≤◌, cond, nat_lt, List, [], ◌∷◌, ◌++◌, map, drop, length, get_or, Option, Some, None, refl, sym, ap, ◌∙◌, subst, arith}
use Rattle.std.specs.Prelude.{All}
use Rattle.std.specs.List.{range_with_len}
use Rattle.std.proofs.lemmas.Bool.Decides.{nat_tests}
use Rattle.std.proofs.lemmas.Grind.{flat_map-append}
use Rattle.std.proofs.lemmas.List.{length-append, length-map, drop-map}
use Rattle.std.proofs.lemmas.List.Elements.{All-nil, All-append, All-weaker}
use Rattle.um_units.specs.declared.Atom.TheVariants.{Var}
use Rattle.um_units.specs.PowerMap.{atom}
use Rattle.um_tree.specs.TypeTree.{TypeTree, num_type, type_tree}
use Rattle.um_tree.specs.Typing.{put}
use Rattle.um_tree.specs.Scheme.{type_variables, unit_variables, variables}
use Rattle.um_elim.specs.Numbering.{by_place, variable_order}
use Rattle.um_elim.proofs.Cases.{on_test}
use Rattle.um_elim.proofs.VariablesKept.{own_below, unit_all}
use Rattle.um_agree.specs.Agreements.{Agreement}
use Rattle.um_infer.proofs.GeneralSteps.{types_stay}
use Rattle.um_unit_reasons.specs.declared.failing.Failing.{Failing}
use Rattle.um_unit_reasons.specs.declared.named.Named.{Named}
use Rattle.um_unit_reasons.specs.declared.texts.Numbering.{Numbering}
use Rattle.um_unit_reasons.specs.VariableNames.{written, with_variable, named_from, letters}
use Rattle.um_unit_reasons.specs.TypeTexts.{named_types, variable_count, told}
use Rattle.um_unit_reasons.specs.UnitReasons.{Refusal, types_of, own_variable, own_named, other_named, own_types, free_of, told_types}
use Rattle.um_unit_reasons.specs.Answers.{IsNumberingOf, IsLow, HaveSlots, refusal_of}
use Rattle.um_unit_reasons.proofs.LoopSteps.{own_at}
use Rattle.um_unit_reasons.proofs.NamedSteps.{named_alike}

-- ---- small variables
named_low : (variable : ℕ → Option ℕ) (n : ℕ) → ((v s : ℕ) → variable v ≡ Some s → s < n) → (v : ℕ) (names : List (List ℕ)) → All (λ k. k < n) (variables (named_types (named_from variable v names)))
named_low variable n low v [] = All-nil (λ k. k < n)
named_low variable n low v (x ∷ names) = by (variable v) refl (named_low variable n low (suc v) names) where
  rest : List Named
  rest = named_from variable (suc v) names

  by : (o : Option ℕ) → variable v ≡ o → All (λ k. k < n) (variables (named_types rest)) → All (λ k. k < n) (variables (named_types (with_variable o x rest)))
  by None e others = others
  by (Some k) e others = All-append (λ j. j < n) (unit_variables (atom (Var k))) (variables (named_types rest)) (unit_all n (atom (Var k)) (own_below n k (low v k e))) others

pub all_small : (n : ℕ) → n ≤ 4294967295 → (ts us : List TypeTree) → All (λ k. k < n) (variables ts) → All (λ k. k < n) (variables us) → All (λ k. k < 4294967295) (variables (ts ++ us))
all_small n small ts us a b =
    All-weaker (λ k. k < n) (λ k. k < 4294967295) (λ k h. omega (arith, h, small)) (variables (ts ++ us))
    (subst (All (λ k. k < n)) (sym (flat_map-append type_variables ts us)) (All-append (λ k. k < n) (variables ts) (variables us) a b))

own_bound : (slots parameters : ℕ) (v s : ℕ) → cond (nat_lt v parameters) (Some (slots + v)) None ≡ Some s → s < slots + parameters
own_bound slots parameters v s e =
    on_test (nat_lt v parameters)
    (λ t.
    let there = subst (λ b. cond b (Some (slots + v)) None ≡ Some s) t e in
    let same : slots + v ≡ s = cc there in
    let inside : v < parameters = grind (arith, nat_tests, t) in
    omega (arith, same, inside))
    (λ t. let none = subst (λ b. cond b (Some (slots + v)) None ≡ Some s) t e in absurd (cc none))

module _ (x : Failing) (low : IsLow x) (agreed : List Agreement) where
  abbrev pub R : Refusal
  R = refusal_of x agreed

  abbrev pub n : ℕ
  n = x.found.now.rows.slots + x.parameters

  small : n ≤ 4294967295
  small = let a = low.few in let b = low.parameters in omega (arith, a, b)

  -- the named variables that the code has
  pub own_are : (variables : List (Option ℕ)) → variables ≡ map Some (range_with_len x.found.now.rows.slots x.parameters) → (named : List Named) → named ≡ named_from (λ v. get_or variables v None) 0 x.names.now → named ≡ own_named R
  own_are variables is named are =
      are
      ∙ named_alike (λ v. get_or variables v None) (own_variable R) (λ v. ap (λ vs. get_or vs v None) is ∙ own_at x.found.now.rows.slots x.parameters v) 0 x.names.now

  pub own_small : (named : List Named) → named ≡ own_named R → (types : List TypeTree) → All (λ k. k < n) (variables types) → All (λ k. k < 4294967295) (variables (named_types named ++ types))
  own_small named is types held =
      subst (λ ns. All (λ k. k < 4294967295) (variables (named_types ns ++ types))) (sym is)
      (all_small n small (named_types (own_named R)) types (named_low (own_variable R) n (own_bound x.found.now.rows.slots x.parameters) 0 x.names.now) held)

  pub other_small : (named : List Named) → named ≡ other_named R → (types : List TypeTree) → HaveSlots x types → All (λ k. k < 4294967295) (variables (named_types named ++ types))
  other_small named is types held =
      subst (λ ns. All (λ k. k < 4294967295) (variables (named_types ns ++ types))) (sym is)
      (all_small x.found.now.rows.slots (let few = low.few in omega (arith, few)) (named_types (other_named R)) types (named_low R.slot_of x.found.now.rows.slots low.slots_low 0 x.names.now) held)

  -- the two types with the unit parameters as variables
  pub own_held : (first second : TypeTree) → HaveSlots x (first ∷ second ∷ []) → All (λ k. k < n) (variables (own_types R first second))
  own_held first second held = types_stay (length R.program.bases) x.parameters x.found.now.rows.slots (first ∷ second ∷ []) held

-- ---- as many types as are numbered
pub length_numbered : (named : List Named) (types : List TypeTree) (m : Numbering) → IsNumberingOf named types m → length m.types.items.items ≡ length m.named.items + length types
length_numbered named types m h =
    let trees = length-map m.types.items.items type_tree in
    let all = ap length h.types_are in
    let renamed = length-map (named_types named ++ types) (put (by_place (variable_order (named_types named ++ types)))) in
    let parts = length-append (named_types named) types in
    let ones = length-map named (λ (k : Named). num_type (atom (Var k.variable))) in
    let same = ap length h.named_are in
    omega (arith, trees, all, renamed, parts, ones, same)

pub two_of_each : (agreed : List Agreement) → length (types_of agreed) ≡ 2 * length agreed
two_of_each [] = refl
two_of_each (a ∷ agreed) = let rest = two_of_each agreed in omega (arith, rest)

-- ---- all that is told
module _ (r : Refusal) (types : List TypeTree) (failed agreed : List Agreement) (own others : Numbering) (a : IsNumberingOf (own_named r) types own) (b : IsNumberingOf (other_named r) (types_of agreed) others)
    (texts : List (List ℕ)) (is : texts ≡ map written (letters r.names (own.count + others.count))) (used : ℕ) (used_is : used ≡ own.count - length own.named.items) where
  texts_are : texts ≡ map written (free_of r types (types_of agreed))
  texts_are = is ∙ (λ k. map written (letters r.names (a.counted k + b.counted k)))

  used_are : used ≡ variable_count (own_named r) types - length (own_named r)
  used_are = used_is ∙ (λ k. a.counted k - length (a.named_are k))

  left_are : drop used texts ≡ map written (drop (variable_count (own_named r) types - length (own_named r)) (free_of r types (types_of agreed)))
  left_are = (λ k. drop (used_are k) (texts_are k)) ∙ drop-map written (variable_count (own_named r) types - length (own_named r)) (free_of r types (types_of agreed))

  pub all_told :
      told r.program (map (λ (n : Named). n.text) own.named.items ++ texts) failed (map type_tree (drop (length own.named.items) own.types.items.items))
      ++ told r.program (map (λ (n : Named). n.text) others.named.items ++ drop used texts) agreed (map type_tree (drop (length others.named.items) others.types.items.items))
      ≡ told_types r types failed agreed
  all_told =
      (λ k.
      told r.program (map (λ (n : Named). n.text) own.named.items ++ texts) failed (sym (drop-map type_tree (length own.named.items) own.types.items.items) k)
      ++ told r.program (map (λ (n : Named). n.text) others.named.items ++ drop used texts) agreed (sym (drop-map type_tree (length others.named.items) others.types.items.items) k))
      ∙ (λ k.
      told r.program (map (λ (n : Named). n.text) (a.named_are k) ++ texts_are k) failed (drop (length (a.named_are k)) (a.types_are k))
      ++ told r.program (map (λ (n : Named). n.text) (b.named_are k) ++ left_are k) agreed (drop (length (b.named_are k)) (b.types_are k)))
