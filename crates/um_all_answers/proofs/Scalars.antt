-- The characters of identifiers are characters of Unicode.
use Rattle.std.proofs.Common.{◌≡◌, ℕ, Bool, true, false, cond, not, ◌&&◌, ◌||◌, ◌==◌, nat_lt, nat_le, List, [], ◌∷◌, refl, sym, ap, subst, ◌∙◌, arith, inl, inr, ◌⊎◌, ◌<◌, ◌≤◌, lt-ltb, le-ltb, le-leb}
use Rattle.std.proofs.lemmas.Bool.{cases_lt, lt-leb, and_from, or_cases, eqb-true}
use lib.Utf8.{scalar, scalars, low_scalar}
use Rattle.ucd_table.specs.Steps.{step_value}
use Rattle.ucd_table.proofs.Stepped.{Stepped, zip_stepped}
use Rattle.ucd_table.proofs.Facts.{Stepped-everywhere}
use Rattle.ucd_derived.proofs.BinaryLemmas.{is_xid_continue_stepped}
use Rattle.unicode_ident.specs.Ident.{is_xid_start, is_xid_continue}
use Rattle.unicode_ident.proofs.Computing.{unicode_ident}
use Rattle.unicode_ident.proofs.IdentLemmas.{is_xid_start-is_xid_continue}
use Rattle.um_tree.specs.Formed.{starts_name, AllContinue, IsIdentifier}

below_or_not : (c : ℕ) → nat_lt c 57344 ≡ not (nat_le 57344 c)
below_or_not c = by (cases_lt c 57344) where
  by : (c < 57344) ⊎ (57344 ≤ c) → nat_lt c 57344 ≡ not (nat_le 57344 c)
  by (inl h) = lt-ltb c 57344 h ∙ sym (ap not (lt-leb 57344 c h))
  by (inr h) = le-ltb c 57344 h ∙ sym (ap not (le-leb 57344 c h))

as_steps : (low below from end : Bool) → below ≡ not from → cond low true (from && end) ≡ cond low true (cond below false (cond end true false))
as_steps true below from end h = refl
as_steps false true true end h = absurd cc
as_steps false true false end h = refl
as_steps false false true true h = refl
as_steps false false true false h = refl
as_steps false false false end h = absurd cc

gives_scalar : (c : ℕ) → scalar c ≡ step_value false ((55296, true) ∷ (57344, false) ∷ (1114112, true) ∷ []) c
unfolding step_value
gives_scalar c = as_steps (nat_lt c 55296) (nat_lt c 57344) (nat_le 57344 c) (nat_lt c 1114112) (below_or_not c)

-- all numbers below the surrogates, and those behind them up to the last code point
abbrev scalar_stepped : Stepped scalar
scalar_stepped = record {
  default = false;
  steps = (55296, true) ∷ (57344, false) ∷ (1114112, true) ∷ [];
  gives = gives_scalar;
}

continues-scalar : (c : ℕ) → is_xid_continue c ≡ true → scalar c ≡ true
unfolding unicode_ident
continues-scalar c continues =
    let both = zip_stepped (λ a b. not a || b) is_xid_continue scalar is_xid_continue_stepped scalar_stepped in
    subst (λ a. (not a || scalar c) ≡ true) continues (Stepped-everywhere _ both refl c)

starts-scalar : (c : ℕ) → starts_name c ≡ true → scalar c ≡ true
starts-scalar c h = by (or_cases (c == 95) (is_xid_start c) h) where
  by : ((c == 95) ≡ true) ⊎ (is_xid_start c ≡ true) → scalar c ≡ true
  by (inl e) = let is : c ≡ 95 = eqb-true c 95 e in low_scalar c (omega arith)
  by (inr e) = continues-scalar c (is_xid_start-is_xid_continue c e)

all-scalars : (cs : List ℕ) → AllContinue cs → scalars cs ≡ true
all-scalars [] h = refl
all-scalars (c ∷ cs) h = and_from (scalar c) (scalars cs) (continues-scalar c h.0) (all-scalars cs h.1)

pub identifier-scalars : (cs : List ℕ) → IsIdentifier cs → scalars cs ≡ true
identifier-scalars [] h = absurd h
identifier-scalars (c ∷ cs) h = and_from (scalar c) (scalars cs) (starts-scalar c h.0) (all-scalars cs h.1)
