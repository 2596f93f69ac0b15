-- Names, by their first character and by all of them.
use Rattle.std.proofs.Common.{◌≡◌, ℕ, Bool, true, false, ◌&&◌, ◌||◌, eqb, List, [], ◌∷◌, Some, None, refl, sym, ap, subst, arith, eqb-true}
use Rattle.std.specs.Prelude.{slice_get}
use Rattle.std.specs.List.{list_all}
use Rattle.unicode_ident.specs.Ident.{is_xid_start, is_xid_continue}
use Rattle.unicode_ident.proofs.IdentLemmas.{is_xid_continue-ascii, is_xid_start-is_xid_continue}
use Rattle.um_syntax.specs.Lexeme.{begins}
use Rattle.um_tree.specs.Formed.{starts_name}
use Rattle.um_sizes.specs.NameTexts.{is_identifier}

-- what may begin a name may continue one
goes_on : (c : ℕ) → starts_name c ≡ true → is_xid_continue c ≡ true
goes_on c starts = by (eqb c 95) refl starts where
  by : (b : Bool) → eqb c 95 ≡ b → (b || is_xid_start c) ≡ true → is_xid_continue c ≡ true
  by true e h = subst (λ d. is_xid_continue d ≡ true) (sym (eqb-true c 95 e)) (is_xid_continue-ascii 95 (omega arith))
  by false e h = is_xid_start-is_xid_continue c h

pub begins_and_continues : (cs : List ℕ) → (begins starts_name cs && list_all is_xid_continue cs) ≡ is_identifier cs
begins_and_continues [] = refl
begins_and_continues (c ∷ cs) = by (starts_name c) refl where
  by : (b : Bool) → starts_name c ≡ b → (b && (is_xid_continue c && list_all is_xid_continue cs)) ≡ (b && list_all is_xid_continue cs)
  by true e = ap (λ x. x && list_all is_xid_continue cs) (goes_on c e)
  by false e = refl

pub first_begins : (cs : List ℕ) (c : ℕ) → Some c ≡ slice_get cs 0 → starts_name c ≡ begins starts_name cs
first_begins [] c e = absurd (cc e)
first_begins (d ∷ cs) c e = let same : c ≡ d = cc e in ap starts_name same

pub none_begins : (cs : List ℕ) → None ≡ slice_get cs 0 → false ≡ begins starts_name cs
none_begins [] e = refl
none_begins (d ∷ cs) e = absurd (cc e)
