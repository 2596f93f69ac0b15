-- One part after another, as their names are added.
use Rattle.std.proofs.Common.{◌≡◌, ℕ, Bool, true, false, cond, List, [], Some, None, refl, ap, ◌∙◌}
use Rattle.std.specs.Prelude.{is_some}
use Rattle.std.specs.Option.{option_and_then}
use Rattle.um_sizes.specs.Parts.{cut, parts_of}
use Rattle.um_sizes.specs.Adding.{name_after, names_after}
use Rattle.um_sizes.proofs.Cuts.{parts_cut, parts_last}

pub add_next : (names ns : List (List ℕ)) (rest part more : List ℕ) (b : Bool) → cut 44 rest ≡ Some (part, more)
    → name_after names part ≡ cond b (Some ns) None → names_after names (parts_of rest) ≡ cond b (names_after ns (parts_of more)) None
add_next names ns rest part more b here e =
    ap (names_after names) (parts_cut rest part more here) ∙ ap (option_and_then (λ xs. names_after xs (parts_of more))) e ∙ by b where
      by : (b : Bool) → option_and_then (λ xs. names_after xs (parts_of more)) (cond b (Some ns) None) ≡ cond b (names_after ns (parts_of more)) None
      by true = refl
      by false = refl

pub add_last : (names ns : List (List ℕ)) (rest : List ℕ) (b : Bool) → cut 44 rest ≡ None
    → name_after names rest ≡ cond b (Some ns) None → is_some (names_after names (parts_of rest)) ≡ b
add_last names ns rest b here e =
    ap (λ ps. is_some (names_after names ps)) (parts_last rest here) ∙ ap (λ o. is_some (option_and_then (λ xs. names_after xs []) o)) e ∙ by b where
      by : (b : Bool) → is_some (option_and_then (λ xs. names_after xs []) (cond b (Some ns) None)) ≡ b
      by true = refl
      by false = refl
