-- Whether a character may go on a name, by the first character of a text.
use Rattle.std.proofs.Common.{◌≡◌, ℕ, false, List, [], ◌∷◌, Some, None, refl, ap}
use Rattle.std.specs.Prelude.{slice_get}
use Rattle.unicode_ident.specs.Ident.{is_xid_continue}
use Rattle.um_syntax.specs.Lexeme.{begins}

pub first_begins : (cs : List ℕ) (c : ℕ) → Some c ≡ slice_get cs 0 → is_xid_continue c ≡ begins is_xid_continue cs
first_begins [] c e = absurd (cc e)
first_begins (d ∷ cs) c e = let same : c ≡ d = cc e in ap is_xid_continue same

pub none_begins : (cs : List ℕ) → None ≡ slice_get cs 0 → false ≡ begins is_xid_continue cs
none_begins [] e = refl
none_begins (d ∷ cs) e = absurd (cc e)
