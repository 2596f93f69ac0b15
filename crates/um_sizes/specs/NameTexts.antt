-- Which text is a name: as among the tokens of a program. Names by Unicode Standard Annex 31.
use Rattle.std.specs.Prelude.{ℕ, Bool, false, not, ◌&&◌, List, [], ◌∷◌, codes}
use Rattle.std.specs.List.{list_all, list_any}
use Rattle.std.specs.Str.{bytes_eq, chars}
use Rattle.unicode_ident.specs.Ident.{is_xid_continue}
use Rattle.um_tree.specs.Formed.{reserved_words, starts_name}

-- `_` or a character that may start an identifier, and then characters that may continue one
abbrev pub is_identifier : List ℕ → Bool
is_identifier [] = false
is_identifier (c ∷ cs) = starts_name c && list_all is_xid_continue cs

-- the bytes are those of a reserved word
abbrev pub is_reserved : List ℕ → Bool
is_reserved bytes = list_any (bytes_eq bytes) reserved_words

-- the bytes of an identifier that is neither a reserved word nor `_` alone
abbrev pub is_name : List ℕ → Bool
is_name bytes = is_identifier (chars bytes) && (not (bytes_eq bytes (codes "_")) && not (is_reserved bytes))
