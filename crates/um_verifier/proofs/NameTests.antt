-- The test of names.
use Rattle.std.proofs.Common.{◌≡◌, ℕ, zero, suc, ◌+◌, ◌<◌, Bool, true, false, cond, not, ◌&&◌, List, [], ◌∷◌, length, get_or, drop, Some, slice_get, refl, sym, ap, subst, ◌∙◌}
use Rattle.std.specs.Bool.{MatchBool}
use Rattle.std.specs.Str.{chars, IsUtf8, bytes_eq, encode_utf8_all}
use Rattle.std.proofs.lemmas.Bool.{both_ways}
use Rattle.std.proofs.lemmas.List.{drop_more}
use Rattle.std.proofs.lemmas.Str.{encodes-chars, encodes_same}
use Rattle.std.proofs.lemmas.Slice.Eq.{bytes_eq-Decides}
use Rattle.unicode_ident.specs.Ident.{is_xid_continue}
use Rattle.um_tree.specs.Formed.{starts_name, AllContinue, IsIdentifier, IsNameBytes}
use Rattle.um_verifier.specs.Names.{goes_on, reads, no_names, is_one_of}
use Rattle.um_verifier.proofs.Scalars.{identifier-scalars}

-- ---- the rest of an identifier

-- the next character of those that are left
pub drop_next : (cs : List ℕ) (n c : ℕ) → (n < length cs) × (c ≡ get_or cs n c) → drop n cs ≡ c ∷ drop (n + 1) cs
drop_next cs n c h = drop_more cs n c h.0 ∙ ap (λ x. x ∷ drop (n + 1) cs) (sym h.1)

pub reads_on : (some : Bool) (cs : List ℕ) (n c : ℕ) (b : Bool) → drop n cs ≡ c ∷ drop (n + 1) cs → goes_on some c ≡ true → reads some (drop n cs) ≡ b → reads true (drop (n + 1) cs) ≡ b
reads_on some cs n c b d g h = sym (ap (λ (t : Bool). cond t (reads true (drop (n + 1) cs)) false) g) ∙ ap (reads some) (sym d) ∙ h

pub reads_no_more : (some : Bool) (cs : List ℕ) (n c : ℕ) (b : Bool) → drop n cs ≡ c ∷ drop (n + 1) cs → goes_on some c ≡ false → reads some (drop n cs) ≡ b → false ≡ b
reads_no_more some cs n c b d g h = sym (ap (λ (t : Bool). cond t (reads true (drop (n + 1) cs)) false) g) ∙ ap (reads some) (sym d) ∙ h

first : (b c : Bool) → cond b c false ≡ true → b ≡ true
first true c h = refl
first false c h = absurd cc

rest : (b c : Bool) → cond b c false ≡ true → c ≡ true
rest true c h = h
rest false c h = absurd cc

pass : (b c : Bool) → b ≡ true → c ≡ true → cond b c false ≡ true
pass true c h k = k
pass false c h k = absurd cc

read_continues : (cs : List ℕ) → reads true cs ≡ true → AllContinue cs
read_continues [] h = tt
read_continues (c ∷ cs) h = (first (is_xid_continue c) (reads true cs) h, read_continues cs (rest (is_xid_continue c) (reads true cs) h))

continues_read : (cs : List ℕ) → AllContinue cs → reads true cs ≡ true
continues_read [] h = refl
continues_read (c ∷ cs) h = pass (is_xid_continue c) (reads true cs) h.0 (continues_read cs h.1)

is_identifier : (cs : List ℕ) → reads false cs ≡ true → IsIdentifier cs
is_identifier [] h = absurd cc
is_identifier (c ∷ cs) h = (first (starts_name c) (reads true cs) h, read_continues cs (rest (starts_name c) (reads true cs) h))

identifier_read : (cs : List ℕ) → IsIdentifier cs → reads false cs ≡ true
identifier_read [] h = absurd h
identifier_read (c ∷ cs) h = pass (starts_name c) (reads true cs) h.0 (continues_read cs h.1)

-- ---- words

-- each is its own text
abbrev AreOwn : List (List ℕ) → Type 0
AreOwn [] = Unit {0}
AreOwn (w ∷ ws) = (encode_utf8_all w ≡ w) × AreOwn ws

own : AreOwn no_names
unfolding lib.Utf8.encode
own = (refl, (refl, (refl, (refl, (refl, (refl, (refl, (refl, (refl, (refl, (refl, (refl, (refl, (refl, (refl, (refl, (refl, (refl, tt))))))))))))))))))

among_at : (ws : List (List ℕ)) → AreOwn ws → (k : ℕ) (text bytes : List ℕ) → slice_get ws k ≡ Some text → bytes ≡ encode_utf8_all text → is_one_of ws bytes ≡ true
among_at [] all zero text bytes e s = absurd cc
among_at [] all (suc k) text bytes e s = absurd cc
among_at (w ∷ ws) all zero text bytes e s =
    let same : w ≡ text = cc e in
    let is : bytes ≡ w = s ∙ ap encode_utf8_all (sym same) ∙ all.0 in
    ap (λ (b : Bool). cond b true (is_one_of ws bytes)) ((bytes_eq-Decides bytes w).1 is)
among_at (w ∷ ws) all (suc k) text bytes e s = either (bytes_eq bytes w) (among_at ws all.1 k text bytes e s) where
  either : (b : Bool) → is_one_of ws bytes ≡ true → cond b true (is_one_of ws bytes) ≡ true
  either true h = refl
  either false h = h

-- one of these words is the text
abbrev IsAt : List (List ℕ) → List ℕ → Type 0
IsAt ws text = (k : ℕ) × (slice_get ws k ≡ Some text)

at_among : (ws : List (List ℕ)) → AreOwn ws → (text bytes : List ℕ) → bytes ≡ encode_utf8_all text → is_one_of ws bytes ≡ true → IsAt ws text
at_among [] all text bytes s h = absurd cc
at_among (w ∷ ws) all text bytes s h = by (at_among ws all.1 text bytes s) (bytes_eq bytes w) refl h where
  by : (is_one_of ws bytes ≡ true → IsAt ws text) → (b : Bool) → bytes_eq bytes w ≡ b → cond b true (is_one_of ws bytes) ≡ true → IsAt (w ∷ ws) text
  by later true e h =
      let is : bytes ≡ w = (bytes_eq-Decides bytes w).0 e in
      let same : w ≡ text = encodes_same w text (all.0 ∙ sym is ∙ s) in
      (zero, ap Some same)
  by later false e h = let r = later h in (suc r.0, r.1)

-- ---- names

pub no_text : (bytes : List ℕ) → ¬ (IsUtf8 bytes) → IsNameBytes bytes → ⊥
no_text bytes h n = h (n.text, (identifier-scalars n.text n.identifier, sym n.is))

pub not_name : (bytes : List ℕ) → reads false (chars bytes) ≡ false → IsUtf8 bytes → IsNameBytes bytes → ⊥
not_name bytes h u n =
    let same : n.text ≡ chars bytes = encodes_same n.text (chars bytes) (sym n.is ∙ sym (encodes-chars bytes u)) in
    both_ways (reads false (chars bytes)) h (ap (reads false) (sym same) ∙ identifier_read n.text n.identifier)

reserved_no_name : (bytes : List ℕ) → is_one_of no_names bytes ≡ true → IsNameBytes bytes → ⊥
reserved_no_name bytes h n = found (at_among no_names own n.text bytes n.is h) where
  found : IsAt no_names n.text → ⊥
  found (zero, e) = n.no_hole (sym (cc e))
  found (suc k, e) = n.no_word k e

named : (bytes : List ℕ) → IsUtf8 bytes → reads false (chars bytes) ≡ true → is_one_of no_names bytes ≡ false → IsNameBytes bytes
named bytes u h k = record {
  text = chars bytes;
  is = sym (encodes-chars bytes u);
  identifier = is_identifier (chars bytes) h;
  no_hole = λ e. both_ways (is_one_of no_names bytes) k (among_at no_names own 0 (chars bytes) bytes (ap Some (sym e)) (sym (encodes-chars bytes u)));
  no_word = λ j e. both_ways (is_one_of no_names bytes) k (among_at no_names own (suc j) (chars bytes) bytes e (sym (encodes-chars bytes u)));
}

name_test : (bytes : List ℕ) → IsUtf8 bytes → (b c : Bool) → b ≡ reads false (chars bytes) → c ≡ is_one_of no_names bytes → MatchBool (b && not c) (IsNameBytes bytes) (IsNameBytes bytes → ⊥)
name_test bytes u true true h k = λ n. reserved_no_name bytes (sym k) n
name_test bytes u true false h k = named bytes u (sym h) (sym k)
name_test bytes u false c h k = λ n. not_name bytes (sym h) u n

pub text_test : (bytes text : List ℕ) → text ≡ bytes → IsUtf8 bytes → (b : Bool) → b ≡ (reads false (chars text) && not (is_one_of no_names text)) → MatchBool b (IsNameBytes bytes) (IsNameBytes bytes → ⊥)
text_test bytes text e u b h =
    let is : (reads false (chars bytes) && not (is_one_of no_names bytes)) ≡ b = sym (h ∙ ap (λ (t : List ℕ). reads false (chars t) && not (is_one_of no_names t)) e) in
    subst (λ (b : Bool). MatchBool b (IsNameBytes bytes) (IsNameBytes bytes → ⊥)) is (name_test bytes u (reads false (chars bytes)) (is_one_of no_names bytes) refl refl)
