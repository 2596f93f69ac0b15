-- Lines, character by character.
use Rattle.std.proofs.Common.{◌≡◌, ◌≢◌, ℕ, ◌+◌, ◌-◌, ◌<◌, Bool, true, false, if◌then◌else◌, eqb, List, [], ◌∷◌, ◌++◌, length, map, take, get_or, refl, sym, ap, ◌∙◌, subst, arith, eq-eqb, ne_eqb}
use Rattle.std.specs.Prelude.{reverse}
use Rattle.std.specs.Char.{encode_utf8}
use Rattle.std.specs.Str.{encode_utf8_all}
use Rattle.std.proofs.lemmas.Str.{encodes-append}
use Rattle.std.proofs.lemmas.List.{append-nil, map-append, nil_from_length, reverse-append, take_all, take_more}
use Rattle.um_excerpt.specs.Excerpt.{shown}
use Rattle.um_excerpt.specs.SourceLine.{first_line, last_line, without_mark, without_return, line_before}

-- ---- one character more

line_more : (ys : List ℕ) (d : ℕ) → last_line (ys ++ d ∷ []) ≡ (if eqb d 10 then [] else last_line ys ++ d ∷ [])
line_more ys d = ap (λ r. reverse (first_line r)) (reverse-append ys (d ∷ [])) ∙ by (eqb d 10) where
  by : (t : Bool) → reverse (if t then [] else d ∷ first_line (reverse ys)) ≡ (if t then [] else last_line ys ++ d ∷ [])
  by true = refl
  by false = reverse-append (d ∷ []) (first_line (reverse ys))

mark_more : (c : ℕ) (ys : List ℕ) (d : ℕ) → without_mark (c ∷ ys ++ d ∷ []) ≡ without_mark (c ∷ ys) ++ d ∷ []
mark_more c ys d = by (eqb c 65279) where
  by : (t : Bool) → (if t then ys ++ d ∷ [] else c ∷ ys ++ d ∷ []) ≡ (if t then ys else c ∷ ys) ++ d ∷ []
  by true = refl
  by false = refl

-- a line feed begins a new line
pub line_ended : (ys : List ℕ) (d : ℕ) → d ≡ 10 → [] ≡ line_before (ys ++ d ∷ [])
line_ended [] d e = subst (λ x. [] ≡ line_before (x ∷ [])) (sym e) refl
line_ended (c ∷ ys) d e =
    sym (ap last_line (mark_more c ys d) ∙ line_more (without_mark (c ∷ ys)) d
    ∙ ap (λ t. if t then [] else last_line (without_mark (c ∷ ys)) ++ d ∷ []) (eq-eqb d 10 e))

-- a mark in front is left out
pub mark_dropped : (ys : List ℕ) (d : ℕ) → length ys ≡ 0 → d ≡ 65279 → line_before ys ≡ line_before (ys ++ d ∷ [])
mark_dropped [] d e m = subst (λ x. [] ≡ line_before (x ∷ [])) (sym m) refl
mark_dropped (c ∷ ys) d e m = absurd (omega (arith, e))

-- another character is added
pub line_added : (ys : List ℕ) (d : ℕ) → d ≢ 10 → (length ys ≡ 0 → d ≢ 65279) → line_before ys ++ d ∷ [] ≡ line_before (ys ++ d ∷ [])
line_added [] d n m =
    sym (ap last_line (ap (λ t. if t then [] else d ∷ []) (ne_eqb d 65279 (m refl))) ∙ line_more [] d
    ∙ ap (λ t. if t then [] else last_line [] ++ d ∷ []) (ne_eqb d 10 n))
line_added (c ∷ ys) d n m =
    sym (ap last_line (mark_more c ys d) ∙ line_more (without_mark (c ∷ ys)) d
    ∙ ap (λ t. if t then [] else last_line (without_mark (c ∷ ys)) ++ d ∷ []) (ne_eqb d 10 n))

-- ---- up to a line feed

pub first_line_ends : (cs : List ℕ) (d : ℕ) (more : List ℕ) → cs ≡ d ∷ more → d ≡ 10 → first_line cs ≡ []
first_line_ends cs d more e n =
    ap first_line e ∙ ap (λ t. if t then [] else d ∷ first_line more) (eq-eqb d 10 n)

pub first_line_goes : (cs : List ℕ) (d : ℕ) (more : List ℕ) → cs ≡ d ∷ more → d ≢ 10 → first_line cs ≡ d ∷ first_line more
first_line_goes cs d more e n =
    ap first_line e ∙ ap (λ t. if t then [] else d ∷ first_line more) (ne_eqb d 10 n)

-- ---- a carriage return at the end

pub return_dropped : (front : List ℕ) (d : ℕ) → d ≡ 13 → without_return (front ++ d ∷ []) ≡ front
return_dropped [] d e = ap (λ t. if t then [] else d ∷ []) (eq-eqb d 13 e)
return_dropped (c ∷ []) d e = ap (λ x. c ∷ x) (return_dropped [] d e)
return_dropped (c ∷ x ∷ front) d e = ap (λ r. c ∷ r) (return_dropped (x ∷ front) d e)

pub return_none : (front : List ℕ) (d : ℕ) → d ≢ 13 → without_return (front ++ d ∷ []) ≡ front ++ d ∷ []
return_none [] d n = ap (λ t. if t then [] else d ∷ []) (ne_eqb d 13 n)
return_none (c ∷ []) d n = ap (λ x. c ∷ x) (return_none [] d n)
return_none (c ∷ x ∷ front) d n = ap (λ r. c ∷ r) (return_none (x ∷ front) d n)

-- a line and its last character
last_split : (xs : List ℕ) (d : ℕ) → 0 < length xs → xs ≡ take (length xs - 1) xs ++ get_or xs (length xs - 1) d ∷ []
last_split xs d l =
    let e : length xs ≡ length xs - 1 + 1 = omega (arith, l) in
    sym (take_all (length xs) xs (omega arith)) ∙ ap (λ n. take n xs) e ∙ take_more xs (length xs - 1) d (omega (arith, l))

pub front_of_line : (xs : List ℕ) (d : ℕ) → 0 < length xs → get_or xs (length xs - 1) d ≡ 13 → take (length xs - 1) xs ≡ without_return xs
front_of_line xs d l e =
    sym (ap without_return (last_split xs d l) ∙ return_dropped (take (length xs - 1) xs) (get_or xs (length xs - 1) d) e)

pub whole_line : (xs : List ℕ) (d : ℕ) → 0 < length xs → get_or xs (length xs - 1) d ≢ 13 → xs ≡ without_return xs
whole_line xs d l n =
    last_split xs d l
    ∙ sym (ap without_return (last_split xs d l) ∙ return_none (take (length xs - 1) xs) (get_or xs (length xs - 1) d) n)

pub empty_line : (xs : List ℕ) → length xs ≡ 0 → xs ≡ without_return xs
empty_line xs e = let none = nil_from_length xs e in none ∙ sym (ap without_return none)

-- ---- item by item

pub mapped_more : (f : ℕ → ℕ) (xs : List ℕ) (i d : ℕ) → i < length xs → map f (take (i + 1) xs) ≡ map f (take i xs) ++ f (get_or xs i d) ∷ []
mapped_more f xs i d l = ap (map f) (take_more xs i d l) ∙ map-append f (take i xs) (get_or xs i d ∷ [])

pub shown_more : (xs : List ℕ) (i x : ℕ) → i < length xs → x ≡ get_or xs i x → encode_utf8_all (map shown (take (i + 1) xs)) ≡ encode_utf8_all (map shown (take i xs)) ++ encode_utf8 (shown x)
shown_more xs i x l is =
    ap encode_utf8_all (mapped_more shown xs i x l)
    ∙ encodes-append (map shown (take i xs)) (shown (get_or xs i x) ∷ [])
    ∙ ap (λ z. encode_utf8_all (map shown (take i xs)) ++ encode_utf8_all (shown z ∷ [])) (sym is)
    ∙ ap (λ z. encode_utf8_all (map shown (take i xs)) ++ z) (append-nil (encode_utf8 (shown x)))
