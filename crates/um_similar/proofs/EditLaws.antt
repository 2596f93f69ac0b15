-- The test of one edit is the relation.
-- Source: Damerau (1964), A technique for computer detection and correction of spelling errors.
use Rattle.std.proofs.Common.{◌≡◌, ◌≢◌, ◌↔◌, inl, inr, ℕ, Bool, true, false, ◌||◌, ◌&&◌, eqb, if◌then◌else◌, List, [], ◌∷◌, ◌++◌, length, ◌⊎◌, refl, sym, ap, ◌∙◌, arith, eqb-true, eq-eqb}
use Rattle.std.specs.Str.{bytes_eq}
use Rattle.std.proofs.lemmas.Bool.{or_cases, and_parts, eqb-false}
use Rattle.std.proofs.lemmas.Slice.Eq.{bytes_eq-Decides}
use Rattle.um_similar.specs.Edits.{DifferAt, IsOneEdit}
use Rattle.um_similar.specs.OneEdit.{exchanged, apart, one_edit}
use Rattle.um_similar.proofs.EditSteps.{past_front, at_fronts}

or_right : (x y : Bool) → y ≡ true → (x || y) ≡ true
or_right true y e = refl
or_right false y e = e

or_left : (x y : Bool) → x ≡ true → (x || y) ≡ true
or_left true y e = refl
or_left false y e = absurd (cc e)

equal : (a b : List ℕ) → bytes_eq a b ≡ true → a ≡ b
equal a b = (bytes_eq-Decides a b).0

same : (a : List ℕ) → bytes_eq a a ≡ true
same a = (bytes_eq-Decides a a).1 refl

none_left : (a : List ℕ) → length a ≡ 0 → a ≡ []
none_left [] e = refl
none_left (c ∷ a) e = absurd (omega (arith, e))

-- ---- what passes the test is at one edit

-- with one character more at both fronts
differ_after : (c d : ℕ) (a b this that : List ℕ) → c ≡ d → DifferAt a b this that → DifferAt (c ∷ a) (d ∷ b) this that
differ_after c d a b this that e h = record {
  front = c ∷ h.front;
  back = h.back;
  one = ap (λ x. c ∷ x) h.one;
  other = ap (λ x. x ∷ b) (sym e) ∙ ap (λ x. c ∷ x) h.other;
}

edit_after : (c d : ℕ) (a b : List ℕ) → c ≡ d → IsOneEdit a b → IsOneEdit (c ∷ a) (d ∷ b)
edit_after c d a b e (inl (x, h)) = inl (x, differ_after c d a b [] (x ∷ []) e h)
edit_after c d a b e (inr (inl (x, h))) = inr (inl (x, differ_after c d a b (x ∷ []) [] e h))
edit_after c d a b e (inr (inr (inl (x, y, n, h)))) = inr (inr (inl (x, y, n, differ_after c d a b (x ∷ []) (y ∷ []) e h)))
edit_after c d a b e (inr (inr (inr (x, y, n, h)))) = inr (inr (inr (x, y, n, differ_after c d a b (x ∷ y ∷ []) (y ∷ x ∷ []) e h)))

exchanged_edit : (c d : ℕ) (a b : List ℕ) → c ≢ d → exchanged (c ∷ a) (d ∷ b) ≡ true → IsOneEdit (c ∷ a) (d ∷ b)
exchanged_edit c d [] b n h = absurd (cc h)
exchanged_edit c d (x ∷ a) [] n h = absurd (cc h)
exchanged_edit c d (x ∷ a) (y ∷ b) n h =
    let p = and_parts (eqb c y) (eqb x d && bytes_eq a b) h in
    let q = and_parts (eqb x d) (bytes_eq a b) p.1 in
    let cy : c ≡ y = eqb-true c y p.0 in
    let xd : x ≡ d = eqb-true x d q.0 in
    let ab : a ≡ b = equal a b q.1 in
    inr (inr (inr (
      c,
      d,
      n,
      record {
        front = [];
        back = a;
        one = ap (λ z. c ∷ z ∷ a) xd;
        other = ap (λ z. d ∷ z ∷ b) (sym cy) ∙ ap (λ z. d ∷ c ∷ z) (sym ab);
      },
    )))

apart_edit : (c d : ℕ) (a b : List ℕ) → c ≢ d → apart (c ∷ a) (d ∷ b) ≡ true → IsOneEdit (c ∷ a) (d ∷ b)
apart_edit c d a b n h =
    by (or_cases (bytes_eq a b) (bytes_eq (c ∷ a) b || (bytes_eq a (d ∷ b) || exchanged (c ∷ a) (d ∷ b))) h)
  where
    changed : bytes_eq a b ≡ true → IsOneEdit (c ∷ a) (d ∷ b)
    changed e = inr (inr (inl (c, d, n, record { front = []; back = a; one = refl; other = ap (λ z. d ∷ z) (sym (equal a b e)) })))

    put_in : bytes_eq (c ∷ a) b ≡ true → IsOneEdit (c ∷ a) (d ∷ b)
    put_in e = inl (d, record { front = []; back = c ∷ a; one = refl; other = ap (λ z. d ∷ z) (sym (equal (c ∷ a) b e)) })

    left_out : bytes_eq a (d ∷ b) ≡ true → IsOneEdit (c ∷ a) (d ∷ b)
    left_out e = inr (inl (c, record { front = []; back = d ∷ b; one = ap (λ z. c ∷ z) (equal a (d ∷ b) e); other = refl }))

    third : (bytes_eq a (d ∷ b) ≡ true) ⊎ (exchanged (c ∷ a) (d ∷ b) ≡ true) → IsOneEdit (c ∷ a) (d ∷ b)
    third (inl e) = left_out e
    third (inr e) = exchanged_edit c d a b n e

    second : (bytes_eq (c ∷ a) b ≡ true) ⊎ ((bytes_eq a (d ∷ b) || exchanged (c ∷ a) (d ∷ b)) ≡ true) → IsOneEdit (c ∷ a) (d ∷ b)
    second (inl e) = put_in e
    second (inr e) = third (or_cases (bytes_eq a (d ∷ b)) (exchanged (c ∷ a) (d ∷ b)) e)

    by : (bytes_eq a b ≡ true) ⊎ ((bytes_eq (c ∷ a) b || (bytes_eq a (d ∷ b) || exchanged (c ∷ a) (d ∷ b))) ≡ true) → IsOneEdit (c ∷ a) (d ∷ b)
    by (inl e) = changed e
    by (inr e) = second (or_cases (bytes_eq (c ∷ a) b) (bytes_eq a (d ∷ b) || exchanged (c ∷ a) (d ∷ b)) e)

single : (b : List ℕ) → eqb (length b) 1 ≡ true → IsOneEdit [] b
single [] h = absurd (cc h)
single (c ∷ b) h = inl (
  c,
  record {
    front = [];
    back = [];
    one = refl;
    other = ap (λ x. c ∷ x) (none_left b (omega (arith, eqb-true (length (c ∷ b)) 1 h)));
  },
)

sound : (a b : List ℕ) → one_edit a b ≡ true → IsOneEdit a b
sound [] b h = single b h
sound (c ∷ a) [] h = inr (inl (
  c,
  record {
    front = [];
    back = [];
    one = ap (λ x. c ∷ x) (none_left a (omega (arith, eqb-true (length (c ∷ a)) 1 h)));
    other = refl;
  },
))
sound (c ∷ a) (d ∷ b) h = by (sound a b) (eqb c d) refl h where
  by : (one_edit a b ≡ true → IsOneEdit a b) → (t : Bool) → eqb c d ≡ t → (if t then one_edit a b else apart (c ∷ a) (d ∷ b)) ≡ true → IsOneEdit (c ∷ a) (d ∷ b)
  by rest true e g = edit_after c d a b (eqb-true c d e) (rest g)
  by rest false e g = apart_edit c d a b (eqb-false c d e) g

-- ---- what is at one edit passes the test

past : (front : List ℕ) (a b : List ℕ) → one_edit (front ++ a) (front ++ b) ≡ one_edit a b
past [] a b = refl
past (c ∷ front) a b = past_front c c (front ++ a) (front ++ b) refl ∙ past front a b

put_front : (c : ℕ) (a : List ℕ) → one_edit a (c ∷ a) ≡ true
put_front c [] = refl
put_front c (d ∷ a) = by (put_front d a) (eqb d c) refl where
  by : one_edit a (d ∷ a) ≡ true → (t : Bool) → eqb d c ≡ t → one_edit (d ∷ a) (c ∷ d ∷ a) ≡ true
  by rest true e = past_front d c a (d ∷ a) (eqb-true d c e) ∙ rest
  by rest false e =
      at_fronts d c a (d ∷ a) (eqb-false d c e)
      ∙ or_right (bytes_eq a (d ∷ a)) _ (or_left (bytes_eq (d ∷ a) (d ∷ a)) _ (same (d ∷ a)))

leave_front : (c : ℕ) (a : List ℕ) → one_edit (c ∷ a) a ≡ true
leave_front c [] = refl
leave_front c (d ∷ a) = by (leave_front d a) (eqb c d) refl where
  by : one_edit (d ∷ a) a ≡ true → (t : Bool) → eqb c d ≡ t → one_edit (c ∷ d ∷ a) (d ∷ a) ≡ true
  by rest true e = past_front c d (d ∷ a) a (eqb-true c d e) ∙ rest
  by rest false e =
      at_fronts c d (d ∷ a) a (eqb-false c d e)
      ∙ or_right (bytes_eq (d ∷ a) a) _ (or_right (bytes_eq (c ∷ d ∷ a) a) _ (or_left (bytes_eq (d ∷ a) (d ∷ a)) _ (same (d ∷ a))))

change_front : (c d : ℕ) (a : List ℕ) → c ≢ d → one_edit (c ∷ a) (d ∷ a) ≡ true
change_front c d a n = at_fronts c d a a n ∙ or_left (bytes_eq a a) _ (same a)

both_true : (x y : Bool) → x ≡ true → y ≡ true → (x && y) ≡ true
both_true true y e h = h
both_true false y e h = absurd (cc e)

exchange_front : (c d : ℕ) (a : List ℕ) → c ≢ d → one_edit (c ∷ d ∷ a) (d ∷ c ∷ a) ≡ true
exchange_front c d a n =
    let swapped = both_true (eqb c c) _ (eq-eqb c c refl) (both_true (eqb d d) (bytes_eq a a) (eq-eqb d d refl) (same a)) in
    at_fronts c d (d ∷ a) (c ∷ a) n
    ∙ or_right (bytes_eq (d ∷ a) (c ∷ a)) _ (or_right (bytes_eq (c ∷ d ∷ a) (c ∷ a)) _ (or_right (bytes_eq (d ∷ a) (d ∷ c ∷ a)) _ swapped))

at : (a b this that : List ℕ) → ((back : List ℕ) → one_edit (this ++ back) (that ++ back) ≡ true) → DifferAt a b this that → one_edit a b ≡ true
at a b this that h d =
    ap (λ x. one_edit x b) d.one ∙ ap (one_edit (d.front ++ (this ++ d.back))) d.other
    ∙ past d.front (this ++ d.back) (that ++ d.back) ∙ h d.back

complete : (a b : List ℕ) → IsOneEdit a b → one_edit a b ≡ true
complete a b (inl (c, h)) = at a b [] (c ∷ []) (put_front c) h
complete a b (inr (inl (c, h))) = at a b (c ∷ []) [] (leave_front c) h
complete a b (inr (inr (inl (c, d, n, h)))) = at a b (c ∷ []) (d ∷ []) (λ back. change_front c d back n) h
complete a b (inr (inr (inr (c, d, n, h)))) = at a b (c ∷ d ∷ []) (d ∷ c ∷ []) (λ back. exchange_front c d back n) h

pub similar_are_one_edit : (a b : List ℕ) → (one_edit a b ≡ true) ↔ IsOneEdit a b
similar_are_one_edit a b = (sound a b, complete a b)
