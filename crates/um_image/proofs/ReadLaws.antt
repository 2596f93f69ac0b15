-- Reading whole images: what is read was written, what was written is read, and where bytes are refused.
use Rattle.std.proofs.Common.{◌≡◌, ◌≢◌, refl, sym, subst, ap, ◌∙◌, ℕ, suc, ◌+◌, ◌-◌, ◌<◌, ◌≤◌, ◌==◌, Bool, true, false, cond, List, [], ◌∷◌, ◌++◌, length, All, inl, inr, Result, Ok, Err, arith, append_assoc}
use Rattle.std.proofs.lemmas.Bool.{cases_lt, eqb-true}
use Rattle.std.proofs.lemmas.List.{append-nil, length-append, nil_from_length, get_or_past}
use Rattle.std.proofs.Math.Dec.{eqb-suc-zero}
use Rattle.um_tree.specs.ProgramTree.{RecordTree}
use Rattle.um_image.specs.Encoding.{Item, written, spell, FunctionPart, ImageParts, parts_items}
use Rattle.um_image.specs.Places.{PartsFit, IsWritten, IsBadAt}
use Rattle.um_image.specs.Reading.{◌>>=◌, letters_at, records_at, functions_at, last_functions_at, image_at}
use Rattle.um_image.proofs.Formats.{IsBytes, bytes_behind, gave, not_both, same_left, made_at, IsStop}
use Rattle.um_image.proofs.PartFormats.{with_functions, records_behind, parts_at, parts_format}

-- ---- reading, and that nothing stands behind

abbrev whole : Result (ImageParts × List ℕ) ℕ → Result ImageParts ℕ
whole r = r >>= λ p. cond (length p.1 == 0) (Ok p.0) (Err (length p.1))

by_test : (t : Bool) (rs : List RecordTree) (fs : List FunctionPart) (n : ℕ) → (cond t (Ok fs) (Err n) >>= λ x. Ok (with_functions rs x)) ≡ cond t (Ok (with_functions rs fs)) (Err n)
by_test true rs fs n = refl
by_test false rs fs n = refl

by_functions : (rs : List RecordTree) (r : Result (List FunctionPart × List ℕ) ℕ) → ((r >>= λ fs. cond (length fs.1 == 0) (Ok fs.0) (Err (length fs.1))) >>= λ x. Ok (with_functions rs x)) ≡ whole (r >>= λ fs. Ok (with_functions rs fs.0, fs.1))
by_functions rs (Err l) = refl
by_functions rs (Ok fs) = by_test (length fs.1 == 0) rs fs.0 (length fs.1)

by_records : (r : Result (List RecordTree × List ℕ) ℕ) → (r >>= λ rs. last_functions_at rs.1 >>= λ fs. Ok (with_functions rs.0 fs)) ≡ whole (r >>= λ rs. made_at functions_at (with_functions rs.0) rs.1)
unfolding last_functions_at
by_records (Err l) = refl
by_records (Ok rs) = by_functions rs.0 (functions_at rs.1)

by_letters : (r : Result (List ℕ × List ℕ) ℕ) → (r >>= λ letters. records_at letters.1 >>= λ rs. last_functions_at rs.1 >>= λ fs. Ok (with_functions rs.0 fs)) ≡ whole (r >>= λ letters. records_behind letters.0 letters.1)
by_letters (Err l) = refl
by_letters (Ok letters) = by_records (records_at letters.1)

image_is : (bytes : List ℕ) → image_at bytes ≡ whole (parts_at bytes)
unfolding image_at
image_is bytes = by_letters (letters_at bytes)

-- ---- what is read

test_ok : (t : Bool) (q p : ImageParts) (n : ℕ) → cond t (Ok q) (Err n) ≡ Ok p → (t ≡ true) × (q ≡ p)
test_ok true q p n e = (refl, cc)
test_ok false q p n e = absurd cc

whole_ok : (r : Result (ImageParts × List ℕ) ℕ) (p : ImageParts) → whole r ≡ Ok p → r ≡ Ok (p, [])
whole_ok (Err l) p e = absurd cc
whole_ok (Ok (q, rest)) p e =
    let t = test_ok (length rest == 0) q p (length rest) e in
    let none : rest ≡ [] = nil_from_length rest (eqb-true (length rest) 0 t.0) in
    λ i. gave (t.1 i) (none i)

pub read_takes : (bytes : List ℕ) (p : ImageParts) → IsBytes bytes → image_at bytes ≡ Ok p → PartsFit p × IsWritten (parts_items p) × (bytes ≡ spell (parts_items p))
read_takes bytes p b e =
    let r : parts_at bytes ≡ Ok (p, []) = whole_ok (parts_at bytes) p (sym (image_is bytes) ∙ e) in
    let t = parts_format.takes bytes p [] b r in
    (t.0, t.1, t.2 ∙ append-nil (spell (parts_items p)))

pub read_again : (p : ImageParts) → PartsFit p → IsWritten (parts_items p) → image_at (spell (parts_items p)) ≡ Ok p
read_again p f w =
    let r : parts_at (spell (parts_items p)) ≡ Ok (p, []) = ap parts_at (sym (append-nil (spell (parts_items p)))) ∙ parts_format.again p [] f w in
    image_is (spell (parts_items p)) ∙ ap whole r

-- ---- where bytes are refused

no_longer : {A : Type 0} (xs : List A) (y : A) (ys : List A) → xs ≡ xs ++ y ∷ ys → ⊥
no_longer {A} xs y ys e = let l = ap (λ (zs : List A). length zs) e ∙ length-append xs (y ∷ ys) in absurd (omega arith)

length_left : (bytes : List ℕ) (front : List Item) (rest : List ℕ) (left : ℕ) → bytes ≡ spell front ++ rest → left ≡ length rest → length bytes ≡ length (spell front) + left
length_left bytes front rest left e l = ap (λ (t : List ℕ). length t) e ∙ length-append (spell front) rest ∙ ap (λ (n : ℕ). length (spell front) + n) (sym l)

stop_place : (bytes : List ℕ) (left : ℕ) → IsStop parts_items PartsFit bytes left → parts_at bytes ≡ Err left → IsBadAt bytes (length bytes - left) × (left ≤ length bytes)
stop_place bytes left s failed =
    let sum = length_left bytes s.front s.rest left s.parts s.left_is in (
      record {
        front = s.front;
        rest = s.rest;
        have_bytes = s.have_bytes;
        begins = record { parts = s.one; fits = s.fits; others = s.others; begins = s.begins };
        cut = s.parts;
        place = omega arith;
        none_goes_on = λ item more g e. s.no_more g.parts item more g.others g.fits (g.begins ∙ append_assoc s.front (written item ∷ []) g.others) e;
        bytes_behind = λ p f e q. not_both (parts_at bytes) (p, s.rest) left (ap parts_at (s.parts ∙ ap (λ (is : List Item). spell is ++ s.rest) (sym e)) ∙ parts_format.again p s.rest f (subst IsWritten (sym e) s.have_bytes)) failed;
      },
      omega arith,
    )

end_place : (bytes : List ℕ) (p : ImageParts) (rest : List ℕ) → IsBytes bytes → parts_at bytes ≡ Ok (p, rest) → rest ≢ [] → IsBadAt bytes (length bytes - length rest) × (length rest ≤ length bytes)
end_place bytes p rest b e n =
    let t = parts_format.takes bytes p rest b e in
    let sum = length_left bytes (parts_items p) rest (length rest) t.2 refl in (
      record {
        front = parts_items p;
        rest = rest;
        have_bytes = t.1;
        begins = record { parts = p; fits = t.0; others = []; begins = sym (append-nil (parts_items p)) };
        cut = t.2;
        place = omega arith;
        none_goes_on = λ item more g k.
            let line : parts_items g.parts ≡ parts_items p ++ (written item ∷ g.others) = g.begins ∙ append_assoc (parts_items p) (written item ∷ []) g.others in
            let same : p ≡ g.parts = parts_format.whole p g.parts (written item ∷ g.others) t.0 g.fits t.1 line in
            no_longer (parts_items p) (written item) g.others (ap parts_items same ∙ line);
        bytes_behind = λ q f k none. n none;
      },
      omega arith,
    )

test_failed : (t : Bool) (q : ImageParts) (n left : ℕ) → cond t (Ok q) (Err n) ≡ Err left → (t ≡ false) × (n ≡ left)
test_failed true q n left e = absurd cc
test_failed false q n left e = (refl, cc)

tested : (rest : List ℕ) → (length rest == 0) ≡ false → rest ≡ [] → ⊥
tested [] e n = cc
tested (x ∷ rest) e n = cc

pub read_refused : (bytes : List ℕ) (left : ℕ) → IsBytes bytes → image_at bytes ≡ Err left → IsBadAt bytes (length bytes - left) × (left ≤ length bytes)
read_refused bytes left b e = by (parts_at bytes) refl (sym (image_is bytes) ∙ e) where
  by : (r : Result (ImageParts × List ℕ) ℕ) → parts_at bytes ≡ r → whole (parts_at bytes) ≡ Err left → IsBadAt bytes (length bytes - left) × (left ≤ length bytes)
  by (Err l) q w =
      let is : l ≡ left = same_left (whole (parts_at bytes)) l left (ap whole q) w in
      let failed : parts_at bytes ≡ Err left = q ∙ ap (λ (n : ℕ). Err n) is in
      stop_place bytes left (parts_format.stops bytes left b failed) failed
  by (Ok (p, rest)) q w =
      let t = test_failed (length rest == 0) p (length rest) left (sym (ap whole q) ∙ w) in
      let some : rest ≢ [] = λ none. tested rest t.0 none in
      subst (λ (n : ℕ). IsBadAt bytes (length bytes - n) × (n ≤ length bytes)) t.1 (end_place bytes p rest b q some)

pub refused_there : (bytes : List ℕ) (a : ℕ) → IsBytes bytes → IsBadAt bytes a → (left : ℕ) × (image_at bytes ≡ Err left) × (length bytes ≡ a + left)
refused_there bytes a b h = by h.begins.others h.begins.begins where
  p : ImageParts
  p = h.begins.parts

  failed : parts_at (spell h.front ++ h.rest) ≡ Err (length h.rest) → (left : ℕ) × (image_at bytes ≡ Err left) × (length bytes ≡ a + left)
  failed e = (length h.rest, image_is bytes ∙ ap whole (ap parts_at h.cut ∙ e), length_left bytes h.front h.rest (length h.rest) h.cut refl ∙ ap (λ (n : ℕ). n + length h.rest) (sym h.place))

  some_rest : (rest : List ℕ) → rest ≢ [] → cond (length rest == 0) (Ok p) (Err (length rest)) ≡ Err (length rest)
  some_rest [] n = absurd (n refl)
  some_rest (x ∷ rest) n = ap (λ (b : Bool). cond b (Ok p) (Err (suc (length rest)))) (eqb-suc-zero (length rest))

  by : (others : List Item) → parts_items p ≡ h.front ++ others → (left : ℕ) × (image_at bytes ≡ Err left) × (length bytes ≡ a + left)
  by [] e =
      let all : parts_items p ≡ h.front = e ∙ append-nil h.front in
      let read : parts_at (spell h.front ++ h.rest) ≡ Ok (p, h.rest) = ap (λ (is : List Item). parts_at (spell is ++ h.rest)) (sym all) ∙ parts_format.again p h.rest h.begins.fits (subst IsWritten (sym all) h.have_bytes) in
      let none = some_rest h.rest (λ k. h.bytes_behind p h.begins.fits all k) in
      (length h.rest, image_is bytes ∙ ap whole (ap parts_at h.cut ∙ read) ∙ none, length_left bytes h.front h.rest (length h.rest) h.cut refl ∙ ap (λ (n : ℕ). n + length h.rest) (sym h.place))
  by (c ∷ others) e =
      failed (parts_format.stuck p h.front (c ∷ others) h.rest (bytes_behind (spell h.front) h.rest bytes h.cut b) h.begins.fits h.have_bytes e (λ (k : c ∷ others ≡ []). absurd cc)
      (λ y item more os f q k. h.none_goes_on item more (record { parts = y; fits = f; others = os; begins = q ∙ sym (append_assoc h.front (written item ∷ []) os) }) k))

-- ---- laws

pub is_bytes : (bytes : List ℕ) → All (λ x. x < 256) bytes → IsBytes bytes
is_bytes bytes h i =
    elim (cases_lt i (length bytes)) [
      | inl lt ↦ h i 0 lt
      | inr le ↦ rw (get_or_past bytes i 0 le) (omega arith)
    ]

pub places_unique : (bytes : List ℕ) (a b : ℕ) → All (λ x. x < 256) bytes → IsBadAt bytes a → IsBadAt bytes b → a ≡ b
places_unique bytes a b h x y =
    let p = refused_there bytes a (is_bytes bytes h) x in
    let q = refused_there bytes b (is_bytes bytes h) y in
    let same : p.0 ≡ q.0 = same_left (image_at bytes) p.0 q.0 p.1 q.1 in
    let s = p.2 in
    let t = q.2 in
    omega arith
