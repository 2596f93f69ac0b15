-- Formats: what is read from bytes item by item has these items, what has the items is read, and where reading ends no
-- item goes on.
use Rattle.std.proofs.Common.{◌≡◌, ◌≢◌, refl, sym, subst, ap, ◌∙◌, ℕ, ◌+◌, ◌<◌, ◌≤◌, ◌⊎◌, inl, inr, List, [], ◌∷◌, ◌++◌, length, get_or, drop, Result, Ok, Err, arith, append_assoc}
use Rattle.std.proofs.lemmas.List.{append-nil, drop_at, get_or-drop, length-append}
use Rattle.um_image.specs.Encoding.{Item, written, forbidden, spell}
use Rattle.um_image.specs.Places.{IsWritten}
use Rattle.um_image.specs.Reading.{◌>>=◌}

-- ---- bytes

abbrev pub IsBytes : List ℕ → Type 0
IsBytes bytes = (i : ℕ) → get_or bytes i 0 < 256

pub bytes_drop : (n : ℕ) (bytes : List ℕ) → IsBytes bytes → IsBytes (drop n bytes)
bytes_drop n bytes h i = rw get_or-drop (h (n + i))

pub bytes_behind : (a b bytes : List ℕ) → bytes ≡ a ++ b → IsBytes bytes → IsBytes b
bytes_behind a b bytes e h = subst IsBytes (drop_at a b (length a) refl) (bytes_drop (length a) (a ++ b) (subst IsBytes e h))

-- ---- items

pub spell-append : (a b : List Item) → spell (a ++ b) ≡ spell a ++ spell b
spell-append [] b = refl
spell-append (written x ∷ a) b = ap (λ (t : List ℕ). x ++ t) (spell-append a b) ∙ sym (append_assoc x (spell a) (spell b))
spell-append (forbidden ∷ a) b = spell-append a b

pub both_written : (a b : List Item) → IsWritten a → IsWritten b → IsWritten (a ++ b)
both_written [] b p q = q
both_written (written x ∷ a) b p q = both_written a b p q
both_written (forbidden ∷ a) b p q = absurd p

pub left_written : (a b : List Item) → IsWritten (a ++ b) → IsWritten a
left_written [] b p = tt
left_written (written x ∷ a) b p = left_written a b p
left_written (forbidden ∷ a) b p = absurd p

pub right_written : (a b : List Item) → IsWritten (a ++ b) → IsWritten b
right_written [] b p = p
right_written (written x ∷ a) b p = right_written a b p
right_written (forbidden ∷ a) b p = absurd p

-- ---- a list cut twice

abbrev pub Cut : {A : Type 0} → List A → List A → List A → List A → Type 0
Cut {A} a b c d = ((m : List A) × (a ≡ c ++ m) × (m ++ b ≡ d)) ⊎ ((m : List A) × (c ≡ a ++ m) × (b ≡ m ++ d))

cut_more : {A : Type 0} (x y : A) (a b c d : List A) → x ≡ y → Cut a b c d → Cut (x ∷ a) b (y ∷ c) d
cut_more x y a b c d e (inl (m, p, q)) = inl (m, (λ i. e i ∷ p i), q)
cut_more x y a b c d e (inr (m, p, q)) = inr (m, (λ i. (sym e) i ∷ p i), q)

pub cut : {A : Type 0} (a b c d : List A) → a ++ b ≡ c ++ d → Cut a b c d
cut [] b c d e = inr (c, refl, e)
cut (x ∷ a) b [] d e = inl (x ∷ a, refl, e)
cut (x ∷ a) b (y ∷ c) d e =
    let heads : x ≡ y = cc in
    let tails : a ++ b ≡ c ++ d = cc in
    cut_more x y a b c d heads (cut a b c d tails)

pub right_nil : {A : Type 0} (a b : List A) → a ++ b ≡ [] → b ≡ []
right_nil [] b e = e
right_nil (x ∷ a) b e = absurd cc

-- ---- results

abbrev pub gave : {A : Type 0} → A → List ℕ → Result (A × List ℕ) ℕ
gave x rest = Ok (x, rest)

abbrev value_or : {A : Type 0} → A × List ℕ → Result (A × List ℕ) ℕ → A × List ℕ
value_or p (Ok q) = q
value_or p (Err l) = p

pub same_gift : {A : Type 0} (x y : A) (r s : List ℕ) → gave x r ≡ gave y s → (x ≡ y) × (r ≡ s)
same_gift {A} x y r s e = (ap (λ (g : Result (A × List ℕ) ℕ). (value_or (x, r) g).0) e, ap (λ (g : Result (A × List ℕ) ℕ). (value_or (x, r) g).1) e)

pub not_both : {A : Type 0} (r : Result A ℕ) (x : A) (left : ℕ) → r ≡ Ok x → r ≡ Err left → ⊥
not_both (Ok y) x left p q = absurd cc
not_both (Err l) x left p q = absurd cc

abbrev left_or : {A : Type 0} → ℕ → Result A ℕ → ℕ
left_or n (Ok x) = n
left_or n (Err l) = l

pub same_left : {A : Type 0} (r : Result A ℕ) (l m : ℕ) → r ≡ Err l → r ≡ Err m → l ≡ m
same_left {A} r l m p q = ap (λ (g : Result A ℕ). left_or 0 g) (sym p ∙ q)

pub bind_ok : {A B : Type 0} (r : Result A ℕ) (f : A → Result B ℕ) (y : B) → (r >>= f) ≡ Ok y → (x : A) × (r ≡ Ok x) × (f x ≡ Ok y)
bind_ok (Ok x) f y e = (x, refl, e)
bind_ok (Err l) f y e = absurd cc

pub bind_done : {A B : Type 0} (r : Result A ℕ) (f : A → Result B ℕ) (x : A) → r ≡ Ok x → (r >>= f) ≡ f x
bind_done {A} {B} r f x e = ap (λ (g : Result A ℕ). g >>= f) e

pub bind_failed : {A B : Type 0} (r : Result A ℕ) (f : A → Result B ℕ) (l : ℕ) → r ≡ Err l → (r >>= f) ≡ Err l
bind_failed {A} {B} r f l e = ap (λ (g : Result A ℕ). g >>= f) e

-- ---- formats

module _ {A : Type 0} (items : A → List Item) (Fits : A → Type 0) where
  -- no item that follows these in something stands here
  abbrev pub NoMore : List Item → List ℕ → Type 0
  NoMore front rest = (y : A) (item more : List ℕ) (others : List Item) → Fits y → items y ≡ front ++ written item ∷ others → rest ≡ item ++ more → ⊥

  pub record IsStop (bytes : List ℕ) (left : ℕ) : Type 0 where
    pub front : List Item
    pub rest : List ℕ
    pub one : A
    pub others : List Item
    pub fits : Fits one
    pub begins : items one ≡ front ++ others
    pub have_bytes : IsWritten front
    pub parts : bytes ≡ spell front ++ rest
    pub left_is : left ≡ length rest
    pub no_more : NoMore front rest

pub record IsFormat {A : Type 0} (read : List ℕ → Result (A × List ℕ) ℕ) (items : A → List Item) (Fits : A → Type 0) : Type 0 where
  -- what is read has these items
  pub takes : (bytes : List ℕ) (x : A) (rest : List ℕ) → IsBytes bytes → read bytes ≡ Ok (x, rest) → Fits x × IsWritten (items x) × (bytes ≡ spell (items x) ++ rest)
  -- what has these items is read
  pub again : (x : A) (rest : List ℕ) → Fits x → IsWritten (items x) → read (spell (items x) ++ rest) ≡ Ok (x, rest)
  -- no items are the front of others
  pub whole : (x y : A) (others : List Item) → Fits x → Fits y → IsWritten (items x) → items y ≡ items x ++ others → x ≡ y
  -- where reading ends no item goes on
  pub stops : (bytes : List ℕ) (left : ℕ) → IsBytes bytes → read bytes ≡ Err left → IsStop items Fits bytes left
  -- where no item goes on reading ends
  pub stuck : (x : A) (front others : List Item) (rest : List ℕ) → IsBytes rest → Fits x → IsWritten front → items x ≡ front ++ others → others ≢ [] → NoMore items Fits front rest → read (spell front ++ rest) ≡ Err (length rest)
  pub some : A
  pub some_fits : Fits some

-- what is left is no longer, and is bytes
pub rest_of : {A : Type 0} (read : List ℕ → Result (A × List ℕ) ℕ) (items : A → List Item) (Fits : A → Type 0) → IsFormat read items Fits → (bytes : List ℕ) (x : A) (rest : List ℕ) → IsBytes bytes → read bytes ≡ Ok (x, rest) → (length rest ≤ length bytes) × IsBytes rest
rest_of read items Fits h bytes x rest b e =
    let t = h.takes bytes x rest b e in
    let sum = ap (λ (s : List ℕ). length s) t.2 ∙ length-append (spell (items x)) rest in
    (omega arith, bytes_behind (spell (items x)) rest bytes t.2 b)

-- ---- a thing that is one item

pub record IsItem {A : Type 0} (read : List ℕ → Result (A × List ℕ) ℕ) (bytes_of : A → List ℕ) (Fits : A → Type 0) : Type 0 where
  pub taken : (bytes : List ℕ) (x : A) (rest : List ℕ) → IsBytes bytes → read bytes ≡ Ok (x, rest) → Fits x × (bytes ≡ bytes_of x ++ rest)
  pub given : (x : A) (rest : List ℕ) → Fits x → read (bytes_of x ++ rest) ≡ Ok (x, rest)
  pub refused : (bytes : List ℕ) (left : ℕ) → read bytes ≡ Err left → left ≡ length bytes
  pub one : A
  pub one_fits : Fits one

abbrev item_bytes : List Item → List ℕ
item_bytes [] = []
item_bytes (written b ∷ items) = b
item_bytes (forbidden ∷ items) = []

module _ {A : Type 0} (read : List ℕ → Result (A × List ℕ) ℕ) (bytes_of : A → List ℕ) (Fits : A → Type 0) (h : IsItem read bytes_of Fits) where
  abbrev only : A → List Item
  only x = written (bytes_of x) ∷ []

  only_bytes : (x : A) (rest : List ℕ) → spell (only x) ++ rest ≡ bytes_of x ++ rest
  only_bytes x rest = ap (λ (t : List ℕ). t ++ rest) (append-nil (bytes_of x))

  only_again : (x : A) (rest : List ℕ) → Fits x → read (spell (only x) ++ rest) ≡ Ok (x, rest)
  only_again x rest f = ap read (only_bytes x rest) ∙ h.given x rest f

  only_whole : (x y : A) (others : List Item) → Fits x → Fits y → only y ≡ only x ++ others → x ≡ y
  only_whole x y others f g e =
      let same : bytes_of y ≡ bytes_of x = ap item_bytes e in
      (same_gift x y [] [] (sym (h.given x [] f) ∙ ap (λ (t : List ℕ). read (t ++ [])) (sym same) ∙ h.given y [] g)).0

  only_stops : (bytes : List ℕ) (left : ℕ) → read bytes ≡ Err left → IsStop only Fits bytes left
  only_stops bytes left e = record {
    front = [];
    rest = bytes;
    one = h.one;
    others = only h.one;
    fits = h.one_fits;
    begins = refl;
    have_bytes = tt;
    parts = refl;
    left_is = h.refused bytes left e;
    no_more = λ y item more others f q p. not_both (read bytes) (y, more) left (ap read p ∙ ap (λ (t : List ℕ). read (t ++ more)) (sym (ap item_bytes q)) ∙ h.given y more f) e;
  }

  only_refuses : (rest : List ℕ) → IsBytes rest → NoMore only Fits [] rest → (r : Result (A × List ℕ) ℕ) → read rest ≡ r → read rest ≡ Err (length rest)
  only_refuses rest b barred (Ok p) e = let t = h.taken rest p.0 p.1 b e in absurd (barred p.0 (bytes_of p.0) p.1 [] t.0 refl t.1)
  only_refuses rest b barred (Err left) e = e ∙ ap (λ (l : ℕ). Err l) (h.refused rest left e)

  only_stuck : (x : A) (front others : List Item) (rest : List ℕ) → IsBytes rest → only x ≡ front ++ others → others ≢ [] → NoMore only Fits front rest → read (spell front ++ rest) ≡ Err (length rest)
  only_stuck x [] others rest b e n barred = only_refuses rest b barred (read rest) refl
  only_stuck x (c ∷ front) others rest b e n barred =
      let tails : [] ≡ front ++ others = cc in
      absurd (n (right_nil front others (sym tails)))

  pub item_format : IsFormat read only Fits
  item_format = record {
    takes = λ bytes x rest b e. let t = h.taken bytes x rest b e in (t.0, tt, t.1 ∙ sym (only_bytes x rest));
    again = λ x rest f w. only_again x rest f;
    whole = λ x y others f g w e. only_whole x y others f g e;
    stops = λ bytes left b e. only_stops bytes left e;
    stuck = λ x front others rest b f w e n barred. only_stuck x front others rest b e n barred;
    some = h.one;
    some_fits = h.one_fits;
  }

-- ---- nothing is read

module _ {A : Type 0} (z : A) (items : A → List Item) (none : items z ≡ []) where
  nothing : (x : A) → x ≡ z → items x ≡ []
  nothing x e = ap items e ∙ none

  done_takes : (bytes : List ℕ) (x : A) (rest : List ℕ) → gave z bytes ≡ Ok (x, rest) → (x ≡ z) × IsWritten (items x) × (bytes ≡ spell (items x) ++ rest)
  done_takes bytes x rest e =
      let same = same_gift z x bytes rest e in
      let barred : items x ≡ [] = nothing x (sym same.0) in
      (sym same.0, subst IsWritten (sym barred) tt, same.1 ∙ ap (λ (is : List Item). spell is ++ rest) (sym barred))

  pub done_format : IsFormat (gave z) items (λ x. x ≡ z)
  done_format = record {
    takes = λ bytes x rest b e. done_takes bytes x rest e;
    again = λ x rest f w. (λ i. gave ((sym f) i) (spell (nothing x f i) ++ rest));
    whole = λ x y others f g w e. f ∙ sym g;
    stops = λ bytes left b e. absurd cc;
    stuck = λ x front others rest b f w e n barred. absurd (n (right_nil front others (sym e ∙ nothing x f)));
    some = z;
    some_fits = refl;
  }

-- ---- another name for what is read

abbrev pub Made : {A B : Type 0} → (A → Type 0) → (A → B) → B → Type 0
Made {A} Fits make z = (x : A) × Fits x × (z ≡ make x)

abbrev pub made_at : {A B : Type 0} → (List ℕ → Result (A × List ℕ) ℕ) → (A → B) → List ℕ → Result (B × List ℕ) ℕ
made_at read make bytes = read bytes >>= λ x. Ok (make x.0, x.1)

module _ {A B : Type 0} (read : List ℕ → Result (A × List ℕ) ℕ) (items : A → List Item) (Fits : A → Type 0) (make : A → B) (named : B → List Item) (same : (x : A) → named (make x) ≡ items x) (h : IsFormat read items Fits) where
  named_is : (z : B) (x : A) → z ≡ make x → named z ≡ items x
  named_is z x e = ap named e ∙ same x

  made_takes : (bytes : List ℕ) (z : B) (rest : List ℕ) → IsBytes bytes → made_at read make bytes ≡ Ok (z, rest) → Made Fits make z × IsWritten (named z) × (bytes ≡ spell (named z) ++ rest)
  made_takes bytes z rest b e =
      let p = bind_ok (read bytes) (λ x. gave (make x.0) x.1) (z, rest) e in
      let x = p.0.0 in
      let t = h.takes bytes x p.0.1 b p.1 in
      let g = same_gift (make x) z p.0.1 rest p.2 in
      let n : named z ≡ items x = named_is z x (sym g.0) in
      ((x, t.0, sym g.0), subst IsWritten (sym n) t.1, t.2 ∙ (λ i. spell ((sym n) i) ++ g.1 i))

  made_again : (z : B) (rest : List ℕ) → Made Fits make z → IsWritten (named z) → made_at read make (spell (named z) ++ rest) ≡ Ok (z, rest)
  made_again z rest (x, f, e) w =
      let n : named z ≡ items x = named_is z x e in
      ap (λ (is : List Item). made_at read make (spell is ++ rest)) n
      ∙ bind_done (read (spell (items x) ++ rest)) (λ y. gave (make y.0) y.1) (x, rest) (h.again x rest f (subst IsWritten n w))
      ∙ ap (λ (y : B). gave y rest) (sym e)

  made_whole : (z v : B) (others : List Item) → Made Fits make z → Made Fits make v → IsWritten (named z) → named v ≡ named z ++ others → z ≡ v
  made_whole z v others (x, f, e) (y, g, d) w q =
      let n : named z ≡ items x = named_is z x e in
      let m : items y ≡ items x ++ others = sym (named_is v y d) ∙ q ∙ ap (λ (is : List Item). is ++ others) n in
      e ∙ ap make (h.whole x y others f g (subst IsWritten n w) m) ∙ sym d

  made_stop : (bytes : List ℕ) (left : ℕ) → IsStop items Fits bytes left → IsStop named (Made Fits make) bytes left
  made_stop bytes left s = record {
    front = s.front;
    rest = s.rest;
    one = make s.one;
    others = s.others;
    fits = (s.one, s.fits, refl);
    begins = same s.one ∙ s.begins;
    have_bytes = s.have_bytes;
    parts = s.parts;
    left_is = s.left_is;
    no_more = λ z item more others f q p. s.no_more f.0 item more others f.1 (sym (named_is z f.0 f.2) ∙ q) p;
  }

  made_stops : (bytes : List ℕ) (left : ℕ) → IsBytes bytes → (r : Result (A × List ℕ) ℕ) → read bytes ≡ r → made_at read make bytes ≡ Err left → IsStop named (Made Fits make) bytes left
  made_stops bytes left b (Ok x) e q = absurd (not_both (made_at read make bytes) (make x.0, x.1) left (bind_done (read bytes) (λ y. gave (make y.0) y.1) x e) q)
  made_stops bytes left b (Err l) e q =
      let is : l ≡ left = same_left (made_at read make bytes) l left (bind_failed (read bytes) (λ y. gave (make y.0) y.1) l e) q in
      made_stop bytes left (h.stops bytes left b (e ∙ ap (λ (k : ℕ). Err k) is))

  pub made_format : IsFormat (made_at read make) named (Made Fits make)
  made_format = record {
    takes = made_takes;
    again = made_again;
    whole = made_whole;
    stops = λ bytes left b e. made_stops bytes left b (read bytes) refl e;
    stuck = λ z front others rest b f w e n barred. bind_failed (read (spell front ++ rest)) (λ y. gave (make y.0) y.1) (length rest) (h.stuck f.0 front others rest b f.1 w (sym (named_is z f.0 f.2) ∙ e) n (λ y item more os g q p. barred (make y) item more os (y, g, refl) (same y ∙ q) p));
    some = make h.some;
    some_fits = (h.some, h.some_fits, refl);
  }
