-- Formats of things that are read one behind the other: a first part, and what it says of the rest; and many of a kind.
use Rattle.std.proofs.Common.{◌≡◌, ◌≢◌, refl, sym, subst, ap, ◌∙◌, ℕ, zero, suc, inl, inr, List, [], ◌∷◌, ◌++◌, length, Result, Ok, Err, append_assoc}
use Rattle.std.specs.List.{flat_map, AllByRecursion}
use Rattle.std.proofs.lemmas.List.{append-nil, append_cancel_left}
use Rattle.um_image.specs.Encoding.{Item, written, spell}
use Rattle.um_image.specs.Places.{IsWritten}
use Rattle.um_image.specs.Reading.{◌>>=◌, many_at}
use Rattle.um_image.proofs.Formats.{IsBytes, bytes_behind, spell-append, both_written, left_written, right_written, Cut, cut, gave, not_both, same_left, bind_ok, bind_done, bind_failed, NoMore, IsStop, IsFormat, done_format, Made, made_format}

-- z is a first part x and what x says of the rest
pub record Splits {X Z : Type 0} (first_items : X → List Item) (FirstFits : X → Type 0) (rest_items : X → Z → List Item) (RestFits : X → Z → Type 0) (items : Z → List Item) (Fits : Z → Type 0) : Type 0 where
  pub apart : (z : Z) → Fits z → (x : X) × FirstFits x × RestFits x z × (items z ≡ first_items x ++ rest_items x z)
  pub joined : (x : X) (z : Z) → FirstFits x → RestFits x z → Fits z × (items z ≡ first_items x ++ rest_items x z)

module _ {X Z : Type 0} (read : List ℕ → Result (X × List ℕ) ℕ) (first_items : X → List Item) (FirstFits : X → Type 0) (read_rest : X → List ℕ → Result (Z × List ℕ) ℕ) (rest_items : X → Z → List Item) (RestFits : X → Z → Type 0) (items : Z → List Item) (Fits : Z → Type 0) (first : IsFormat read first_items FirstFits) (others : (x : X) → FirstFits x → IsFormat (read_rest x) (rest_items x) (RestFits x)) (split : Splits first_items FirstFits rest_items RestFits items Fits) where
  abbrev pub chain : List ℕ → Result (Z × List ℕ) ℕ
  chain bytes = read bytes >>= λ x. read_rest x.0 x.1

  spelled : (x : X) (z : Z) (rest : List ℕ) → items z ≡ first_items x ++ rest_items x z → spell (items z) ++ rest ≡ spell (first_items x) ++ (spell (rest_items x z) ++ rest)
  spelled x z rest e = ap (λ (is : List Item). spell is ++ rest) e ∙ ap (λ (t : List ℕ). t ++ rest) (spell-append (first_items x) (rest_items x z)) ∙ append_assoc (spell (first_items x)) (spell (rest_items x z)) rest

  chain_done : (bytes : List ℕ) (x : X) (rest : List ℕ) → read bytes ≡ Ok (x, rest) → chain bytes ≡ read_rest x rest
  chain_done bytes x rest e = bind_done (read bytes) (λ y. read_rest y.0 y.1) (x, rest) e

  chain_takes : (bytes : List ℕ) (z : Z) (rest : List ℕ) → IsBytes bytes → chain bytes ≡ Ok (z, rest) → Fits z × IsWritten (items z) × (bytes ≡ spell (items z) ++ rest)
  chain_takes bytes z rest b e =
      let p = bind_ok (read bytes) (λ y. read_rest y.0 y.1) (z, rest) e in
      let x = p.0.0 in
      let more = p.0.1 in
      let t = first.takes bytes x more b p.1 in
      let u = (others x t.0).takes more z rest (bytes_behind (spell (first_items x)) more bytes t.2 b) p.2 in
      let j = split.joined x z t.0 u.0 in
      (j.0, subst IsWritten (sym j.1) (both_written (first_items x) (rest_items x z) t.1 u.1), t.2 ∙ ap (λ (r : List ℕ). spell (first_items x) ++ r) u.2 ∙ sym (spelled x z rest j.1))

  chain_again : (z : Z) (rest : List ℕ) → Fits z → IsWritten (items z) → chain (spell (items z) ++ rest) ≡ Ok (z, rest)
  chain_again z rest f w =
      let a = split.apart z f in
      let x = a.0 in
      let v : IsWritten (first_items x ++ rest_items x z) = subst IsWritten a.3 w in
      ap chain (spelled x z rest a.3)
      ∙ chain_done (spell (first_items x) ++ (spell (rest_items x z) ++ rest)) x (spell (rest_items x z) ++ rest) (first.again x (spell (rest_items x z) ++ rest) a.1 (left_written (first_items x) (rest_items x z) v))
      ∙ (others x a.1).again z rest a.2 (right_written (first_items x) (rest_items x z) v)

  -- the first parts of two lists of items that begin alike are the same
  same_first : (x y : X) (b d : List Item) → FirstFits x → FirstFits y → IsWritten (first_items x) → first_items y ++ b ≡ first_items x ++ d → x ≡ y
  same_first x y b d f g w e = by (cut (first_items y) b (first_items x) d e) where
    by : Cut (first_items y) b (first_items x) d → x ≡ y
    by (inl (m, p, q)) = first.whole x y m f g w p
    by (inr (m, p, q)) = sym (first.whole y x m g f (left_written (first_items y) m (subst IsWritten p w)) p)

  chain_whole : (z v : Z) (os : List Item) → Fits z → Fits v → IsWritten (items z) → items v ≡ items z ++ os → z ≡ v
  chain_whole z v os f g w e =
      let a = split.apart z f in
      let c = split.apart v g in
      let x = a.0 in
      let y = c.0 in
      let all : IsWritten (first_items x ++ rest_items x z) = subst IsWritten a.3 w in
      let line : first_items y ++ rest_items y v ≡ first_items x ++ (rest_items x z ++ os) = sym c.3 ∙ e ∙ ap (λ (is : List Item). is ++ os) a.3 ∙ append_assoc (first_items x) (rest_items x z) os in
      let same : x ≡ y = same_first x y (rest_items y v) (rest_items x z ++ os) a.1 c.1 (left_written (first_items x) (rest_items x z) all) line in
      let own : RestFits x v = subst (λ (u : X). RestFits u v) (sym same) c.2 in
      let here : first_items x ++ rest_items x v ≡ first_items x ++ (rest_items x z ++ os) = subst (λ (u : X). first_items u ++ rest_items u v ≡ first_items x ++ (rest_items x z ++ os)) (sym same) line in
      (others x a.1).whole z v os a.2 own (right_written (first_items x) (rest_items x z) all) (append_cancel_left (first_items x) (rest_items x v) (rest_items x z ++ os) here)

  -- ---- where the first part ends reading

  -- where the first part's items are some of these, it is read
  read_again : (y : X) (front m : List Item) (bytes rest : List ℕ) → FirstFits y → IsWritten front → front ≡ first_items y ++ m → bytes ≡ spell front ++ rest → read bytes ≡ Ok (y, spell m ++ rest)
  read_again y front m bytes rest g w e p =
      ap read (p ∙ ap (λ (is : List Item). spell is ++ rest) e ∙ ap (λ (t : List ℕ). t ++ rest) (spell-append (first_items y) m) ∙ append_assoc (spell (first_items y)) (spell m) rest)
      ∙ first.again y (spell m ++ rest) g (left_written (first_items y) m (subst IsWritten e w))

  module _ (bytes : List ℕ) (left : ℕ) (s : IsStop first_items FirstFits bytes left) (failed : read bytes ≡ Err left) where
    no_more_first : NoMore items Fits s.front s.rest
    no_more_first z item more os f q p = by (cut (first_items y) (rest_items y z) s.front (written item ∷ os) (sym a.3 ∙ q)) where
      a : (x : X) × FirstFits x × RestFits x z × (items z ≡ first_items x ++ rest_items x z)
      a = split.apart z f

      y : X
      y = a.0

      by : Cut (first_items y) (rest_items y z) s.front (written item ∷ os) → ⊥
      by (inl ([], e, k)) = not_both (read bytes) (y, spell [] ++ s.rest) left (read_again y s.front [] bytes s.rest a.1 s.have_bytes (sym (append-nil s.front) ∙ sym e ∙ sym (append-nil (first_items y))) s.parts) failed
      by (inl (c ∷ m, e, k)) =
          let head : c ≡ written item = cc in
          s.no_more y item more m a.1 (e ∙ ap (λ (i : Item). s.front ++ i ∷ m) head) p
      by (inr (m, e, k)) = not_both (read bytes) (y, spell m ++ s.rest) left (read_again y s.front m bytes s.rest a.1 s.have_bytes e s.parts) failed

    stop_first : IsStop items Fits bytes left
    stop_first =
        let z = (others s.one s.fits).some in
        let j = split.joined s.one z s.fits (others s.one s.fits).some_fits in
        record {
          front = s.front;
          rest = s.rest;
          one = z;
          others = s.others ++ rest_items s.one z;
          fits = j.0;
          begins = j.1 ∙ ap (λ (is : List Item). is ++ rest_items s.one z) s.begins ∙ append_assoc s.front s.others (rest_items s.one z);
          have_bytes = s.have_bytes;
          parts = s.parts;
          left_is = s.left_is;
          no_more = no_more_first;
        }

  -- ---- where what is behind it ends reading

  module _ (bytes : List ℕ) (left : ℕ) (x : X) (behind : List ℕ) (f : FirstFits x) (w : IsWritten (first_items x)) (parts : bytes ≡ spell (first_items x) ++ behind) (s : IsStop (rest_items x) (RestFits x) behind left) where
    no_more_behind : NoMore items Fits (first_items x ++ s.front) s.rest
    no_more_behind z item more os g q p =
        let a = split.apart z g in
        let y = a.0 in
        let line : first_items y ++ rest_items y z ≡ first_items x ++ (s.front ++ written item ∷ os) = sym a.3 ∙ q ∙ append_assoc (first_items x) s.front (written item ∷ os) in
        let same : x ≡ y = same_first x y (rest_items y z) (s.front ++ written item ∷ os) f a.1 w line in
        let own : RestFits x z = subst (λ (u : X). RestFits u z) (sym same) a.2 in
        let here : first_items x ++ rest_items x z ≡ first_items x ++ (s.front ++ written item ∷ os) = subst (λ (u : X). first_items u ++ rest_items u z ≡ first_items x ++ (s.front ++ written item ∷ os)) (sym same) line in
        s.no_more z item more os own (append_cancel_left (first_items x) (rest_items x z) (s.front ++ written item ∷ os) here) p

    stop_behind : IsStop items Fits bytes left
    stop_behind =
        let j = split.joined x s.one f s.fits in
        record {
          front = first_items x ++ s.front;
          rest = s.rest;
          one = s.one;
          others = s.others;
          fits = j.0;
          begins = j.1 ∙ ap (λ (is : List Item). first_items x ++ is) s.begins ∙ sym (append_assoc (first_items x) s.front s.others);
          have_bytes = both_written (first_items x) s.front w s.have_bytes;
          parts = parts ∙ ap (λ (t : List ℕ). spell (first_items x) ++ t) s.parts ∙ sym (append_assoc (spell (first_items x)) (spell s.front) s.rest) ∙ ap (λ (t : List ℕ). t ++ s.rest) (sym (spell-append (first_items x) s.front));
          left_is = s.left_is;
          no_more = no_more_behind;
        }

  chain_stops : (bytes : List ℕ) (left : ℕ) → IsBytes bytes → (r : Result (X × List ℕ) ℕ) → read bytes ≡ r → chain bytes ≡ Err left → IsStop items Fits bytes left
  chain_stops bytes left b (Err l) e q =
      let is : l ≡ left = same_left (chain bytes) l left (bind_failed (read bytes) (λ y. read_rest y.0 y.1) l e) q in
      let failed : read bytes ≡ Err left = e ∙ ap (λ (k : ℕ). Err k) is in
      stop_first bytes left (first.stops bytes left b failed) failed
  chain_stops bytes left b (Ok x) e q =
      let t = first.takes bytes x.0 x.1 b e in
      let failed : read_rest x.0 x.1 ≡ Err left = sym (chain_done bytes x.0 x.1 e) ∙ q in
      stop_behind bytes left x.0 x.1 t.0 t.1 t.2 ((others x.0 t.0).stops x.1 left (bytes_behind (spell (first_items x.0)) x.1 bytes t.2 b) failed)

  -- ---- where no item goes on

  module _ (z : Z) (front os : List Item) (rest : List ℕ) (b : IsBytes rest) (f : Fits z) (w : IsWritten front) (n : os ≢ []) (barred : NoMore items Fits front rest) where
    stuck_behind : (x : X) (m : List Item) → FirstFits x → RestFits x z → front ≡ first_items x ++ m → rest_items x z ≡ m ++ os → chain (spell front ++ rest) ≡ Err (length rest)
    stuck_behind x m g h e q =
        chain_done (spell front ++ rest) x (spell m ++ rest) (read_again x front m (spell front ++ rest) rest g w e refl)
        ∙ (others x g).stuck z m os rest b h (right_written (first_items x) m (subst IsWritten e w)) q n
        (λ v item more ks k p r. let j = split.joined x v g k in barred v item more ks j.0 (j.1 ∙ ap (λ (is : List Item). first_items x ++ is) p ∙ sym (append_assoc (first_items x) m (written item ∷ ks)) ∙ ap (λ (is : List Item). is ++ written item ∷ ks) (sym e)) r)

    stuck_first : (x : X) (c : Item) (m : List Item) → FirstFits x → first_items x ≡ front ++ c ∷ m → chain (spell front ++ rest) ≡ Err (length rest)
    stuck_first x c m g e =
        bind_failed (read (spell front ++ rest)) (λ y. read_rest y.0 y.1) (length rest)
        (first.stuck x front (c ∷ m) rest b g w e (λ (q : c ∷ m ≡ []). absurd cc)
        (λ y item more ks h p r. let v = (others y h).some in let j = split.joined y v h (others y h).some_fits in barred v item more (ks ++ rest_items y v) j.0 (j.1 ∙ ap (λ (is : List Item). is ++ rest_items y v) p ∙ append_assoc front (written item ∷ ks) (rest_items y v)) r))

    chain_stuck : (x : X) → FirstFits x → RestFits x z → Cut (first_items x) (rest_items x z) front os → chain (spell front ++ rest) ≡ Err (length rest)
    chain_stuck x g h (inl ([], e, q)) = stuck_behind x [] g h (sym (append-nil front) ∙ sym e ∙ sym (append-nil (first_items x))) q
    chain_stuck x g h (inl (c ∷ m, e, q)) = stuck_first x c m g e
    chain_stuck x g h (inr (m, e, q)) = stuck_behind x m g h e q

  pub chain_format : IsFormat chain items Fits
  chain_format = record {
    takes = chain_takes;
    again = chain_again;
    whole = chain_whole;
    stops = λ bytes left b e. chain_stops bytes left b (read bytes) refl e;
    stuck = λ z front os rest b f w e n barred. let a = split.apart z f in chain_stuck z front os rest b f w n barred a.0 a.1 a.2 (cut (first_items a.0) (rest_items a.0 z) front os (sym a.3 ∙ e));
    some = (others first.some first.some_fits).some;
    some_fits = (split.joined first.some (others first.some first.some_fits).some first.some_fits (others first.some first.some_fits).some_fits).0;
  }

-- ---- many

abbrev pub AreMany : {A : Type 0} → (A → Type 0) → ℕ → List A → Type 0
AreMany Fits n xs = (length xs ≡ n) × AllByRecursion Fits xs

-- the items behind those of the first
abbrev tail_items : {A : Type 0} → (A → List Item) → List A → List Item
tail_items items [] = []
tail_items items (x ∷ xs) = flat_map items xs

module _ {A : Type 0} (read : List ℕ → Result (A × List ℕ) ℕ) (items : A → List Item) (Fits : A → Type 0) (h : IsFormat read items Fits) where
  none_split : (xs : List A) → length xs ≡ 0 → xs ≡ []
  none_split [] e = refl
  none_split (x ∷ xs) e = absurd cc

  many_split : (n : ℕ) → Splits items Fits (λ (x : A) (xs : List A). tail_items items xs) (λ (x : A). Made (AreMany Fits n) (λ (xs : List A). x ∷ xs)) (flat_map items) (AreMany Fits (suc n))
  many_split n = record { apart = apart; joined = λ x ys f m. joined x ys m.0 f m.1 m.2 } where
    apart : (ys : List A) → AreMany Fits (suc n) ys → (x : A) × Fits x × Made (AreMany Fits n) (λ (xs : List A). x ∷ xs) ys × (flat_map items ys ≡ items x ++ tail_items items ys)
    apart [] (e, f) = absurd cc
    apart (x ∷ xs) (e, f) = let l : length xs ≡ n = cc in (x, f.0, (xs, (l, f.1), refl), refl)

    joined : (x : A) (ys xs : List A) → Fits x → AreMany Fits n xs → ys ≡ x ∷ xs → AreMany Fits (suc n) ys × (flat_map items ys ≡ items x ++ tail_items items ys)
    joined x ys xs f (e, g) q = subst (λ (zs : List A). AreMany Fits (suc n) zs × (flat_map items zs ≡ items x ++ tail_items items zs)) (sym q) ((ap suc e, (f, g)), refl)

  pub many_format : (n : ℕ) → IsFormat (many_at read n) (flat_map items) (AreMany Fits n)
  many_format zero = described (done_format {A = List A} [] (flat_map items) refl)
    where
      described : IsFormat (gave []) (flat_map items) (λ (xs : List A). xs ≡ []) → IsFormat (many_at read zero) (flat_map items) (AreMany Fits zero)
      described d = record {
        takes = λ bytes xs rest b e. let t = d.takes bytes xs rest b e in (subst (AreMany Fits zero) (sym t.0) (refl, tt), t.1, t.2);
        again = λ xs rest f w. d.again xs rest (none_split xs f.0) w;
        whole = λ xs ys others f g w e. d.whole xs ys others (none_split xs f.0) (none_split ys g.0) w e;
        stops = λ bytes left b e. absurd cc;
        stuck = λ xs front others rest b f w e n barred. d.stuck xs front others rest b (none_split xs f.0) w e n (λ ys item more os g q p. barred ys item more os (subst (AreMany Fits zero) (sym g) (refl, tt)) q p);
        some = [];
        some_fits = (refl, tt);
      }
  many_format (suc n) =
      chain_format read items Fits (λ (x : A) (bytes : List ℕ). many_at read n bytes >>= λ xs. Ok (x ∷ xs.0, xs.1)) (λ (x : A) (xs : List A). tail_items items xs) (λ (x : A). Made (AreMany Fits n) (λ (xs : List A). x ∷ xs)) (flat_map items) (AreMany Fits (suc n)) h
      (λ x f. made_format (many_at read n) (flat_map items) (AreMany Fits n) (λ (xs : List A). x ∷ xs) (tail_items items) (λ xs. refl) (many_format n))
      (many_split n)
