-- The numbers of the names of a table, as a map has them.
use Rattle.std.proofs.Common.{◌≡◌, ℕ, zero, suc, ◌+◌, ◌<◌, ◌≤◌, Bool, true, false, ◌||◌, List, [], ◌∷◌, ◌++◌, cond, Option, Some, None, length, sym, ap, ◌∙◌, subst, refl, arith, add-one}
use Rattle.std.specs.Prelude.{is_some, unwrap_or, IsSome}
use Rattle.std.specs.Option.{option_map}
use Rattle.std.specs.Global.{Vec}
use Rattle.std.specs.declared.cmp.PartialEq as eq
use Rattle.std.specs.declared.hash.Hash as hash
use Rattle.std.specs.declared.hash.Hasher as hasher
use Rattle.std.specs.declared.hash.BuildHasher as builder
use Rattle.std.specs.declared.collections.hash_map.Entry.{Entry}
use Rattle.std.specs.HashMap.{HashMap, IsUnchanged, ContainsKey, PutsEntry, hash_map_len, get, get_key}
use Rattle.std.specs.HashMap.Entry.{MatchEntry, IsEntryFor, entry_map_ref}
use Rattle.std.specs.declared.collections.hash_map.Entry.TheVariants.{Occupied, Vacant}
use Rattle.std_collections.specs.Layout.HashMapEntry.{entry_key, entry_value, map_with_value}
use Rattle.std.specs.List.{range_with_len}
use Rattle.std.specs.Map.{lookup, keys_of, values_of}
use Rattle.std.specs.Str.{bytes_eq}
use Rattle.std.proofs.lemmas.List.{length-append, map-append}
use Rattle.std.proofs.lemmas.Map.Steps.{set_value_same}
use Rattle.um_measures.specs.Known.{number_of, one_later, is_among}
use Rattle.um_measures.specs.NameNumbers.{AreNumbered}
use Rattle.um_measures.proofs.NameLists.{texts}

-- a name's key
abbrev pub is_name : List ℕ → Vec ℕ → Bool
is_name x k = bytes_eq x k.items

abbrev pub same_name : Vec ℕ → Vec ℕ → Bool
same_name k l = bytes_eq k.items l.items

-- the numbers are counted from a on
abbrev pub Counted : ℕ → List (Vec ℕ × ℕ) → Type 0
Counted a es = values_of es ≡ range_with_len a (length es)

-- whether the map has a name
pub has_name : {X : Type 0} (x : List ℕ) (es : List (Vec ℕ × X)) → is_some (lookup (is_name x) es) ≡ is_among (texts (keys_of es)) x
has_name x [] = refl
has_name x (e ∷ es) = by (bytes_eq x e.0.items) (has_name x es) where
  by : (b : Bool) → is_some (lookup (is_name x) es) ≡ is_among (texts (keys_of es)) x
      → is_some (cond b (Some e.1) (lookup (is_name x) es)) ≡ (b || is_among (texts (keys_of es)) x)
  by true h = refl
  by false h = h

number_from : (x : List ℕ) (es : List (Vec ℕ × ℕ)) (a : ℕ) → Counted a es → lookup (is_name x) es ≡ option_map (λ k. a + k) (number_of (texts (keys_of es)) x)
number_from x [] a h = refl
number_from x (e ∷ es) a h = by (bytes_eq x e.0.items) (number_of (texts (keys_of es)) x) (number_from x es (a + 1) (cc h)) where
  by : (b : Bool) (o : Option ℕ) → lookup (is_name x) es ≡ option_map (λ k. a + 1 + k) o
      → cond b (Some e.1) (lookup (is_name x) es) ≡ option_map (λ k. a + k) (cond b (Some 0) (one_later o))
  by true o f = let first : e.1 ≡ a = cc h in let same : e.1 ≡ a + 0 = omega (arith, first) in ap Some same
  by false None f = f
  by false (Some k) f = let same : a + 1 + k ≡ a + suc k = omega arith in f ∙ ap Some same

-- the number of a name
pub name_number : (x : List ℕ) (es : List (Vec ℕ × ℕ)) → Counted 0 es → lookup (is_name x) es ≡ number_of (texts (keys_of es)) x
name_number x es h = number_from x es 0 h ∙ by (number_of (texts (keys_of es)) x) where
  by : (o : Option ℕ) → option_map (λ k. 0 + k) o ≡ o
  by None = refl
  by (Some k) = let same : 0 + k ≡ k = omega arith in ap Some same

-- the entries with one more, if its name is new
abbrev pub with_name : List (Vec ℕ × ℕ) → Vec ℕ → ℕ → List (Vec ℕ × ℕ)
with_name es k n = cond (is_some (lookup (is_name k.items) es)) es (es ++ (k, n) ∷ [])

-- an entry's number is put, if it has none: a map puts a new entry after the others
module _ {S Z T : Type 0} {g : eq.Ghosts (Vec ℕ)} {h : hash.Ghosts (Vec ℕ)} {b : builder.Ghosts S T} {w : hasher.Ghosts T} (m : HashMap (Vec ℕ) ℕ S) (k : Vec ℕ) (n : ℕ) where
  pub put : (e : Entry (Vec ℕ) ℕ S Z T g h b w) → MatchEntry e (ContainsKey same_name m k × (get_key same_name m k ≡ Some (entry_key e))) (get same_name m k ≡ None)
      → entry_value e ≡ get same_name m k → (entry_value e ≡ None → entry_key e ≡ k) → IsUnchanged m (entry_map_ref e).now → IsEntryFor same_name m k e
      → (v : ℕ) → v ≡ unwrap_or (entry_value e) n → (map_with_value e v).entries ≡ with_name m.entries k n
  unfolding map_with_value entry_value entry_key
  put (Vacant x) found value key unchanged for v is =
      ap (λ es. es ++ (x.key, v) ∷ []) unchanged ∙ ap (λ y. m.entries ++ (y, v) ∷ []) (key refl) ∙ ap (λ v. m.entries ++ (k, v) ∷ []) is
      ∙ sym (ap (λ r. cond (is_some r) m.entries (m.entries ++ (k, n) ∷ [])) found)
  put (Occupied x) found value key unchanged for v is = by (get same_name m k) refl where
    by : (r : Option ℕ) → get same_name m k ≡ r → (map_with_value (Occupied x) v).entries ≡ with_name m.entries k n
    by None f = let bad : false ≡ true = subst IsSome f found.0 in absurd cc
    by (Some u) f =
        let same : v ≡ u = is ∙ ap (λ r. unwrap_or r n) (value ∙ f) in
        ap (λ v. (map_with_value (Occupied x) v).entries) same ∙ subst (PutsEntry same_name m (map_with_value (Occupied x) u) k u) f (for.1 u)
        ∙ set_value_same (same_name k) m.entries u f ∙ sym (ap (λ r. cond (is_some r) m.entries (m.entries ++ (k, n) ∷ [])) f)

-- the names with one more, if it is new
pub names_more : (old written : List (Vec ℕ × ℕ)) (k : Vec ℕ) (n : ℕ) → written ≡ with_name old k n → (names : List (List ℕ)) (x : List ℕ) → texts (keys_of old) ≡ names → k.items ≡ x
    → (new : List (Vec ℕ × ℕ)) → new ≡ written → texts (keys_of new) ≡ cond (is_among names x) names (names ++ x ∷ [])
names_more old written k n e names x f h new d =
    ap (λ es. texts (keys_of es)) (d ∙ e) ∙ by (is_some (lookup (is_name k.items) old)) ∙ ap (λ b. more b (texts (keys_of old)) k.items) (has_name k.items old)
    ∙ (λ i. more (is_among (f i) (h i)) (f i) (h i)) where
      more : Bool → List (List ℕ) → List ℕ → List (List ℕ)
      more b ns y = cond b ns (ns ++ y ∷ [])

      by : (b : Bool) → texts (keys_of (cond b old (old ++ (k, n) ∷ []))) ≡ more b (texts (keys_of old)) k.items
      by true = refl
      by false = ap texts (map-append (λ e. e.0) old ((k, n) ∷ [])) ∙ map-append (λ y. y.items) (keys_of old) (k ∷ [])

range_more : (a n : ℕ) → range_with_len a (n + 1) ≡ range_with_len a n ++ (a + n) ∷ []
range_more a n = ap (range_with_len a) (add-one n) ∙ by a n where
  by : (a n : ℕ) → range_with_len a (suc n) ≡ range_with_len a n ++ (a + n) ∷ []
  by a zero = let same : a ≡ a + 0 = omega arith in ap (λ k. k ∷ []) same
  by a (suc n) = let same : a + 1 + n ≡ a + suc n = omega arith in ap (λ ks. a ∷ ks) (by (a + 1) n ∙ ap (λ k. range_with_len (a + 1) n ++ k ∷ []) same)

-- a new name has the number of names so far
pub numbers_more : {S : Type 0} (old written : HashMap (Vec ℕ) ℕ S) (k : Vec ℕ) (n : ℕ) → AreNumbered old → written.entries ≡ with_name old.entries k n
    → n ≡ hash_map_len old → n < 4294967295 → (new : HashMap (Vec ℕ) ℕ S) → new ≡ written → AreNumbered new
numbers_more old written k n h e size room new d = by (is_some (lookup (is_name k.items) old.entries)) (ap (λ m. m.entries) d ∙ e) where
  by : (b : Bool) → new.entries ≡ cond b old.entries (old.entries ++ (k, n) ∷ []) → AreNumbered new
  by true f = record { few = subst (λ es. length es ≤ 4294967295) (sym f) h.few; same = subst (Counted 0) (sym f) h.same }
  by false f =
      let long = length-append old.entries ((k, n) ∷ []) in
      let from_zero : n ≡ 0 + hash_map_len old = omega (arith, size) in
      let counted : Counted 0 (old.entries ++ (k, n) ∷ []) =
      map-append (λ e. e.1) old.entries ((k, n) ∷ []) ∙ ap (λ ns. ns ++ n ∷ []) h.same
      ∙ ap (λ j. range_with_len 0 (hash_map_len old) ++ j ∷ []) from_zero ∙ sym (range_more 0 (hash_map_len old)) ∙ ap (range_with_len 0) (sym long) in
      record { few = subst (λ es. length es ≤ 4294967295) (sym f) (omega (arith, long, size, room)); same = subst (Counted 0) (sym f) counted }
