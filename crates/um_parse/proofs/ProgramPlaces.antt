-- Tokens that begin one after another leave each function as many places as it has nodes.
use Rattle.std.proofs.Common.{◌≡◌, ℕ, ◌+◌, ◌-◌, ◌≤◌, List, [], ◌∷◌, ◌++◌, length, Bool, true, false, sym, ap, subst, ◌∙◌, append_assoc, arith}
use Rattle.std.proofs.lemmas.List.{length-append}
use Rattle.um_syntax.specs.declared.token.Token.{Token}
use Rattle.um_tree.specs.RawTree.{FunctionSyntax, DeclSyntax, base_syntax, short_syntax, record_decl_syntax, function_syntax}
use Rattle.um_tree.specs.Heights.{expr_nodes}
use Rattle.um_forms.specs.declared.token.ExprToken.{ExprToken}
use Rattle.um_expr.specs.ExprGrammar.{First, FirstAt}
use Rattle.um_parse.specs.DeclGrammar.{Attribute, RecSpells, FunctionSpells, DeclSpells, DeclsSpell, DeclFits, DeclsFit, IsProgram}
use Rattle.um_parse.specs.ProgramLimits.{name_place}
use Rattle.um_parse.specs.ProgramNodes.{decl_nodes}
use Rattle.um_parse.specs.Spaced.{Rises, first_place, Spaced}
use Rattle.um_parse.proofs.DeclComplete.{decl_yields}
use Rattle.um_parse.proofs.ProgramNodes.{function_room}

-- ---- places that rise

pub rises_from : (from other end : ℕ) (ts : List Token) → other ≤ from → Rises from ts end → Rises other ts end
rises_from from other end [] le r = omega (arith, le, r)
rises_from from other end (t ∷ ts) le r = (omega (arith, le, r.0), r.1)

pub rises_to : (from end other : ℕ) (ts : List Token) → end ≤ other → Rises from ts end → Rises from ts other
rises_to from end other [] le r = omega (arith, le, r)
rises_to from end other (t ∷ ts) le r = (r.0, rises_to (t.start + 1) end other ts le r.1)

-- one token more
pub rises_on : (from end : ℕ) (ts : List Token) (x : Token) → Rises from ts end → end ≤ x.start → Rises from (ts ++ x ∷ []) (x.start + 1)
rises_on from end [] x r le = (omega (arith, le, r), omega arith)
rises_on from end (t ∷ ts) x r le = (r.0, rises_on (t.start + 1) end ts x r.1 le)

rises_behind : (from end : ℕ) (read rest : List Token) → Rises from (read ++ rest) end → Rises (from + length read) rest end
rises_behind from end [] rest r = rises_from from (from + 0) end rest (omega arith) r
rises_behind from end (t ∷ read) rest r =
    rises_from (t.start + 1 + length read) (from + length (t ∷ read)) end rest (omega (arith, r.0)) (rises_behind (t.start + 1) end read rest r.1)

-- ---- the name of a declaration, and what stands behind it

abbrev Reads : List Token → List Token → Type 0
Reads tokens rest = (read : List Token) × (tokens ≡ read ++ rest)

then_reads : (tokens mid rest : List Token) → Reads tokens mid → Reads mid rest → Reads tokens rest
then_reads tokens mid rest a b = (a.0 ++ b.0, a.1 ∙ ap (λ (ts : List Token). a.0 ++ ts) b.1 ∙ sym (append_assoc a.0 b.0 rest))

reads_first : (what : ExprToken) (tokens rest : List Token) → First what tokens rest → Reads tokens rest
reads_first what tokens rest f = (f.0 ∷ [], f.2)

reads_attribute : (tokens rest : List Token) → Attribute tokens rest → Reads tokens rest
reads_attribute tokens rest s =
    then_reads tokens s.0 rest (reads_first _ tokens s.0 s.3)
    (then_reads s.0 s.1 rest (reads_first _ s.0 s.1 s.4) (then_reads s.1 s.2 rest (reads_first _ s.1 s.2 s.5) (reads_first _ s.2 rest s.6)))

reads_rec : (recursive : Bool) (tokens rest : List Token) → RecSpells recursive tokens rest → Reads tokens rest
reads_rec false tokens rest s = ([], s)
reads_rec true tokens rest s = reads_first _ tokens rest s

-- the token of the name, between those before it and those after it
record Named (d : DeclSyntax) (tokens after : List Token) : Type 0 where
  token : Token
  start : token.start ≡ name_place d
  before : List Token
  is : tokens ≡ before ++ token ∷ after

named_at : (d : DeclSyntax) (what : ExprToken) (tokens named after : List Token) → Reads tokens named → FirstAt what (name_place d) named after → Named d tokens after
named_at d what tokens named after r f = record { token = f.0; start = f.2; before = r.0; is = r.1 ∙ ap (λ (ts : List Token). r.0 ++ ts) f.3 }

function_name : (f : FunctionSyntax) (tokens rest : List Token) → (s : FunctionSpells f tokens rest) → Named (function_syntax f) tokens s.2
function_name f tokens rest s = named_at (function_syntax f) _ tokens s.1 s.2 (then_reads tokens s.0 s.1 (reads_first _ tokens s.0 s.7) (reads_rec f.recursive s.0 s.1 s.8)) s.9

decl_name : (d : DeclSyntax) (tokens rest : List Token) → DeclSpells d tokens rest → (after : List Token) × Named d tokens after
decl_name (base_syntax at x) tokens rest s =
    (rest, named_at (base_syntax at x) _ tokens s.1 rest (then_reads tokens s.0 s.1 (reads_attribute tokens s.0 s.2) (reads_first _ s.0 s.1 s.3)) s.4)
decl_name (short_syntax at x u) tokens rest s =
    (s.2, named_at (short_syntax at x u) _ tokens s.1 s.2 (then_reads tokens s.0 s.1 (reads_attribute tokens s.0 s.4) (reads_first _ s.0 s.1 s.5)) s.6)
decl_name (record_decl_syntax at x vs fs) tokens rest s = (s.1, named_at (record_decl_syntax at x vs fs) _ tokens s.0 s.1 (reads_first _ tokens s.0 s.6) s.7)
decl_name (function_syntax f) tokens rest s = (s.2, function_name f tokens rest s)

-- of two ends of the same tokens the shorter one is an end of the other
shorter : (before : List Token) (x : Token) (after read rest : List Token) → before ++ x ∷ after ≡ read ++ rest → length rest ≤ length after → Reads after rest
shorter [] x after [] rest e le = let same : length (x ∷ after) ≡ length rest = ap length e in absurd (omega (arith, same, le))
shorter [] x after (r ∷ read) rest e le = (read, cc)
shorter (b ∷ before) x after [] rest e le =
    let same : length (b ∷ before ++ x ∷ after) ≡ length rest = ap length e in
    absurd (omega (arith, same, le, length-append before (x ∷ after)))
shorter (b ∷ before) x after (r ∷ read) rest e le = let tail : before ++ x ∷ after ≡ read ++ rest = cc in shorter before x after read rest tail le

-- ---- room for the nodes

after_name : (from end : ℕ) (d : DeclSyntax) (tokens after : List Token) → Named d tokens after → Rises from tokens end → (from ≤ name_place d) × Rises (name_place d + 1) after end
after_name from end d tokens after n r =
    let seen = rises_behind from end n.before (n.token ∷ after) (subst (λ (ts : List Token). Rises from ts end) n.is r) in
    let low = seen.0 in
    (subst (λ (k : ℕ). from ≤ k) n.start (omega (arith, low)), subst (λ (k : ℕ). Rises (k + 1) after end) n.start seen.1)

decl_spaced : (from end : ℕ) (d : DeclSyntax) (ds : List DeclSyntax) (tokens rest : List Token) → DeclSpells d tokens rest → DeclFits d → Rises from tokens end → ((next : ℕ) → Rises next rest end → next ≤ first_place ds end)
    → (from ≤ name_place d) × (decl_nodes d ≤ first_place ds end - name_place d) × Rises from rest end
decl_spaced from end (function_syntax f) ds tokens rest s fits r behind =
    let whole = decl_yields (function_syntax f) tokens rest s fits in
    let y = whole.1 in
    let n = function_name f tokens rest s in
    let seen = after_name from end (function_syntax f) tokens s.2 n r in
    let room = function_room f tokens rest s fits in
    let inner = shorter n.before n.token s.2 y.0 rest (sym n.is ∙ y.1) (omega (arith, room)) in
    let left : Rises (f.at + 1 + length inner.0) rest end = rises_behind (f.at + 1) end inner.0 rest (subst (λ (ts : List Token). Rises (f.at + 1) ts end) inner.1 seen.1) in
    let next = behind (f.at + 1 + length inner.0) left in
    let size : length s.2 ≡ length inner.0 + length rest = ap length inner.1 ∙ length-append inner.0 rest in
    let low = seen.0 in
    let fit : expr_nodes f.body ≤ first_place ds end - f.at = omega (arith, room, size, next) in
    (low, fit, rises_from (f.at + 1 + length inner.0) from end rest (omega (arith, low)) left)
decl_spaced from end d ds tokens rest s fits r behind =
    let whole = decl_yields d tokens rest s fits in
    let y = whole.1 in
    let n = decl_name d tokens rest s in
    let seen = after_name from end d tokens n.0 n.1 r in
    let left = rises_behind from end y.0 rest (subst (λ (ts : List Token). Rises from ts end) y.1 r) in
    (seen.0, omega arith, rises_from (from + length y.0) from end rest (omega arith) left)

decls_spaced : (from end : ℕ) (ds : List DeclSyntax) (tokens : List Token) → DeclsSpell ds tokens [] → DeclsFit ds → Rises from tokens end → (from ≤ first_place ds end) × Spaced ds end
decls_spaced from end [] tokens s fits r = (subst (λ ts. Rises from ts end) s r, tt)
decls_spaced from end (d ∷ ds) tokens s fits r =
    let one = decl_spaced from end d ds tokens s.0 s.1 fits.0 r (λ next q. (decls_spaced next end ds s.0 s.2 fits.1 q).0) in
    (one.0, (one.1, (decls_spaced from end ds s.0 s.2 fits.1 one.2).1))

pub program_spaced : (end : ℕ) (ds : List DeclSyntax) (tokens : List Token) → IsProgram tokens ds → Rises 0 tokens end → Spaced ds end
program_spaced end ds tokens p r = (decls_spaced 0 end ds tokens p.spelled p.fits r).1
