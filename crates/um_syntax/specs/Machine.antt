-- The machine that reads a text character by character. The definitions of tokens and refusals don't rest on it; that
-- it gives them is proved.
use Rattle.std.specs.Prelude.{◌≡◌, ℕ, ◌+◌, ◌≤◌, ◌-◌, ◌*◌, ◌^◌, Bool, true, false, not, cond, ◌==◌, ◌||◌, ◌&&◌, nat_lt}
use Rattle.std.specs.Prelude.{nat_le, List, [], ◌∷◌, ◌++◌, length, take, drop, pos, Option, None, Some, is_some}
use Rattle.std.specs.Prelude.{option_map, Result, Ok, Err}
use Rattle.std.specs.Coded.{×_prop, Unit-prop, le_prop}
use Rattle.std.specs.Char.{is_ascii_digit, is_ascii_alphabetic, is_ascii_alphanumeric, len_utf8, encode_utf8}
use Rattle.std.specs.Str.{bytes_eq}
use Rattle.unicode_ident.specs.Ident.{is_xid_continue}
use Rattle.um_frac.specs.Fraction.{reduced}
use Rattle.um_syntax.specs.declared.token.Kind.{Kind}
use Rattle.um_syntax.specs.declared.token.Kind.TheVariants as kind
use Rattle.um_syntax.specs.declared.token.Token.{Token}
use Rattle.um_syntax.specs.declared.token.LexStop.{LexStop}
use Rattle.um_syntax.specs.declared.token.LexStop.TheVariants.{BadChar, NumberRange, PowerText}
use Rattle.um_syntax.specs.declared.number.Part.{Part}
use Rattle.um_syntax.specs.declared.number.Part.TheVariants as part
use Rattle.um_syntax.specs.declared.number.Figures.{Figures}
use Rattle.um_syntax.specs.declared.pending.Pending.{Pending}
use Rattle.um_syntax.specs.declared.pending.Pending.TheVariants as pending
use Rattle.um_vocabulary.specs.declared.vocabulary.Keyword.{Keyword}
use Rattle.um_vocabulary.specs.declared.vocabulary.Symbol.{Symbol}
use Rattle.um_vocabulary.specs.declared.vocabulary.Symbol.TheVariants as symbol
use Rattle.um_vocabulary.specs.Tables.{keyword_of, single_symbol, double_symbol}
use Rattle.um_syntax.specs.Gap.{is_space}
use Rattle.um_syntax.specs.Lexeme.{starts_name}
use Rattle.um_syntax.specs.Lexing.{is_glued, is_power_place}

-- the state: the place of the next character, the tokens so far, the letters of a name that has begun, and what has
-- begun
pub record Scan : Type 0 where
  pub at : ℕ
  pub tokens : List Token
  pub letters : List ℕ
  pub pending : Pending

abbrev pub scan_start : Scan
scan_start = record { at = 0; tokens = []; letters = []; pending = pending.Start }

-- Digits. A number stands still at 10 ^ 38, and a count of digits at 39: numbers in range have 38 digits at most.
abbrev pub with_digit : ℕ → ℕ → ℕ
with_digit n d = cond (nat_lt n (10 ^ 37)) (10 * n + d) (10 ^ 38)

abbrev pub one_more : ℕ → ℕ
one_more n = cond (nat_lt n 39) (n + 1) 39

-- the parts of the digits so far are within their limits
abbrev pub FiguresFit : Figures → Type 0
FiguresFit f = (f.above ≤ 10 ^ 38) × (f.below ≤ 10 ^ 38)

abbrev pub PendingFits : Pending → Type 0
PendingFits (pending.Number start end p f) = FiguresFit f
PendingFits _ = Unit {0}

pub PendingFits-prop : (p : Pending) → IsProp (PendingFits p)
PendingFits-prop (pending.Number start end p f) = ×_prop le_prop le_prop
PendingFits-prop _ = Unit-prop

abbrev pub first_figures : ℕ → Figures
first_figures d = record { above = d; below = 1; count = 1 }

abbrev pub more_figures : Part → Figures → ℕ → Figures
more_figures part.Whole f d = record { above = with_digit f.above d; below = f.below; count = one_more f.count }
more_figures part.Point f d =
    record { above = with_digit f.above d; below = with_digit f.below 0; count = one_more f.count }
more_figures part.Decimal f d =
    record { above = with_digit f.above d; below = with_digit f.below 0; count = one_more f.count }
more_figures part.Over f d = record { above = f.above; below = d; count = one_more f.count }
more_figures part.Ratio f d = record { above = f.above; below = with_digit f.below d; count = one_more f.count }

abbrev pub part_after_digit : Part → Part
part_after_digit part.Whole = part.Whole
part_after_digit part.Point = part.Decimal
part_after_digit part.Decimal = part.Decimal
part_after_digit part.Over = part.Ratio
part_after_digit part.Ratio = part.Ratio

-- a number's text so far is digits alone, whatever has been read after it
abbrev pub is_whole_part : Part → Bool
is_whole_part part.Whole = true
is_whole_part part.Point = true
is_whole_part part.Over = true
is_whole_part part.Decimal = false
is_whole_part part.Ratio = false

abbrev pub is_allowed : Bool → Part → Figures → Bool
is_allowed power p f = cond power (is_whole_part p && nat_le f.above 2147483647) (nat_le f.count 38)

abbrev pub is_one_figure : Part → Figures → Bool
is_one_figure p f = is_whole_part p && (f.count == 1 && f.above == 1)

abbrev pub figures_kind : Bool → Part → Figures → Option Kind
figures_kind power p f =
    option_map (λ v. kind.Number v (is_whole_part p) (is_one_figure p f))
    (cond (is_allowed power p f) (reduced (pos f.above) (pos f.below)) None)

-- the state with one more token, and nothing begun
abbrev pub pushed : Scan → Kind → ℕ → ℕ → Scan
pushed s kind start end = record {
  at = s.at;
  tokens = s.tokens ++ record { kind = kind; start = start; end = end; glued = is_glued s.tokens start } ∷ [];
  letters = [];
  pending = pending.Free;
}

abbrev pub freed : Scan → Scan
freed s = record { at = s.at; tokens = s.tokens; letters = s.letters; pending = pending.Free }

-- the kind of an identifier's letters
abbrev pub word_kind : List ℕ → Option Keyword → Kind
word_kind letters (Some k) = kind.Word k
word_kind letters None = cond (bytes_eq letters (95 ∷ [])) kind.Hole (kind.Name letters)

abbrev pub letters_kind : List ℕ → Kind
letters_kind letters = word_kind letters (keyword_of letters)

abbrev pub identifier_pushed : Scan → ℕ → Scan
identifier_pushed s start = pushed s (letters_kind s.letters) start s.at

-- a variable's token; if the letters are a word, the last of them is a name by itself
abbrev pub variable_pushed : Scan → ℕ → ℕ → Scan
variable_pushed s start last =
    cond (is_some (keyword_of s.letters))
    (
    pushed (pushed s (kind.Var (take (length s.letters - 1) s.letters)) start last)
    (kind.Name (drop (length s.letters - 1) s.letters)) last s.at
    )
    (pushed s (kind.Var s.letters) start s.at)

-- what follows a number's token
abbrev pub part_pushed : Part → Scan → ℕ → Result Scan LexStop
part_pushed part.Whole s end = Ok s
part_pushed part.Decimal s end = Ok s
part_pushed part.Ratio s end = Ok s
part_pushed part.Point s end = Ok (pushed s (kind.Sign symbol.Dot) end s.at)
part_pushed part.Over s end = Err (BadChar end)

abbrev pub number_pushed : Scan → ℕ → ℕ → Part → Bool → Option Kind → Result Scan LexStop
number_pushed s start end p power (Some kind) = part_pushed p (pushed s kind start end) end
number_pushed s start end p true None = Err (PowerText start)
number_pushed s start end p false None = Err (NumberRange start)

abbrev pub sign_pushed : Scan → ℕ → Option Symbol → Result Scan LexStop
sign_pushed s start (Some k) = Ok (pushed s (kind.Sign k) start s.at)
sign_pushed s start None = Err (BadChar start)

-- the state once what has begun has ended
abbrev pub close : Scan → Pending → Result Scan LexStop
close s pending.Start = Ok (freed s)
close s pending.Free = Ok (freed s)
close s pending.Comment = Ok (freed s)
close s (pending.Identifier start) = Ok (identifier_pushed s start)
close s (pending.Quote start) = Err (BadChar start)
close s (pending.Variable start last) =
    cond (bytes_eq s.letters (95 ∷ [])) (Err (BadChar start)) (Ok (variable_pushed s start last))
close s (pending.Number start end p f) =
    number_pushed s start end p (is_power_place s.tokens) (figures_kind (is_power_place s.tokens) p f)
close s (pending.Symbol start first) = sign_pushed s start (single_symbol first)

-- whether a character belongs to what has begun
abbrev pub part_takes : Part → ℕ → Bool
part_takes part.Whole c = is_ascii_digit c || (c == 46 || c == 114)
part_takes _ c = is_ascii_digit c

abbrev pub takes : Pending → ℕ → Bool
takes pending.Start c = c == 65279
takes pending.Free c = false
takes pending.Comment c = true
takes (pending.Identifier start) c = is_xid_continue c
takes (pending.Quote start) c = starts_name c
takes (pending.Variable start last) c = is_xid_continue c
takes (pending.Number start end p f) c = part_takes p c
takes (pending.Symbol start first) c = is_some (double_symbol first c) || (first == 47 && c == 47)

-- whether a byte is a character that goes on with what has begun, and changes nothing of it but its letters
abbrev pub keeps : Pending → ℕ → Bool
keeps pending.Free b = b == 32 || (b == 9 || b == 13)
keeps pending.Comment b = nat_lt b 128 && not (b == 10)
keeps (pending.Identifier start) b = is_ascii_alphanumeric b || b == 95
keeps _ b = false

abbrev pub AllKept : Pending → List ℕ → Type 0
AllKept p [] = Unit {0}
AllKept p (b ∷ bs) = (keeps p b ≡ true) × AllKept p bs

-- whether the first byte is a character that begins a name
abbrev pub begins_name : List ℕ → Bool
begins_name [] = false
begins_name (b ∷ bs) = b == 95 || is_ascii_alphabetic b

-- the bytes begin a name and go on with it
abbrev pub IsNameRun : List ℕ → Type 0
IsNameRun [] = ⊥
IsNameRun (b ∷ bs) = (begins_name (b ∷ bs) ≡ true) × AllKept (pending.Identifier 0) bs

-- whether the first byte is an ASCII character that goes on with no name; and with no number either
abbrev pub ends_name : List ℕ → Bool
ends_name [] = false
ends_name (b ∷ bs) = nat_lt b 128 && not (keeps (pending.Identifier 0) b)

abbrev pub ends_number : List ℕ → Bool
ends_number [] = false
ends_number (b ∷ bs) = ends_name (b ∷ bs) && not (b == 46)

-- the state in which nothing has begun
abbrev pub free_at : ℕ → List Token → Scan
free_at at tokens = record { at = at; tokens = tokens; letters = []; pending = pending.Free }

abbrev pub at_state : Scan → ℕ → List ℕ → Pending → Scan
at_state s at letters p = record { at = at; tokens = s.tokens; letters = letters; pending = p }

abbrev pub number_taken : ℕ → ℕ → Part → Figures → ℕ → ℕ → Pending
number_taken start end p f c next =
    cond (is_ascii_digit c) (pending.Number start next (part_after_digit p) (more_figures p f (c - 48)))
    (pending.Number start end (cond (c == 46) part.Point part.Over) f)

abbrev pub symbol_taken : Scan → ℕ → ℕ → Option Symbol → Scan
symbol_taken s start next (Some k) = pushed (at_state s next s.letters pending.Free) (kind.Sign k) start next
symbol_taken s start next None = at_state s next s.letters pending.Comment

-- the state with that character; `next` is the place after it
abbrev pub taken : Scan → Pending → ℕ → ℕ → Scan
taken s pending.Start c next = at_state s next s.letters pending.Free
taken s pending.Free c next = at_state s next s.letters pending.Free
taken s pending.Comment c next = at_state s next s.letters (cond (c == 10) pending.Free pending.Comment)
taken s (pending.Identifier start) c next = at_state s next (s.letters ++ encode_utf8 c) (pending.Identifier start)
taken s (pending.Quote start) c next = at_state s next (s.letters ++ encode_utf8 c) (pending.Variable start s.at)
taken s (pending.Variable start last) c next =
    at_state s next (s.letters ++ encode_utf8 c) (pending.Variable start s.at)
taken s (pending.Number start end p f) c next = at_state s next s.letters (number_taken start end p f c next)
taken s (pending.Symbol start first) c next = symbol_taken s start next (double_symbol first c)

-- the state after the first character of something, if nothing has begun
abbrev pub begun : Scan → ℕ → ℕ → Result Scan LexStop
begun s c next =
    cond (is_space c) (Ok (at_state s next s.letters pending.Free))
    (cond (starts_name c) (Ok (at_state s next (s.letters ++ encode_utf8 c) (pending.Identifier s.at)))
    (cond (is_ascii_digit c)
    (Ok (at_state s next s.letters (pending.Number s.at next part.Whole (first_figures (c - 48)))))
    (cond (c == 39) (Ok (at_state s next s.letters (pending.Quote s.at)))
    (cond (is_some (single_symbol c) || c == 38) (Ok (at_state s next s.letters (pending.Symbol s.at c)))
    (Err (BadChar s.at))))))

-- no letter may directly follow a number, so none follows one that has its last digit
abbrev pub ends_in_digit : Pending → Bool
ends_in_digit (pending.Number start end part.Whole f) = true
ends_in_digit (pending.Number start end part.Decimal f) = true
ends_in_digit (pending.Number start end part.Ratio f) = true
ends_in_digit (pending.Number start end part.Point f) = false
ends_in_digit (pending.Number start end part.Over f) = false
ends_in_digit _ = false

abbrev pub followed : Result Scan LexStop → Pending → ℕ → ℕ → Result Scan LexStop
followed (Ok s) p c next = cond (ends_in_digit p && is_xid_continue c) (Err (BadChar s.at)) (begun s c next)
followed (Err stop) p c next = Err stop

-- one character
abbrev pub step : Scan → ℕ → Result Scan LexStop
step s c =
    cond (takes s.pending c) (Ok (taken s s.pending c (s.at + len_utf8 c)))
    (followed (close s s.pending) s.pending c (s.at + len_utf8 c))

-- all characters
abbrev pub steps : Result Scan LexStop → List ℕ → Result Scan LexStop
steps r [] = r
steps (Ok s) (c ∷ cs) = steps (step s c) cs
steps (Err stop) (c ∷ cs) = Err stop

-- the bytes are digits, with a point or an r among them, that are read as a number's text if nothing has begun
abbrev pub IsNumberRun : List ℕ → ℕ → Part → Figures → Type 0
IsNumberRun bs end p f =
    (at : ℕ) (tokens : List Token)
    → steps (Ok (free_at at tokens)) bs
    ≡ Ok (record { at = at + length bs; tokens = tokens; letters = []; pending = pending.Number at (at + end) p f })

-- By these characters the machine gets from one state to another; or the next character leads it on as it does there.
abbrev pub Reaches : Scan → List ℕ → Scan → List ℕ → Type 0
Reaches old cs new [] = steps (Ok old) cs ≡ Ok new
Reaches old cs new (c ∷ more) = steps (Ok old) (cs ++ c ∷ []) ≡ step new c

-- the tokens once the text has ended
abbrev pub tokens_of : Result Scan LexStop → Result (List Token) LexStop
tokens_of (Ok s) = Ok s.tokens
tokens_of (Err stop) = Err stop

abbrev pub ended : Result Scan LexStop → Result (List Token) LexStop
ended (Ok s) = tokens_of (close s s.pending)
ended (Err stop) = Err stop

abbrev pub scanned : List ℕ → Result (List Token) LexStop
scanned chars = ended (steps (Ok scan_start) chars)
