-- The longest punctuator is looked up by length.
use Rattle.std.proofs.Common.{◌≡◌, ℕ, ◌<◌, ◌≤◌, Bool, true, false, cond, List, [], ◌∷◌, ◌++◌, length, take, drop, Option, Some, None, sym, ap, subst, ◌∙◌, arith}
use Rattle.std.specs.Prelude.{find, codes}
use Rattle.std.specs.List.{AllByRecursion}
use Rattle.std.proofs.lemmas.Slice.Eq.{bytes_eq-Decides}
use Rattle.std.proofs.lemmas.List.{take-append-drop}
use Rattle.std.proofs.Math.Seq.{take-append_seam}
use Rattle.c_lex.specs.declared.token.Mark.{Mark}
use Rattle.c_lex.specs.declared.token.Mark.TheVariants as mark
use Rattle.c_lex.specs.Blanks.{BeginsWith}
use Rattle.c_lex.specs.Words.{mark_text, IsMark}
use Rattle.c_lex.specs.Reading.{begins_with}
use Rattle.c_lex.proofs.KeywordLaws.{passes, none_passes}

abbrev pub three : List Mark
three =
    mark.ShiftLeftAssign ∷ mark.ShiftRightAssign ∷ []

abbrev pub two : List Mark
two =
    mark.Arrow ∷ mark.PlusAssign ∷ mark.MinusAssign ∷ mark.StarAssign ∷ mark.SlashAssign ∷ mark.PercentAssign ∷ mark.AmpersandAssign ∷ mark.CaretAssign ∷ mark.BarAssign ∷ mark.OrOr ∷ mark.AndAnd ∷ mark.Equal ∷ mark.NotEqual ∷ mark.AtMost ∷ mark.AtLeast ∷ mark.ShiftLeft ∷ mark.ShiftRight ∷ mark.PlusPlus ∷ mark.MinusMinus ∷ []

abbrev pub one : List Mark
one =
    mark.OpenParen ∷ mark.CloseParen ∷ mark.OpenBracket ∷ mark.CloseBracket ∷ mark.OpenBrace ∷ mark.CloseBrace ∷ mark.Semicolon ∷ mark.Comma ∷ mark.Colon ∷ mark.Question ∷ mark.Dot ∷ mark.Assign ∷ mark.Bar ∷ mark.Caret ∷ mark.Ampersand ∷ mark.Less ∷ mark.Greater ∷ mark.Plus ∷ mark.Minus ∷ mark.Star ∷ mark.Slash ∷ mark.Percent ∷ mark.Tilde ∷ mark.Bang ∷ []

pub every : (P : Mark → Type 0) → AllByRecursion P one → AllByRecursion P two → AllByRecursion P three → (m : Mark) → P m
every P x y z mark.OpenParen = x.0
every P x y z mark.CloseParen = x.1.0
every P x y z mark.OpenBracket = x.1.1.0
every P x y z mark.CloseBracket = x.1.1.1.0
every P x y z mark.OpenBrace = x.1.1.1.1.0
every P x y z mark.CloseBrace = x.1.1.1.1.1.0
every P x y z mark.Semicolon = x.1.1.1.1.1.1.0
every P x y z mark.Comma = x.1.1.1.1.1.1.1.0
every P x y z mark.Colon = x.1.1.1.1.1.1.1.1.0
every P x y z mark.Question = x.1.1.1.1.1.1.1.1.1.0
every P x y z mark.Dot = x.1.1.1.1.1.1.1.1.1.1.0
every P x y z mark.Arrow = y.0
every P x y z mark.Assign = x.1.1.1.1.1.1.1.1.1.1.1.0
every P x y z mark.PlusAssign = y.1.0
every P x y z mark.MinusAssign = y.1.1.0
every P x y z mark.StarAssign = y.1.1.1.0
every P x y z mark.SlashAssign = y.1.1.1.1.0
every P x y z mark.PercentAssign = y.1.1.1.1.1.0
every P x y z mark.AmpersandAssign = y.1.1.1.1.1.1.0
every P x y z mark.CaretAssign = y.1.1.1.1.1.1.1.0
every P x y z mark.BarAssign = y.1.1.1.1.1.1.1.1.0
every P x y z mark.ShiftLeftAssign = z.0
every P x y z mark.ShiftRightAssign = z.1.0
every P x y z mark.OrOr = y.1.1.1.1.1.1.1.1.1.0
every P x y z mark.AndAnd = y.1.1.1.1.1.1.1.1.1.1.0
every P x y z mark.Bar = x.1.1.1.1.1.1.1.1.1.1.1.1.0
every P x y z mark.Caret = x.1.1.1.1.1.1.1.1.1.1.1.1.1.0
every P x y z mark.Ampersand = x.1.1.1.1.1.1.1.1.1.1.1.1.1.1.0
every P x y z mark.Equal = y.1.1.1.1.1.1.1.1.1.1.1.0
every P x y z mark.NotEqual = y.1.1.1.1.1.1.1.1.1.1.1.1.0
every P x y z mark.Less = x.1.1.1.1.1.1.1.1.1.1.1.1.1.1.1.0
every P x y z mark.Greater = x.1.1.1.1.1.1.1.1.1.1.1.1.1.1.1.1.0
every P x y z mark.AtMost = y.1.1.1.1.1.1.1.1.1.1.1.1.1.0
every P x y z mark.AtLeast = y.1.1.1.1.1.1.1.1.1.1.1.1.1.1.0
every P x y z mark.ShiftLeft = y.1.1.1.1.1.1.1.1.1.1.1.1.1.1.1.0
every P x y z mark.ShiftRight = y.1.1.1.1.1.1.1.1.1.1.1.1.1.1.1.1.0
every P x y z mark.Plus = x.1.1.1.1.1.1.1.1.1.1.1.1.1.1.1.1.1.0
every P x y z mark.Minus = x.1.1.1.1.1.1.1.1.1.1.1.1.1.1.1.1.1.1.0
every P x y z mark.Star = x.1.1.1.1.1.1.1.1.1.1.1.1.1.1.1.1.1.1.1.0
every P x y z mark.Slash = x.1.1.1.1.1.1.1.1.1.1.1.1.1.1.1.1.1.1.1.1.0
every P x y z mark.Percent = x.1.1.1.1.1.1.1.1.1.1.1.1.1.1.1.1.1.1.1.1.1.0
every P x y z mark.PlusPlus = y.1.1.1.1.1.1.1.1.1.1.1.1.1.1.1.1.1.0
every P x y z mark.MinusMinus = y.1.1.1.1.1.1.1.1.1.1.1.1.1.1.1.1.1.1.0
every P x y z mark.Tilde = x.1.1.1.1.1.1.1.1.1.1.1.1.1.1.1.1.1.1.1.1.1.1.0
every P x y z mark.Bang = x.1.1.1.1.1.1.1.1.1.1.1.1.1.1.1.1.1.1.1.1.1.1.1.0

one_short : AllByRecursion (λ m. length (mark_text m) ≤ 1) one
one_short = (omega arith, (omega arith, (omega arith, (omega arith, (omega arith, (omega arith, (omega arith, (omega arith, (omega arith, (omega arith, (omega arith, (omega arith, (omega arith, (omega arith, (omega arith, (omega arith, (omega arith, (omega arith, (omega arith, (omega arith, (omega arith, (omega arith, (omega arith, (omega arith, tt))))))))))))))))))))))))

two_short : AllByRecursion (λ m. length (mark_text m) ≤ 2) two
two_short = (omega arith, (omega arith, (omega arith, (omega arith, (omega arith, (omega arith, (omega arith, (omega arith, (omega arith, (omega arith, (omega arith, (omega arith, (omega arith, (omega arith, (omega arith, (omega arith, (omega arith, (omega arith, (omega arith, tt)))))))))))))))))))

three_short : AllByRecursion (λ m. length (mark_text m) ≤ 3) three
three_short = (omega arith, (omega arith, tt))

weaken : {X : Type 0} {P Q : X → Type 0} (xs : List X) → ((x : X) → P x → Q x) → AllByRecursion P xs → AllByRecursion Q xs
weaken [] f all = tt
weaken (x ∷ xs) f all = (f x all.0, weaken xs f all.1)

begins-complete : (bytes text : List ℕ) → BeginsWith bytes text → begins_with bytes text ≡ true
begins-complete bytes text (rest, e) =
    (bytes_eq-Decides bytes (take (length bytes) text)).1 (sym (ap (take (length bytes)) e ∙ take-append_seam bytes rest))

pub begins_not : (bytes text : List ℕ) → begins_with bytes text ≡ false → BeginsWith bytes text → ⊥
begins_not bytes text e b = clash (sym e ∙ begins-complete bytes text b)
  where
    clash : false ≡ true → ⊥
    clash f = cc

abbrev Missing : List ℕ → ℕ → Mark → Type 0
Missing text n m = n < length (mark_text m) → begins_with (mark_text m) text ≡ false

too_short : (text : List ℕ) (n k : ℕ) → k ≤ n → (m : Mark) → length (mark_text m) ≤ k → Missing text n m
too_short text n k le m short = λ long. absurd (omega (arith, le, short, long))

missing_of : (text : List ℕ) (n : ℕ) (ms : List Mark) → None ≡ find (λ m. begins_with (mark_text m) text) ms → AllByRecursion (Missing text n) ms
missing_of text n ms e = weaken ms (λ m f long. f) (none_passes (λ m. begins_with (mark_text m) text) ms e)

-- no punctuator begins there
pub none_there : (text : List ℕ) → None ≡ find (λ m. begins_with (mark_text m) text) three
    → None ≡ find (λ m. begins_with (mark_text m) text) two → None ≡ find (λ m. begins_with (mark_text m) text) one
    → (m : Mark) (rest : List ℕ) → IsMark text m rest → ⊥
none_there text e f g m rest is =
    begins_not (mark_text m) text
    (every (λ m. begins_with (mark_text m) text ≡ false) (none_passes (λ m. begins_with (mark_text m) text) one g)
    (none_passes (λ m. begins_with (mark_text m) text) two f) (none_passes (λ m. begins_with (mark_text m) text) three e) m)
    (rest, is.text_is)

one_long : AllByRecursion (λ m. 1 ≤ length (mark_text m)) one
one_long = (omega arith, (omega arith, (omega arith, (omega arith, (omega arith, (omega arith, (omega arith, (omega arith, (omega arith, (omega arith, (omega arith, (omega arith, (omega arith, (omega arith, (omega arith, (omega arith, (omega arith, (omega arith, (omega arith, (omega arith, (omega arith, (omega arith, (omega arith, (omega arith, tt))))))))))))))))))))))))

two_long : AllByRecursion (λ m. 2 ≤ length (mark_text m)) two
two_long = (omega arith, (omega arith, (omega arith, (omega arith, (omega arith, (omega arith, (omega arith, (omega arith, (omega arith, (omega arith, (omega arith, (omega arith, (omega arith, (omega arith, (omega arith, (omega arith, (omega arith, (omega arith, (omega arith, tt)))))))))))))))))))

three_long : AllByRecursion (λ m. 3 ≤ length (mark_text m)) three
three_long = (omega arith, (omega arith, tt))

found_first : {X : Type 0} (P : X → Type 0) (p : X → Bool) (y x : X) (more : Option X) (b : Bool) → P y → (Some x ≡ more → P x)
    → Some x ≡ cond b (Some y) more → P x
found_first P p y x more true has later f = let same : x ≡ y = cc in subst P (sym same) has
found_first P p y x more false has later f = later f

pub found_all : {X : Type 0} (P : X → Type 0) (p : X → Bool) (xs : List X) (x : X) → AllByRecursion P xs → Some x ≡ find p xs → P x
found_all P p [] x all e = absurd cc
found_all P p (y ∷ ys) x all e = found_first P p y x (find p ys) (p y) all.0 (λ f. found_all P p ys x all.1 f) e

is_mark : (text : List ℕ) (m : Mark) → begins_with (mark_text m) text ≡ true → ((other : Mark) → Missing text (length (mark_text m)) other)
    → (BeginsWith (codes "/*") text → ⊥) → (BeginsWith (codes "//") text → ⊥) → IsMark text m (drop (length (mark_text m)) text)
is_mark text m e missing no_block no_line =
    let n = length (mark_text m) in
    let same : mark_text m ≡ take n text = (bytes_eq-Decides (mark_text m) (take n text)).0 e in
    record {
      text_is = sym (take-append-drop n text) ∙ ap (λ (x : List ℕ). x ++ drop n text) (sym same);
      longest = λ other long begins. begins_not (mark_text other) text (missing other long) begins;
      no_block = no_block;
      no_line = no_line;
    }

pub mark_of_three : (text : List ℕ) (m : Mark) → Some m ≡ find (λ m. begins_with (mark_text m) text) three
    → (BeginsWith (codes "/*") text → ⊥) → (BeginsWith (codes "//") text → ⊥) → IsMark text m (drop (length (mark_text m)) text)
mark_of_three text m e no_block no_line =
    let test : Mark → Bool = λ m. begins_with (mark_text m) text in
    let n = length (mark_text m) in
    let long : 3 ≤ length (mark_text m) = found_all (λ m. 3 ≤ length (mark_text m)) test three m three_long e in
    is_mark text m (passes test three m e)
    (every (Missing text n) (weaken one (too_short text n 1 (omega (arith, long))) one_short)
    (weaken two (too_short text n 2 (omega (arith, long))) two_short)
    (weaken three (too_short text n 3 (omega (arith, long))) three_short))
    no_block no_line

pub mark_of_two : (text : List ℕ) (m : Mark) → None ≡ find (λ m. begins_with (mark_text m) text) three
    → Some m ≡ find (λ m. begins_with (mark_text m) text) two
    → (BeginsWith (codes "/*") text → ⊥) → (BeginsWith (codes "//") text → ⊥) → IsMark text m (drop (length (mark_text m)) text)
mark_of_two text m f e no_block no_line =
    let test : Mark → Bool = λ m. begins_with (mark_text m) text in
    let n = length (mark_text m) in
    let long : 2 ≤ length (mark_text m) = found_all (λ m. 2 ≤ length (mark_text m)) test two m two_long e in
    is_mark text m (passes test two m e)
    (every (Missing text n) (weaken one (too_short text n 1 (omega (arith, long))) one_short)
    (weaken two (too_short text n 2 (omega (arith, long))) two_short) (missing_of text n three f))
    no_block no_line

pub mark_of_one : (text : List ℕ) (m : Mark) → None ≡ find (λ m. begins_with (mark_text m) text) three
    → None ≡ find (λ m. begins_with (mark_text m) text) two → Some m ≡ find (λ m. begins_with (mark_text m) text) one
    → (BeginsWith (codes "/*") text → ⊥) → (BeginsWith (codes "//") text → ⊥) → IsMark text m (drop (length (mark_text m)) text)
mark_of_one text m f g e no_block no_line =
    let test : Mark → Bool = λ m. begins_with (mark_text m) text in
    let n = length (mark_text m) in
    let long : 1 ≤ length (mark_text m) = found_all (λ m. 1 ≤ length (mark_text m)) test one m one_long e in
    is_mark text m (passes test one m e)
    (every (Missing text n) (weaken one (too_short text n 1 (omega (arith, long))) one_short) (missing_of text n two g)
    (missing_of text n three f))
    no_block no_line
