-- The words of a type: what is tested of them, and that they may be taken one by one.
use Rattle.std.proofs.Common.{◌≡◌, ℕ, ◌+◌, ◌≤◌, ◌==◌, ◌&&◌, ◌||◌, nat_eq, nat_le, cond, Bool, true, false, Option, Some, None, List, [], ◌∷◌, ◌++◌, length, take, refl, sym, ap, ◌∙◌, inl, inr, arith}
use Rattle.std.proofs.lemmas.List.Sums.{sum_by-append}
use Rattle.std.proofs.Math.Seq.{take-append_seam}
use Rattle.std.specs.Prelude.{MatchOption}
use Rattle.std.specs.Bool.{Decides}
use Rattle.std.proofs.lemmas.Bool.{leb-true, le-leb}
use Rattle.std.proofs.lemmas.Bool.Decides.{Decides-eqb, Decides-and, Decides-or}
use Rattle.c_ast.specs.declared.words.TypeWord.{TypeWord}
use Rattle.c_ast.specs.declared.words.TypeWord.TheVariants as word
use Rattle.c_grammar.specs.Types.{Words, times, word_number, IsVoid, IsChar, IsWhole, AreOfType}
use Rattle.c_grammar.specs.ReadingDecl.{are_of_type, taken_word, typed_by}

times_first : (v w : TypeWord) (ws : List TypeWord) → times v (w ∷ ws) ≡ times v (w ∷ []) + times v ws
times_first v w ws = sum_by-append (λ u. cond (word_number u == word_number v) 1 0) (w ∷ []) ws

counted_once : (w : TypeWord) → times word.Void (w ∷ []) + times word.Char (w ∷ []) + times word.Short (w ∷ []) + times word.Int (w ∷ []) + times word.Long (w ∷ []) + times word.Signed (w ∷ []) + times word.Unsigned (w ∷ []) ≡ 1
counted_once word.Void = refl
counted_once word.Char = refl
counted_once word.Short = refl
counted_once word.Int = refl
counted_once word.Long = refl
counted_once word.Signed = refl
counted_once word.Unsigned = refl

-- each word is one of the seven
pub words_counted : (ws : List TypeWord)
    → length ws ≡ times word.Void ws + times word.Char ws + times word.Short ws + times word.Int ws + times word.Long ws + times word.Signed ws + times word.Unsigned ws
words_counted [] = refl
words_counted (w ∷ ws) =
    omega (
      arith,
      words_counted ws,
      times_first word.Void w ws,
      times_first word.Char w ws,
      times_first word.Short w ws,
      times_first word.Int w ws,
      times_first word.Long w ws,
      times_first word.Signed w ws,
      times_first word.Unsigned w ws,
      counted_once w,
    )

pub times_last : (v w : TypeWord) (ws : List TypeWord) → times v (ws ++ w ∷ []) ≡ times v ws + times v (w ∷ [])
times_last v w ws = sum_by-append (λ u. cond (word_number u == word_number v) 1 0) ws (w ∷ [])

pub length_last : (w : TypeWord) (ws : List TypeWord) → length (ws ++ w ∷ []) ≡ length ws + 1
length_last w [] = refl
length_last w (x ∷ ws) = omega (arith, length_last w ws)

-- all counts of a list with one word more
record Counts (w : TypeWord) (ws : List TypeWord) : Type 0 where
  all : length ws ≡ times word.Void ws + times word.Char ws + times word.Short ws + times word.Int ws + times word.Long ws + times word.Signed ws + times word.Unsigned ws
  void : times word.Void (ws ++ w ∷ []) ≡ times word.Void ws + times word.Void (w ∷ [])
  char : times word.Char (ws ++ w ∷ []) ≡ times word.Char ws + times word.Char (w ∷ [])
  short : times word.Short (ws ++ w ∷ []) ≡ times word.Short ws + times word.Short (w ∷ [])
  int : times word.Int (ws ++ w ∷ []) ≡ times word.Int ws + times word.Int (w ∷ [])
  long : times word.Long (ws ++ w ∷ []) ≡ times word.Long ws + times word.Long (w ∷ [])
  signed : times word.Signed (ws ++ w ∷ []) ≡ times word.Signed ws + times word.Signed (w ∷ [])
  unsigned : times word.Unsigned (ws ++ w ∷ []) ≡ times word.Unsigned ws + times word.Unsigned (w ∷ [])
  longer : length (ws ++ w ∷ []) ≡ length ws + 1

counts : (w : TypeWord) (ws : List TypeWord) → Counts w ws
counts w ws = record {
  all = words_counted ws;
  void = times_last word.Void w ws;
  char = times_last word.Char w ws;
  short = times_last word.Short w ws;
  int = times_last word.Int w ws;
  long = times_last word.Long w ws;
  signed = times_last word.Signed w ws;
  unsigned = times_last word.Unsigned w ws;
  longer = length_last w ws;
}

whole_front : (w : TypeWord) (ws : List TypeWord) → 1 ≤ length ws → Counts w ws → IsWhole (ws ++ w ∷ []) → IsWhole ws
whole_front w ws more c h = record {
  some = more;
  sign = omega (arith, h.sign);
  int = omega (arith, h.int);
  size = elim h.size [ inl p ↦ inl (omega (arith, p.0), omega (arith, p.1)) | inr p ↦ inr (omega (arith, p.0), omega (arith, p.1)) ];
  nothing_else = (omega (arith, h.nothing_else.0), omega (arith, h.nothing_else.1));
}

-- behind a sign there comes `char`, or before `char` a sign
char_front : (w : TypeWord) (ws : List TypeWord) → 1 ≤ length ws → Counts w ws → IsChar (ws ++ w ∷ []) → AreOfType ws
char_front word.Char ws more c h = inr (inr (record {
  some = more;
  sign = omega (arith, h.sign);
  int = omega (arith, h.nothing_else, h.one, h.sign);
  size = inl (omega (arith, h.nothing_else, h.one, h.sign), omega (arith, h.nothing_else, h.one, h.sign));
  nothing_else = (omega (arith, h.nothing_else, h.one, h.sign), omega (arith, h.nothing_else, h.one, h.sign));
}))
char_front word.Signed ws more c h = inr (inl (record { one = omega (arith, h.one); sign = omega (arith, h.sign); nothing_else = omega (arith, h.nothing_else) }))
char_front word.Unsigned ws more c h = inr (inl (record { one = omega (arith, h.one); sign = omega (arith, h.sign); nothing_else = omega (arith, h.nothing_else) }))
char_front word.Void ws more c h = absurd (omega (arith, h.nothing_else))
char_front word.Short ws more c h = absurd (omega (arith, h.nothing_else))
char_front word.Int ws more c h = absurd (omega (arith, h.nothing_else))
char_front word.Long ws more c h = absurd (omega (arith, h.nothing_else))

-- The first words of a type's words are those of a type.
pub of_type_front : (w : TypeWord) (ws : List TypeWord) → 1 ≤ length ws → AreOfType (ws ++ w ∷ []) → AreOfType ws
of_type_front w ws more (inl h) =
    let one : length (ws ++ w ∷ []) ≡ 1 = ap length h in
    let longer : length (ws ++ w ∷ []) ≡ length ws + 1 = length_last w ws in
    absurd (omega arith)
of_type_front w ws more (inr (inl h)) = char_front w ws more (counts w ws) h
of_type_front w ws more (inr (inr h)) = inr (inr (whole_front w ws more (counts w ws) h))

void_alone : (ws : List TypeWord) → length ws ≡ 1 → times word.Void ws ≡ 1 → IsVoid ws
void_alone [] one void = absurd (omega arith)
void_alone (word.Void ∷ []) one void = refl
void_alone (word.Char ∷ []) one void = absurd (omega arith)
void_alone (word.Short ∷ []) one void = absurd (omega arith)
void_alone (word.Int ∷ []) one void = absurd (omega arith)
void_alone (word.Long ∷ []) one void = absurd (omega arith)
void_alone (word.Signed ∷ []) one void = absurd (omega arith)
void_alone (word.Unsigned ∷ []) one void = absurd (omega arith)
void_alone (v ∷ w ∷ ws) one void = absurd (omega arith)

Decides-le : (a b : ℕ) → Decides (nat_le a b) (a ≤ b)
Decides-le a b = (leb-true a b, le-leb a b)

decided : {P Q : Type 0} (b : Bool) → Decides b P → (P → Q) → (Q → P) → Decides b Q
decided b d f g = (λ e. f (d.0 e), λ q. d.1 (g q))

void_tested : (ws : List TypeWord) → Decides (nat_eq (length ws) 1 && nat_eq (times word.Void ws) 1) (IsVoid ws)
void_tested ws =
    decided _ (Decides-and _ _ (Decides-eqb (length ws) 1) (Decides-eqb (times word.Void ws) 1))
    (λ p. void_alone ws p.0 p.1) (λ h. (ap length h, ap (times word.Void) h))

char_tested : (ws : List TypeWord)
    → Decides (nat_eq (times word.Char ws) 1 && (nat_le (times word.Signed ws + times word.Unsigned ws) 1
    && nat_eq (length ws) (times word.Char ws + times word.Signed ws + times word.Unsigned ws))) (IsChar ws)
char_tested ws =
    decided _
    (Decides-and _ _ (Decides-eqb (times word.Char ws) 1)
    (Decides-and _ _ (Decides-le (times word.Signed ws + times word.Unsigned ws) 1)
    (Decides-eqb (length ws) (times word.Char ws + times word.Signed ws + times word.Unsigned ws))))
    (λ p. record { one = p.0; sign = p.1.0; nothing_else = p.1.1 }) (λ h. (h.one, (h.sign, h.nothing_else)))

whole_tested : (ws : List TypeWord)
    → Decides (nat_le 1 (length ws) && (nat_le (times word.Signed ws + times word.Unsigned ws) 1 && (nat_le (times word.Int ws) 1
    && (((nat_le (times word.Short ws) 1 && nat_eq (times word.Long ws) 0)
    || (nat_eq (times word.Short ws) 0 && nat_le (times word.Long ws) 2))
    && (nat_eq (times word.Void ws) 0 && nat_eq (times word.Char ws) 0))))) (IsWhole ws)
whole_tested ws =
    decided _
    (Decides-and _ _ (Decides-le 1 (length ws))
    (Decides-and _ _ (Decides-le (times word.Signed ws + times word.Unsigned ws) 1)
    (Decides-and _ _ (Decides-le (times word.Int ws) 1)
    (Decides-and _ _
    (Decides-or _ _
    (Decides-and _ _ (Decides-le (times word.Short ws) 1) (Decides-eqb (times word.Long ws) 0))
    (Decides-and _ _ (Decides-eqb (times word.Short ws) 0) (Decides-le (times word.Long ws) 2)))
    (Decides-and _ _ (Decides-eqb (times word.Void ws) 0) (Decides-eqb (times word.Char ws) 0))))))
    (λ p. record { some = p.0; sign = p.1.0; int = p.1.1.0; size = p.1.1.1.0; nothing_else = p.1.1.1.1 })
    (λ h. (h.some, (h.sign, (h.int, (h.size, h.nothing_else)))))

-- The test of words says whether they are those of a type.
pub are_of_type-Decides : (ws : List TypeWord) → Decides (are_of_type ws) (AreOfType ws)
are_of_type-Decides ws = Decides-or _ _ (void_tested ws) (Decides-or _ _ (char_tested ws) (whole_tested ws))

-- ---- a word more

pub one_word : (w : TypeWord) → AreOfType (w ∷ [])
one_word w = (are_of_type-Decides (w ∷ [])).0 (is w) where
  is : (w : TypeWord) → are_of_type (w ∷ []) ≡ true
  is word.Void = refl
  is word.Char = refl
  is word.Short = refl
  is word.Int = refl
  is word.Long = refl
  is word.Signed = refl
  is word.Unsigned = refl

pub taken_yes : (ws all : List TypeWord) (w : TypeWord) (whole : Bool) → whole ≡ false → all ≡ ws ++ w ∷ [] → are_of_type all ≡ true
    → taken_word w (typed_by ws whole) ≡ Some (typed_by all whole)
taken_yes ws all w true none are is = absurd cc
taken_yes [] all w false none are is = ap (λ us. Some (typed_by us false)) (sym are)
taken_yes (v ∷ ws) all w false none are is =
    ap (λ b. cond b (Some (Words ((v ∷ ws) ++ w ∷ []))) None) (ap are_of_type (sym are) ∙ is) ∙ ap (λ us. Some (typed_by us false)) (sym are)

pub taken_no : (ws all : List TypeWord) (w : TypeWord) (whole : Bool) → whole ≡ false → all ≡ ws ++ w ∷ [] → are_of_type all ≡ false
    → taken_word w (typed_by ws whole) ≡ None
taken_no ws all w true none are is = absurd cc
taken_no [] all w false none are is =
    let one : are_of_type (w ∷ []) ≡ true = (are_of_type-Decides (w ∷ [])).1 (one_word w) in
    let other : are_of_type (w ∷ []) ≡ false = ap are_of_type (sym are) ∙ is in
    absurd cc
taken_no (v ∷ ws) all w false none are is = ap (λ b. cond b (Some (Words ((v ∷ ws) ++ w ∷ []))) None) (ap are_of_type (sym are) ∙ is)

last_off : (us ws : List TypeWord) (v w : TypeWord) → us ++ v ∷ [] ≡ ws ++ w ∷ [] → us ≡ ws
last_off us ws v w h =
    let a = length_last v us in
    let b = length_last w ws in
    let l : length (us ++ v ∷ []) ≡ length (ws ++ w ∷ []) = ap length h in
    let same : length us ≡ length ws = omega arith in
    sym (take-append_seam us (v ∷ [])) ∙ ap (take (length us)) h ∙ ap (λ n. take n (ws ++ w ∷ [])) same ∙ take-append_seam ws (w ∷ [])

pub popped_back : (ws all new : List TypeWord) (w : TypeWord) (r : Option TypeWord) → all ≡ ws ++ w ∷ []
    → MatchOption r ((all ≡ []) × (new ≡ [])) (λ last. all ≡ new ++ last ∷ []) → new ≡ ws
popped_back ws all new w None are h =
    let l = length_last w ws in
    let n : length (ws ++ w ∷ []) ≡ 0 = ap length (sym are ∙ h.0) in
    absurd (omega arith)
popped_back ws all new w (Some last) are h = last_off new ws last w (sym h ∙ are)
