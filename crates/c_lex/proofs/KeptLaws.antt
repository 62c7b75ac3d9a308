-- What holds of a table of macros and its marks, from one definition to the next.
use Rattle.std.proofs.Common.{◌≡◌, ◌≢◌, ◌⊎◌, ℕ, suc, ◌+◌, ◌-◌, ◌<◌, ◌≤◌, Bool, true, false, List, [], ◌∷◌, ◌++◌, length, map, take, get_or, IsTrue, ◌↔◌, refl, sym, ap, subst, ◌∙◌, arith, inl, inr}
use Rattle.std.specs.Prelude.{reverse, slice_index_or}
use Rattle.std.proofs.lemmas.List.{append-nil, length-append, get_or_append_left}
use Rattle.std.proofs.lemmas.Bool.{cases_lt}
use Rattle.std.proofs.Math.Seq.{get_or-append_seam, take-append_seam}
use Rattle.c_lex.specs.declared.expand.Mark.{Mark}
use Rattle.c_lex.specs.declared.lexeme.Lexeme.{Lexeme}
use Rattle.c_lex.specs.declared.table.Table.{Table as ATable}
use Rattle.c_lex.specs.declared.token.Headers.{Headers}
use Rattle.c_lex.specs.declared.token.Token.{Token as AToken}
use Rattle.c_lex.specs.Lexemes.{name_token}
use Rattle.c_lex.specs.Pieces.{Macro}
use Rattle.c_lex.specs.Faults.{IsDefined}
use Rattle.c_lex.specs.Tokens.{names_of, HasMacro, AreDistinct, Become, none, kept, replaced, Puts, PassesMost, placed, most_tokens}
use Rattle.c_lex.specs.Table.{names_in, bodies_in, name_in, macro_in, macros_in, paired, IsTable}
use Rattle.c_lex.specs.Frames.{no_mark, is_empty_at, AreEmpty, Stand, macro_becomes, AreKept}
use Rattle.c_lex.proofs.MacroLaws.{has_first, has_later, has_split, has_none, name_of_has, become_expanded}
use Rattle.c_lex.proofs.WorkLaws.{expanded-empty, empty_are}
use Rattle.c_lex.proofs.TableLaws.{has_macro, macro_named, unnamed_kept}
use Rattle.c_lex.proofs.StepLaws.{reverse-snoc}

-- ---- names

macro_of_name : (macros : List Macro) (word : List ℕ) → IsDefined (names_of macros) word
    → (m : Macro) × HasMacro macros m × (m.name ≡ word)
macro_of_name [] word d = absurd (has_none word d)
macro_of_name (x ∷ xs) word d = by (λ k. macro_of_name xs word k) (has_split x.name word (names_of xs) d)
  where
    by : (IsDefined (names_of xs) word → (m : Macro) × HasMacro xs m × (m.name ≡ word))
        → (x.name ≡ word) ⊎ IsDefined (names_of xs) word → (m : Macro) × HasMacro (x ∷ xs) m × (m.name ≡ word)
    by more (inl e) = (x, has_first x xs, e)
    by more (inr k) = let r = more k in (r.0, has_later x r.0 xs r.1, r.2)

number_of_name : (names : List (List ℕ)) (word : List ℕ) → IsDefined names word → (i : ℕ) × (i < length names) × (get_or names i [] ≡ word)
number_of_name [] word d = absurd (has_none word d)
number_of_name (n ∷ ns) word d = by (λ k. number_of_name ns word k) (has_split n word ns d)
  where
    by : (IsDefined ns word → (i : ℕ) × (i < length ns) × (get_or ns i [] ≡ word)) → (n ≡ word) ⊎ IsDefined ns word
        → (i : ℕ) × (i < length (n ∷ ns)) × (get_or (n ∷ ns) i [] ≡ word)
    by more (inl e) = (0, omega arith, e)
    by more (inr k) = let r = more k in (suc r.0, omega (arith, r.1), r.2)

-- the names of the macros are those of the table
pub from_macros : (t : ATable) (word : List ℕ) → IsDefined (names_of (macros_in t)) word → IsDefined (names_in t) word
from_macros t word d =
    let m = macro_of_name (macros_in t) word d in
    let P : List ℕ → Type 0 = λ w. IsDefined (names_in t) w in
    subst P m.2 (macro_named t m.0 m.1)

pub to_macros : (t : ATable) (word : List ℕ) → IsTable t → IsDefined (names_in t) word → IsDefined (names_of (macros_in t)) word
to_macros t word is d =
    let i = number_of_name (names_in t) word d in
    let P : List ℕ → Type 0 = λ w. IsDefined (names_of (macros_in t)) w in
    subst P i.2 (name_of_has (macros_in t) (macro_in t i.0) (has_macro t i.0 is i.1))

pub same_names : (t : ATable) (word : List ℕ) (r : Bool) → IsTable t → IsTrue r ↔ IsDefined (names_in t) word
    → IsTrue r ↔ IsDefined (names_of (macros_in t)) word
same_names t word r is both = ((λ e. to_macros t word is (both.0 e)), (λ d. both.1 (from_macros t word d)))

-- ---- one macro more

pair_last : (names : List (List ℕ)) (bodies : List (List Lexeme)) (name : List ℕ) (body : List Lexeme) → length bodies ≡ length names
    → paired (names ++ name ∷ []) (bodies ++ body ∷ []) ≡ paired names bodies ++ record { name = name; body = body } ∷ []
pair_last [] [] name body same = refl
pair_last [] (b ∷ bs) name body same = absurd (omega (arith, same))
pair_last (n ∷ ns) [] name body same = absurd (omega (arith, same))
pair_last (n ∷ ns) (b ∷ bs) name body same =
    ap (λ (ms : List Macro). record { name = n; body = b } ∷ ms) (pair_last ns bs name body (omega (arith, same)))

module _ (t t' : ATable) (name : List ℕ) (body : List Lexeme) (is : IsTable t) (names : names_in t' ≡ names_in t ++ name ∷ [])
    (bodies : bodies_in t' ≡ bodies_in t ++ body ∷ []) where
  pub macros_more : macros_in t' ≡ record { name = name; body = body } ∷ macros_in t
  macros_more =
      (λ i. reverse (paired (names i) (bodies i)))
      ∙ ap (λ (ms : List Macro). reverse ms) (pair_last (names_in t) (bodies_in t) name body is.same)
      ∙ reverse-snoc (paired (names_in t) (bodies_in t)) (record { name = name; body = body })

  one_longer : length (names_in t') ≡ length (names_in t) + 1
  one_longer = omega (arith, ap (λ (ns : List (List ℕ)). length ns) names, length-append (names_in t) (name ∷ []))

  name_before : (i : ℕ) → i < length (names_in t) → name_in t' i ≡ name_in t i
  name_before i h =
      ap (λ (ns : List (List ℕ)). get_or ns i []) names ∙ get_or_append_left (names_in t) (name ∷ []) [] i h

  name_last : name_in t' (length (names_in t)) ≡ name
  name_last =
      ap (λ (ns : List (List ℕ)). get_or ns (length (names_in t)) []) names ∙ get_or-append_seam (names_in t) name [] []

  body_before : (i : ℕ) → i < length (names_in t) → slice_index_or (bodies_in t') i [] ≡ slice_index_or (bodies_in t) i []
  body_before i h =
      ap (λ (bs : List (List Lexeme)). get_or bs i []) bodies
      ∙ get_or_append_left (bodies_in t) (body ∷ []) [] i (omega (arith, h, is.same))

  macro_before : (i : ℕ) → i < length (names_in t) → macro_in t' i ≡ macro_in t i
  macro_before i h =
      let p : name_in t' i ≡ name_in t i = name_before i h in
      let q : slice_index_or (bodies_in t') i [] ≡ slice_index_or (bodies_in t) i [] = body_before i h in
      λ j. record { name = p j; body = q j }

  module _ (out : IsDefined (names_of (macros_in t)) name → ⊥) where
    not_before : (i : ℕ) → i < length (names_in t) → name_in t i ≢ name
    not_before i h e =
        let P : List ℕ → Type 0 = λ w. IsDefined (names_of (macros_in t)) w in
        out (subst P e (name_of_has (macros_in t) (macro_in t i) (has_macro t i is h)))

    -- a number is one from before, or the new one
    before_or_last : (i : ℕ) → i < length (names_in t') → (i < length (names_in t)) ⊎ (i ≡ length (names_in t))
    before_or_last i h = by (cases_lt i (length (names_in t)))
      where
        by : (i < length (names_in t)) ⊎ (length (names_in t) ≤ i) → (i < length (names_in t)) ⊎ (i ≡ length (names_in t))
        by (inl less) = inl less
        by (inr more) = inr (omega (arith, more, h, one_longer))

    last_named : (i : ℕ) → i ≡ length (names_in t) → name_in t' i ≡ name
    last_named i e = ap (λ (k : ℕ). name_in t' k) e ∙ name_last

    still_one_each : (i j : ℕ) → i < length (names_in t') → j < length (names_in t') → name_in t' i ≡ name_in t' j → i ≡ j
    still_one_each i j hi hj e = by (before_or_last i hi) (before_or_last j hj)
      where
        by : (i < length (names_in t)) ⊎ (i ≡ length (names_in t)) → (j < length (names_in t)) ⊎ (j ≡ length (names_in t)) → i ≡ j
        by (inl p) (inl q) = is.one_each i j p q (sym (name_before i p) ∙ e ∙ name_before j q)
        by (inl p) (inr q) = absurd (not_before i p (sym (name_before i p) ∙ e ∙ last_named j q))
        by (inr p) (inl q) = absurd (not_before j q (sym (name_before j q) ∙ sym e ∙ last_named i p))
        by (inr p) (inr q) = p ∙ sym q

    still_table : IsTable t'
    still_table =
        let P : List Macro → Type 0 = λ ms. AreDistinct ms in
        record {
          same =
              omega (
                arith,
                is.same,
                one_longer,
                ap (λ (bs : List (List Lexeme)). length bs) bodies,
                length-append (bodies_in t) (body ∷ []),
              );
          distinct = subst P (sym macros_more) (out, is.distinct);
          one_each = still_one_each;
        }

    still_empty : (m : Macro) (ms empty : List Macro) → AreEmpty ms empty → AreEmpty (m ∷ ms) empty
    still_empty m ms [] are = tt
    still_empty m ms (e ∷ es) are = (has_later m e ms are.0, are.1, are.2, still_empty m ms es are.3)

    module _ (marks marks' : List Mark) (sizes : length (names_in t) ≡ length marks) (marks_are : marks' ≡ marks ++ no_mark ∷ [])
        (s : Stand t marks [] 0) where
      mark_before : (i : ℕ) → i < length (names_in t) → is_empty_at marks' i ≡ is_empty_at marks i
      mark_before i h =
          ap (λ (ms : List Mark). is_empty_at ms i) marks_are
          ∙ ap (λ (m : Mark). m.is_empty) (get_or_append_left marks (no_mark ∷ []) no_mark i (omega (arith, h, sizes)))

      mark_last : (i : ℕ) → i ≡ length (names_in t) → is_empty_at marks' i ≡ false
      mark_last i e =
          ap (λ (ms : List Mark). is_empty_at ms i) marks_are ∙ ap (λ (k : ℕ). is_empty_at (marks ++ no_mark ∷ []) k) (e ∙ sizes)
          ∙ ap (λ (m : Mark). m.is_empty) (get_or-append_seam marks no_mark [] no_mark)

      no_clash : false ≡ true → ⊥
      no_clash e = cc

      still_marked : (i : ℕ) → (i < length (names_in t)) ⊎ (i ≡ length (names_in t)) → is_empty_at marks' i ≡ true
          → HasMacro s.empty (macro_in t' i)
      still_marked i (inl p) e =
          let P : Macro → Type 0 = λ m. HasMacro s.empty m in
          subst P (sym (macro_before i p)) (s.marked i p (sym (mark_before i p) ∙ e))
      still_marked i (inr p) e = absurd (no_clash (sym (mark_last i p) ∙ e))

      still_unmarked : (i : ℕ) → (i < length (names_in t)) ⊎ (i ≡ length (names_in t))
          → IsDefined (names_of s.empty) (macro_in t' i).name → is_empty_at marks' i ≡ true
      still_unmarked i (inl p) d =
          let P : List ℕ → Type 0 = λ w. IsDefined (names_of s.empty) w in
          mark_before i p ∙ s.unmarked i p (subst P (name_before i p) d)
      still_unmarked i (inr p) d =
          let P : List ℕ → Type 0 = λ w. IsDefined (names_of s.empty) w in
          let m = macro_of_name s.empty name (subst P (last_named i p) d) in
          let Q : List ℕ → Type 0 = λ w. IsDefined (names_of (macros_in t)) w in
          absurd (out (subst Q m.2 (name_of_has (macros_in t) m.0 (empty_are (macros_in t) is.distinct s.empty m.0 s.are_empty m.1))))

      pub still_kept : AreKept t' marks'
      still_kept =
          let P : List Macro → Type 0 = λ ms. AreEmpty ms s.empty in
          record {
            table = still_table;
            sizes =
                omega (arith, one_longer, sizes, ap (λ (ms : List Mark). length ms) marks_are, length-append marks (no_mark ∷ []));
            stand = record {
              empty = s.empty;
              are_empty =
                  subst P (sym macros_more) (still_empty (record { name = name; body = body }) (macros_in t) s.empty s.are_empty);
              marked = λ i h e. still_marked i (before_or_last i h) e;
              unmarked = λ i h d. still_unmarked i (before_or_last i h) d;
              within = tt;
              apart = tt;
              placed = tt;
              walked = tt;
            };
          }

pub same_macros : (t t' : ATable) → names_in t' ≡ names_in t → bodies_in t' ≡ bodies_in t → macros_in t' ≡ macros_in t
same_macros t t' p q = λ i. reverse (paired (p i) (q i))

-- the same names and bodies
pub same_kept : (t t' : ATable) (marks marks' : List Mark) → names_in t' ≡ names_in t → bodies_in t' ≡ bodies_in t → marks' ≡ marks
    → AreKept t marks → AreKept t' marks'
same_kept t t' marks marks' p q r k =
    let D : List Macro → Type 0 = λ ms. AreDistinct ms in
    let E : List Macro → Type 0 = λ ms. AreEmpty ms k.stand.empty in
    record {
      table = record {
        same = omega (arith, k.table.same, long, ap (λ (bs : List (List Lexeme)). length bs) q);
        distinct = subst D (sym (same_macros t t' p q)) k.table.distinct;
        one_each = λ i j hi hj e.
            k.table.one_each i j (omega (arith, hi, long)) (omega (arith, hj, long)) (sym (at i) ∙ e ∙ at j);
      };
      sizes = omega (arith, k.sizes, long, ap (λ (ms : List Mark). length ms) r);
      stand = record {
        empty = k.stand.empty;
        are_empty = subst E (sym (same_macros t t' p q)) k.stand.are_empty;
        marked = λ i h e.
            let M : Macro → Type 0 = λ m. HasMacro k.stand.empty m in
            subst M (sym (macro i)) (k.stand.marked i (omega (arith, h, long)) (ap (λ (ms : List Mark). is_empty_at ms i) (sym r) ∙ e));
        unmarked = λ i h d.
            let W : List ℕ → Type 0 = λ w. IsDefined (names_of k.stand.empty) w in
            ap (λ (ms : List Mark). is_empty_at ms i) r ∙ k.stand.unmarked i (omega (arith, h, long)) (subst W (at i) d);
        within = tt;
        apart = tt;
        placed = tt;
        walked = tt;
      };
    }
  where
    long : length (names_in t') ≡ length (names_in t)
    long = ap (λ (ns : List (List ℕ)). length ns) p

    at : (i : ℕ) → name_in t' i ≡ name_in t i
    at i = ap (λ (ns : List (List ℕ)). get_or ns i []) p

    macro : (i : ℕ) → macro_in t' i ≡ macro_in t i
    macro i = λ j. record { name = get_or (p j) i []; body = get_or (q j) i [] }

-- what was put last is taken back
pub taken_back : (n : ℕ) (marks pushed popped : List Mark) (m : Mark) → pushed ≡ marks ++ m ∷ [] → popped ≡ take (n - 1) pushed
    → n ≡ length marks + 1 → popped ≡ marks
taken_back n marks pushed popped m e f g =
    let k : n - 1 ≡ length marks = omega (arith, g) in
    f ∙ ap (λ (ms : List Mark). take (n - 1) ms) e ∙ ap (λ (i : ℕ). take i (marks ++ m ∷ [])) k ∙ take-append_seam marks (m ∷ [])

-- ---- what a token becomes

module _ (t : ATable) (is : IsTable t) (l : Lexeme) (line : ℕ) (headers : Headers) (before : List AToken) where
  pub puts_kept : (out : List AToken) → ((word : List ℕ) → l ≡ name_token word → IsDefined (names_in t) word → ⊥)
      → out ≡ before ++ placed line headers l ∷ [] → Puts (macros_in t) l line headers before out
  puts_kept out apart e = (l ∷ [], kept [] l [] [] (unnamed_kept t [] l apart) (none []), e)

  pub too_many : ((word : List ℕ) → l ≡ name_token word → IsDefined (names_in t) word → ⊥) → most_tokens ≤ length before
      → PassesMost (macros_in t) l (length before)
  too_many apart full = (l ∷ [], kept [] l [] [] (unnamed_kept t [] l apart) (none []), omega (arith, full))

  become_macro : (i : ℕ) → i < length (names_in t) → l ≡ name_token (name_in t i)
      → Become (macros_in t) [] (l ∷ []) (macro_becomes t i ++ [])
  become_macro i inside named =
      replaced [] l (macro_in t i) [] (macro_becomes t i) []
      (record { has = has_macro t i is inside; named = named; not_hidden = has_none (name_in t i) })
      (become_expanded (macros_in t) ((macro_in t i).name ∷ []) (macro_in t i).body) (none [])

  pub puts_replaced : (i : ℕ) (out : List AToken) → i < length (names_in t) → l ≡ name_token (name_in t i)
      → out ≡ before ++ map (placed line headers) (macro_becomes t i) → Puts (macros_in t) l line headers before out
  puts_replaced i out inside named e = (
    macro_becomes t i ++ [],
    become_macro i inside named,
    e ∙ ap (λ (ls : List Lexeme). before ++ map (placed line headers) ls) (sym (append-nil (macro_becomes t i))),
  )

  pub puts_nothing : (i : ℕ) (marks : List Mark) → i < length (names_in t) → l ≡ name_token (name_in t i) → Stand t marks [] 0
      → is_empty_at marks i ≡ true → Puts (macros_in t) l line headers before before
  puts_nothing i marks inside named s empty =
      let nothing : macro_becomes t i ≡ [] =
      expanded-empty (macros_in t) is.distinct s.empty [] (macro_in t i) s.are_empty (λ x h d. has_none x.name d) (s.marked i inside empty) in
      puts_replaced i before inside named
      (sym (append-nil before) ∙ ap (λ (ls : List Lexeme). before ++ map (placed line headers) ls) (sym nothing))

  pub passes_most : (i : ℕ) → i < length (names_in t) → l ≡ name_token (name_in t i)
      → most_tokens < length before + length (macro_becomes t i) → PassesMost (macros_in t) l (length before)
  passes_most i inside named over = (
    macro_becomes t i ++ [],
    become_macro i inside named,
    omega (arith, over, ap (λ (ls : List Lexeme). length ls) (append-nil (macro_becomes t i))),
  )
