-- What is printed is a schedule of the events that were printed.
use Rattle.std.proofs.Common.{◌≡◌, drop_of_length-le, get_or, take, drop, drop-cons, add-one, ℕ, ◌+◌, ◌-◌, ◌*◌, ◌<◌, ◌≤◌, ◌&&◌, Bool, true, false, eqb, leb, List, [], ◌∷◌, ◌++◌, length, map, fold, refl, sym, ap, ◌∙◌, subst, arith, rules, append_assoc}
use Rattle.std.proofs.lemmas.Bool.{and_parts, leb-true, ne_eqb}
use Rattle.std.proofs.lemmas.List.{append-nil, take_more, take-append-drop}
use Rattle.std.proofs.lemmas.Str.Parse.{IsNumeralModel, numerals_by_fold}
use Rattle.std.proofs.lemmas.Fmt.{digits_decimal, digits_value-decimal, decimal_nonempty, length-decimal-le}
use Rattle.std.specs.Fmt.{decimal}
use Rattle.std.specs.List.{flat_map, list_all, AllByRecursion}
use Rattle.std.specs.Prelude.{IsTrue, codes}
use Rattle.schedule.specs.declared.event.Event.{Event}
use Rattle.schedule.specs.declared.event.Event.TheVariants.{Run, Deliver, Settle, Move, Balance, Freeze, Save, Commit, Lose, Recover, Drain}
use Rattle.schedule.specs.declared.event.Strategy.{Strategy}
use Rattle.schedule.specs.declared.event.Strategy.TheVariants.{Rotate, Greedy, Refine}
use Rattle.schedule.specs.Grammar.{HasNoFeed, without_cr, is_solid, AreBlanks, IsWord, HasWords, Part, Word, Number, is_digit, number_of, IsNumber, IsSpelled, AreSpelled, Spells, strategy_name, parts_of, One, first_parts, is_skipped, told, Tell, most_events, IsSchedule}
use Rattle.schedule.specs.Printed.{part_text, spaced, line_text, printed, HasSmallNumbers, PrintedIsRead}

-- ---- bytes that stand in a line: none below a space

abbrev Plain : List ℕ → Type 0
Plain bytes = AllByRecursion (λ b. 32 ≤ b) bytes

plain-append : (xs ys : List ℕ) → Plain xs → Plain ys → Plain (xs ++ ys)
plain-append [] ys p q = q
plain-append (x ∷ xs) ys (h, p) q = (h, plain-append xs ys p q)

plain-no_feed : (xs : List ℕ) → Plain xs → HasNoFeed xs
plain-no_feed [] p = tt
plain-no_feed (x ∷ xs) (h, p) = (rw (ne_eqb x 10 (λ e. absurd (omega (arith, e, h)))) refl, plain-no_feed xs p)

plain-no_cr : (xs : List ℕ) → Plain xs → without_cr xs ≡ xs
plain-no_cr [] p = refl
plain-no_cr (x ∷ []) (h, p) = rw (ne_eqb x 13 (λ e. absurd (omega (arith, e, h)))) refl
plain-no_cr (x ∷ y ∷ ys) (h, p) = ap (λ (z : List ℕ). x ∷ z) (plain-no_cr (y ∷ ys) p)

-- ---- parts

number_after : ℕ → List ℕ → ℕ
number_after n word = fold (λ m b. 10 * m + (b - 48)) n word

own : IsNumeralModel (λ word. list_all is_digit word ≡ true) number_of
unfolding number_after
own = numerals_by_fold _ (search rules) number_after (search rules)

all_digits : (ds : List ℕ) → list_all is_digit ds ≡ true → AllByRecursion (λ b. IsTrue (is_digit b)) ds
all_digits [] h = tt
all_digits (d ∷ ds) h = let both = and_parts (is_digit d) (list_all is_digit ds) h in (both.0, all_digits ds both.1)

is_number : (n : ℕ) → n ≤ 4294967295 → IsNumber (decimal n) n
is_number n small = record {
  some = decimal_nonempty n (omega arith);
  few = length-decimal-le 10 n (omega arith) (omega arith) (omega arith);
  digits = all_digits (decimal n) (digits_decimal own n (omega arith));
  value = sym (digits_value-decimal own n (omega arith));
  small = small;
}

digit-solid : (d : ℕ) → is_digit d ≡ true → (is_solid d ≡ true) × (32 ≤ d)
digit-solid d e =
    let both = and_parts (leb 48 d) (leb d 57) e in
    let low = leb-true 48 d both.0 in
    let space : eqb d 32 ≡ false = ne_eqb d 32 (λ k. absurd (omega (arith, k, low))) in
    let tab : eqb d 9 ≡ false = ne_eqb d 9 (λ k. absurd (omega (arith, k, low))) in
    (rw (space, tab) refl, omega (arith, low))

digits_solid : (ds : List ℕ) → AllByRecursion (λ b. IsTrue (is_digit b)) ds → AllByRecursion (λ b. IsTrue (is_solid b)) ds × Plain ds
digits_solid [] h = (tt, tt)
digits_solid (d ∷ ds) (h, k) =
    let one = digit-solid d h in
    let rest = digits_solid ds k in
    ((one.0, rest.0), (one.1, rest.1))

-- a part whose text is a word that spells it
record IsGood (p : Part) : Type 0 where
  word : IsWord (part_text p)
  plain : Plain (part_text p)
  spelled : IsSpelled (part_text p) p

good_number : (n : ℕ) → n ≤ 4294967295 → IsGood (Number n)
good_number n small =
    let is = is_number n small in
    let all = digits_solid (decimal n) is.digits in
    record { word = (is.some, all.0); plain = all.1; spelled = is }

abbrev is_good_byte : ℕ → Bool
is_good_byte b = is_solid b && leb 32 b

good_bytes : (bs : List ℕ) → list_all is_good_byte bs ≡ true → AllByRecursion (λ b. IsTrue (is_solid b)) bs × Plain bs
good_bytes [] h = (tt, tt)
good_bytes (b ∷ bs) h =
    let both = and_parts (is_good_byte b) (list_all is_good_byte bs) h in
    let one = and_parts (is_solid b) (leb 32 b) both.0 in
    let rest = good_bytes bs both.1 in
    ((one.0, rest.0), (leb-true 32 b one.1, rest.1))

good_word : (b : ℕ) (bs : List ℕ) → list_all is_good_byte (b ∷ bs) ≡ true → IsGood (Word (b ∷ bs))
good_word b bs h = let all = good_bytes (b ∷ bs) h in record { word = (omega arith, all.0); plain = all.1; spelled = refl }

good_strategy : (s : Strategy) → IsGood (Word (strategy_name s))
good_strategy Rotate = good_word _ _ refl
good_strategy Greedy = good_word _ _ refl
good_strategy Refine = good_word _ _ refl

abbrev AreGood : List Part → Type 0
AreGood parts = AllByRecursion IsGood parts

good_event : (e : Event) → HasSmallNumbers e → AreGood (parts_of e)
good_event (Run rank ticks) h = (good_word _ _ refl, (good_number rank h.1.0, (good_number ticks h.1.1.0, tt)))
good_event (Deliver place) h = (good_word _ _ refl, (good_number place h.1.0, tt))
good_event Settle h = (good_word _ _ refl, tt)
good_event (Move rank processor) h = (good_word _ _ refl, (good_number rank h.1.0, (good_number processor h.1.1.0, tt)))
good_event (Balance strategy) h = (good_word _ _ refl, (good_strategy strategy, tt))
good_event Freeze h = (good_word _ _ refl, tt)
good_event (Save processor) h = (good_word _ _ refl, (good_number processor h.1.0, tt))
good_event Commit h = (good_word _ _ refl, tt)
good_event (Lose processor) h = (good_word _ _ refl, (good_number processor h.1.0, tt))
good_event Recover h = (good_word _ _ refl, tt)
good_event Drain h = (good_word _ _ refl, tt)

good_first : AreGood (first_parts One)
good_first = (good_word _ _ refl, (good_word _ _ refl, tt))

-- ---- a line of good parts

plain_line : (parts : List Part) → AreGood parts → Plain (spaced parts)
plain_line [] h = tt
plain_line (p ∷ []) (h, k) = h.plain
plain_line (p ∷ q ∷ ps) (h, k) =
    let space : Plain (codes " ") = (omega arith, tt) in
    plain-append (part_text p ++ codes " ") (spaced (q ∷ ps)) (plain-append (part_text p) (codes " ") h.plain space) (plain_line (q ∷ ps) k)

-- the words of the parts, behind blanks
words_line : (gap : List ℕ) (parts : List Part) → AreBlanks gap → AreGood parts → HasWords (gap ++ spaced parts) (map part_text parts)
words_line gap [] blanks h = subst AreBlanks (sym (append-nil gap)) blanks
words_line gap (p ∷ []) blanks (h, k) = (
  [],
  record {
    gap = gap;
    line_is = ap (λ (x : List ℕ). gap ++ x) (sym (append-nil (part_text p)));
    blanks = blanks;
    is_word = h.word;
    ends = tt;
  },
  tt,
)
words_line gap (p ∷ q ∷ ps) blanks (h, k) = (
  codes " " ++ spaced (q ∷ ps),
  record {
    gap = gap;
    line_is = ap (λ (x : List ℕ). gap ++ x) (append_assoc (part_text p) (codes " ") (spaced (q ∷ ps)));
    blanks = blanks;
    is_word = h.word;
    ends = refl;
  },
  words_line (codes " ") (q ∷ ps) (refl, tt) k,
)

spelled_line : (parts : List Part) → AreGood parts → AreSpelled (map part_text parts) parts
spelled_line [] h = tt
spelled_line (p ∷ ps) (h, k) = (h.spelled, spelled_line ps k)

spells : (parts : List Part) → AreGood parts → Spells (spaced parts) parts
spells parts h = (map part_text parts, words_line [] parts tt h, spelled_line parts h)

-- ---- the whole text

abbrev event_line : Event → List ℕ
event_line e = spaced (parts_of e)

abbrev lines : List Event → List (List ℕ)
lines events = map event_line events

abbrev with_feed : List ℕ → List ℕ
with_feed bytes = bytes ++ 10 ∷ []

text_lines : (events : List Event) → flat_map (λ e. line_text (parts_of e)) events ≡ flat_map with_feed (lines events)
text_lines [] = refl
text_lines (e ∷ es) = ap (λ (x : List ℕ). line_text (parts_of e) ++ x) (text_lines es)

plain_lines : (events : List Event) → AllByRecursion HasSmallNumbers events → AllByRecursion Plain (lines events)
plain_lines [] h = tt
plain_lines (e ∷ es) (h, k) = (plain_line (parts_of e) (good_event e h), plain_lines es k)

no_feeds : (ls : List (List ℕ)) → AllByRecursion Plain ls → AllByRecursion HasNoFeed ls
no_feeds [] h = tt
no_feeds (l ∷ ls) (h, k) = (plain-no_feed l h, no_feeds ls k)

no_crs : (ls : List (List ℕ)) → AllByRecursion Plain ls → map without_cr ls ≡ ls
no_crs [] h = refl
no_crs (l ∷ ls) (h, k) = rw (plain-no_cr l h, no_crs ls k) refl

kept : (e : Event) → is_skipped (event_line e) ≡ false
kept (Run rank ticks) = refl
kept (Deliver place) = refl
kept Settle = refl
kept (Move rank processor) = refl
kept (Balance strategy) = refl
kept Freeze = refl
kept (Save processor) = refl
kept Commit = refl
kept (Lose processor) = refl
kept Recover = refl
kept Drain = refl

told_all : (events : List Event) → told (lines events) ≡ lines events
told_all [] = refl
told_all (e ∷ es) = rw (kept e, told_all es) refl

tell_all : (events : List Event) → AllByRecursion HasSmallNumbers events → Tell One (lines events) events
tell_all [] h = tt
tell_all (e ∷ es) (h, k) = ((tt, spells (parts_of e) (good_event e h)), tell_all es k)

abbrev first : List ℕ
first = spaced (first_parts One)

pub printed_is_read : PrintedIsRead
printed_is_read events small few =
    let all : AllByRecursion Plain (first ∷ lines events) = (plain_line (first_parts One) good_first, plain_lines events small) in
    let told_are : told (first ∷ lines events) ≡ first ∷ lines events = ap (λ (x : List (List ℕ)). first ∷ x) (told_all events) in
    record {
      lines = first ∷ lines events;
      are_lines = record {
        before_feeds = first ∷ lines events;
        rest = [];
        text_is = ap (λ (x : List ℕ). line_text (first_parts One) ++ x) (text_lines events) ∙ sym (append-nil (flat_map with_feed (first ∷ lines events)));
        no_feed = no_feeds (first ∷ lines events) all;
        no_feed_behind = tt;
        lines_are = sym (append-nil (map without_cr (first ∷ lines events)) ∙ no_crs (first ∷ lines events) all);
      };
      answer_is = (
        One,
        record {
          first = first;
          others = lines events;
          told_are = told_are;
          opens = spells (first_parts One) good_first;
          each = tell_all events small;
          few = few;
        },
      );
    }

-- ---- the loop of `print`

abbrev pub lines_text : List Event → List ℕ
lines_text events = flat_map (λ event. line_text (parts_of event)) events

pub print_step : (out out2 final : List ℕ) (events : List Event) (i : ℕ) (d : Event) → i < length events
    → out2 ≡ out ++ line_text (parts_of (get_or events i d)) → out ++ lines_text (drop i events) ≡ final
    → out2 ++ lines_text (drop (i + 1) events) ≡ final
print_step out out2 final events i d within is so_far =
    let next : drop i events ≡ get_or events i d ∷ drop (i + 1) events = rw add-one (drop-cons events i d within) in
    ap (λ (x : List ℕ). x ++ lines_text (drop (i + 1) events)) is
    ∙ append_assoc out (line_text (parts_of (get_or events i d))) (lines_text (drop (i + 1) events))
    ∙ ap (λ (x : List Event). out ++ lines_text x) (sym next) ∙ so_far

all-append : (xs : List Event) (e : Event) → AllByRecursion HasSmallNumbers xs → HasSmallNumbers e → AllByRecursion HasSmallNumbers (xs ++ e ∷ [])
all-append [] e h k = (k, tt)
all-append (x ∷ xs) e (g, h) k = (g, all-append xs e h k)

pub small_step : (events : List Event) (i : ℕ) (d : Event) → i < length events → AllByRecursion HasSmallNumbers (take i events)
    → HasSmallNumbers (get_or events i d) → AllByRecursion HasSmallNumbers (take (i + 1) events)
small_step events i d within all one =
    subst (λ (x : List Event). AllByRecursion HasSmallNumbers x) (sym (take_more events i d within)) (all-append (take i events) (get_or events i d) all one)

pub print_back : (out : List ℕ) (events : List Event) (i : ℕ) → length events ≤ i → out ++ lines_text (drop i events) ≡ printed events
    → AllByRecursion HasSmallNumbers (take i events) → length events ≤ most_events → IsSchedule out events
print_back out events i done so_far small few =
    let rest : drop i events ≡ [] = drop_of_length-le events done in
    let whole : take i events ≡ events =
    sym (append-nil (take i events)) ∙ ap (λ (x : List Event). take i events ++ x) (sym rest) ∙ take-append-drop i events in
    let text : out ≡ printed events = sym (append-nil out) ∙ ap (λ (x : List Event). out ++ lines_text x) (sym rest) ∙ so_far in
    let all : AllByRecursion HasSmallNumbers events = subst (λ (x : List Event). AllByRecursion HasSmallNumbers x) whole small in
    subst (λ (x : List ℕ). IsSchedule x events) (sym text) (printed_is_read events all few)
