-- An event is read exactly where a line spells it, and so is a schedule's first line.
use Rattle.std.proofs.Common.{◌≡◌, ℕ, zero, suc, ◌+◌, ◌<◌, ◌&&◌, Bool, true, false, cond, List, [], ◌∷◌, length, Option, Some, None, refl, sym, ap, ◌∙◌, subst, arith, inl, inr, ◌⊎◌}
use Rattle.std.proofs.lemmas.Bool.{and_parts}
use Rattle.std.proofs.lemmas.Slice.Eq.{bytes_eq-Decides}
use Rattle.std.specs.Option.{option_map}
use Rattle.std.specs.Prelude.{option_and_then, codes}
use Rattle.std.specs.Str.{bytes_eq}
use Rattle.schedule.specs.declared.event.Event.{Event}
use Rattle.schedule.specs.declared.event.Event.TheVariants.{Run, Deliver, Settle, Move, Balance, Freeze, Save, Commit, Lose, Recover, Drain}
use Rattle.schedule.specs.declared.event.Strategy.{Strategy}
use Rattle.schedule.specs.declared.event.Strategy.TheVariants.{Rotate, Greedy, Refine}
use Rattle.schedule.specs.Grammar.{HasWords, Part, Word, Number, IsNumber, IsSpelled, AreSpelled, strategy_name, parts_of, Version, One, first_parts, IsFirst, IsEvent}
use Rattle.schedule.specs.Reading.{word_at, number_in, strategy_in, lone_event, numbered_event, event_with_one, twice_numbered_event, event_with_two, event_in, is_first}
use Rattle.schedule.proofs.WordLaws.{found, chosen, word_at-complete, word_at-sound, word_at-none, word_at-blank, word_at-shorter, number_in-sound, number_in-complete}

-- ---- by lists of words

abbrev pub event_of_list : List (List ℕ) → Option Event
event_of_list [] = None
event_of_list (name ∷ []) = lone_event name
event_of_list (name ∷ a ∷ []) = event_with_one name a
event_of_list (name ∷ a ∷ b ∷ []) = event_with_two name a b
event_of_list (name ∷ a ∷ b ∷ c ∷ words) = None

abbrev pub first_of_list : List (List ℕ) → Bool
first_of_list [] = false
first_of_list (name ∷ []) = false
first_of_list (name ∷ a ∷ []) = bytes_eq name (codes "ampi-schedule") && bytes_eq a (codes "1")
first_of_list (name ∷ a ∷ b ∷ words) = false

-- what `word_at` finds where a line has these words
abbrev Finds : List ℕ → List (List ℕ) → Type 0
Finds line [] = word_at line ≡ None
Finds line (word ∷ words) = (rest : List ℕ) × (word_at line ≡ found word rest) × HasWords rest words

finds : (line : List ℕ) (words : List (List ℕ)) → HasWords line words → Finds line words
finds line [] has = word_at-none line has
finds line (word ∷ words) (rest, begins, has) = (rest, word_at-complete line word rest begins, has)

pub event_in-words : (line : List ℕ) (words : List (List ℕ)) → HasWords line words → event_in line ≡ event_of_list words
unfolding event_in
event_in-words line [] has = rw (finds line [] has) refl
event_in-words line (name ∷ []) has =
    let (r, e, h) = finds line (name ∷ []) has in
    rw (e, finds r [] h) refl
event_in-words line (name ∷ a ∷ []) has =
    let (r, e, h) = finds line (name ∷ a ∷ []) has in
    let (s, f, k) = finds r (a ∷ []) h in
    rw (e, f, finds s [] k) refl
event_in-words line (name ∷ a ∷ b ∷ []) has =
    let (r, e, h) = finds line (name ∷ a ∷ b ∷ []) has in
    let (s, f, k) = finds r (a ∷ b ∷ []) h in
    let (t, g, m) = finds s (b ∷ []) k in
    rw (e, f, g, finds t [] m) refl
event_in-words line (name ∷ a ∷ b ∷ c ∷ words) has =
    let (r, e, h) = finds line (name ∷ a ∷ b ∷ c ∷ words) has in
    let (s, f, k) = finds r (a ∷ b ∷ c ∷ words) h in
    let (t, g, m) = finds s (b ∷ c ∷ words) k in
    let (u, i, n) = finds t (c ∷ words) m in
    rw (e, f, g, i) refl

pub is_first-words : (line : List ℕ) (words : List (List ℕ)) → HasWords line words → is_first line ≡ first_of_list words
unfolding is_first
is_first-words line [] has = rw (finds line [] has) refl
is_first-words line (name ∷ []) has =
    let (r, e, h) = finds line (name ∷ []) has in
    rw (e, finds r [] h) refl
is_first-words line (name ∷ a ∷ []) has =
    let (r, e, h) = finds line (name ∷ a ∷ []) has in
    let (s, f, k) = finds r (a ∷ []) h in
    rw (e, f, finds s [] k) refl
is_first-words line (name ∷ a ∷ b ∷ words) has =
    let (r, e, h) = finds line (name ∷ a ∷ b ∷ words) has in
    let (s, f, k) = finds r (a ∷ b ∷ words) h in
    let (t, g, m) = finds s (b ∷ words) k in
    rw (e, f, g) refl

-- ---- every line has words

record Words (line : List ℕ) : Type 0 where
  words : List (List ℕ)
  has : HasWords line words

cases_found : (o : Option (List ℕ × List ℕ)) → (o ≡ None) ⊎ ((w r : List ℕ) × (o ≡ found w r))
cases_found None = inl refl
cases_found (Some (w, r)) = inr (w, r, refl)

words_within : (n : ℕ) (line : List ℕ) → length line < n → Words line
words_within zero line small = absurd (omega arith)
words_within (suc n) line small =
    elim (cases_found (word_at line)) [
      | inl none ↦ record { words = []; has = word_at-blank line none }
      | inr (w, r, e) ↦
          let rest = words_within n r (omega (arith, small, word_at-shorter line w r e)) in
          record { words = w ∷ rest.words; has = (r, word_at-sound line w r e, rest.has) }
    ]

words_of : (line : List ℕ) → Words line
words_of line = words_within (length line + 1) line (omega arith)

-- ---- the events of words

same : (xs ys : List ℕ) → bytes_eq xs ys ≡ true → xs ≡ ys
same xs ys e = (bytes_eq-Decides xs ys).0 e

pick : {A : Type 0} (P : A → Type 0) (b : Bool) (x e : A) (more : Option A) → cond b (Some x) more ≡ Some e → (b ≡ true → P x) → (more ≡ Some e → P e) → P e
pick P b x e more h chose passed =
    elim (chosen b (Some x) more (Some e) h) [
      | inl (y, s) ↦ let k : x ≡ e = cc in subst P k (chose y)
      | inr (z, s) ↦ passed s
    ]

strategy_in-sound : (word : List ℕ) (s : Strategy) → strategy_in word ≡ Some s → word ≡ strategy_name s
unfolding strategy_in
strategy_in-sound word s e =
    let P : Strategy → Type 0 = λ x. word ≡ strategy_name x in
    pick P (bytes_eq word (codes "rotate")) Rotate s _ e (λ t. same word _ t) (λ f.
    pick P (bytes_eq word (codes "greedy")) Greedy s _ f (λ t. same word _ t) (λ g.
    pick P (bytes_eq word (codes "refine")) Refine s _ g (λ t. same word _ t) (λ h. absurd cc)))

strategy_in-complete : (s : Strategy) → strategy_in (strategy_name s) ≡ Some s
unfolding strategy_in
strategy_in-complete Rotate = refl
strategy_in-complete Greedy = refl
strategy_in-complete Refine = refl

lone_event-sound : (name : List ℕ) (e : Event) → lone_event name ≡ Some e → AreSpelled (name ∷ []) (parts_of e)
unfolding lone_event
lone_event-sound name e h =
    let P : Event → Type 0 = λ x. AreSpelled (name ∷ []) (parts_of x) in
    pick P (bytes_eq name (codes "settle")) Settle e _ h (λ t. (same name _ t, tt)) (λ h1.
    pick P (bytes_eq name (codes "freeze")) Freeze e _ h1 (λ t. (same name _ t, tt)) (λ h2.
    pick P (bytes_eq name (codes "commit")) Commit e _ h2 (λ t. (same name _ t, tt)) (λ h3.
    pick P (bytes_eq name (codes "recover")) Recover e _ h3 (λ t. (same name _ t, tt)) (λ h4.
    pick P (bytes_eq name (codes "drain")) Drain e _ h4 (λ t. (same name _ t, tt)) (λ h5. absurd cc)))))

and_then_some : {A B : Type 0} (f : A → Option B) (o : Option A) (y : B) → option_and_then f o ≡ Some y → (x : A) × (o ≡ Some x) × (f x ≡ Some y)
and_then_some f None y e = absurd cc
and_then_some f (Some x) y e = (x, refl, e)

map_some : {A B : Type 0} (f : A → B) (o : Option A) (y : B) → option_map f o ≡ Some y → (x : A) × (o ≡ Some x) × (f x ≡ y)
map_some f None y e = absurd cc
map_some f (Some x) y e = (x, refl, cc)

numbered-sound : (name a : List ℕ) (n : ℕ) (e : Event) → IsNumber a n → numbered_event name n ≡ Some e → AreSpelled (name ∷ a ∷ []) (parts_of e)
numbered-sound name a n e is h =
    let P : Event → Type 0 = λ x. AreSpelled (name ∷ a ∷ []) (parts_of x) in
    pick P (bytes_eq name (codes "deliver")) (Deliver n) e _ h (λ t. (same name _ t, (is, tt))) (λ h1.
    pick P (bytes_eq name (codes "save")) (Save n) e _ h1 (λ t. (same name _ t, (is, tt))) (λ h2.
    pick P (bytes_eq name (codes "lose")) (Lose n) e _ h2 (λ t. (same name _ t, (is, tt))) (λ h3. absurd cc)))

event_with_one-sound : (name a : List ℕ) (e : Event) → event_with_one name a ≡ Some e → AreSpelled (name ∷ a ∷ []) (parts_of e)
unfolding event_with_one
event_with_one-sound name a e h =
    elim (chosen (bytes_eq name (codes "balance")) (option_map Balance (strategy_in a)) (option_and_then (numbered_event name) (number_in a)) (Some e) h) [
      | inl (y, s) ↦
          let (strategy, read, is) = map_some Balance (strategy_in a) e s in
          let P : Event → Type 0 = λ x. AreSpelled (name ∷ a ∷ []) (parts_of x) in
          subst P is (same name _ y, (strategy_in-sound a strategy read, tt))
      | inr (z, s) ↦
          let (n, read, is) = and_then_some (numbered_event name) (number_in a) e s in
          numbered-sound name a n e (number_in-sound a n read) is
    ]

event_with_two-sound : (name a b : List ℕ) (e : Event) → event_with_two name a b ≡ Some e → AreSpelled (name ∷ a ∷ b ∷ []) (parts_of e)
unfolding event_with_two
event_with_two-sound name a b e h =
    let (m, read, next) = and_then_some (λ m. option_and_then (λ n. twice_numbered_event name m n) (number_in b)) (number_in a) e h in
    let (n, read2, is) = and_then_some (λ n. twice_numbered_event name m n) (number_in b) e next in
    let first = number_in-sound a m read in
    let second = number_in-sound b n read2 in
    let P : Event → Type 0 = λ x. AreSpelled (name ∷ a ∷ b ∷ []) (parts_of x) in
    pick P (bytes_eq name (codes "run")) (Run m n) e _ is (λ t. (same name _ t, (first, (second, tt)))) (λ h1.
    pick P (bytes_eq name (codes "move")) (Move m n) e _ h1 (λ t. (same name _ t, (first, (second, tt)))) (λ h2. absurd cc))

event_of_list-sound : (words : List (List ℕ)) (e : Event) → event_of_list words ≡ Some e → AreSpelled words (parts_of e)
event_of_list-sound [] e h = absurd cc
event_of_list-sound (name ∷ []) e h = lone_event-sound name e h
event_of_list-sound (name ∷ a ∷ []) e h = event_with_one-sound name a e h
event_of_list-sound (name ∷ a ∷ b ∷ []) e h = event_with_two-sound name a b e h
event_of_list-sound (name ∷ a ∷ b ∷ c ∷ words) e h = absurd cc

-- words that spell one, two or three parts
one_part : (words : List (List ℕ)) (p : Part) → AreSpelled words (p ∷ []) → (a : List ℕ) × (words ≡ a ∷ []) × IsSpelled a p
one_part [] p s = absurd s
one_part (a ∷ []) p (s, t) = (a, refl, s)
one_part (a ∷ b ∷ words) p (s, t) = absurd t

two_parts : (words : List (List ℕ)) (p q : Part) → AreSpelled words (p ∷ q ∷ []) → (a b : List ℕ) × (words ≡ a ∷ b ∷ []) × IsSpelled a p × IsSpelled b q
two_parts [] p q s = absurd s
two_parts (a ∷ words) p q (s, t) = let (b, e, u) = one_part words q t in (a, b, ap (λ (x : List (List ℕ)). a ∷ x) e, s, u)

three_parts : (words : List (List ℕ)) (p q r : Part) → AreSpelled words (p ∷ q ∷ r ∷ []) → (a b c : List ℕ) × (words ≡ a ∷ b ∷ c ∷ []) × IsSpelled a p × IsSpelled b q × IsSpelled c r
three_parts [] p q r s = absurd s
three_parts (a ∷ words) p q r (s, t) = let (b, c, e, u, v) = two_parts words q r t in (a, b, c, ap (λ (x : List (List ℕ)). a ∷ x) e, s, u, v)

lone : (words : List (List ℕ)) (name : List ℕ) (e : Event) → AreSpelled words (Word name ∷ []) → lone_event name ≡ Some e → event_of_list words ≡ Some e
lone words name e s h = let (a, w, n) = one_part words (Word name) s in rw (w, n) h

with_one : (words : List (List ℕ)) (name : List ℕ) (n : ℕ) (e : Event) → AreSpelled words (Word name ∷ Number n ∷ [])
    → ((a : List ℕ) → number_in a ≡ Some n → event_with_one name a ≡ Some e) → event_of_list words ≡ Some e
with_one words name n e s h = let (a, b, w, i, j) = two_parts words (Word name) (Number n) s in rw (w, i) (h b (number_in-complete b n j))

with_two : (words : List (List ℕ)) (name : List ℕ) (m n : ℕ) (e : Event) → AreSpelled words (Word name ∷ Number m ∷ Number n ∷ [])
    → ((a b : List ℕ) → number_in a ≡ Some m → number_in b ≡ Some n → event_with_two name a b ≡ Some e) → event_of_list words ≡ Some e
with_two words name m n e s h =
    let (a, b, c, w, i, j, k) = three_parts words (Word name) (Number m) (Number n) s in
    rw (w, i) (h b c (number_in-complete b m j) (number_in-complete c n k))

balance : (words : List (List ℕ)) (strategy : Strategy) → AreSpelled words (parts_of (Balance strategy)) → event_of_list words ≡ Some (Balance strategy)
unfolding event_with_one
balance words strategy s =
    let (a, b, w, i, j) = two_parts words (Word (codes "balance")) (Word (strategy_name strategy)) s in
    rw (w, i, j, strategy_in-complete strategy) refl

event_of_list-complete : (words : List (List ℕ)) (e : Event) → AreSpelled words (parts_of e) → event_of_list words ≡ Some e
unfolding lone_event event_with_one event_with_two
event_of_list-complete words (Run rank ticks) s = with_two words _ rank ticks _ s (λ a b h k. rw (h, k) refl)
event_of_list-complete words (Deliver place) s = with_one words _ place _ s (λ a h. rw h refl)
event_of_list-complete words Settle s = lone words _ _ s refl
event_of_list-complete words (Move rank processor) s = with_two words _ rank processor _ s (λ a b h k. rw (h, k) refl)
event_of_list-complete words (Balance strategy) s = balance words strategy s
event_of_list-complete words Freeze s = lone words _ _ s refl
event_of_list-complete words (Save processor) s = with_one words _ processor _ s (λ a h. rw h refl)
event_of_list-complete words Commit s = lone words _ _ s refl
event_of_list-complete words (Lose processor) s = with_one words _ processor _ s (λ a h. rw h refl)
event_of_list-complete words Recover s = lone words _ _ s refl
event_of_list-complete words Drain s = lone words _ _ s refl

-- ---- the laws

pub event_in-sound : (line : List ℕ) (e : Event) → event_in line ≡ Some e → IsEvent One line e
event_in-sound line e h =
    let w = words_of line in
    (tt, (w.words, w.has, event_of_list-sound w.words e (sym (event_in-words line w.words w.has) ∙ h)))

pub event_in-complete : (v : Version) (line : List ℕ) (e : Event) → IsEvent v line e → event_in line ≡ Some e
event_in-complete One line e (included, (words, has, spelled)) = event_in-words line words has ∙ event_of_list-complete words e spelled

first_of_list-sound : (words : List (List ℕ)) → first_of_list words ≡ true → AreSpelled words (first_parts One)
first_of_list-sound [] h = absurd cc
first_of_list-sound (name ∷ []) h = absurd cc
first_of_list-sound (name ∷ a ∷ []) h =
    let both = and_parts (bytes_eq name (codes "ampi-schedule")) (bytes_eq a (codes "1")) h in
    (same name _ both.0, (same a _ both.1, tt))
first_of_list-sound (name ∷ a ∷ b ∷ words) h = absurd cc

first_of_list-complete : (words : List (List ℕ)) → AreSpelled words (first_parts One) → first_of_list words ≡ true
first_of_list-complete words s =
    let (a, b, w, i, j) = two_parts words (Word (codes "ampi-schedule")) (Word (codes "1")) s in
    rw (w, i, j) refl

pub is_first-sound : (line : List ℕ) → is_first line ≡ true → IsFirst One line
is_first-sound line h =
    let w = words_of line in
    (w.words, w.has, first_of_list-sound w.words (sym (is_first-words line w.words w.has) ∙ h))

pub is_first-complete : (v : Version) (line : List ℕ) → IsFirst v line → is_first line ≡ true
is_first-complete One line (words, has, spelled) = is_first-words line words has ∙ first_of_list-complete words spelled
