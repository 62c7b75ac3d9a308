-- Reading from the first word on finds a run just where the words ask for it.
use Rattle.std.proofs.Common.{◌≡◌, leb, ◌+◌, ◌<◌, ◌≤◌, length, not, Bool, ℕ, inl, inr, true, false, List, [], ◌∷◌, Option, None, Some, refl, sym, ap, subst, ◌∙◌, arith}
use Rattle.std.proofs.lemmas.Bool.{cases_Bool, and_parts, and_from, and_left, leb-true, le-leb, ltb-true, lt-ltb, ne_eqb, false≢true, cond-true, cond-false}
use Rattle.std.proofs.lemmas.Bool.Decides.{nat_tests}
use Rattle.std.proofs.lemmas.List.{length-map}
use Rattle.std.proofs.lemmas.List.Folds.{list_all-map}
use Rattle.std.proofs.lemmas.Option.{option_and_then_some, cond_some, same_Some, none-some}
use Rattle.std.proofs.lemmas.Slice.Eq.{bytes_eq-Decides}
use Rattle.std.specs.Prelude.{is_none, is_some, option_and_then, codes, unwrap_or, map, string_bytes, String, IfSome, IfNone}
use Rattle.std.specs.Borrow.{Bor}
use Rattle.std.specs.Option.{option_copied}
use Rattle.std.specs.Global.{Global}
use Rattle.std.specs.List.{flat_map, list_all, AllByRecursion}
use Rattle.std.specs.Str.{bytes_eq}
use Rattle.run_words.specs.Asks.{IsJournalOf}
use Rattle.run_words.specs.Words.{Part, words_of, IsPlain, IsNumber, IsWellFormed, is_digit, number_of, sources_in, ranks_in, ticks_in, journals_in, Chooses, Asked, AskForRun, AskForCode}
use Rattle.run_words.specs.Words.Part.{Source, Ranks, Ticks, Journal}
use Rattle.run_words.specs.steps.Reading.{Said, nothing_said, is_number, is_plain, is_ranks_value, is_ticks_value, with_file, with_ranks, with_ticks, with_journal, said_with, has_value, files_in, asked_by, asked_of, are_files}

-- the tests of one word

pub IsPlain-from_test : (word : List ℕ) → is_plain word ≡ true → IsPlain word
IsPlain-from_test [] e = absurd (false≢true e)
IsPlain-from_test (b ∷ bs) e = grind (arith, nat_tests)

pub is_plain-from_IsPlain : (word : List ℕ) → IsPlain word → is_plain word ≡ true
is_plain-from_IsPlain [] p = absurd p
is_plain-from_IsPlain (b ∷ bs) p = cond-false _ _ _ (ne_eqb b 45 p)

all_digits : (word : List ℕ) → list_all is_digit word ≡ true → AllByRecursion (λ b. is_digit b ≡ true) word
all_digits [] e = tt
all_digits (b ∷ bs) e = let parts = and_parts (is_digit b) (list_all is_digit bs) e in (parts.0, all_digits bs parts.1)

list_all-digits : (word : List ℕ) → AllByRecursion (λ b. is_digit b ≡ true) word → list_all is_digit word ≡ true
list_all-digits [] p = refl
list_all-digits (b ∷ bs) p = and_from (is_digit b) (list_all is_digit bs) p.0 (list_all-digits bs p.1)

IsNumber-from_test : (word : List ℕ) → is_number word ≡ true → IsNumber word
IsNumber-from_test word e =
    let digits = and_parts _ _ e in
    let size = and_parts _ _ digits.0 in
    (leb-true _ _ size.0, leb-true _ _ size.1, all_digits word digits.1)

pub IsWellFormed-from_test : (word : List ℕ) → is_ranks_value word ≡ true → IsWellFormed (Ranks word)
IsWellFormed-from_test word e =
    let below = and_parts _ _ e in
    let above = and_parts _ _ below.0 in
    (IsNumber-from_test word above.0, leb-true _ _ above.1, leb-true _ _ below.1)

pub is_ranks_value-from_IsWellFormed : (word : List ℕ) → IsWellFormed (Ranks word) → is_ranks_value word ≡ true
is_ranks_value-from_IsWellFormed word p =
    let number : is_number word ≡ true =
    and_from _ _ (and_from _ _ (le-leb _ _ p.0.0) (le-leb _ _ p.0.1)) (list_all-digits word p.0.2) in
    and_from _ _ (and_from _ _ number (le-leb _ _ p.1)) (le-leb _ _ p.2)

pub ticks-from_test : (word : List ℕ) → is_ticks_value word ≡ true → IsWellFormed (Ticks word)
ticks-from_test word e =
    let below = and_parts _ _ e in
    (IsNumber-from_test word below.0, leb-true _ _ below.1)

pub is_ticks_value-from_IsWellFormed : (word : List ℕ) → IsWellFormed (Ticks word) → is_ticks_value word ≡ true
is_ticks_value-from_IsWellFormed word p =
    let number : is_number word ≡ true =
    and_from _ _ (and_from _ _ (le-leb _ _ p.0.0) (le-leb _ _ p.0.1)) (list_all-digits word p.0.2) in
    and_from _ _ number (le-leb _ _ p.1)

-- a plain word is no option's name
plain_is_no_option : (word : List ℕ) → IsPlain word
    → (bytes_eq word (codes "--ranks") ≡ false) × (bytes_eq word (codes "--journal") ≡ false) × (bytes_eq word (codes "--ticks") ≡ false)
plain_is_no_option [] p = absurd p
plain_is_no_option (b ∷ bs) p = (and_left _ _ (ne_eqb b 45 p), and_left _ _ (ne_eqb b 45 p), and_left _ _ (ne_eqb b 45 p))

-- The values come in order behind what was said before: the first only where nothing was said, and no second one.
abbrev Adds : {X : Type 0} → (List ℕ → X) → List (List ℕ) → Option X → Option X → Type 0
Adds value [] before after = after ≡ before
Adds value (word ∷ words) before after = (before ≡ None) × Adds value words (Some (value word)) after

-- The parts say what is new.
record Fills (parts : List Part) (before after : Said) : Type 0 where
  files : after.files ≡ before.files + length (sources_in parts)
  few : before.files ≤ 16 → after.files ≤ 16
  ranks : Adds number_of (ranks_in parts) before.ranks after.ranks
  ticks : Adds number_of (ticks_in parts) before.ticks after.ticks
  journal : Adds (λ name. name) (journals_in parts) before.journal after.journal

-- The words are the parts that say what is new.
record Reads (words : List (List ℕ)) (before after : Said) : Type 0 where
  parts : List Part
  spelled : words ≡ flat_map words_of parts
  well_formed : AllByRecursion IsWellFormed parts
  fills : Fills parts before after

nothing_was : {X : Type 0} (o : Option X) → is_none o ≡ true → o ≡ None
nothing_was None e = refl
nothing_was (Some x) e = absurd (false≢true e)

next-within : (n : ℕ) → n < 16 → n + 1 ≤ 16
next-within n below = omega (arith, below)

-- one part more in front

reads_file : (name : List ℕ) (words : List (List ℕ)) (before middle after : Said)
    → with_file before name ≡ Some middle → Reads words middle after → Reads (name ∷ words) before after
reads_file name words before middle after e r =
    let taken = cond_some _ _ _ e in
    let tests = and_parts _ _ taken.0 in
    let P : Said → Type 0 = λ said. Fills r.parts said after in
    let fills = subst P (sym taken.1) r.fills in
    record {
      parts = Source name ∷ r.parts;
      spelled = ap (λ rest. name ∷ rest) r.spelled;
      well_formed = (IsPlain-from_test name tests.0, r.well_formed);
      fills = record { files = omega (arith, fills.files); few = λ within. fills.few (next-within before.files (ltb-true before.files 16 tests.1)); ranks = fills.ranks; ticks = fills.ticks; journal = fills.journal };
    }

reads_ranks : (value : List ℕ) (words : List (List ℕ)) (before middle after : Said)
    → with_ranks before value ≡ Some middle → Reads words middle after → Reads (codes "--ranks" ∷ value ∷ words) before after
reads_ranks value words before middle after e r =
    let taken = cond_some _ _ _ e in
    let tests = and_parts _ _ taken.0 in
    let P : Said → Type 0 = λ said. Fills r.parts said after in
    let fills = subst P (sym taken.1) r.fills in
    record {
      parts = Ranks value ∷ r.parts;
      spelled = ap (λ rest. codes "--ranks" ∷ value ∷ rest) r.spelled;
      well_formed = (IsWellFormed-from_test value tests.1, r.well_formed);
      fills = record { files = fills.files; few = fills.few; ranks = (nothing_was before.ranks tests.0, fills.ranks); ticks = fills.ticks; journal = fills.journal };
    }

reads_ticks : (value : List ℕ) (words : List (List ℕ)) (before middle after : Said)
    → with_ticks before value ≡ Some middle → Reads words middle after → Reads (codes "--ticks" ∷ value ∷ words) before after
reads_ticks value words before middle after e r =
    let taken = cond_some _ _ _ e in
    let tests = and_parts _ _ taken.0 in
    let P : Said → Type 0 = λ said. Fills r.parts said after in
    let fills = subst P (sym taken.1) r.fills in
    record {
      parts = Ticks value ∷ r.parts;
      spelled = ap (λ rest. codes "--ticks" ∷ value ∷ rest) r.spelled;
      well_formed = (ticks-from_test value tests.1, r.well_formed);
      fills = record { files = fills.files; few = fills.few; ranks = fills.ranks; ticks = (nothing_was before.ticks tests.0, fills.ticks); journal = fills.journal };
    }

reads_journal : (name : List ℕ) (words : List (List ℕ)) (before middle after : Said)
    → with_journal before name ≡ Some middle → Reads words middle after → Reads (codes "--journal" ∷ name ∷ words) before after
reads_journal name words before middle after e r =
    let taken = cond_some _ _ _ e in
    let tests = and_parts _ _ taken.0 in
    let P : Said → Type 0 = λ said. Fills r.parts said after in
    let fills = subst P (sym taken.1) r.fills in
    record {
      parts = Journal name ∷ r.parts;
      spelled = ap (λ rest. codes "--journal" ∷ name ∷ rest) r.spelled;
      well_formed = (IsPlain-from_test name tests.0, r.well_formed);
      fills = record { files = fills.files; few = fills.few; ranks = fills.ranks; ticks = fills.ticks; journal = (nothing_was before.journal tests.1, fills.journal) };
    }

reads_none : (said after : Said) → Some said ≡ Some after → Reads [] said after
reads_none said after e =
    let same = sym (same_Some said after e) in
    record {
      parts = [];
      spelled = refl;
      well_formed = tt;
      fills = record {
        files = ap (λ (s : Said). s.files) same ∙ omega arith;
        few = λ within. rw same within;
        ranks = ap (λ (s : Said). s.ranks) same;
        ticks = ap (λ (s : Said). s.ticks) same;
        journal = ap (λ (s : Said). s.journal) same;
      };
    }

-- what the reading says is what the parts say
Reads-from_said : (words : List (List ℕ)) (before after : Said) → said_with words before ≡ Some after → Reads words before after
Reads-from_said [] before after e = reads_none before after e
Reads-from_said (word ∷ []) before after e = reads_file word [] before after after e (reads_none after after refl)
Reads-from_said (word ∷ value ∷ words) before after e =
    elim (cases_Bool (bytes_eq word (codes "--ranks"))) [
      | inl is_ranks ↦
          let same : word ≡ codes "--ranks" = (bytes_eq-Decides word (codes "--ranks")).0 is_ranks in
          let P : List ℕ → Type 0 = λ w. Reads (w ∷ value ∷ words) before after in
          subst P (sym same)
          (option_and_then_some (said_with words) (with_ranks before value) after (sym (cond-true _ _ _ is_ranks) ∙ e)
          (λ middle one rest. reads_ranks value words before middle after one (Reads-from_said words middle after rest)))
      | inr not_ranks ↦
          let e2 = sym (cond-false _ _ _ not_ranks) ∙ e in
          elim (cases_Bool (bytes_eq word (codes "--journal"))) [
            | inl is_journal ↦
                let same : word ≡ codes "--journal" = (bytes_eq-Decides word (codes "--journal")).0 is_journal in
                let P : List ℕ → Type 0 = λ w. Reads (w ∷ value ∷ words) before after in
                subst P (sym same)
                (option_and_then_some (said_with words) (with_journal before value) after (sym (cond-true _ _ _ is_journal) ∙ e2)
                (λ middle one rest. reads_journal value words before middle after one (Reads-from_said words middle after rest)))
            | inr not_journal ↦
                let e3 = sym (cond-false _ _ _ not_journal) ∙ e2 in
                elim (cases_Bool (bytes_eq word (codes "--ticks"))) [
                  | inl is_ticks ↦
                      let same : word ≡ codes "--ticks" = (bytes_eq-Decides word (codes "--ticks")).0 is_ticks in
                      let P : List ℕ → Type 0 = λ w. Reads (w ∷ value ∷ words) before after in
                      subst P (sym same)
                      (option_and_then_some (said_with words) (with_ticks before value) after (sym (cond-true _ _ _ is_ticks) ∙ e3)
                      (λ middle one rest. reads_ticks value words before middle after one (Reads-from_said words middle after rest)))
                  | inr not_ticks ↦
                      option_and_then_some (said_with (value ∷ words)) (with_file before word) after (sym (cond-false _ _ _ not_ticks) ∙ e3)
                      (λ middle one rest. reads_file word (value ∷ words) before middle after one (Reads-from_said (value ∷ words) middle after rest))
                ]
          ]
    ]

and_then_Some : {X : Type 0} (o : Option X) → option_and_then (λ x. Some x) o ≡ o
and_then_Some None = refl
and_then_Some (Some x) = refl

-- a word that is no option's name
pub said_with-file : (word : List ℕ) (words : List (List ℕ)) (said : Said)
    → bytes_eq word (codes "--ranks") ≡ false → bytes_eq word (codes "--journal") ≡ false → bytes_eq word (codes "--ticks") ≡ false
    → said_with (word ∷ words) said ≡ option_and_then (said_with words) (with_file said word)
said_with-file word [] said no_ranks no_journal no_ticks = sym (and_then_Some (with_file said word))
said_with-file word (value ∷ words) said no_ranks no_journal no_ticks =
    cond-false _ _ _ no_ranks ∙ cond-false _ _ _ no_journal ∙ cond-false _ _ _ no_ticks

-- an option and its value
pub said_with-ranks : (word value : List ℕ) (words after : List (List ℕ)) (said more : Said)
    → bytes_eq word (codes "--ranks") ≡ true → after ≡ value ∷ words → Some more ≡ with_ranks said value
    → said_with (word ∷ after) said ≡ said_with words more
said_with-ranks word value words after said more is_ranks e one =
    ap (λ ws. said_with (word ∷ ws) said) e ∙ cond-true _ _ _ is_ranks ∙ ap (option_and_then (said_with words)) (sym one)

pub said_with-journal : (word name : List ℕ) (words after : List (List ℕ)) (said more : Said)
    → bytes_eq word (codes "--ranks") ≡ false → bytes_eq word (codes "--journal") ≡ true
    → after ≡ name ∷ words → Some more ≡ with_journal said name → said_with (word ∷ after) said ≡ said_with words more
said_with-journal word name words after said more no_ranks is_journal e one =
    ap (λ ws. said_with (word ∷ ws) said) e ∙ cond-false _ _ _ no_ranks ∙ cond-true _ _ _ is_journal
    ∙ ap (option_and_then (said_with words)) (sym one)

pub said_with-ticks : (word value : List ℕ) (words after : List (List ℕ)) (said more : Said)
    → bytes_eq word (codes "--ranks") ≡ false → bytes_eq word (codes "--journal") ≡ false → bytes_eq word (codes "--ticks") ≡ true
    → after ≡ value ∷ words → Some more ≡ with_ticks said value → said_with (word ∷ after) said ≡ said_with words more
said_with-ticks word value words after said more no_ranks no_journal is_ticks e one =
    ap (λ ws. said_with (word ∷ ws) said) e ∙ cond-false _ _ _ no_ranks ∙ cond-false _ _ _ no_journal ∙ cond-true _ _ _ is_ticks
    ∙ ap (option_and_then (said_with words)) (sym one)

said_with-plain : (word : List ℕ) (words : List (List ℕ)) (said : Said) → IsPlain word
    → said_with (word ∷ words) said ≡ option_and_then (said_with words) (with_file said word)
said_with-plain word words said p =
    let no_option = plain_is_no_option word p in said_with-file word words said no_option.0 no_option.1 no_option.2

same_said : (a b : Said) → a.files ≡ b.files → a.ranks ≡ b.ranks → a.ticks ≡ b.ticks → a.journal ≡ b.journal → a ≡ b
same_said a b files ranks ticks journal = λ i. record { files = files i; ranks = ranks i; ticks = ticks i; journal = journal i }

same_asked : (a b : Asked) → a.files ≡ b.files → a.ranks ≡ b.ranks → a.ticks ≡ b.ticks → a.journal ≡ b.journal → a ≡ b
same_asked a b files ranks ticks journal = λ i. record { files = files i; ranks = ranks i; ticks = ticks i; journal = journal i }

-- what the parts say is what the reading says
said_with-parts : (parts : List Part) (before after : Said) → AllByRecursion IsWellFormed parts → Fills parts before after
    → after.files ≤ 16 → said_with (flat_map words_of parts) before ≡ Some after
said_with-parts [] before after p f few =
    let none : before.files ≡ after.files = omega (arith, f.files) in
    ap (λ (s : Said). Some s) (same_said before after none (sym f.ranks) (sym f.ticks) (sym f.journal))
said_with-parts (Source name ∷ parts) before after p f few =
    let words = flat_map words_of parts in
    let middle : Said = record before { files = before.files + 1 } in
    let below : before.files < 16 = omega (arith, f.files, few) in
    let one : with_file before name ≡ Some middle =
    cond-true _ _ _ (and_from _ _ (is_plain-from_IsPlain name p.0) (lt-ltb before.files 16 below)) in
    let fills : Fills parts middle after = record { files = omega (arith, f.files); few = λ within. few; ranks = f.ranks; ticks = f.ticks; journal = f.journal } in
    said_with-plain name words before p.0 ∙ ap (option_and_then (said_with words)) one ∙ said_with-parts parts middle after p.1 fills few
said_with-parts (Ranks value ∷ parts) before after p f few =
    let words = flat_map words_of parts in
    let middle : Said = record before { ranks = Some (number_of value) } in
    let one : with_ranks before value ≡ Some middle =
    cond-true _ _ _ (and_from _ _ (ap is_none f.ranks.0) (is_ranks_value-from_IsWellFormed value p.0)) in
    let fills : Fills parts middle after = record { files = f.files; few = f.few; ranks = f.ranks.1; ticks = f.ticks; journal = f.journal } in
    ap (option_and_then (said_with words)) one ∙ said_with-parts parts middle after p.1 fills few
said_with-parts (Ticks value ∷ parts) before after p f few =
    let words = flat_map words_of parts in
    let middle : Said = record before { ticks = Some (number_of value) } in
    let one : with_ticks before value ≡ Some middle =
    cond-true _ _ _ (and_from _ _ (ap is_none f.ticks.0) (is_ticks_value-from_IsWellFormed value p.0)) in
    let fills : Fills parts middle after = record { files = f.files; few = f.few; ranks = f.ranks; ticks = f.ticks.1; journal = f.journal } in
    ap (option_and_then (said_with words)) one ∙ said_with-parts parts middle after p.1 fills few
said_with-parts (Journal name ∷ parts) before after p f few =
    let words = flat_map words_of parts in
    let middle : Said = record before { journal = Some name } in
    let one : with_journal before name ≡ Some middle =
    cond-true _ _ _ (and_from _ _ (is_plain-from_IsPlain name p.0) (ap is_none f.journal.0)) in
    let fills : Fills parts middle after = record { files = f.files; few = f.few; ranks = f.ranks; ticks = f.ticks; journal = f.journal.1 } in
    ap (option_and_then (said_with words)) one ∙ said_with-parts parts middle after p.1 fills few

-- an option that stands once at most

abbrev first_said : {X : Type 0} → (List ℕ → X) → List (List ℕ) → Option X
first_said value [] = None
first_said value (word ∷ words) = Some (value word)

chosen : {X Y : Type 0} (value : List ℕ → X) (choice : Option X → Y) (words : List (List ℕ)) (said : Option X)
    → Adds value words None said → Chooses words (λ w. choice (Some (value w))) (choice None) (choice said)
chosen value choice [] said a = ap choice a
chosen value choice (w ∷ []) said a = ap choice a.1
chosen value choice (w ∷ v ∷ words) said a = none-some (value w) (sym a.1.0)

Adds-chosen : {X Y : Type 0} (value : List ℕ → X) (choice : Option X → Y) (words : List (List ℕ)) (c : Y)
    → Chooses words (λ w. choice (Some (value w))) (choice None) c
    → Adds value words None (first_said value words) × (choice (first_said value words) ≡ c)
Adds-chosen value choice [] c h = (refl, sym h)
Adds-chosen value choice (w ∷ []) c h = ((refl, refl), sym h)
Adds-chosen value choice (w ∷ v ∷ words) c h = absurd h

asked_parts : (files : List (List ℕ)) (said : Said) (asked : Asked) → asked_by files said ≡ Some asked
    → (0 < said.files) × (files ≡ asked.files) × (unwrap_or said.ranks 1 ≡ asked.ranks) × (unwrap_or said.ticks 1000000 ≡ asked.ticks)
    × (said.journal ≡ asked.journal)
asked_parts files said asked e =
    let taken = cond_some _ _ _ e in (
      ltb-true 0 said.files taken.0,
      ap (λ (a : Asked). a.files) taken.1,
      ap (λ (a : Asked). a.ranks) taken.1,
      ap (λ (a : Asked). a.ticks) taken.1,
      ap (λ (a : Asked). a.journal) taken.1,
    )

-- the words that are neither options nor their values are the names of the sources

files_in-file : (word : List ℕ) (words : List (List ℕ)) → has_value word ≡ false → files_in (word ∷ words) ≡ word ∷ files_in words
files_in-file word [] none = cond-false _ _ _ none
files_in-file word (value ∷ words) none = cond-false _ _ _ none

plain_has_none : (word : List ℕ) → IsPlain word → has_value word ≡ false
plain_has_none word p = let no_option = plain_is_no_option word p in rw (no_option.0, no_option.1, no_option.2) refl

files_in-parts : (parts : List Part) → AllByRecursion IsWellFormed parts → files_in (flat_map words_of parts) ≡ sources_in parts
files_in-parts [] p = refl
files_in-parts (Source name ∷ parts) p =
    files_in-file name (flat_map words_of parts) (plain_has_none name p.0) ∙ ap (λ names. name ∷ names) (files_in-parts parts p.1)
files_in-parts (Ranks value ∷ parts) p = files_in-parts parts p.1
files_in-parts (Ticks value ∷ parts) p = files_in-parts parts p.1
files_in-parts (Journal name ∷ parts) p = files_in-parts parts p.1

asks : (words : List (List ℕ)) (said : Said) (asked : Asked) → said_with words nothing_said ≡ Some said → asked_by (files_in words) said ≡ Some asked
    → AskForRun (codes "run" ∷ words) asked
asks words said asked one rest =
    let r = Reads-from_said words nothing_said said one in
    let same = asked_parts (files_in words) said asked rest in
    let named : sources_in r.parts ≡ asked.files = sym (ap files_in r.spelled ∙ files_in-parts r.parts r.well_formed) ∙ same.1 in
    let many : length (sources_in r.parts) ≡ length asked.files = ap length named in
    let P : ℕ → Type 0 = Chooses (ranks_in r.parts) number_of 1 in
    let T : ℕ → Type 0 = Chooses (ticks_in r.parts) number_of 1000000 in
    let Q : Option (List ℕ) → Type 0 = Chooses (journals_in r.parts) Some None in
    record {
      parts = r.parts;
      spelled = ap (λ ws. codes "run" ∷ ws) r.spelled;
      well_formed = r.well_formed;
      files = named;
      some_files = (omega (arith, same.0, r.fills.files, many), omega (arith, r.fills.few (omega arith), r.fills.files, many));
      ranks = subst P same.2 (chosen number_of (λ o. unwrap_or o 1) (ranks_in r.parts) said.ranks r.fills.ranks);
      ticks = subst T same.3 (chosen number_of (λ o. unwrap_or o 1000000) (ticks_in r.parts) said.ticks r.fills.ticks);
      journal = subst Q same.4 (chosen (λ n. n) (λ o. o) (journals_in r.parts) said.journal r.fills.journal);
    }

pub AskForRun-from_asked : (words : List (List ℕ)) (asked : Asked) → asked_of words ≡ Some asked → AskForRun words asked
AskForRun-from_asked [] asked e = absurd (none-some asked e)
AskForRun-from_asked (word ∷ words) asked e =
    elim (cases_Bool (bytes_eq word (codes "run"))) [
      | inl is_run ↦
          let same : word ≡ codes "run" = (bytes_eq-Decides word (codes "run")).0 is_run in
          let P : List ℕ → Type 0 = λ w. AskForRun (w ∷ words) asked in
          subst P (sym same)
          (option_and_then_some (asked_by (files_in words)) (said_with words nothing_said) asked (sym (cond-true _ _ _ is_run) ∙ e)
          (λ said one rest. asks words said asked one rest))
      | inr not_run ↦ absurd (none-some asked (sym (cond-false _ _ _ not_run) ∙ e))
    ]

pub asked_of-from_AskForRun : (words : List (List ℕ)) (asked : Asked) → AskForRun words asked → asked_of words ≡ Some asked
asked_of-from_AskForRun words asked a =
    let spelled = flat_map words_of a.parts in
    let ranks = Adds-chosen number_of (λ o. unwrap_or o 1) (ranks_in a.parts) asked.ranks a.ranks in
    let ticks = Adds-chosen number_of (λ o. unwrap_or o 1000000) (ticks_in a.parts) asked.ticks a.ticks in
    let journal = Adds-chosen (λ n. n) (λ o. o) (journals_in a.parts) asked.journal a.journal in
    let said : Said = record {
      files = length (sources_in a.parts);
      ranks = first_said number_of (ranks_in a.parts);
      ticks = first_said number_of (ticks_in a.parts);
      journal = first_said (λ n. n) (journals_in a.parts);
    } in
    let many : length (sources_in a.parts) ≡ length asked.files = ap length a.files in
    let few : said.files ≤ 16 = omega (arith, many, a.some_files.1) in
    let some : 0 < said.files = omega (arith, many, a.some_files.0) in
    let fills : Fills a.parts nothing_said said =
    record { files = omega arith; few = λ within. few; ranks = ranks.0; ticks = ticks.0; journal = journal.0 } in
    let one : said_with spelled nothing_said ≡ Some said = said_with-parts a.parts nothing_said said a.well_formed fills few in
    let asks_for : Asked = record { files = files_in spelled; ranks = unwrap_or said.ranks 1; ticks = unwrap_or said.ticks 1000000; journal = said.journal } in
    let same : asks_for ≡ asked = same_asked asks_for asked (files_in-parts a.parts a.well_formed ∙ a.files) ranks.1 ticks.1 journal.1 in
    ap asked_of a.spelled ∙ ap (option_and_then (asked_by (files_in spelled))) one ∙ cond-true _ _ _ (lt-ltb 0 said.files some)
    ∙ ap (λ (x : Asked). Some x) same

pub one_run : (words : List (List ℕ)) (a b : Asked) → AskForRun words a → AskForRun words b → a ≡ b
one_run words a b p q = same_Some a b (sym (asked_of-from_AskForRun words a p) ∙ asked_of-from_AskForRun words b q)

-- the same at the words' texts

pub asks_for : (items words : List (String Global)) (asked : Asked) → items ≡ words
    → Some asked ≡ asked_of (map string_bytes items) → AskForRun (map string_bytes words) asked
asks_for items words asked same e =
    AskForRun-from_asked _ asked (ap (λ ws. asked_of (map string_bytes ws)) (sym same) ∙ sym e)

pub none_asked : (items words : List (String Global)) → items ≡ words → None ≡ asked_of (map string_bytes items)
    → (asked : Asked) → AskForRun (map string_bytes words) asked → ⊥
none_asked items words same e asked a =
    none-some asked (e ∙ ap (λ ws. asked_of (map string_bytes ws)) same ∙ asked_of-from_AskForRun _ asked a)

pub journal_if_some : (words : List (List ℕ)) (journal : Option (Bor (List ℕ))) (asked : Asked) → AskForRun words asked
    → asked.journal ≡ option_copied journal → IfSome journal (λ name. IsJournalOf words (Some name.now))
journal_if_some words None asked a e = tt
journal_if_some words (Some name) asked a e = record { asked = asked; asks = a; same = e }

pub journal_if_none : (words : List (List ℕ)) (journal : Option (Bor (List ℕ))) (asked : Asked) → AskForRun words asked
    → asked.journal ≡ option_copied journal → IfNone journal ((other : Asked) → AskForRun words other → other.journal ≡ None)
journal_if_none words None asked a e =
    λ other o. ap (λ (x : Asked). x.journal) (one_run words other asked o a) ∙ e
journal_if_none words (Some name) asked a e = tt

pub IfNone-from : {X : Type 0} (o : Option X) (P : Type 0) → P → IfNone o P
IfNone-from None P p = p
IfNone-from (Some x) P p = tt

pub None-from_is_some : {X : Type 0} (o : Option X) → is_some o ≡ false → o ≡ None
None-from_is_some None e = refl
None-from_is_some (Some x) e = absurd (false≢true (sym e))

not-false : (b : Bool) → false ≡ not b → b ≡ true
not-false true e = refl
not-false false e = cc

pub same-word : (a b : List ℕ) → false ≡ not (bytes_eq a b) → a ≡ b
same-word a b e = (bytes_eq-Decides a b).0 (not-false (bytes_eq a b) e)

-- the word `code`, and names of files behind it

all_plain : (names : List (List ℕ)) → list_all is_plain names ≡ true → AllByRecursion IsPlain names
all_plain [] e = tt
all_plain (name ∷ names) e =
    let parts = and_parts (is_plain name) (list_all is_plain names) e in
    (IsPlain-from_test name parts.0, all_plain names parts.1)

list_all-plain : (names : List (List ℕ)) → AllByRecursion IsPlain names → list_all is_plain names ≡ true
list_all-plain [] p = refl
list_all-plain (name ∷ names) p = and_from (is_plain name) (list_all is_plain names) (is_plain-from_IsPlain name p.0) (list_all-plain names p.1)

pub asks-code : (words : List (List ℕ)) (first : List ℕ) (files : List (List ℕ)) → words ≡ first ∷ files → first ≡ codes "code"
    → are_files files ≡ true → AskForCode words files
asks-code words first files words_are code are =
    let tests = and_parts _ _ are in
    let sizes = and_parts _ _ tests.0 in
    record {
      spelled = words_are ∙ ap (λ w. w ∷ files) code;
      plain = all_plain files tests.1;
      some_files = (leb-true 1 (length files) sizes.0, leb-true (length files) 16 sizes.1);
    }

pub code-files : (words files : List (List ℕ)) → AskForCode words files → are_files files ≡ true
code-files words files asks =
    and_from _ _ (and_from _ _ (le-leb 1 (length files) asks.some_files.0) (le-leb (length files) 16 asks.some_files.1)) (list_all-plain files asks.plain)

-- the same of words that are texts

pub are-files : {S : Type 0} (f : S → List ℕ) (names : List S) (all : Bool) → leb 1 (length names) ≡ true → leb (length names) 16 ≡ true
    → all ≡ list_all (λ s. is_plain (f s)) names → all ≡ are_files (map f names)
are-files f names all some few e =
    let is : all ≡ list_all is_plain (map f names) = e ∙ sym (list_all-map is_plain f names) in
    rw (length-map names f, some, few) is

pub asks-code-texts : {S : Type 0} (f : S → List ℕ) (words files : List S) (first : S) → words ≡ first ∷ files → f first ≡ codes "code"
    → are_files (map f files) ≡ true → AskForCode (map f words) (map f files)
asks-code-texts f words files first words_are code are = asks-code (map f words) (f first) (map f files) (ap (map f) words_are) code are

pub no-code-texts : {S : Type 0} (f : S → List ℕ) (words files : List S) (first : S) → words ≡ first ∷ files
    → are_files (map f files) ≡ false → (other : List (List ℕ)) → AskForCode (map f words) other → ⊥
no-code-texts f words files first words_are none other asks =
    let same : f first ∷ map f files ≡ codes "code" ∷ other = sym (ap (map f) words_are) ∙ asks.spelled in
    let others : map f files ≡ other = cc in
    false≢true (sym none ∙ ap are_files others ∙ code-files (map f words) other asks)
