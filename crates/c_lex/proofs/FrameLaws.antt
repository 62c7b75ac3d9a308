-- What holds of the macros that are being replaced, from one step to the next.
use Rattle.std.proofs.Common.{◌≡◌, ◌≢◌, ◌⊎◌, ℕ, ◌+◌, ◌<◌, Bool, true, false, List, [], ◌∷◌, ◌++◌, length, take, refl, sym, ap, subst, ◌∙◌, arith, inl, inr}
use Rattle.std.specs.Prelude.{◌==◌, slice_index_or, slice_set}
use Rattle.std.proofs.Math.ListN.{set}
use Rattle.std.proofs.lemmas.List.{get_or-set_same, get_or-set_other}
use Rattle.std.proofs.lemmas.Bool.{eqb-true, eq-eqb}
use Rattle.c_lex.specs.declared.expand.Frame.{Frame}
use Rattle.c_lex.specs.declared.expand.Mark.{Mark}
use Rattle.c_lex.specs.declared.lexeme.Lexeme.{Lexeme}
use Rattle.c_lex.specs.Lexemes.{name_token}
use Rattle.c_lex.specs.Pieces.{Macro}
use Rattle.c_lex.specs.Faults.{IsDefined}
use Rattle.c_lex.specs.Tokens.{names_of, HasMacro, Replaces}
use Rattle.c_lex.specs.Frames.{no_mark, is_empty_at, place_at, AreNames, hidden_in, AreApart, AreUnder, AreWalked, ArePlaced, AreStanding, stepped, with_empty, with_place}
use Rattle.c_lex.proofs.MacroLaws.{has_first, has_later, has_split, has_none}

-- ---- names and marks

names_later : (m : Macro) (ms : List Macro) (ls : List Lexeme) → AreNames ms ls → AreNames (m ∷ ms) ls
names_later m ms [] names = tt
names_later m ms (l ∷ ls) names =
    ((names.0.0, has_later m names.0.0 ms names.0.1, names.0.2), names_later m ms ls names.1)

names_under : (a m : Macro) (ms : List Macro) (ls : List Lexeme) → AreNames (a ∷ ms) ls → AreNames (a ∷ m ∷ ms) ls
names_under a m ms [] names = tt
names_under a m ms (l ∷ ls) names = (by (has_split a names.0.0 ms names.0.1), names_under a m ms ls names.1)
  where
    by : (a ≡ names.0.0) ⊎ HasMacro ms names.0.0 → (x : Macro) × HasMacro (a ∷ m ∷ ms) x × (l ≡ name_token x.name)
    by (inl same) =
        let P : Macro → Type 0 = λ x. HasMacro (a ∷ m ∷ ms) x in
        (names.0.0, subst P same (has_first a (m ∷ ms)), names.0.2)
    by (inr later) = (names.0.0, has_later a names.0.0 (m ∷ ms) (has_later m names.0.0 ms later), names.0.2)

names_more : (ms : List Macro) (m : Macro) (ls : List Lexeme) (l : Lexeme) → AreNames ms ls → HasMacro ms m → l ≡ name_token m.name
    → AreNames ms (ls ++ l ∷ [])
names_more ms m [] l names h e = ((m, h, e), tt)
names_more ms m (x ∷ xs) l names h e = (names.0, names_more ms m xs l names.1 h e)

same_number : (i j : ℕ) → (j ≡ i) ⊎ (j ≢ i)
same_number i j = by (j == i) refl
  where
    by : (b : Bool) → (j == i) ≡ b → (j ≡ i) ⊎ (j ≢ i)
    by true e = inl (eqb-true j i e)
    by false e = inr (λ f. no_clash (sym e ∙ eq-eqb j i f))
      where
        no_clash : false ≡ true → ⊥
        no_clash e = cc

mark_there : (marks : List Mark) (i : ℕ) (x : Mark) → i < length marks → slice_index_or (slice_set marks i x) i no_mark ≡ x
mark_there marks i x h = get_or-set_same marks i x no_mark h

mark_else : (marks : List Mark) (i j : ℕ) (x : Mark) → j ≢ i → slice_index_or (slice_set marks i x) j no_mark ≡ slice_index_or marks j no_mark
mark_else marks i j x differ = get_or-set_other marks i j x no_mark differ

same_places : (marks : List Mark) (i j : ℕ) → i < length marks → place_at (with_empty marks i) j ≡ place_at marks j
same_places marks i j within = by (same_number i j)
  where
    x : Mark
    x = record { is_empty = true; place = place_at marks i }

    by : (j ≡ i) ⊎ (j ≢ i) → place_at (with_empty marks i) j ≡ place_at marks j
    by (inl e) =
        let P : ℕ → Type 0 = λ k. place_at (with_empty marks i) k ≡ place_at marks k in
        subst P (sym e) (ap (λ (m : Mark). m.place) (mark_there marks i x within))
    by (inr differ) = ap (λ (m : Mark). m.place) (mark_else marks i j x differ)

same_empty : (marks : List Mark) (i j place : ℕ) → i < length marks → is_empty_at (with_place marks i place) j ≡ is_empty_at marks j
same_empty marks i j place within = by (same_number i j)
  where
    x : Mark
    x = record { is_empty = is_empty_at marks i; place = place }

    by : (j ≡ i) ⊎ (j ≢ i) → is_empty_at (with_place marks i place) j ≡ is_empty_at marks j
    by (inl e) =
        let P : ℕ → Type 0 = λ k. is_empty_at (with_place marks i place) k ≡ is_empty_at marks k in
        subst P (sym e) (ap (λ (m : Mark). m.is_empty) (mark_there marks i x within))
    by (inr differ) = ap (λ (m : Mark). m.is_empty) (mark_else marks i j x differ)

placed_same : (before after : List Mark) (fs : List Frame) → ((j : ℕ) → place_at after j ≡ place_at before j) → ArePlaced before fs
    → ArePlaced after fs
placed_same before after [] same placed = tt
placed_same before after (f ∷ fs) same placed = (same f.number ∙ placed.0, placed_same before after fs same placed.1)

-- ---- frames

module _ (macros : List Macro) (macro_of : ℕ → Macro) (size : ℕ) (has : (i : ℕ) → i < size → HasMacro macros (macro_of i))
    (one_each : (i j : ℕ) → i < size → j < size → (macro_of i).name ≡ (macro_of j).name → i ≡ j) where
  apart_more : (m : Macro) (empty : List Macro) (fs : List Frame) → (IsDefined (hidden_in macros macro_of fs) m.name → ⊥)
      → AreApart macros macro_of empty fs → AreApart macros macro_of (m ∷ empty) fs
  apart_more m empty [] out apart = tt
  apart_more m empty (f ∷ fs) out apart = (
    apart.0,
    λ d. by (has_split m.name (macro_of f.number).name (names_of empty) d),
    apart_more m empty fs (λ d. out (has_later (macro_of f.number).name m.name (hidden_in macros macro_of fs) d)) apart.2,
  )
    where
      by : (m.name ≡ (macro_of f.number).name) ⊎ IsDefined (names_of empty) (macro_of f.number).name → ⊥
      by (inl e) =
          let P : List ℕ → Type 0 = λ n. IsDefined (hidden_in macros macro_of (f ∷ fs)) n in
          out (subst P (sym e) (has_first (macro_of f.number).name (hidden_in macros macro_of fs)))
      by (inr d) = apart.1 d

  under_more : (m : Macro) (empty : List Macro) (above : Macro) (start : ℕ) (fs : List Frame)
      → AreUnder macros macro_of empty above start fs → AreUnder macros macro_of (m ∷ empty) above start fs
  under_more m empty above start [] under = tt
  under_more m empty above start (f ∷ fs) under = (
    λ e. names_under above m empty (take f.place (macro_of f.number).body) (under.0 e),
    under.1,
    under_more m empty (macro_of f.number) f.start fs under.2,
  )

  walked_empty : (m : Macro) (empty : List Macro) (count : ℕ) (fs : List Frame) → AreUnder macros macro_of empty m count fs
      → AreWalked macros macro_of (m ∷ empty) count fs
  walked_empty m empty count [] under = tt
  walked_empty m empty count (f ∷ fs) under = (under.0, under.1, under_more m empty (macro_of f.number) f.start fs under.2)

  walked_some : (m : Macro) (empty : List Macro) (start count : ℕ) (fs : List Frame) → start < count
      → AreUnder macros macro_of empty m start fs → AreWalked macros macro_of empty count fs
  walked_some m empty start count [] more under = tt
  walked_some m empty start count (f ∷ fs) more under =
      (λ e. absurd (omega (arith, under.1, more, e)), omega (arith, under.1, more), under.2)

  -- ---- a macro has ended

  pub ended_empty : (marks : List Mark) (f : Frame) (fs : List Frame) (count : ℕ) → size ≡ length marks → f.start ≡ count
      → take f.place (macro_of f.number).body ≡ (macro_of f.number).body
      → AreStanding macros macro_of size marks (f ∷ fs) count
      → AreStanding macros macro_of size (with_empty marks f.number) fs count
  ended_empty marks f fs count sizes start whole s = record {
    empty = macro_of f.number ∷ s.empty;
    are_empty = (
      has f.number s.within.0,
      s.apart.1,
      (let P : List Lexeme → Type 0 = λ ls. AreNames s.empty ls in subst P whole (s.walked.0 (sym start))),
      s.are_empty,
    );
    marked = λ i h e. marked i h e (same_number f.number i);
    unmarked = λ i h d. unmarked i h (has_split (macro_of f.number).name (macro_of i).name (names_of s.empty) d);
    within = s.within.1;
    apart = apart_more (macro_of f.number) s.empty fs s.apart.0 s.apart.2;
    placed = placed_same marks (with_empty marks f.number) fs (λ j. same_places marks f.number j inside) s.placed.1;
    walked =
        let P : ℕ → Type 0 = λ n. AreUnder macros macro_of s.empty (macro_of f.number) n fs in
        walked_empty (macro_of f.number) s.empty count fs (subst P start s.walked.2);
  }
    where
      inside : f.number < length marks
      inside = omega (arith, s.within.0, sizes)

      x : Mark
      x = record { is_empty = true; place = place_at marks f.number }

      marked : (i : ℕ) → i < size → is_empty_at (with_empty marks f.number) i ≡ true → (i ≡ f.number) ⊎ (i ≢ f.number)
          → HasMacro (macro_of f.number ∷ s.empty) (macro_of i)
      marked i h e (inl same) =
          let P : ℕ → Type 0 = λ k. HasMacro (macro_of f.number ∷ s.empty) (macro_of k) in
          subst P (sym same) (has_first (macro_of f.number) s.empty)
      marked i h e (inr differ) =
          has_later (macro_of f.number) (macro_of i) s.empty
          (s.marked i h (sym (ap (λ (m : Mark). m.is_empty) (mark_else marks f.number i x differ)) ∙ e))

      now_empty : is_empty_at (with_empty marks f.number) f.number ≡ true
      now_empty = ap (λ (m : Mark). m.is_empty) (mark_there marks f.number x inside)

      still : (i : ℕ) → is_empty_at marks i ≡ true → (i ≡ f.number) ⊎ (i ≢ f.number) → is_empty_at (with_empty marks f.number) i ≡ true
      still i e (inl same) =
          let P : ℕ → Type 0 = λ k. is_empty_at (with_empty marks f.number) k ≡ true in subst P (sym same) now_empty
      still i e (inr differ) = ap (λ (m : Mark). m.is_empty) (mark_else marks f.number i x differ) ∙ e

      unmarked : (i : ℕ) → i < size → ((macro_of f.number).name ≡ (macro_of i).name) ⊎ IsDefined (names_of s.empty) (macro_of i).name
          → is_empty_at (with_empty marks f.number) i ≡ true
      unmarked i h (inl e) =
          let P : ℕ → Type 0 = λ k. is_empty_at (with_empty marks f.number) k ≡ true in
          subst P (one_each f.number i s.within.0 h e) now_empty
      unmarked i h (inr d) = still i (s.unmarked i h d) (same_number f.number i)

  pub ended_some : (marks : List Mark) (f : Frame) (fs : List Frame) (count : ℕ) → f.start ≢ count
      → AreStanding macros macro_of size marks (f ∷ fs) count → AreStanding macros macro_of size marks fs count
  ended_some marks f fs count differ s = record {
    empty = s.empty;
    are_empty = s.are_empty;
    marked = s.marked;
    unmarked = s.unmarked;
    within = s.within.1;
    apart = s.apart.2;
    placed = s.placed.1;
    walked = walked_some (macro_of f.number) s.empty f.start count fs (omega (arith, s.walked.1, differ)) s.walked.2;
  }

  -- where nothing is being replaced
  pub at_rest : (marks : List Mark) (fs : List Frame) (count : ℕ) → AreStanding macros macro_of size marks fs count
      → AreStanding macros macro_of size marks [] 0
  at_rest marks fs count s = record {
    empty = s.empty;
    are_empty = s.are_empty;
    marked = s.marked;
    unmarked = s.unmarked;
    within = tt;
    apart = tt;
    placed = tt;
    walked = tt;
  }

  -- ---- a token is kept, skipped, or begins to be replaced

  pub token_kept : (marks : List Mark) (f : Frame) (fs : List Frame) (count : ℕ)
      → AreStanding macros macro_of size marks (f ∷ fs) count → AreStanding macros macro_of size marks (stepped f ∷ fs) (count + 1)
  token_kept marks f fs count s = record {
    empty = s.empty;
    are_empty = s.are_empty;
    marked = s.marked;
    unmarked = s.unmarked;
    within = s.within;
    apart = s.apart;
    placed = s.placed;
    walked = (λ e. absurd (omega (arith, s.walked.1, e)), omega (arith, s.walked.1), s.walked.2);
  }

  pub token_skipped : (marks : List Mark) (f : Frame) (fs : List Frame) (count i : ℕ) (l : Lexeme) → i < size
      → is_empty_at marks i ≡ true → l ≡ name_token (macro_of i).name
      → take (f.place + 1) (macro_of f.number).body ≡ take f.place (macro_of f.number).body ++ l ∷ []
      → AreStanding macros macro_of size marks (f ∷ fs) count → AreStanding macros macro_of size marks (stepped f ∷ fs) count
  token_skipped marks f fs count i l inside is named more s = record {
    empty = s.empty;
    are_empty = s.are_empty;
    marked = s.marked;
    unmarked = s.unmarked;
    within = s.within;
    apart = s.apart;
    placed = s.placed;
    walked = (
      λ e.
          let P : List Lexeme → Type 0 = λ ls. AreNames s.empty ls in
          subst P (sym more)
          (names_more s.empty (macro_of i) (take f.place (macro_of f.number).body) l (s.walked.0 e) (s.marked i inside is) named),
      s.walked.1,
      s.walked.2,
    );
  }

  placed_other : (marks : List Mark) (i place : ℕ) (fs : List Frame) → (IsDefined (hidden_in macros macro_of fs) (macro_of i).name → ⊥)
      → ArePlaced marks fs → ArePlaced (with_place marks i place) fs
  placed_other marks i place [] out placed = tt
  placed_other marks i place (f ∷ fs) out placed = (
    ap (λ (m : Mark). m.place) (mark_else marks i f.number (record { is_empty = is_empty_at marks i; place = place }) differ) ∙ placed.0,
    placed_other marks i place fs (λ d. out (has_later (macro_of f.number).name (macro_of i).name (hidden_in macros macro_of fs) d)) placed.1,
  )
    where
      differ : f.number ≢ i
      differ e =
          let P : ℕ → Type 0 = λ k. IsDefined (hidden_in macros macro_of (f ∷ fs)) (macro_of k).name in
          out (subst P e (has_first (macro_of f.number).name (hidden_in macros macro_of fs)))

  pub token_begun : (marks : List Mark) (f : Frame) (fs : List Frame) (count i : ℕ) (l : Lexeme) → size ≡ length marks → i < size
      → is_empty_at marks i ≡ false → Replaces macros (hidden_in macros macro_of (f ∷ fs)) (macro_of i) l
      → take (f.place + 1) (macro_of f.number).body ≡ take f.place (macro_of f.number).body ++ l ∷ []
      → AreStanding macros macro_of size marks (f ∷ fs) count
      → AreStanding macros macro_of size (with_place marks i (length (stepped f ∷ fs)))
      (record { number = i; place = 0; start = count } ∷ stepped f ∷ fs) count
  token_begun marks f fs count i l sizes inside is r more s = record {
    empty = s.empty;
    are_empty = s.are_empty;
    marked = λ j h e. s.marked j h (sym (same_empty marks i j here within) ∙ e);
    unmarked = λ j h d. same_empty marks i j here within ∙ s.unmarked j h d;
    within = (inside, s.within);
    apart = (r.not_hidden, (λ d. no_clash (sym is ∙ s.unmarked i inside d)), s.apart);
    placed = (
      ap (λ (m : Mark). m.place) (mark_there marks i (record { is_empty = is_empty_at marks i; place = here }) within),
      placed_other marks i here (stepped f ∷ fs) r.not_hidden s.placed,
    );
    walked = (
      λ e. tt,
      omega arith,
      (
        λ e.
            let P : List Lexeme → Type 0 = λ ls. AreNames (macro_of i ∷ s.empty) ls in
            subst P (sym more)
            (names_more (macro_of i ∷ s.empty) (macro_of i) (take f.place (macro_of f.number).body) l
            (names_later (macro_of i) s.empty (take f.place (macro_of f.number).body) (s.walked.0 e))
            (has_first (macro_of i) s.empty) r.named),
        s.walked.1,
        s.walked.2,
      ),
    );
  }
    where
      here : ℕ
      here = length (stepped f ∷ fs)

      within : i < length marks
      within = omega (arith, inside, sizes)

      no_clash : false ≡ true → ⊥
      no_clash e = cc

  -- the first macro that is being replaced
  pub first_begun : (marks : List Mark) (count i : ℕ) → size ≡ length marks → i < size → is_empty_at marks i ≡ false
      → AreStanding macros macro_of size marks [] 0
      → AreStanding macros macro_of size (with_place marks i 0) (record { number = i; place = 0; start = count } ∷ []) count
  first_begun marks count i sizes inside is s = record {
    empty = s.empty;
    are_empty = s.are_empty;
    marked = λ j h e. s.marked j h (sym (same_empty marks i j 0 within) ∙ e);
    unmarked = λ j h d. same_empty marks i j 0 within ∙ s.unmarked j h d;
    within = (inside, tt);
    apart = (has_none (macro_of i).name, (λ d. no_clash (sym is ∙ s.unmarked i inside d)), tt);
    placed = (ap (λ (m : Mark). m.place) (mark_there marks i (record { is_empty = is_empty_at marks i; place = 0 }) within), tt);
    walked = ((λ e. tt), omega arith, tt);
  }
    where
      within : i < length marks
      within = omega (arith, inside, sizes)

      no_clash : false ≡ true → ⊥
      no_clash e = cc
