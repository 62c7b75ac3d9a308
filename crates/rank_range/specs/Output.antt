-- What a rank printed. Its text is cut into lines at each newline, which belongs to no line, and after each 4,096 bytes
-- without one; what is left becomes a line when the rank ends or is trapped. This profile's own.
use Rattle.std.specs.Prelude.{ℕ, ◌≡◌, ◌≢◌, ◌+◌, ◌<◌, ◌≤◌, ◌==◌, if◌then◌else◌, Bool, nat_le, List, [], ◌∷◌, ◌++◌, length}
use Rattle.std.specs.List.{flat_map, AllByRecursion}
use Rattle.am_base.specs.declared.lines.Line.{Line}
use Rattle.rank_range.specs.declared.run.Output.{Output}

-- a line and what ends it in the text: a line of 4,096 bytes ends by itself, a shorter one by a newline
abbrev pub with_end : List ℕ → List ℕ
with_end line = if length line == 4096 then line else line ++ 10 ∷ []

abbrev pub HasNoNewline : List ℕ → Type 0
HasNoNewline bytes = AllByRecursion (λ b. b ≢ 10) bytes

abbrev pub IsLine : List ℕ → Type 0
IsLine line = HasNoNewline line × (length line ≤ 4096)

-- The text is cut into these lines, and into a rest that is no whole line yet.
pub record IsCutInto (text : List ℕ) (lines : List (List ℕ)) (rest : List ℕ) : Type 0 where
  pub text_is : text ≡ flat_map with_end lines ++ rest
  pub each : AllByRecursion IsLine lines
  pub rest_without_newline : HasNoNewline rest
  pub rest_short : length rest < 4096

-- the lines that the bytes complete, with a part of a line before them
unfoldable pub lines_behind : List ℕ → List ℕ → List (List ℕ)
lines_behind part [] = []
lines_behind part (b ∷ bs) =
    if b == 10 then part ∷ lines_behind [] bs
    else (if length part == 4095 then (part ++ b ∷ []) ∷ lines_behind [] bs
    else lines_behind (part ++ b ∷ []) bs)

-- the part of a line that is left behind them
unfoldable pub part_behind : List ℕ → List ℕ → List ℕ
part_behind part [] = part
part_behind part (b ∷ bs) =
    if b == 10 then part_behind [] bs
    else (if length part == 4095 then part_behind [] bs
    else part_behind (part ++ b ∷ []) bs)

-- A text is cut by its whole lines and the part behind them, and in no other way.
abbrev pub AreTheCut : Type 0
AreTheCut =
    (text : List ℕ)
    → IsCutInto text (lines_behind [] text) (part_behind [] text)
    × ((lines : List (List ℕ)) (rest : List ℕ) → IsCutInto text lines rest
    → (lines ≡ lines_behind [] text) × (rest ≡ part_behind [] text))

-- how many bytes a rank may print
abbrev pub text_limit : ℕ
text_limit = 1048576

abbrev pub may_print : Output → List ℕ → Bool
may_print output text = nat_le (output.printed + length text) text_limit

-- lines with their numbers, from n on
abbrev pub numbered : ℕ → List (List ℕ) → List Line
numbered n [] = []
numbered n (line ∷ lines) = record { number = n; text = line } ∷ numbered (n + 1) lines

-- What is printed with the text behind it.
abbrev pub with_text : Output → List ℕ → Output
with_text output text =
    record {
      printed = output.printed + length text;
      unfinished = part_behind output.unfinished text;
      next = output.next + length (lines_behind output.unfinished text);
      held = output.held ++ numbered output.next (lines_behind output.unfinished text);
    }

-- What is printed when the rank ends or is trapped: text without a newline is a line, if there is any.
abbrev pub with_last_line : Output → Output
with_last_line output =
    if length output.unfinished == 0 then output
    else record {
      printed = output.printed;
      unfinished = [];
      next = output.next + 1;
      held = output.held ++ record { number = output.next; text = output.unfinished } ∷ [];
    }

-- One text behind another is both as one.
abbrev pub ArePrintedTogether : Type 0
ArePrintedTogether =
    (output : Output) (first second : List ℕ)
    → with_text (with_text output first) second ≡ with_text output (first ++ second)
