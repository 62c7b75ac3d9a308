-- The lines that a rank holds until a commit releases them. This profile's own.
use Rattle.std.specs.Prelude.{◌≡◌, ◌+◌, ⊤, ℕ, nat_le, List, [], ◌∷◌}
use Rattle.std.specs.List.{filter}
use Rattle.am_base.specs.declared.lines.Line.{Line}

-- each line's number is one more than that of the line before
abbrev pub AscendByOne : List Line → Type 0
AscendByOne [] = ⊤
AscendByOne (first ∷ []) = ⊤
AscendByOne (first ∷ second ∷ lines) = (second.number ≡ first.number + 1) × AscendByOne (second ∷ lines)

-- the lines with numbers from the released count on
abbrev pub unreleased : ℕ → List Line → List Line
unreleased released lines = filter (λ line. nat_le released line.number) lines
