-- How a line that a rank printed is spelled once it is released. This profile's own.
use Rattle.std.specs.Prelude.{ℕ, List, [], ◌∷◌, ◌++◌, codes}
use Rattle.std.specs.Fmt.{decimal}
use Rattle.am_base.specs.declared.lines.Line.{Line}

-- a line behind its rank's number
abbrev pub released_line : ℕ → List ℕ → List ℕ
released_line rank text = codes "[" ++ decimal rank ++ codes "] " ++ text ++ codes "\n"

-- lines one after another
abbrev pub released_lines : ℕ → List Line → List ℕ
released_lines rank [] = []
released_lines rank (line ∷ lines) = released_line rank line.text ++ released_lines rank lines
