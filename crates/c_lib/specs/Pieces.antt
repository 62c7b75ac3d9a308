-- What the pieces that are read of a format stand for.
use Rattle.std.specs.Prelude.{Bool, true, false, if◌then◌else◌}
use Rattle.rank_range.specs.declared.kinds.Kind.{Kind}
use Rattle.rank_range.specs.declared.kinds.Kind.TheVariants as kind
use Rattle.rank_range.specs.Formats as formats
use Rattle.c_lib.specs.declared.formats.Side.{Side}
use Rattle.c_lib.specs.declared.formats.Side.TheVariants.{Left, Zeros, Right}
use Rattle.c_lib.specs.declared.formats.What.{What}
use Rattle.c_lib.specs.declared.formats.What.TheVariants.{Signed, Unsigned, Hexadecimal, Character, Text}
use Rattle.c_lib.specs.declared.formats.Conversion.{Conversion}
use Rattle.c_lib.specs.declared.formats.Piece.{Piece}
use Rattle.c_lib.specs.declared.formats.Piece.TheVariants.{Plain, Converts}
use Rattle.c_lib.specs.declared.formats.End.{End}
use Rattle.c_lib.specs.declared.formats.End.TheVariants.{Whole, Bad, Open}

abbrev pub side_of : Side → formats.Side
side_of Left = formats.Left
side_of Zeros = formats.Zeros
side_of Right = formats.Right

-- the kind of a number, with or without an `l`
abbrev pub signed_kind : Bool → Kind
signed_kind long = if long then kind.Long else kind.Int

abbrev pub unsigned_kind : Bool → Kind
unsigned_kind long = if long then kind.UnsignedLong else kind.Unsigned

abbrev pub what_in : What → formats.What
what_in (Signed long) = formats.Signed (signed_kind long)
what_in (Unsigned long) = formats.Unsigned (unsigned_kind long)
what_in (Hexadecimal long) = formats.Hexadecimal (unsigned_kind long)
what_in Character = formats.Character
what_in Text = formats.Text

abbrev pub conversion_of : Conversion → formats.Conversion
conversion_of c = record { side = side_of c.side; width = c.width; what = what_in c.what }

abbrev pub piece_of : Piece → formats.Piece
piece_of (Plain byte) = formats.Plain byte
piece_of (Converts c) = formats.Converts (conversion_of c)

abbrev pub end_of : End → formats.End
end_of Whole = formats.Whole
end_of Bad = formats.Bad
end_of Open = formats.Open

abbrev pub is_text : What → Bool
is_text (Signed long) = false
is_text (Unsigned long) = false
is_text (Hexadecimal long) = false
is_text Character = false
is_text Text = true
