-- The types that words are (C11, 6.7.2). `int` and `signed` make no difference, and `long long` is as `long`.
use Rattle.std.specs.Prelude.{if◌then◌else◌, Bool, true, false}
use Rattle.rank_range.specs.declared.kinds.Kind.{Kind}
use Rattle.rank_range.specs.declared.kinds.Kind.TheVariants as kind
use Rattle.c_ast.specs.declared.words.TypeWord.{TypeWord}
use Rattle.c_ast.specs.declared.words.TypeWord.TheVariants as word
use Rattle.c_types.specs.declared.ctype.Base.{Base}
use Rattle.c_types.specs.declared.ctype.Base.TheVariants as base
use Rattle.c_judge.specs.declared.words.TypeWords.{TypeWords}

abbrev pub no_words : TypeWords
no_words = record { is_void = false; is_char = false; is_short = false; is_long = false; is_unsigned = false }

abbrev pub with_word : TypeWord → TypeWords → TypeWords
with_word word.Void ws = record ws { is_void = true }
with_word word.Char ws = record ws { is_char = true }
with_word word.Short ws = record ws { is_short = true }
with_word word.Int ws = ws
with_word word.Long ws = record ws { is_long = true }
with_word word.Signed ws = ws
with_word word.Unsigned ws = record ws { is_unsigned = true }

abbrev pub kind_of : TypeWords → Kind
kind_of ws =
    if ws.is_char then (if ws.is_unsigned then kind.UnsignedChar else kind.Char)
    else (if ws.is_short then (if ws.is_unsigned then kind.UnsignedShort else kind.Short)
    else (if ws.is_long then (if ws.is_unsigned then kind.UnsignedLong else kind.Long)
    else (if ws.is_unsigned then kind.Unsigned else kind.Int)))

abbrev pub base_of : TypeWords → Base
base_of ws = if ws.is_void then base.Void else base.Whole (kind_of ws)
