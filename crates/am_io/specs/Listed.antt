-- The files of a list in memory.
use Rattle.std.specs.Prelude.{ℕ, List, string_bytes}
use Rattle.am_io.specs.declared.file_list.NamedBytes.{NamedBytes}

-- The name and the bytes.
abbrev pub named_bytes : NamedBytes → List ℕ × List ℕ
named_bytes file = (string_bytes file.name, file.bytes.items)
