use Rattle.std.proofs.Common.{◌≡◌, drop, map}
use Rattle.am_io.specs.Contents.{file_of}
use Rattle.am_io.specs.Listed.{named_bytes}
use Rattle.am_io.proofs.file_list.FileList.find.Given as goal

abbrev pub invariant-loop-file : goal.invariant-loop-file
invariant-loop-file l =
    file_of (map named_bytes (drop l.file-index l.file-items)) l.name ≡ file_of (map named_bytes l.file-items) l.name
