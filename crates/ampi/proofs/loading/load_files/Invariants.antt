use Rattle.std.proofs.Common.{◌≡◌, take, map, string_bytes}
use Rattle.ampi.specs.Sources.{AreLoaded}
use Rattle.ampi.proofs.loading.load_files.Given as goal

-- the files so far are loaded, and nothing was counted or put
abbrev pub invariant-loop-at : goal.invariant-loop-at
invariant-loop-at g l = record {
  loaded : AreLoaded (g.F.Files.held l.initial.files) (take l.at (map string_bytes l.names)) l.texts.items;
  held : g.F.Files.held l.files ≡ g.F.Files.held l.initial.files;
  faults : g.F.Files.faults l.files ≡ g.F.Files.faults l.initial.files;
  written : g.K.Sink.written l.out ≡ g.K.Sink.written l.initial.out;
  kept : g.K.Sink.faults l.out ≡ g.K.Sink.faults l.initial.out;
}
