use Rattle.std.proofs.Common.{◌≤◌, ◌-◌, ◌+◌, ℕ, List, length, sym, subst}
use Rattle.std.specs.Prelude.{All}
use Rattle.rank_range.specs.Layout.{globals_start, heap_start}
use Rattle.rank_machine.proofs.OpeningLemmas.{openings, is_opened, has_heap_is, rest_is_zero, is_kept, fixes_inside}
use Rattle.rank_machine.proofs.opening.open.Goals as goal

pub put_globals-requires : goal.put_globals-requires
put_globals-requires g c = subst (λ (xs : List ℕ). length xs ≤ heap_start - globals_start) (sym c.as_slice.ensures) c.requires.fits.room

pub add_bases-requires : goal.add_bases-requires
add_bases-requires g c =
    subst (λ (xs : List ℕ). All (λ at. at + 8 ≤ heap_start - globals_start) xs) (sym c.as_slice-2.ensures)
    (fixes_inside c.args.segment.now c.requires.fits c.args.segment.now.fixes c.requires.fits.inside)

pub returns-clause-memory : goal.returns-clause-memory
returns-clause-memory g c =
    is_opened c.args.segment.now (g.M.Mem.rank_of c.args.m.now) (g.M.Mem.rank_of c.setup.new.memory) (g.M.Mem.rank_of c.put_globals.new.m) (g.M.Mem.rank_of c.add_bases.new.m)
    (g.M.Mem.top_of c.args.m.now) (g.M.Mem.top_of c.setup.new.memory) (g.M.Mem.top_of c.put_globals.new.m) (g.M.Mem.top_of c.add_bases.new.m)
    (g.M.Mem.bytes_of c.args.m.now) (g.M.Mem.bytes_of c.setup.new.memory) (g.M.Mem.bytes_of c.put_globals.new.m) (g.M.Mem.bytes_of c.add_bases.new.m)
    (g.M.Mem.marks_of c.args.m.now) (g.M.Mem.marks_of c.setup.new.memory) (g.M.Mem.marks_of c.put_globals.new.m) (g.M.Mem.marks_of c.add_bases.new.m)
    (openings c.args.segment.now _ _ _ _ _ _ _ _ _ _ _ _ _ _ _ _ c.as_slice.result.now c.as_slice-2.result.now c.as_slice.ensures c.as_slice-2.ensures
    c.requires.fits c.requires.zeroed c.requires.empty c.setup.ensures.heap c.setup.ensures.none c.setup.ensures.stays c.setup.ensures.kept
    c.put_globals.ensures.bytes c.put_globals.ensures.kept c.add_bases.ensures)

pub returns-clause-heap : goal.returns-clause-heap
returns-clause-heap g c =
    (has_heap_is c.args.segment.now (g.M.Mem.rank_of c.args.m.now) (g.M.Mem.rank_of c.setup.new.memory) (g.M.Mem.rank_of c.put_globals.new.m) (g.M.Mem.rank_of c.add_bases.new.m)
    (g.M.Mem.top_of c.args.m.now) (g.M.Mem.top_of c.setup.new.memory) (g.M.Mem.top_of c.put_globals.new.m) (g.M.Mem.top_of c.add_bases.new.m)
    (g.M.Mem.bytes_of c.args.m.now) (g.M.Mem.bytes_of c.setup.new.memory) (g.M.Mem.bytes_of c.put_globals.new.m) (g.M.Mem.bytes_of c.add_bases.new.m)
    (g.M.Mem.marks_of c.args.m.now) (g.M.Mem.marks_of c.setup.new.memory) (g.M.Mem.marks_of c.put_globals.new.m) (g.M.Mem.marks_of c.add_bases.new.m)
    (openings c.args.segment.now _ _ _ _ _ _ _ _ _ _ _ _ _ _ _ _ c.as_slice.result.now c.as_slice-2.result.now c.as_slice.ensures c.as_slice-2.ensures
    c.requires.fits c.requires.zeroed c.requires.empty c.setup.ensures.heap c.setup.ensures.none c.setup.ensures.stays c.setup.ensures.kept
    c.put_globals.ensures.bytes c.put_globals.ensures.kept c.add_bases.ensures)).1

pub returns-clause-rest : goal.returns-clause-rest
returns-clause-rest g c =
    rest_is_zero c.args.segment.now (g.M.Mem.rank_of c.args.m.now) (g.M.Mem.rank_of c.setup.new.memory) (g.M.Mem.rank_of c.put_globals.new.m) (g.M.Mem.rank_of c.add_bases.new.m)
    (g.M.Mem.top_of c.args.m.now) (g.M.Mem.top_of c.setup.new.memory) (g.M.Mem.top_of c.put_globals.new.m) (g.M.Mem.top_of c.add_bases.new.m)
    (g.M.Mem.bytes_of c.args.m.now) (g.M.Mem.bytes_of c.setup.new.memory) (g.M.Mem.bytes_of c.put_globals.new.m) (g.M.Mem.bytes_of c.add_bases.new.m)
    (g.M.Mem.marks_of c.args.m.now) (g.M.Mem.marks_of c.setup.new.memory) (g.M.Mem.marks_of c.put_globals.new.m) (g.M.Mem.marks_of c.add_bases.new.m)
    (openings c.args.segment.now _ _ _ _ _ _ _ _ _ _ _ _ _ _ _ _ c.as_slice.result.now c.as_slice-2.result.now c.as_slice.ensures c.as_slice-2.ensures
    c.requires.fits c.requires.zeroed c.requires.empty c.setup.ensures.heap c.setup.ensures.none c.setup.ensures.stays c.setup.ensures.kept
    c.put_globals.ensures.bytes c.put_globals.ensures.kept c.add_bases.ensures)

pub returns-clause-kept : goal.returns-clause-kept
returns-clause-kept g c =
    is_kept c.args.segment.now (g.M.Mem.rank_of c.args.m.now) (g.M.Mem.rank_of c.setup.new.memory) (g.M.Mem.rank_of c.put_globals.new.m) (g.M.Mem.rank_of c.add_bases.new.m)
    (g.M.Mem.top_of c.args.m.now) (g.M.Mem.top_of c.setup.new.memory) (g.M.Mem.top_of c.put_globals.new.m) (g.M.Mem.top_of c.add_bases.new.m)
    (g.M.Mem.bytes_of c.args.m.now) (g.M.Mem.bytes_of c.setup.new.memory) (g.M.Mem.bytes_of c.put_globals.new.m) (g.M.Mem.bytes_of c.add_bases.new.m)
    (g.M.Mem.marks_of c.args.m.now) (g.M.Mem.marks_of c.setup.new.memory) (g.M.Mem.marks_of c.put_globals.new.m) (g.M.Mem.marks_of c.add_bases.new.m)
    (openings c.args.segment.now _ _ _ _ _ _ _ _ _ _ _ _ _ _ _ _ c.as_slice.result.now c.as_slice-2.result.now c.as_slice.ensures c.as_slice-2.ensures
    c.requires.fits c.requires.zeroed c.requires.empty c.setup.ensures.heap c.setup.ensures.none c.setup.ensures.stays c.setup.ensures.kept
    c.put_globals.ensures.bytes c.put_globals.ensures.kept c.add_bases.ensures)
