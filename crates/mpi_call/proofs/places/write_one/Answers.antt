use Rattle.std.proofs.Common.{◌≡◌, ◌-◌, length}
use Rattle.rank_range.specs.Layout.{Accessible, IsRange, MarksChanges, base_of}
use Rattle.rank_range.specs.Parts.{with_part}
use Rattle.rank_range.specs.Areas.{areas_of}
use Rattle.mpi_rules.specs.Places.{written_one}
use Rattle.mpi_call.specs.Written.{Leaves}
use Rattle.mpi_call.proofs.WriteLemmas.{ok_both, err_both, either_way, areas_put, areas_kept, areas_at, leaves_put, leaves_same}
use Rattle.mpi_call.proofs.places.write_one.Goals as goal

pub returns-clause-areas : goal.returns-clause-areas
returns-clause-areas g c =
    let rank = g.M.Mem.rank_of c.args.m.now in
    let top = g.M.Mem.top_of c.args.m.now in
    let old = g.M.Mem.bytes_of c.args.m.now in
    let new = g.M.Mem.bytes_of c.write-done.new.self in
    let bytes = c.args.bytes.now in
    let a = c.args.a in
    let range : IsRange top old = c.top-top.ensures.range in
    let A = Accessible rank top a (length bytes) in
    let P = new ≡ with_part old (a - base_of rank) bytes in
    areas_at (g.M.Mem.rank_of c.write-done.new.self) rank (g.M.Mem.top_of c.write-done.new.self) top new (written_one (areas_of rank top old) a bytes)
    c.write-done.ensures.owner c.write-done.ensures.stack
    (either_way c.write-done.result (A × P) ((A → ⊥) × (new ≡ old)) (areas_of rank top new ≡ written_one (areas_of rank top old) a bytes)
    (ok_both c.write-done.result A P c.write-done.ensures.ok c.write-done.ensures.bytes)
    (err_both c.write-done.result (A → ⊥) (new ≡ old) c.write-done.ensures.refused c.write-done.ensures.same_bytes)
    (λ p. areas_put rank top a old new bytes range p.0 p.1) (λ p. areas_kept rank top a old new bytes range p.0 p.1))

pub returns-clause-leaves : goal.returns-clause-leaves
returns-clause-leaves g c =
    let rank = g.M.Mem.rank_of c.args.m.now in
    let top = g.M.Mem.top_of c.args.m.now in
    let old = g.M.Mem.bytes_of c.args.m.now in
    let new = g.M.Mem.bytes_of c.write-done.new.self in
    let old_marks = g.M.Mem.marks_of c.args.m.now in
    let new_marks = g.M.Mem.marks_of c.write-done.new.self in
    let r = g.M.Mem.rank_of c.write-done.new.self in
    let t = g.M.Mem.top_of c.write-done.new.self in
    let bytes = c.args.bytes.now in
    let a = c.args.a in
    let range : IsRange top old = c.top-top.ensures.range in
    let A = Accessible rank top a (length bytes) in
    let P = new ≡ with_part old (a - base_of rank) bytes in
    let Q = MarksChanges old new old_marks new_marks in
    either_way c.write-done.result ((A × P) × Q) ((new ≡ old) × (new_marks ≡ old_marks)) (Leaves rank r top t old new old_marks new_marks)
    (ok_both c.write-done.result (A × P) Q (ok_both c.write-done.result A P c.write-done.ensures.ok c.write-done.ensures.bytes) c.write-done.ensures.marks)
    (err_both c.write-done.result (new ≡ old) (new_marks ≡ old_marks) c.write-done.ensures.same_bytes c.write-done.ensures.same_marks)
    (λ p. leaves_put r rank t top a old new bytes old_marks new_marks c.write-done.ensures.owner c.write-done.ensures.stack range p.0.0 p.0.1 p.1)
    (λ p. leaves_same r rank t top old new old_marks new_marks c.write-done.ensures.owner c.write-done.ensures.stack p.0 p.1)
