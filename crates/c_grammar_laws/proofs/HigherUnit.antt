-- A unit that is refused where it stands too deep, read with more room and longer chains.
use Rattle.std.proofs.Common.{◌≡◌, ℕ, zero, suc, ◌≤◌, ◌<◌, ◌⊎◌, Ok, Err, List, [], ◌∷◌, ◌++◌, length, refl, sym, ap, subst, arith}
use Rattle.c_lex.specs.declared.token.Token.{Token}
use Rattle.c_lex.specs.declared.token.Mark.TheVariants as mark
use Rattle.c_ast.specs.declared.declaration.External.{External}
use Rattle.c_ast.specs.declared.declaration.External.TheVariants as an_external
use Rattle.c_ast.specs.declared.declaration.Unit.{Unit as AUnit}
use Rattle.c_grammar.specs.declared.phrases.ReadSpecs.{ReadSpecs}
use Rattle.c_grammar.specs.declared.phrases.ReadDeclarator.{ReadDeclarator}
use Rattle.c_grammar.specs.Names.{declared, nothing}
use Rattle.c_grammar.specs.Owns.{own_names}
use Rattle.c_grammar.specs.Reading.{State, Fault, Unexpected, TooNested, Outcome, ◌>>=◌, here}
use Rattle.c_grammar.specs.Levels.{readers}
use Rattle.c_grammar.specs.ReadingStmt.{left_to, external_behind, external, is_end, externals, unit}
use Rattle.c_grammar.specs.ReadingStmt as reading
use Rattle.c_grammar_laws.proofs.Agrees.{fault_at, state, IsPast, stops, goes}
use Rattle.c_grammar.proofs.Late.{raised}
use Rattle.c_grammar_laws.proofs.LocalStmt.{outside}
use Rattle.c_grammar_laws.proofs.LocalUnit.{ended, whole as to_end, external_list, whole_stop, whole_go, err_same}
use Rattle.c_grammar_laws.proofs.Higher.{Rise, Higher, same, free, beyond, missed, still, Above, OnwardInner, TakesInner, AboveInner, bind, given, equal, numbered, scoped, sized, unexpected, passed, renamed, judged, tested}
use Rattle.c_grammar_laws.proofs.HigherStmt.{decl_from_above, items_above}

-- What a unit that stands too deep at this token gives with more room: it is read, or refused behind that token, or where that isn't
-- expected; and at the token itself only with as much room, or where the chains are as long.
pub data UnitHigher (w : Rise) (k : ℕ) : Outcome AUnit → Type 0 where
  whole : (u : AUnit) → UnitHigher w k (Ok u)
  further : (e : Fault) → k < fault_at e → UnitHigher w k (Err e)
  missed_there : 2 ≤ w.extra → UnitHigher w k (Err (Unexpected k))
  still_there : (w.extra ≡ 0) ⊎ (w.most ≡ w.wide) → UnitHigher w k (Err (TooNested k))

at_end : {w : Rise} {A : Type 0} (x : A) → Above w (λ s. Ok (x, ended)) (λ s. Ok (x, ended))
unfolding ended
at_end x = record {
  on = λ from len e s le. goes x ended (omega arith);
  lift = λ s le. same x ended;
}

-- ---- refusals

not_unexpected : {n k : ℕ} → Unexpected n ≡ TooNested k → ⊥
not_unexpected h = cc

same_number : {n k : ℕ} → TooNested n ≡ TooNested k → n ≡ k
same_number h = cc

past_fault : {from len : ℕ} {A : Type 0} {o : Outcome (A × State)} → IsPast from len o → (e : Fault) → o ≡ Err e → from ≤ fault_at e
past_fault (stops f late) e h = let there : fault_at f ≡ fault_at e = ap fault_at (err_same h) in omega (arith, late, there)
past_fault (goes x s le) e h = absurd cc

refused : {w : Rise} {A : Type 0} {o o' : Outcome (A × State)} → Higher w o o' → (k : ℕ) → o ≡ Err (TooNested k) → (e : Fault) → o' ≡ Err e → UnitHigher w k (Err e)
refused (same x s) k h e h' = absurd cc
refused (free n o) k h e h' = absurd (not_unexpected (err_same h))
refused (beyond n len o is p) k h e h' =
    let there : n ≡ k = same_number (err_same h) in
    let late = past_fault p e h' in
    further e (omega (arith, late, there))
refused {w = w} (missed n some) k h e h' =
    let there : n ≡ k = same_number (err_same h) in
    subst (λ f. UnitHigher w k (Err f)) (err_same h') (subst (λ m. UnitHigher w k (Err (Unexpected m))) (sym there) (missed_there some))
refused {w = w} (still n as_much) k h e h' =
    let there : n ≡ k = same_number (err_same h) in
    subst (λ f. UnitHigher w k (Err f)) (err_same h') (subst (λ m. UnitHigher w k (Err (TooNested m))) (sym there) (still_there as_much))

abbrev as_unit : List External → AUnit
as_unit es = record { externals = es }

from_whole : {w : Rise} (o o' : Outcome (List External)) → Higher w (to_end o) (to_end o') → (k : ℕ) → (o >>= λ es. Ok (as_unit es)) ≡ Err (TooNested k)
    → UnitHigher w k (o' >>= λ es. Ok (as_unit es))
from_whole o (Ok es) b k h = whole (as_unit es)
from_whole (Ok es) (Err e) b k h = absurd cc
from_whole (Err f) (Err e) b k h = refused b k (ap Err (err_same h)) e refl

unit_with : ℕ → ℕ → ℕ → List Token → Outcome AUnit
unit_with total most room ts = externals total most room (length ts) [] (state nothing ts) >>= λ es. Ok (as_unit es)

-- ---- all to the end

module _ (w : Rise) (all : (room : ℕ) → AboveInner w room (readers w.total w.most room) (readers w.total w.wide (raised w.extra room)))
    (takes : 2 ≤ w.extra → (room : ℕ) → TakesInner w (readers w.total w.wide (suc room))) (on : (room : ℕ) → OnwardInner w.total (readers w.total w.wide room)) where
  function_above : (room token : ℕ) (ss : ReadSpecs) (d : ReadDeclarator)
      → Above w (reading.function w.total w.most room token ss d) (reading.function w.total w.wide (raised w.extra room) token ss d)
  unfolding reading.function left_to
  function_above room token ss d =
      scoped (λ names. renamed (λ ns. own_names d.own ++ declared ns d.name ss.is_typedef) (passed (bind
      (sized (λ count. items_above w all takes on room count []))
      (λ x. renamed (outside (declared names d.name ss.is_typedef)) (given (an_external.Function token ss.specs d.tree x))))))

  external_behind_above : (room token : ℕ) (ss : ReadSpecs)
      → Above w (external_behind w.total w.most room token ss) (external_behind w.total w.wide (raised w.extra room) token ss)
  unfolding external_behind
  external_behind_above room token ss =
      tested mark.Semicolon (passed (given (an_external.Declaration (record { token = token; specs = ss.specs; declared = [] }))))
      (bind (all (suc room)).declarator (λ d. tested mark.OpenBrace (function_above room token ss d)
      (bind (decl_from_above w all takes on (suc room) token ss d) (λ y. given (an_external.Declaration y)))))

  external_above : (room : ℕ) → Above w (external w.total w.most room) (external w.total w.wide (raised w.extra room))
  unfolding external
  external_above room = numbered (λ number. bind (all (suc room)).specs (λ ss. external_behind_above room number ss))

  externals_above : (room count : ℕ) (front : List External)
      → Above w (external_list w.total w.most room count front) (external_list w.total w.wide (raised w.extra room) count front)
  unfolding externals external_list
  externals_above room zero front =
      equal (λ s. whole_stop (is_end s.rest) front (Unexpected (here w.total s))) (λ s. whole_stop (is_end s.rest) front (Unexpected (here w.total s)))
      (judged (λ s. is_end s.rest) (at_end front) unexpected)
  externals_above room (suc count) front =
      equal (λ s. whole_go (is_end s.rest) front (external w.total w.most room s) (λ x. externals w.total w.most room count (front ++ x.0 ∷ []) x.1))
      (λ s. whole_go (is_end s.rest) front (external w.total w.wide (raised w.extra room) s)
      (λ x. externals w.total w.wide (raised w.extra room) count (front ++ x.0 ∷ []) x.1))
      (judged (λ s. is_end s.rest) (at_end front) (bind (external_above room) (λ x. externals_above room count (front ++ x ∷ []))))

  by_total : (room : ℕ) (ts : List Token) → w.total ≡ length ts → (k : ℕ) → unit_with w.total w.most room ts ≡ Err (TooNested k)
      → UnitHigher w k (unit_with w.total w.wide (raised w.extra room) ts)
  unfolding external_list unit_with
  by_total room ts long k h =
      from_whole (externals w.total w.most room (length ts) [] (state nothing ts)) (externals w.total w.wide (raised w.extra room) (length ts) [] (state nothing ts))
      ((externals_above room (length ts) []).lift (state nothing ts) (omega (arith, long))) k h

  pub unit_higher : (room : ℕ) (ts : List Token) → w.total ≡ length ts → (k : ℕ) → unit w.most room ts ≡ Err (TooNested k)
      → UnitHigher w k (unit w.wide (raised w.extra room) ts)
  unfolding unit unit_with
  unit_higher room ts long k h =
      subst (λ n. UnitHigher w k (unit_with n w.wide (raised w.extra room) ts)) long
      (by_total room ts long k (subst (λ n. unit_with n w.most room ts ≡ Err (TooNested k)) (sym long) h))
