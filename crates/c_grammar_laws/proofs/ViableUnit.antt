-- Where a function or a unit isn't read, it is viable.
use Rattle.std.proofs.Common.{◌≡◌, ℕ, zero, suc, ◌++◌, inl, inr, true, cond, Ok, Err, List, [], ◌∷◌, length, refl, sym, ap, subst, arith}
use Rattle.c_lex.specs.declared.token.Token.{Token}
use Rattle.c_lex.specs.declared.token.Mark.TheVariants as mark
use Rattle.c_ast.specs.declared.declaration.External.{External}
use Rattle.c_ast.specs.declared.declaration.External.TheVariants as an_external
use Rattle.c_grammar.specs.declared.phrases.ReadSpecs.{ReadSpecs}
use Rattle.c_grammar.specs.declared.phrases.ReadDeclarator.{ReadDeclarator}
use Rattle.c_grammar.specs.Names.{Names, declared, nothing}
use Rattle.c_grammar.specs.Owns.{own_names}
use Rattle.c_grammar.specs.Grammar as g
use Rattle.c_grammar.specs.Grammar.{AreSpecs, IsDeclarator, IsExternal}
use Rattle.c_grammar.specs.Reading.{State, Fault, Unexpected, ◌>>=◌, sees_mark, tail, behind, here}
use Rattle.c_grammar.specs.Words.{number_of}
use Rattle.c_grammar.specs.Levels.{readers}
use Rattle.c_grammar.specs.ReadingStmt.{left, is_end}
use Rattle.c_grammar.specs.ReadingStmt as reading
use Rattle.c_grammar.proofs.Laws.{Sound, at_state}
use Rattle.c_grammar_laws.proofs.ExprFound.{cond_is, sees_mark_is}
use Rattle.c_grammar_laws.proofs.UnitLaws.{external_sound}
use Rattle.c_grammar_laws.proofs.Deep.{Deeper, at_tail, more_swapped, joined, deep, DeclAt, ExternalAt, ExternalsAt}
use Rattle.c_grammar_laws.proofs.Moves.{moved_specs, moved_declarator, moved_external}
use Rattle.c_grammar_laws.proofs.Viable.{Viable, Viables, fault_at, bind_err, err_is, onto, behind_part, put_here, mark_token}
use Rattle.c_grammar_laws.proofs.ViableDecl.{decl_from_viable, declarator_missed, specs_missed}
use Rattle.c_grammar_laws.proofs.ViableParts.{along}
use Rattle.c_grammar_laws.proofs.ViableStmt.{block_items_viable}

-- a declaration outside all functions
abbrev as_external : (to : Deeper) (room : ℕ) {total : ℕ} {names : Names} {ts : List Token} {e : Fault} {end : List Token}
    → Viable (DeclAt to room names) total ts e end → Viable (ExternalAt to room names) total ts e end
as_external to room {end = end} v =
    onto end v (omega arith) v.after (λ total' later late x. (_, g.IsExternal.declaration x.1, x.2))

module _ (to : Deeper) (total : ℕ) (sound : (room : ℕ) → Sound total to.chain room (readers total to.chain room))
    (below : (room : ℕ) → Viables to total room (readers total to.chain room)) where
  function_viable : (room token : ℕ) (names between : Names) (ts mid : List Token) (ss : ReadSpecs) (d : ReadDeclarator)
      (s : State) (e : Fault)
      → AreSpecs total to.chain (suc room) names ts mid between ss.is_typedef ss.specs
      → IsDeclarator total to.chain (suc room) between mid s.rest s.names d.name d.own d.tree
      → sees_mark mark.OpenBrace s.rest ≡ true
      → reading.function total to.chain room token ss d s ≡ Err e → (end : List Token)
      → Viable (ExternalAt to (suc room) names) total ts e end
  unfolding reading.function
  function_viable room token names between ts mid ss d s e are is sees h end =
      let outer = declared s.names d.name ss.is_typedef in
      let o = sees_mark_is mark.OpenBrace s.rest sees in
      elim (bind_err
      (reading.items total to.chain (reading.statement total to.chain room) room (length (tail s.rest)) []
      (at_state (own_names d.own ++ outer) (tail s.rest)))
      (λ x. Ok (an_external.Function token ss.specs d.tree x.0, left outer x.1)) e h) [
        | inl p ↦
            let v = block_items_viable to total sound below room (at_state (own_names d.own ++ outer) (tail s.rest)) e p
            (mark_token mark.CloseBrace ∷ end) in
            let is' : IsDeclarator total to.chain (suc room) between mid (o.token ∷ tail s.rest) s.names d.name d.own d.tree =
            subst (λ us. IsDeclarator total to.chain (suc room) between mid us s.names d.name d.own d.tree) o.ts_are is in
            let m1 = moved_declarator to is' (o.token ∷ v.all) in
            let m0 = moved_specs to are m1.all in
            along end v m0.all (joined m0.swapped (joined m1.swapped (more_swapped at_tail))) (omega arith) outer
            (λ total' later late z.
            let y0 = m0.is total' later in
            let y1 = m1.is total' later in (
              _,
              g.function y0.1 y1.1 o.is z.1 refl,
              (y0.2, y1.2, deep room to.spare, z.2, λ _. let x = v.room_there in omega (arith, late, x)),
            ))
        | inr p ↦ let (x, there, made) = p in absurd cc
      ]

  external_behind_viable : (room token : ℕ) (names : Names) (ts : List Token) (ss : ReadSpecs) (s : State) (e : Fault)
      → AreSpecs total to.chain (suc room) names ts s.rest s.names ss.is_typedef ss.specs
      → reading.external_behind total to.chain room token ss s ≡ Err e → (end : List Token)
      → Viable (ExternalAt to (suc room) names) total ts e end
  unfolding reading.external_behind
  external_behind_viable room token names ts ss s e are h end =
      elim (cond_is (sees_mark mark.Semicolon s.rest)
      (Ok (an_external.Declaration (record { token = token; specs = ss.specs; declared = [] }), behind s))
      ((readers total to.chain (suc room)).declarator s
      >>= λ x. cond (sees_mark mark.OpenBrace x.1.rest) (reading.function total to.chain room token ss x.0 x.1)
      (reading.decl_from total to.chain (suc room) token ss x.0 x.1 >>= λ y. Ok (an_external.Declaration y.0, y.1))) (Err e) h) [
        | inl p ↦ absurd (let x = p.1 in cc)
        | inr p ↦
            elim (bind_err ((readers total to.chain (suc room)).declarator s)
            (λ x. cond (sees_mark mark.OpenBrace x.1.rest) (reading.function total to.chain room token ss x.0 x.1)
            (reading.decl_from total to.chain (suc room) token ss x.0 x.1 >>= λ y. Ok (an_external.Declaration y.0, y.1))) e p.1) [
              | inl q ↦ as_external to (suc room) (declarator_missed to total sound below (suc room) names ts ss s e are q end)
              | inr q ↦
                  let (x, there, go) = q in
                  let is : IsDeclarator total to.chain (suc room) s.names s.rest x.1.rest x.1.names x.0.name x.0.own x.0.tree =
                  (sound (suc room)).declarator s x.1 x.0 there in
                  elim (cond_is (sees_mark mark.OpenBrace x.1.rest) (reading.function total to.chain room token ss x.0 x.1)
                  (reading.decl_from total to.chain (suc room) token ss x.0 x.1 >>= λ y. Ok (an_external.Declaration y.0, y.1))
                  (Err e) go) [
                    | inl r ↦ function_viable room token names s.names ts s.rest ss x.0 x.1 e are is r.0 r.1 end
                    | inr r ↦
                        elim (bind_err (reading.decl_from total to.chain (suc room) token ss x.0 x.1)
                        (λ y. Ok (an_external.Declaration y.0, y.1)) e r.1) [
                          | inl z ↦
                              as_external to (suc room)
                              (decl_from_viable to total sound below (suc room) token names s.names ts s.rest ss x.0 x.1 e
                              are is z end)
                          | inr z ↦ let (y, reads, made) = z in absurd cc
                        ]
                  ]
            ]
      ]

  pub external_viable : (room : ℕ) (s : State) (e : Fault) → reading.external total to.chain room s ≡ Err e → (end : List Token)
      → Viable (ExternalAt to (suc room) s.names) total s.rest e end
  unfolding reading.external
  external_viable room s e h end =
      elim (bind_err ((readers total to.chain (suc room)).specs s)
      (λ x. reading.external_behind total to.chain room (here total s) x.0 x.1) e h) [
        | inl p ↦ as_external to (suc room) (specs_missed to total sound below (suc room) s e p end)
        | inr p ↦
            let (x, there, go) = p in
            external_behind_viable room (here total s) s.names s.rest x.0 x.1 e ((sound (suc room)).specs s x.1 x.0 there) go end
      ]

  externals_viable : (room count : ℕ) (front : List External) (s : State) (e : Fault)
      → reading.externals total to.chain room count front s ≡ Err e
      → (end : List Token) → Viable (ExternalsAt to (suc room) s.names) total s.rest e end
  unfolding reading.externals
  externals_viable room zero front s e h end =
      elim (cond_is (is_end s.rest) (Ok front) (Err (Unexpected (here total s))) (Err e) h) [
        | inl p ↦ absurd (let x = p.1 in cc)
        | inr p ↦
            let same : Unexpected (number_of total s.rest) ≡ e = err_is p.1 in
            put_here end end (ap fault_at (sym same)) (omega arith) s.names (λ total' later late. (_, g.AreExternals.none, tt))
      ]
  externals_viable room (suc count) front s e h end =
      elim (cond_is (is_end s.rest) (Ok front)
      (reading.external total to.chain room s >>= λ x. reading.externals total to.chain room count (front ++ x.0 ∷ []) x.1)
      (Err e) h) [
        | inl p ↦ absurd (let x = p.1 in cc)
        | inr p ↦
            elim (bind_err (reading.external total to.chain room s)
            (λ x. reading.externals total to.chain room count (front ++ x.0 ∷ []) x.1) e p.1) [
              | inl q ↦
                  let v = external_viable room s e q end in
                  onto end v (omega arith) v.after
                  (λ total' later late x. (_, g.AreExternals.more x.1 g.AreExternals.none, (x.2, tt)))
              | inr q ↦
                  let (x, there, go) = q in
                  let v = externals_viable room count (front ++ x.0 ∷ []) x.1 e go end in
                  behind_part end v (moved_external to (external_sound total to.chain sound room s x there) v.all)
                  (omega arith) v.after
                  (λ total' later late y z. (_, g.AreExternals.more y.1 z.1, (y.2, z.2)))
            ]
      ]

-- Where a unit isn't read, the tokens before that place go on to one.
pub unit_viable : (to : Deeper) (limit : ℕ) (ts : List Token)
    → (sound : (room : ℕ) → Sound (length ts) to.chain room (readers (length ts) to.chain room))
    → (below : (room : ℕ) → Viables to (length ts) room (readers (length ts) to.chain room))
    → (e : Fault) → reading.unit to.chain limit ts ≡ Err e → Viable (ExternalsAt to (suc limit) nothing) (length ts) ts e []
unfolding reading.unit
unit_viable to limit ts sound below e h =
    elim (bind_err (reading.externals (length ts) to.chain limit (length ts) [] (at_state nothing ts))
    (λ es. Ok (record { externals = es })) e h) [
      | inl p ↦ externals_viable to (length ts) sound below limit (length ts) [] (at_state nothing ts) e p []
      | inr p ↦ let (es, there, made) = p in absurd cc
    ]
