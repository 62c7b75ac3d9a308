-- Where an initialiser or a declaration isn't read, it is viable.
use Rattle.std.proofs.Common.{◌≡◌, ℕ, zero, suc, ◌≤◌, ◌++◌, ◌&&◌, not, inl, inr, Bool, true, false, cond, Some, None, Ok, Err, List, [], ◌∷◌, length, refl, sym, ap, subst, arith}
use Rattle.c_lex.specs.declared.token.Token.{Token}
use Rattle.c_lex.specs.declared.token.Mark.TheVariants as mark
use Rattle.c_ast.specs.declared.declaration.Init.{Init}
use Rattle.c_ast.specs.declared.declaration.Init.TheVariants as an_init
use Rattle.c_ast.specs.declared.declaration.InitDeclarator.{InitDeclarator}
use Rattle.c_grammar.specs.declared.phrases.Extent.TheVariants as extent
use Rattle.c_grammar.specs.declared.phrases.ReadSpecs.{ReadSpecs}
use Rattle.c_grammar.specs.declared.phrases.ReadDeclarator.{ReadDeclarator}
use Rattle.c_grammar.specs.Names.{Names, declared}
use Rattle.c_grammar.specs.Owns.{Own}
use Rattle.c_grammar.specs.Words.{number_of}
use Rattle.c_grammar.specs.Grammar as g
use Rattle.c_grammar.specs.Grammar.{IsExpr, AreSpecs, IsDeclarator, IsInit, AreInits, IsInitDeclarator, AreInitDeclarators, IsDecl}
use Rattle.c_grammar.specs.Reading.{State, Fault, Unexpected, Reader, ◌>>=◌, sees_mark, tail, behind, here, expect_mark}
use Rattle.c_grammar.specs.Levels.{readers}
use Rattle.c_grammar.specs.ReadingStmt.{declaring, inits_go_on, behind_comma}
use Rattle.c_grammar.specs.ReadingStmt as reading
use Rattle.c_grammar.proofs.Laws.{Sound}
use Rattle.c_grammar_laws.proofs.ExprStarts.{and_is}
use Rattle.c_grammar_laws.proofs.ExprFound.{cond_is, sees_mark_is}
use Rattle.c_grammar_laws.proofs.StmtDeclSound.{init_sound, initialised_sound, init_declarator_sound}
use Rattle.c_grammar_laws.proofs.Deep.{Deeper, deep, none_left, DeclaratorAt, InitAt, InitsAt, InitDeclaratorAt, InitDeclaratorsAt, DeclAt}
use Rattle.c_grammar_laws.proofs.Moves.{moved_init, moved_declarator, moved_init_declarator, moved_specs, init_room, declarator_room}
use Rattle.c_grammar_laws.proofs.Viable.{Viable, Viables, fault_at, bind_err, err_is, deep_at, mark_missed, onto, led, behind_part, put_here, mark_token, number_token, zero_assign}

-- the same tokens, written otherwise
pub at_front : {At : ℕ → ℕ → List Token → List Token → Names → Type 0} {total : ℕ} {us ts : List Token} {e : Fault}
    {end : List Token}
    → ts ≡ us → Viable At total us e end → Viable At total ts e end
at_front {At = At} {total = total} {e = e} {end = end} same v = subst (λ ws. Viable At total ws e end) (sym same) v

-- what goes on behind an initialiser, to the end of the list
abbrev pub InitsGo : Deeper → ℕ → Names → ℕ → ℕ → List Token → List Token → Names → Type 0
InitsGo to room names total later ts rest after =
    (names' : Names) (ts' : List Token) → InitAt to room names' total later ts' ts names
    → InitsAt to room names' total later ts' rest after

-- what goes on behind a declarator: its initialiser, if there is one
abbrev pub InitialisedAt : Deeper → Bool → ℕ → List ℕ → Own → Names → ℕ → ℕ → List Token → List Token → Names → Type 0
InitialisedAt to is_typedef room bytes own names total later ts rest after =
    (names' : Names) (ts' : List Token) → DeclaratorAt to room names' bytes own total later ts' ts names
    → InitDeclaratorAt to is_typedef room names' total later ts' rest after

-- what goes on behind a declarator with its initialiser, to the last one
abbrev pub DeclaredGo : Deeper → Bool → ℕ → Names → ℕ → ℕ → List Token → List Token → Names → Type 0
DeclaredGo to is_typedef room names total later ts rest after =
    (names' : Names) (ts' : List Token) → InitDeclaratorAt to is_typedef room names' total later ts' ts names
    → InitDeclaratorsAt to is_typedef room names' total later ts' rest after

-- where no comma goes on with a list of initialisers, its brace is missed
end_missed : (total : ℕ) (s : State) (e : Fault) (b c : Bool) → sees_mark mark.Comma s.rest ≡ b
    → sees_mark mark.CloseBrace (tail s.rest) ≡ c
    → (b && not c) ≡ false → expect_mark total mark.CloseBrace (cond b (behind s) s) ≡ Err e → fault_at e ≡ number_of total s.rest
unfolding expect_mark
end_missed total s e true true comma brace goes h =
    elim (cond_is (sees_mark mark.CloseBrace (tail s.rest)) (Ok (behind (behind s))) (Err (Unexpected (here total (behind s))))
    (Err e) h) [
      | inl p ↦ absurd (let x = p.1 in cc)
      | inr p ↦ absurd (let x = p.0 in cc)
    ]
end_missed total s e true false comma brace goes h = absurd cc
end_missed total s e false c comma brace goes h = mark_missed total mark.CloseBrace s e h

module _ (to : Deeper) (total : ℕ) (sound : (room : ℕ) → Sound total to.chain room (readers total to.chain room))
    (below : (room : ℕ) → Viables to total room (readers total to.chain room)) where
  abbrev ReadsInit : ℕ → Reader Init → Type 0
  ReadsInit room read = (s : State) (y : Init × State) → read s ≡ Ok y
      → IsInit total to.chain room s.names s.rest y.1.rest y.1.names y.0

  abbrev ViableInit : ℕ → Reader Init → Type 0
  ViableInit room read = (s : State) (e : Fault) → read s ≡ Err e → (end : List Token)
      → Viable (InitAt to room s.names) total s.rest e end

  -- no more of them
  inits_closed : (room : ℕ) (s : State) (e : Fault) → fault_at e ≡ number_of total s.rest → (end : List Token)
      → Viable (InitsGo to room s.names) total s.rest e end
  inits_closed room s e stops end =
      put_here end end stops (omega arith) s.names (λ total' later late names' ts' x. (_, g.one_init x.1, x.2))

  inits_end_missed : (front : List Init) (s : State) (e : Fault) → inits_go_on s.rest ≡ false
      → reading.inits_end total front s ≡ Err e
      → fault_at e ≡ number_of total s.rest
  unfolding reading.inits_end
  inits_end_missed front s e goes h =
      elim (bind_err (expect_mark total mark.CloseBrace (behind_comma s)) (λ s'. Ok (front, s')) e h) [
        | inl p ↦ end_missed total s e (sees_mark mark.Comma s.rest) (sees_mark mark.CloseBrace (tail s.rest)) refl refl goes p
        | inr p ↦ let (s', there, made) = p in absurd cc
      ]

  more_inits_viable : (room : ℕ) → 1 ≤ room → (read : Reader Init) → ReadsInit room read → ViableInit room read
      → (count : ℕ) (front : List Init) (s : State)
      (e : Fault) → reading.more_inits total read count front s ≡ Err e → (end : List Token)
      → Viable (InitsGo to room s.names) total s.rest e end
  unfolding reading.more_inits
  more_inits_viable room some_room read reads views zero front s e h end =
      let same : Unexpected (number_of total s.rest) ≡ e = err_is h in inits_closed room s e (ap fault_at (sym same)) end
  more_inits_viable room some_room read reads views (suc count) front s e h end =
      elim (cond_is (inits_go_on s.rest) (read (behind s) >>= λ x. reading.more_inits total read count (front ++ x.0 ∷ []) x.1)
      (reading.inits_end total front s) (Err e) h) [
        | inl p ↦
            let o = sees_mark_is mark.Comma s.rest
            (and_is (sees_mark mark.Comma s.rest) (not (sees_mark mark.CloseBrace (tail s.rest))) p.0).0 in
            let v : Viable (InitsAt to room s.names) total (tail s.rest) e end =
            elim (bind_err (read (behind s)) (λ x. reading.more_inits total read count (front ++ x.0 ∷ []) x.1) e p.1) [
              | inl q ↦
                  let w = views (behind s) e q end in
                  onto end w (omega arith) w.after (λ total' later late x. (_, g.one_init x.1, x.2))
              | inr q ↦
                  let (x, there, go) = q in
                  let w = more_inits_viable room some_room read reads views count (front ++ x.0 ∷ []) x.1 e go end in
                  let m = moved_init to (reads (behind s) x there) w.all in
                  behind_part end w m (omega arith) w.after (λ total' later late y z. z s.names m.all y)
            ] in
            at_front o.ts_are (led o.token end v (omega arith) v.after
            (λ total' later late y names' ts' x. (_, g.more_inits x.1 o.is y.1, (x.2, none_left room to.spare some_room, y.2))))
        | inr p ↦ inits_closed room s e (inits_end_missed front s e p.0 p.1) end
      ]

  inits_viable : (room : ℕ) (read : Reader Init) → ReadsInit room read → ViableInit room read → (s : State) (e : Fault)
      → reading.inits total read s ≡ Err e → (end : List Token) → Viable (InitsAt to room s.names) total s.rest e end
  unfolding reading.inits
  inits_viable room read reads views s e h end =
      elim (bind_err (read s) (λ x. reading.more_inits total read (length x.1.rest) (x.0 ∷ []) x.1) e h) [
        | inl q ↦ let w = views s e q end in onto end w (omega arith) w.after (λ total' later late x. (_, g.one_init x.1, x.2))
        | inr q ↦
            let (x, there, go) = q in
            let d : IsInit total to.chain room s.names s.rest x.1.rest x.1.names x.0 = reads s x there in
            let w = more_inits_viable room (init_room d) read reads views (length x.1.rest) (x.0 ∷ []) x.1 e go end in
            let m = moved_init to d w.all in
            behind_part end w m (omega arith) w.after (λ total' later late y z. z s.names m.all y)
      ]

  pub init_viable : (room : ℕ) (s : State) (e : Fault) → reading.init total to.chain room s ≡ Err e → (end : List Token)
      → Viable (InitAt to room s.names) total s.rest e end
  unfolding reading.init
  init_viable zero s e h end =
      let some_room : 1 ≤ to.spare = (let more = to.deeper in omega (arith, more)) in
      put_here (number_token ∷ end) end (deep_at total s e (err_is h)) (omega arith) s.names
      (λ total' later late. let x = zero_assign to total' later to.spare some_room s.names end late in (_, g.init_value x.1, x.2))
  init_viable (suc room) s e h end =
      elim (cond_is (sees_mark mark.OpenBrace s.rest)
      (reading.inits total (reading.init total to.chain room) (behind s) >>= λ x. Ok (an_init.List (here total s) x.0, x.1))
      ((readers total to.chain (suc room)).expr extent.Assign s >>= λ x. Ok (an_init.Value x.0, x.1)) (Err e) h) [
        | inl p ↦
            let o = sees_mark_is mark.OpenBrace s.rest p.0 in
            elim (bind_err (reading.inits total (reading.init total to.chain room) (behind s))
            (λ x. Ok (an_init.List (here total s) x.0, x.1)) e p.1) [
              | inl q ↦
                  let close : List Token = mark_token mark.CloseBrace ∷ end in
                  let v = inits_viable room (reading.init total to.chain room) (init_sound total to.chain sound room)
                  (init_viable room) (behind s) e q close in
                  at_front o.ts_are (led o.token end v (omega arith) v.after
                  (λ total' later late y.
                  (_, g.list o.is y.1 refl, (deep room to.spare, y.2, λ _. let z = v.room_there in omega (arith, late, z)))))
              | inr q ↦ let (x, there, made) = q in absurd cc
            ]
        | inr p ↦
            elim (bind_err ((readers total to.chain (suc room)).expr extent.Assign s) (λ x. Ok (an_init.Value x.0, x.1)) e p.1) [
              | inl q ↦
                  let v = (below (suc room)).expr extent.Assign s e q end in
                  onto end v.whole (omega arith) v.whole.after (λ total' later late y. (_, g.init_value y.1, y.2))
              | inr q ↦ let (x, there, made) = q in absurd cc
            ]
      ]

  -- ---- declarations

  initialised_viable : (room : ℕ) → 1 ≤ room → (is_typedef : Bool) (d : ReadDeclarator) (s : State) (e : Fault)
      → reading.initialised total to.chain room is_typedef d s ≡ Err e → (end : List Token)
      → Viable (InitialisedAt to is_typedef room d.name d.own s.names) total s.rest e end
  unfolding reading.initialised
  initialised_viable room some_room is_typedef d s e h end =
      elim (cond_is (sees_mark mark.Assign s.rest)
      (reading.init total to.chain room (behind (declaring d.name is_typedef s))
      >>= λ x. Ok (record { declarator = d.tree; init = Some x.0 }, x.1))
      (Ok (record { declarator = d.tree; init = None }, declaring d.name is_typedef s)) (Err e) h) [
        | inl p ↦
            let o = sees_mark_is mark.Assign s.rest p.0 in
            elim (bind_err (reading.init total to.chain room (behind (declaring d.name is_typedef s)))
            (λ x. Ok (record { declarator = d.tree; init = Some x.0 }, x.1)) e p.1) [
              | inl q ↦
                  let v = init_viable room (behind (declaring d.name is_typedef s)) e q end in
                  at_front o.ts_are (led o.token end v (omega arith) v.after
                  (λ total' later late y names' ts' x.
                  (_, g.initialised x.1 o.is y.1, (x.2, none_left room to.spare some_room, y.2))))
              | inr q ↦ let (x, there, made) = q in absurd cc
            ]
        | inr p ↦ absurd (let x = p.1 in cc)
      ]

  init_declarator_viable : (room : ℕ) (is_typedef : Bool) (s : State) (e : Fault)
      → reading.init_declarator total to.chain room is_typedef s ≡ Err e
      → (end : List Token) → Viable (InitDeclaratorAt to is_typedef room s.names) total s.rest e end
  unfolding reading.init_declarator
  init_declarator_viable room is_typedef s e h end =
      elim (bind_err ((readers total to.chain room).declarator s)
      (λ x. reading.initialised total to.chain room is_typedef x.0 x.1) e h) [
        | inl p ↦
            let v = (below room).declarator s e p end in
            onto end v.whole (omega arith) (declared v.whole.after v.bytes is_typedef)
            (λ total' later late y. (_, g.plain y.1, y.2))
        | inr p ↦
            let (x, there, go) = p in
            let d : IsDeclarator total to.chain room s.names s.rest x.1.rest x.1.names x.0.name x.0.own x.0.tree =
            (sound room).declarator s x.1 x.0 there in
            let v = initialised_viable room (declarator_room d) is_typedef x.0 x.1 e go end in
            let m = moved_declarator to d v.all in
            behind_part end v m (omega arith) v.after (λ total' later late y z. z s.names m.all y)
      ]

  more_declared_viable : (room : ℕ) → 1 ≤ room
      → (is_typedef : Bool) (count : ℕ) (front : List InitDeclarator) (s : State) (e : Fault)
      → reading.more_declared total to.chain room is_typedef count front s ≡ Err e → (end : List Token)
      → Viable (DeclaredGo to is_typedef room s.names) total s.rest e end
  unfolding reading.more_declared
  more_declared_viable room some_room is_typedef zero front s e h end =
      let same : Unexpected (number_of total s.rest) ≡ e = err_is h in
      put_here end end (ap fault_at (sym same)) (omega arith) s.names
      (λ total' later late names' ts' x. (_, g.AreInitDeclarators.one x.1, x.2))
  more_declared_viable room some_room is_typedef (suc count) front s e h end =
      elim (cond_is (sees_mark mark.Comma s.rest)
      (reading.init_declarator total to.chain room is_typedef (behind s)
      >>= λ x. reading.more_declared total to.chain room is_typedef count (front ++ x.0 ∷ []) x.1)
      (expect_mark total mark.Semicolon s >>= λ s'. Ok (front, s')) (Err e) h) [
        | inl p ↦
            let o = sees_mark_is mark.Comma s.rest p.0 in
            let v : Viable (InitDeclaratorsAt to is_typedef room s.names) total (tail s.rest) e end =
            elim (bind_err (reading.init_declarator total to.chain room is_typedef (behind s))
            (λ x. reading.more_declared total to.chain room is_typedef count (front ++ x.0 ∷ []) x.1) e p.1) [
              | inl q ↦
                  let w = init_declarator_viable room is_typedef (behind s) e q end in
                  onto end w (omega arith) w.after (λ total' later late x. (_, g.AreInitDeclarators.one x.1, x.2))
              | inr q ↦
                  let (x, there, go) = q in
                  let w = more_declared_viable room some_room is_typedef count (front ++ x.0 ∷ []) x.1 e go end in
                  let m = moved_init_declarator to
                  (init_declarator_sound total to.chain sound room is_typedef (behind s) x there) w.all in
                  behind_part end w m (omega arith) w.after (λ total' later late y z. z s.names m.all y)
            ] in
            at_front o.ts_are (led o.token end v (omega arith) v.after
            (λ total' later late y names' ts' x.
            (_, g.AreInitDeclarators.more x.1 o.is y.1, (x.2, none_left room to.spare some_room, y.2))))
        | inr p ↦
            elim (bind_err (expect_mark total mark.Semicolon s) (λ s'. Ok (front, s')) e p.1) [
              | inl q ↦
                  put_here end end (mark_missed total mark.Semicolon s e q) (omega arith) s.names
                  (λ total' later late names' ts' x. (_, g.AreInitDeclarators.one x.1, x.2))
              | inr q ↦ let (s', there, made) = q in absurd cc
            ]
      ]

  all_declared_viable : (room : ℕ) (is_typedef : Bool) (names : Names) (ts : List Token) (d : ReadDeclarator)
      (s : State) (e : Fault)
      → IsDeclarator total to.chain room names ts s.rest s.names d.name d.own d.tree
      → reading.all_declared total to.chain room is_typedef d s ≡ Err e
      → (end : List Token) → Viable (InitDeclaratorsAt to is_typedef room names) total ts e end
  unfolding reading.all_declared
  all_declared_viable room is_typedef names ts d s e is h end =
      elim (bind_err (reading.initialised total to.chain room is_typedef d s)
      (λ x. reading.more_declared total to.chain room is_typedef (length x.1.rest) (x.0 ∷ []) x.1) e h) [
        | inl p ↦
            let v = initialised_viable room (declarator_room is) is_typedef d s e p end in
            let m = moved_declarator to is v.all in
            behind_part end v m (omega arith) v.after
            (λ total' later late y z. let x = z names m.all y in (_, g.AreInitDeclarators.one x.1, x.2))
        | inr p ↦
            let (x, there, go) = p in
            let v = more_declared_viable room (declarator_room is) is_typedef (length x.1.rest) (x.0 ∷ []) x.1 e go end in
            let m = moved_init_declarator to
            (initialised_sound total to.chain sound room is_typedef names ts d s x is there) v.all in
            behind_part end v m (omega arith) v.after (λ total' later late y z. z names m.all y)
      ]

  pub decl_from_viable : (room token : ℕ) (names between : Names) (ts mid : List Token) (ss : ReadSpecs) (d : ReadDeclarator)
      (s : State) (e : Fault)
      → AreSpecs total to.chain room names ts mid between ss.is_typedef ss.specs
      → IsDeclarator total to.chain room between mid s.rest s.names d.name d.own d.tree
      → reading.decl_from total to.chain room token ss d s ≡ Err e → (end : List Token)
      → Viable (DeclAt to room names) total ts e end
  unfolding reading.decl_from
  decl_from_viable room token names between ts mid ss d s e are is h end =
      elim (bind_err (reading.all_declared total to.chain room ss.is_typedef d s)
      (λ x. Ok (record { token = token; specs = ss.specs; declared = x.0 }, x.1)) e h) [
        | inl p ↦
            let v = all_declared_viable room ss.is_typedef between mid d s e is p (mark_token mark.Semicolon ∷ end) in
            behind_part end v (moved_specs to are v.all) (omega arith) v.after
            (λ total' later late y z.
            (_, g.IsDecl.some y.1 z.1 refl, (y.2, z.2, λ _. let x = v.room_there in omega (arith, late, x))))
        | inr p ↦ let (x, there, made) = p in absurd cc
      ]

  -- where a declarator isn't read behind the specifiers
  pub declarator_missed : (room : ℕ) (names : Names) (ts : List Token) (ss : ReadSpecs) (s : State) (e : Fault)
      → AreSpecs total to.chain room names ts s.rest s.names ss.is_typedef ss.specs
      → (readers total to.chain room).declarator s ≡ Err e → (end : List Token)
      → Viable (DeclAt to room names) total ts e end
  declarator_missed room names ts ss s e are h end =
      let v = (below room).declarator s e h (mark_token mark.Semicolon ∷ end) in
      behind_part end v.whole (moved_specs to are v.whole.all) (omega arith) (declared v.whole.after v.bytes ss.is_typedef)
      (λ total' later late y z. (
        _,
        g.IsDecl.some y.1 (g.AreInitDeclarators.one (g.plain z.1)) refl,
        (y.2, z.2, λ _. let x = v.whole.room_there in omega (arith, late, x)),
      ))

  -- where the specifiers aren't read
  pub specs_missed : (room : ℕ) (s : State) (e : Fault) → (readers total to.chain room).specs s ≡ Err e → (end : List Token)
      → Viable (DeclAt to room s.names) total s.rest e end
  specs_missed room s e h end =
      let v = (below room).specs s e h (mark_token mark.Semicolon ∷ end) in
      onto end v.whole (omega arith) v.whole.after
      (λ total' later late y. (_, g.bare y.1 refl, (y.2, λ _. let x = v.whole.room_there in omega (arith, late, x))))

  decl_behind_viable : (room token : ℕ) (names : Names) (ts : List Token) (ss : ReadSpecs) (s : State) (e : Fault)
      → AreSpecs total to.chain room names ts s.rest s.names ss.is_typedef ss.specs
      → reading.decl_behind total to.chain room token ss s ≡ Err e
      → (end : List Token) → Viable (DeclAt to room names) total ts e end
  unfolding reading.decl_behind
  decl_behind_viable room token names ts ss s e are h end =
      elim (cond_is (sees_mark mark.Semicolon s.rest) (Ok (record { token = token; specs = ss.specs; declared = [] }, behind s))
      ((readers total to.chain room).declarator s >>= λ x. reading.decl_from total to.chain room token ss x.0 x.1) (Err e) h) [
        | inl p ↦ absurd (let x = p.1 in cc)
        | inr p ↦
            elim (bind_err ((readers total to.chain room).declarator s)
            (λ x. reading.decl_from total to.chain room token ss x.0 x.1) e p.1) [
              | inl q ↦ declarator_missed room names ts ss s e are q end
              | inr q ↦
                  let (x, there, go) = q in
                  decl_from_viable room token names s.names ts s.rest ss x.0 x.1 e are
                  ((sound room).declarator s x.1 x.0 there) go end
            ]
      ]

  pub decl_viable : (room : ℕ) (s : State) (e : Fault) → reading.decl total to.chain room s ≡ Err e → (end : List Token)
      → Viable (DeclAt to room s.names) total s.rest e end
  unfolding reading.decl
  decl_viable room s e h end =
      elim (bind_err ((readers total to.chain room).specs s)
      (λ x. reading.decl_behind total to.chain room (here total s) x.0 x.1) e h) [
        | inl p ↦ specs_missed room s e p end
        | inr p ↦
            let (x, there, go) = p in
            decl_behind_viable room (here total s) s.names s.rest x.0 x.1 e ((sound room).specs s x.1 x.0 there) go end
      ]
