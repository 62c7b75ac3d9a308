-- What is read as an initialiser or as a declaration is one.
use Rattle.std.proofs.Common.{◌≡◌, ℕ, zero, suc, ◌++◌, not, Bool, true, false, cond, Some, None, Ok, List, [], ◌∷◌, length, refl, sym, ◌∙◌, subst, inl, inr, append_assoc, append-nil}
use Rattle.c_lex.specs.declared.token.Token.{Token}
use Rattle.c_lex.specs.declared.token.Mark.TheVariants as mark
use Rattle.c_ast.specs.declared.declaration.Init.{Init}
use Rattle.c_ast.specs.declared.declaration.Init.TheVariants as an_init
use Rattle.c_ast.specs.declared.declaration.InitDeclarator.{InitDeclarator}
use Rattle.c_ast.specs.declared.declaration.Decl.{Decl}
use Rattle.c_grammar.specs.declared.phrases.Extent.TheVariants as extent
use Rattle.c_grammar.specs.declared.phrases.ReadSpecs.{ReadSpecs}
use Rattle.c_grammar.specs.declared.phrases.ReadDeclarator.{ReadDeclarator}
use Rattle.c_grammar.specs.Names.{Names}
use Rattle.c_grammar.specs.Words.{IsMark, number_of}
use Rattle.c_grammar.specs.Grammar.{Assign, IsExpr, AreSpecs, IsDeclarator, IsInit, init_value, list, AreInits, one_init, last_init, more_inits, IsInitDeclarator, AreInitDeclarators, IsDecl, bare}
use Rattle.c_grammar.specs.Grammar as grammar
use Rattle.c_grammar.specs.Reading.{State, Reader, ◌>>=◌, sees_mark, tail, behind, here, expect_mark}
use Rattle.c_grammar.specs.Levels.{readers}
use Rattle.c_grammar.specs.ReadingStmt.{declaring, inits_go_on, behind_comma}
use Rattle.c_grammar.specs.ReadingStmt as reading
use Rattle.c_grammar.proofs.Laws.{Sound}
use Rattle.c_grammar_laws.proofs.ExprStarts.{and_is}
use Rattle.c_grammar_laws.proofs.ExprFound.{moved, bind_ok, cond_is, sees_mark_is, expect_mark_is}

module _ (total most : ℕ) (sound : (room : ℕ) → Sound total most room (readers total most room)) where
  abbrev SoundInit : ℕ → Reader Init → Type 0
  SoundInit room read = (s : State) (y : Init × State) → read s ≡ Ok y → IsInit total most room s.names s.rest y.1.rest y.1.names y.0

  -- behind the initialisers so far come these, and the brace that closes the list
  record MoreInits (room : ℕ) (front : List Init) (s : State) (y : List Init × State) : Type 0 where
    others : List Init
    close : Token
    closes : IsMark mark.CloseBrace close
    all : y.0 ≡ front ++ others
    are : (names : Names) (ts : List Token) (i : Init) → IsInit total most room names ts s.rest s.names i
        → AreInits total most room names ts (close ∷ y.1.rest) y.1.names (i ∷ others)

  inits_end_by : (room : ℕ) (front : List Init) (s s' : State) (b : Bool) → sees_mark mark.Comma s.rest ≡ b
      → expect_mark total mark.CloseBrace (cond b (behind s) s) ≡ Ok s' → MoreInits room front s (front, s')
  inits_end_by room front s s' true sees h =
      let c = expect_mark_is total mark.CloseBrace (behind s) s' h in
      let o = sees_mark_is mark.Comma s.rest sees in
      record {
        others = [];
        close = c.stands.token;
        closes = c.stands.is;
        all = sym (append-nil front);
        are = λ names ts i d.
            subst (λ ns. AreInits total most room names ts (c.stands.token ∷ s'.rest) ns (i ∷ [])) (sym c.names_are)
            (subst (λ us. AreInits total most room names ts us s.names (i ∷ [])) c.stands.ts_are
            (last_init (subst (λ us. IsInit total most room names ts us s.names i) o.ts_are d) o.is));
      }
  inits_end_by room front s s' false sees h =
      let c = expect_mark_is total mark.CloseBrace s s' h in
      record {
        others = [];
        close = c.stands.token;
        closes = c.stands.is;
        all = sym (append-nil front);
        are = λ names ts i d.
            subst (λ ns. AreInits total most room names ts (c.stands.token ∷ s'.rest) ns (i ∷ [])) (sym c.names_are)
            (subst (λ us. AreInits total most room names ts us s.names (i ∷ [])) c.stands.ts_are (one_init d));
      }

  inits_end_sound : (room : ℕ) (front : List Init) (s : State) (y : List Init × State) → reading.inits_end total front s ≡ Ok y → MoreInits room front s y
  unfolding reading.inits_end
  inits_end_sound room front s y h =
      let (s', closes, made) = bind_ok (expect_mark total mark.CloseBrace (behind_comma s)) (λ s'. Ok (front, s')) y h in
      moved (λ (z : List Init × State). MoreInits room front s z) (inits_end_by room front s s' (sees_mark mark.Comma s.rest) refl closes) made

  more_inits_sound : (room : ℕ) (read : Reader Init) → SoundInit room read → (count : ℕ) (front : List Init) (s : State) (y : List Init × State)
      → reading.more_inits total read count front s ≡ Ok y → MoreInits room front s y
  unfolding reading.more_inits
  more_inits_sound room read reads zero front s y h = absurd cc
  more_inits_sound room read reads (suc count) front s y h =
      elim (cond_is (inits_go_on s.rest) (read (behind s) >>= λ x. reading.more_inits total read count (front ++ x.0 ∷ []) x.1) (reading.inits_end total front s) (Ok y) h) [
        | inl p ↦
            let o = sees_mark_is mark.Comma s.rest (and_is (sees_mark mark.Comma s.rest) (not (sees_mark mark.CloseBrace (tail s.rest))) p.0).0 in
            let (x, there, go) = bind_ok (read (behind s)) (λ x. reading.more_inits total read count (front ++ x.0 ∷ []) x.1) y p.1 in
            let is : IsInit total most room s.names (tail s.rest) x.1.rest x.1.names x.0 = reads (behind s) x there in
            let r : MoreInits room (front ++ x.0 ∷ []) x.1 y = more_inits_sound room read reads count (front ++ x.0 ∷ []) x.1 y go in
            record {
              others = x.0 ∷ r.others;
              close = r.close;
              closes = r.closes;
              all = r.all ∙ append_assoc front (x.0 ∷ []) r.others;
              are = λ names ts i d. more_inits (subst (λ us. IsInit total most room names ts us s.names i) o.ts_are d) o.is (r.are s.names (tail s.rest) x.0 is);
            }
        | inr p ↦ inits_end_sound room front s y p.1
      ]

  record Inits (room : ℕ) (s : State) (y : List Init × State) : Type 0 where
    close : Token
    closes : IsMark mark.CloseBrace close
    are : AreInits total most room s.names s.rest (close ∷ y.1.rest) y.1.names y.0

  inits_sound : (room : ℕ) (read : Reader Init) → SoundInit room read → (s : State) (y : List Init × State) → reading.inits total read s ≡ Ok y → Inits room s y
  unfolding reading.inits
  inits_sound room read reads s y h =
      let (x, there, go) = bind_ok (read s) (λ x. reading.more_inits total read (length x.1.rest) (x.0 ∷ []) x.1) y h in
      let r = more_inits_sound room read reads (length x.1.rest) (x.0 ∷ []) x.1 y go in
      record {
        close = r.close;
        closes = r.closes;
        are = subst (λ is. AreInits total most room s.names s.rest (r.close ∷ y.1.rest) y.1.names is) (sym r.all) (r.are s.names s.rest x.0 (reads s x there));
      }

  pub init_sound : (room : ℕ) → SoundInit room (reading.init total most room)
  unfolding reading.init
  init_sound zero s y h = absurd cc
  init_sound (suc room) s y h =
      elim (cond_is (sees_mark mark.OpenBrace s.rest)
      (reading.inits total (reading.init total most room) (behind s) >>= λ x. Ok (an_init.List (here total s) x.0, x.1))
      ((readers total most (suc room)).expr extent.Assign s >>= λ x. Ok (an_init.Value x.0, x.1)) (Ok y) h) [
        | inl p ↦
            let o = sees_mark_is mark.OpenBrace s.rest p.0 in
            let (x, there, made) = bind_ok (reading.inits total (reading.init total most room) (behind s)) (λ x. Ok (an_init.List (here total s) x.0, x.1)) y p.1 in
            let i : Inits room (behind s) x = inits_sound room (reading.init total most room) (init_sound room) (behind s) x there in
            moved (λ (z : Init × State). IsInit total most (suc room) s.names s.rest z.1.rest z.1.names z.0)
            (subst (λ us. IsInit total most (suc room) s.names us x.1.rest x.1.names (an_init.List (number_of total us) x.0)) (sym o.ts_are)
            (list o.is i.are i.closes)) made
        | inr p ↦
            let (x, there, made) = bind_ok ((readers total most (suc room)).expr extent.Assign s) (λ x. Ok (an_init.Value x.0, x.1)) y p.1 in
            moved (λ (z : Init × State). IsInit total most (suc room) s.names s.rest z.1.rest z.1.names z.0)
            (init_value ((sound (suc room)).expr extent.Assign s x.1 x.0 there)) made
      ]

  -- ---- declarations

  pub initialised_sound : (room : ℕ) (is_typedef : Bool) (names : Names) (ts : List Token) (d : ReadDeclarator) (s : State) (y : InitDeclarator × State)
      → IsDeclarator total most room names ts s.rest s.names d.name d.own d.tree → reading.initialised total most room is_typedef d s ≡ Ok y
      → IsInitDeclarator total most is_typedef room names ts y.1.rest y.1.names y.0
  unfolding reading.initialised
  initialised_sound room is_typedef names ts d s y is h =
      elim (cond_is (sees_mark mark.Assign s.rest)
      (reading.init total most room (behind (declaring d.name is_typedef s)) >>= λ x. Ok (record { declarator = d.tree; init = Some x.0 }, x.1))
      (Ok (record { declarator = d.tree; init = None }, declaring d.name is_typedef s)) (Ok y) h) [
        | inl p ↦
            let o = sees_mark_is mark.Assign s.rest p.0 in
            let (x, there, made) = bind_ok (reading.init total most room (behind (declaring d.name is_typedef s))) (λ x. Ok (record { declarator = d.tree; init = Some x.0 }, x.1)) y p.1 in
            moved (λ (z : InitDeclarator × State). IsInitDeclarator total most is_typedef room names ts z.1.rest z.1.names z.0)
            (grammar.initialised (subst (λ us. IsDeclarator total most room names ts us s.names d.name d.own d.tree) o.ts_are is) o.is
            (init_sound room (behind (declaring d.name is_typedef s)) x there)) made
        | inr p ↦
            moved (λ (z : InitDeclarator × State). IsInitDeclarator total most is_typedef room names ts z.1.rest z.1.names z.0) (grammar.plain is) p.1
      ]

  pub init_declarator_sound : (room : ℕ) (is_typedef : Bool) (s : State) (y : InitDeclarator × State) → reading.init_declarator total most room is_typedef s ≡ Ok y
      → IsInitDeclarator total most is_typedef room s.names s.rest y.1.rest y.1.names y.0
  unfolding reading.init_declarator
  init_declarator_sound room is_typedef s y h =
      let (x, there, go) = bind_ok ((readers total most room).declarator s) (λ x. reading.initialised total most room is_typedef x.0 x.1) y h in
      initialised_sound room is_typedef s.names s.rest x.0 x.1 y ((sound room).declarator s x.1 x.0 there) go

  -- behind the declarators so far come these, and the semicolon
  record MoreDeclared (room : ℕ) (is_typedef : Bool) (front : List InitDeclarator) (s : State) (y : List InitDeclarator × State) : Type 0 where
    others : List InitDeclarator
    semicolon : Token
    ends : IsMark mark.Semicolon semicolon
    all : y.0 ≡ front ++ others
    are : (names : Names) (ts : List Token) (d : InitDeclarator) → IsInitDeclarator total most is_typedef room names ts s.rest s.names d
        → AreInitDeclarators total most is_typedef room names ts (semicolon ∷ y.1.rest) y.1.names (d ∷ others)

  more_declared_sound : (room : ℕ) (is_typedef : Bool) (count : ℕ) (front : List InitDeclarator) (s : State) (y : List InitDeclarator × State)
      → reading.more_declared total most room is_typedef count front s ≡ Ok y → MoreDeclared room is_typedef front s y
  unfolding reading.more_declared
  more_declared_sound room is_typedef zero front s y h = absurd cc
  more_declared_sound room is_typedef (suc count) front s y h =
      elim (cond_is (sees_mark mark.Comma s.rest)
      (reading.init_declarator total most room is_typedef (behind s) >>= λ x. reading.more_declared total most room is_typedef count (front ++ x.0 ∷ []) x.1)
      (expect_mark total mark.Semicolon s >>= λ s'. Ok (front, s')) (Ok y) h) [
        | inl p ↦
            let o = sees_mark_is mark.Comma s.rest p.0 in
            let (x, there, go) = bind_ok (reading.init_declarator total most room is_typedef (behind s)) (λ x. reading.more_declared total most room is_typedef count (front ++ x.0 ∷ []) x.1) y p.1 in
            let is : IsInitDeclarator total most is_typedef room s.names (tail s.rest) x.1.rest x.1.names x.0 = init_declarator_sound room is_typedef (behind s) x there in
            let r : MoreDeclared room is_typedef (front ++ x.0 ∷ []) x.1 y = more_declared_sound room is_typedef count (front ++ x.0 ∷ []) x.1 y go in
            record {
              others = x.0 ∷ r.others;
              semicolon = r.semicolon;
              ends = r.ends;
              all = r.all ∙ append_assoc front (x.0 ∷ []) r.others;
              are = λ names ts d e. grammar.more (subst (λ us. IsInitDeclarator total most is_typedef room names ts us s.names d) o.ts_are e) o.is (r.are s.names (tail s.rest) x.0 is);
            }
        | inr p ↦
            let (s', stops, made) = bind_ok (expect_mark total mark.Semicolon s) (λ s'. Ok (front, s')) y p.1 in
            let c = expect_mark_is total mark.Semicolon s s' stops in
            let f : MoreDeclared room is_typedef front s (front, s') = record {
              others = [];
              semicolon = c.stands.token;
              ends = c.stands.is;
              all = sym (append-nil front);
              are = λ names ts d e.
                  subst (λ ns. AreInitDeclarators total most is_typedef room names ts (c.stands.token ∷ s'.rest) ns (d ∷ [])) (sym c.names_are)
                  (subst (λ us. AreInitDeclarators total most is_typedef room names ts us s.names (d ∷ [])) c.stands.ts_are (grammar.one e));
            } in
            moved (λ (z : List InitDeclarator × State). MoreDeclared room is_typedef front s z) f made
      ]

  record AllDeclared (room : ℕ) (is_typedef : Bool) (names : Names) (ts : List Token) (y : List InitDeclarator × State) : Type 0 where
    semicolon : Token
    ends : IsMark mark.Semicolon semicolon
    are : AreInitDeclarators total most is_typedef room names ts (semicolon ∷ y.1.rest) y.1.names y.0

  all_declared_sound : (room : ℕ) (is_typedef : Bool) (names : Names) (ts : List Token) (d : ReadDeclarator) (s : State) (y : List InitDeclarator × State)
      → IsDeclarator total most room names ts s.rest s.names d.name d.own d.tree → reading.all_declared total most room is_typedef d s ≡ Ok y
      → AllDeclared room is_typedef names ts y
  unfolding reading.all_declared
  all_declared_sound room is_typedef names ts d s y is h =
      let (x, there, go) = bind_ok (reading.initialised total most room is_typedef d s) (λ x. reading.more_declared total most room is_typedef (length x.1.rest) (x.0 ∷ []) x.1) y h in
      let r : MoreDeclared room is_typedef (x.0 ∷ []) x.1 y = more_declared_sound room is_typedef (length x.1.rest) (x.0 ∷ []) x.1 y go in
      record {
        semicolon = r.semicolon;
        ends = r.ends;
        are = subst (λ ds. AreInitDeclarators total most is_typedef room names ts (r.semicolon ∷ y.1.rest) y.1.names ds) (sym r.all)
            (r.are names ts x.0 (initialised_sound room is_typedef names ts d s x is there));
      }

  pub decl_from_sound : (room : ℕ) (names between : Names) (ts mid : List Token) (ss : ReadSpecs) (d : ReadDeclarator) (s : State) (y : Decl × State)
      → AreSpecs total most room names ts mid between ss.is_typedef ss.specs → IsDeclarator total most room between mid s.rest s.names d.name d.own d.tree
      → reading.decl_from total most room (number_of total ts) ss d s ≡ Ok y → IsDecl total most room names ts y.1.rest y.1.names y.0
  unfolding reading.decl_from
  decl_from_sound room names between ts mid ss d s y are is h =
      let (x, there, made) = bind_ok (reading.all_declared total most room ss.is_typedef d s) (λ x. Ok (record { token = number_of total ts; specs = ss.specs; declared = x.0 }, x.1)) y h in
      let r : AllDeclared room ss.is_typedef between mid x = all_declared_sound room ss.is_typedef between mid d s x is there in
      moved (λ (z : Decl × State). IsDecl total most room names ts z.1.rest z.1.names z.0) (grammar.some are r.are r.ends) made

  -- specifiers and a semicolon
  pub bare_sound : (room : ℕ) (names : Names) (ts : List Token) (ss : ReadSpecs) (s : State) → sees_mark mark.Semicolon s.rest ≡ true
      → AreSpecs total most room names ts s.rest s.names ss.is_typedef ss.specs
      → IsDecl total most room names ts (tail s.rest) s.names (record { token = number_of total ts; specs = ss.specs; declared = [] })
  bare_sound room names ts ss s sees are =
      let o = sees_mark_is mark.Semicolon s.rest sees in
      bare (subst (λ us. AreSpecs total most room names ts us s.names ss.is_typedef ss.specs) o.ts_are are) o.is

  decl_behind_sound : (room : ℕ) (names : Names) (ts : List Token) (ss : ReadSpecs) (s : State) (y : Decl × State)
      → AreSpecs total most room names ts s.rest s.names ss.is_typedef ss.specs → reading.decl_behind total most room (number_of total ts) ss s ≡ Ok y
      → IsDecl total most room names ts y.1.rest y.1.names y.0
  unfolding reading.decl_behind
  decl_behind_sound room names ts ss s y are h =
      elim (cond_is (sees_mark mark.Semicolon s.rest) (Ok (record { token = number_of total ts; specs = ss.specs; declared = [] }, behind s))
      ((readers total most room).declarator s >>= λ x. reading.decl_from total most room (number_of total ts) ss x.0 x.1) (Ok y) h) [
        | inl p ↦ moved (λ (z : Decl × State). IsDecl total most room names ts z.1.rest z.1.names z.0) (bare_sound room names ts ss s p.0 are) p.1
        | inr p ↦
            let (x, there, go) = bind_ok ((readers total most room).declarator s) (λ x. reading.decl_from total most room (number_of total ts) ss x.0 x.1) y p.1 in
            decl_from_sound room names s.names ts s.rest ss x.0 x.1 y are ((sound room).declarator s x.1 x.0 there) go
      ]

  pub decl_sound : (room : ℕ) (s : State) (y : Decl × State) → reading.decl total most room s ≡ Ok y
      → IsDecl total most room s.names s.rest y.1.rest y.1.names y.0
  unfolding reading.decl
  decl_sound room s y h =
      let (x, there, go) = bind_ok ((readers total most room).specs s) (λ x. reading.decl_behind total most room (here total s) x.0 x.1) y h in
      decl_behind_sound room s.names s.rest x.0 x.1 y ((sound room).specs s x.1 x.0 there) go
