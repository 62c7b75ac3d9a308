-- What is read as a unit is one.
use Rattle.std.proofs.Common.{◌≡◌, ℕ, zero, suc, ◌++◌, true, cond, Result, Ok, Err, List, [], ◌∷◌, length, refl, sym, ◌∙◌, subst, inl, inr, append_assoc, append-nil}
use Rattle.std.specs.Prelude.{IfOk}
use Rattle.c_lex.specs.declared.token.Token.{Token}
use Rattle.c_lex.specs.declared.token.Mark.TheVariants as mark
use Rattle.c_ast.specs.declared.declaration.External.{External}
use Rattle.c_ast.specs.declared.declaration.External.TheVariants as an_external
use Rattle.c_ast.specs.declared.declaration.Unit.{Unit as AUnit}
use Rattle.c_grammar.specs.declared.error.ParseError.{ParseError}
use Rattle.c_grammar.specs.declared.phrases.ReadSpecs.{ReadSpecs}
use Rattle.c_grammar.specs.declared.phrases.ReadDeclarator.{ReadDeclarator}
use Rattle.c_grammar.specs.Names.{Names, declared, nothing}
use Rattle.c_grammar.specs.Owns.{own_names}
use Rattle.c_grammar.specs.Words.{number_of}
use Rattle.c_grammar.specs.Grammar.{AreSpecs, IsDeclarator, IsDecl, AreItems, IsExternal, AreExternals, ParsesWithin}
use Rattle.c_grammar.specs.Grammar as grammar
use Rattle.c_grammar.specs.Reading.{State, Fault, Gives, ◌>>=◌, sees_mark, tail, behind, here}
use Rattle.c_grammar.specs.Levels.{readers}
use Rattle.c_grammar.specs.ReadingStmt.{left, left_to, is_end}
use Rattle.c_grammar.specs.ReadingStmt as reading
use Rattle.c_grammar.proofs.Laws.{Sound, at_state}
use Rattle.c_grammar.proofs.Extends.{Extends, closed}
use Rattle.c_grammar_laws.proofs.ExprFound.{moved, bind_ok, cond_is, sees_mark_is}
use Rattle.c_grammar_laws.proofs.StmtExtends.{left_is, items_extend}
use Rattle.c_grammar_laws.proofs.StmtDeclSound.{decl_from_sound, bare_sound}
use Rattle.c_grammar_laws.proofs.StmtSound.{block_items_sound}

-- names that came behind others, of which these are left
pub inner_added : (own : Names) {names after : Names} {ts rest : List Token} → Extends (own ++ names) after ts rest → Extends names after ts rest
inner_added own {names = names} d = record {
  added = d.added ++ own;
  grows = d.grows ∙ sym (append_assoc d.added own names);
  shrinks = d.shrinks;
}

module _ (total most : ℕ) (sound : (room : ℕ) → Sound total most room (readers total most room)) where
  function_sound : (room : ℕ) (names between : Names) (ts mid : List Token) (ss : ReadSpecs) (d : ReadDeclarator) (s : State) (y : External × State)
      → AreSpecs total most (suc room) names ts mid between ss.is_typedef ss.specs
      → IsDeclarator total most (suc room) between mid s.rest s.names d.name d.own d.tree → sees_mark mark.OpenBrace s.rest ≡ true
      → reading.function total most room (number_of total ts) ss d s ≡ Ok y → IsExternal total most (suc room) names ts y.1.rest y.1.names y.0
  unfolding reading.function
  function_sound room names between ts mid ss d s y are is sees h =
      let outer = declared s.names d.name ss.is_typedef in
      let o = sees_mark_is mark.OpenBrace s.rest sees in
      let (x, there, made) = bind_ok (reading.items total most (reading.statement total most room) room (length (tail s.rest)) [] (record { names = own_names d.own ++ outer; rest = tail s.rest }))
      (λ x. Ok (an_external.Function (number_of total ts) ss.specs d.tree x.0, left outer x.1)) y h in
      let r = block_items_sound total most sound room (at_state (own_names d.own ++ outer) (tail s.rest)) x there in
      let items : AreItems total most room (own_names d.own ++ outer) (tail s.rest) (r.close ∷ x.1.rest) x.1.names x.0 =
      subst (λ is. AreItems total most room (own_names d.own ++ outer) (tail s.rest) (r.close ∷ x.1.rest) x.1.names is) (sym r.all) r.are in
      let e : IsExternal total most (suc room) names ts x.1.rest outer (an_external.Function (number_of total ts) ss.specs d.tree x.0) =
      grammar.function are (subst (λ us. IsDeclarator total most (suc room) between mid us s.names d.name d.own d.tree) o.ts_are is) o.is items r.closes in
      let f : IsExternal total most (suc room) names ts (left outer x.1).rest (left outer x.1).names (an_external.Function (number_of total ts) ss.specs d.tree x.0) =
      subst (λ (u : State). IsExternal total most (suc room) names ts u.rest u.names (an_external.Function (number_of total ts) ss.specs d.tree x.0))
      (sym (left_is (inner_added (own_names d.own) (closed (items_extend items))))) e in
      moved (λ (z : External × State). IsExternal total most (suc room) names ts z.1.rest z.1.names z.0) f made

  external_behind_sound : (room : ℕ) (names : Names) (ts : List Token) (ss : ReadSpecs) (s : State) (y : External × State)
      → AreSpecs total most (suc room) names ts s.rest s.names ss.is_typedef ss.specs
      → reading.external_behind total most room (number_of total ts) ss s ≡ Ok y → IsExternal total most (suc room) names ts y.1.rest y.1.names y.0
  unfolding reading.external_behind
  external_behind_sound room names ts ss s y are h =
      let token = number_of total ts in
      let P : External × State → Type 0 = λ z. IsExternal total most (suc room) names ts z.1.rest z.1.names z.0 in
      elim (cond_is (sees_mark mark.Semicolon s.rest)
      (Ok (an_external.Declaration (record { token = token; specs = ss.specs; declared = [] }), behind s))
      ((readers total most (suc room)).declarator s >>= λ x. cond (sees_mark mark.OpenBrace x.1.rest) (reading.function total most room token ss x.0 x.1)
      (reading.decl_from total most (suc room) token ss x.0 x.1 >>= λ y. Ok (an_external.Declaration y.0, y.1))) (Ok y) h) [
        | inl p ↦ moved P (grammar.IsExternal.declaration (bare_sound total most sound (suc room) names ts ss s p.0 are)) p.1
        | inr p ↦
            let (x, there, go) = bind_ok ((readers total most (suc room)).declarator s) (λ x. cond (sees_mark mark.OpenBrace x.1.rest) (reading.function total most room token ss x.0 x.1)
            (reading.decl_from total most (suc room) token ss x.0 x.1 >>= λ y. Ok (an_external.Declaration y.0, y.1))) y p.1 in
            let is : IsDeclarator total most (suc room) s.names s.rest x.1.rest x.1.names x.0.name x.0.own x.0.tree = (sound (suc room)).declarator s x.1 x.0 there in
            elim (cond_is (sees_mark mark.OpenBrace x.1.rest) (reading.function total most room token ss x.0 x.1)
            (reading.decl_from total most (suc room) token ss x.0 x.1 >>= λ y. Ok (an_external.Declaration y.0, y.1)) (Ok y) go) [
              | inl q ↦ function_sound room names s.names ts s.rest ss x.0 x.1 y are is q.0 q.1
              | inr q ↦
                  let (z, reads, made) = bind_ok (reading.decl_from total most (suc room) token ss x.0 x.1) (λ y. Ok (an_external.Declaration y.0, y.1)) y q.1 in
                  moved P (grammar.IsExternal.declaration (decl_from_sound total most sound (suc room) names s.names ts s.rest ss x.0 x.1 z are is reads)) made
            ]
      ]

  pub external_sound : (room : ℕ) (s : State) (y : External × State) → reading.external total most room s ≡ Ok y
      → IsExternal total most (suc room) s.names s.rest y.1.rest y.1.names y.0
  unfolding reading.external
  external_sound room s y h =
      let (x, there, go) = bind_ok ((readers total most (suc room)).specs s) (λ x. reading.external_behind total most room (here total s) x.0 x.1) y h in
      external_behind_sound room s.names s.rest x.0 x.1 y ((sound (suc room)).specs s x.1 x.0 there) go

  record ExternalsFound (room : ℕ) (front : List External) (s : State) (all : List External) : Type 0 where
    others : List External
    after : Names
    all_are : all ≡ front ++ others
    are : AreExternals total most (suc room) s.names s.rest [] after others

  end_is : (ts : List Token) → is_end ts ≡ true → ts ≡ []
  end_is [] h = refl
  end_is (t ∷ ts) h = absurd cc

  at_end : (room : ℕ) (front : List External) (s : State) → is_end s.rest ≡ true → ExternalsFound room front s front
  at_end room front s h = record {
    others = [];
    after = s.names;
    all_are = sym (append-nil front);
    are = subst (λ us. AreExternals total most (suc room) s.names us [] s.names []) (sym (end_is s.rest h)) grammar.AreExternals.none;
  }

  externals_sound : (room count : ℕ) (front : List External) (s : State) (all : List External) → reading.externals total most room count front s ≡ Ok all
      → ExternalsFound room front s all
  unfolding reading.externals
  externals_sound room zero front s all h =
      elim (cond_is (is_end s.rest) (Ok front) (Err (Fault.Unexpected (here total s))) (Ok all) h) [
        | inl p ↦ moved (λ (z : List External). ExternalsFound room front s z) (at_end room front s p.0) p.1
        | inr p ↦ absurd (let e = p.1 in cc)
      ]
  externals_sound room (suc count) front s all h =
      elim (cond_is (is_end s.rest) (Ok front) (reading.external total most room s >>= λ x. reading.externals total most room count (front ++ x.0 ∷ []) x.1) (Ok all) h) [
        | inl p ↦ moved (λ (z : List External). ExternalsFound room front s z) (at_end room front s p.0) p.1
        | inr p ↦
            let (x, there, go) = bind_ok (reading.external total most room s) (λ x. reading.externals total most room count (front ++ x.0 ∷ []) x.1) all p.1 in
            let r : ExternalsFound room (front ++ x.0 ∷ []) x.1 all = externals_sound room count (front ++ x.0 ∷ []) x.1 all go in
            record {
              others = x.0 ∷ r.others;
              after = r.after;
              all_are = r.all_are ∙ append_assoc front (x.0 ∷ []) r.others;
              are = grammar.AreExternals.more (external_sound room s x there) r.are;
            }
      ]

pub unit_sound : (most limit : ℕ) (ts : List Token) → ((room : ℕ) → Sound (length ts) most room (readers (length ts) most room)) → (unit : AUnit)
    → reading.unit most limit ts ≡ Ok unit → ParsesWithin limit most ts unit
unfolding reading.unit
unit_sound most limit ts sound unit h =
    let (es, there, made) = bind_ok (reading.externals (length ts) most limit (length ts) [] (at_state nothing ts)) (λ es. Ok (record { externals = es })) unit h in
    let r = externals_sound (length ts) most sound limit (length ts) [] (at_state nothing ts) es there in
    let are : AreExternals (length ts) most (suc limit) nothing ts [] r.after es =
    subst (λ us. AreExternals (length ts) most (suc limit) nothing ts [] r.after us) (sym r.all_are) r.are in
    moved (λ (u : AUnit). ParsesWithin limit most ts u) (r.after, are) made

pub parsed : (most limit : ℕ) (ts : List Token) → ((room : ℕ) → Sound (length ts) most room (readers (length ts) most room))
    → (result : Result AUnit ParseError) → Gives (λ (u : AUnit). u) result (reading.unit most limit ts) → IfOk result (λ u. ParsesWithin limit most ts u)
parsed most limit ts sound (Ok u) h = unit_sound most limit ts sound u h
parsed most limit ts sound (Err e) h = tt
