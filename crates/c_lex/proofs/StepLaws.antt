-- A step of the macros that are being replaced: what holds behind it, what is left, and that less is left.
use Rattle.std.proofs.Common.{◌≡◌, ◌⊎◌, ℕ, zero, suc, ◌+◌, ◌<◌, ◌≤◌, Bool, true, false, List, [], ◌∷◌, ◌++◌, length, map, take, drop, slice_get, Some, None, refl, sym, ap, subst, ◌∙◌, arith, inl, inr, append_assoc, add-one}
use Rattle.std.specs.Prelude.{◌==◌, reverse, if◌then◌else◌}
use Rattle.std.proofs.lemmas.List.{append-nil, reverse-append, length-append, length-map, length-reverse}
use Rattle.std.proofs.lemmas.Bool.{eqb-true, eq-eqb}
use Rattle.c_lex.specs.declared.expand.Frame.{Frame}
use Rattle.c_lex.specs.declared.expand.Mark.{Mark}
use Rattle.c_lex.specs.declared.expand.Next.{Next}
use Rattle.c_lex.specs.declared.expand.Next.TheVariants.{Keep, Skip, Begin}
use Rattle.c_lex.specs.declared.lexeme.Lexeme.{Lexeme}
use Rattle.c_lex.specs.declared.table.Table.{Table as ATable}
use Rattle.c_lex.specs.declared.token.Headers.{Headers}
use Rattle.c_lex.specs.declared.token.Token.{Token as AToken}
use Rattle.c_lex.specs.Pieces.{Macro}
use Rattle.c_lex.specs.Faults.{IsDefined}
use Rattle.c_lex.specs.Tokens.{HasMacro, Replaces, names_of, placed, most_tokens}
use Rattle.c_lex.specs.Expanding.{expanded, work}
use Rattle.c_lex.specs.Table.{names_in, macro_in, macros_in, IsTable}
use Rattle.c_lex.specs.Frames.{is_empty_at, hidden_in, rest_in, work_in, AreApart, AreStanding, stepped, with_empty, with_place, rest_of, Stand, ReplacedBy, IsNext, IsAfter, Advances, IsRunning, macro_becomes}
use Rattle.c_lex.proofs.MacroLaws.{has_split, has_none, name_of_has}
use Rattle.c_lex.proofs.WorkLaws.{expanded-nil, expanded-kept, expanded-replaced, expanded-empty, work-some, work-falls, work-begins}
use Rattle.c_lex.proofs.FrameLaws.{ended_empty, ended_some, at_rest, token_kept, token_skipped, token_begun, first_begun}
use Rattle.c_lex.proofs.TableLaws.{has_macro}

-- ---- lists

pub reverse-snoc : {X : Type 0} (xs : List X) (x : X) → reverse (xs ++ x ∷ []) ≡ x ∷ reverse xs
reverse-snoc xs x = reverse-append xs (x ∷ [])

drop_there : {X : Type 0} (xs : List X) (p : ℕ) (x : X) → slice_get xs p ≡ Some x → drop p xs ≡ x ∷ drop (suc p) xs
drop_there [] p x e = absurd cc
drop_there (y ∷ ys) zero x e = cc
drop_there (y ∷ ys) (suc p) x e = drop_there ys p x e

take_there : {X : Type 0} (xs : List X) (p : ℕ) (x : X) → slice_get xs p ≡ Some x → take (suc p) xs ≡ take p xs ++ x ∷ []
take_there [] p x e = absurd cc
take_there (y ∷ ys) zero x e = cc
take_there {X} (y ∷ ys) (suc p) x e = ap (λ (zs : List X). y ∷ zs) (take_there ys p x e)

drop_past : {X : Type 0} (xs : List X) (p : ℕ) → slice_get xs p ≡ None → drop p xs ≡ []
drop_past [] zero e = refl
drop_past [] (suc p) e = refl
drop_past (y ∷ ys) zero e = absurd cc
drop_past (y ∷ ys) (suc p) e = drop_past ys p e

take_past : {X : Type 0} (xs : List X) (p : ℕ) → slice_get xs p ≡ None → take p xs ≡ xs
take_past [] zero e = refl
take_past [] (suc p) e = refl
take_past (y ∷ ys) zero e = absurd cc
take_past {X} (y ∷ ys) (suc p) e = ap (λ (zs : List X). y ∷ zs) (take_past ys p e)

-- ---- what is left

module _ (t : ATable) (is : IsTable t) where
  rest_ended : (f : Frame) (fs : List Frame) → drop f.place (macro_in t f.number).body ≡ []
      → rest_in (macros_in t) (macro_in t) fs ≡ rest_in (macros_in t) (macro_in t) (f ∷ fs)
  rest_ended f fs e =
      let hidden : List (List ℕ) = hidden_in (macros_in t) (macro_in t) (f ∷ fs) in
      let rest : List Lexeme = rest_in (macros_in t) (macro_in t) fs in
      sym (ap (λ (ls : List Lexeme). ls ++ rest) (ap (λ (ls : List Lexeme). expanded (macros_in t) hidden ls) e ∙ expanded-nil (macros_in t) is.distinct hidden))

  work_ended : (f : Frame) (fs : List Frame) → work_in (macros_in t) (macro_in t) fs < work_in (macros_in t) (macro_in t) (f ∷ fs)
  work_ended f fs =
      omega (arith, work-some (macros_in t) is.distinct (hidden_in (macros_in t) (macro_in t) (f ∷ fs)) (drop f.place (macro_in t f.number).body))

  -- the rest of a frame with one token split off
  rest_split : (f : Frame) (fs : List Frame) (l : Lexeme) → slice_get (macro_in t f.number).body f.place ≡ Some l
      → rest_in (macros_in t) (macro_in t) (f ∷ fs)
      ≡ expanded (macros_in t) (hidden_in (macros_in t) (macro_in t) (f ∷ fs)) (l ∷ drop (f.place + 1) (macro_in t f.number).body)
      ++ rest_in (macros_in t) (macro_in t) fs
  rest_split f fs l e =
      let body : List Lexeme = (macro_in t f.number).body in
      let d : drop f.place body ≡ l ∷ drop (f.place + 1) body =
      drop_there body f.place l e ∙ ap (λ (n : ℕ). l ∷ drop n body) (sym (add-one f.place)) in
      ap (λ (ls : List Lexeme). expanded (macros_in t) (hidden_in (macros_in t) (macro_in t) (f ∷ fs)) ls ++ rest_in (macros_in t) (macro_in t) fs) d

  rest_kept : (f : Frame) (fs : List Frame) (l : Lexeme) → slice_get (macro_in t f.number).body f.place ≡ Some l
      → ((m : Macro) → Replaces (macros_in t) (hidden_in (macros_in t) (macro_in t) (f ∷ fs)) m l → ⊥)
      → rest_in (macros_in t) (macro_in t) (f ∷ fs) ≡ l ∷ rest_in (macros_in t) (macro_in t) (stepped f ∷ fs)
  rest_kept f fs l e apart =
      rest_split f fs l e
      ∙ ap (λ (ls : List Lexeme). ls ++ rest_in (macros_in t) (macro_in t) fs)
      (expanded-kept (macros_in t) is.distinct (hidden_in (macros_in t) (macro_in t) (f ∷ fs)) l (drop (f.place + 1) (macro_in t f.number).body) apart)

  rest_begun : (f : Frame) (fs : List Frame) (l : Lexeme) (i count : ℕ) → slice_get (macro_in t f.number).body f.place ≡ Some l
      → Replaces (macros_in t) (hidden_in (macros_in t) (macro_in t) (f ∷ fs)) (macro_in t i) l
      → rest_in (macros_in t) (macro_in t) (f ∷ fs)
      ≡ rest_in (macros_in t) (macro_in t) (record { number = i; place = 0; start = count } ∷ stepped f ∷ fs)
  rest_begun f fs l i count e r =
      let hidden : List (List ℕ) = hidden_in (macros_in t) (macro_in t) (f ∷ fs) in
      let left : List Lexeme = drop (f.place + 1) (macro_in t f.number).body in
      let m : Macro = macro_in t i in
      rest_split f fs l e
      ∙ ap (λ (ls : List Lexeme). ls ++ rest_in (macros_in t) (macro_in t) fs) (expanded-replaced (macros_in t) is.distinct hidden l m left r)
      ∙ append_assoc (expanded (macros_in t) (m.name ∷ hidden) m.body) (expanded (macros_in t) hidden left) (rest_in (macros_in t) (macro_in t) fs)

  -- no name that is being replaced is one of an empty macro
  hides_none : (empty : List Macro) (fs : List Frame) → AreApart (macros_in t) (macro_in t) empty fs → (x : Macro) → HasMacro empty x
      → IsDefined (hidden_in (macros_in t) (macro_in t) fs) x.name → ⊥
  hides_none empty [] apart x h d = has_none x.name d
  hides_none empty (f ∷ fs) apart x h d =
      by (λ k. hides_none empty fs apart.2 x h k) (has_split (macro_in t f.number).name x.name (hidden_in (macros_in t) (macro_in t) fs) d)
    where
      by : (IsDefined (hidden_in (macros_in t) (macro_in t) fs) x.name → ⊥)
          → ((macro_in t f.number).name ≡ x.name) ⊎ IsDefined (hidden_in (macros_in t) (macro_in t) fs) x.name → ⊥
      by more (inl e) =
          let P : List ℕ → Type 0 = λ n. IsDefined (names_of empty) n in apart.1 (subst P (sym e) (name_of_has empty x h))
      by more (inr k) = more k

  rest_skipped : (marks : List Mark) (f : Frame) (fs : List Frame) (l : Lexeme) (i count : ℕ)
      → slice_get (macro_in t f.number).body f.place ≡ Some l → i < length (names_in t) → is_empty_at marks i ≡ true
      → Replaces (macros_in t) (hidden_in (macros_in t) (macro_in t) (f ∷ fs)) (macro_in t i) l
      → AreStanding (macros_in t) (macro_in t) (length (names_in t)) marks (f ∷ fs) count
      → rest_in (macros_in t) (macro_in t) (f ∷ fs) ≡ rest_in (macros_in t) (macro_in t) (stepped f ∷ fs)
  rest_skipped marks f fs l i count e inside empty r s =
      let hidden : List (List ℕ) = hidden_in (macros_in t) (macro_in t) (f ∷ fs) in
      let m : Macro = macro_in t i in
      rest_begun f fs l i count e r
      ∙ ap (λ (ls : List Lexeme). ls ++ rest_in (macros_in t) (macro_in t) (stepped f ∷ fs))
      (expanded-empty (macros_in t) is.distinct s.empty hidden m s.are_empty (hides_none s.empty (f ∷ fs) s.apart) (s.marked i inside empty))

  work_split : (f : Frame) (fs : List Frame) (l : Lexeme) → slice_get (macro_in t f.number).body f.place ≡ Some l
      → work_in (macros_in t) (macro_in t) (f ∷ fs)
      ≡ work (macros_in t) (hidden_in (macros_in t) (macro_in t) (f ∷ fs)) (l ∷ drop (f.place + 1) (macro_in t f.number).body)
      + work_in (macros_in t) (macro_in t) fs
  work_split f fs l e =
      let body : List Lexeme = (macro_in t f.number).body in
      let d : drop f.place body ≡ l ∷ drop (f.place + 1) body =
      drop_there body f.place l e ∙ ap (λ (n : ℕ). l ∷ drop n body) (sym (add-one f.place)) in
      ap (λ (ls : List Lexeme). work (macros_in t) (hidden_in (macros_in t) (macro_in t) (f ∷ fs)) ls + work_in (macros_in t) (macro_in t) fs) d

  work_stepped : (f : Frame) (fs : List Frame) (l : Lexeme) → slice_get (macro_in t f.number).body f.place ≡ Some l
      → work_in (macros_in t) (macro_in t) (stepped f ∷ fs) < work_in (macros_in t) (macro_in t) (f ∷ fs)
  work_stepped f fs l e =
      omega (
        arith,
        work_split f fs l e,
        work-falls (macros_in t) is.distinct (hidden_in (macros_in t) (macro_in t) (f ∷ fs)) l (drop (f.place + 1) (macro_in t f.number).body),
      )

  work_begun : (f : Frame) (fs : List Frame) (l : Lexeme) (i count : ℕ) → slice_get (macro_in t f.number).body f.place ≡ Some l
      → Replaces (macros_in t) (hidden_in (macros_in t) (macro_in t) (f ∷ fs)) (macro_in t i) l
      → work_in (macros_in t) (macro_in t) (record { number = i; place = 0; start = count } ∷ stepped f ∷ fs)
      < work_in (macros_in t) (macro_in t) (f ∷ fs)
  work_begun f fs l i count e r =
      omega (
        arith,
        work_split f fs l e,
        work-begins (macros_in t) is.distinct (hidden_in (macros_in t) (macro_in t) (f ∷ fs)) l (macro_in t i)
            (drop (f.place + 1) (macro_in t f.number).body) r,
      )

-- ---- a step

module _ (t : ATable) (is : IsTable t) (line : ℕ) (headers : Headers) (marks : List Mark) (out : List AToken)
    (sizes : length (names_in t) ≡ length marks) where
  -- the same, from the innermost frame on
  record Goes (fs fs' : List Frame) (marks' : List Mark) (out' : List AToken) : Type 0 where
    stand : AreStanding (macros_in t) (macro_in t) (length (names_in t)) marks' fs' (length out')
    left : out' ++ map (placed line headers) (rest_in (macros_in t) (macro_in t) fs')
        ≡ out ++ map (placed line headers) (rest_in (macros_in t) (macro_in t) fs)
    less : work_in (macros_in t) (macro_in t) fs' < work_in (macros_in t) (macro_in t) fs

  advances : (frames frames' fs fs' : List Frame) (marks' : List Mark) (out' : List AToken) → reverse frames ≡ fs
      → reverse frames' ≡ fs' → Goes fs fs' marks' out' → Advances t line headers frames out frames' marks' out'
  advances frames frames' fs fs' marks' out' a b g =
      let P : List Frame → Type 0 = λ x. Goes x fs' marks' out' in
      let Q : List Frame → Type 0 = λ x. Goes (reverse frames) x marks' out' in
      let h : Goes (reverse frames) (reverse frames') marks' out' = subst Q (sym b) (subst P (sym a) g) in
      record { stand = h.stand; left = h.left; less = h.less }

  -- ---- a macro has ended

  goes_ended : (f : Frame) (fs : List Frame) → slice_get (macro_in t f.number).body f.place ≡ None
      → AreStanding (macros_in t) (macro_in t) (length (names_in t)) marks (f ∷ fs) (length out)
      → Goes (f ∷ fs) fs (if f.start == length out then with_empty marks f.number else marks) out
  goes_ended f fs e s = record {
    stand = by (f.start == length out) refl;
    left =
        ap (λ (ls : List Lexeme). out ++ map (placed line headers) ls)
        (rest_ended t is f fs (drop_past (macro_in t f.number).body f.place e));
    less = work_ended t is f fs;
  }
    where
      no_clash : false ≡ true → ⊥
      no_clash h = cc

      by : (b : Bool) → (f.start == length out) ≡ b
          → AreStanding (macros_in t) (macro_in t) (length (names_in t)) (if b then with_empty marks f.number else marks) fs (length out)
      by true h =
          ended_empty (macros_in t) (macro_in t) (length (names_in t)) (λ i k. has_macro t i is k) is.one_each marks f fs (length out) sizes
          (eqb-true f.start (length out) h) (take_past (macro_in t f.number).body f.place e) s
      by false h =
          ended_some (macros_in t) (macro_in t) (length (names_in t)) (λ i k. has_macro t i is k) is.one_each marks f fs (length out)
          (λ same. no_clash (sym h ∙ eq-eqb f.start (length out) same)) s

  pub has_ended : (frames xs : List Frame) (f : Frame) → frames ≡ xs ++ f ∷ [] → slice_get (macro_in t f.number).body f.place ≡ None
      → Stand t marks frames (length out)
      → Advances t line headers frames out xs (if f.start == length out then with_empty marks f.number else marks) out
  has_ended frames xs f e none s =
      let turned : reverse frames ≡ f ∷ reverse xs = ap (λ (x : List Frame). reverse x) e ∙ reverse-snoc xs f in
      let P : List Frame → Type 0 = λ x. AreStanding (macros_in t) (macro_in t) (length (names_in t)) marks x (length out) in
      advances frames xs (f ∷ reverse xs) (reverse xs) (if f.start == length out then with_empty marks f.number else marks) out turned refl
      (goes_ended f (reverse xs) none (subst P turned s))

  -- ---- a token

  took : (f : Frame) (l : Lexeme) → slice_get (macro_in t f.number).body f.place ≡ Some l
      → take (f.place + 1) (macro_in t f.number).body ≡ take f.place (macro_in t f.number).body ++ l ∷ []
  took f l e =
      ap (λ (n : ℕ). take n (macro_in t f.number).body) (add-one f.place) ∙ take_there (macro_in t f.number).body f.place l e

  one_more : (l : Lexeme) (ls : List Lexeme)
      → (out ++ placed line headers l ∷ []) ++ map (placed line headers) ls ≡ out ++ map (placed line headers) (l ∷ ls)
  one_more l ls = append_assoc out (placed line headers l ∷ []) (map (placed line headers) ls)

  more_tokens : (l : Lexeme) → length out + 1 ≡ length (out ++ placed line headers l ∷ [])
  more_tokens l = omega (arith, length-append out (placed line headers l ∷ []))

  goes_to : (fs gs : List Frame) (ms : List Mark) (o : List AToken) (gs' : List Frame) (ms' : List Mark) (o' : List AToken)
      → gs' ≡ gs → ms' ≡ ms → o' ≡ o → Goes fs gs ms o → Goes fs gs' ms' o'
  goes_to fs gs ms o gs' ms' o' p q r g =
      let P : List Frame → Type 0 = λ x. Goes fs x ms' o' in
      let Q : List Mark → Type 0 = λ x. Goes fs gs x o' in
      let R : List AToken → Type 0 = λ x. Goes fs gs ms x in
      subst P (sym p) (subst Q (sym q) (subst R (sym r) g))

  -- the token before the pushed frame is replaced
  replaced_here : (f : Frame) (fs pushed : List Frame) (i : ℕ) (l : Lexeme) → reverse pushed ≡ stepped f ∷ fs
      → ReplacedBy t pushed i l → Replaces (macros_in t) (hidden_in (macros_in t) (macro_in t) (f ∷ fs)) (macro_in t i) l
  replaced_here f fs pushed i l turned r =
      let P : List Frame → Type 0 = λ x. Replaces (macros_in t) (hidden_in (macros_in t) (macro_in t) x) (macro_in t i) l in
      subst P turned r.1

  goes_next : (f : Frame) (fs : List Frame) (l : Lexeme) (next : Next) (pushed frames' : List Frame) (marks' : List Mark) (out' : List AToken)
      → slice_get (macro_in t f.number).body f.place ≡ Some l → reverse pushed ≡ stepped f ∷ fs
      → AreStanding (macros_in t) (macro_in t) (length (names_in t)) marks (f ∷ fs) (length out)
      → IsNext t marks pushed l next → IsAfter next (placed line headers l) pushed marks out frames' marks' out'
      → Goes (f ∷ fs) (reverse frames') marks' out'
  goes_next f fs l Keep pushed frames' marks' out' e turned s n a =
      let P : List Frame → Type 0 = λ x. (m : Macro) → Replaces (macros_in t) (hidden_in (macros_in t) (macro_in t) x) m l → ⊥ in
      let next : List AToken = out ++ placed line headers l ∷ [] in
      let Q : ℕ → Type 0 = λ x. AreStanding (macros_in t) (macro_in t) (length (names_in t)) marks (stepped f ∷ fs) x in
      let g : Goes (f ∷ fs) (stepped f ∷ fs) marks next = record {
        stand =
            subst Q (more_tokens l)
            (token_kept (macros_in t) (macro_in t) (length (names_in t)) (λ i k. has_macro t i is k) is.one_each marks f fs (length out) s);
        left =
            one_more l (rest_in (macros_in t) (macro_in t) (stepped f ∷ fs))
            ∙ ap (λ (ls : List Lexeme). out ++ map (placed line headers) ls) (sym (rest_kept t is f fs l e (subst P turned n)));
        less = work_stepped t is f fs l e;
      } in
      goes_to (f ∷ fs) (stepped f ∷ fs) marks next (reverse frames') marks' out' (ap (λ (x : List Frame). reverse x) a.0 ∙ turned) a.1 a.2 g
  goes_next f fs l Skip pushed frames' marks' out' e turned s n a =
      let r = replaced_here f fs pushed n.0 l turned n.1 in
      let more : take (f.place + 1) (macro_in t f.number).body ≡ take f.place (macro_in t f.number).body ++ l ∷ [] =
      took f l e in
      let g : Goes (f ∷ fs) (stepped f ∷ fs) marks out = record {
        stand =
            token_skipped (macros_in t) (macro_in t) (length (names_in t)) (λ i k. has_macro t i is k) is.one_each marks f fs (length out) n.0 l
            n.1.0 n.2 r.named more s;
        left =
            ap (λ (ls : List Lexeme). out ++ map (placed line headers) ls)
            (sym (rest_skipped t is marks f fs l n.0 (length out) e n.1.0 n.2 r s));
        less = work_stepped t is f fs l e;
      } in
      goes_to (f ∷ fs) (stepped f ∷ fs) marks out (reverse frames') marks' out' (ap (λ (x : List Frame). reverse x) a.0 ∙ turned) a.1 a.2 g
  goes_next f fs l (Begin i) pushed frames' marks' out' e turned s n a =
      let r = replaced_here f fs pushed i l turned n.0 in
      let g : Frame = record { number = i; place = 0; start = length out } in
      let now : List Frame = g ∷ stepped f ∷ fs in
      let set : List Mark = with_place marks i (length (stepped f ∷ fs)) in
      let h : Goes (f ∷ fs) now set out = record {
        stand =
            token_begun (macros_in t) (macro_in t) (length (names_in t)) (λ k h. has_macro t k is h) is.one_each marks f fs (length out) i l
            sizes n.0.0 n.1 r (took f l e) s;
        left =
            ap (λ (ls : List Lexeme). out ++ map (placed line headers) ls) (sym (rest_begun t is f fs l i (length out) e r));
        less = work_begun t is f fs l i (length out) e r;
      } in
      let long : length pushed ≡ length (stepped f ∷ fs) =
      sym (length-reverse pushed) ∙ ap (λ (x : List Frame). length x) turned in
      goes_to (f ∷ fs) now set out (reverse frames') marks' out'
      (ap (λ (x : List Frame). reverse x) a.0 ∙ reverse-snoc pushed g ∙ ap (λ (x : List Frame). g ∷ x) turned)
      (a.1 ∙ ap (λ (n : ℕ). with_place marks i n) long) a.2 h

  pub has_stepped : (frames xs pushed : List Frame) (f : Frame) (l : Lexeme) (next : Next) (frames' : List Frame) (marks' : List Mark)
      (out' : List AToken) → frames ≡ xs ++ f ∷ [] → pushed ≡ xs ++ stepped f ∷ []
      → slice_get (macro_in t f.number).body f.place ≡ Some l → Stand t marks frames (length out) → IsNext t marks pushed l next
      → IsAfter next (placed line headers l) pushed marks out frames' marks' out'
      → Advances t line headers frames out frames' marks' out'
  has_stepped frames xs pushed f l next frames' marks' out' e p there s n a =
      let turned : reverse frames ≡ f ∷ reverse xs = ap (λ (x : List Frame). reverse x) e ∙ reverse-snoc xs f in
      let again : reverse pushed ≡ stepped f ∷ reverse xs =
      ap (λ (x : List Frame). reverse x) p ∙ reverse-snoc xs (stepped f) in
      let P : List Frame → Type 0 = λ x. AreStanding (macros_in t) (macro_in t) (length (names_in t)) marks x (length out) in
      advances frames frames' (f ∷ reverse xs) (reverse frames') marks' out' turned refl
      (goes_next f (reverse xs) l next pushed frames' marks' out' there again (subst P turned s) n a)

  -- a token that stays is still left
  pub is_left : (frames xs pushed : List Frame) (f : Frame) (l : Lexeme) → frames ≡ xs ++ f ∷ [] → pushed ≡ xs ++ stepped f ∷ []
      → slice_get (macro_in t f.number).body f.place ≡ Some l → IsNext t marks pushed l Keep → 0 < length (rest_of t frames)
  is_left frames xs pushed f l e p there n =
      let turned : reverse frames ≡ f ∷ reverse xs = ap (λ (x : List Frame). reverse x) e ∙ reverse-snoc xs f in
      let again : reverse pushed ≡ stepped f ∷ reverse xs =
      ap (λ (x : List Frame). reverse x) p ∙ reverse-snoc xs (stepped f) in
      let P : List Frame → Type 0 = λ x. (m : Macro) → Replaces (macros_in t) (hidden_in (macros_in t) (macro_in t) x) m l → ⊥ in
      let kept : rest_in (macros_in t) (macro_in t) (f ∷ reverse xs) ≡ l ∷ rest_in (macros_in t) (macro_in t) (stepped f ∷ reverse xs) =
      rest_kept t is f (reverse xs) l there (subst P again n) in
      let long : length (rest_of t frames) ≡ suc (length (rest_in (macros_in t) (macro_in t) (stepped f ∷ reverse xs))) =
      ap (λ (x : List Frame). length (rest_in (macros_in t) (macro_in t) x)) turned ∙ ap (λ (x : List Lexeme). length x) kept in
      omega (arith, long)

-- ---- all steps

module _ (t : ATable) (is : IsTable t) (line : ℕ) (headers : Headers) (i : ℕ) (before : List AToken) where
  pub runs_first : (marks marks' : List Mark) (frames : List Frame) → length (names_in t) ≡ length marks → i < length (names_in t)
      → is_empty_at marks i ≡ false → Stand t marks [] 0 → length before ≤ most_tokens
      → frames ≡ record { number = i; place = 0; start = length before } ∷ [] → marks' ≡ with_place marks i 0
      → IsRunning t line headers i before frames marks' before
  runs_first marks marks' frames sizes inside empty s few e m =
      let g : Frame = record { number = i; place = 0; start = length before } in
      let P : List Frame → Type 0 = λ x. IsRunning t line headers i before x marks' before in
      let Q : List Mark → Type 0 = λ x. IsRunning t line headers i before (g ∷ []) x before in
      subst P (sym e)
      (subst Q (sym m)
      (record {
        stand =
            first_begun (macros_in t) (macro_in t) (length (names_in t)) (λ k h. has_macro t k is h) is.one_each marks (length before) i sizes
            inside empty s;
        left = ap (λ (ls : List Lexeme). before ++ map (placed line headers) ls) (append-nil (macro_becomes t i));
        few = few;
      }))

  pub runs_on : (frames frames' : List Frame) (marks marks' : List Mark) (out out' : List AToken)
      → IsRunning t line headers i before frames marks out → Advances t line headers frames out frames' marks' out'
      → (length out ≤ most_tokens → length out' ≤ most_tokens) → IsRunning t line headers i before frames' marks' out'
  runs_on frames frames' marks marks' out out' r a few =
      record { stand = a.stand; left = a.left ∙ r.left; few = few r.few }

  pub runs_out : (frames : List Frame) (marks : List Mark) (out : List AToken) → IsRunning t line headers i before frames marks out
      → frames ≡ [] → out ≡ before ++ map (placed line headers) (macro_becomes t i)
  runs_out frames marks out r e =
      sym (append-nil out) ∙ ap (λ (x : List Frame). out ++ map (placed line headers) (rest_of t x)) (sym e) ∙ r.left

  pub runs_over : (frames : List Frame) (marks : List Mark) (out : List AToken) → IsRunning t line headers i before frames marks out
      → most_tokens < length out + length (rest_of t frames) → most_tokens < length before + length (macro_becomes t i)
  runs_over frames marks out r over =
      let long : length out + length (rest_of t frames) ≡ length before + length (macro_becomes t i) =
      omega (
        arith,
        ap (λ (x : List AToken). length x) r.left,
        length-append out (map (placed line headers) (rest_of t frames)),
        length-append before (map (placed line headers) (macro_becomes t i)),
        length-map (rest_of t frames) (placed line headers),
        length-map (macro_becomes t i) (placed line headers),
      ) in
      rw (← long) over

  pub runs_rest : (frames : List Frame) (marks : List Mark) (out : List AToken) → IsRunning t line headers i before frames marks out
      → Stand t marks [] 0
  runs_rest frames marks out r =
      at_rest (macros_in t) (macro_in t) (length (names_in t)) (λ k h. has_macro t k is h) is.one_each marks (reverse frames) (length out)
      r.stand
