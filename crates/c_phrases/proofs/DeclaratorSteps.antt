-- One turn of each loop that reads parts of declarators.
use Rattle.std.specs.Result.{IsErrAnd}
use Rattle.std.proofs.lemmas.Result.{err_from_is_err_and}
use Rattle.std.proofs.Common.{Bool, Result, ◌≡◌, ℕ, zero, suc, ◌+◌, ◌-◌, ◌≤◌, ◌<◌, true, false, cond, Option, Ok, List, [], ◌∷◌, ◌++◌, length, sym, ap, ◌∙◌, subst, arith}
use Rattle.c_lex.specs.declared.token.Token.{Token}
use Rattle.c_lex.specs.declared.token.Mark.{Mark}
use Rattle.c_lex.specs.declared.token.Mark.TheVariants as mark
use Rattle.c_ast.specs.declared.words.Qualifier.{Qualifier}
use Rattle.c_ast.specs.declared.expression.Expr.{Expr}
use Rattle.c_ast.specs.declared.declaration.DirectSuffix.{DirectSuffix}
use Rattle.c_ast.specs.declared.declaration.DirectSuffix.TheVariants as suffix
use Rattle.c_ast.specs.declared.declaration.Param.{Param}
use Rattle.c_grammar.specs.declared.error.ParseError.{ParseError}
use Rattle.c_grammar.specs.declared.error.ParseError.TheVariants as error
use Rattle.c_grammar.specs.Names.{Names}
use Rattle.c_grammar.specs.Words.{number_of}
use Rattle.c_grammar.specs.Owns.{Own, settled}
use Rattle.c_grammar.specs.Reading.{State, FailsBy, Gives, Outcome, ◌>>=◌, sees_mark, tail, behind, here, expect_mark}
use Rattle.c_grammar.specs.ReadingDecl.{qualifiers, at_rest, pointers, size, parameter, parameters, function, suffixes, sizes, stars}
use Rattle.c_grammar.specs.Inner.{Inner}
use Rattle.c_grammar.proofs.Laws.{at_state}
use Rattle.c_grammar.proofs.Extends.{Extends, qualifiers_take}
use Rattle.c_grammar.proofs.DeclaratorFound.{ok_same}
use Rattle.c_grammar.proofs.DeclaratorRuns.{QualifiersFound, qualifiers_found, stars_end, pointers_end}

-- a test was whether this punctuator comes next
pub seen_so : (m : Mark) (ts : List Token) (b c : Bool) → b ≡ sees_mark m ts → b ≡ c → sees_mark m ts ≡ c
seen_so m ts b c h i = sym h ∙ i

-- ---- stars

pub stars_on : (count : ℕ) (ts us : List Token) (all : ℕ × List Token) → sees_mark mark.Star ts ≡ true → us ≡ tail ts
    → stars count ts ≡ all → stars (count + 1) us ≡ all
unfolding stars
stars_on count [] us all is same h = absurd cc
stars_on count (t ∷ ts) us all is same h =
    let e : count + 1 ≡ suc count = omega arith in
    ap (λ n. stars n us) e ∙ ap (stars (suc count)) same ∙ sym (ap (λ b. cond b (stars (suc count) ts) (count, t ∷ ts)) is) ∙ h

pub stars_done : (count : ℕ) (s start : State) → sees_mark mark.Star s.rest ≡ false → s.names ≡ start.names
    → stars count s.rest ≡ stars 0 start.rest
    → ◌≡◌ {A = Outcome (ℕ × State)} (Ok ((stars 0 start.rest).0, at_rest start (stars 0 start.rest).1)) (Ok (count, s))
stars_done count s start is same h =
    let e : stars 0 start.rest ≡ (count, s.rest) = sym h ∙ stars_end count s.rest is in
    ap (λ (x : ℕ × List Token). Ok (x.0, at_rest start x.1)) e ∙ ap (λ (ns : Names). Ok (count, at_state ns s.rest)) (sym same)

-- ---- pointers

-- qualifiers behind a star are read
pub record Turned (s t : State) (qs : List Qualifier) : Type 0 where
  pub found : qualifiers [] (tail s.rest) ≡ (qs, t.rest)
  pub same : t.names ≡ s.names
  pub shorter : length t.rest ≤ length (tail s.rest)

qualifiers_shorter : (ts : List Token) → length (qualifiers [] ts).1 ≤ length ts
qualifiers_shorter ts =
    let f : QualifiersFound 0 ts [] (qualifiers [] ts) = qualifiers_found 0 [] ts in
    let e : Extends [] [] ts (qualifiers [] ts).1 = qualifiers_take f.are in
    e.shrinks

turned : (s mid t : State) (qs : List Qualifier) → mid ≡ behind s
    → ◌≡◌ {A = Outcome (List Qualifier × State)} (Ok ((qualifiers [] mid.rest).0, at_rest mid (qualifiers [] mid.rest).1)) (Ok (qs, t))
    → Turned s t qs
turned s mid t qs same h =
    let there : mid.rest ≡ tail s.rest = ap (λ (x : State). x.rest) same in
    let names_are : mid.names ≡ s.names = ap (λ (x : State). x.names) same in
    let e : ((qualifiers [] mid.rest).0, at_rest mid (qualifiers [] mid.rest).1) ≡ (qs, t) = ok_same h in
    let first : (qualifiers [] mid.rest).0 ≡ qs = ap (λ (x : List Qualifier × State). x.0) e in
    let rest_is : (qualifiers [] mid.rest).1 ≡ t.rest = ap (λ (x : List Qualifier × State). x.1.rest) e in
    let all : qualifiers [] mid.rest ≡ (qs, t.rest) = ap (λ (q : List Qualifier). (q, (qualifiers [] mid.rest).1)) first ∙ ap (λ (r : List Token). (qs, r)) rest_is in
    let fewer : length (qualifiers [] mid.rest).1 ≤ length mid.rest = qualifiers_shorter mid.rest in
    record {
      found = ap (qualifiers []) (sym there) ∙ all;
      same = sym (ap (λ (x : List Qualifier × State). x.1.names) e) ∙ names_are;
      shorter = subst (λ (r : List Token). length r ≤ length (tail s.rest)) rest_is
          (subst (λ (r : List Token). length (qualifiers [] mid.rest).1 ≤ length r) there fewer);
    }

tail_shorter : (ts : List Token) → sees_mark mark.Star ts ≡ true → length (tail ts) < length ts
tail_shorter [] h = absurd cc
tail_shorter (t ∷ ts) h = omega arith

pub pointers_shorter : (s mid t : State) (qs : List Qualifier) → sees_mark mark.Star s.rest ≡ true → mid ≡ behind s
    → ◌≡◌ {A = Outcome (List Qualifier × State)} (Ok ((qualifiers [] mid.rest).0, at_rest mid (qualifiers [] mid.rest).1)) (Ok (qs, t))
    → length t.rest < length s.rest
pointers_shorter s mid t qs is same h =
    let r : Turned s t qs = turned s mid t qs same h in
    let fewer = tail_shorter s.rest is in
    omega (arith, r.shorter)

pointers_turn : (count : ℕ) (front all : List (List Qualifier)) (s t : State) (qs : List Qualifier) → sees_mark mark.Star s.rest ≡ true
    → length s.rest ≤ count → Turned s t qs → all ≡ front ++ qs ∷ []
    → pointers count front s ≡ pointers (count - 1) all t
unfolding pointers
pointers_turn zero front all s t qs is enough r same = absurd (let fewer = tail_shorter s.rest is in omega arith)
pointers_turn (suc count) front all s t qs is enough r same =
    let e : count ≡ suc count - 1 = omega arith in
    let x : List Qualifier × List Token = qualifiers [] (tail s.rest) in
    ap (λ b. cond b (pointers count (front ++ x.0 ∷ []) (at_rest s x.1)) (front, s)) is
    ∙ ap (λ (y : List Qualifier × List Token). pointers count (front ++ y.0 ∷ []) (at_rest s y.1)) r.found
    ∙ ap (λ (ns : Names). pointers count (front ++ qs ∷ []) (at_state ns t.rest)) (sym r.same)
    ∙ ap (λ (ps : List (List Qualifier)). pointers count ps t) (sym same)
    ∙ ap (λ n. pointers n all t) e

pub pointers_on : (count : ℕ) (front all : List (List Qualifier)) (s mid t : State) (qs : List Qualifier) (whole : List (List Qualifier) × State)
    → sees_mark mark.Star s.rest ≡ true → length s.rest ≤ count → mid ≡ behind s
    → ◌≡◌ {A = Outcome (List Qualifier × State)} (Ok ((qualifiers [] mid.rest).0, at_rest mid (qualifiers [] mid.rest).1)) (Ok (qs, t))
    → all ≡ front ++ qs ∷ [] → pointers count front s ≡ whole
    → (n : ℕ) × (length t.rest ≤ n) × (pointers n all t ≡ whole)
pointers_on count front all s mid t qs whole is enough same h more so_far =
    let r : Turned s t qs = turned s mid t qs same h in
    let fewer = pointers_shorter s mid t qs is same h in
    (count - 1, omega (arith, fewer), sym (pointers_turn count front all s t qs is enough r more) ∙ so_far)

pub pointers_done : (count : ℕ) (front : List (List Qualifier)) (s : State) (whole : List (List Qualifier) × State)
    → sees_mark mark.Star s.rest ≡ false → pointers count front s ≡ whole
    → ◌≡◌ {A = Outcome (List (List Qualifier) × State)} (Ok whole) (Ok (front, s))
pointers_done count front s whole is so_far =
    ap (λ (x : List (List Qualifier) × State). Ok x) (sym so_far ∙ pointers_end count front s.names s.rest is)

-- ---- sizes

pub sizes_on : (total now : ℕ) (inner : ℕ → Inner) (count : ℕ) (front all : List (Option Expr)) (s t : State) (found : Option Expr) (whole : Outcome (List (Option Expr) × State))
    → now ≡ total → 0 < count → sees_mark mark.OpenBracket s.rest ≡ true → size now (inner now) s ≡ Ok (found, t)
    → all ≡ front ++ found ∷ [] → sizes total (inner total) count front s ≡ whole
    → sizes total (inner total) (count - 1) all t ≡ whole
unfolding sizes
sizes_on total now inner zero front all s t found whole same some is h more so_far = absurd (omega arith)
sizes_on total now inner (suc count) front all s t found whole same some is h more so_far =
    let e : suc count - 1 ≡ count = omega arith in
    let there : size total (inner total) s ≡ Ok (found, t) = ap (λ n. size n (inner n) s) (sym same) ∙ h in
    ap (λ n. sizes total (inner total) n all t) e
    ∙ ap (λ (ss : List (Option Expr)). sizes total (inner total) count ss t) more
    ∙ sym (ap (λ o. o >>= λ x. sizes total (inner total) count (front ++ x.0 ∷ []) x.1) there)
    ∙ sym (ap (λ b. cond b (size total (inner total) s >>= λ x. sizes total (inner total) count (front ++ x.0 ∷ []) x.1) (Ok (front, s))) is)
    ∙ so_far

-- ---- what is passed on where a step fails

pub fails_then : {A B : Type 0} (e : ParseError) (o : Outcome A) (f : A → Outcome B) → FailsBy e o → FailsBy e (o >>= f)
fails_then error.Memory o f h = tt
fails_then (error.Unexpected token) o f h = ap (λ p. p >>= f) h
fails_then (error.TooNested token) o f h = ap (λ p. p >>= f) h

pub fails_along : {A : Type 0} (e : ParseError) (o p : Outcome A) → p ≡ o → FailsBy e o → FailsBy e p
fails_along error.Memory o p same h = tt
fails_along (error.Unexpected token) o p same h = same ∙ h
fails_along (error.TooNested token) o p same h = same ∙ h

pub passed_on : {X Y : Type 0} (view : X → Y) (result : Result X ParseError) (e : ParseError) (found : Outcome Y)
    → IsErrAnd result (λ y. y ≡ e) → FailsBy e found → Gives view result found
passed_on {X} {Y} view result e found err fails =
    let (x, is, same) = err_from_is_err_and result err in
    let f : FailsBy x found = subst (λ y. FailsBy y found) (sym same) fails in
    subst (λ r. Gives view r found) (sym is) f

-- ---- parameters

-- the reading of parameters behind one that was read
after_parameter : (total : ℕ) (inner : Inner) (count : ℕ) (front : List Param) (p : Param) (s : State) → Outcome (List Param × State)
after_parameter total inner count front p s =
    cond (sees_mark mark.Comma s.rest) (parameters total inner count (front ++ p ∷ []) (behind s))
    (expect_mark total mark.CloseParen s >>= λ s'. Ok (front ++ p ∷ [], s'))

parameters_turn : (total now : ℕ) (inner : ℕ → Inner) (count : ℕ) (front : List Param) (s mid : State) (p : Param) → now ≡ total → 0 < count
    → parameter now (inner now) s ≡ Ok (p, mid)
    → parameters total (inner total) count front s ≡ after_parameter total (inner total) (count - 1) front p mid
unfolding parameters after_parameter
parameters_turn total now inner zero front s mid p same some h = absurd (omega arith)
parameters_turn total now inner (suc count) front s mid p same some h =
    let e : count ≡ suc count - 1 = omega arith in
    let there : parameter total (inner total) s ≡ Ok (p, mid) = ap (λ n. parameter n (inner n) s) (sym same) ∙ h in
    let step : ℕ → Param × State → Outcome (List Param × State) = λ n x.
    cond (sees_mark mark.Comma x.1.rest) (parameters total (inner total) n (front ++ x.0 ∷ []) (behind x.1))
    (expect_mark total mark.CloseParen x.1 >>= λ s'. Ok (front ++ x.0 ∷ [], s')) in
    ap (λ o. o >>= step count) there ∙ ap (λ n. step n (p, mid)) e

pub parameters_on : (total now : ℕ) (inner : ℕ → Inner) (count : ℕ) (front all : List Param) (s mid t : State) (p : Param) (whole : Outcome (List Param × State))
    → now ≡ total → 0 < count → parameter now (inner now) s ≡ Ok (p, mid) → sees_mark mark.Comma mid.rest ≡ true → t ≡ behind mid
    → all ≡ front ++ p ∷ [] → parameters total (inner total) count front s ≡ whole
    → parameters total (inner total) (count - 1) all t ≡ whole
unfolding after_parameter
parameters_on total now inner count front all s mid t p whole same some h is on more so_far =
    ap (λ (ps : List Param). parameters total (inner total) (count - 1) ps t) more
    ∙ ap (parameters total (inner total) (count - 1) (front ++ p ∷ [])) on
    ∙ sym (ap (λ b. cond b (parameters total (inner total) (count - 1) (front ++ p ∷ []) (behind mid))
    (expect_mark total mark.CloseParen mid >>= λ s'. Ok (front ++ p ∷ [], s'))) is)
    ∙ sym (parameters_turn total now inner count front s mid p same some h)
    ∙ so_far

pub parameters_fail : (total now last : ℕ) (inner : ℕ → Inner) (count : ℕ) (front : List Param) (s mid : State) (p : Param) (e : ParseError) (whole : Outcome (List Param × State))
    → now ≡ total → last ≡ total → 0 < count → parameter now (inner now) s ≡ Ok (p, mid) → sees_mark mark.Comma mid.rest ≡ false
    → FailsBy e (expect_mark last mark.CloseParen mid) → parameters total (inner total) count front s ≡ whole → FailsBy e whole
unfolding after_parameter
parameters_fail total now last inner count front s mid p e whole same same' some h is fails so_far =
    let there : FailsBy e (expect_mark total mark.CloseParen mid) = subst (λ n. FailsBy e (expect_mark n mark.CloseParen mid)) same' fails in
    let ends : Outcome (List Param × State) = expect_mark total mark.CloseParen mid >>= λ s'. Ok (front ++ p ∷ [], s') in
    fails_along e ends whole
    (sym so_far ∙ parameters_turn total now inner count front s mid p same some h
    ∙ ap (λ b. cond b (parameters total (inner total) (count - 1) (front ++ p ∷ []) (behind mid)) ends) is)
    (fails_then e (expect_mark total mark.CloseParen mid) (λ s'. Ok (front ++ p ∷ [], s')) there)

-- ---- suffixes

-- names that are none settle as none
pub settled_so : (own own' : Own) (fresh : Names) → own' ≡ settled own fresh → fresh ≡ [] → own' ≡ settled own []
settled_so own own' fresh h none = h ∙ ap (settled own) none

pub suffixes_array_on : (total now room : ℕ) (inner : ℕ → Inner) (count at : ℕ) (own own' : Own) (front all : List DirectSuffix) (s t : State) (found : Option Expr)
    (whole : Outcome ((List DirectSuffix × Own) × State)) → now ≡ total → 0 < count → sees_mark mark.OpenBracket s.rest ≡ true
    → size now (inner now) s ≡ Ok (found, t) → own' ≡ settled own [] → at ≡ number_of now s.rest → all ≡ front ++ suffix.Array at found ∷ []
    → suffixes total room (inner total) count own front s ≡ whole
    → suffixes total room (inner total) (count - 1) own' all t ≡ whole
unfolding suffixes
suffixes_array_on total now room inner zero at own own' front all s t found whole same some is h settles here_is more so_far = absurd (omega arith)
suffixes_array_on total now room inner (suc count) at own own' front all s t found whole same some is h settles here_is more so_far =
    let e : suc count - 1 ≡ count = omega arith in
    let there : size total (inner total) s ≡ Ok (found, t) = ap (λ n. size n (inner n) s) (sym same) ∙ h in
    let at_is : at ≡ number_of total s.rest = here_is ∙ ap (λ n. number_of n s.rest) same in
    let step : Option Expr × State → Outcome ((List DirectSuffix × Own) × State) = λ x.
    suffixes total room (inner total) count (settled own []) (front ++ suffix.Array (here total s) x.0 ∷ []) x.1 in
    let others : Outcome ((List DirectSuffix × Own) × State) = cond (sees_mark mark.OpenParen s.rest)
    (function total room (inner total) own s >>= λ x. suffixes total room (inner total) count x.0.1 (front ++ x.0.0 ∷ []) x.1) (Ok ((front, own), s)) in
    ap (λ n. suffixes total room (inner total) n own' all t) e
    ∙ ap (λ o. suffixes total room (inner total) count o all t) settles
    ∙ ap (λ (ss : List DirectSuffix). suffixes total room (inner total) count (settled own []) ss t) (more ∙ ap (λ n. front ++ suffix.Array n found ∷ []) at_is)
    ∙ sym (ap (λ o. o >>= step) there)
    ∙ sym (ap (λ b. cond b (size total (inner total) s >>= step) others) is)
    ∙ so_far

suffixes_array_turn : (total now room : ℕ) (inner : ℕ → Inner) (count : ℕ) (own : Own) (front : List DirectSuffix) (s : State) → now ≡ total → 0 < count
    → sees_mark mark.OpenBracket s.rest ≡ true
    → suffixes total room (inner total) count own front s
    ≡ (size now (inner now) s
    >>= λ x. suffixes total room (inner total) (count - 1) (settled own []) (front ++ suffix.Array (here total s) x.0 ∷ []) x.1)
unfolding suffixes
suffixes_array_turn total now room inner zero own front s same some is = absurd (omega arith)
suffixes_array_turn total now room inner (suc count) own front s same some is =
    let e : count ≡ suc count - 1 = omega arith in
    let step : ℕ → Option Expr × State → Outcome ((List DirectSuffix × Own) × State) = λ n x.
    suffixes total room (inner total) n (settled own []) (front ++ suffix.Array (here total s) x.0 ∷ []) x.1 in
    let others : Outcome ((List DirectSuffix × Own) × State) = cond (sees_mark mark.OpenParen s.rest)
    (function total room (inner total) own s >>= λ x. suffixes total room (inner total) count x.0.1 (front ++ x.0.0 ∷ []) x.1) (Ok ((front, own), s)) in
    ap (λ b. cond b (size total (inner total) s >>= step count) others) is
    ∙ ap (λ n. size n (inner n) s >>= step count) (sym same)
    ∙ ap (λ n. size now (inner now) s >>= step n) e

pub suffixes_array_fail : (total now room : ℕ) (inner : ℕ → Inner) (count : ℕ) (own : Own) (front : List DirectSuffix) (s : State) (e : ParseError)
    (whole : Outcome ((List DirectSuffix × Own) × State)) → now ≡ total → 0 < count → sees_mark mark.OpenBracket s.rest ≡ true
    → FailsBy e (size now (inner now) s) → suffixes total room (inner total) count own front s ≡ whole → FailsBy e whole
suffixes_array_fail total now room inner count own front s e whole same some is fails so_far =
    fails_along e _ whole (sym so_far ∙ suffixes_array_turn total now room inner count own front s same some is)
    (fails_then e (size now (inner now) s)
    (λ x. suffixes total room (inner total) (count - 1) (settled own []) (front ++ suffix.Array (here total s) x.0 ∷ []) x.1) fails)

suffixes_function_turn : (total now room : ℕ) (inner : ℕ → Inner) (count : ℕ) (own : Own) (front : List DirectSuffix) (s : State) → now ≡ total → 0 < count
    → sees_mark mark.OpenBracket s.rest ≡ false → sees_mark mark.OpenParen s.rest ≡ true
    → suffixes total room (inner total) count own front s
    ≡ (function now room (inner now) own s >>= λ x. suffixes total room (inner total) (count - 1) x.0.1 (front ++ x.0.0 ∷ []) x.1)
unfolding suffixes
suffixes_function_turn total now room inner zero own front s same some no_array is = absurd (omega arith)
suffixes_function_turn total now room inner (suc count) own front s same some no_array is =
    let e : count ≡ suc count - 1 = omega arith in
    let step : ℕ → (DirectSuffix × Own) × State → Outcome ((List DirectSuffix × Own) × State) = λ n x.
    suffixes total room (inner total) n x.0.1 (front ++ x.0.0 ∷ []) x.1 in
    let others : Outcome ((List DirectSuffix × Own) × State) = cond (sees_mark mark.OpenParen s.rest) (function total room (inner total) own s >>= step count) (Ok ((front, own), s)) in
    ap (λ b. cond b (size total (inner total) s >>= λ x. suffixes total room (inner total) count (settled own []) (front ++ suffix.Array (here total s) x.0 ∷ []) x.1) others) no_array
    ∙ ap (λ b. cond b (function total room (inner total) own s >>= step count) (Ok ((front, own), s))) is
    ∙ ap (λ n. function n room (inner n) own s >>= step count) (sym same)
    ∙ ap (λ n. function now room (inner now) own s >>= step n) e

pub suffixes_function_on : (total now room : ℕ) (inner : ℕ → Inner) (count : ℕ) (own own' : Own) (front all : List DirectSuffix) (s t : State) (found : DirectSuffix)
    (whole : Outcome ((List DirectSuffix × Own) × State)) → now ≡ total → 0 < count → sees_mark mark.OpenBracket s.rest ≡ false → sees_mark mark.OpenParen s.rest ≡ true
    → function now room (inner now) own s ≡ Ok ((found, own'), t) → all ≡ front ++ found ∷ []
    → suffixes total room (inner total) count own front s ≡ whole
    → suffixes total room (inner total) (count - 1) own' all t ≡ whole
suffixes_function_on total now room inner count own own' front all s t found whole same some no_array is h more so_far =
    ap (λ (ss : List DirectSuffix). suffixes total room (inner total) (count - 1) own' ss t) more
    ∙ sym (ap (λ o. o >>= λ x. suffixes total room (inner total) (count - 1) x.0.1 (front ++ x.0.0 ∷ []) x.1) h)
    ∙ sym (suffixes_function_turn total now room inner count own front s same some no_array is)
    ∙ so_far

pub suffixes_function_fail : (total now room : ℕ) (inner : ℕ → Inner) (count : ℕ) (own : Own) (front : List DirectSuffix) (s : State) (e : ParseError)
    (whole : Outcome ((List DirectSuffix × Own) × State)) → now ≡ total → 0 < count → sees_mark mark.OpenBracket s.rest ≡ false → sees_mark mark.OpenParen s.rest ≡ true
    → FailsBy e (function now room (inner now) own s) → suffixes total room (inner total) count own front s ≡ whole → FailsBy e whole
suffixes_function_fail total now room inner count own front s e whole same some no_array is fails so_far =
    fails_along e _ whole (sym so_far ∙ suffixes_function_turn total now room inner count own front s same some no_array is)
    (fails_then e (function now room (inner now) own s) (λ x. suffixes total room (inner total) (count - 1) x.0.1 (front ++ x.0.0 ∷ []) x.1) fails)
