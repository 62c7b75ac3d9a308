-- Each statement, each function and the run of `main` keep how two rests stand to each other.
use Rattle.std.proofs.Common.{◌≡◌, ℕ, zero, suc, ◌+◌, ◌≤◌, Bool, true, false, List, [], ◌∷◌, map, sym, subst, arith}
use Rattle.std.specs.Prelude.{if◌then◌else◌, Option, None, Some, nat_eq, nat_le, pos}
use Rattle.am_base.specs.declared.traps.TrapCause.TheVariants.{CallDepth, DataStack}
use Rattle.rank_range.specs.Areas.{Memory}
use Rattle.rank_range.specs.Layout.{stack_start, range_bytes}
use Rattle.rank_range.specs.Kinds.{value_of}
use Rattle.rank_range.specs.declared.kinds.Kind.TheVariants as kind
use Rattle.rank_range.specs.declared.run.Segment.{Segment}
use Rattle.mpi_types.specs.declared.call.Answer.{Answer}
use Rattle.vm_code.specs.Memory.{copied, zeroed, address_of, stack_top, with_frame, with_arguments, cut_to}
use Rattle.vm_code.specs.Machine.{call_limit}
use Rattle.c_types.specs.declared.expression.FullExpr.{FullExpr}
use Rattle.c_types.specs.declared.statement.Stmt.{Stmt, map-Stmt}
use Rattle.c_types.specs.declared.statement.Stmt.TheOpen.{Stmt-F}
use Rattle.c_types.specs.declared.statement.Stmt.TheViews.{roll-Stmt}
use Rattle.c_types.specs.declared.statement.Stmt.TheFolds.{fold-roll-Stmt, ind-Stmt}
use Rattle.c_types.specs.declared.statement.Declared.{Declared}
use Rattle.c_types.specs.declared.statement.Span.{Span}
use Rattle.c_types.specs.declared.statement.Store.{Store}
use Rattle.c_types.specs.declared.statement.Stored.{Stored}
use Rattle.c_types.specs.declared.statement.Stored.TheVariants.{Number, Structure}
use Rattle.c_types.specs.declared.program.Program.{Program}
use Rattle.c_types.specs.declared.program.Body.{Body}
use Rattle.c_types.specs.declared.program.Main.{Main}
use Rattle.c_model.specs.Outcome.{Rest, Here}
use Rattle.c_model.specs.Run.{Surroundings}
use Rattle.c_model.specs.Statements.{Exits, Frame, Meaning, Acts, here_at, evaluated, evaluated_if, tested, without_labels, in_order, followed_by, in_order_from, either, mapped, turns, loop, loop_from, do_turns, do_loop, do_from, target, entered_at, switched, made_zero, put, stored_in_order, declared, all_declared, returned, acts_step, acts, statements, parameters_of, left_frame, exits_of, entered, body_of, called, place_in, main_words, parameter_count, main_run}
use Rattle.c_model.proofs.Extending.{Joins, lower, joins_end, joins_trap, joins_turn, joins_tick, joins_memory, joins_set, joins_writing, joins_if, joins_choice}
use Rattle.c_model.proofs.Valuing.{KeepsCalls, keeps_value, joins_store}

pub acts_roll : (x : Stmt-F Stmt) → acts (roll-Stmt x) ≡ acts_step (map-Stmt Stmt Acts acts x)
unfolding acts
acts_roll x = fold-roll-Stmt Acts acts_step x

-- where two statements go on that don't end at their ends
pub record JoinsExits (more : ℕ) (later : List Answer) (bound : ℕ) (e d : Exits) : Type 0 where
  pub on_break : Joins more later bound e.on_break d.on_break
  pub on_continue : Joins more later bound e.on_continue d.on_continue
  pub on_return : (x : ℕ) → Joins more later bound (e.on_return x) (d.on_return x)

pub record KeepsMeaning (more : ℕ) (later : List Answer) (m : Meaning) : Type 0 where
  pub by : (bound : ℕ) (f : Frame) (e d : Exits) (r s : Rest) → KeepsCalls more later f.around.calling → JoinsExits more later bound e d
      → Joins more later bound r s → Joins more later bound (m f e r) (m f d s)

abbrev pub KeepsIfAny : ℕ → List Answer → Option Meaning → Type 0
KeepsIfAny more later None = Unit {0}
KeepsIfAny more later (Some m) = KeepsMeaning more later m

pub record KeepsActs (more : ℕ) (later : List Answer) (a : Acts) : Type 0 where
  pub whole : KeepsMeaning more later a.whole
  pub from : (label : ℕ) → KeepsIfAny more later (a.from label)

-- a test and a step of a loop
pub record KeepsTest (more : ℕ) (later : List Answer) (test : Rest → Rest → Rest) : Type 0 where
  pub by : (bound : ℕ) (r s r' s' : Rest) → Joins more later bound r s → Joins more later bound r' s'
      → Joins more later bound (test r r') (test s s')

pub record KeepsStep (more : ℕ) (later : List Answer) (step : Rest → Rest) : Type 0 where
  pub by : (bound : ℕ) (r s : Rest) → Joins more later bound r s → Joins more later bound (step r) (step s)

module _ (more : ℕ) (later : List Answer) where
  lower_exits : (bound less : ℕ) (e d : Exits) → less ≤ bound → JoinsExits more later bound e d → JoinsExits more later less e d
  lower_exits bound less e d le j = record {
    on_break = lower more later bound less _ _ le j.on_break;
    on_continue = lower more later bound less _ _ le j.on_continue;
    on_return = λ x. lower more later bound less _ _ le (j.on_return x);
  }

  -- ---- full expressions

  keeps_evaluated : (full : FullExpr) (f : Frame) (line bound : ℕ) (r s : ℕ → Rest) → KeepsCalls more later f.around.calling
      → ((x : ℕ) → Joins more later bound (r x) (s x)) → Joins more later bound (evaluated full f line r) (evaluated full f line s)
  keeps_evaluated full f line bound r s calls j =
      (keeps_value more later full.expr).by bound f.around (here_at f line) r s calls j

  keeps_evaluated_if : (full : Option FullExpr) (f : Frame) (line : ℕ) → KeepsCalls more later f.around.calling
      → KeepsStep more later (evaluated_if full f line)
  keeps_evaluated_if None f line calls = record { by = λ bound r s j. j }
  keeps_evaluated_if (Some full) f line calls = record {
    by = λ bound r s j. keeps_evaluated full f line bound _ _ calls (λ x. j);
  }

  keeps_tested : (full : Option FullExpr) (f : Frame) (line : ℕ) → KeepsCalls more later f.around.calling
      → KeepsTest more later (tested full f line)
  keeps_tested None f line calls = record { by = λ bound r s r' s' j k. j }
  keeps_tested (Some full) f line calls = record {
    by = λ bound r s r' s' j k. keeps_evaluated full f line bound _ _ calls (λ x. joins_choice more later bound x r s r' s' j k);
  }

  no_step : KeepsStep more later (λ r. r)
  no_step = record { by = λ bound r s j. j }

  -- ---- loops

  loop_exits : (bound : ℕ) (e d : Exits) (r s again again' : Rest) → JoinsExits more later bound e d → Joins more later bound r s
      → Joins more later bound again again'
      → JoinsExits more later bound (record e { on_break = r; on_continue = again }) (record d { on_break = s; on_continue = again' })
  loop_exits bound e d r s again again' je j k = record { on_break = j; on_continue = k; on_return = je.on_return }

  -- So many turns of the first rest and of the second one, where these are as many as there may be ticks.
  joins_turns : (test : Rest → Rest → Rest) (body : Meaning) (step : Rest → Rest) (f : Frame) (e d : Exits) (r s : Rest)
      → KeepsTest more later test → KeepsMeaning more later body → KeepsStep more later step → KeepsCalls more later f.around.calling
      → (bound m n : ℕ) → bound ≤ m + more → bound ≤ n → JoinsExits more later bound e d → Joins more later bound r s
      → Joins more later bound (turns m test body step f e r) (turns n test body step f d s)
  joins_turns test body step f e d r s kt kb ks calls zero m n lm ln je j = record {
    sound = λ left answers done lt. absurd (omega (arith, lt));
    extends = λ left all answers done e lt. absurd (omega (arith, lt));
  }
  joins_turns test body step f e d r s kt kb ks calls (suc bound) m zero lm ln je j = absurd (omega (arith, ln))
  joins_turns test body step f e d r s kt kb ks calls (suc bound) (suc m) (suc n) lm ln je j =
      let je' = lower_exits (suc bound) bound e d (omega arith) je in
      let j' = lower more later (suc bound) bound r s (omega arith) j in
      let k = ks.by bound _ _ (joins_turns test body step f e d r s kt kb ks calls bound m n (omega (arith, lm)) (omega (arith, ln)) je' j') in
      joins_turn more later bound _ _ (kt.by bound _ _ _ _ (kb.by bound f _ _ _ _ calls (loop_exits bound e d r s _ _ je' j' k) k) j')
  joins_turns test body step f e d r s kt kb ks calls (suc bound) zero (suc n) lm ln je j =
      let je' = lower_exits (suc bound) bound e d (omega arith) je in
      let j' = lower more later (suc bound) bound r s (omega arith) j in
      let k = ks.by bound _ _ (joins_turns test body step f e d r s kt kb ks calls bound zero n (omega (arith, lm)) (omega (arith, ln)) je' j') in
      let whole = joins_turn more later bound _ _ (kt.by bound _ _ _ _ (kb.by bound f _ _ _ _ calls (loop_exits bound e d r s _ _ je' j' k) k) j') in
      record {
        sound = λ left answers done lt. whole.sound left answers done lt;
        extends = λ left all answers done is lt. absurd (omega (arith, is, lt, lm));
      }

  joins_loop : (test : Rest → Rest → Rest) (body : Meaning) (step : Rest → Rest) (f : Frame) (e d : Exits) (r s : Rest)
      → KeepsTest more later test → KeepsMeaning more later body → KeepsStep more later step → KeepsCalls more later f.around.calling
      → (bound : ℕ) → JoinsExits more later bound e d → Joins more later bound r s
      → Joins more later bound (loop test body step f e r) (loop test body step f d s)
  joins_loop test body step f e d r s kt kb ks calls bound je j = record {
    sound = λ left answers done lt.
        (joins_turns test body step f e d r s kt kb ks calls (suc left) (suc left) (suc left) (omega arith) (omega arith)
        (lower_exits bound (suc left) e d (omega (arith, lt)) je) (lower more later bound (suc left) r s (omega (arith, lt)) j)).sound left answers done (omega arith);
    extends = λ left all answers done is lt.
        (joins_turns test body step f e d r s kt kb ks calls (suc all) (suc left) (suc all) (omega (arith, is)) (omega arith)
        (lower_exits bound (suc all) e d (omega (arith, lt)) je) (lower more later bound (suc all) r s (omega (arith, lt)) j)).extends
        left all answers done is (omega arith);
  }

  joins_do_turns : (test : Rest → Rest → Rest) (body : Meaning) (f : Frame) (e d : Exits) (r s : Rest)
      → KeepsTest more later test → KeepsMeaning more later body → KeepsCalls more later f.around.calling
      → (bound m n : ℕ) → bound ≤ m + more → bound ≤ n → JoinsExits more later bound e d → Joins more later bound r s
      → Joins more later bound (do_turns m test body f e r) (do_turns n test body f d s)
  joins_do_turns test body f e d r s kt kb calls zero m n lm ln je j = record {
    sound = λ left answers done lt. absurd (omega (arith, lt));
    extends = λ left all answers done e lt. absurd (omega (arith, lt));
  }
  joins_do_turns test body f e d r s kt kb calls (suc bound) m zero lm ln je j = absurd (omega (arith, ln))
  joins_do_turns test body f e d r s kt kb calls (suc bound) (suc m) (suc n) lm ln je j =
      let je' = lower_exits (suc bound) bound e d (omega arith) je in
      let j' = lower more later (suc bound) bound r s (omega arith) j in
      let k = joins_turn more later bound _ _ (kt.by bound _ _ _ _
      (joins_do_turns test body f e d r s kt kb calls bound m n (omega (arith, lm)) (omega (arith, ln)) je' j') j') in
      kb.by (suc bound) f _ _ _ _ calls (loop_exits (suc bound) e d r s _ _ je j k) k
  joins_do_turns test body f e d r s kt kb calls (suc bound) zero (suc n) lm ln je j =
      let je' = lower_exits (suc bound) bound e d (omega arith) je in
      let j' = lower more later (suc bound) bound r s (omega arith) j in
      let k = joins_turn more later bound _ _ (kt.by bound _ _ _ _
      (joins_do_turns test body f e d r s kt kb calls bound zero n (omega (arith, lm)) (omega (arith, ln)) je' j') j') in
      let whole = kb.by (suc bound) f _ _ _ _ calls (loop_exits (suc bound) e d r s _ _ je j k) k in
      record {
        sound = λ left answers done lt. whole.sound left answers done lt;
        extends = λ left all answers done is lt. absurd (omega (arith, is, lt, lm));
      }

  joins_do : (test : Rest → Rest → Rest) (body : Meaning) (f : Frame) (e d : Exits) (r s : Rest)
      → KeepsTest more later test → KeepsMeaning more later body → KeepsCalls more later f.around.calling
      → (bound : ℕ) → JoinsExits more later bound e d → Joins more later bound r s
      → Joins more later bound (do_loop test body f e r) (do_loop test body f d s)
  joins_do test body f e d r s kt kb calls bound je j = record {
    sound = λ left answers done lt.
        (joins_do_turns test body f e d r s kt kb calls (suc left) (suc left) (suc left) (omega arith) (omega arith)
        (lower_exits bound (suc left) e d (omega (arith, lt)) je) (lower more later bound (suc left) r s (omega (arith, lt)) j)).sound left answers done (omega arith);
    extends = λ left all answers done is lt.
        (joins_do_turns test body f e d r s kt kb calls (suc all) (suc left) (suc all) (omega (arith, is)) (omega arith)
        (lower_exits bound (suc all) e d (omega (arith, lt)) je) (lower more later bound (suc all) r s (omega (arith, lt)) j)).extends
        left all answers done is (omega arith);
  }

  joins_loop_from : (test : Rest → Rest → Rest) (body entered : Meaning) (step : Rest → Rest) (f : Frame) (e d : Exits) (r s : Rest)
      → KeepsTest more later test → KeepsMeaning more later body → KeepsMeaning more later entered → KeepsStep more later step
      → KeepsCalls more later f.around.calling → (bound : ℕ) → JoinsExits more later bound e d → Joins more later bound r s
      → Joins more later bound (loop_from test body step entered f e r) (loop_from test body step entered f d s)
  joins_loop_from test body entered step f e d r s kt kb ke ks calls bound je j =
      let k = ks.by bound _ _ (joins_loop test body step f e d r s kt kb ks calls bound je j) in
      ke.by bound f _ _ _ _ calls (loop_exits bound e d r s _ _ je j k) k

  joins_do_from : (test : Rest → Rest → Rest) (body entered : Meaning) (f : Frame) (e d : Exits) (r s : Rest)
      → KeepsTest more later test → KeepsMeaning more later body → KeepsMeaning more later entered
      → KeepsCalls more later f.around.calling → (bound : ℕ) → JoinsExits more later bound e d → Joins more later bound r s
      → Joins more later bound (do_from test body entered f e r) (do_from test body entered f d s)
  joins_do_from test body entered f e d r s kt kb ke calls bound je j =
      let k = joins_tick more later bound _ _ (kt.by bound _ _ _ _ (joins_do test body f e d r s kt kb calls bound je j) j) in
      ke.by bound f _ _ _ _ calls (loop_exits bound e d r s _ _ je j k) k

  -- ---- initialised declarators

  joins_zero : (span : Option Span) (f : Frame) (here : Here) (bound : ℕ) (r s : Rest) → Joins more later bound r s
      → Joins more later bound (made_zero span f here r) (made_zero span f here s)
  joins_zero None f here bound r s j = j
  joins_zero (Some span) f here bound r s j =
      joins_memory more later bound _ _ (λ m. joins_writing more later bound (zeroed m (address_of m (f.start + span.offset)) span.size) here r s j)

  joins_put : (stored : Stored) (a word : ℕ) (here : Here) (bound : ℕ) (r s : Rest) → Joins more later bound r s
      → Joins more later bound (put stored a word here r) (put stored a word here s)
  joins_put (Number k) a word here bound r s j = joins_store more later bound k a word here r s j
  joins_put (Structure size) a word here bound r s j =
      joins_memory more later bound _ _ (λ m. joins_writing more later bound (copied m a word size) here r s j)

  joins_stores : (stores : List Store) (f : Frame) (line bound : ℕ) (r s : Rest) → KeepsCalls more later f.around.calling
      → Joins more later bound r s → Joins more later bound (stored_in_order stores f line r) (stored_in_order stores f line s)
  joins_stores [] f line bound r s calls j = j
  joins_stores (a ∷ stores) f line bound r s calls j =
      joins_memory more later bound _ _ (λ m. keeps_evaluated a.value f line bound _ _ calls (λ word.
      joins_put a.stored (address_of m (f.start + a.offset)) word (here_at f line) bound _ _ (joins_stores stores f line bound r s calls j)))

  joins_declared : (a : Declared) (f : Frame) (bound : ℕ) (r s : Rest) → KeepsCalls more later f.around.calling
      → Joins more later bound r s → Joins more later bound (declared a f r) (declared a f s)
  joins_declared a f bound r s calls j =
      joins_tick more later bound _ _ (joins_zero a.zeros f (here_at f a.line) bound _ _ (joins_stores a.stores f a.line bound r s calls j))

  joins_all_declared : (ds : List Declared) (f : Frame) (bound : ℕ) (r s : Rest) → KeepsCalls more later f.around.calling
      → Joins more later bound r s → Joins more later bound (all_declared ds f r) (all_declared ds f s)
  joins_all_declared [] f bound r s calls j = j
  joins_all_declared (a ∷ ds) f bound r s calls j = joins_declared a f bound _ _ calls (joins_all_declared ds f bound r s calls j)

  -- ---- labels

  keeps_either : (m n : Option Meaning) → KeepsIfAny more later m → KeepsIfAny more later n → KeepsIfAny more later (either m n)
  keeps_either None n km kn = kn
  keeps_either (Some m) n km kn = km

  keeps_mapped : (g : Meaning → Meaning) → ((m : Meaning) → KeepsMeaning more later m → KeepsMeaning more later (g m))
      → (m : Option Meaning) → KeepsIfAny more later m → KeepsIfAny more later (mapped g m)
  keeps_mapped g keeps None km = tt
  keeps_mapped g keeps (Some m) km = keeps m km

  keeps_bool : (b : Bool) (m n : Option Meaning) → KeepsIfAny more later m → KeepsIfAny more later n
      → KeepsIfAny more later (if b then m else n)
  keeps_bool true m n km kn = km
  keeps_bool false m n km kn = kn

  keeps_entered_at : (m : Option Meaning) → KeepsIfAny more later m → KeepsMeaning more later (entered_at m)
  keeps_entered_at None km = record { by = λ bound f e d r s calls je j. j }
  keeps_entered_at (Some m) km = record {
    by = λ bound f e d r s calls je j.
        km.by bound f _ _ r s calls (record { on_break = j; on_continue = je.on_continue; on_return = je.on_return }) j;
  }

  keeps_switched : (label : Option ℕ) (body : Acts) → KeepsActs more later body → KeepsMeaning more later (switched label body)
  keeps_switched None body kb = record { by = λ bound f e d r s calls je j. j }
  keeps_switched (Some label) body kb = keeps_entered_at (body.from label) (kb.from label)

  keeps_without : (m : Meaning) → KeepsMeaning more later m → KeepsActs more later (without_labels m)
  keeps_without m km = record { whole = km; from = λ label. tt }

  -- ---- statements

  abbrev Kept : Stmt → Type 0
  Kept s = KeepsActs more later (acts s)

  abbrev Known : Type 0
  Known = (s : Stmt) × Kept s

  abbrev acts_of : List Known → List Acts
  acts_of ss = map acts (map (λ p. p.0) ss)

  keeps_in_order : (ss : List Known) → KeepsMeaning more later (in_order (acts_of ss))
  keeps_in_order [] = record { by = λ bound f e d r s calls je j. j }
  keeps_in_order (a ∷ ss) = record {
    by = λ bound f e d r s calls je j. a.1.whole.by bound f e d _ _ calls je ((keeps_in_order ss).by bound f e d r s calls je j);
  }

  keeps_followed : (m : Option Meaning) (ss : List Known) (otherwise : Option Meaning) → KeepsIfAny more later m → KeepsIfAny more later otherwise
      → KeepsIfAny more later (followed_by m (acts_of ss) otherwise)
  keeps_followed None ss otherwise km ko = ko
  keeps_followed (Some m) ss otherwise km ko = record {
    by = λ bound f e d r s calls je j. km.by bound f e d _ _ calls je ((keeps_in_order ss).by bound f e d r s calls je j);
  }

  keeps_in_order_from : (ss : List Known) (label : ℕ) → KeepsIfAny more later (in_order_from (acts_of ss) label)
  keeps_in_order_from [] label = tt
  keeps_in_order_from (a ∷ ss) label = keeps_followed ((acts a.0).from label) ss _ (a.1.from label) (keeps_in_order_from ss label)

  joins_returned : (full : Option FullExpr) (f : Frame) (line bound : ℕ) (e d : Exits) → KeepsCalls more later f.around.calling
      → JoinsExits more later bound e d → Joins more later bound (returned full f line e) (returned full f line d)
  joins_returned None f line bound e d calls je = je.on_return 0
  joins_returned (Some full) f line bound e d calls je = keeps_evaluated full f line bound _ _ calls je.on_return

  abbrev closed : Stmt-F Known → Stmt-F Stmt
  closed y = map-Stmt Known Stmt (λ p. p.0) y

  layer : (y : Stmt-F Known) → KeepsActs more later (acts_step (map-Stmt Stmt Acts acts (closed y)))
  layer (Stmt-F.Empty line) = keeps_without _ (record { by = λ bound f e d r s calls je j. joins_tick more later bound r s j })
  layer (Stmt-F.Express line full) =
      keeps_without _ (record {
        by = λ bound f e d r s calls je j. joins_tick more later bound _ _ (keeps_evaluated full f line bound _ _ calls (λ x. j));
      })
  layer (Stmt-F.Declare a) = keeps_without _ (record { by = λ bound f e d r s calls je j. joins_declared a f bound r s calls j })
  layer (Stmt-F.Block ss) = record { whole = keeps_in_order ss; from = keeps_in_order_from ss }
  layer (Stmt-F.If line full a None) = record {
    whole = record {
      by = λ bound f e d r s calls je j.
          joins_tick more later bound _ _ (keeps_evaluated full f line bound _ _ calls (λ x.
          joins_choice more later bound x _ _ _ _ (a.1.whole.by bound f e d r s calls je j) j));
    };
    from = λ label. keeps_either ((acts a.0).from label) None (a.1.from label) tt;
  }
  layer (Stmt-F.If line full a (Some t)) = record {
    whole = record {
      by = λ bound f e d r s calls je j.
          joins_tick more later bound _ _ (keeps_evaluated full f line bound _ _ calls (λ x.
          joins_choice more later bound x _ _ _ _ (a.1.whole.by bound f e d r s calls je j) (t.1.whole.by bound f e d r s calls je j)));
    };
    from = λ label. keeps_either ((acts a.0).from label) ((acts t.0).from label) (a.1.from label) (t.1.from label);
  }
  layer (Stmt-F.While line full a) = record {
    whole = record {
      by = λ bound f e d r s calls je j.
          joins_tick more later bound _ _ (joins_loop _ _ _ f e d r s (keeps_tested (Some full) f line calls) a.1.whole no_step calls bound je j);
    };
    from = λ label. keeps_mapped _ (λ m km. record {
      by = λ bound f e d r s calls je j.
          joins_loop_from _ _ m _ f e d r s (keeps_tested (Some full) f line calls) a.1.whole km no_step calls bound je j;
    }) ((acts a.0).from label) (a.1.from label);
  }
  layer (Stmt-F.Do line a full) = record {
    whole = record {
      by = λ bound f e d r s calls je j.
          joins_tick more later bound _ _ (joins_do _ _ f e d r s (keeps_tested (Some full) f line calls) a.1.whole calls bound je j);
    };
    from = λ label. keeps_mapped _ (λ m km. record {
      by = λ bound f e d r s calls je j.
          joins_do_from _ _ m f e d r s (keeps_tested (Some full) f line calls) a.1.whole km calls bound je j;
    }) ((acts a.0).from label) (a.1.from label);
  }
  layer (Stmt-F.For line ds start test step a) = record {
    whole = record {
      by = λ bound f e d r s calls je j.
          joins_tick more later bound _ _ (joins_all_declared ds f bound _ _ calls ((keeps_evaluated_if start f line calls).by bound _ _
          (joins_loop _ _ _ f e d r s (keeps_tested test f line calls) a.1.whole (keeps_evaluated_if step f line calls) calls bound je j)));
    };
    from = λ label. keeps_mapped _ (λ m km. record {
      by = λ bound f e d r s calls je j.
          joins_loop_from _ _ m _ f e d r s (keeps_tested test f line calls) a.1.whole km (keeps_evaluated_if step f line calls) calls bound je j;
    }) ((acts a.0).from label) (a.1.from label);
  }
  layer (Stmt-F.Switch line full cases default a) =
      keeps_without _ (record {
        by = λ bound f e d r s calls je j.
            joins_tick more later bound _ _ (keeps_evaluated full f line bound _ _ calls (λ x.
            (keeps_switched (target cases default x) (acts a.0) a.1).by bound f e d r s calls je j));
      })
  layer (Stmt-F.Labelled number a) = record {
    whole = a.1.whole;
    from = λ label. keeps_bool (nat_eq label number) _ _ a.1.whole (a.1.from label);
  }
  layer (Stmt-F.Break line) = keeps_without _ (record { by = λ bound f e d r s calls je j. joins_tick more later bound _ _ je.on_break })
  layer (Stmt-F.Continue line) = keeps_without _ (record { by = λ bound f e d r s calls je j. joins_tick more later bound _ _ je.on_continue })
  layer (Stmt-F.Return line full) =
      keeps_without _ (record { by = λ bound f e d r s calls je j. joins_tick more later bound _ _ (joins_returned full f line bound e d calls je) })

  layers : (y : Stmt-F Known) → Kept (roll-Stmt (closed y))
  layers y = subst (KeepsActs more later) (sym (acts_roll (closed y))) (layer y)

  keeps_acts : (s : Stmt) → Kept s
  keeps_acts = ind-Stmt Kept (λ x y is. subst (λ z. Kept (roll-Stmt z)) is (layers y))

  -- ---- functions

  joins_statements : (ss : List Stmt) (f : Frame) (bound : ℕ) (e d : Exits) → KeepsCalls more later f.around.calling
      → JoinsExits more later bound e d → Joins more later bound (statements ss f e) (statements ss f d)
  joins_statements [] f bound e d calls je = je.on_return 0
  joins_statements (a ∷ ss) f bound e d calls je =
      (keeps_acts a).whole.by bound f e d _ _ calls je (joins_statements ss f bound e d calls je)

  joins_left : (top bound : ℕ) (r s : ℕ → Rest) → ((x : ℕ) → Joins more later bound (r x) (s x)) → (x : ℕ)
      → Joins more later bound (left_frame top r x) (left_frame top s x)
  joins_left top bound r s j x = joins_memory more later bound _ _ (λ m. joins_set more later bound (cut_to m top) (r x) (s x) (j x))

  joins_exits : (bound : ℕ) (r s : ℕ → Rest) → ((x : ℕ) → Joins more later bound (r x) (s x)) → JoinsExits more later bound (exits_of r) (exits_of s)
  joins_exits bound r s j = record { on_break = j 0; on_continue = j 0; on_return = j }

  joins_entered : (body : Option Body) (around : Surroundings) (words : List ℕ) (here : Here) (bound : ℕ) (r s : ℕ → Rest)
      → KeepsCalls more later around.calling → ((x : ℕ) → Joins more later bound (r x) (s x))
      → Joins more later bound (entered body around words here r) (entered body around words here s)
  joins_entered None around words here bound r s calls j = j 0
  joins_entered (Some body) around words here bound r s calls j =
      joins_memory more later bound _ _ (λ m.
      joins_if more later bound (nat_le (stack_top m + body.frame) range_bytes) _ _ _ _
      (joins_set more later bound (with_arguments (parameters_of body.parameters) words (stack_top m) (with_frame m body.frame)) _ _
      (joins_statements body.stmts (record { around = around; start = stack_top m; unit = body.unit }) bound _ _ calls
      (joins_exits bound _ _ (joins_left (stack_top m) bound r s j))))
      (joins_trap more later bound DataStack here))

  keeps_called : (program : Program) (object : ℕ → ℕ) (room : ℕ) → KeepsCalls more later (called program object room)
  keeps_called program object zero = record {
    by = λ bound number words here r s j. joins_tick more later bound _ _ (joins_trap more later bound CallDepth here);
  }
  keeps_called program object (suc room) = record {
    by = λ bound number words here r s j.
        joins_tick more later bound _ _ (joins_entered (body_of program number)
        (record { calling = called program object room; object = object }) words here bound r s (keeps_called program object room) j);
  }

  pub joins_main : (program : Program) (segment : Segment) (m : Memory) (main : Option Main) (bound : ℕ)
      → Joins more later bound (main_run program segment m main) (main_run program segment m main)
  joins_main program segment m None bound = joins_end more later bound (pos 0)
  joins_main program segment m (Some main) bound =
      (keeps_called program (place_in segment) call_limit).by bound main.function (main_words m (parameter_count program main.function))
      (record { frame = stack_start; unit = main.unit; line = main.line }) _ _ (λ word. joins_end more later bound (value_of kind.Int word))
