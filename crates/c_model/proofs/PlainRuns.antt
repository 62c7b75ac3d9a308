-- Each statement and each function agrees with the plain one, and so does a run.
use Rattle.std.proofs.Common.{◌≡◌, ℕ, zero, suc, ◌+◌, Bool, true, false, List, [], ◌∷◌, map, refl, sym, ◌∙◌, subst}
use Rattle.std.specs.Prelude.{if◌then◌else◌, Option, None, Some, nat_eq, nat_le}
use Rattle.am_base.specs.declared.traps.TrapCause.TheVariants.{CallDepth, DataStack}
use Rattle.rank_range.specs.Areas.{Memory}
use Rattle.rank_range.specs.Layout.{stack_start, range_bytes}
use Rattle.rank_range.specs.Kinds.{value_of}
use Rattle.rank_range.specs.declared.kinds.Kind.TheVariants as kind
use Rattle.rank_range.specs.declared.run.Segment.{Segment}
use Rattle.mpi_types.specs.declared.call.Answer.{Answer}
use Rattle.vm_code.specs.Memory.{opened, copied, zeroed, address_of, stack_top, with_frame, with_arguments, cut_to}
use Rattle.vm_code.specs.Machine.{call_limit}
use Rattle.vm_code.specs.Stops.{Ended, Done, nothing_done}
use Rattle.c_types.specs.declared.expression.FullExpr.{FullExpr}
use Rattle.c_types.specs.declared.statement.Stmt.{Stmt, map-Stmt}
use Rattle.c_types.specs.declared.statement.Stmt.TheOpen.{Stmt-F}
use Rattle.c_types.specs.declared.statement.Stmt.TheViews.{roll-Stmt}
use Rattle.c_types.specs.declared.statement.Stmt.TheFolds.{fold-roll-Stmt, ind-Stmt}
use Rattle.c_types.specs.declared.statement.Declared.{Declared}
use Rattle.c_types.specs.declared.statement.Span.{Span}
use Rattle.c_types.specs.declared.statement.Store.{Store}
use Rattle.c_types.specs.declared.statement.Stored.{Stored}
use Rattle.c_types.specs.declared.statement.Stored.TheVariants.{Number, Structure}
use Rattle.c_types.specs.declared.program.Program.{Program}
use Rattle.c_types.specs.declared.program.Body.{Body}
use Rattle.c_types.specs.declared.program.Main.{Main}
use Rattle.c_model.specs.Outcome.{Rest, Here, stops, traps, set_memory, writing, choose}
use Rattle.c_model.specs.Run.{Calling}
use Rattle.c_model.specs.Statements.{Exits, Frame, Meaning, Acts, here_at, evaluated, evaluated_if, tested, without_labels, in_order, followed_by, in_order_from, either, mapped, turns, loop, loop_from, do_turns, do_loop, do_from, target, entered_at, switched, made_zero, put, stored_in_order, declared, all_declared, returned, acts_step, acts, statements, parameters_of, left_frame, exits_of, entered, body_of, called, place_in, main_words, parameter_count, main_run, run_of}
use Rattle.c_model.specs.Plain as plain
use Rattle.c_model.specs.Plain.{Out, Gives, Halts, Plain, gives, halts, bind, Left, Falls, Breaks, Continues, Returns, holds, go_on, behind_body, behind_switch, result_of}
use Rattle.c_model.specs.Laws.{RunsArePlain}
use Rattle.c_model.proofs.Acting.{acts_roll}
use Rattle.c_model.proofs.Agreeing.{finish, Agrees, agrees_gives, agrees_stop, agrees_bind, agrees_tick, agrees_memory, agrees_set, agrees_writing, agrees_if, AgreesCalls, agrees_store, agrees_value}

plain_roll : (x : Stmt-F Stmt) → plain.acts (roll-Stmt x) ≡ plain.acts_step (map-Stmt Stmt plain.Acts plain.acts x)
unfolding plain.acts
plain_roll x = fold-roll-Stmt plain.Acts plain.acts_step x

-- ---- where a statement is left to

-- the exits that lead there
abbrev exits_by : (Left → Rest) → Exits
exits_by k = record { on_break = k Breaks; on_continue = k Continues; on_return = λ word. k (Returns word) }

abbrev behind : (Left → Rest) → Rest → Left → Rest
behind k next Falls = next
behind k next Breaks = k Breaks
behind k next Continues = k Continues
behind k next (Returns word) = k (Returns word)

abbrev in_loop : (Left → Rest) → Rest → Left → Rest
in_loop k again Falls = again
in_loop k again Breaks = k Falls
in_loop k again Continues = again
in_loop k again (Returns word) = k (Returns word)

abbrev in_switch : (Left → Rest) → Left → Rest
in_switch k Falls = k Falls
in_switch k Breaks = k Falls
in_switch k Continues = k Continues
in_switch k (Returns word) = k (Returns word)

abbrev in_function : (ℕ → Rest) → Rest → Left → Rest
in_function next rest Falls = rest
in_function next rest Breaks = next 0
in_function next rest Continues = next 0
in_function next rest (Returns word) = next word

agrees_behind : (next : (Left → Rest) → Rest) (q : Plain Left) → Agrees Left next q → (how : Left)
    → Agrees Left (λ k. behind k (next k) how) (go_on q how)
agrees_behind next q agrees Falls = record { by = agrees.by }
agrees_behind next q agrees Breaks = agrees_gives Left Breaks
agrees_behind next q agrees Continues = agrees_gives Left Continues
agrees_behind next q agrees (Returns word) = agrees_gives Left (Returns word)

agrees_in_loop : (again : (Left → Rest) → Rest) (q : Plain Left) → Agrees Left again q → (how : Left)
    → Agrees Left (λ k. in_loop k (again k) how) (behind_body q how)
agrees_in_loop again q agrees Falls = record { by = agrees.by }
agrees_in_loop again q agrees Breaks = agrees_gives Left Falls
agrees_in_loop again q agrees Continues = record { by = agrees.by }
agrees_in_loop again q agrees (Returns word) = agrees_gives Left (Returns word)

agrees_in_switch : (how : Left) → Agrees Left (λ k. in_switch k how) (behind_switch how)
agrees_in_switch Falls = agrees_gives Left Falls
agrees_in_switch Breaks = agrees_gives Left Falls
agrees_in_switch Continues = agrees_gives Left Continues
agrees_in_switch (Returns word) = agrees_gives Left (Returns word)

agrees_in_function : (rest : (ℕ → Rest) → Rest) (q : Plain ℕ) → Agrees ℕ rest q → (how : Left)
    → Agrees ℕ (λ next. in_function next (rest next) how) (result_of q how)
agrees_in_function rest q agrees Falls = record { by = agrees.by }
agrees_in_function rest q agrees Breaks = agrees_gives ℕ 0
agrees_in_function rest q agrees Continues = agrees_gives ℕ 0
agrees_in_function rest q agrees (Returns word) = agrees_gives ℕ word

chosen : (b : Bool) (next : Bool → Rest) (left : ℕ) (answers : List Answer) (done : Done)
    → (if b then next false else next true) left answers done ≡ next (if b then false else true) left answers done
chosen true next left answers done = refl
chosen false next left answers done = refl

agrees_holds : (x : ℕ) → Agrees Bool (λ next. choose x (next true) (next false)) (gives (holds x))
agrees_holds x = record { by = λ next left answers done. chosen (nat_eq x 0) next left answers done }

module _ (calling : Calling) (other : plain.Calling) (object : ℕ → ℕ) (calls : AgreesCalls calling other) (start unit : ℕ) where
  abbrev f : Frame
  f = record { around = record { calling = calling; object = object }; start = start; unit = unit }

  abbrev g : plain.Frame
  g = record { around = record { calling = other; object = object }; start = start; unit = unit }

  pub record SameMeaning (m : Meaning) (p : plain.Meaning) : Type 0 where
    pub by : Agrees Left (λ k. m f (exits_by k) (k Falls)) (p g)

  abbrev SameIfAny : Option Meaning → Option plain.Meaning → Type 0
  SameIfAny None None = Unit {0}
  SameIfAny None (Some p) = ⊥
  SameIfAny (Some m) None = ⊥
  SameIfAny (Some m) (Some p) = SameMeaning m p

  pub record SameActs (a : Acts) (p : plain.Acts) : Type 0 where
    pub whole : SameMeaning a.whole p.whole
    pub from : (label : ℕ) → SameIfAny (a.from label) (p.from label)

  -- ---- full expressions

  agrees_evaluated : (full : FullExpr) (line : ℕ) → Agrees ℕ (evaluated full f line) (plain.evaluated full g line)
  agrees_evaluated full line = agrees_value calling other object calls full.expr (here_at f line)

  agrees_evaluated_if : (full : Option FullExpr) (line : ℕ)
      → Agrees (Unit {0}) (λ next. evaluated_if full f line (next tt)) (plain.evaluated_if full g line)
  agrees_evaluated_if None line = agrees_gives (Unit {0}) tt
  agrees_evaluated_if (Some full) line =
      agrees_bind ℕ (Unit {0}) _ _ (λ x next. next tt) _ (agrees_evaluated full line) (λ x. agrees_gives (Unit {0}) tt)

  agrees_tested : (full : Option FullExpr) (line : ℕ)
      → Agrees Bool (λ next. tested full f line (next true) (next false)) (plain.tested full g line)
  agrees_tested None line = agrees_gives Bool true
  agrees_tested (Some full) line =
      agrees_bind ℕ Bool _ _ (λ x next. choose x (next true) (next false)) _ (agrees_evaluated full line) agrees_holds

  -- ---- loops

  agrees_body : (body : Meaning) (p : plain.Meaning) → SameMeaning body p → (again : (Left → Rest) → Rest) (q : Plain Left) → Agrees Left again q
      → Agrees Left (λ k. body f (record (exits_by k) { on_break = k Falls; on_continue = again k }) (again k)) (bind (p g) (behind_body q))
  agrees_body body p same again q agrees =
      agrees_bind Left Left (λ k. body f (exits_by k) (k Falls)) (p g) (λ how k. in_loop k (again k) how) (behind_body q) same.by
      (agrees_in_loop again q agrees)

  module _ (test : Rest → Rest → Rest) (t : Plain Bool) (body : Meaning) (p : plain.Meaning)
      (tests : Agrees Bool (λ next. test (next true) (next false)) t) (same : SameMeaning body p) where
    agrees_test : (v : (Left → Rest) → Rest) (q : Plain Left) → Agrees Left v q
        → Agrees Left (λ k. test (v k) (k Falls)) (bind t (λ b. if b then q else gives Falls))
    agrees_test v q agrees =
        agrees_bind Bool Left (λ next. test (next true) (next false)) t (λ b k. if b then v k else k Falls) (λ b. if b then q else gives Falls) tests
        (λ b. agrees_if Left b v (λ k. k Falls) q (gives Falls) agrees (agrees_gives Left Falls))

    agrees_turns : (step : Rest → Rest) (s : Plain (Unit {0})) → Agrees (Unit {0}) (λ next. step (next tt)) s → (n : ℕ)
        → Agrees Left (λ k. turns n test body step f (exits_by k) (k Falls)) (plain.turns n t (p g) s)
    agrees_turns step s steps zero = agrees_stop Left _
    agrees_turns step s steps (suc n) =
        let again = agrees_bind (Unit {0}) Left (λ next. step (next tt)) s (λ x k. turns n test body step f (exits_by k) (k Falls))
        (λ x. plain.turns n t (p g) s) steps (λ x. agrees_turns step s steps n) in
        agrees_tick Left _ _ (agrees_test _ _ (agrees_body body p same _ _ again))

    agrees_loop : (step : Rest → Rest) (s : Plain (Unit {0})) → Agrees (Unit {0}) (λ next. step (next tt)) s
        → Agrees Left (λ k. loop test body step f (exits_by k) (k Falls)) (plain.loop t (p g) s)
    agrees_loop step s steps = record {
      by = λ k left answers done. (agrees_turns step s steps (suc left)).by k left answers done;
    }

    agrees_loop_from : (step : Rest → Rest) (s : Plain (Unit {0})) → Agrees (Unit {0}) (λ next. step (next tt)) s
        → (m : Meaning) (q : plain.Meaning) → SameMeaning m q
        → Agrees Left (λ k. loop_from test body step m f (exits_by k) (k Falls)) (plain.loop_from t (p g) s (q g))
    agrees_loop_from step s steps m q within =
        agrees_body m q within _ _ (agrees_bind (Unit {0}) Left (λ next. step (next tt)) s (λ x k. loop test body step f (exits_by k) (k Falls))
        (λ x. plain.loop t (p g) s) steps (λ x. agrees_loop step s steps))

    agrees_do_turns : (n : ℕ) → Agrees Left (λ k. do_turns n test body f (exits_by k) (k Falls)) (plain.do_turns n t (p g))
    agrees_do_turns zero = agrees_stop Left _
    agrees_do_turns (suc n) = agrees_body body p same _ _ (agrees_tick Left _ _ (agrees_test _ _ (agrees_do_turns n)))

    agrees_do : Agrees Left (λ k. do_loop test body f (exits_by k) (k Falls)) (plain.do_loop t (p g))
    agrees_do = record { by = λ k left answers done. (agrees_do_turns (suc left)).by k left answers done }

    agrees_do_from : (m : Meaning) (q : plain.Meaning) → SameMeaning m q
        → Agrees Left (λ k. do_from test body m f (exits_by k) (k Falls)) (plain.do_from t (p g) (q g))
    agrees_do_from m q within = agrees_body m q within _ _ (agrees_tick Left _ _ (agrees_test _ _ agrees_do))

  no_step : Agrees (Unit {0}) (λ next. next tt) (gives tt)
  no_step = agrees_gives (Unit {0}) tt

  -- ---- initialised declarators

  agrees_zero : (span : Option Span) (here : Here) → Agrees (Unit {0}) (λ next. made_zero span f here (next tt)) (plain.made_zero span g here)
  agrees_zero None here = agrees_gives (Unit {0}) tt
  agrees_zero (Some span) here =
      agrees_memory (Unit {0}) (λ m next. writing (zeroed m (address_of m (start + span.offset)) span.size) here (next tt)) _
      (λ m. agrees_writing (zeroed m (address_of m (start + span.offset)) span.size) here)

  agrees_put : (stored : Stored) (a word : ℕ) (here : Here) → Agrees (Unit {0}) (λ next. put stored a word here (next tt)) (plain.put stored a word here)
  agrees_put (Number k) a word here = agrees_store calling other object calls k a word here
  agrees_put (Structure size) a word here =
      agrees_memory (Unit {0}) (λ m next. writing (copied m a word size) here (next tt)) _ (λ m. agrees_writing (copied m a word size) here)

  agrees_stores : (stores : List Store) (line : ℕ) → Agrees (Unit {0}) (λ next. stored_in_order stores f line (next tt)) (plain.stored_in_order stores g line)
  agrees_stores [] line = agrees_gives (Unit {0}) tt
  agrees_stores (a ∷ stores) line =
      agrees_memory (Unit {0}) (λ m next. evaluated a.value f line (λ word.
      put a.stored (address_of m (start + a.offset)) word (here_at f line) (stored_in_order stores f line (next tt)))) _
      (λ m. agrees_bind ℕ (Unit {0}) _ _
      (λ word next. put a.stored (address_of m (start + a.offset)) word (here_at f line) (stored_in_order stores f line (next tt))) _
      (agrees_evaluated a.value line)
      (λ word. agrees_bind (Unit {0}) (Unit {0}) (λ next. put a.stored (address_of m (start + a.offset)) word (here_at f line) (next tt)) _
      (λ x next. stored_in_order stores f line (next tt)) _ (agrees_put a.stored (address_of m (start + a.offset)) word (here_at f line))
      (λ x. agrees_stores stores line)))

  agrees_declared : (a : Declared) → Agrees (Unit {0}) (λ next. declared a f (next tt)) (plain.declared a g)
  agrees_declared a =
      agrees_tick (Unit {0}) _ _ (agrees_bind (Unit {0}) (Unit {0}) (λ next. made_zero a.zeros f (here_at f a.line) (next tt)) _
      (λ x next. stored_in_order a.stores f a.line (next tt)) _ (agrees_zero a.zeros (here_at f a.line)) (λ x. agrees_stores a.stores a.line))

  agrees_all_declared : (ds : List Declared) → Agrees (Unit {0}) (λ next. all_declared ds f (next tt)) (plain.all_declared ds g)
  agrees_all_declared [] = agrees_gives (Unit {0}) tt
  agrees_all_declared (a ∷ ds) =
      agrees_bind (Unit {0}) (Unit {0}) (λ next. declared a f (next tt)) _ (λ x next. all_declared ds f (next tt)) _ (agrees_declared a)
      (λ x. agrees_all_declared ds)

  -- ---- labels

  same_either : (m n : Option Meaning) (p q : Option plain.Meaning) → SameIfAny m p → SameIfAny n q → SameIfAny (either m n) (plain.first_of p q)
  same_either None n None q first second = second
  same_either None n (Some p) q first second = absurd first
  same_either (Some m) n None q first second = absurd first
  same_either (Some m) n (Some p) q first second = first

  same_mapped : (h : Meaning → Meaning) (j : plain.Meaning → plain.Meaning) → ((m : Meaning) (p : plain.Meaning) → SameMeaning m p → SameMeaning (h m) (j p))
      → (m : Option Meaning) (p : Option plain.Meaning) → SameIfAny m p → SameIfAny (mapped h m) (plain.mapped j p)
  same_mapped h j each None None same = tt
  same_mapped h j each None (Some p) same = absurd same
  same_mapped h j each (Some m) None same = absurd same
  same_mapped h j each (Some m) (Some p) same = each m p same

  same_bool : (b : Bool) (m n : Option Meaning) (p q : Option plain.Meaning) → SameIfAny m p → SameIfAny n q
      → SameIfAny (if b then m else n) (if b then p else q)
  same_bool true m n p q first second = first
  same_bool false m n p q first second = second

  same_entered_at : (m : Option Meaning) (p : Option plain.Meaning) → SameIfAny m p → SameMeaning (entered_at m) (plain.entered_at p)
  same_entered_at None None same = record { by = agrees_gives Left Falls }
  same_entered_at None (Some p) same = absurd same
  same_entered_at (Some m) None same = absurd same
  same_entered_at (Some m) (Some p) same = record {
    by = agrees_bind Left Left (λ k. m f (exits_by k) (k Falls)) (p g) (λ how k. in_switch k how) behind_switch same.by agrees_in_switch;
  }

  same_switched : (label : Option ℕ) (a : Acts) (p : plain.Acts) → SameActs a p → SameMeaning (switched label a) (plain.switched label p)
  same_switched None a p same = record { by = agrees_gives Left Falls }
  same_switched (Some label) a p same = record { by = (same_entered_at (a.from label) (p.from label) (same.from label)).by }

  same_without : (m : Meaning) (p : plain.Meaning) → SameMeaning m p → SameActs (without_labels m) (plain.without_labels p)
  same_without m p same = record { whole = same; from = λ label. tt }

  -- ---- statements

  abbrev Kept : Stmt → Type 0
  Kept s = SameActs (acts s) (plain.acts s)

  abbrev Known : Type 0
  Known = (s : Stmt) × Kept s

  abbrev acts_of : List Known → List Acts
  acts_of ss = map acts (map (λ p. p.0) ss)

  abbrev plain_of : List Known → List plain.Acts
  plain_of ss = map plain.acts (map (λ p. p.0) ss)

  same_behind : (m : Meaning) (p : plain.Meaning) → SameMeaning m p → (n : Meaning) (q : plain.Meaning) → SameMeaning n q
      → Agrees Left (λ k. m f (exits_by k) (n f (exits_by k) (k Falls))) (bind (p g) (go_on (q g)))
  same_behind m p first n q second =
      agrees_bind Left Left (λ k. m f (exits_by k) (k Falls)) (p g) (λ how k. behind k (n f (exits_by k) (k Falls)) how) (go_on (q g)) first.by
      (agrees_behind (λ k. n f (exits_by k) (k Falls)) (q g) second.by)

  same_in_order : (ss : List Known) → SameMeaning (in_order (acts_of ss)) (plain.in_order (plain_of ss))
  same_in_order [] = record { by = agrees_gives Left Falls }
  same_in_order (a ∷ ss) = record {
    by = same_behind (acts a.0).whole (plain.acts a.0).whole a.1.whole (in_order (acts_of ss)) (plain.in_order (plain_of ss)) (same_in_order ss);
  }

  same_followed : (m : Option Meaning) (p : Option plain.Meaning) (ss : List Known) (n : Option Meaning) (q : Option plain.Meaning)
      → SameIfAny m p → SameIfAny n q → SameIfAny (followed_by m (acts_of ss) n) (plain.followed_by p (plain_of ss) q)
  same_followed None None ss n q first second = second
  same_followed None (Some p) ss n q first second = absurd first
  same_followed (Some m) None ss n q first second = absurd first
  same_followed (Some m) (Some p) ss n q first second = record {
    by = same_behind m p first (in_order (acts_of ss)) (plain.in_order (plain_of ss)) (same_in_order ss);
  }

  same_in_order_from : (ss : List Known) (label : ℕ) → SameIfAny (in_order_from (acts_of ss) label) (plain.in_order_from (plain_of ss) label)
  same_in_order_from [] label = tt
  same_in_order_from (a ∷ ss) label =
      same_followed ((acts a.0).from label) ((plain.acts a.0).from label) ss _ _ (a.1.from label) (same_in_order_from ss label)

  agrees_returned : (full : Option FullExpr) (line : ℕ) → Agrees Left (λ k. returned full f line (exits_by k)) (plain.returned full g line)
  agrees_returned None line = agrees_gives Left (Returns 0)
  agrees_returned (Some full) line =
      agrees_bind ℕ Left _ _ (λ x k. k (Returns x)) _ (agrees_evaluated full line) (λ x. agrees_gives Left (Returns x))

  abbrev closed : Stmt-F Known → Stmt-F Stmt
  closed y = map-Stmt Known Stmt (λ p. p.0) y

  abbrev acts_valued : Stmt-F Known → Acts
  acts_valued y = acts_step (map-Stmt Stmt Acts acts (closed y))

  abbrev plain_valued : Stmt-F Known → plain.Acts
  plain_valued y = plain.acts_step (map-Stmt Stmt plain.Acts plain.acts (closed y))

  layer : (y : Stmt-F Known) → SameActs (acts_valued y) (plain_valued y)
  layer (Stmt-F.Empty line) = same_without _ _ (record { by = agrees_tick Left (λ k. k Falls) _ (agrees_gives Left Falls) })
  layer (Stmt-F.Express line full) =
      same_without _ _ (record {
        by = agrees_tick Left _ _ (agrees_bind ℕ Left _ _ (λ x k. k Falls) _ (agrees_evaluated full line) (λ x. agrees_gives Left Falls));
      })
  layer (Stmt-F.Declare a) =
      same_without _ _ (record {
        by = agrees_bind (Unit {0}) Left (λ next. declared a f (next tt)) _ (λ x k. k Falls) _ (agrees_declared a) (λ x. agrees_gives Left Falls);
      })
  layer (Stmt-F.Block ss) = record { whole = same_in_order ss; from = same_in_order_from ss }
  layer (Stmt-F.If line full a None) = record {
    whole = record {
      by = agrees_tick Left _ _ (agrees_bind ℕ Left _ _ (λ x k. choose x ((acts a.0).whole f (exits_by k) (k Falls)) (k Falls)) _ (agrees_evaluated full line)
          (λ x. agrees_if Left (nat_eq x 0) (λ k. k Falls) _ _ _ (agrees_gives Left Falls) a.1.whole.by));
    };
    from = λ label. same_either ((acts a.0).from label) None ((plain.acts a.0).from label) None (a.1.from label) tt;
  }
  layer (Stmt-F.If line full a (Some b)) = record {
    whole = record {
      by = agrees_tick Left _ _ (agrees_bind ℕ Left _ _
          (λ x k. choose x ((acts a.0).whole f (exits_by k) (k Falls)) ((acts b.0).whole f (exits_by k) (k Falls))) _ (agrees_evaluated full line)
          (λ x. agrees_if Left (nat_eq x 0) _ _ _ _ b.1.whole.by a.1.whole.by));
    };
    from = λ label.
        same_either ((acts a.0).from label) ((acts b.0).from label) ((plain.acts a.0).from label) ((plain.acts b.0).from label) (a.1.from label) (b.1.from label);
  }
  layer (Stmt-F.While line full a) = record {
    whole = record {
      by = agrees_tick Left _ _ (agrees_loop (tested (Some full) f line) _ (acts a.0).whole (plain.acts a.0).whole (agrees_tested (Some full) line) a.1.whole (λ r. r) _ no_step);
    };
    from = λ label. same_mapped _ _ (λ m p same. record {
      by = agrees_loop_from (tested (Some full) f line) _ (acts a.0).whole (plain.acts a.0).whole (agrees_tested (Some full) line) a.1.whole (λ r. r) _ no_step m p same;
    }) ((acts a.0).from label) ((plain.acts a.0).from label) (a.1.from label);
  }
  layer (Stmt-F.Do line a full) = record {
    whole = record {
      by = agrees_tick Left _ _ (agrees_do (tested (Some full) f line) _ (acts a.0).whole (plain.acts a.0).whole (agrees_tested (Some full) line) a.1.whole);
    };
    from = λ label. same_mapped _ _ (λ m p same. record {
      by = agrees_do_from (tested (Some full) f line) _ (acts a.0).whole (plain.acts a.0).whole (agrees_tested (Some full) line) a.1.whole m p same;
    }) ((acts a.0).from label) ((plain.acts a.0).from label) (a.1.from label);
  }
  layer (Stmt-F.For line ds first test step a) = record {
    whole = record {
      by = agrees_tick Left _ _ (agrees_bind (Unit {0}) Left (λ next. all_declared ds f (next tt)) _
          (λ x k. evaluated_if first f line (loop (tested test f line) (acts a.0).whole (evaluated_if step f line) f (exits_by k) (k Falls))) _
          (agrees_all_declared ds)
          (λ x. agrees_bind (Unit {0}) Left (λ next. evaluated_if first f line (next tt)) _
          (λ y k. loop (tested test f line) (acts a.0).whole (evaluated_if step f line) f (exits_by k) (k Falls)) _ (agrees_evaluated_if first line)
          (λ y. agrees_loop (tested test f line) _ (acts a.0).whole (plain.acts a.0).whole (agrees_tested test line) a.1.whole (evaluated_if step f line) _
          (agrees_evaluated_if step line))));
    };
    from = λ label. same_mapped _ _ (λ m p same. record {
      by = agrees_loop_from (tested test f line) _ (acts a.0).whole (plain.acts a.0).whole (agrees_tested test line) a.1.whole (evaluated_if step f line) _
          (agrees_evaluated_if step line) m p same;
    }) ((acts a.0).from label) ((plain.acts a.0).from label) (a.1.from label);
  }
  layer (Stmt-F.Switch line full cases default a) =
      same_without _ _ (record {
        by = agrees_tick Left _ _ (agrees_bind ℕ Left _ _ (λ x k. switched (target cases default x) (acts a.0) f (exits_by k) (k Falls)) _
            (agrees_evaluated full line) (λ x. (same_switched (target cases default x) (acts a.0) (plain.acts a.0) a.1).by));
      })
  layer (Stmt-F.Labelled number a) = record {
    whole = a.1.whole;
    from = λ label. same_bool (nat_eq label number) (Some (acts a.0).whole) ((acts a.0).from label) (Some (plain.acts a.0).whole) ((plain.acts a.0).from label)
        a.1.whole (a.1.from label);
  }
  layer (Stmt-F.Break line) = same_without _ _ (record { by = agrees_tick Left (λ k. k Breaks) _ (agrees_gives Left Breaks) })
  layer (Stmt-F.Continue line) = same_without _ _ (record { by = agrees_tick Left (λ k. k Continues) _ (agrees_gives Left Continues) })
  layer (Stmt-F.Return line full) = same_without _ _ (record { by = agrees_tick Left _ _ (agrees_returned full line) })

  layers : (y : Stmt-F Known) → Kept (roll-Stmt (closed y))
  layers y =
      subst (λ a. SameActs a (plain.acts (roll-Stmt (closed y)))) (sym (acts_roll (closed y)))
      (subst (SameActs (acts_valued y)) (sym (plain_roll (closed y))) (layer y))

  same_acts : (s : Stmt) → Kept s
  same_acts = ind-Stmt Kept (λ x y is. subst (λ z. Kept (roll-Stmt z)) is (layers y))

  pub agrees_statements : (ss : List Stmt) → Agrees ℕ (λ next. statements ss f (exits_of next)) (plain.statements ss g)
  agrees_statements [] = agrees_gives ℕ 0
  agrees_statements (a ∷ ss) =
      agrees_bind Left ℕ (λ k. (acts a).whole f (exits_by k) (k Falls)) _ (λ how next. in_function next (statements ss f (exits_of next)) how) _
      (same_acts a).whole.by (agrees_in_function (λ next. statements ss f (exits_of next)) (plain.statements ss g) (agrees_statements ss))

-- ---- functions

module _ (calling : Calling) (other : plain.Calling) (object : ℕ → ℕ) (calls : AgreesCalls calling other) where
  agrees_left : (top word : ℕ)
      → Agrees ℕ (λ next. left_frame top next word) (bind plain.memory (λ n. bind (plain.becomes (cut_to n top)) (λ y. gives word)))
  agrees_left top word =
      agrees_memory ℕ (λ n next. set_memory (cut_to n top) (next word)) _ (λ n. agrees_set ℕ (cut_to n top) (λ next. next word) _ (agrees_gives ℕ word))

  agrees_entered : (body : Option Body) (words : List ℕ) (here : Here)
      → Agrees ℕ (entered body (record { calling = calling; object = object }) words here)
      (plain.entered body (record { calling = other; object = object }) words here)
  agrees_entered None words here = agrees_gives ℕ 0
  agrees_entered (Some body) words here =
      agrees_memory ℕ (λ m next. if nat_le (stack_top m + body.frame) range_bytes
      then set_memory (with_arguments (parameters_of body.parameters) words (stack_top m) (with_frame m body.frame))
      (statements body.stmts (record { around = record { calling = calling; object = object }; start = stack_top m; unit = body.unit })
      (exits_of (left_frame (stack_top m) next)))
      else traps DataStack here) _
      (λ m. agrees_if ℕ (nat_le (stack_top m + body.frame) range_bytes) _ (λ next. traps DataStack here) _ _
      (agrees_set ℕ (with_arguments (parameters_of body.parameters) words (stack_top m) (with_frame m body.frame)) _ _
      (agrees_bind ℕ ℕ
      (λ next. statements body.stmts (record { around = record { calling = calling; object = object }; start = stack_top m; unit = body.unit }) (exits_of next)) _
      (λ word next. left_frame (stack_top m) next word) _
      (agrees_statements calling other object calls (stack_top m) body.unit body.stmts) (agrees_left (stack_top m))))
      (agrees_stop ℕ _))

agrees_called : (program : Program) (object : ℕ → ℕ) (room : ℕ) → AgreesCalls (called program object room) (plain.called program object room)
agrees_called program object zero = record {
  by = λ number words here. agrees_tick ℕ (λ next. traps CallDepth here) _ (agrees_stop ℕ _);
}
agrees_called program object (suc room) = record {
  by = λ number words here.
      agrees_tick ℕ _ _ (agrees_entered (called program object room) (plain.called program object room) object (agrees_called program object room)
      (body_of program number) words here);
}

finish_main : (o : Out ℕ) → finish o (λ word. stops (Ended (value_of kind.Int word))) ≡ plain.outcome_of o
finish_main (Gives word left answers done) = refl
finish_main (Halts outcome) = refl

main_plain : (program : Program) (segment : Segment) (m : Memory) (main : Option Main) (left : ℕ) (answers : List Answer) (done : Done)
    → main_run program segment m main left answers done ≡ plain.outcome_of (plain.main_run program segment m main left answers done)
main_plain program segment m None left answers done = refl
main_plain program segment m (Some main) left answers done =
    ((agrees_called program (place_in segment) call_limit).by main.function (main_words m (parameter_count program main.function))
    (record { frame = stack_start; unit = main.unit; line = main.line })).by (λ word. stops (Ended (value_of kind.Int word))) left answers done
    ∙ finish_main (plain.main_run program segment m (Some main) left answers done)

pub runs_plain : RunsArePlain
unfolding run_of plain.run_of
runs_plain program segment rank n answers =
    main_plain program segment (opened segment rank) program.main n answers (nothing_done (opened segment rank))
