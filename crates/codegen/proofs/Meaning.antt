-- Code that is laid out as a program's means the program.
use Rattle.std.proofs.Common.{◌≡◌, ◌⊎◌, inl, inr, ℕ, zero, suc, ◌+◌, ◌<◌, ◌≤◌, true, false, true≢false, List, [], ◌∷◌, map, length, take, reverse, refl, sym, ap, ◌∙◌, subst, arith}
use Rattle.std.specs.Prelude.{Option, None, Some, is_some, slice_get, nat_le}
use Rattle.std.specs.List.{flat_map, Contains}
use Rattle.std.proofs.lemmas.List.{append-nil}
use Rattle.std.proofs.lemmas.Bool.Decides.{leb_tells}
use Rattle.rank_range.specs.declared.run.Segment.{Segment}
use Rattle.rank_range.specs.Layout.{stack_start, globals_start}
use Rattle.mpi_types.specs.declared.call.Answer.{Answer}
use Rattle.vm_code.specs.declared.code.Code.{Code}
use Rattle.vm_code.specs.declared.code.Function.{Function as CodeFunction}
use Rattle.vm_code.specs.declared.instr.Instr.TheVariants as instr
use Rattle.vm_code.specs.Lines.{place_of}
use Rattle.vm_code.specs.Memory.{opened, address_of, stack_top}
use Rattle.vm_code.specs.Stops.{nothing_done}
use Rattle.vm_code.specs.Machine.{Frame as Caller, Stops, operand_limit, call_limit}
use Rattle.c_types.specs.declared.program.Program.{Program}
use Rattle.c_types.specs.declared.program.Function.{Function}
use Rattle.c_types.specs.declared.program.Body.{Body}
use Rattle.c_types.specs.declared.program.Main.{Main}
use Rattle.c_types.specs.Need.{Pending, pending_of, IsSimple}
use Rattle.c_model.specs.Outcome.{Here, Rest, tick}
use Rattle.c_model.specs.Run.{Calling, Surroundings}
use Rattle.c_model.specs.Statements.{called, entered, place_in, body_of, body_or_none, parameter_count, main_words, statements, exits_of, left_frame, run_of, main_run}
use Rattle.c_model.specs.Means.{Means, opening}
use Rattle.codegen.specs.Layout.{nothing, one, ◌then◌}
use Rattle.codegen.specs.Statements.{in_order_part, sizes_of, pieces_of, end_targets, body_part, body_size, function_part, function_size, functions_part, entry_at, entries_from, offset_in, program_part, IsCodeOf}
use Rattle.codegen.specs.Covered.{all_true, stmt_covered, is_defined, has_body, body_covered, function_covered, IsCovered}
use Rattle.codegen.proofs.Running.{Standing, Does, Told, at, onto, onto_is, fewer, does_push}
use Rattle.codegen.proofs.Measuring.{and_left, and_right}
use Rattle.codegen.proofs.Valuing.{DoesCalls}
use Rattle.codegen.proofs.Calling.{ended, inside, enters, stops_call, does_return, does_leave, does_deep}
use Rattle.codegen.proofs.Spanning.{Spans, Stands, spans_all, spans_one, spans_first}
use Rattle.codegen.proofs.Shaping.{Sized, spans_split, sized_none, sized_one, sized_then, sized_pieces}
use Rattle.codegen.proofs.Acting.{AllFit, frame_in}
use Rattle.codegen.proofs.Following.{does_statements}

-- where all of a simple program fit
all_fit : (ps : List Pending) → ((p : Pending) → Contains ps p → p.need ≤ operand_limit) → AllFit ps
all_fit [] fits = tt
all_fit (p ∷ ps) fits =
    (fits p (0, omega arith, refl), all_fit ps (λ q c. fits q (suc c.0, let lt = c.1 in omega (arith, lt), c.2)))

contained : {A : Type 0} (xs : List A) (k : ℕ) (x : A) → slice_get xs k ≡ Some x → Contains xs x
contained [] k x e = absurd (cc (e))
contained (y ∷ xs) zero x e = (0, omega arith, let same : y ≡ x = cc (e) in same)
contained (y ∷ xs) (suc k) x e = let c = contained xs k x e in (suc c.0, let lt = c.1 in omega (arith, lt), c.2)

fits_by : (limit n : ℕ) → ((limit < n) → ⊥) → ((nat_le n limit ≡ true) × (n ≤ limit)) ⊎ ((nat_le n limit ≡ false) × (limit < n)) → n ≤ limit
fits_by limit n not_past (inl x) = x.1
fits_by limit n not_past (inr x) = absurd (not_past x.1)

fits_in : (limit n : ℕ) → ((limit < n) → ⊥) → n ≤ limit
fits_in limit n not_past = fits_by limit n not_past (leb_tells n limit)

-- in a simple program all values that are pending in a body fit
body_fits : (program : Program) (number : ℕ) (function : Function) (body : Body) → IsSimple program
    → slice_get program.functions number ≡ Some function → function.body ≡ Some body → AllFit (flat_map pending_of body.stmts)
body_fits program number function body simple is body_is =
    all_fit (flat_map pending_of body.stmts) (λ p c. fits_in operand_limit p.need (λ past.
    simple (record { unit = body.unit; token = p.token }) (record {
      function = function;
      body = body;
      expr = p;
      in_program = contained program.functions number function is;
      body_is = body_is;
      in_body = c;
      past = past;
      at_is = refl;
    })))

module _ (object : ℕ → ℕ) where
  pub sized_body : (body : Body) → Sized (body_part object body) (body_size object body)
  sized_body body = record {
    by = λ place.
        let end = place + sizes_of (pieces_of object body) in
        let rest = sized_then (one (instr.Push 0)) (one instr.Return) 1 1 (sized_one _) (sized_one _) in
        (sized_then (in_order_part (pieces_of object body) (end_targets end)) _ (sizes_of (pieces_of object body)) 2
        (sized_pieces (record { unit = body.unit; object = object }) body.stmts (end_targets end)) rest).by place;
  }

  sized_if : (o : Option Body) → Sized (elim o [ None ↦ nothing | Some body ↦ body_part object body ]) (elim o [ None ↦ 0 | Some body ↦ body_size object body ])
  sized_if None = sized_none
  sized_if (Some body) = sized_body body

  pub sized_function : (f : Function) → Sized (function_part object f) (function_size object f)
  sized_function f = sized_if f.body

  -- where a function stands in the code
  pub found : (code : Code) (fs : List Function) (place end number : ℕ) (f : Function) → slice_get fs number ≡ Some f
      → Spans (Stands code) place (functions_part object fs) end
      → (first : ℕ) × (slice_get (entries_from object place fs) number ≡ Some (entry_at first f.body)) × (after : ℕ) × Spans (Stands code) first (function_part object f) after
  found code [] place end number f e sp = absurd (cc (e))
  found code (g ∷ fs) place end zero f e sp =
      let same : g ≡ f = cc (e) in
      let parts = spans_split (Stands code) place end (function_size object g) (function_part object g) (functions_part object fs) (sized_function g) sp in (
        place,
        ap (λ h. Some (entry_at place h.body)) same,
        place + function_size object g,
        subst (λ h. Spans (Stands code) place (function_part object h) (place + function_size object g)) same parts.0,
      )
  found code (g ∷ fs) place end (suc number) f e sp =
      let parts = spans_split (Stands code) place end (function_size object g) (function_part object g) (functions_part object fs) (sized_function g) sp in
      found code fs (place + function_size object g) end number f e parts.1

  -- the body of a function, which leaves so
  does_body : (fs : List Function) (code : Code) (s : Standing) (calling : Calling) → DoesCalls fs code s calling → (body : Body) (place after most : ℕ)
      (leave : ℕ → Rest) → ((x q : ℕ) → slice_get code.instrs q ≡ Some instr.Return → Does code s q (x ∷ []) most (leave x))
      → all_true (map (stmt_covered fs) body.stmts) ≡ true → AllFit (flat_map pending_of body.stmts) → Spans (Stands code) place (body_part object body) after
      → Does code s place [] most (statements body.stmts (frame_in s calling object body.unit) (exits_of leave))
  does_body fs code s calling calls body place after most leave leaves covered fits sp =
      let end = place + sizes_of (pieces_of object body) in
      let all = in_order_part (pieces_of object body) (end_targets end) in
      let sp' : Spans (Stands code) place (all then one (instr.Push 0) then one instr.Return) after = record { instrs = sp.instrs; after_is = sp.after_is } in
      let parts = spans_split (Stands code) place after (sizes_of (pieces_of object body)) all _
      (sized_pieces (record { unit = body.unit; object = object }) body.stmts (end_targets end)) sp' in
      let push = spans_first (Stands code) end after (instr.Push 0) (one instr.Return) parts.1 in
      let last = spans_one (Stands code) (end + 1) after instr.Return push.1 in
      let at_end : Does code s end [] most (leave 0) =
      does_push code s 0 end [] most _ push.0 (omega arith) (leaves 0 (end + 1) last.0) in
      does_statements fs code s calling calls object body.unit body.stmts covered fits place end most (end_targets end) _ parts.0
      (record { on_break = at_end; on_continue = at_end; on_return = leaves }) at_end

-- ---- calls

-- a function with a body
record HasBody (fs : List Function) (number : ℕ) : Type 0 where
  pub function : Function
  pub body : Body
  pub function_is : slice_get fs number ≡ Some function
  pub body_is : function.body ≡ Some body

body_there : (fs : List Function) (number : ℕ) → has_body fs number ≡ true → HasBody fs number
body_there fs number e = by (slice_get fs number) refl e
  where
    by_body : (f : Function) (o : Option Body) → slice_get fs number ≡ Some f → f.body ≡ o → is_some o ≡ true → HasBody fs number
    by_body f None is none e = absurd (true≢false (sym e))
    by_body f (Some body) is some e = record { function = f; body = body; function_is = is; body_is = some }

    by : (o : Option Function) → slice_get fs number ≡ o → is_defined o ≡ true → HasBody fs number
    by None is e = absurd (true≢false (sym e))
    by (Some f) is e = by_body f f.body is refl e

body_at : (fs : List Function) (f : Function) (body : Body) → f.body ≡ Some body → function_covered fs f ≡ true → all_true (map (stmt_covered fs) body.stmts) ≡ true
body_at fs f body is covered = ap (body_covered fs) (sym is) ∙ covered

each_covered : (fs gs : List Function) (number : ℕ) (f : Function) → all_true (map (function_covered fs) gs) ≡ true → slice_get gs number ≡ Some f
    → function_covered fs f ≡ true
each_covered fs [] number f all e = absurd (cc (e))
each_covered fs (g ∷ gs) zero f all e =
    let same : g ≡ f = cc (e) in
    ap (function_covered fs) (sym same) ∙ and_left (function_covered fs g) (all_true (map (function_covered fs) gs)) all
each_covered fs (g ∷ gs) (suc number) f all e =
    each_covered fs gs number f (and_right (function_covered fs g) (all_true (map (function_covered fs) gs)) all) e

-- Code in which the functions of a covered program stand.
record Laid (code : Code) (program : Program) (segment : Segment) : Type 0 where
  pub end : ℕ
  pub functions : code.functions ≡ entries_from (offset_in segment) 1 program.functions
  pub spans : Spans (Stands code) 1 (functions_part (offset_in segment) program.functions) end
  pub covered : all_true (map (function_covered program.functions) program.functions) ≡ true
  pub simple : IsSimple program

-- a function in that code
record Entry (code : Code) (program : Program) (segment : Segment) (number : ℕ) : Type 0 where
  pub body : Body
  pub place : ℕ
  pub after : ℕ
  pub entry_is : slice_get code.functions number ≡ Some (entry_at place (Some body))
  pub body_is : body_of program number ≡ Some body
  pub covered : all_true (map (stmt_covered program.functions) body.stmts) ≡ true
  pub fits : AllFit (flat_map pending_of body.stmts)
  pub spans : Spans (Stands code) place (body_part (offset_in segment) body) after

entry_of : (code : Code) (program : Program) (segment : Segment) (number : ℕ) → Laid code program segment → HasBody program.functions number
    → Entry code program segment number
entry_of code program segment number laid has =
    let object = offset_in segment in
    let there = found object code program.functions 1 laid.end number has.function has.function_is laid.spans in
    record {
      body = has.body;
      place = there.0;
      after = there.2;
      entry_is = ap (λ fs. slice_get fs number) laid.functions ∙ there.1 ∙ ap (λ b. Some (entry_at there.0 b)) has.body_is;
      body_is = ap (λ o. elim o [ None ↦ None | Some function ↦ Some (body_or_none function.body) ]) has.function_is
          ∙ ap (λ b. Some (body_or_none b)) has.body_is;
      covered = body_at program.functions has.function has.body has.body_is
          (each_covered program.functions program.functions number has.function laid.covered has.function_is);
      fits = body_fits program number has.function has.body laid.simple has.function_is has.body_is;
      spans = subst (λ o. Spans (Stands code) there.0 (elim o [ None ↦ nothing | Some b ↦ body_part object b ]) there.2) has.body_is there.3;
    }

-- the statements of a function that is called, where its frame begins there
abbrev runs_body : Program → Segment → ℕ → Body → (ℕ → Rest) → ℕ → Rest
runs_body program segment room body next top =
    statements body.stmts
    (record { around = record { calling = called program (place_in segment) room; object = place_in segment }; start = top; unit = body.unit })
    (exits_of (left_frame top next))

module _ (code : Code) (program : Program) (segment : Segment) (laid : Laid code program segment) where
  -- a call of this function, where so many more may wait
  does_call : (room : ℕ) (s : Standing) (caller : Caller) (callers : List Caller) → s.callers ≡ caller ∷ callers → length s.callers + suc room ≡ call_limit
      → ((s' : Standing) (caller' : Caller) (callers' : List Caller) → s'.callers ≡ caller' ∷ callers' → length s'.callers + room ≡ call_limit
      → DoesCalls program.functions code s' (called program (place_in segment) room))
      → (number : ℕ) (entry : Entry code program segment number) (words : List ℕ) (place : ℕ) (stack : List ℕ) (most : ℕ) (here : Here) (next : ℕ → Rest)
      → slice_get code.instrs place ≡ Some (instr.Call number (length words)) → Told code place here → length stack < operand_limit
      → ((x : ℕ) → Does code s (place + 1) (x ∷ stack) most (next x))
      → Does code s place (onto words stack) most
      (enters code s (entry_at entry.place (Some entry.body)) words here (runs_body program segment room entry.body next))
  does_call room s caller callers callers_are deep calls number entry words place stack most here next is told fits d = record {
    by = λ n answers done le top.
        let function : CodeFunction = entry_at entry.place (Some entry.body) in
        let m = done.memory in
        let inner = inside code s function place stack (stack_top m) in
        let waiting : Caller = record { back = s.back; start = s.start; finish = s.finish; operands = stack } in
        let shallow : length s.callers < call_limit = omega (arith, deep) in
        let depth : length inner.callers + room ≡ call_limit = omega (arith, deep) in
        stops_call code s number function words place stack here (runs_body program segment room entry.body next) is entry.entry_is told shallow n answers done
        (λ less lt.
        does_body (offset_in segment) program.functions code inner (called program (place_in segment) room) (calls inner waiting s.callers refl depth)
        entry.body entry.place entry.after less (left_frame (stack_top m) next)
        (λ x q returns.
        let back : Does code s (place + 1) (x ∷ stack) less (next x) = fewer code s (place + 1) (x ∷ stack) most less (next x) (omega (arith, le, lt)) (d x) in
        let B : List Caller → Type 0 = λ cs.
        Does code (record { back = s.back; start = s.start; finish = s.finish; callers = cs }) (place + 1) (x ∷ stack) less (next x) in
        let L : ℕ → Type 0 = λ k. Does code inner q (x ∷ []) less (left_frame k next x) in
        subst L (sym top)
        (does_leave code inner waiting caller callers x q [] less next (ap (λ cs. waiting ∷ cs) callers_are) returns
        (omega (arith, top)) (omega (arith, top)) fits (subst B callers_are back)))
        entry.covered entry.fits entry.spans);
  }

  calls_do : (room : ℕ) (s : Standing) (caller : Caller) (callers : List Caller) → s.callers ≡ caller ∷ callers → length s.callers + room ≡ call_limit
      → DoesCalls program.functions code s (called program (place_in segment) room)
  calls_do zero s caller callers callers_are deep number words place stack most here next has is told fits d =
      let entry = entry_of code program segment number laid (body_there program.functions number has) in
      does_deep code s number words place stack most here (entry_at entry.place (Some entry.body)) is entry.entry_is told (omega (arith, deep))
  calls_do (suc room) s caller callers callers_are deep number words place stack most here next has is told fits d =
      let entry = entry_of code program segment number laid (body_there program.functions number has) in
      let around : Surroundings = record { calling = called program (place_in segment) room; object = place_in segment } in
      let P : Option Body → Type 0 = λ o. Does code s place (onto words stack) most (tick (entered o around words here next)) in
      subst P (sym entry.body_is)
      (does_call room s caller callers callers_are deep (calls_do room) number entry words place stack most here next is told fits d)

-- the rank before its first instruction
abbrev beginning : Standing
beginning = record { back = 0; start = stack_start; finish = stack_start; callers = [] }

words_count : (a b n : ℕ) → n ≤ 2 → length (take n (a ∷ b ∷ [])) ≡ n
words_count a b zero le = refl
words_count a b (suc zero) le = refl
words_count a b (suc (suc zero)) le = refl
words_count a b (suc (suc (suc n))) le = absurd (omega (arith, le))

stops_main : (code : Code) (program : Program) (segment : Segment) (main : Main) → program.main ≡ Some main → IsCodeOf code program segment main
    → IsCovered program main → IsSimple program → (rank n : ℕ) (answers : List Answer)
    → Stops code (opening program segment main rank answers n) (main_run program segment (opened segment rank) (Some main) n answers (nothing_done (opened segment rank))).stop
    (main_run program segment (opened segment rank) (Some main) n answers (nothing_done (opened segment rank))).done
unfolding program_part opened place_of
stops_main code program segment main main_is code_is covered simple rank n answers =
    let object = offset_in segment in
    let m = opened segment rank in
    let words = main_words m (parameter_count program main.function) in
    let sp = spans_all code.instrs (program_part program segment main) code_is.instrs in
    let first = spans_first (Stands code) 0 _ (instr.Call main.function (parameter_count program main.function)) (functions_part object program.functions) sp in
    let laid : Laid code program segment =
    record { end = _; functions = code_is.functions; spans = first.1; covered = covered.covered; simple = simple } in
    let has : HasBody program.functions main.function = record {
      function = covered.function;
      body = covered.main_body.body;
      function_is = covered.function_is;
      body_is = covered.main_body.body_is;
    } in
    let found = entry_of code program segment main.function laid has in
    let body = found.body in
    let entry : CodeFunction = entry_at found.place (Some body) in
    let defined : body_of program main.function ≡ Some covered.main_body.body =
    ap (λ o. elim o [ None ↦ None | Some function ↦ Some (body_or_none function.body) ]) covered.function_is
    ∙ ap (λ b. Some (body_or_none b)) covered.main_body.body_is in
    let count : parameter_count program main.function ≡ length covered.main_body.body.parameters =
    ap (λ o. elim o [ None ↦ 0 | Some b ↦ length b.parameters ]) defined in
    let few : parameter_count program main.function ≤ 2 = let a = covered.main_body.few in omega (arith, count, a) in
    let long : length words ≡ parameter_count program main.function = words_count 1 (address_of m globals_start) (parameter_count program main.function) few in
    let call_is : slice_get code.instrs 0 ≡ Some (instr.Call main.function (length words)) = first.0 ∙ ap (λ k. Some (instr.Call main.function k)) (sym long) in
    let here : Here = record { frame = stack_start; unit = main.unit; line = main.line } in
    let told : Told code 0 here = ap (λ u. record { unit = u; line = code.line }) code_is.unit_is ∙ ap (λ l. record { unit = main.unit; line = l }) code_is.line_is in
    let calling : Calling = called program (place_in segment) 255 in
    let inner = inside code beginning entry 0 [] (stack_top m) in
    let waiting : Caller = record { back = 0; start = stack_start; finish = stack_start; operands = [] } in
    let turn = stops_call code beginning main.function entry words 0 [] here (runs_body program segment 255 body ended)
    call_is found.entry_is told (omega arith) n answers (nothing_done m)
    (λ less lt. does_body object program.functions code inner calling (calls_do code program segment laid 255 inner waiting [] refl refl) body found.place found.after less
    (left_frame (stack_top m) ended) (λ x q is. does_return code inner waiting x q [] less refl is) found.covered found.fits found.spans) in
    let same : onto words [] ≡ reverse words = onto_is words [] ∙ append-nil (reverse words) in
    let R = λ (o : Option Body). tick (entered o (record { calling = calling; object = place_in segment }) words here ended) n answers (nothing_done m) in
    let done = subst (λ o. Stops code (at beginning 0 o n answers (nothing_done m)) (R (Some body)).stop (R (Some body)).done) same turn in
    subst (λ o. Stops code (at beginning 0 (reverse words) n answers (nothing_done m)) (R o).stop (R o).done) (sym found.body_is) done

-- code that is laid out as a program's means the program
pub means_program : (code : Code) (program : Program) (segment : Segment) (main : Main) → program.main ≡ Some main → IsCodeOf code program segment main
    → IsCovered program main → IsSimple program → Means code program segment main
unfolding run_of
means_program code program segment main main_is code_is covered simple = record {
  main_is = main_is;
  stops = λ rank n answers.
      let R = λ (o : Option Main). main_run program segment (opened segment rank) o n answers (nothing_done (opened segment rank)) in
      subst (λ o. Stops code (opening program segment main rank answers n) (R o).stop (R o).done) (sym main_is)
      (stops_main code program segment main main_is code_is covered simple rank n answers);
}
