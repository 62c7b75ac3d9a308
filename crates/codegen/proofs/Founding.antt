-- What the emitters of functions and of a program add, from what their steps add.
use Rattle.std.proofs.Common.{◌≡◌, ℕ, ◌+◌, ◌<◌, ◌≤◌, ◌^◌, List, [], ◌∷◌, ◌++◌, map, take, length, get_or, refl, sym, ap, ◌∙◌, subst, arith}
use Rattle.std.specs.Prelude.{Option, None, Some}
use Rattle.std.proofs.lemmas.List.{take_more, take_all}
use Rattle.rank_range.specs.declared.run.Segment.{Segment}
use Rattle.vm_code.specs.declared.code.Function.{Function as CodeFunction}
use Rattle.vm_code.specs.declared.code.Parameter.{Parameter as CodeParameter}
use Rattle.vm_code.specs.declared.instr.Instr.TheVariants as instr
use Rattle.c_types.specs.declared.statement.Stmt.{Stmt}
use Rattle.c_types.specs.declared.program.Program.{Program}
use Rattle.c_types.specs.declared.program.Main.{Main}
use Rattle.c_types.specs.declared.program.Body.{Body}
use Rattle.c_types.specs.declared.program.Function.{Function}
use Rattle.c_types.specs.declared.program.Parameter.{Parameter}
use Rattle.c_model.specs.Statements.{parameters_of, parameter_count}
use Rattle.codegen.specs.declared.draft.Draft.{Draft}
use Rattle.codegen.specs.Layout.{Part, nothing, one, ◌then◌, in_order}
use Rattle.codegen.specs.Sizes.{total}
use Rattle.codegen.specs.Statements.{Within, stmt_piece, in_order_part, sizes_of, pieces_of, end_targets, body_part, function_part, function_size, functions_part, entry_at, entries_from, offset_in, program_part}
use Rattle.codegen.specs.Making.{Adds, at_most_word}
use Rattle.codegen.proofs.Shaping.{Sized, sized_none, sized_one, sized_then, sized_pieces}
use Rattle.codegen.proofs.Meaning.{sized_function}
use Rattle.codegen.proofs.Adding.{adds_then, adds_same}
use Rattle.codegen.proofs.Emitting.{adds_all}

module _ (object : ℕ → ℕ) where
  -- ---- bodies

  abbrev around : Body → Within
  around body = record { unit = body.unit; object = object }

  -- a body, where `break` and `continue` outside loops lead to this place
  abbrev ending : Body → ℕ → Part
  ending body end = in_order_part (pieces_of object body) (end_targets end) then one (instr.Push 0) then one instr.Return

  sized_ending : (body : Body) (end : ℕ) → Sized (ending body end) (sizes_of (pieces_of object body) + 2)
  sized_ending body end =
      let rest = sized_then (one (instr.Push 0)) (one instr.Return) 1 1 (sized_one _) (sized_one _) in
      sized_then (in_order_part (pieces_of object body) (end_targets end)) _ (sizes_of (pieces_of object body)) 2 (sized_pieces (around body) body.stmts (end_targets end)) rest

  pub body_adds : (d0 d1 d2 d3 : Draft) (body : Body) (ss ss' : List Stmt) (x end : ℕ) → ss ≡ body.stmts → ss' ≡ body.stmts
      → x ≡ at_most_word (sizes_of (map (stmt_piece (around body)) ss)) → ((n : ℕ) → x ≡ at_most_word n → end ≡ at_most_word (length d0.instrs + n))
      → Adds d0 d1 (in_order_part (map (stmt_piece (around body)) ss') (end_targets end)) → Adds d1 d2 (one (instr.Push 0)) → Adds d2 d3 (one instr.Return)
      → Adds d0 d3 (body_part object body)
  body_adds d0 d1 d2 d3 body ss ss' x end ss_are ss'_are x_is end_is a b c =
      let l = length d0.instrs in
      let n = sizes_of (pieces_of object body) in
      let a' = subst (λ l. Adds d0 d1 (in_order_part (map (stmt_piece (around body)) l) (end_targets end))) ss'_are a in
      let all : Adds d0 d3 (ending body end) = adds_then d0 d1 d3 _ _ a' (adds_then d1 d2 d3 _ _ b c) in
      let x' : x ≡ at_most_word n = x_is ∙ ap (λ l. at_most_word (sizes_of (map (stmt_piece (around body)) l))) ss_are in
      let end' : end ≡ at_most_word (l + n) = end_is n x' in
      let size = (sized_ending body end).by l in
      let same = (sized_ending body (l + n)).by l in
      let count = all.count in
      adds_same d0 d3 (ending body end) (body_part object body) all (size ∙ sym same) (λ short.
      let e : end ≡ l + n = omega (arith, end', count, size, short) in
      ap (λ k. ending body k l) e)

  -- the code of a body that may be missing
  abbrev pub part_if : Option Body → Part
  part_if o = elim o [ None ↦ nothing | Some body ↦ body_part object body ]

  -- ---- functions

  functions_in_order : (fs : List Function) → functions_part object fs ≡ in_order (map (function_part object) fs)
  functions_in_order [] = refl
  functions_in_order (f ∷ fs) = ap (λ r. function_part object f then r) (functions_in_order fs)

  pub functions_add : (d e : Draft) (fs : List Function) (i : ℕ) → length fs ≤ i → Adds d e (in_order (map (function_part object) (take i fs)))
      → Adds d e (functions_part object fs)
  functions_add d e fs i past x = subst (Adds d e) (sym (functions_in_order fs)) (adds_all d e (function_part object) fs i past x)

  sized_functions : (fs : List Function) → Sized (in_order (map (function_part object) fs)) (total (map (function_size object) fs))
  sized_functions [] = sized_none
  sized_functions (f ∷ fs) = sized_then _ _ _ _ (sized_function object f) (sized_functions fs)

  entries_push : (place : ℕ) (fs : List Function) (f : Function)
      → entries_from object place (fs ++ f ∷ []) ≡ entries_from object place fs ++ entry_at (place + total (map (function_size object) fs)) f.body ∷ []
  entries_push place [] f = let e : place ≡ place + 0 = omega arith in ap (λ p. entry_at p f.body ∷ []) e
  entries_push place (g ∷ fs) f =
      let n = function_size object g in
      let e : place + n + total (map (function_size object) fs) ≡ place + (n + total (map (function_size object) fs)) = omega arith in
      ap (λ l. entry_at place g.body ∷ l) (entries_push (place + n) fs f ∙ ap (λ p. entries_from object (place + n) fs ++ entry_at p f.body ∷ []) e)

  pub entries_next : (d0 d1 d2 : Draft) (fs : List Function) (i : ℕ) (f : Function) (es es' : List CodeFunction) (entry : CodeFunction) (place : ℕ)
      → i < length fs → f ≡ get_or fs i f → Adds d0 d1 (in_order (map (function_part object) (take i fs))) → Adds d1 d2 (function_part object f)
      → (length d1.instrs < 2 ^ 32 → es ≡ entries_from object (length d0.instrs) (take i fs)) → place ≡ at_most_word (length d1.instrs) → entry ≡ entry_at place f.body
      → es' ≡ es ++ entry ∷ [] → length d2.instrs < 2 ^ 32 → es' ≡ entries_from object (length d0.instrs) (take (i + 1) fs)
  entries_next d0 d1 d2 fs i f es es' entry place within f_is x y es_are place_is' entry_is more short =
      let l = length d0.instrs in
      let first = x.count in
      let second = y.count in
      let size = (sized_functions (take i fs)).by l in
      let small : length d1.instrs < 2 ^ 32 = omega (arith, second, short) in
      let here : place ≡ l + total (map (function_size object) (take i fs)) = omega (arith, place_is', first, size, small) in
      let last : entry ≡ entry_at (l + total (map (function_size object) (take i fs))) (get_or fs i f).body =
      entry_is ∙ ap (λ p. entry_at p f.body) here ∙ ap (λ g. entry_at (l + total (map (function_size object) (take i fs))) g.body) f_is in
      more ∙ ap (λ e. e ++ entry ∷ []) (es_are small) ∙ ap (λ e. entries_from object l (take i fs) ++ e ∷ []) last
      ∙ sym (ap (entries_from object l) (take_more fs i f within) ∙ entries_push l (take i fs) (get_or fs i f))

  pub entries_all : (d : Draft) (place : ℕ) (fs : List Function) (i : ℕ) (es : List CodeFunction) → length fs ≤ i
      → (length d.instrs < 2 ^ 32 → es ≡ entries_from object place (take i fs)) → length d.instrs < 2 ^ 32 → es ≡ entries_from object place fs
  entries_all d place fs i es past es_are short = es_are short ∙ ap (entries_from object place) (take_all i fs past)

-- ---- parameters

parameters_push : (ps : List Parameter) (p : Parameter) → parameters_of (ps ++ p ∷ []) ≡ parameters_of ps ++ record { offset = p.offset; kind = p.kind } ∷ []
parameters_push [] p = refl
parameters_push (q ∷ ps) p = ap (λ l. record { offset = q.offset; kind = q.kind } ∷ l) (parameters_push ps p)

pub parameters_next : (ps : List Parameter) (i : ℕ) (d : Parameter) (made made' : List CodeParameter) → i < length ps → made ≡ parameters_of (take i ps)
    → made' ≡ made ++ record { offset = (get_or ps i d).offset; kind = (get_or ps i d).kind } ∷ [] → made' ≡ parameters_of (take (i + 1) ps)
parameters_next ps i d made made' within made_are more =
    more ∙ ap (λ l. l ++ record { offset = (get_or ps i d).offset; kind = (get_or ps i d).kind } ∷ []) made_are
    ∙ sym (ap parameters_of (take_more ps i d within) ∙ parameters_push (take i ps) (get_or ps i d))

pub parameters_all : (ps : List Parameter) (i : ℕ) (made : List CodeParameter) → length ps ≤ i → made ≡ parameters_of (take i ps) → made ≡ parameters_of ps
parameters_all ps i made past made_are = made_are ∙ ap parameters_of (take_all i ps past)

-- ---- a program

pub program_adds : (d0 d1 d2 : Draft) (program : Program) (segment : Segment) (main : Main) (n : ℕ) (fs : List Function) → fs ≡ program.functions
    → n ≡ parameter_count program main.function → Adds d0 d1 (one (instr.Call main.function n)) → Adds d1 d2 (functions_part (offset_in segment) fs)
    → Adds d0 d2 (program_part program segment main)
unfolding program_part
program_adds d0 d1 d2 program segment main n fs fs_are n_is x y =
    adds_then d0 d1 d2 _ _ (subst (λ k. Adds d0 d1 (one (instr.Call main.function k))) n_is x) (subst (λ l. Adds d1 d2 (functions_part (offset_in segment) l)) fs_are y)

pub program_entries : (object : ℕ → ℕ) (d0 d1 : Draft) (d2 : Draft) (i : ℕ) (fs fs' : List Function) (es : List CodeFunction) → fs' ≡ fs
    → length d1.instrs ≡ length d0.instrs + i → (length d2.instrs < 2 ^ 32 → es ≡ entries_from object (length d1.instrs) fs')
    → length d2.instrs < 2 ^ 32 → es ≡ entries_from object (length d0.instrs + i) fs
program_entries object d0 d1 d2 i fs fs' es fs_are place es_are short =
    es_are short ∙ ap (λ p. entries_from object p fs') place ∙ ap (entries_from object (length d0.instrs + i)) fs_are
