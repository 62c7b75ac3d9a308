use Rattle.std.proofs.Common.{ℕ, ◌≡◌, ◌+◌, ◌-◌, ◌<◌, refl, sym, ap, ◌∙◌, List, [], ◌∷◌, Option, Some, None, Bool, true, false, map, drop, length, arith, inl, inr}
use Rattle.std.specs.Prelude.{◌&&◌, nat_eq}
use Rattle.rank_range.specs.declared.kinds.Kind.{Kind}
use Rattle.rank_range.specs.declared.kinds.Kind.TheVariants as kind
use Rattle.c_ast.specs.declared.words.Name.{Name}
use Rattle.c_ast.specs.declared.expression.Expr.{Expr}
use Rattle.c_ast.specs.declared.expression.Expr.TheVariants as expr
use Rattle.c_ast.specs.declared.expression.Link.{Link}
use Rattle.c_ast.specs.declared.expression.PostfixOp.{PostfixOp}
use Rattle.c_ast.specs.declared.declaration.Direct.{Direct}
use Rattle.c_ast.specs.declared.declaration.Declarator.{Declarator}
use Rattle.c_ast.specs.declared.declaration.DirectSuffix.{DirectSuffix}
use Rattle.c_ast.specs.declared.declaration.DirectSuffix.TheViews.{out-Declarator, out-Member, out-TypeName}
use Rattle.c_ast.specs.declared.declaration.Enumerator.{Enumerator}
use Rattle.c_ast.specs.declared.declaration.EnumSpec.{EnumSpec}
use Rattle.c_ast.specs.declared.declaration.StructSpec.{StructSpec}
use Rattle.c_ast.specs.declared.declaration.Member.{Member}
use Rattle.c_ast.specs.declared.declaration.Param.{Param}
use Rattle.c_ast.specs.declared.declaration.Specifier.{Specifier}
use Rattle.c_const.specs.Constants.{first_token, number_kind}
use Rattle.c_types.specs.declared.ctype.CType.{CType}
use Rattle.c_typing.specs.declared.judged.Judged.{Judged}
use Rattle.c_typing.specs.declared.judged.Judged.TheVariants as judged
use Rattle.c_typing.specs.declared.calling.Arguments.{Arguments}
use Rattle.c_typing.specs.Calling.{no_arguments}
use Rattle.c_typing.specs.Values.{number}
use Rattle.c_judge.specs.declared.checker.Checker.{Checker}
use Rattle.c_judge.specs.declared.checker.Mode.{Mode}
use Rattle.c_judge.specs.declared.shapes.Built.{Built}
use Rattle.c_judge.specs.declared.shapes.Shape.{Shape}
use Rattle.c_judge.specs.declared.shapes.Shape.TheVariants as shape
use Rattle.c_judge.specs.declared.gathered.Gathered.{Gathered}
use Rattle.c_judge.specs.declared.gathered.Specified.TheVariants as specified
use Rattle.c_judge.specs.declared.structures.Members.{Members}
use Rattle.c_judge.specs.State.{Gives, then_with, named, text}
use Rattle.c_judge.specs.Scopes.{closed}
use Rattle.c_judge.specs.Gathered.{nothing, built_of}
use Rattle.c_judge.specs.Structures.{no_members, added_member, finished_struct}
use Rattle.c_judge.specs.Shapes.{applied}
use Rattle.c_judge.specs.Constants.{extent_from, enumerator_value, with_enum, referred_enum}
use Rattle.c_judge.specs.Parameters.{with_parameter, named_parameter, unnamed_parameter}
use Rattle.c_judge.specs.Expressions.{with_operators, with_operator, with_prefix, sized, sized_type, indexed, called, pass_all, passed, parameter as parameter_type, with_links, linked, cast_to, casted, choose, choose_last, choose_both, assign_value, with_assign, with_comma, with_commas, last_mode, Reading}
use Rattle.c_judge.specs.Judging as judging
use Rattle.c_judge.specs.Judging.{specifier, declarator, suffix, parameter, members, type_name, expression}
use Rattle.c_judge.specs.Parts.{link_of, operator_of, enumerator_of, sizes_of, direct_of, struct_of, enum_of, size_of}
use Rattle.c_judge.proofs.ExprTrees.{name_is, number_tree_is, character_is, text_tree_is, paren_is, postfix_is, prefix_is, sizeof_expr_is, sizeof_type_is, cast_is, binary_is, conditional_is, assign_is, comma_is}
use Rattle.c_judge.proofs.TypeTrees.{token_is, type_name_is, member_is, array_is, empty_is, void_is, params_is, named_is, unnamed_is, storage_is, qualifier_is, word_is, typedef_name_is, struct_is, enum_is}
use Rattle.c_judge.proofs.Turns.{then_is, gives_as, gives_then, turn, gives_if, judged_in, as_read, at_last, before_last, pair_is, then_parts, gave}
use Rattle.c_judge.proofs.TypeSteps.{shape_is, specify_is, sizes_end, standing, sees, left_with, nothing_is}
use Rattle.c_judge.proofs.checker.Checker.+judge.Goals as goal
use Rattle.c_judge.proofs.checker.Checker.+judge.Goals.{commas-then-left-eq0, commas-else-left-eq0, declarator-in-Name, declarator-in-Nested+in_ok-inner-in-Nested, declarator-then-keep, declarator-else-keep, specifier-in-Struct, specifier-in-Enum, suffix-then-not-keep, suffix-else-not-keep, unnamed_behind-then-gathered, unnamed_behind-else-gathered}

pub abstract_shapes-loop-size-preserved : goal.abstract_shapes-loop-size-preserved
abstract_shapes-loop-size-preserved t c = (
  c.as_slice-size-items.ensures,
  turn (λ (es : List (Option Expr)) (made : List Shape) (s : Checker). judging.sizes_shape (sizes_of es) made s) c.as_slice-size-items.result.now
      c.loop-size.size-index c.size-item.result c.loop-size.shapes c.in_ok-shapes.shapes c.loop-size.self c.size_shape.new.self _ c.loop-size-test.true
      c.size-item.is c.loop-size.invariant.1
      (then_is _ _ _ (judging.sizes_shape (sizes_of (drop (c.loop-size.size-index + 1) c.as_slice-size-items.result.now)))
      (then_is _ _ _ (judging.put_shape c.loop-size.shapes) c.in-Ok.ensures ∙ pair_is _ _ _ _ (sym c.in_ok-shapes.ensures) refl)),
)

pub abstract_shapes-returns : goal.abstract_shapes-returns
abstract_shapes-returns t c =
    gives_if c.plain_pointers.result c.loop-size.self _ (judging.with_plain_pointers c.loop-size.shapes c.args.of.now.pointers)
    (then_is _ _ _ (λ (made : List Shape) (s : Checker). (judging.with_plain_pointers made c.args.of.now.pointers, s))
    (sizes_end _ _ _ _ _ c.loop-size-test.false c.loop-size.invariant.1))
    c.plain_pointers.ensures

pub add_members-loop-declaration-preserved : goal.add_members-loop-declaration-preserved
add_members-loop-declaration-preserved t c =
    turn (λ (ms : List Member) (made : Members) (s : Checker). judging.add_members (map members ms) made s) c.args.declarations.now
    c.loop-declaration.declaration-index c.declaration-item.result c.loop-declaration.made c.in_ok-made.made c.loop-declaration.self
    c.member_declaration.new.self _ c.loop-declaration-test.true c.declaration-item.is c.loop-declaration.invariant
    (then_is _ _ _ (judging.add_members (map members (drop (c.loop-declaration.declaration-index + 1) c.args.declarations.now)))
    (ap (λ m. members m c.loop-declaration.made c.loop-declaration.self) (sym c.get.ensures) ∙ c.in_ok-made.ensures))

pub arguments-loop-argument-preserved : goal.arguments-loop-argument-preserved
arguments-loop-argument-preserved t c = (
  ap (λ n. n + 1) c.loop-argument.invariant.0,
  turn
      (λ (es : List Expr) (p : ℕ × Option Arguments) (s : Checker). pass_all (map expression es) c.args.mode c.args.callee.now p.0 p.1 s)
      c.args.arguments.now c.loop-argument.argument-index c.argument-item.result (c.loop-argument.number, c.loop-argument.passed)
      (c.loop-argument.number + 1, c.in_ok-passed.passed) c.loop-argument.self c.expr.new.self _ c.loop-argument-test.true c.argument-item.is
      c.loop-argument.invariant.1
      (then_is _ _ _
      (pass_all (map expression (drop (c.loop-argument.argument-index + 1) c.args.arguments.now)) c.args.mode c.args.callee.now
      (c.loop-argument.number + 1))
      (then_is _ _ _ (passed (parameter_type c.args.callee.now c.loop-argument.number) c.loop-argument.passed)
      (judged_in _ _ _ _ _ _ c.get.ensures c.operand.ensures c.in-Ok.ensures) ∙ c.in_ok-passed.ensures)),
)

pub assign_value-returns-in-Ok : goal.assign_value-returns-in-Ok
assign_value-returns-in-Ok t c =
    gives_then c.assign.result c.assign.new.self _ _ _ (with_assign c.args.op c.args.at c.args.place)
    (judged_in _ _ _ _ _ _ refl c.operand.ensures c.in-Ok.ensures) c.assign.ensures

pub branches-returns-in-Ok-expr : goal.branches-returns-in-Ok-expr
branches-returns-in-Ok-expr t c =
    gives_then c.choose.result c.choose.new.self _ _ _
    (choose_last c.args.at (expression c.args.otherwise.now) c.args.mode c.args.test)
    (judged_in _ _ _ _ _ _ refl c.operand.ensures c.in-Ok.ensures)
    (gives_then c.choose.result c.choose.new.self _ _ _ (choose c.args.at c.args.test c.in-Ok.then)
    (judged_in _ _ _ _ _ _ refl c.operand-2.ensures c.in-Ok-expr.ensures) c.choose.ensures)

pub cast_operand-returns-in-Ok : goal.cast_operand-returns-in-Ok
cast_operand-returns-in-Ok t c =
    gives_then c.cast.result c.cast.new.self _ _ _ (casted c.args.token c.args.to)
    (judged_in _ _ _ _ _ _ refl c.cast_mode-mode.ensures c.in-Ok.ensures) c.cast.ensures

pub commas-loop-other-preserved : goal.commas-loop-other-preserved
commas-loop-other-preserved t c =
    let before = c.loop-other.invariant.0 in
    let within = c.loop-other-test.true in
    let all : c.loop-other.left - 1 + (c.loop-other.other-index + 1) ≡ length c.args.others.now = omega (arith, before, within) in
    let mode_is : c.if-left-eq0.its_mode ≡ last_mode (map expression (drop (c.loop-other.other-index + 1) c.args.others.now)) c.args.mode =
    elim c.if-left-eq0.branch [
      | commas-then-left-eq0 w ↦
          w.its_mode-is ∙ sym (at_last c.args.others.now (c.loop-other.left - 1) (c.loop-other.other-index + 1) c.args.mode w.if-left-eq0.true all)
      | commas-else-left-eq0 w ↦
          let more = w.if-left-eq0.false in
          w.its_mode-is ∙ w.unused-its_mode.ensures
          ∙ sym (before_last c.args.others.now c.other-item.result (c.loop-other.left - 1) (c.loop-other.other-index + 1) c.args.mode (omega (arith, more)) all)
    ] in (
      all,
      turn (λ (es : List Expr) (a : Option Judged) (s : Checker). with_commas (map expression es) c.args.mode a s) c.args.others.now
          c.loop-other.other-index c.other-item.result c.loop-other.value c.in_ok-value.value c.loop-other.self c.comma.new.self _ within c.other-item.is
          c.loop-other.invariant.1
          (then_is _ _ _ (with_commas (map expression (drop (c.loop-other.other-index + 1) c.args.others.now)) c.args.mode)
          (then_is _ _ _
          (with_comma (expression c.other-item.result).token
          (last_mode (map expression (drop (c.loop-other.other-index + 1) c.args.others.now)) c.args.mode).is_used c.loop-other.value)
          (judged_in _ _ _ _ _ _ refl mode_is c.in-Ok.ensures)
          ∙ ap
          (λ k. with_comma k (last_mode (map expression (drop (c.loop-other.other-index + 1) c.args.others.now)) c.args.mode).is_used c.loop-other.value
          c.in-Ok.right c.expr.new.self) (token_is c.other-item.result ∙ sym c.first_token.ensures)
          ∙ ap (λ (m : Mode). with_comma c.first_token.result m.is_used c.loop-other.value c.in-Ok.right c.expr.new.self) (sym mode_is)
          ∙ c.in_ok-value.ensures)),
    )

pub declarator-returns : goal.declarator-returns
declarator-returns t c =
    let direct_does : judging.direct_shape (direct_of (out-Declarator c.args.of.now).direct) c.args.keep c.args.made c.args.self.now
    ≡ (c.match-of.inner, c.match-of.self) =
    elim c.match-of.branch [
      | declarator-in-Name w ↦
          ap (λ (d : Direct Declarator). judging.direct_shape (direct_of d) c.args.keep c.args.made c.args.self.now) w.in-Name.is
          ∙ pair_is _ _ _ _ (sym w.inner-is) (sym w.self-is)
      | declarator-in-Nested+in_ok-inner-in-Nested w ↦
          ap (λ (d : Direct Declarator). judging.direct_shape (direct_of d) c.args.keep c.args.made c.args.self.now) w.in-Nested.is
          ∙ ap (λ (d : Declarator). (declarator d).shape c.args.keep c.args.made c.args.self.now) (sym w.get.ensures)
          ∙ w.in_ok-inner-in-Nested.ensures
          ∙ pair_is _ _ _ _ (sym w.inner-is) (sym w.self-is)
    ] in
    let keep_is : c.if-keep.keep ≡ (c.args.keep && judging.is_bare_direct (direct_of (out-Declarator c.args.of.now).direct)) =
    elim c.if-keep.branch [
      | declarator-then-keep w ↦
          w.keep-is ∙ w.is_bare_direct-keep.ensures
          ∙ ap (λ b. b && judging.is_bare_direct (direct_of (out-Declarator c.args.of.now).direct)) (sym w.if-keep.true)
      | declarator-else-keep w ↦
          w.keep-is ∙ w.if-keep.false
          ∙ ap (λ b. b && judging.is_bare_direct (direct_of (out-Declarator c.args.of.now).direct)) (sym w.if-keep.false)
    ] in
    gives_if c.put_pointers.result c.suffixes.new.self _ (judging.with_pointers c.in_ok-behind.behind c.as_slice-2.result.now)
    (shape_is c.args.of.now c.args.keep c.args.made c.args.self.now c.match-of.inner c.match-of.self c.in_ok-behind.behind c.suffixes.new.self direct_does
    (ap
    (λ (fs : List DirectSuffix). judging.suffix_shapes (map suffix fs)
    (c.args.keep && judging.is_bare_direct (direct_of (out-Declarator c.args.of.now).direct)) c.match-of.inner c.match-of.self)
    (sym c.as_slice.ensures)
    ∙ ap (λ k. judging.suffix_shapes (map suffix c.as_slice.result.now) k c.match-of.inner c.match-of.self) (sym keep_is)
    ∙ c.in_ok-behind.ensures)
    ∙ ap (λ ps. (judging.with_pointers c.in_ok-behind.behind ps, c.suffixes.new.self)) (sym c.as_slice-2.ensures))
    c.put_pointers.ensures

pub declare_member-returns-in-Ok-made_of : goal.declare_member-returns-in-Ok-made_of
declare_member-returns-in-Ok-made_of t c =
    gives_then c.add_member.result c.add_member.new.self _ _ _
    (judging.member_made (declarator c.args.one.now).name c.args.base.now c.args.members)
    (ap (λ (ss : List Shape). (declarator c.args.one.now).shape false ss c.args.self.now) (sym c.new.ensures) ∙ c.in-Ok.ensures)
    (gives_as c.add_member.result c.add_member.new.self _ _
    (ap
    (λ n. added_member n (applied c.declarator.new.self.sight.structs c.args.base.now c.in-Ok.shapes) c.args.members c.declarator.new.self)
    (sym c.declared_name.ensures)
    ∙ ap (λ m. added_member c.declared_name.result.now m c.args.members c.declarator.new.self) (sym c.in-Ok-made_of.ensures))
    c.add_member.ensures)

pub declare_members-loop-one-preserved : goal.declare_members-loop-one-preserved
declare_members-loop-one-preserved t c =
    turn (λ (ds : List Declarator) (ms : Members) (s : Checker). judging.declare_members (map declarator ds) c.args.base ms s)
    c.args.declarators.now c.loop-one.one-index c.one-item.result c.loop-one.members c.in-Ok.members c.loop-one.self c.declare_member.new.self _
    c.loop-one-test.true c.one-item.is c.loop-one.invariant
    (then_is _ _ _ (judging.declare_members (map declarator (drop (c.loop-one.one-index + 1) c.args.declarators.now)) c.args.base) c.in-Ok.ensures)

pub enum_specified-returns-then-refer_enum : goal.enum_specified-returns-then-refer_enum
enum_specified-returns-then-refer_enum t c =
    ap (λ (e : EnumSpec Expr). judging.enum_specified (enum_of e) c.args.self.now) c.in-Reference.is
    ∙ then_parts _ judging.int_if
    ∙ ap (λ b. judging.int_if b (referred_enum c.in-Reference.name c.args.self.now).1) (sym c.refer_enum.ensures.value ∙ c.if-refer_enum.true)
    ∙ pair_is _ _ _ _ (sym c.int_type.ensures) (sym c.refer_enum.ensures.state)

pub enum_specified-returns-else-refer_enum : goal.enum_specified-returns-else-refer_enum
enum_specified-returns-else-refer_enum t c =
    ap (λ (e : EnumSpec Expr). judging.enum_specified (enum_of e) c.args.self.now) c.in-Reference.is
    ∙ then_parts _ judging.int_if
    ∙ ap (λ b. judging.int_if b (referred_enum c.in-Reference.name c.args.self.now).1) (sym c.refer_enum.ensures.value ∙ c.if-refer_enum.false)
    ∙ pair_is _ _ _ _ refl (sym c.refer_enum.ensures.state)

pub enum_specified-returns-in_ok-enumerate-in-Body : goal.enum_specified-returns-in_ok-enumerate-in-Body
enum_specified-returns-in_ok-enumerate-in-Body t c =
    ap (λ (e : EnumSpec Expr). judging.enum_specified (enum_of e) c.args.self.now) c.in-Body.is
    ∙ then_is _ _ _ judging.as_int
    (ap (λ (es : List (Enumerator Expr)). judging.enumerate (map enumerator_of es) (Some 0) (with_enum c.in-Body.name c.args.self.now)) (sym c.as_slice.ensures)
    ∙ ap (λ s. judging.enumerate (map enumerator_of c.as_slice.result.now) (Some 0) s) (sym c.in_ok-define_enum-in-Body.ensures)
    ∙ c.in_ok-enumerate-in-Body.ensures)
    ∙ pair_is _ _ _ _ (sym c.int_type-in-Body.ensures) refl

pub enumerate-loop-enumerator-preserved : goal.enumerate-loop-enumerator-preserved
enumerate-loop-enumerator-preserved t c =
    turn (λ (es : List (Enumerator Expr)) (next : Option ℕ) (s : Checker). judging.enumerate (map enumerator_of es) next s) c.args.enumerators.now
    c.loop-enumerator.enumerator-index c.enumerator-item.result c.loop-enumerator.next c.next_value-next.result c.loop-enumerator.self
    c.declare_enumerator.new.self _ c.loop-enumerator-test.true c.enumerator-item.is c.loop-enumerator.invariant
    (then_is _ _ _ (judging.enumerate (map enumerator_of (drop (c.loop-enumerator.enumerator-index + 1) c.args.enumerators.now)))
    (then_is _ _ _ (judging.put_enumerator c.enumerator-item.result.name) c.in_ok-value.ensures
    ∙ pair_is _ _ _ _ (sym c.next_value-next.ensures) (sym c.in_ok-declare_enumerator.ensures)))

pub expr-returns-in-Name : goal.expr-returns-in-Name
expr-returns-in-Name t c =
    as_read c.name.result c.name.new.self _ _ c.args.mode c.args.self.now (name_is _ _ c.in-Name.is)
    (gives_as c.name.result c.name.new.self _ _ (ap (λ bytes. named c.in-Name.name.token bytes c.args.mode c.args.self.now) (sym c.as_slice.ensures)) c.name.ensures)

pub expr-returns-in-Number : goal.expr-returns-in-Number
expr-returns-in-Number t c =
    ap (λ (r : Reading). r.judge c.args.mode c.args.self.now) (number_tree_is _ _ _ _ c.in-Number.is)
    ∙ ap (λ v. (Some (judged.Value v), c.args.self.now))
    (sym (c.number.ensures ∙ ap (λ k. number k c.in-Number.value) c.number_kind.ensures))

pub expr-returns-in-Character : goal.expr-returns-in-Character
expr-returns-in-Character t c =
    ap (λ (r : Reading). r.judge c.args.mode c.args.self.now) (character_is _ _ _ c.in-Character.is)
    ∙ ap (λ v. (Some (judged.Value v), c.args.self.now)) (sym c.number-in-Character.ensures)

pub expr-returns-in-Text : goal.expr-returns-in-Text
expr-returns-in-Text t c =
    as_read c.text.result c.text.new.self _ _ c.args.mode c.args.self.now (text_tree_is _ _ _ c.in-Text.is)
    (gives_as c.text.result c.text.new.self _ _ (ap (λ bytes. text c.in-Text.token bytes c.args.self.now) (sym c.as_slice-in-Text.ensures)) c.text.ensures)

pub expr-returns-in-Paren : goal.expr-returns-in-Paren
expr-returns-in-Paren t c =
    as_read c.expr.result c.expr.new.self _ _ c.args.mode c.args.self.now (paren_is _ _ _ c.in-Paren.is)
    (gives_as c.expr.result c.expr.new.self _ _ (ap (λ e. (expression e).judge c.args.mode c.args.self.now) (sym c.get.ensures)) c.expr.ensures)

pub expr-returns-in_ok-first-in-Postfix : goal.expr-returns-in_ok-first-in-Postfix
expr-returns-in_ok-first-in-Postfix t c =
    as_read c.operators.result c.operators.new.self _ _ c.args.mode c.args.self.now (postfix_is _ _ _ _ c.in-Postfix.is)
    (gives_then c.operators.result c.operators.new.self _ _ _ (with_operators (map operator_of c.in-Postfix.operators) c.args.mode)
    (judged_in _ _ _ _ _ _ c.get-in-Postfix.ensures c.operand.ensures c.in_ok-first-in-Postfix.ensures)
    (gives_as c.operators.result c.operators.new.self _ _
    (ap (λ (os : List (PostfixOp Expr)). with_operators (map operator_of os) c.args.mode c.in_ok-first-in-Postfix.first c.expr-in-Postfix.new.self)
    (sym c.as_slice-in-Postfix.ensures)) c.operators.ensures))

pub expr-returns-in_ok-operand-in-Prefix : goal.expr-returns-in_ok-operand-in-Prefix
expr-returns-in_ok-operand-in-Prefix t c =
    as_read c.prefix.result c.prefix.new.self _ _ c.args.mode c.args.self.now (prefix_is _ _ _ _ c.in-Prefix.is)
    (gives_then c.prefix.result c.prefix.new.self _ _ _ (with_prefix c.in-Prefix.op c.in-Prefix.token)
    (judged_in _ _ _ _ _ _ c.get-in-Prefix.ensures c.operand-in-Prefix.ensures c.in_ok-operand-in-Prefix.ensures) c.prefix.ensures)

pub expr-returns-in_ok-operand-in-SizeofExpr : goal.expr-returns-in_ok-operand-in-SizeofExpr
expr-returns-in_ok-operand-in-SizeofExpr t c =
    as_read c.size.result c.size.new.self _ _ c.args.mode c.args.self.now (sizeof_expr_is _ _ _ c.in-SizeofExpr.is)
    (gives_then c.size.result c.size.new.self _ _ _ (sized c.in-SizeofExpr.token)
    (judged_in _ _ _ _ _ _ c.get-in-SizeofExpr.ensures c.unevaluated.ensures c.in_ok-operand-in-SizeofExpr.ensures) c.size.ensures)

pub expr-returns-in_ok-of-in-SizeofType : goal.expr-returns-in_ok-of-in-SizeofType
expr-returns-in_ok-of-in-SizeofType t c =
    as_read c.size_of_built.result c.size_of_built.new.self _ _ c.args.mode c.args.self.now (sizeof_type_is _ _ _ c.in-SizeofType.is)
    (gives_then c.size_of_built.result c.size_of_built.new.self _ _ _ (sized_type c.in-SizeofType.token)
    (ap (λ of. type_name of c.args.self.now) (sym c.get-in-SizeofType.ensures) ∙ c.in_ok-of-in-SizeofType.ensures) c.size_of_built.ensures)

pub expr-returns-in_ok-to-in-Cast : goal.expr-returns-in_ok-to-in-Cast
expr-returns-in_ok-to-in-Cast t c =
    as_read c.cast_operand.result c.cast_operand.new.self _ _ c.args.mode c.args.self.now (cast_is _ _ _ _ c.in-Cast.is)
    (gives_then c.cast_operand.result c.cast_operand.new.self _ _ _ (cast_to c.in-Cast.token (expression c.in-Cast.operand) c.args.mode)
    (ap (λ of. type_name of c.args.self.now) (sym c.get-in-Cast.ensures) ∙ c.in_ok-to-in-Cast.ensures)
    (gives_as c.cast_operand.result c.cast_operand.new.self _ _
    (ap (λ e. cast_to c.in-Cast.token (expression e) c.args.mode c.in_ok-to-in-Cast.to c.type_name-in-Cast.new.self) (sym c.get-in-Cast-2.ensures))
    c.cast_operand.ensures))

pub expr-returns-in_ok-first-in-Binary : goal.expr-returns-in_ok-first-in-Binary
expr-returns-in_ok-first-in-Binary t c =
    as_read c.links.result c.links.new.self _ _ c.args.mode c.args.self.now (binary_is _ _ _ _ c.in-Binary.is)
    (gives_then c.links.result c.links.new.self _ _ _ (with_links (map link_of c.in-Binary.links) c.args.mode)
    (judged_in _ _ _ _ _ _ c.get-in-Binary.ensures c.operand-in-Binary.ensures c.in_ok-first-in-Binary.ensures)
    (gives_as c.links.result c.links.new.self _ _
    (ap (λ (ls : List (Link Expr)). with_links (map link_of ls) c.args.mode c.in_ok-first-in-Binary.first c.expr-in-Binary.new.self)
    (sym c.as_slice-in-Binary.ensures)) c.links.ensures))

pub expr-returns-in_ok-test-in-Conditional : goal.expr-returns-in_ok-test-in-Conditional
expr-returns-in_ok-test-in-Conditional t c =
    as_read c.branches.result c.branches.new.self _ _ c.args.mode c.args.self.now (conditional_is _ _ _ _ _ _ c.in-Conditional.is)
    (gives_then c.branches.result c.branches.new.self _ _ _
    (choose_both c.in-Conditional.at (expression c.in-Conditional.then) (expression c.in-Conditional.otherwise) c.args.mode)
    (judged_in _ _ _ _ _ _ c.get-in-Conditional.ensures c.operand-in-Conditional.ensures c.in_ok-test-in-Conditional.ensures)
    (gives_as c.branches.result c.branches.new.self _ _
    (ap
    (λ e. choose_both c.in-Conditional.at (expression e) (expression c.in-Conditional.otherwise) c.args.mode c.in_ok-test-in-Conditional.test
    c.expr-in-Conditional.new.self) (sym c.get-in-Conditional-2.ensures)
    ∙ ap
    (λ e. choose_both c.in-Conditional.at (expression c.get-in-Conditional-2.result.now) (expression e) c.args.mode c.in_ok-test-in-Conditional.test
    c.expr-in-Conditional.new.self) (sym c.get-in-Conditional-3.ensures))
    c.branches.ensures))

pub expr-returns-in_ok-place-in-Assign : goal.expr-returns-in_ok-place-in-Assign
expr-returns-in_ok-place-in-Assign t c =
    as_read c.assign_value.result c.assign_value.new.self _ _ c.args.mode c.args.self.now (assign_is _ _ _ _ _ _ c.in-Assign.is)
    (gives_then c.assign_value.result c.assign_value.new.self _ _ _
    (assign_value c.in-Assign.op c.in-Assign.at (expression c.in-Assign.value) c.args.mode)
    (judged_in _ _ _ _ _ _ c.get-in-Assign.ensures c.operand-in-Assign.ensures c.in_ok-place-in-Assign.ensures)
    (gives_as c.assign_value.result c.assign_value.new.self _ _
    (ap
    (λ e. assign_value c.in-Assign.op c.in-Assign.at (expression e) c.args.mode c.in_ok-place-in-Assign.place c.expr-in-Assign.new.self)
    (sym c.get-in-Assign-2.ensures)) c.assign_value.ensures))

pub expr-returns-in_ok-first-in-Comma : goal.expr-returns-in_ok-first-in-Comma
expr-returns-in_ok-first-in-Comma t c =
    as_read c.commas.result c.commas.new.self _ _ c.args.mode c.args.self.now (comma_is _ _ _ _ c.in-Comma.is)
    (gives_then c.commas.result c.commas.new.self _ _ _ (with_commas (map expression c.in-Comma.others) c.args.mode)
    (judged_in _ _ _ _ _ _ c.get-in-Comma.ensures c.unused.ensures c.in_ok-first-in-Comma.ensures)
    (gives_as c.commas.result c.commas.new.self _ _
    (ap (λ (es : List Expr). with_commas (map expression es) c.args.mode c.in_ok-first-in-Comma.first c.expr-in-Comma.new.self)
    (sym c.as_slice-in-Comma.ensures)) c.commas.ensures))

pub links-loop-link-preserved : goal.links-loop-link-preserved
links-loop-link-preserved t c =
    turn (λ (ls : List (Link Expr)) (a : Option Judged) (s : Checker). with_links (map link_of ls) c.args.mode a s) c.args.links.now
    c.loop-link.link-index c.link-item.result c.loop-link.value c.in_ok-value.value c.loop-link.self c.link.new.self _ c.loop-link-test.true
    c.link-item.is c.loop-link.invariant
    (then_is _ _ _ (with_links (map link_of (drop (c.loop-link.link-index + 1) c.args.links.now)) c.args.mode)
    (then_is _ _ _ (linked c.link-item.result.op c.link-item.result.at c.loop-link.value)
    (judged_in _ _ _ _ _ _ c.get.ensures c.operand.ensures c.in-Ok.ensures) ∙ c.in_ok-value.ensures))

pub list_parameters-loop-param-preserved : goal.list_parameters-loop-param-preserved
list_parameters-loop-param-preserved t c = (
  refl,
  turn
      (λ (ps : List Param) (ts : Option (List CType)) (s : Checker). judging.list_parameters (map parameter ps) (nat_eq (length c.args.params.now) 1) ts s)
      c.args.params.now c.loop-param.param-index c.param-item.result c.loop-param.types c.in_ok-types.types c.loop-param.self c.with_parameter.new.self _
      c.loop-param-test.true c.param-item.is c.loop-param.invariant.1
      (then_is _ _ _
      (judging.list_parameters (map parameter (drop (c.loop-param.param-index + 1) c.args.params.now)) (nat_eq (length c.args.params.now) 1))
      (then_is _ _ _ (with_parameter (nat_eq (length c.args.params.now) 1) c.loop-param.types) c.in-Ok.ensures ∙ c.in_ok-types.ensures)),
)

pub member_declaration-returns-in-Ok : goal.member_declaration-returns-in-Ok
member_declaration-returns-in-Ok t c =
    gives_as c.declare_members.result c.declare_members.new.self _ _ (member_is c.args.declaration.now c.args.made c.args.self.now)
    (gives_then c.declare_members.result c.declare_members.new.self _ _ _
    (judging.members_behind (map declarator (out-Member c.args.declaration.now).declarators) c.args.made)
    (specify_is _ _ _ _ _ _
    (ap
    (λ (xs : List Specifier). judging.specify_all (map specifier xs)
    (standing (judging.first_name (map declarator (out-Member c.args.declaration.now).declarators) (out-Member c.args.declaration.now).specs.token))
    nothing c.args.self.now) (sym c.as_slice-specifiers.ensures)
    ∙ ap (λ p. judging.specify_all (map specifier c.as_slice-specifiers.result.now) (standing p) nothing c.args.self.now)
    (ap (λ (ds : List Declarator). judging.first_name (map declarator ds) (out-Member c.args.declaration.now).specs.token) (sym c.as_slice.ensures)
    ∙ sym c.first_name.ensures)
    ∙ c.in-Ok.ensures) c.built-base.ensures)
    (gives_as c.declare_members.result c.declare_members.new.self _ _
    (ap (λ (ds : List Declarator). judging.declare_members (map declarator ds) c.built-base.result c.args.made c.specify.new.self)
    (sym c.as_slice-in-Ok.ensures)) c.declare_members.ensures))

pub operator-returns-in-Ok : goal.operator-returns-in-Ok
operator-returns-in-Ok t c =
    gives_as c.index.result c.index.new.self _ _
    (ap (λ (o : PostfixOp Expr). with_operator (operator_of o) c.args.mode c.args.value c.args.self.now) c.in-Index.is)
    (gives_then c.index.result c.index.new.self _ _ _ (indexed c.in-Index.at c.args.value)
    (judged_in _ _ _ _ _ _ c.get.ensures c.operand.ensures c.in-Ok.ensures) c.index.ensures)

pub operator-returns-in-Ok-arguments : goal.operator-returns-in-Ok-arguments
operator-returns-in-Ok-arguments t c =
    gives_as c.call.result c.call.new.self _ _
    (ap (λ (o : PostfixOp Expr). with_operator (operator_of o) c.args.mode c.args.value c.args.self.now) c.in-Call.is)
    (gives_then c.call.result c.call.new.self _ _ _ (called c.in-Call.at c.args.value)
    (ap (λ (es : List Expr). pass_all (map expression es) c.args.mode c.args.value 0 (Some no_arguments) c.args.self.now) (sym c.as_slice.ensures)
    ∙ c.in-Ok-arguments.ensures) c.call.ensures)

pub operators-loop-operator-preserved : goal.operators-loop-operator-preserved
operators-loop-operator-preserved t c =
    turn (λ (os : List (PostfixOp Expr)) (a : Option Judged) (s : Checker). with_operators (map operator_of os) c.args.mode a s) c.args.operators.now
    c.loop-operator.operator-index c.operator-item.result c.loop-operator.value c.in_ok-value.value c.loop-operator.self c.operator.new.self _
    c.loop-operator-test.true c.operator-item.is c.loop-operator.invariant
    (then_is _ _ _ (with_operators (map operator_of (drop (c.loop-operator.operator-index + 1) c.args.operators.now)) c.args.mode)
    c.in_ok-value.ensures)

pub own_value-returns-in_ok-judged-in-Some : goal.own_value-returns-in_ok-judged-in-Some
own_value-returns-in_ok-judged-in-Some t c =
    ap (λ (v : Option Expr). judging.own_value (size_of v) c.args.next c.args.self.now) c.in-Some.is
    ∙ then_is _ _ _ (enumerator_value (expression c.in-Some.value).token)
    (judged_in _ _ _ _ _ _ c.get.ensures c.constant.ensures c.in_ok-judged-in-Some.ensures)
    ∙ ap (λ k. enumerator_value k c.in_ok-judged-in-Some.judged c.expr.new.self)
    (token_is c.in-Some.value ∙ ap first_token (sym c.get-in-Some.ensures) ∙ sym c.first_token.ensures)
    ∙ pair_is _ _ _ _ (sym c.enumerator_value.ensures.value) (sym c.enumerator_value.ensures.state)

pub size_shape-returns-in_ok-judged-in-Some : goal.size_shape-returns-in_ok-judged-in-Some
size_shape-returns-in_ok-judged-in-Some t c =
    ap (λ (v : Option Expr). judging.size_shape (size_of v) c.args.self.now) c.in-Some.is
    ∙ then_is _ _ _ (extent_from (expression c.in-Some.size).token)
    (judged_in _ _ _ _ _ _ c.get.ensures c.constant.ensures c.in_ok-judged-in-Some.ensures)
    ∙ ap (λ k. extent_from k c.in_ok-judged-in-Some.judged c.expr.new.self)
    (token_is c.in-Some.size ∙ ap first_token (sym c.get-in-Some.ensures) ∙ sym c.first_token.ensures)
    ∙ pair_is _ _ _ _ (sym c.extent.ensures.value) (sym c.extent.ensures.state)

pub param-returns-in_ok-gathered-in-Named : goal.param-returns-in_ok-gathered-in-Named
param-returns-in_ok-gathered-in-Named t c =
    gives_as c.param_behind.result c.param_behind.new.self _ _ (named_is _ _ _ c.args.self.now c.in-Named.is)
    (gives_then c.param_behind.result c.param_behind.new.self _ _ _ (judging.parameter_behind (declarator c.in-Named.declarator))
    (specify_is _ _ _ _ _ _
    (ap
    (λ (xs : List Specifier). judging.specify_all (map specifier xs) (standing (declarator c.in-Named.declarator).name.token) nothing c.args.self.now)
    (sym c.as_slice.ensures)
    ∙ ap (λ (n : Name). judging.specify_all (map specifier c.as_slice.result.now) (standing n.token) nothing c.args.self.now)
    (ap (λ d. (declarator d).name) (sym c.get.ensures) ∙ sym c.declared_name.ensures)
    ∙ c.in_ok-gathered-in-Named.ensures) c.built-built.ensures)
    (gives_as c.param_behind.result c.param_behind.new.self _ _
    (ap (λ d. judging.parameter_behind (declarator d) c.built-built.result c.specify.new.self) (sym c.get-in-Named.ensures)) c.param_behind.ensures))

pub param-returns-in_ok-gathered-in-Unnamed : goal.param-returns-in_ok-gathered-in-Unnamed
param-returns-in_ok-gathered-in-Unnamed t c =
    gives_as c.unnamed_behind.result c.unnamed_behind.new.self _ _ (unnamed_is _ _ _ c.args.self.now c.in-Unnamed.is)
    (gives_then c.unnamed_behind.result c.unnamed_behind.new.self _ _ _
    (judging.unnamed_behind c.in-Unnamed.specs.token c.in-Unnamed.declarator.pointers (sizes_of c.in-Unnamed.declarator.sizes))
    (ap (λ (xs : List Specifier). judging.specify_all (map specifier xs) (standing c.in-Unnamed.specs.token) nothing c.args.self.now)
    (sym c.as_slice-in-Unnamed.ensures) ∙ c.in_ok-gathered-in-Unnamed.ensures) c.unnamed_behind.ensures)

pub param_behind-returns : goal.param_behind-returns
param_behind-returns t c =
    gives_then c.named_parameter.result c.named_parameter.new.self _ _ _ (judging.parameter_named (declarator c.args.of.now).name c.args.built)
    (ap (λ (ss : List Shape). (declarator c.args.of.now).shape false ss c.args.self.now) (sym c.new.ensures) ∙ c.in-Ok.ensures)
    (gives_as c.named_parameter.result c.named_parameter.new.self _ _
    (ap (λ n. named_parameter n (applied c.declarator.new.self.sight.structs c.args.built c.in-Ok.shapes) c.declarator.new.self)
    (sym c.declared_name.ensures)
    ∙ ap (λ m. named_parameter c.declared_name.result.now m c.declarator.new.self)
    (ap (λ ss. applied ss c.args.built c.in-Ok.shapes) (sym c.as_slice.ensures) ∙ sym c.in_ok-made.ensures))
    c.named_parameter.ensures)

pub specifier-returns-in-Storage : goal.specifier-returns-in-Storage
specifier-returns-in-Storage t c =
    storage_is _ _ c.args.at c.args.gathered c.args.self.now c.in-Storage.is ∙ pair_is _ _ _ _ (sym c.with_storage.ensures) refl

pub specifier-returns-in-Qualifier : goal.specifier-returns-in-Qualifier
specifier-returns-in-Qualifier t c =
    qualifier_is _ _ c.args.at c.args.gathered c.args.self.now c.in-Qualifier.is ∙ pair_is _ _ _ _ (sym c.with_qualifier.ensures) refl

pub specifier-returns-in-Word : goal.specifier-returns-in-Word
specifier-returns-in-Word t c =
    word_is _ _ c.args.at c.args.gathered c.args.self.now c.in-Word.is ∙ pair_is _ _ _ _ (sym c.with_word.ensures) refl

pub specifier-returns-in-TypedefName : goal.specifier-returns-in-TypedefName
specifier-returns-in-TypedefName t c =
    gives_if c.named_specifier.result c.args.self.now _ (judging.named_specifier c.in-TypedefName.name c.args.gathered c.args.self.now)
    (typedef_name_is _ _ c.args.at c.args.gathered c.args.self.now c.in-TypedefName.is) c.named_specifier.ensures

pub specifier-returns-in-Ok : goal.specifier-returns-in-Ok
specifier-returns-in-Ok t c =
    elim c.match-one.branch [
      | specifier-in-Struct w ↦
          struct_is _ _ c.args.at c.args.gathered c.args.self.now w.in-Struct.is
          ∙ then_is _ _ _ (judging.put_type false c.args.gathered)
          (gave w.struct_specified-of.result w.struct_specified-of.new.self _ c.in-Ok.of w.struct_specified-of.ensures (sym w.of-is ∙ c.in-Ok.is)
          ∙ pair_is _ _ _ _ refl (sym w.self-is))
          ∙ pair_is _ _ _ _ (sym c.with_type.ensures) refl
      | specifier-in-Enum w ↦
          enum_is _ _ c.args.at c.args.gathered c.args.self.now w.in-Enum.is
          ∙ then_is _ _ _ (judging.put_type false c.args.gathered)
          (gave w.enum_specified-of.result w.enum_specified-of.new.self _ c.in-Ok.of w.enum_specified-of.ensures (sym w.of-is ∙ c.in-Ok.is)
          ∙ pair_is _ _ _ _ refl (sym w.self-is))
          ∙ pair_is _ _ _ _ (sym c.with_type.ensures) refl
    ]

pub specify-loop-one-preserved : goal.specify-loop-one-preserved
specify-loop-one-preserved t c =
    turn (λ (fs : List Specifier) (g : Gathered) (s : Checker). judging.specify_all (map specifier fs) c.args.at g s) c.args.specifiers.now
    c.loop-one.one-index c.one-item.result c.loop-one.gathered c.in_ok-gathered.gathered c.loop-one.self c.specifier.new.self _ c.loop-one-test.true
    c.one-item.is c.loop-one.invariant
    (then_is _ _ _ (judging.specify_all (map specifier (drop (c.loop-one.one-index + 1) c.args.specifiers.now)) c.args.at)
    (ap (λ x. specifier x c.args.at c.loop-one.gathered c.loop-one.self) (sym c.get.ensures) ∙ c.in_ok-gathered.ensures))

pub struct_specified-returns-in_ok-members-in-Body : goal.struct_specified-returns-in_ok-members-in-Body
struct_specified-returns-in_ok-members-in-Body t c =
    gives_as c.finish_struct.result c.finish_struct.new.self _ _
    (ap (λ (x : StructSpec Member). judging.struct_specified (struct_of x) c.args.at c.args.self.now) c.in-Body.is)
    (gives_then c.finish_struct.result c.finish_struct.new.self _ _ _
    (judging.members_of (map members c.in-Body.members) (judging.tag_place c.in-Body.name c.args.at)) c.in_ok-number-in-Body.ensures
    (gives_then c.finish_struct.result c.finish_struct.new.self _ _ _
    (judging.end_struct (judging.tag_place c.in-Body.name c.args.at) c.in_ok-number-in-Body.number)
    (ap (λ (ms : List Member). judging.add_members (map members ms) no_members c.begin_struct.new.self) (sym c.as_slice.ensures)
    ∙ c.in_ok-members-in-Body.ensures)
    (gives_as c.finish_struct.result c.finish_struct.new.self _ _
    (ap (λ p. finished_struct c.in_ok-number-in-Body.number p c.in_ok-members-in-Body.members c.add_members.new.self) (sym c.tag_place.ensures))
    c.finish_struct.ensures)))

pub suffix-returns-in-Array : goal.suffix-returns-in-Array
suffix-returns-in-Array t c =
    gives_as c.size_shape.result c.size_shape.new.self _ _ (array_is _ _ _ c.args.keep c.args.self.now c.in-Array.is) c.size_shape.ensures

pub suffix-returns-after-not-keep : goal.suffix-returns-after-not-keep
suffix-returns-after-not-keep t c =
    let closed_so : judging.behind_scope c.args.keep c.args.self.now c.list_parameters.new.self ≡ c.if-not-keep.self =
    elim c.if-not-keep.branch [
      | suffix-then-not-keep w ↦
          ap (λ b. judging.behind_scope b c.args.self.now c.list_parameters.new.self) w.if-not-keep.true
          ∙ ap (λ g. left_with c.list_parameters.new.self g c.args.self.now.rooms)
          (ap (λ o. closed o c.list_parameters.new.self.sight) (sym c.open-before.ensures.before) ∙ sym w.close.ensures)
          ∙ sym w.self-is
      | suffix-else-not-keep w ↦ ap (λ b. judging.behind_scope b c.args.self.now c.list_parameters.new.self) w.if-not-keep.false ∙ sym w.self-is
    ] in
    params_is _ _ _ c.args.keep c.args.self.now c.in-Params.is
    ∙ then_is _ _ _ (judging.parameter_shape c.args.keep c.args.self.now)
    (ap
    (λ (ps : List Param). judging.list_parameters (map parameter ps) (judging.is_single ps) (Some []) (judging.with_scope c.args.self.now))
    (sym c.as_slice.ensures)
    ∙ ap
    (λ g. judging.list_parameters (map parameter c.as_slice.result.now) (judging.is_single c.as_slice.result.now) (Some []) (sees c.args.self.now g))
    (sym c.open-before.ensures.opened)
    ∙ c.in_ok-types-in-Params.ensures)
    ∙ pair_is _ _ _ _ (sym c.parameters_of.ensures) closed_so

pub suffix-returns-in-Empty : goal.suffix-returns-in-Empty
suffix-returns-in-Empty t c =
    elim c.in-Empty.is [
      | inl h ↦ empty_is _ h.0 c.args.keep c.args.self.now h.1 ∙ ap (λ xs. (shape.Function xs, c.args.self.now)) (sym c.new.ensures)
      | inr h ↦ void_is _ h.0 c.args.keep c.args.self.now h.1 ∙ ap (λ xs. (shape.Function xs, c.args.self.now)) (sym c.new.ensures)
    ]

pub suffixes-loop-one-preserved : goal.suffixes-loop-one-preserved
suffixes-loop-one-preserved t c =
    turn
    (λ (fs : List DirectSuffix) (p : Bool × List Shape) (s : Checker). judging.suffix_shapes (map suffix fs) p.0 p.1 s)
    c.args.suffixes.now c.loop-one.one-index c.one-item.result (c.loop-one.keep, c.loop-one.shapes) (false, c.in_ok-shapes.shapes) c.loop-one.self
    c.suffix.new.self _ c.loop-one-test.true c.one-item.is c.loop-one.invariant
    (then_is _ _ _ (judging.suffix_shapes (map suffix (drop (c.loop-one.one-index + 1) c.args.suffixes.now)) false)
    (then_is _ _ _ (judging.put_shape c.loop-one.shapes) c.in-Ok.ensures ∙ pair_is _ _ _ _ (sym c.in_ok-shapes.ensures) refl))

pub type_name-returns-in-Ok : goal.type_name-returns-in-Ok
type_name-returns-in-Ok t c =
    gives_as c.made_at.result c.made_at.new.self _ _ (type_name_is c.args.of.now c.args.self.now)
    (gives_then c.made_at.result c.made_at.new.self _ _ _
    (λ (b : Option Built) (s : Checker). then_with
    (judging.abstract_shape (out-TypeName c.args.of.now).declarator.pointers (sizes_of (out-TypeName c.args.of.now).declarator.sizes) s)
    (judging.made_at (out-TypeName c.args.of.now).specs.token b))
    (specify_is _ _ _ _ _ _
    (ap
    (λ (xs : List Specifier). judging.specify_all (map specifier xs) (standing (out-TypeName c.args.of.now).specs.token) nothing c.args.self.now)
    (sym c.as_slice.ensures) ∙ c.in_ok-gathered.ensures) c.built-built.ensures)
    (gives_then c.made_at.result c.made_at.new.self _ _ _ (judging.made_at (out-TypeName c.args.of.now).specs.token c.built-built.result)
    c.in-Ok.ensures c.made_at.ensures))

pub unnamed_behind-returns : goal.unnamed_behind-returns
unnamed_behind-returns t c =
    let named_so : c.if-gathered.is_named ≡ (c.args.gathered.is_named && judging.is_nothing c.in-Ok.shapes) =
    elim c.if-gathered.branch [
      | unnamed_behind-then-gathered w ↦
          w.is_named-is ∙ w.is_empty-is_named.ensures ∙ ap (λ (xs : List Shape). nat_eq (length xs) 0) w.as_slice.ensures
          ∙ sym (nothing_is c.in-Ok.shapes)
          ∙ ap (λ b. b && judging.is_nothing c.in-Ok.shapes) (sym w.if-gathered.true)
      | unnamed_behind-else-gathered w ↦
          w.is_named-is ∙ w.if-gathered.false ∙ ap (λ b. b && judging.is_nothing c.in-Ok.shapes) (sym w.if-gathered.false)
    ] in
    let made_so : applied c.abstract_shapes.new.self.sight.structs (built_of c.args.gathered) c.in-Ok.shapes ≡ c.in_ok-made.made =
    ap (λ ss. applied ss (built_of c.args.gathered) c.in-Ok.shapes) (sym c.as_slice-2.ensures)
    ∙ ap (λ b. applied c.as_slice-2.result.now b c.in-Ok.shapes) (sym c.built-built.ensures)
    ∙ sym c.in_ok-made.ensures in
    gives_then c.unnamed_parameter.result c.unnamed_parameter.new.self _ _ _ (judging.parameter_unnamed c.args.token c.args.gathered) c.in-Ok.ensures
    (gives_as c.unnamed_parameter.result c.unnamed_parameter.new.self _ _
    (ap
    (λ b. unnamed_parameter c.args.token b (applied c.abstract_shapes.new.self.sight.structs (built_of c.args.gathered) c.in-Ok.shapes)
    c.abstract_shapes.new.self) (sym named_so)
    ∙ ap (λ m. unnamed_parameter c.args.token c.if-gathered.is_named m c.abstract_shapes.new.self) made_so)
    c.unnamed_parameter.ensures)
