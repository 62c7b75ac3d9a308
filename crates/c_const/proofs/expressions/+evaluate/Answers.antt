use Rattle.std.proofs.Common.{sym, ap, ◌∙◌}
use Rattle.c_const.specs.Constants.{evaluated, prefixed_part, cast_told}
use Rattle.c_const.proofs.EvaluatedLemmas.{name_told, number_told, character_told, paren_has, prefix_has, sizeof_expr_has, sizeof_type_has, cast_has, binary_told, conditional_told, chain_next, has_nothing}
use Rattle.c_const.proofs.expressions.+evaluate.Goals as goal

pub chain-loop-link-preserved : goal.chain-loop-link-preserved
chain-loop-link-preserved t c =
    chain_next _ _ _ _ _ _ _ _ _ _ c.loop-link-test.true c.link-item.is c.loop-link.invariant c.get.ensures c.evaluate.ensures c.binary-value.ensures

pub evaluate-returns-in-Name : goal.evaluate-returns-in-Name
evaluate-returns-in-Name t c = name_told _ _ _ _ _ _ c.in-Name.is c.as_slice.ensures c.named.ensures

pub evaluate-returns-in-Number : goal.evaluate-returns-in-Number
evaluate-returns-in-Number t c = number_told _ _ _ _ _ _ _ _ c.in-Number.is c.number_kind.ensures c.of_kind.ensures

pub evaluate-returns-in-Character : goal.evaluate-returns-in-Character
evaluate-returns-in-Character t c = character_told _ _ _ _ _ _ c.in-Character.is c.of_kind-in-Character.ensures

pub evaluate-returns-in-Paren : goal.evaluate-returns-in-Paren
evaluate-returns-in-Paren t c =
    c.evaluate.ensures ∙ ap (evaluated _ _) c.get.ensures ∙ sym (paren_has _ _ _ _ _ c.in-Paren.is)

pub evaluate-returns-in-Prefix : goal.evaluate-returns-in-Prefix
evaluate-returns-in-Prefix t c =
    c.prefix.ensures
    ∙ ap (prefixed_part c.in-Prefix.op) (c.evaluate-in-Prefix.ensures ∙ ap (evaluated _ _) c.get-in-Prefix.ensures)
    ∙ sym (prefix_has _ _ _ _ _ _ c.in-Prefix.is)

pub evaluate-returns-in-SizeofExpr : goal.evaluate-returns-in-SizeofExpr
evaluate-returns-in-SizeofExpr t c =
    c.size_at.ensures ∙ sym (sizeof_expr_has _ _ _ _ _ c.in-SizeofExpr.is)

pub evaluate-returns-in-SizeofType : goal.evaluate-returns-in-SizeofType
evaluate-returns-in-SizeofType t c =
    c.size_at-in-SizeofType.ensures ∙ sym (sizeof_type_has _ _ _ _ _ c.in-SizeofType.is)

pub evaluate-returns-in-Cast : goal.evaluate-returns-in-Cast
evaluate-returns-in-Cast t c =
    c.cast_at.ensures
    ∙ ap (cast_told _) (c.evaluate-in-Cast.ensures ∙ ap (evaluated _ _) c.get-in-Cast.ensures)
    ∙ sym (cast_has _ _ _ _ _ _ c.in-Cast.is)

pub evaluate-returns-in-Binary : goal.evaluate-returns-in-Binary
evaluate-returns-in-Binary t c =
    binary_told _ _ _ _ _ _ _ _ _ _ c.in-Binary.is c.get-in-Binary.ensures c.as_slice-in-Binary.ensures c.evaluate-in-Binary.ensures c.chain.ensures

pub evaluate-returns-in-Conditional : goal.evaluate-returns-in-Conditional
evaluate-returns-in-Conditional t c =
    conditional_told _ _ _ _ _ _ _ _ _ _ _ _ _ _ _ c.in-Conditional.is c.get-in-Conditional.ensures c.get-in-Conditional-2.ensures c.get-in-Conditional-3.ensures
    c.evaluate-in-Conditional.ensures c.evaluate-in-Conditional-2.ensures c.evaluate-in-Conditional-3.ensures c.conditional.ensures

pub evaluate-returns-in-Text : goal.evaluate-returns-in-Text
evaluate-returns-in-Text t c = has_nothing _ _ _ c.in-Text.is

pub evaluate-returns-in-Text-2 : goal.evaluate-returns-in-Text-2
evaluate-returns-in-Text-2 t c = has_nothing _ _ _ c.in-Text.is

pub evaluate-returns-in-Text-3 : goal.evaluate-returns-in-Text-3
evaluate-returns-in-Text-3 t c = has_nothing _ _ _ c.in-Text.is

pub evaluate-returns-in-Text-4 : goal.evaluate-returns-in-Text-4
evaluate-returns-in-Text-4 t c = has_nothing _ _ _ c.in-Text.is
