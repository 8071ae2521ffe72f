-- The loop over the children of a node and the dispatch meet their contracts: one proof for the cycle of calls.
use native.Mathlib.Omega.{arith}
use mathlib.Core.Path.{◌∙◌, ap, sym}
use mathlib.Core.Bool.{Bool}
use Rattle.tape.specs.NodeFacts.{facts_at}
use Rattle.tape.specs.Tree.{count_list_items}
use Rattle.layout.specs.FormatNode.{arms_of}
use Rattle.formatter.specs.KnownArms.{counted, known_arms, noted_multi, noted_several}
use Rattle.token_map.proofs.PlaceOfToken.{noted-by_head}
use Rattle.formatter.proofs.KnownArms.{counted-same, has-list, known}
use Rattle.formatter.proofs.Walks.{child_noted, copy_ready, decided, fact_fits, left-pos, loop_first, loop_fits, loop_last, node-copied, node-next, node-noted, node-ready, opened-at, routine_done, side_ready, token-next, token-ready}
use Rattle.tokens.proofs.Choices.{as_spaced, done_at}
use Rattle.formatter.proofs.format.+routines.Goals as goal

pub children-at-requires : goal.children-at-requires
children-at-requires t c = fact_fits c.requires.0

pub children-overflow_add-i : goal.children-overflow_add-i
children-overflow_add-i t c = omega (arith, c.requires.0.inside, c.requires.0.sizes.tape-fits)

pub children-loop-i-init : goal.children-loop-i-init
children-loop-i-init t c = rw (c.begin-local.ensures c.multi-multi.result) (loop_first (arms_of c.args.routine) (known_arms c.args.routine c.multi-multi.result) _ _ c.requires.0 (λ all z. known c.args.routine c.requires.1 (node-noted c.requires.0 all z) ∙ ap (known_arms c.args.routine) (sym (c.multi-multi.ensures ∙ ap (noted_multi c.args.routine) c.at.ensures))))

pub children-bounds-tape-i : goal.children-bounds-tape-i
children-bounds-tape-i t c = omega (arith, c.loop-i.invariant.inside)

pub children-head_at-h-requires : goal.children-head_at-h-requires
children-head_at-h-requires t c = loop_fits c.requires.0 c.loop-i.invariant c.loop-i-test.true

pub children-bounds-tape-i-in-loop-i : goal.children-bounds-tape-i-in-loop-i
children-bounds-tape-i-in-loop-i t c = omega (arith, c.loop-i.invariant.inside)

pub children-at-t-requires-clause-ordered : goal.children-at-t-requires-clause-ordered
children-at-t-requires-clause-ordered t c = (token-ready c.requires.0 c.loop-i.invariant _ c.if-tape-i-eq-TOKEN.true c.head_at-h.ensures).1

pub children-at-t-requires-clause-within : goal.children-at-t-requires-clause-within
children-at-t-requires-clause-within t c = (token-ready c.requires.0 c.loop-i.invariant _ c.if-tape-i-eq-TOKEN.true c.head_at-h.ensures).2

pub children-token-a-requires : goal.children-token-a-requires
children-token-a-requires t c = (token-ready c.requires.0 c.loop-i.invariant _ c.if-tape-i-eq-TOKEN.true c.head_at-h.ensures).3

pub children-overflow_add-i-then-tape-i-eq-TOKEN : goal.children-overflow_add-i-then-tape-i-eq-TOKEN
children-overflow_add-i-then-tape-i-eq-TOKEN t c = omega (arith, loop_fits c.requires.0 c.loop-i.invariant c.loop-i-test.true, c.requires.0.sizes.tape-fits)

pub children-loop-i-smaller-then-tape-i-eq-TOKEN : goal.children-loop-i-smaller-then-tape-i-eq-TOKEN
children-loop-i-smaller-then-tape-i-eq-TOKEN t c = omega (arith, c.loop-i.invariant.inside)

pub children-loop-i-preserved-then-tape-i-eq-TOKEN : goal.children-loop-i-preserved-then-tape-i-eq-TOKEN
children-loop-i-preserved-then-tape-i-eq-TOKEN t c =
    let k = c.requires.0 in
    let s = token-ready k c.loop-i.invariant _ c.if-tape-i-eq-TOKEN.true c.head_at-h.ensures in
    let done = done_at (known_arms c.args.routine c.multi-multi.result).at_token c.at-t.ensures c.token-a.ensures in
    token-next k c.loop-i.invariant (c.signs.ensures c.multi-multi.result) c.if-tape-i-eq-TOKEN.true c.head_at-h.ensures done.acted done.local (noted-by_head c.args.source.now c.head_at-h.result c.signs.result c.token-a.result.context.position c.loop-i.map s.1 s.2 c.at-t.ensures.kind c.at-t.ensures.text c.note_token.ensures) c.token-a.auto.out c.note_token.auto.map

pub children-before-a-requires : goal.children-before-a-requires
children-before-a-requires t c = let r = side_ready c.requires.0 c.loop-i.invariant in omega arith

pub children-overflow_sub-left : goal.children-overflow_sub-left
children-overflow_sub-left t c = left-pos c.requires.0 c.loop-i.invariant c.loop-i-test.true c.if-tape-i-eq-TOKEN.false

pub children-node-w-requires : goal.children-node-w-requires
children-node-w-requires t c = (omega (arith, c.decreases, left-pos c.requires.0 c.loop-i.invariant c.loop-i-test.true c.if-tape-i-eq-TOKEN.false), node-ready c.requires.0 c.loop-i.invariant c.loop-i-test.true c.if-tape-i-eq-TOKEN.false c.head_at-h.ensures c.before-a.ensures.before (omega arith))

pub children-at-requires-else-tape-i-eq-TOKEN : goal.children-at-requires-else-tape-i-eq-TOKEN
children-at-requires-else-tape-i-eq-TOKEN t c = omega (arith, loop_fits c.requires.0 c.loop-i.invariant c.loop-i-test.true, c.requires.0.sizes.facts_fit)

pub children-loop-i-smaller : goal.children-loop-i-smaller
children-loop-i-smaller t c = omega (arith, c.loop-i.invariant.inside, c.node-w.ensures.forward)

pub children-loop-i-preserved : goal.children-loop-i-preserved
children-loop-i-preserved t c = node-next c.requires.0 c.loop-i.invariant ((known_arms c.args.routine c.multi-multi.result).at_node c.loop-i.local c.head_at-h.result.kind (counted c.several-several.result)) c.loop-i-test.true c.if-tape-i-eq-TOKEN.false c.head_at-h.ensures (λ k z. counted-same c.args.routine c.multi-multi.result c.loop-i.local c.head_at-h.result.kind (facts_at c.args.facts.now c.loop-i.i) (count_list_items k) (child_noted c.requires.0 c.loop-i.invariant c.loop-i-test.true c.if-tape-i-eq-TOKEN.false k z) ∙ ap (λ (b : Bool). (known_arms c.args.routine c.multi-multi.result).at_node c.loop-i.local c.head_at-h.result.kind (counted b)) (sym (c.several-several.ensures ∙ ap (noted_several c.args.routine c.head_at-h.result.kind) c.at-else-tape-i-eq-TOKEN.ensures))) c.before-a.ensures.before c.node-w.ensures c.before-a.ensures.kept (as_spaced (c.after-ctx.ensures c.multi-multi.result)) (omega arith) (omega arith) (c.node-w.auto.out ∙ c.before-a.auto.out) c.node-w.auto.map

pub children-overflow_add-result : goal.children-overflow_add-result
children-overflow_add-result t c = omega (arith, c.loop-i.invariant.inside, c.requires.0.sizes.tape-fits)

pub children-returns : goal.children-returns
children-returns t c = loop_last c.requires.0 c.loop-i.invariant c.loop-i-test.false (as_spaced c.end.ensures) (omega arith)

pub node-at-requires : goal.node-at-requires
node-at-requires t c = fact_fits c.requires.0

pub node-head_at-h-requires : goal.node-head_at-h-requires
node-head_at-h-requires t c = c.requires.0.inside

pub node-skip-end-requires : goal.node-skip-end-requires
node-skip-end-requires t c = opened-at c.requires.0

pub node-format_error_verbatim-ctx-requires : goal.node-format_error_verbatim-ctx-requires
node-format_error_verbatim-ctx-requires t c = copy_ready c.requires.0 c.head_at-h.ensures

pub node-children-requires-in-ListClause : goal.node-children-requires-in-ListClause
node-children-requires-in-ListClause t c = (omega (arith, c.decreases), (c.requires.0, has-list _ _ (sym c.in-ListClause.is ∙ c.routine_of.ensures)))

pub node-returns-then-is_copied : goal.node-returns-then-is_copied
node-returns-then-is_copied t c = node-copied c.requires.0 c.requires.1 c.head_at-h.ensures (decided c.requires.0 c.requires.1 c.at.ensures c.is_copied.ensures c.if-is_copied.true) c.skip-end.ensures (c.format_error_verbatim-ctx.ensures c.args.settings.now.config) c.note_none.ensures

-- `routine_done` is the one lemma of all routines; each goal has a name of its own for its call
pub node-returns-in-File : goal.node-returns-in-File
node-returns-in-File t c = routine_done c.requires.0 c.requires.1 c.routine_of.ensures c.in-File.is c.at.ensures c.is_copied.ensures c.if-is_copied.false c.children.ensures

pub node-returns-in-QueryList : goal.node-returns-in-QueryList
node-returns-in-QueryList t c = routine_done c.requires.0 c.requires.1 c.routine_of.ensures c.in-QueryList.is c.at.ensures c.is_copied.ensures c.if-is_copied.false c.children-in-QueryList.ensures

pub node-returns-in-SelectStatement : goal.node-returns-in-SelectStatement
node-returns-in-SelectStatement t c = routine_done c.requires.0 c.requires.1 c.routine_of.ensures c.in-SelectStatement.is c.at.ensures c.is_copied.ensures c.if-is_copied.false c.children-in-SelectStatement.ensures

pub node-returns-in-SelectClause : goal.node-returns-in-SelectClause
node-returns-in-SelectClause t c = routine_done c.requires.0 c.requires.1 c.routine_of.ensures c.in-SelectClause.is c.at.ensures c.is_copied.ensures c.if-is_copied.false c.children-in-SelectClause.ensures

pub node-returns-in-SimpleClause : goal.node-returns-in-SimpleClause
node-returns-in-SimpleClause t c = routine_done c.requires.0 c.requires.1 c.routine_of.ensures c.in-SimpleClause.is c.at.ensures c.is_copied.ensures c.if-is_copied.false c.children-in-SimpleClause.ensures

pub node-returns-in-ListClause : goal.node-returns-in-ListClause
node-returns-in-ListClause t c = routine_done c.requires.0 c.requires.1 c.routine_of.ensures c.in-ListClause.is c.at.ensures c.is_copied.ensures c.if-is_copied.false c.children-in-ListClause.ensures

pub node-returns-in-SettingsClause : goal.node-returns-in-SettingsClause
node-returns-in-SettingsClause t c = routine_done c.requires.0 c.requires.1 c.routine_of.ensures c.in-SettingsClause.is c.at.ensures c.is_copied.ensures c.if-is_copied.false c.children-in-SettingsClause.ensures

pub node-returns-in-WithClause : goal.node-returns-in-WithClause
node-returns-in-WithClause t c = routine_done c.requires.0 c.requires.1 c.routine_of.ensures c.in-WithClause.is c.at.ensures c.is_copied.ensures c.if-is_copied.false c.children-in-WithClause.ensures

pub node-returns-in-JoinClause : goal.node-returns-in-JoinClause
node-returns-in-JoinClause t c = routine_done c.requires.0 c.requires.1 c.routine_of.ensures c.in-JoinClause.is c.at.ensures c.is_copied.ensures c.if-is_copied.false c.children-in-JoinClause.ensures

pub node-returns-in-Inline : goal.node-returns-in-Inline
node-returns-in-Inline t c = routine_done c.requires.0 c.requires.1 c.routine_of.ensures c.in-Inline.is c.at.ensures c.is_copied.ensures c.if-is_copied.false c.children-in-Inline.ensures

pub node-returns-in-CommaList : goal.node-returns-in-CommaList
node-returns-in-CommaList t c = routine_done c.requires.0 c.requires.1 c.routine_of.ensures c.in-CommaList.is c.at.ensures c.is_copied.ensures c.if-is_copied.false c.children-in-CommaList.ensures

pub node-returns-in-InlineCommaList : goal.node-returns-in-InlineCommaList
node-returns-in-InlineCommaList t c = routine_done c.requires.0 c.requires.1 c.routine_of.ensures c.in-InlineCommaList.is c.at.ensures c.is_copied.ensures c.if-is_copied.false c.children-in-InlineCommaList.ensures

pub node-returns-in-BinaryExpression : goal.node-returns-in-BinaryExpression
node-returns-in-BinaryExpression t c = routine_done c.requires.0 c.requires.1 c.routine_of.ensures c.in-BinaryExpression.is c.at.ensures c.is_copied.ensures c.if-is_copied.false c.children-in-BinaryExpression.ensures

pub node-returns-in-UnaryExpression : goal.node-returns-in-UnaryExpression
node-returns-in-UnaryExpression t c = routine_done c.requires.0 c.requires.1 c.routine_of.ensures c.in-UnaryExpression.is c.at.ensures c.is_copied.ensures c.if-is_copied.false c.children-in-UnaryExpression.ensures

pub node-returns-in-FunctionCall : goal.node-returns-in-FunctionCall
node-returns-in-FunctionCall t c = routine_done c.requires.0 c.requires.1 c.routine_of.ensures c.in-FunctionCall.is c.at.ensures c.is_copied.ensures c.if-is_copied.false c.children-in-FunctionCall.ensures

pub node-returns-in-CaseExpression : goal.node-returns-in-CaseExpression
node-returns-in-CaseExpression t c = routine_done c.requires.0 c.requires.1 c.routine_of.ensures c.in-CaseExpression.is c.at.ensures c.is_copied.ensures c.if-is_copied.false c.children-in-CaseExpression.ensures

pub node-returns-in-WhenClause : goal.node-returns-in-WhenClause
node-returns-in-WhenClause t c = routine_done c.requires.0 c.requires.1 c.routine_of.ensures c.in-WhenClause.is c.at.ensures c.is_copied.ensures c.if-is_copied.false c.children-in-WhenClause.ensures

pub node-returns-in-Subquery : goal.node-returns-in-Subquery
node-returns-in-Subquery t c = routine_done c.requires.0 c.requires.1 c.routine_of.ensures c.in-Subquery.is c.at.ensures c.is_copied.ensures c.if-is_copied.false c.children-in-Subquery.ensures

pub node-returns-in-ParenList : goal.node-returns-in-ParenList
node-returns-in-ParenList t c = routine_done c.requires.0 c.requires.1 c.routine_of.ensures c.in-ParenList.is c.at.ensures c.is_copied.ensures c.if-is_copied.false c.children-in-ParenList.ensures

pub node-returns-in-BracketList : goal.node-returns-in-BracketList
node-returns-in-BracketList t c = routine_done c.requires.0 c.requires.1 c.routine_of.ensures c.in-BracketList.is c.at.ensures c.is_copied.ensures c.if-is_copied.false c.children-in-BracketList.ensures

pub node-returns-in-InlineNoSpaces : goal.node-returns-in-InlineNoSpaces
node-returns-in-InlineNoSpaces t c = routine_done c.requires.0 c.requires.1 c.routine_of.ensures c.in-InlineNoSpaces.is c.at.ensures c.is_copied.ensures c.if-is_copied.false c.children-in-InlineNoSpaces.ensures

pub node-returns-in-BraceList : goal.node-returns-in-BraceList
node-returns-in-BraceList t c = routine_done c.requires.0 c.requires.1 c.routine_of.ensures c.in-BraceList.is c.at.ensures c.is_copied.ensures c.if-is_copied.false c.children-in-BraceList.ensures

pub node-returns-in-DataType : goal.node-returns-in-DataType
node-returns-in-DataType t c = routine_done c.requires.0 c.requires.1 c.routine_of.ensures c.in-DataType.is c.at.ensures c.is_copied.ensures c.if-is_copied.false c.children-in-DataType.ensures

pub node-returns-in-InlineTightParens : goal.node-returns-in-InlineTightParens
node-returns-in-InlineTightParens t c = routine_done c.requires.0 c.requires.1 c.routine_of.ensures c.in-InlineTightParens.is c.at.ensures c.is_copied.ensures c.if-is_copied.false c.children-in-InlineTightParens.ensures

pub node-returns-in-AlterCommandList : goal.node-returns-in-AlterCommandList
node-returns-in-AlterCommandList t c = routine_done c.requires.0 c.requires.1 c.routine_of.ensures c.in-AlterCommandList.is c.at.ensures c.is_copied.ensures c.if-is_copied.false c.children-in-AlterCommandList.ensures

pub node-returns-in-UnionClause : goal.node-returns-in-UnionClause
node-returns-in-UnionClause t c = routine_done c.requires.0 c.requires.1 c.routine_of.ensures c.in-UnionClause.is c.at.ensures c.is_copied.ensures c.if-is_copied.false c.children-in-UnionClause.ensures

pub node-returns-in-Passthrough : goal.node-returns-in-Passthrough
node-returns-in-Passthrough t c = routine_done c.requires.0 c.requires.1 c.routine_of.ensures c.in-Passthrough.is c.at.ensures c.is_copied.ensures c.if-is_copied.false c.children-in-Passthrough.ensures
