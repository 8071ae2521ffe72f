-- `token_finding` meets its contract: each answer by the tests that led to it.
use mathlib.Core.Path.{sym, ◌∙◌}
use Rattle.tape.specs.Tape.{tests_of, check_token}
use borrow.Author.Tests.{lt-ltb, le-ltb, not-true, not-false}
use Rattle.tape.proofs.commands.WellFormedText.token_finding.Goals as goal

pub returns-then-t-gt-ERROR_MAX_QUERY_SIZE_EXCEEDED : goal.returns-then-t-gt-ERROR_MAX_QUERY_SIZE_EXCEEDED
unfolding check_token
returns-then-t-gt-ERROR_MAX_QUERY_SIZE_EXCEEDED c = rw (lt-ltb _ _ c.if-t-gt-ERROR_MAX_QUERY_SIZE_EXCEEDED.true)

pub returns-then-t : goal.returns-then-t
unfolding check_token
returns-then-t c = rw (le-ltb _ _ c.if-t-gt-ERROR_MAX_QUERY_SIZE_EXCEEDED.false, lt-ltb _ _ c.if-t.true)

pub returns-then-self-t : goal.returns-then-self-t
unfolding check_token
returns-then-self-t c = rw (le-ltb _ _ c.if-t-gt-ERROR_MAX_QUERY_SIZE_EXCEEDED.false, le-ltb _ _ c.if-t.false, lt-ltb _ _ c.if-self-t.true)

pub returns-then-not-at_bounds : goal.returns-then-not-at_bounds
unfolding check_token
returns-then-not-at_bounds c =
    let inside = not-false ((tests_of c.args.self.text.now).inside_character c.args.t) (sym c.at_bounds.ensures ∙ c.if-not-at_bounds.true) in
    rw (le-ltb _ _ c.if-t-gt-ERROR_MAX_QUERY_SIZE_EXCEEDED.false, le-ltb _ _ c.if-t.false, le-ltb _ _ c.if-self-t.false, inside)

pub returns-then-word_not_ascii : goal.returns-then-word_not_ascii
unfolding check_token
returns-then-word_not_ascii c =
    let bounds = c.at_bounds in
    let outside = not-true ((tests_of c.args.self.text.now).inside_character c.args.t) (sym bounds.ensures ∙ c.if-not-at_bounds.false) in
    rw (le-ltb _ _ c.if-t-gt-ERROR_MAX_QUERY_SIZE_EXCEEDED.false, le-ltb _ _ c.if-t.false, le-ltb _ _ c.if-self-t.false, outside, sym c.word_not_ascii.ensures ∙ c.if-word_not_ascii.true)

pub returns : goal.returns
unfolding check_token
returns c =
    let bounds = c.at_bounds in
    let outside = not-true ((tests_of c.args.self.text.now).inside_character c.args.t) (sym bounds.ensures ∙ c.if-not-at_bounds.false) in
    rw (le-ltb _ _ c.if-t-gt-ERROR_MAX_QUERY_SIZE_EXCEEDED.false, le-ltb _ _ c.if-t.false, le-ltb _ _ c.if-self-t.false, outside, sym c.word_not_ascii.ensures ∙ c.if-word_not_ascii.false)
