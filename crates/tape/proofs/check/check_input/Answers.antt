-- `check_input` meets its contract: each answer by the tests that led to it.
use mathlib.Core.Path.{refl, sym, ◌∙◌}
use borrow.Author.Tests.{lt-ltb, le-ltb}
use Rattle.tape.specs.Call.{read_input}
use Rattle.tape.proofs.check.check_input.Goals as goal

pub returns-then-text-gt262144 : goal.returns-then-text-gt262144
unfolding read_input
returns-then-text-gt262144 c = rw (lt-ltb _ _ c.if-text-gt262144.true) (refl, tt)

pub returns-in-Some : goal.returns-in-Some
unfolding read_input
returns-in-Some c = rw (le-ltb _ _ c.if-text-gt262144.false, sym c.ill_formed_at-ill_formed.ensures ∙ c.in-Some.is) (refl, tt)

pub returns-then-tape-gt262144 : goal.returns-then-tape-gt262144
unfolding read_input
returns-then-tape-gt262144 c = rw (le-ltb _ _ c.if-text-gt262144.false, sym c.ill_formed_at-ill_formed.ensures ∙ c.in_default.is, lt-ltb _ _ c.if-tape-gt262144.true) (refl, tt)

pub returns : goal.returns
unfolding read_input
returns c = rw (le-ltb _ _ c.if-text-gt262144.false, sym c.ill_formed_at-ill_formed.ensures ∙ c.in_default.is, le-ltb _ _ c.if-tape-gt262144.false) c.check.ensures
