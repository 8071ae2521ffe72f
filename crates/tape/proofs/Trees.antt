-- Children on a tape: what the byte at a place says of them, that one row of children lies at a place, and that all spans lie within the text.
use Prim.Native.Nat.{ℕ, ◌+◌, ◌≤◌, ◌<◌}
use native.Mathlib.Omega.{arith}
use mathlib.Core.Path.{◌≡◌, refl, sym, ap, ◌∙◌, subst}
use mathlib.Core.Bool.{false}
use mathlib.Core.List.{List}
use lib.ListN.{length, get_or}
use Rattle.tape.specs.declared.Head.{Head}
use Rattle.tape.specs.Kinds.{not_carried}
use Rattle.tape.specs.Tree.{Children, done, token, node, size, EachToken, EachNode}
use Rattle.tape.specs.Tape.{head_at}
use Rattle.tape.specs.SpelledAt.{OpenAt, TokenAt, SpelledAt}

pub some_size : (c : Children) → 0 < size c
unfolding size
some_size done = omega arith
some_size (token h rest) = omega arith
some_size (node h kids rest) = omega arith

module _ (len : ℕ) (tape : List ℕ) where
  -- the children end within the tape
  pub spelled-end : (p : ℕ) (c : Children) → SpelledAt len tape p c → p + size c ≤ length tape
  unfolding SpelledAt size
  spelled-end p done l = l.inside
  spelled-end p (token h rest) l = omega (arith, spelled-end (p + 11) rest l.1)
  spelled-end p (node h kids rest) l = omega (arith, spelled-end (p + 11 + size kids) rest l.2)

  pub spelled-inside : (p : ℕ) (c : Children) → SpelledAt len tape p c → p < length tape
  spelled-inside p c l = omega (arith, some_size c, spelled-end p c l)

  pub spelled-byte : (p : ℕ) (c : Children) → SpelledAt len tape p c → (0 < get_or tape p 0) × (get_or tape p 0 ≤ 3)
  unfolding SpelledAt
  spelled-byte p done l = omega (arith, l.byte)
  spelled-byte p (token h rest) l = omega (arith, l.0.byte)
  spelled-byte p (node h kids rest) l = omega (arith, l.0.byte)

  -- what the byte at the place tells of the children
  pub spelled-close : (p : ℕ) (c : Children) → SpelledAt len tape p c → get_or tape p 0 ≡ 3 → c ≡ done
  unfolding SpelledAt
  spelled-close p done l b = refl
  spelled-close p (token h rest) l b = absurd (omega (arith, l.0.byte))
  spelled-close p (node h kids rest) l b = absurd (omega (arith, l.0.byte))

  pub spelled-token : (p : ℕ) (c : Children) → SpelledAt len tape p c → get_or tape p 0 ≡ 2
      → (rest : Children) × (c ≡ token (head_at tape p) rest) × TokenAt len tape p (head_at tape p) × SpelledAt len tape (p + 11) rest
  unfolding SpelledAt
  spelled-token p done l b = absurd (omega (arith, l.byte))
  spelled-token p (token h rest) l b = (rest, ap (λ x. token x rest) l.0.head, subst (TokenAt len tape p) l.0.head l.0, l.1)
  spelled-token p (node h kids rest) l b = absurd (omega (arith, l.0.byte))

  pub spelled-node : (p : ℕ) (c : Children) → SpelledAt len tape p c → get_or tape p 0 ≡ 1
      → (kids : Children) × (rest : Children) × (c ≡ node (head_at tape p) kids rest) × OpenAt len tape p (head_at tape p) × SpelledAt len tape (p + 11) kids
      × SpelledAt len tape (p + 11 + size kids) rest
  unfolding SpelledAt
  spelled-node p done l b = absurd (omega (arith, l.byte))
  spelled-node p (token h rest) l b = absurd (omega (arith, l.0.byte))
  spelled-node p (node h kids rest) l b = (kids, rest, ap (λ x. node x kids rest) l.0.head, subst (OpenAt len tape p) l.0.head l.0, l.1, l.2)

  -- each token's text lies in the text; each node's kind is carried, and so does its span unless it is reversed
  pub tokens-fit : (p : ℕ) (c : Children) → SpelledAt len tape p c → EachToken (λ h. (h.kind ≤ 257) × (h.start ≤ h.end) × (h.end ≤ len)) c
  unfolding SpelledAt
  tokens-fit p done l = tt
  tokens-fit p (token h rest) l = ((l.0.kind, l.0.ordered, l.0.within), tokens-fit (p + 11) rest l.1)
  tokens-fit p (node h kids rest) l = (tokens-fit (p + 11) kids l.1, tokens-fit (p + 11 + size kids) rest l.2)

  pub nodes-fit : (p : ℕ) (c : Children) → SpelledAt len tape p c → EachNode (λ h kids. (h.kind ≤ 257) × (not_carried h.kind ≡ false) × (h.start ≤ h.end → h.end ≤ len)) c
  unfolding SpelledAt
  nodes-fit p done l = tt
  nodes-fit p (token h rest) l = nodes-fit (p + 11) rest l.1
  nodes-fit p (node h kids rest) l =
      ((l.0.kind, l.0.carried, l.0.span), nodes-fit (p + 11) kids l.1, nodes-fit (p + 11 + size kids) rest l.2)

-- what follows from what holds of each token, of each node
pub each-token : {P Q : Head → Type 0} → ((h : Head) → P h → Q h) → (c : Children) → EachToken P c → EachToken Q c
each-token f done e = tt
each-token f (token h rest) e = (f h e.0, each-token f rest e.1)
each-token f (node h kids rest) e = (each-token f kids e.0, each-token f rest e.1)

pub each-node : {P Q : Head → Children → Type 0} → ((h : Head) (kids : Children) → P h kids → Q h kids) → (c : Children) → EachNode P c → EachNode Q c
each-node f done e = tt
each-node f (token h rest) e = each-node f rest e
each-node f (node h kids rest) e = (f h kids e.0, each-node f kids e.1, each-node f rest e.2)

-- one row of children lies at a place, whatever the text's length
pub spelled-one : (m n : ℕ) (tape : List ℕ) (p : ℕ) (c d : Children) → SpelledAt m tape p c → SpelledAt n tape p d → c ≡ d
unfolding SpelledAt
spelled-one m n tape p done d a b = sym (spelled-close n tape p d b a.byte)
spelled-one m n tape p (token h r) done a b = spelled-close m tape p (token h r) a b.byte
spelled-one m n tape p (token h r) (token k q) a b =
    ap (λ (x : Head). token x r) (a.0.head ∙ sym b.0.head) ∙ ap (token k) (spelled-one m n tape (p + 11) r q a.1 b.1)
spelled-one m n tape p (token h r) (node k c q) a b = absurd (omega (arith, a.0.byte, b.0.byte))
spelled-one m n tape p (node h c r) done a b = spelled-close m tape p (node h c r) a b.byte
spelled-one m n tape p (node h c r) (token k q) a b = absurd (omega (arith, a.0.byte, b.0.byte))
spelled-one m n tape p (node h c r) (node k d q) a b =
    let e = spelled-one m n tape (p + 11) c d a.1 b.1 in
    ap (λ (x : Head). node x c r) (a.0.head ∙ sym b.0.head)
    ∙ ap (λ (x : Children). node k x r) e
    ∙ ap (node k d) (spelled-one m n tape (p + 11 + size d) r q (subst (λ (x : Children). SpelledAt m tape (p + 11 + size x) r) e a.2) b.2)
