-- Passing over a node on the tape: from i on, with d nodes open and n tokens passed, the children left of each lie one after the other; the last end at e,
-- and with their tokens there are k.
use Prim.Native.Nat.{ℕ, zero, suc, ◌+◌, ◌-◌, ◌≤◌, ◌<◌}
use native.Mathlib.Omega.{arith}
use native.Mathlib.Numerals.{add-one}
use native.Mathlib.Nat.{add-zero}
use mathlib.Core.Path.{◌≡◌, refl, sym, ap, ◌∙◌, subst}
use mathlib.Core.List.{List}
use lib.ListN.{length, get_or, length-append}
use Rattle.tape.specs.Tree.{Children, node, size, tokens}
use Rattle.tape.specs.Tape.{head_at}
use Rattle.tape.specs.SpelledAt.{NodeAt, Skipped, SpelledAt}
use Rattle.tape.proofs.Trees.{some_size, spelled-end, spelled-byte, spelled-close, spelled-token, spelled-node, spelled-one}

unfoldable pub Stacked : ℕ → List ℕ → ℕ → ℕ → ℕ → ℕ → ℕ → Type 0
Stacked len tape e k zero i n = (i ≡ e) × (n ≡ k)
Stacked len tape e k (suc d) i n = (c : Children) × SpelledAt len tape i c × Stacked len tape e k d (i + size c) (n + length (tokens c))

module _ (len : ℕ) (tape : List ℕ) (e k : ℕ) where
  stacked_first : (i : ℕ) (c : Children) → SpelledAt len tape i c → i + size c ≡ e → length (tokens c) ≡ k → Stacked len tape e k 1 i 0
  unfolding Stacked
  stacked_first i c l w v = (c, l, (w, omega (arith, v)))

  stacked_low : (d i n : ℕ) → Stacked len tape e k d i n → i + d ≤ e
  unfolding Stacked
  stacked_low zero i n s = omega (arith, s.0)
  stacked_low (suc d) i n s = omega (arith, some_size s.0, stacked_low d (i + size s.0) _ s.2)

  stacked_last : (d i n : ℕ) → d ≤ 0 → Stacked len tape e k d i n → (i ≡ e) × (n ≡ k)
  unfolding Stacked
  stacked_last zero i n z s = s
  stacked_last (suc d) i n z s = absurd (omega arith)

  stacked_close : (d i n : ℕ) → 0 < d → Stacked len tape e k d i n → get_or tape i 0 ≡ 3 → Stacked len tape e k (d - 1) (i + 1) n
  unfolding Stacked size tokens
  stacked_close zero i n z s b = absurd (omega arith)
  stacked_close (suc d) i n z s b =
      let less : d ≡ suc d - 1 = omega arith in
      subst (λ x. Stacked len tape e k x (i + 1) n) less
      (subst (Stacked len tape e k d (i + 1)) (add-zero n)
      (subst (λ x. Stacked len tape e k d (i + size x) (n + length (tokens x))) (spelled-close len tape i s.0 s.1 b) s.2))

  stacked_token : (d i n : ℕ) → 0 < d → Stacked len tape e k d i n → get_or tape i 0 ≡ 2 → Stacked len tape e k d (i + 11) (n + 1)
  unfolding Stacked size tokens
  stacked_token zero i n z s b = absurd (omega arith)
  stacked_token (suc d) i n z s b =
      let t = spelled-token len tape i s.0 s.1 b in
      let m = length (tokens t.0) in
      let far : i + (11 + size t.0) ≡ i + 11 + size t.0 = omega arith in
      let more : n + suc m ≡ n + 1 + m = omega arith in (
        t.0,
        t.3,
        subst (λ x. Stacked len tape e k d x (n + 1 + m)) far
            (subst (Stacked len tape e k d (i + (11 + size t.0))) more
            (subst (λ x. Stacked len tape e k d (i + size x) (n + length (tokens x))) t.1 s.2)),
      )

  stacked_open : (d i n : ℕ) → 0 < d → Stacked len tape e k d i n → (get_or tape i 0 ≡ 2 → ⊥) → (get_or tape i 0 ≡ 3 → ⊥)
      → Stacked len tape e k (d + 1) (i + 11) n
  unfolding Stacked size tokens
  stacked_open zero i n z s u v = absurd (omega arith)
  stacked_open (suc d) i n z s u v =
      let b = spelled-byte len tape i s.0 s.1 in
      let t = spelled-node len tape i s.0 s.1 (omega arith) in
      let l = length (tokens t.0) in
      let m = length (tokens t.1) in
      let far : i + (11 + size t.0 + size t.1) ≡ i + 11 + size t.0 + size t.1 = omega arith in
      let more : n + length (tokens (node (head_at tape i) t.0 t.1)) ≡ n + l + m = rw length-append (omega arith) in
      subst (λ x. Stacked len tape e k x (i + 11) n) (sym (add-one (suc d))) (
        t.0,
        t.4,
        (
          t.1,
          t.5,
          subst (λ x. Stacked len tape e k d x (n + l + m)) far
              (subst (Stacked len tape e k d (i + (11 + size t.0 + size t.1))) more
              (subst (λ x. Stacked len tape e k d (i + size x) (n + length (tokens x))) t.2 s.2)),
        ),
      )

-- the loop of skip, which began at the node at `at`
pub record Skipping (tape : List ℕ) (at i d n : ℕ) : Type 0 where
  pub node : NodeAt tape at
  pub few : n ≤ i
  pub stacked : Stacked node.len tape (at + 11 + size node.kids) (length (tokens node.kids)) d i n

module _ {tape : List ℕ} {at : ℕ} where
  pub skip_first : NodeAt tape at → Skipping tape at (at + 11) 1 0
  skip_first m =
      record {
        node = m;
        few = omega arith;
        stacked = stacked_first m.len tape _ _ (at + 11) m.kids m.spelled refl refl;
      }

  pub skip_low : {i d n : ℕ} → Skipping tape at i d n → i + d ≤ length tape
  skip_low {i} {d} {n} s =
      let m = s.node in
      omega (arith, stacked_low m.len tape _ _ d i n s.stacked, spelled-end m.len tape (at + 11) m.kids m.spelled)

  pub skip_close : {i d n : ℕ} → 0 < d → get_or tape i 0 ≡ 3 → Skipping tape at i d n → Skipping tape at (i + 1) (d - 1) n
  skip_close {i} {d} {n} z b s =
      record { node = s.node; few = omega (arith, s.few); stacked = stacked_close s.node.len tape _ _ d i n z s.stacked b }

  pub skip_token : {i d n : ℕ} → 0 < d → get_or tape i 0 ≡ 2 → Skipping tape at i d n → Skipping tape at (i + 11) d (n + 1)
  skip_token {i} {d} {n} z b s =
      record { node = s.node; few = omega (arith, s.few); stacked = stacked_token s.node.len tape _ _ d i n z s.stacked b }

  pub skip_open : {i d n : ℕ} → 0 < d → (get_or tape i 0 ≡ 2 → ⊥) → (get_or tape i 0 ≡ 3 → ⊥) → Skipping tape at i d n
      → Skipping tape at (i + 11) (d + 1) n
  skip_open {i} {d} {n} z u v s =
      record { node = s.node; few = omega (arith, s.few); stacked = stacked_open s.node.len tape _ _ d i n z s.stacked u v }

  pub skip_last : {i d n : ℕ} → d ≤ 0 → Skipping tape at i d n → Skipped tape at (record { at = i; tokens = n })
  skip_last {i} {d} {n} z s =
      let m = s.node in
      let e = stacked_last m.len tape _ _ d i n z s.stacked in
      record {
        forward = omega (arith, some_size m.kids, e.0);
        inside = omega (arith, spelled-end m.len tape (at + 11) m.kids m.spelled, e.0);
        past = λ len c l. e.0 ∙ ap (λ x. at + 11 + size x) (spelled-one m.len len tape (at + 11) m.kids c m.spelled l);
        counted = λ len c l. e.1 ∙ ap (λ x. length (tokens x)) (spelled-one m.len len tape (at + 11) m.kids c m.spelled l);
      }
