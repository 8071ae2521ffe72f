-- A reading that neither 15 nor 16 refuses is the one by the text's length alone, and that one is refused by neither.
use Prim.Native.Nat.{ℕ, zero, suc, ◌+◌}
use mathlib.Core.Path.{◌≡◌, refl, ap, ◌∙◌}
use mathlib.Core.Bool.{Bool, true, false, false≢true, cond, not, ◌&&◌, ◌||◌}
use mathlib.Core.List.{List}
use lib.ListN.{length, get_or}
use lib.Dec.{leb, ltb, eqb}
use Rattle.tape.specs.declared.Head.{Head}
use Rattle.tape.specs.declared.Fault.{Fault}
use Rattle.tape.specs.declared.Fault.TheVariants.{UnknownCommand, CutCommand, UnknownKind, KindNotCarried, SpanOutside, TooDeep, NotOneRoot, InsideCharacter, WordNotAscii}
use Rattle.std.specs.Prelude.{Result, Ok, Err}
use Rattle.tape.specs.Kinds.{not_carried, BareWord}
use Rattle.tape.specs.Tree.{Children, Tree}
use Rattle.tape.specs.Tape.{head_at, Command, ends, faulty, opens, is_token, closes, SpanTests, length_alone, Read, refused, got, and_then, by_root, by_end, by_finding, command_at, check_open, check_token, checked, checked_at, read_children, read_tape, read_tree, no_fault}
use Rattle.tape.specs.Call.{of_bytes, let_pass}
use Rattle.tape.proofs.Reading.{step}

-- a finding and a command that are no fault of the text's bytes
abbrev finding_passes : Result (Unit {0}) Fault → Bool
finding_passes (Ok u) = true
finding_passes (Err f) = not (of_bytes f)

abbrev command_passes : Command → Bool
command_passes ends = true
command_passes (faulty f) = not (of_bytes f)
command_passes opens = true
command_passes is_token = true
command_passes closes = true

-- ── a reading that goes on

then_alone : {A B : Type 0} (r r' : Read A) (k k' : A → ℕ → Read B) → let_pass (and_then r k) ≡ true → (let_pass r ≡ true → r ≡ r')
    → ((a : A) (q : ℕ) → let_pass (k a q) ≡ true → k a q ≡ k' a q) → and_then r k ≡ and_then r' k'
then_alone (refused f p) r' k k' e h g = ap (λ x. and_then x k') (h e)
then_alone (got a q) r' k k' e h g = g a q e ∙ ap (λ x. and_then x k') (h refl)

then_both : {A B : Type 0} (r : Read A) (k : A → ℕ → Read B) → let_pass r ≡ true → ((a : A) (q : ℕ) → let_pass (k a q) ≡ true) → let_pass (and_then r k) ≡ true
then_both (refused f p) k e g = e
then_both (got a q) k e g = g a q

end-passes : (x : Command) (t : Tree) (p : ℕ) → command_passes x ≡ true → let_pass (by_end x t p) ≡ true
end-passes ends t p e = refl
end-passes (faulty f) t p e = e
end-passes opens t p e = refl
end-passes is_token t p e = refl
end-passes closes t p e = refl

-- 6 and 7
command-passes : (tape : List ℕ) (p : ℕ) → command_passes (command_at tape p) ≡ true
unfolding command_at
command-passes tape p = go (leb (length tape) p) (eqb (get_or tape p 0) 1) (eqb (get_or tape p 0) 2) (eqb (get_or tape p 0) 3) (ltb (length tape) (p + 11))
  where
    go : (e b1 b2 b3 s : Bool)
        → command_passes (cond e ends (cond b1 (cond s (faulty CutCommand) opens) (cond b2 (cond s (faulty CutCommand) is_token) (cond b3 closes (faulty UnknownCommand))))) ≡ true
    go true b1 b2 b3 s = refl
    go false true b2 b3 true = refl
    go false true b2 b3 false = refl
    go false false true b3 true = refl
    go false false true b3 false = refl
    go false false false true s = refl
    go false false false false s = refl

module _ (tests : SpanTests) where
  abbrev alone : SpanTests
  alone = length_alone tests.length

  -- ── the tests of a command's operands

  open_alone : (depth : ℕ) (h : Head) → finding_passes (check_open tests depth h) ≡ true → check_open tests depth h ≡ check_open alone depth h
  unfolding check_open
  open_alone depth h =
      go (ltb 257 h.kind) (not_carried h.kind) (leb h.start h.end) (leb h.start h.end && ltb tests.length h.end) (tests.inside_character h) (leb 64 depth)
    where
      go : (k n o s i d : Bool)
          → finding_passes (cond k (Err UnknownKind) (cond n (Err KindNotCarried) (cond s (Err SpanOutside) (cond (o && i) (Err InsideCharacter) (cond d (Err TooDeep) no_fault))))) ≡ true
          → cond k (Err UnknownKind) (cond n (Err KindNotCarried) (cond s (Err SpanOutside) (cond (o && i) (Err InsideCharacter) (cond d (Err TooDeep) no_fault))))
          ≡ cond k (Err UnknownKind) (cond n (Err KindNotCarried) (cond s (Err SpanOutside) (cond (o && false) (Err InsideCharacter) (cond d (Err TooDeep) no_fault))))
      go true n o s i d e = refl
      go false true o s i d e = refl
      go false false o true i d e = refl
      go false false true false true d e = absurd (false≢true e)
      go false false true false false d e = refl
      go false false false false i d e = refl

  token-alone : (h : Head) → finding_passes (check_token tests h) ≡ true → check_token tests h ≡ check_token alone h
  unfolding check_token
  token-alone h = go (ltb 257 h.kind) (ltb h.end h.start || ltb tests.length h.end) (tests.inside_character h) (eqb h.kind BareWord) (tests.not_ascii h)
    where
      go : (k s i w a : Bool)
          → finding_passes (cond k (Err UnknownKind) (cond s (Err SpanOutside) (cond i (Err InsideCharacter) (cond (w && a) (Err WordNotAscii) no_fault)))) ≡ true
          → cond k (Err UnknownKind) (cond s (Err SpanOutside) (cond i (Err InsideCharacter) (cond (w && a) (Err WordNotAscii) no_fault)))
          ≡ cond k (Err UnknownKind) (cond s (Err SpanOutside) (cond (w && false) (Err WordNotAscii) no_fault))
      go true s i w a e = refl
      go false true i w a e = refl
      go false false true w a e = absurd (false≢true e)
      go false false false true true e = absurd (false≢true e)
      go false false false true false e = refl
      go false false false false a e = refl

  open_passes : (depth : ℕ) (h : Head) → finding_passes (check_open alone depth h) ≡ true
  unfolding check_open
  open_passes depth h = go (ltb 257 h.kind) (not_carried h.kind) (leb h.start h.end) (ltb tests.length h.end) (leb 64 depth)
    where
      go : (k n o s d : Bool)
          → finding_passes (cond k (Err UnknownKind) (cond n (Err KindNotCarried) (cond (o && s) (Err SpanOutside) (cond (o && false) (Err InsideCharacter) (cond d (Err TooDeep) no_fault))))) ≡ true
      go true n o s d = refl
      go false true o s d = refl
      go false false true true d = refl
      go false false true false true = refl
      go false false true false false = refl
      go false false false s true = refl
      go false false false s false = refl

  token-passes : (h : Head) → finding_passes (check_token alone h) ≡ true
  unfolding check_token
  token-passes h = go (ltb 257 h.kind) (ltb h.end h.start || ltb tests.length h.end) (eqb h.kind BareWord)
    where
      go : (k s w : Bool) → finding_passes (cond k (Err UnknownKind) (cond s (Err SpanOutside) (cond (w && false) (Err WordNotAscii) no_fault))) ≡ true
      go true s w = refl
      go false true w = refl
      go false false true = refl
      go false false false = refl

  -- ── a command

  by_finding_lem : (x y : Result (Unit {0}) Fault) (c : Command) → command_passes (by_finding x c) ≡ true → (finding_passes x ≡ true → x ≡ y) → by_finding x c ≡ by_finding y c
  by_finding_lem (Ok u) y c e h = ap (λ z. by_finding z c) (h refl)
  by_finding_lem (Err f) y c e h = ap (λ z. by_finding z c) (h e)

  finding_passes_lem : (x : Result (Unit {0}) Fault) (c : Command) → finding_passes x ≡ true → command_passes c ≡ true → command_passes (by_finding x c) ≡ true
  finding_passes_lem (Ok u) c e h = h
  finding_passes_lem (Err f) c e h = e

  module _ (tape : List ℕ) where
    checked-alone : (depth p : ℕ) → command_passes (checked_at tests tape depth p) ≡ true → checked_at tests tape depth p ≡ checked_at alone tape depth p
    unfolding checked_at
    checked-alone depth p = go (command_at tape p)
      where
        in_node : (z : Bool) → command_passes (cond z (faulty NotOneRoot) (by_finding (check_token tests (head_at tape p)) is_token)) ≡ true
            → cond z (faulty NotOneRoot) (by_finding (check_token tests (head_at tape p)) is_token) ≡ cond z (faulty NotOneRoot) (by_finding (check_token alone (head_at tape p)) is_token)
        in_node true e = refl
        in_node false e = by_finding_lem (check_token tests (head_at tape p)) (check_token alone (head_at tape p)) is_token e (token-alone (head_at tape p))

        go : (x : Command) → command_passes (checked tests tape depth p x) ≡ true → checked tests tape depth p x ≡ checked alone tape depth p x
        go ends e = refl
        go (faulty f) e = refl
        go opens e = by_finding_lem (check_open tests depth (head_at tape p)) (check_open alone depth (head_at tape p)) opens e (open_alone depth (head_at tape p))
        go is_token e = in_node (eqb depth 0) e
        go closes e = refl

    checked-passes : (depth p : ℕ) → command_passes (checked_at alone tape depth p) ≡ true
    unfolding checked_at
    checked-passes depth p = go (command_at tape p) (command-passes tape p)
      where
        in_node : (z : Bool) (c : Command) → command_passes c ≡ true → command_passes (cond z (faulty NotOneRoot) c) ≡ true
        in_node true c e = refl
        in_node false c e = e

        go : (x : Command) → command_passes x ≡ true → command_passes (checked alone tape depth p x) ≡ true
        go ends e = refl
        go (faulty f) e = e
        go opens e = finding_passes_lem (check_open alone depth (head_at tape p)) opens (open_passes depth (head_at tape p)) refl
        go is_token e = in_node (eqb depth 0) _ (finding_passes_lem (check_token alone (head_at tape p)) is_token (token-passes (head_at tape p)) refl)
        go closes e = in_node (eqb depth 0) closes refl

    -- ── the children

    step-passes : (f : ℕ → ℕ → Read Children) (depth p : ℕ) (x : Command) → let_pass (step tests tape f depth p x) ≡ true → command_passes x ≡ true
    step-passes f depth p ends e = refl
    step-passes f depth p (faulty g) e = e
    step-passes f depth p opens e = refl
    step-passes f depth p is_token e = refl
    step-passes f depth p closes e = refl

    children_alone : (n depth p : ℕ) → let_pass (read_children tests tape n depth p) ≡ true → read_children tests tape n depth p ≡ read_children alone tape n depth p
    unfolding read_children
    children_alone zero depth p e = refl
    children_alone (suc n) depth p e =
        go (checked_at tests tape depth p) e (children_alone n)
        ∙ ap (step alone tape (read_children alone tape n) depth p) (checked-alone depth p (step-passes (read_children tests tape n) depth p (checked_at tests tape depth p) e))
      where
        go : (x : Command) → let_pass (step tests tape (read_children tests tape n) depth p x) ≡ true
            → ((d q : ℕ) → let_pass (read_children tests tape n d q) ≡ true → read_children tests tape n d q ≡ read_children alone tape n d q)
            → step tests tape (read_children tests tape n) depth p x ≡ step alone tape (read_children alone tape n) depth p x
        go ends e ih = refl
        go (faulty f) e ih = refl
        go opens e ih =
            then_alone (read_children tests tape n (suc depth) (p + 11)) (read_children alone tape n (suc depth) (p + 11)) _ _ e (ih (suc depth) (p + 11))
            (λ kids q h. then_alone (read_children tests tape n depth q) (read_children alone tape n depth q) _ _ h (ih depth q) (λ rest r i. refl))
        go is_token e ih =
            then_alone (read_children tests tape n depth (p + 11)) (read_children alone tape n depth (p + 11)) _ _ e (ih depth (p + 11)) (λ rest r i. refl)
        go closes e ih = refl

    children_pass : (n depth p : ℕ) → let_pass (read_children alone tape n depth p) ≡ true
    unfolding read_children
    children_pass zero depth p = refl
    children_pass (suc n) depth p = go (checked_at alone tape depth p) (checked-passes depth p) (children_pass n)
      where
        go : (x : Command) → command_passes x ≡ true → ((d q : ℕ) → let_pass (read_children alone tape n d q) ≡ true)
            → let_pass (step alone tape (read_children alone tape n) depth p x) ≡ true
        go ends e ih = refl
        go (faulty f) e ih = e
        go opens e ih =
            then_both (read_children alone tape n (suc depth) (p + 11)) _ (ih (suc depth) (p + 11))
            (λ kids q. then_both (read_children alone tape n depth q) _ (ih depth q) (λ rest r. refl))
        go is_token e ih = then_both (read_children alone tape n depth (p + 11)) _ (ih depth (p + 11)) (λ rest r. refl)
        go closes e ih = refl

    -- ── the tree

    after : Head → Children → ℕ → Read Tree
    after h kids p = by_end (command_at tape p) (record { head = h; kids = kids }) p

    root-passes : (r : Read Children) (x : Command) → let_pass (by_root tape x (λ h. and_then r (after h))) ≡ true → command_passes x ≡ true
    root-passes r ends e = refl
    root-passes r (faulty f) e = e
    root-passes r opens e = refl
    root-passes r is_token e = refl
    root-passes r closes e = refl

    -- where neither 15 nor 16 refuses, only the text's length counts
    pub length-alone : let_pass (read_tape tests tape) ≡ true → read_tape tests tape ≡ read_tree tests.length tape
    unfolding read_tape read_tree after
    length-alone e =
        go (checked_at tests tape 0 0) e
        ∙ ap (λ x. by_root tape x (λ h. and_then (read_children alone tape (length tape) 1 11) (after h)))
        (checked-alone 0 0 (root-passes (read_children tests tape (length tape) 1 11) (checked_at tests tape 0 0) e))
      where
        go : (x : Command) → let_pass (by_root tape x (λ h. and_then (read_children tests tape (length tape) 1 11) (after h))) ≡ true
            → by_root tape x (λ h. and_then (read_children tests tape (length tape) 1 11) (after h)) ≡ by_root tape x (λ h. and_then (read_children alone tape (length tape) 1 11) (after h))
        go ends e = refl
        go (faulty f) e = refl
        go opens e =
            then_alone (read_children tests tape (length tape) 1 11) (read_children alone tape (length tape) 1 11) (after (head_at tape 0)) (after (head_at tape 0)) e
            (children_alone (length tape) 1 11) (λ kids q h. refl)
        go is_token e = refl
        go closes e = refl

    -- by the length alone neither refuses
    tree-passes : let_pass (read_tape alone tape) ≡ true
    unfolding read_tape after
    tree-passes = go (checked_at alone tape 0 0) (checked-passes 0 0)
      where
        go : (x : Command) → command_passes x ≡ true → let_pass (by_root tape x (λ h. and_then (read_children alone tape (length tape) 1 11) (after h))) ≡ true
        go ends e = refl
        go (faulty f) e = e
        go opens e =
            then_both (read_children alone tape (length tape) 1 11) (after (head_at tape 0)) (children_pass (length tape) 1 11)
            (λ kids q. end-passes (command_at tape q) (record { head = head_at tape 0; kids = kids }) q (command-passes tape q))
        go is_token e = refl
        go closes e = refl

pub alone_passes : (len : ℕ) (tape : List ℕ) → let_pass (read_tree len tape) ≡ true
unfolding read_tree
alone_passes len tape = tree-passes (length_alone len) tape
