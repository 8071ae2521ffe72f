-- What an accepted tape, and an accepted call, give to those that walk the tape; and when two texts are read alike.
use Prim.Native.Nat.{ℕ, ◌+◌, ◌≤◌}
use native.Mathlib.Omega.{arith}
use mathlib.Core.Path.{◌≡◌, refl, sym, ap, ◌∙◌}
use mathlib.Core.Bool.{Bool, true, false, true≢false, false≢true, cond}
use mathlib.Core.List.{List}
use lib.ListN.{length}
use lib.Dec.{ltb}
use borrow.Author.Tests.{ltb-false}
use Rattle.std.specs.Prelude.{Option, Some, None}
use Rattle.utf8.specs.Pieces.{first_ill_formed}
use Rattle.tape.specs.declared.Head.{Head}
use Rattle.tape.specs.declared.Fault.{Fault}
use Rattle.tape.specs.declared.Fault.TheVariants.{IndentWidth, CaseByte, TextTooLong, TapeTooLong}
use Rattle.std.specs.Prelude.{Result, Ok, Err}
use Rattle.tape.specs.declared.Refusal.{Refusal}
use Rattle.tape.specs.Tree.{Children, Tree, height, EachToken, EachNode}
use Rattle.tape.specs.Tape.{head_at, Command, ends, faulty, opens, is_token, closes, SpanTests, tests_of, Read, refused, got, and_then, by_root, by_end, command_at, checked_at, read_children, read_tape, read_tree, verdict}
use Rattle.tape.specs.Call.{by_place, read_input, read_call, let_pass}
use Rattle.tape.specs.SpelledAt.{AcceptedTape, AcceptedCall}
use Rattle.tape.proofs.KnownCommands.{framed_of, NodePasses, TokenPasses, known_of}
use Rattle.tape.proofs.Trees.{spelled-end, each-token, each-node}
use Rattle.tape.proofs.Reading.{held}
use Rattle.tape.proofs.SpanBounds.{token-in_text, node-in_text}
use Rattle.tape.proofs.LengthAlone.{length-alone}

no_tree : {f : Fault} {p : ℕ} → ◌≡◌ {A = Result (Unit {0}) Refusal} (Err (record { fault = f; at = p })) (Ok tt) → ⊥
no_tree u = cc

-- what an accepted tape is, and what 15 and 16 let pass in it
pub record AcceptedBy (tests : SpanTests) (tape : List ℕ) : Type 0 where
  pub accepted : AcceptedTape tests.length tape
  pub read : read_tape tests tape ≡ got accepted.tree (length tape)
  pub root : NodePasses tests accepted.tree.head
  pub tokens : EachToken (TokenPasses tests) accepted.tree.kids
  pub nodes : EachNode (λ h kids. NodePasses tests h) accepted.tree.kids

pub accepted-tape : (tests : SpanTests) (tape : List ℕ) → verdict (read_tape tests tape) ≡ Ok tt → AcceptedBy tests tape
unfolding read_tape
accepted-tape tests tape v = top (checked_at tests tape 0 0) refl v
  where
    after : Head → Children → ℕ → Read Tree
    after h kids p = by_end (command_at tape p) (record { head = h; kids = kids }) p

    end : (kids : Children) (p : ℕ) → checked_at tests tape 0 0 ≡ opens → read_children tests tape (length tape) 1 11 ≡ got kids p
        → (x : Command) → command_at tape p ≡ x → verdict (by_end x (record { head = head_at tape 0; kids = kids }) p) ≡ Ok tt → AcceptedBy tests tape
    end kids p e r ends w u =
        let s = held tests tape (length tape) 1 11 kids p r in
        let k = known_of tests tape 0 0 e in
        let out : p ≡ length tape = omega (arith, s.ends_at, spelled-end tests.length tape 11 kids s.spelled, framed_of tape p w) in
        let deep : 1 + height kids ≤ 64 = s.low (omega arith) in
        let read : read_tape tests tape ≡ got (record { head = head_at tape 0; kids = kids }) (length tape) = rw (e, r, w, out) in
        record {
          accepted =
              record {
                tree = record { head = head_at tape 0; kids = kids };
                read = sym (length-alone tests tape (ap let_pass read)) ∙ read;
                root = k.0;
                kids = s.spelled;
                whole = sym s.ends_at ∙ out;
                depth = omega arith;
              };
          read = read;
          root = k.2;
          tokens = s.tokens;
          nodes = s.nodes;
        }
    end kids p e r (faulty f) w u = absurd (no_tree u)
    end kids p e r opens w u = absurd (no_tree u)
    end kids p e r is_token w u = absurd (no_tree u)
    end kids p e r closes w u = absurd (no_tree u)

    mid : (r : Read Children) → checked_at tests tape 0 0 ≡ opens → read_children tests tape (length tape) 1 11 ≡ r
        → verdict (and_then r (after (head_at tape 0))) ≡ Ok tt → AcceptedBy tests tape
    mid (refused f p) e w u = absurd (no_tree u)
    mid (got kids p) e w u = end kids p e w (command_at tape p) refl u

    top : (x : Command) → checked_at tests tape 0 0 ≡ x → verdict (by_root tape x (λ h. and_then (read_children tests tape (length tape) 1 11) (after h))) ≡ Ok tt
        → AcceptedBy tests tape
    top ends e u = absurd (no_tree u)
    top (faulty f) e u = absurd (no_tree u)
    top opens e u = mid (read_children tests tape (length tape) 1 11) e refl u
    top is_token e u = absurd (no_tree u)
    top closes e u = absurd (no_tree u)

pub accepted-call : (width case : ℕ) (text tape : List ℕ) → verdict (read_call width case text tape) ≡ Ok tt
    → AcceptedCall width case text tape
unfolding read_call read_input
accepted-call width case text tape v =
    go (ltb 16 width) (ltb 1 case) (ltb 262144 (length text)) (first_ill_formed 0 text) (ltb 262144 (length tape)) refl refl refl refl refl v
  where
    go : (w c t : Bool) (h : Option ℕ) (n : Bool)
        → ltb 16 width ≡ w → ltb 1 case ≡ c → ltb 262144 (length text) ≡ t → first_ill_formed 0 text ≡ h → ltb 262144 (length tape) ≡ n
        → verdict (cond w (refused IndentWidth 0) (cond c (refused CaseByte 0) (cond t (refused TextTooLong 0) (by_place h (cond n (refused TapeTooLong 0) (read_tape (tests_of text) tape)))))) ≡ Ok tt
        → AcceptedCall width case text tape
    go true c t h n e1 e2 e3 e4 e5 u = absurd (no_tree u)
    go false true t h n e1 e2 e3 e4 e5 u = absurd (no_tree u)
    go false false true h n e1 e2 e3 e4 e5 u = absurd (no_tree u)
    go false false false (Some p) n e1 e2 e3 e4 e5 u = absurd (no_tree u)
    go false false false None true e1 e2 e3 e4 e5 u = absurd (no_tree u)
    go false false false None false e1 e2 e3 e4 e5 u =
        let a = accepted-tape (tests_of text) tape u in
        record {
          width_fits = ltb-false 16 width e1;
          case-fits = ltb-false 1 case e2;
          text-fits = ltb-false 262144 (length text) e3;
          well_formed = e4;
          tape-fits = ltb-false 262144 (length tape) e5;
          accepted = a.accepted;
          read = rw (e1, e2, e3, e4, e5) a.read;
          root = node-in_text text e4 a.accepted.tree.head a.root;
          tokens = each-token (token-in_text text e4) a.accepted.tree.kids a.tokens;
          nodes = each-node (λ h kids. node-in_text text e4 h) a.accepted.tree.kids a.nodes;
        }

-- ── two texts of one length

-- where 4, 15 and 16 let both pass, they are read alike
pub same-reading : (width case : ℕ) (a b tape : List ℕ) → length a ≡ length b
    → let_pass (read_call width case a tape) ≡ true → let_pass (read_call width case b tape) ≡ true
    → read_call width case a tape ≡ read_call width case b tape
unfolding read_call read_input
same-reading width case a b tape e u v =
    go (ltb 16 width) (ltb 1 case) (ltb 262144 (length a)) (ltb 262144 (length b)) (ltb 262144 (length tape)) (first_ill_formed 0 a) (first_ill_formed 0 b)
    (ap (ltb 262144) e) u v
  where
    if_read : Bool → Bool → Bool → Bool → Option ℕ → List ℕ → Read Tree
    if_read w c t n x text =
        cond w (refused IndentWidth 0) (cond c (refused CaseByte 0) (cond t (refused TextTooLong 0) (by_place x (cond n (refused TapeTooLong 0) (read_tape (tests_of text) tape)))))

    go : (w c s t n : Bool) (x y : Option ℕ) → s ≡ t → let_pass (if_read w c s n x a) ≡ true → let_pass (if_read w c t n y b) ≡ true → if_read w c s n x a ≡ if_read w c t n y b
    go true c s t n x y k u v = refl
    go false true s t n x y k u v = refl
    go false false true true n x y k u v = refl
    go false false true false n x y k u v = absurd (true≢false k)
    go false false false true n x y k u v = absurd (false≢true k)
    go false false false false n (Some p) y k u v = absurd (false≢true u)
    go false false false false n None (Some q) k u v = absurd (false≢true v)
    go false false false false true None None k u v = refl
    go false false false false false None None k u v = length-alone (tests_of a) tape u ∙ ap (λ n. read_tree n tape) e ∙ sym (length-alone (tests_of b) tape v)
