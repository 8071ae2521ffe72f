-- The laws by which the routines and the dispatch meet their promises, one for each kind of need.
use mathlib.Core.Path.{◌≡◌, refl, sym, ap, subst, ◌∙◌}
use mathlib.Core.Bool.{Bool, true, false, cond, not, ◌&&◌, ◌||◌}
use mathlib.Core.List.{List, map}
use Prim.Native.Nat.{ℕ, ◌+◌, ◌-◌, ◌*◌, ◌≤◌, ◌<◌}
use native.Mathlib.Omega.{arith}
use lib.ListN.{length, get_or, replicate}
use lib.Dec.{eqb}
use borrow.Author.Tests.{eqb-true, eqb-false}
use Rattle.context.specs.Cells.{Text}
use Rattle.context.specs.Store.{Store, Room}
use Rattle.context.specs.declared.FormatConfig.{FormatConfig}
use Rattle.context.specs.declared.FormatterContext.{FormatterContext}
use Rattle.tape.specs.declared.Head.{Head}
use Rattle.tape.specs.declared.Passed.{Passed}
use Rattle.tape.specs.Kinds.{Error, QueryList}
use Rattle.tape.specs.Tree.{Tree, Children, done, token, node, size, height, has_error_child, count_list_items, several_list_items, copied, EachNode}
use Rattle.tape.specs.Tape.{head_at}
use Rattle.tape.specs.SpelledAt.{SpelledAt, NodeAt, Skipped}
use Rattle.tape.specs.NodeFacts.{facts_at, notes_several, NodeFacts, NotedNode}
use Rattle.tape.proofs.Trees.{some_size, spelled-inside, spelled-byte, spelled-close, spelled-token, spelled-node, spelled-one}
use Rattle.layout.specs.declared.Local.{Local}
use Rattle.layout.specs.declared.Routine.{Routine}
use Rattle.layout.specs.Arms.{Spacing, seen, Arms}
use Rattle.layout.specs.FormatNode.{arms_of, routine_of, format_node}
use Rattle.layout.specs.Calls.{Call, put_spacing, act_at, format_error_verbatim, walk, calls}
use Rattle.layout.specs.Run.{run_spacing, run}
use Rattle.layout.specs.TokenMap.{Seat, seat_after, no_places, places, places_from}
use Rattle.layout.proofs.Running.{run-append, run-spacing}
use Rattle.token_map.specs.Notes.{noted, note_all}
use Rattle.token_map.specs.Signs.{place_by}
use Rattle.token_map.specs.declared.Signs.{Signs}
use Rattle.token_map.proofs.Noting.{note_all-append}
use Rattle.token_map.specs.Signed.{Signed}
use Rattle.token_map.proofs.Placing.{seat-of_run, note-right}
use Rattle.tokens.specs.TokenPromises.{Ran, Spaced, Acted}
use Rattle.formatter.specs.declared.Walk.{Walk}
use Rattle.formatter.specs.KnownArms.{noted_copied}
use Rattle.formatter.specs.RoutinePromises.{Grew, NodeReady, RoutineDone, NodeDone, seat}
use Rattle.formatter.proofs.Copied.{copied-noted}

-- ── the calls of a row of children

module _ (config : FormatConfig) (source : Text) (r : Arms) (l : Local) (w : Store) where
  abbrev play : List Call → Store → Store
  play = run config source

  run-done : play (walk format_node source r l done) w ≡ run_spacing (r.at_end l) w
  unfolding walk
  run-done = run-spacing config source (r.at_end l) w

  run-token : (h : Head) (rest : Children)
      → play (walk format_node source r l (token h rest)) w
      ≡ play (walk format_node source r (r.at_token l (seen source h)).0 rest) (play (map (act_at h) (r.at_token l (seen source h)).1) w)
  unfolding walk
  run-token h rest = run-append config source (map (act_at h) (r.at_token l (seen source h)).1) _ w

  run-node : (h : Head) (kids rest : Children) (N : Local × List Spacing × List Spacing) → r.at_node l h.kind (count_list_items kids) ≡ N
      → play (walk format_node source r l (node h kids rest)) w
      ≡ play (walk format_node source r N.0 rest) (run_spacing N.2 (play (calls format_node source (record { head = h; kids = kids })) (run_spacing N.1 w)))
  unfolding walk calls
  run-node h kids rest N e =
      let a = r.at_node l h.kind (count_list_items kids) in
      let inside = calls format_node source (record { head = h; kids = kids }) in
      rw (run-append config source (map put_spacing a.1), run-append config source inside, run-append config source (map put_spacing a.2), run-spacing config source a.1, run-spacing config source a.2, e)

-- ── the places of a row of children's tokens

module _ (config : FormatConfig) (source : Text) where
  abbrev seated : Store → Seat
  seated w = seat w.0

  -- what the calls make of a store, where they are known to have made w
  seat-made : (cs : List Call) (v : Store) {w : Store} → w ≡ run config source cs v → seat_after config source cs (seated v) ≡ seated w
  seat-made cs v e = sym (seat-of_run config source cs v) ∙ ap seated (sym e)

  seat-spaced : (xs : List Spacing) (v : Store) {w : Store} → w ≡ run_spacing xs v → seat_after config source (map put_spacing xs) (seated v) ≡ seated w
  seat-spaced xs v e = seat-made (map put_spacing xs) v (e ∙ sym (run-spacing config source xs v))

  module _ (r : Arms) (l : Local) where
    abbrev from : Children → Seat → List ℕ
    from = places config source format_node r l

    notes-token : {signs : Signs} → Signed signs r → (h : Head) (rest : Children) (v : Store) {w : Store} (ns : List ℕ) → w ≡ run config source (map (act_at h) (r.at_token l (seen source h)).1) v
        → note_all (from (token h rest) (seated v)) ns
        ≡ note_all (places config source format_node r (r.at_token l (seen source h)).0 rest (seated w)) (noted (place_by signs source h w.0.position) ns)
    unfolding places note_all
    notes-token {signs} g h rest v {w} ns e =
        let a = r.at_token l (seen source h) in
        let k = note-right g l h config source v.0 v.1 in
        let u = seat-made (map (act_at h) a.1) v e in
        cc

    notes-node : (h : Head) (kids rest : Children) (N : Local × List Spacing × List Spacing) (v w x : Store) {y : Store} (ns : List ℕ) → r.at_node l h.kind (count_list_items kids) ≡ N
        → w ≡ run_spacing N.1 v → x ≡ run config source (calls format_node source (record { head = h; kids = kids })) w → y ≡ run_spacing N.2 x
        → note_all (from (node h kids rest) (seated v)) ns
        ≡ note_all (places config source format_node r N.0 rest (seated y)) (note_all (places_from config source format_node (record { head = h; kids = kids }) (seated w)) ns)
    unfolding places places_from calls
    notes-node h kids rest N v w x {y} ns e before inside after =
        let cs = calls format_node source (record { head = h; kids = kids }) in
        let t : Tree = record { head = h; kids = kids } in
        rw (e, seat-spaced N.1 v before, seat-made cs w inside, seat-spaced N.2 x after) (note_all-append (places_from config source format_node t (seated w)) _ ns)

-- ── the loop over a node's children; Q is the routine, once it is known

pub record Rest (source : Text) (config : FormatConfig) (at : ℕ) (R : Children → Arms) (Q : Arms) (c : FormatterContext) (xs ys ms ns : List ℕ) (i : ℕ) (ctx : FormatterContext) (l : Local) (left all : Children) : Type 0 where
  pub at-end : at + 11 + size all ≡ i + size left
  pub same-run : run config source (walk format_node source (R all) (R all).begin all) (c, xs) ≡ run config source (walk format_node source Q l left) (ctx, ys)
  pub same-notes : note_all (places config source format_node (R all) (R all).begin all (seat c)) ms ≡ note_all (places config source format_node Q l left (seat ctx)) ns

pub record Loop (source tape facts : List ℕ) (config : FormatConfig) (left at : ℕ) (R : Children → Arms) (Q : Arms) (c : FormatterContext) (xs ys ms ns : List ℕ) (i : ℕ) (ctx : FormatterContext) (l : Local) : Type 0 where
  pub inside : i < length tape
  pub past : at + 11 ≤ i
  pub grew : Grew 11 at c i ctx
  pub same : length ys ≡ length xs
  pub same_map : length ns ≡ length ms
  pub kids : Children
  pub spelled : SpelledAt (length source) tape i kids
  pub low : height kids ≤ left
  pub noted : EachNode (NotedNode facts) kids
  pub rest : (all : Children) → SpelledAt (length source) tape (at + 11) all → Rest source config at R Q c xs ys ms ns i ctx l kids all

pub loop_first : {source tape facts : List ℕ} {config : FormatConfig} {left at : ℕ} {c : FormatterContext} (R : Children → Arms) (Q : Arms) (xs ms : List ℕ)
    → NodeReady source tape facts config left at c → ((all : Children) → SpelledAt (length source) tape (at + 11) all → R all ≡ Q)
    → Loop source tape facts config left at R Q c xs xs ms ms (at + 11) c Q.begin
loop_first {source} {tape} {facts} {config} {left} {at} {c} R Q xs ms p e =
    record {
      inside = spelled-inside _ _ _ p.kids p.spelled;
      past = omega arith;
      grew = omega arith;
      same = refl;
      same_map = refl;
      kids = p.kids;
      spelled = p.spelled;
      low = p.low;
      noted = p.noted.1;
      rest = λ all z.
          let s = spelled-one _ _ _ _ p.kids all p.spelled z in
          record {
            at-end = omega (arith, ap size s);
            same-run = let k = e all z in cc;
            same-notes = let k = e all z in cc;
          };
    }

-- the node's byte lies in the facts
pub fact_fits : {source tape facts : List ℕ} {config : FormatConfig} {left at : ℕ} {c : FormatterContext} → NodeReady source tape facts config left at c → at < 11 * length facts
fact_fits p = omega (arith, p.inside, p.sizes.facts_fit)

-- what the check has noted of the node
pub node-noted : {source tape facts : List ℕ} {config : FormatConfig} {left at : ℕ} {c : FormatterContext} → NodeReady source tape facts config left at c → (kids : Children)
    → SpelledAt (length source) tape (at + 11) kids → NodeFacts (facts_at facts at) (head_at tape at).kind kids
unfolding head_at
node-noted {tape = tape} {facts = facts} {at = at} p kids z =
    subst (NodeFacts (facts_at facts at) (head_at tape at).kind) (spelled-one _ _ _ _ p.kids kids p.spelled z) p.noted.0

pub opened-at : {source tape facts : List ℕ} {config : FormatConfig} {left at : ℕ} {c : FormatterContext} → NodeReady source tape facts config left at c → NodeAt tape at
opened-at p = record { len = _; kids = p.kids; inside = p.inside; spelled = p.spelled }

module _ {source tape facts : List ℕ} {config : FormatConfig} {left at : ℕ} {R : Children → Arms} {Q : Arms} {c : FormatterContext} {xs ys ms ns : List ℕ} {i : ℕ} {ctx : FormatterContext} {l : Local}
    (p : NodeReady source tape facts config left at c) (v : Loop source tape facts config left at R Q c xs ys ms ns i ctx l) where
  -- a command that is no close opens a node if it is no token
  opens : ((get_or tape i 0 ≡ 3) → ⊥) → ((get_or tape i 0 ≡ 2) → ⊥) → get_or tape i 0 ≡ 1
  opens e f = let b = spelled-byte _ _ _ v.kids v.spelled in omega arith

  pub loop_fits : ((get_or tape i 0 ≡ 3) → ⊥) → i + 11 ≤ length tape
  loop_fits e = go (eqb (get_or tape i 0) 2) refl
    where
      go : (t : Bool) → eqb (get_or tape i 0) 2 ≡ t → i + 11 ≤ length tape
      go true q = (spelled-token _ _ _ v.kids v.spelled (eqb-true _ _ q)).2.inside
      go false q = (spelled-node _ _ _ v.kids v.spelled (opens e (eqb-false _ _ q))).3.inside

  -- a token

  pub token-ready : (h : Head) → get_or tape i 0 ≡ 2 → h ≡ head_at tape i → (length source ≤ 262144) × (h.start ≤ h.end) × (h.end ≤ length source) × Room 4 ctx
  token-ready h e q =
      let z = spelled-token _ _ _ v.kids v.spelled e in
      rw q (p.sizes.text, z.2.ordered, z.2.within, omega arith)

  pub token-next : {h : Head} {zs ls : List ℕ} {a : FormatterContext} {k : Local} {signs : Signs} → Signed signs Q → get_or tape i 0 ≡ 2 → h ≡ head_at tape i
      → Acted 4 config source h (Q.at_token l (seen source h)).1 ctx ys a zs → k ≡ (Q.at_token l (seen source h)).0 → ls ≡ noted (place_by signs source h a.position) ns → length zs ≡ length ys → length ls ≡ length ns
      → Loop source tape facts config left at R Q c xs zs ms ls (i + 11) a k
  unfolding size height
  token-next {h} {zs} {ls} {a} {k} {signs} g e q d m o n j =
      let z = spelled-token _ _ _ v.kids v.spelled e in
      record {
        inside = spelled-inside _ _ _ z.0 z.3;
        past = omega arith;
        grew = omega (arith, d.spent.level, d.spent.length, z.2.inside);
        same = n ∙ v.same;
        same_map = j ∙ v.same_map;
        kids = z.0;
        spelled = z.3;
        low = omega (arith, v.low, ap height z.1);
        noted = subst (EachNode (NotedNode facts)) z.1 v.noted;
        rest = λ all y. record {
          at-end = omega (arith, (v.rest all y).at-end, ap size z.1);
          same-run =
              let e = (v.rest all y).same-run in
              let t = run-token config source Q l (ctx, ys) h z.0 in
              cc;
          same-notes =
              let e = (v.rest all y).same-notes in
              let t = notes-token config source Q l g h z.0 (ctx, ys) ns d.did in
              cc;
        };
      }

  -- a node

  pub side_ready : Room 4 ctx
  side_ready = omega arith

  pub left-pos : ((get_or tape i 0 ≡ 3) → ⊥) → ((get_or tape i 0 ≡ 2) → ⊥) → 1 ≤ left
  unfolding height
  left-pos e f =
      let q = spelled-node _ _ _ v.kids v.spelled (opens e f) in
      omega (arith, v.low, ap height q.2)

  -- what the check has noted of the child
  pub child_noted : ((get_or tape i 0 ≡ 3) → ⊥) → ((get_or tape i 0 ≡ 2) → ⊥) → (kids : Children) → SpelledAt (length source) tape (i + 11) kids
      → notes_several (facts_at facts i) ≡ several_list_items kids
  unfolding head_at
  child_noted e f kids z =
      let q = spelled-node _ _ _ v.kids v.spelled (opens e f) in
      (subst (EachNode (NotedNode facts)) q.2 v.noted).0.several ∙ ap several_list_items (spelled-one _ _ _ _ q.0 kids q.4 z)

  pub node-ready : {h : Head} {n : ℕ} {a : FormatterContext} {x : List Spacing} {zs : List ℕ} → ((get_or tape i 0 ≡ 3) → ⊥) → ((get_or tape i 0 ≡ 2) → ⊥)
      → h ≡ head_at tape i → Spaced n x ctx ys a zs → n ≤ 4 → NodeReady source tape facts config (left - 1) i a × (h.kind ≡ (head_at tape i).kind)
  unfolding height
  node-ready e f r d h =
      let q = spelled-node _ _ _ v.kids v.spelled (opens e f) in (
        record {
          sizes = p.sizes;
          inside = q.3.inside;
          room = omega (arith, d.spent.level, d.spent.length);
          span = q.3.span;
          kids = q.0;
          spelled = q.4;
          low = omega (arith, v.low, ap height q.2);
          noted = let n = subst (EachNode (NotedNode facts)) q.2 v.noted in (n.0, n.1);
        },
        ap (λ (x : Head). x.kind) r,
      )

  pub node-next : {h : Head} {m n : ℕ} {a b : FormatterContext} {k : Local} {w : Walk} {zs us vs ls : List ℕ} (N : Local × List Spacing × List Spacing)
      → ((get_or tape i 0 ≡ 3) → ⊥) → ((get_or tape i 0 ≡ 2) → ⊥) → h ≡ head_at tape i
      → ((kids : Children) → SpelledAt (length source) tape (i + 11) kids → Q.at_node l h.kind (count_list_items kids) ≡ N)
      → Spaced m N.1 ctx ys a zs → NodeDone source tape config i a zs ns w us ls → k ≡ N.0 → Spaced n N.2 w.context us b vs
      → m ≤ 4 → n ≤ 4 → length vs ≡ length ys → length ls ≡ length ns → Loop source tape facts config left at R Q c xs vs ms ls w.at b k
  unfolding size height
  node-next {h} {a = a} {b = b} {k = k} {w = w} {zs = zs} {us = us} {vs = vs} {ls = ls} N e f q j before d kept after m4 n4 n o-map =
      let z = spelled-node _ _ _ v.kids v.spelled (opens e f) in
      let y = d.all z.0 z.4 in
      let o : SpelledAt (length source) tape w.at z.1 = subst (λ (x : ℕ). SpelledAt (length source) tape x z.1) (sym y.at) z.5 in
      record {
        inside = spelled-inside _ _ _ z.1 o;
        past = omega (arith, d.forward);
        grew = omega (arith, before.spent.level, before.spent.length, after.spent.level, after.spent.length, d.grew.level, d.grew.length);
        same = n ∙ v.same;
        same_map = o-map ∙ v.same_map;
        kids = z.1;
        spelled = o;
        low = omega (arith, v.low, ap height z.2);
        noted = (subst (EachNode (NotedNode facts)) z.2 v.noted).2;
        rest = λ all x. record {
          at-end = omega (arith, (v.rest all x).at-end, ap size z.2, y.at);
          same-run =
              let r = (v.rest all x).same-run in
              let t = run-node config source Q l (ctx, ys) h z.0 z.1 N (j z.0 z.4) in
              cc (before.did, y.did, after.did);
          same-notes =
              let r = (v.rest all x).same-notes in
              let t =
              notes-node config source Q l h z.0 z.1 N (ctx, ys) (a, zs) (w.context, us) ns (j z.0 z.4) before.did
              (y.did ∙ ap (λ (t : Head). run config source (calls format_node source (record { head = t; kids = z.0 })) (a, zs)) (sym q)) after.did in
              cc (y.notes);
        };
      }

  -- the end
  pub loop_last : {n : ℕ} {e : FormatterContext} {zs : List ℕ} → get_or tape i 0 ≡ 3 → Spaced n (Q.at_end l) ctx ys e zs → n ≤ 4
      → RoutineDone source tape config at R c xs ms (record { at = i + 1; context = e }) zs ns
  unfolding size places note_all
  loop_last {e = e} {zs = zs} q d h =
      let z = spelled-close _ _ _ v.kids v.spelled q in
      record {
        forward = omega (arith, v.past);
        inside = omega (arith, v.inside);
        grew = omega (arith, d.spent.level, d.spent.length);
        all = λ all x. record {
          at = omega (arith, (v.rest all x).at-end, ap size z);
          did = cc (d.did, run-done config source Q l (ctx, ys), (v.rest all x).same-run);
          notes = cc ((v.rest all x).same-notes);
        };
      }

-- ── the dispatch

module _ {source tape facts : List ℕ} {config : FormatConfig} {left at : ℕ} {c : FormatterContext} (p : NodeReady source tape facts config left at c) where
  pub copy_ready : {h : Head} → h ≡ head_at tape at → (length source ≤ 262144) × (h.start ≤ h.end → h.end ≤ length source) × Room 1 c
  copy_ready q = (p.sizes.text, rw q p.span, omega arith)

-- b says of the node that opens at i, by whatever its children are, whether it is copied
abbrev pub Decided : List ℕ → List ℕ → ℕ → ℕ → Bool → Type 0
Decided source tape i kind b = (kids : Children) → SpelledAt (length source) tape (i + 11) kids → b ≡ copied kind kids

-- by what the check has noted, and the kind that the caller read
module _ {source tape facts : List ℕ} {config : FormatConfig} {left at kind : ℕ} {c : FormatterContext} (p : NodeReady source tape facts config left at c) (q : kind ≡ (head_at tape at).kind) where
  pub decided : {r b : Bool} {f : ℕ} → f ≡ facts_at facts at → r ≡ noted_copied kind f → r ≡ b → Decided source tape at kind b
  decided s e t kids z =
      sym t ∙ e ∙ ap (noted_copied kind) s
      ∙ ap (λ (x : Bool). x && not (eqb kind QueryList)) ((node-noted p kids z).error ∙ ap (λ (x : ℕ). eqb x Error || has_error_child kids) (sym q))
      ∙ copied-noted kind kids

-- a node is copied or goes to its routine, by the kind that the caller read
by_kind : (config : FormatConfig) (source : Text) (h : Head) (kids : Children) (w : Store) {kind : ℕ} {b : Bool} → kind ≡ h.kind → b ≡ copied kind kids
    → run config source (cond b (format_error_verbatim h) (walk format_node source (format_node kind kids) (format_node kind kids).begin kids)) w
    ≡ run config source (calls format_node source (record { head = h; kids = kids })) w
unfolding calls
by_kind config source h kids w {kind} q e =
    cc

-- the same of the places
by_kind_places : (config : FormatConfig) (source : Text) (h : Head) (kids : Children) (w : Seat) (ms : List ℕ) {kind : ℕ} {b : Bool} → kind ≡ h.kind → b ≡ copied kind kids
    → note_all (cond b (no_places config source kids) (places config source format_node (format_node kind kids) (format_node kind kids).begin kids w)) ms
    ≡ note_all (places_from config source format_node (record { head = h; kids = kids }) w) ms
unfolding places_from
by_kind_places config source h kids w ms {kind} q e =
    cc

pub node-copied : {source tape facts : List ℕ} {config : FormatConfig} {left at kind : ℕ} {j : Passed} {c a : FormatterContext} {h : Head} {xs ys ms ns : List ℕ}
    → NodeReady source tape facts config left at c → kind ≡ (head_at tape at).kind → h ≡ head_at tape at → Decided source tape at kind true
    → Skipped tape at j → Ran 1 config source (format_error_verbatim h) c xs a ys → ns ≡ note_all (replicate j.tokens 0) ms
    → NodeDone source tape config at c xs ms (record { at = j.at; context = a }) ys ns
node-copied {source} {tape} {config} {at = at} {c = c} {xs = xs} {ms = ms} p q e o s d n =
    record {
      forward = s.forward;
      inside = s.inside;
      grew = omega (arith, d.spent.level, d.spent.length, s.past _ p.kids p.spelled, some_size p.kids);
      all = λ kids z. record {
        at = s.past _ kids z;
        did = let k = by_kind config source (head_at tape at) kids (c, xs) q (o kids z) in cc (d.did);
        notes =
            let k = by_kind_places config source (head_at tape at) kids (seat c) ms q (o kids z) in
            let u = s.counted _ kids z in
            cc;
      };
    }

node_by : {source tape : List ℕ} {config : FormatConfig} {at kind : ℕ} {c : FormatterContext} {xs ys ms ns : List ℕ} {w : Walk} (r : Routine)
    → kind ≡ (head_at tape at).kind → Decided source tape at kind false → r ≡ routine_of kind
    → RoutineDone source tape config at (arms_of r) c xs ms w ys ns → NodeDone source tape config at c xs ms w ys ns
unfolding format_node
node_by {source} {tape} {config} {at} {kind} {c} {xs} {ms = ms} r q o e d =
    record {
      forward = d.forward;
      inside = d.inside;
      grew = d.grew;
      all = λ kids z.
          let y = d.all kids z in
          record {
            at = y.at;
            did = let k = by_kind config source (head_at tape at) kids (c, xs) q (o kids z) in cc (y.did);
            notes = let k = by_kind_places config source (head_at tape at) kids (seat c) ms q (o kids z) in cc (y.notes);
          };
    }

-- the dispatch found r for the kind, which is s, and that the node is not copied
pub routine_done : {source tape facts : List ℕ} {config : FormatConfig} {left at kind : ℕ} {c : FormatterContext} {r s : Routine} {copies : Bool} {f : ℕ} {xs ys ms ns : List ℕ} {w : Walk}
    → NodeReady source tape facts config left at c → kind ≡ (head_at tape at).kind → r ≡ routine_of kind → r ≡ s → f ≡ facts_at facts at → copies ≡ noted_copied kind f → copies ≡ false
    → RoutineDone source tape config at (arms_of s) c xs ms w ys ns → NodeDone source tape config at c xs ms w ys ns
routine_done p q o e g n f d = node_by _ q (decided p q g n f) (sym e ∙ o) d
