-- From the walk to the call.
use mathlib.Core.Path.{◌≡◌, refl, sym, ap, subst, ◌∙◌}
use mathlib.Core.List.{List, [], ◌∷◌, ◌++◌, map}
use Prim.Native.Nat.{ℕ, zero, suc, ◌+◌, ◌*◌, ◌^◌, ◌≤◌, ◌<◌}
use native.Mathlib.Omega.{arith}
use Rattle.std.proofs.lemmas.Bool.Decides.{nat_tests}
use lib.ListN.{length, take, drop, set, replicate, length-map}
use lib.Seq.{length-take-le, take_all, take-append_seam, take-take}
use Rattle.utf8.specs.Trimming.{trimmed_length}
use Rattle.utf8.proofs.Trimming.{trimmed-le}
use Rattle.context.specs.Cells.{Cell, bytes_of}
use Rattle.context.specs.Splice.{splice}
use Rattle.context.specs.Context.{new_state, finish}
use Rattle.context.specs.Store.{new, advanced, Store, appended}
use Rattle.context.specs.declared.FormatConfig.{FormatConfig}
use Rattle.context.specs.declared.FormatterContext.{FormatterContext}
use Rattle.context.proofs.Splicing.{splice-covers}
use Rattle.context.proofs.Trimming.{after_none}
use Rattle.tape.specs.declared.Head.{Head}
use Rattle.tape.specs.declared.Passed.{Passed}
use Rattle.std.specs.Prelude.{Ok, Err}
use Rattle.tape.specs.declared.Refusal.{Refusal}
use Rattle.tape.specs.Tree.{Tree, tokens}
use Rattle.tape.specs.NodeFacts.{Noted, NotedOf}
use Rattle.tape.specs.Tape.{Read, refused, got, read_tree, head_at, verdict}
use Rattle.tape.specs.Call.{read_call}
use Rattle.tape.specs.SpelledAt.{AcceptedCall, NodeAt, Skipped}
use Rattle.tape.proofs.Acceptance.{accepted-call}
use Rattle.layout.specs.declared.Answer.{Answer}
use Rattle.layout.specs.declared.Refused.TheVariants.{Input}
use Rattle.layout.specs.FormatNode.{format_node}
use Rattle.layout.specs.Calls.{calls}
use Rattle.layout.specs.Layout.{original, pieces_of, format}
use Rattle.layout.specs.TokenMap.{places_from, no_spot, entry, token_map}
use Rattle.layout.specs.MapCall.{flat, numbers, Mapped, mapped}
use Rattle.layout.specs.Outcome.{refusal, laid, of_read, config_of, outcome, Result, answer_of, laid_out}
use Rattle.layout.specs.SpanStarts.{SpansStart}
use Rattle.layout.proofs.EachCall.{each-call}
use Rattle.layout.proofs.TokenMaps.{tokens-size, places_count, map-count}
use Rattle.layout.proofs.PieceStarts.{StartsAt, TokenStarts, spans_start}
use Rattle.layout.proofs.TwoCalls.{got_same}
use Rattle.layout.proofs.Running.{after, run-appends, kept, finish-none, finish-length, finish-stored}
use Rattle.formatter.specs.declared.Walk.{Walk}
use Rattle.token_map.specs.Spots.{spots}
use Rattle.token_map.proofs.NotedSpots.{noted-spots}
use Rattle.formatter.specs.RoutinePromises.{NodeReady, NodeDone}
use Rattle.formatter.specs.Entry.{Ready, all_cells, Trims, Notes, WalkedInto, Holds, Fills, LaysOut, MapFits, Placed, MapFills, MapsOut}

-- ── lists

take-splice : (k : ℕ) (bs xs : List ℕ) → k ≤ length bs → k ≤ length xs → take k (splice 0 bs xs) ≡ take k bs
unfolding splice
take-splice zero bs xs h l = refl
take-splice (suc k) (b ∷ bs) (x ∷ xs) h l = ap {B = List ℕ} (λ r. b ∷ r) (take-splice k bs xs (omega arith) (omega arith))
take-splice (suc k) _ _ h l = absurd (omega arith)

-- ── the walk from the start

pub root-ready : {text tape facts : List ℕ} {config : FormatConfig} {h : Head} {c : FormatterContext} → Ready text tape facts config → h ≡ head_at tape 0 → c ≡ new
    → NodeReady text tape facts config 63 0 c × (h.kind ≡ (head_at tape 0).kind)
root-ready {text} {tape} {facts} {config} p q e =
    let a = p.accepted in (
      rw e (record {
        sizes = p.sizes;
        inside = a.root.inside;
        room = record { level = omega arith; length = omega arith };
        span = subst (λ (h : Head). h.start ≤ h.end → h.end ≤ length text) a.root.head a.root.span;
        kids = a.tree.kids;
        spelled = a.kids;
        low = omega (arith, a.depth);
        noted = subst (λ (h : Head). Noted facts (record { head = h; kids = a.tree.kids })) a.root.head p.noted;
      }),
      ap (λ (x : Head). x.kind) q,
    )

record Walked (bs xs : List ℕ) (w : Walk) (ys : List ℕ) : Type 0 where
  trimmed : w.context.position.trimmed ≡ trimmed_length bs
  bytes : ys ≡ splice 0 bs xs
  short : w.context.position.trimmed ≤ 2 ^ 60

walked : {text tape facts : List ℕ} {config : FormatConfig} {c : FormatterContext} {xs ys ms ns : List ℕ} {w : Walk} → Ready text tape facts config → c ≡ new
    → NodeDone text tape config 0 c xs ms w ys ns → (t : Tree) (p : ℕ) → read_tree (length text) tape ≡ got t p → Walked (bytes_of (all_cells config text t)) xs w ys
unfolding pieces_of original appended advanced
walked {text} {tape} {facts} {config} {c} {xs} {ys} {w = w} r e d t p q =
    let a = r.accepted in
    let u = d.all a.tree.kids a.kids in
    let k : a.tree ≡ t = got_same (sym a.read ∙ q) in
    let s : SpansStart text t = subst (SpansStart text) k r.starts in
    let X = all_cells config text t in
    let v : ◌≡◌ {A = Store} (w.context, ys) (appended (after config text (calls format_node text t) new_state) (bytes_of X) (new, xs)) =
    let f = run-appends config text (calls format_node text t) (new, xs) (each-call (TokenStarts config text) (StartsAt config text) format_node text t s.tokens s.copies) in
    let h : a.tree ≡ record { head = head_at tape 0; kids = a.tree.kids } = ap (λ (h : Head). record { head = h; kids = a.tree.kids }) a.root.head in
    cc (u.did) in
    let n : w.context.position.trimmed ≡ trimmed_length (bytes_of X) =
    ap (λ (z : Store). z.0.position.trimmed) v ∙ after_none (trimmed_length (bytes_of X)) in
    let l : w.context.position.length ≡ 0 + length (bytes_of X) = ap (λ (z : Store). z.0.position.length) v in
    let b = ap (λ (z : FormatterContext). z.position.length) e in
    record {
      trimmed = n;
      bytes = ap (λ (z : Store). z.1) v;
      short = omega (arith, trimmed-le (bytes_of X), d.grew.length, d.inside, r.sizes.tape-fits, b);
    }

-- the places that a walk from the start has noted
walked_notes : {text tape facts : List ℕ} {config : FormatConfig} {c : FormatterContext} {xs ys ms ns : List ℕ} {w : Walk} → Ready text tape facts config → c ≡ new
    → NodeDone text tape config 0 c xs ms w ys ns → Notes text tape config ms ns
walked_notes {text} {tape} {config} {c} {ms = ms} r e d =
    let a = r.accepted in
    record {
      all =
          λ t p q.
          let h : a.tree ≡ record { head = head_at tape 0; kids = a.tree.kids } = ap (λ (h : Head). record { head = h; kids = a.tree.kids }) a.root.head in
          let k : a.tree ≡ t = got_same (sym a.read ∙ q) in
          cc ((d.all a.tree.kids a.kids).notes);
    }

module _ {text tape facts : List ℕ} {config : FormatConfig} {c : FormatterContext} {w : Walk} (r : Ready text tape facts config) (e : c ≡ new) where
  pub walked_into : {xs ys ms ns : List ℕ} → NodeDone text tape config 0 c xs ms w ys ns → WalkedInto text tape config xs ms w.context.position.trimmed ys ns
  walked_into d =
      record {
        notes = walked_notes r e d;
        trims = record { short = (walked r e d r.accepted.tree _ r.accepted.read).short; all = λ t p q. (walked r e d t p q).trimmed };
        all = λ t p q. (walked r e d t p q).bytes;
      }

-- ── the layout in front of the space

module _ {text tape : List ℕ} {config : FormatConfig} (k : ℕ) (n : Trims text tape config k) (z : 0 < k) {xs : List ℕ} (h : k < length xs) where
  pub fills : {m : ℕ} {ys ms ns : List ℕ} → WalkedInto text tape config (take k xs) ms m ys ns → Fills text tape config xs (set (ys ++ drop k xs) k 10)
  unfolding format
  fills {m} {ys} d =
      record { all = λ t p q. finish-stored (all_cells config text t) k xs ys (n.all t p q) (λ x. omega arith) (omega arith) (d.all t p q) }

  -- from a space that holds it
  pub copied : {vs ys : List ℕ} → Holds text tape config k vs → k ≤ length vs → ys ≡ set (splice 0 (take k vs) (take k xs) ++ drop k xs) k 10
      → Fills text tape config xs ys
  unfolding format
  copied {vs} {ys} d l e =
      record {
        all =
            λ t p q.
            let X = all_cells config text t in
            let bs = bytes_of X in
            let fits : k ≤ length bs = omega (arith, n.all t p q, trimmed-le bs) in
            let lx = length-take-le k xs (omega arith) in
            let lb = length-take-le k bs fits in
            let same : splice 0 (take k vs) (take k xs) ≡ splice 0 bs (take k xs) =
            cc (d.all t p q l, splice-covers (take k bs) (take k xs) (omega arith), take-take (length (take k xs)) k bs (omega arith), splice-covers bs (take k xs) (omega arith)) in
            e ∙ finish-stored X k xs (splice 0 (take k vs) (take k xs)) (n.all t p q) (λ x. omega arith) (omega arith) same;
      }

-- what a walk has written is held
pub holds : {text tape : List ℕ} {config : FormatConfig} {k : ℕ} {us vs ms ns : List ℕ} → WalkedInto text tape config us ms k vs ns → length vs ≡ length us → Holds text tape config k vs
holds {text} {config = config} {k} {us} {vs} d e =
    record {
      all =
          λ t p q l.
          let bs = bytes_of (all_cells config text t) in
          ap (take k) (d.all t p q) ∙ take-splice k bs us (omega (arith, d.trims.all t p q, trimmed-le bs)) (omega arith);
    }

-- ── the answers where the tape is accepted

module _ (X : List Cell) (k : ℕ) (n : k ≡ kept X) where
  length_some : (k ≡ 0 → ⊥) → length (finish X) ≡ k + 1
  length_some z = finish-length X (λ e. z (n ∙ e)) ∙ ap (λ (m : ℕ). m + 1) (sym n)

  pub laid_none : (xs : List ℕ) → k ≡ 0 → ◌≡◌ {A = Result} (record { answer = record { number = 0; value = 0 }; space = xs }) (laid_out (laid (finish X)) xs)
  unfolding laid_out
  laid_none xs z = rw (finish-none X (sym n ∙ z)) (grind (arith, nat_tests))

  pub laid-short : (xs : List ℕ) → (k ≡ 0 → ⊥) → length xs ≤ k
      → ◌≡◌ {A = Result} (record { answer = record { number = 13; value = k + 1 }; space = xs }) (laid_out (laid (finish X)) xs)
  unfolding laid_out
  laid-short xs z h = let l = length_some z in grind (arith, nat_tests)

  pub laid_done : (xs ys : List ℕ) → (k ≡ 0 → ⊥) → k < length xs → ys ≡ bytes_of (finish X) ++ drop (length (finish X)) xs
      → ◌≡◌ {A = Result} (record { answer = record { number = 0; value = k + 1 }; space = ys }) (laid_out (laid (finish X)) xs)
  unfolding laid_out
  laid_done xs ys z h e = let l = length_some z in grind (arith, nat_tests)

-- ── the map where the tape is accepted

pub root-at : {text tape facts : List ℕ} {config : FormatConfig} → Ready text tape facts config → NodeAt tape 0
root-at r = let a = r.accepted in record { len = _; kids = a.tree.kids; inside = a.root.inside; spelled = a.kids }

-- the tokens of the tape, counted from its root
pub map-fits : {text tape facts : List ℕ} {config : FormatConfig} {j : Passed} → Ready text tape facts config → Skipped tape 0 j → MapFits text tape (2 * j.tokens)
map-fits r s =
    let a = r.accepted in
    record { all = λ t p q. ap (λ (n : ℕ). 2 * n) (s.counted _ a.tree.kids a.kids ∙ ap (λ (z : Tree). length (tokens z.kids)) (got_same (sym a.read ∙ q))) }

pub tokens-few : {text tape facts : List ℕ} {config : FormatConfig} {j : Passed} → Ready text tape facts config → Skipped tape 0 j → j.tokens ≤ length tape
tokens-few r s = let a = r.accepted in omega (arith, s.counted _ a.tree.kids a.kids, tokens-size a.tree.kids, a.whole)

pub notes-over : {text tape : List ℕ} {config : FormatConfig} {ms us ns : List ℕ} → ms ≡ us → Notes text tape config ms ns → Notes text tape config us ns
notes-over {text} {tape} {config} {ns = ns} e n = subst (λ (z : List ℕ). Notes text tape config z ns) e n

-- what was noted over zeros, as many as the map has
pub placed : {text tape : List ℕ} {config : FormatConfig} {m n : ℕ} {ns : List ℕ} → MapFits text tape m → m ≤ n → Notes text tape config (replicate n 0) ns → Placed text tape config (take m ns)
placed {text} {tape} {config} {m} {n} {ns} f l o =
    record {
      all =
          λ t p q k bs.
          let ps = places_from config text format_node t (new_state, 0) in
          let size : m ≡ 2 * length ps = f.all t p q ∙ ap (λ (x : ℕ). 2 * x) (sym (places_count config text format_node t (new_state, 0))) in
          cc (o.all t p q, noted-spots k bs ps n (omega arith));
    }

-- all of it, where the map itself was noted in
pub placed_all : {text tape : List ℕ} {config : FormatConfig} {m : ℕ} {ns : List ℕ} → MapFits text tape m → length ns ≡ m → Notes text tape config (replicate m 0) ns → Placed text tape config ns
placed_all {text} {tape} {config} {m} {ns} f l o = subst (Placed text tape config) (take_all m ns (omega arith)) (placed {n = m} f (omega arith) o)

-- places become the map's numbers
pub map-fills : {text tape : List ℕ} {config : FormatConfig} {k : ℕ} {xs ys ns ls : List ℕ} → Trims text tape config k → 0 < k → Fills text tape config xs ys
    → Placed text tape config ns → ls ≡ spots k (take (k + 1) ys) ns → MapFills text tape config ls
unfolding token_map format original
map-fills {text} {tape} {config} {k} {xs} {ys} {ns} {ls} trims z f o e =
    record {
      all =
          λ t p q.
          let X = all_cells config text t in
          let bs = bytes_of (finish X) in
          let all : length bs ≡ k + 1 = length-map (finish X) (λ (c : Cell). c.byte) ∙ length_some X k (trims.all t p q) (λ u. omega arith) in
          let first = take-append_seam bs (drop (length (finish X)) xs) in
          cc (f.all t p q, o.all t p q k bs, trims.all t p q);
    }

no_spot_lem : (p : ℕ) (bs : List ℕ) → entry 0 bs p ≡ no_spot
no_spot_lem p bs = grind (arith, nat_tests)

no_spots : (bs ps : List ℕ) → replicate (2 * length ps) 0 ≡ flat (map (entry 0 bs) ps)
no_spots bs [] = refl
no_spots bs (p ∷ ps) =
    let two : 2 * suc (length ps) ≡ suc (suc (2 * length ps)) = omega arith in
    rw (two, no_spot_lem p bs) (ap {B = List ℕ} (λ l. 0 ∷ 0 ∷ l) (no_spots bs ps))

module _ {text tape : List ℕ} {config : FormatConfig} {k : ℕ} (n : Trims text tape config k) where
  -- 13
  pub map-short : {xs ms : List ℕ} → 0 < k → length xs ≤ k → MapsOut text tape config xs ms (record { number = 13; value = k + 1 }) xs ms
  unfolding format
  map-short {xs} {ms} z h =
      record {
        all =
            λ t p q.
            let X = all_cells config text t in
            let l = length_some X k (n.all t p q) (λ e. omega arith) in
            grind (arith, nat_tests);
      }

  laid-fits : (xs : List ℕ) → (0 < k → k < length xs) → (t : Tree) (p : ℕ) → read_tree (length text) tape ≡ got t p → length (format original config text t) ≤ length xs
  unfolding format
  laid-fits xs h t p q =
      let X = all_cells config text t in
      let e = n.all t p q in
      grind (arith, finish-none, finish-length)

  -- 17
  pub map-few : {xs ms : List ℕ} {c : ℕ} → (0 < k → k < length xs) → MapFits text tape c → length ms < c → MapsOut text tape config xs ms (record { number = 17; value = c }) xs ms
  map-few {xs} {ms} {c} h m l =
      record {
        all =
            λ t p q.
            let cs = format original config text t in
            let ls = flat (token_map original config text t) in
            let size : c ≡ length ls = m.all t p q ∙ sym (map-count original config text t) in
            let fits = laid-fits xs h t p q in
            grind (arith, nat_tests);
      }

  -- both fit
  pub map-done : {xs ys ms ns : List ℕ} {c v : ℕ} → (0 < k → k < length xs) → MapFits text tape c → c ≤ length ms
      → ((t : Tree) (p : ℕ) → read_tree (length text) tape ≡ got t p → v ≡ length (format original config text t))
      → Fills text tape config xs ys → MapFills text tape config ns → MapsOut text tape config xs ms (record { number = 0; value = v }) ys (ns ++ drop c ms)
  map-done {xs} {ys} {ms} {ns} {c} {v} h m l w f g =
      record {
        all =
            λ t p q.
            let cs = format original config text t in
            let ls = flat (token_map original config text t) in
            let size : c ≡ length ls = m.all t p q ∙ sym (map-count original config text t) in
            let fits = laid-fits xs h t p q in
            rw (w t p q, f.all t p q, g.all t p q, size) (grind (arith, nat_tests));
      }

  pub laid-length : 0 < k → (t : Tree) (p : ℕ) → read_tree (length text) tape ≡ got t p → k + 1 ≡ length (format original config text t)
  unfolding format
  laid-length z t p q = sym (length_some (all_cells config text t) k (n.all t p q) (λ e. omega arith))

  -- nothing is laid out, and no token has a spot
  pub none-length : k ≡ 0 → (t : Tree) (p : ℕ) → read_tree (length text) tape ≡ got t p → 0 ≡ length (format original config text t)
  unfolding format
  none-length z t p q = sym (ap length (finish-none (all_cells config text t) (sym (n.all t p q) ∙ z)))

  pub none-fills : k ≡ 0 → (xs : List ℕ) → Fills text tape config xs xs
  unfolding format
  none-fills z xs = record { all = λ t p q. rw (finish-none (all_cells config text t) (sym (n.all t p q) ∙ z)) }

  pub none-map : k ≡ 0 → {c : ℕ} → MapFits text tape c → MapFills text tape config (replicate c 0)
  unfolding token_map original
  none-map z {c} m =
      record {
        all =
            λ t p q.
            let ps = places_from config text format_node t (new_state, 0) in
            let bs = bytes_of (format original config text t) in
            cc (m.all t p q, places_count config text format_node t (new_state, 0), no_spots bs ps, n.all t p q);
      }

-- ── the whole calls

module _ (width case : ℕ) (text tape : List ℕ) where
  refused-is : (r : Refusal) → Err r ≡ verdict (read_call width case text tape) → outcome original width case text tape ≡ refusal r.fault r.at
  unfolding outcome
  refused-is r e = go (read_call width case text tape) e
    where
      go : (x : Read Tree) → Err r ≡ verdict x → of_read x (format original (config_of width case) text) ≡ refusal r.fault r.at
      go (refused g q) u = cc
      go (got t q) u = cc

  pub refused-layout : {r : Refusal} (xs : List ℕ) → Err r ≡ verdict (read_call width case text tape)
      → ◌≡◌ {A = Result} (record { answer = answer_of (Err (Input r)); space = xs }) (laid_out (outcome original width case text tape) xs)
  unfolding laid_out
  refused-layout {r} xs e = rw (refused-is r e)

  pub refused-map : {r : Refusal} (xs ms : List ℕ) → Err r ≡ verdict (read_call width case text tape)
      → ◌≡◌ {A = Mapped} (record { answer = answer_of (Err (Input r)); space = xs; map = ms }) (mapped width case text tape xs ms)
  unfolding mapped
  refused-map {r} xs ms e = rw (refused-is r e)

  module _ (e : Ok tt ≡ verdict (read_call width case text tape)) where
    call : AcceptedCall width case text tape
    call = accepted-call width case text tape (sym e)

    pub ready : {facts : List ℕ} → NotedOf (read_call width case text tape) facts → (length tape ≤ 262144 → length tape ≤ 11 * length facts)
        → Ready text tape facts (config_of width case)
    ready {facts} n room =
        record {
          sizes = record { text = call.text-fits; tape-fits = call.tape-fits; facts_fit = room call.tape-fits; width = call.width_fits };
          accepted = call.accepted;
          starts = spans_start call;
          noted = subst (λ (r : Read Tree). NotedOf r facts) call.read n;
        }

    accepted-is : outcome original width case text tape ≡ laid (format original (config_of width case) text call.accepted.tree)
    unfolding outcome
    accepted-is = ap (λ (r : Read Tree). of_read r (format original (config_of width case) text)) call.read

    pub lays_out_lem : {config : FormatConfig} {r : Answer} {xs ys : List ℕ} → config ≡ config_of width case → LaysOut text tape config xs r ys
        → ◌≡◌ {A = Result} (record { answer = r; space = ys }) (laid_out (outcome original width case text tape) xs)
    lays_out_lem {config} {r} {xs} {ys} c m =
        let u = subst (λ (z : FormatConfig). LaysOut text tape z xs r ys) c m in
        cc (u.all call.accepted.tree _ call.accepted.read, accepted-is)

    pub maps-out : {config : FormatConfig} {r : Answer} {xs ys ms ns : List ℕ} → config ≡ config_of width case → MapsOut text tape config xs ms r ys ns
        → ◌≡◌ {A = Mapped} (record { answer = r; space = ys; map = ns }) (mapped width case text tape xs ms)
    unfolding mapped numbers
    maps-out {config} {r} {xs} {ys} {ms} {ns} c m =
        let u = subst (λ (z : FormatConfig). MapsOut text tape z xs ms r ys ns) c m in
        let t = call.accepted.tree in
        cc (u.all t _ call.accepted.read, accepted-is, call.read)
