-- Writes as calls: what a method of the context did is what a call does, and calls in a row.
use Prim.Native.Nat.{ℕ, ◌+◌, ◌^◌, ◌≤◌, ◌<◌}
use native.Mathlib.Omega.{arith}
use mathlib.Core.Path.{◌≡◌, refl, sym, ap, ◌∙◌}
use mathlib.Core.Bool.{Bool, true, false, cond}
use mathlib.Core.List.{List, [], ◌∷◌, ◌++◌, map}
use lib.ListN.{length, replicate}
use lib.Dec.{eqb}
use borrow.Author.Tests.{le-leb, lt-leb}
use Rattle.std.proofs.lemmas.List.{map-append}
use Rattle.std.proofs.lemmas.Bool.Decides.{nat_tests}
use Rattle.context.specs.Cells.{Text, count, fixed, fresh, bytes_of, token_text, span_cells}
use Rattle.context.specs.Splice.{splice}
use Rattle.context.specs.Context.{Step, lead, write_newline, write_token, write_space, note_skipped_whitespace, take_pending_newline, take_pending_blank_line, indent, dedent, write_raw}
use Rattle.context.specs.Context as context
use Rattle.context.specs.Store.{Store, appended, stored, with_state, after_text, Wrote, Changed}
use Rattle.context.specs.declared.FormatConfig.{FormatConfig}
use Rattle.context.specs.declared.FormatterContext.{FormatterContext}
use Rattle.context.specs.declared.State.{State}
use Rattle.context.proofs.Splicing.{splice-past}
use Rattle.context.proofs.Bytes.{bytes-span}
use Rattle.context.proofs.Writes.{appended-none, spent-none, spent-twice, stored-token, stored-keyword, stored-raw, token-put, keyword-put}
use Rattle.tape.specs.Kinds.{Whitespace}
use Rattle.tape.specs.declared.Head.{Head}
use Rattle.layout.specs.Arms as arms
use Rattle.layout.specs.Arms.{Spacing, Act, spacing, write_text, write_keyword, write_sign, Sign, sign_byte, Seen, is_read, seen}
use Rattle.layout.specs.Tokens.{is_line_comment, emit_comment, emit_token}
use Rattle.layout.specs.Calls.{Call, act_at, format_error_verbatim}
use Rattle.layout.specs.Layout.{nothing_written, newline_if, do_spacing, step}
use Rattle.layout.specs.Run.{run_spacing, run}
use Rattle.layout.proofs.Running.{run-append}
use Rattle.tokens.specs.TokenPromises.{Ran, SpacedUnwritten, Spaced, PutText, Acted, ActedOn, ArmActed, IsTokenAt, seen_as, write_by, casing_of, emit_trivia, in_case}
use Rattle.tokens.specs.declared.settings.Settings.{Settings}
use Rattle.tokens.specs.declared.token.Token.{Token}

-- ── spacing

module _ {c r : FormatterContext} {xs : List ℕ} where
  -- only the state changed
  pub changed : {n : ℕ} {s : State} (x : Spacing) → do_spacing x c.state ≡ nothing_written s → Changed n s c r → Spaced n (x ∷ []) c xs r xs
  changed {s = s} x e d =
      record { did = ap (λ (q : FormatterContext). (q, xs)) d.did ∙ appended-none s c xs ∙ ap (λ (q : Step). stored q (c, xs)) (sym e); spent = d.spent }

  pub did-space : Changed 0 (write_space c.state) c r → Spaced 0 (arms.space ∷ []) c xs r xs
  unfolding do_spacing
  did-space = changed arms.space refl

  pub did-indent : Changed 1 (indent c.state) c r → Spaced 1 (arms.indent ∷ []) c xs r xs
  unfolding do_spacing
  did-indent = changed arms.indent refl

  pub did-dedent : Changed 0 (dedent c.state) c r → Spaced 0 (arms.dedent ∷ []) c xs r xs
  unfolding do_spacing
  did-dedent = changed arms.dedent refl

  pub did-newline : {ys : List ℕ} → Wrote 1 (stored (write_newline c.state) (c, xs)) c r ys → Spaced 1 (arms.newline ∷ []) c xs r ys
  unfolding do_spacing
  did-newline w = record { did = w.did; spent = w.spent }

-- no byte was written
did-unwritten : {n : ℕ} {s : State} {c r : FormatterContext} (x : Spacing) → do_spacing x c.state ≡ nothing_written s → Changed n s c r → SpacedUnwritten n (x ∷ []) c r
did-unwritten x e d = record { did = λ xs. (changed x e d).did; spent = d.spent }

module _ {c r : FormatterContext} where
  pub unwritten-space : Changed 0 (write_space c.state) c r → SpacedUnwritten 0 (arms.space ∷ []) c r
  unfolding do_spacing
  unwritten-space = did-unwritten arms.space refl

  pub unwritten-dedent : Changed 0 (dedent c.state) c r → SpacedUnwritten 0 (arms.dedent ∷ []) c r
  unfolding do_spacing
  unwritten-dedent = did-unwritten arms.dedent refl

pub no_spacing : {c : FormatterContext} {xs : List ℕ} → Spaced 0 [] c xs c xs
no_spacing = record { did = refl; spent = spent-none }

spacing-append : (x y : List Spacing) (w : Store) → run_spacing (x ++ y) w ≡ run_spacing y (run_spacing x w)
spacing-append [] y w = refl
spacing-append (c ∷ x) y w = spacing-append x y _

module _ {m n : ℕ} {c r q : FormatterContext} {xs ys zs : List ℕ} where
  -- one after the other
  pub both : {x y : List Spacing} → Spaced m x c xs r ys → Spaced n y r ys q zs → Spaced (m + n) (x ++ y) c xs q zs
  both {x} {y} a b =
      record {
        did = b.did ∙ ap (run_spacing y) a.did ∙ sym (spacing-append x y (c, xs));
        spent = spent-twice a.spent b.spent;
      }

module _ {n : ℕ} {c r : FormatterContext} {xs ys : List ℕ} where
  -- at most n is at most m; the spacing is another name for the same
  pub spaced : {x : List Spacing} (m : ℕ) (y : List Spacing) → n ≤ m → y ≡ x → Spaced n x c xs r ys → Spaced m y c xs r ys
  spaced m y h e d =
      record { did = d.did ∙ ap (λ (l : List Spacing). run_spacing l (c, xs)) (sym e); spent = record { level = omega arith; length = omega arith } }

-- ── acts at a token

module _ (config : FormatConfig) (source : Text) (token : Head) where
  act_spacing : (x : List Spacing) (w : Store) → run config source (map (act_at token) (map spacing x)) w ≡ run_spacing x w
  unfolding step
  act_spacing [] w = refl
  act_spacing (y ∷ x) w = act_spacing x _

  run-acts : (x y : List Act) (w : Store) → run config source (map (act_at token) (x ++ y)) w ≡ run config source (map (act_at token) y) (run config source (map (act_at token) x) w)
  run-acts x y w = ap (λ (l : List Call). run config source l w) (map-append (act_at token) x y) ∙ run-append config source (map (act_at token) x) (map (act_at token) y) w

-- ── acts at whatever token has the text

module _ {config : FormatConfig} {text : List ℕ} {c r : FormatterContext} {xs ys : List ℕ} where
  pub as_acts : {n : ℕ} {x : List Spacing} → Spaced n x c xs r ys → ActedOn n config text (map spacing x) c xs r ys
  as_acts {x = x} d = record { did = λ source token e. d.did ∙ sym (act_spacing config source token x (c, xs)); spent = d.spent }

  pub did-sign : (x : Sign) → Wrote 1 (stored (write_token config (fresh (sign_byte x) ∷ []) c.state) (c, xs)) c r ys → ActedOn 1 config text (write_sign x ∷ []) c xs r ys
  unfolding step
  did-sign x w = record { did = λ source token e. w.did; spent = w.spent }

  -- the sign as the code has it, a byte
  pub did-sign-as : (x : Sign) {b : ℕ} → b ≡ sign_byte x → Wrote 1 (stored (write_token config (fresh b ∷ []) c.state) (c, xs)) c r ys → ActedOn 1 config text (write_sign x ∷ []) c xs r ys
  unfolding step
  did-sign-as x e w = record { did = λ source token q. w.did ∙ ap (λ (b : ℕ). stored (write_token config (fresh b ∷ []) c.state) (c, xs)) e; spent = w.spent }

  pub did-text : Wrote 1 (stored (write_token config (fixed text) c.state) (c, xs)) c r ys → ActedOn 1 config text (write_text ∷ []) c xs r ys
  unfolding step
  did-text w =
      record {
        did = λ source token e. w.did ∙ stored-token (span_cells source token.start token.end) text (bytes-span source token.start token.end ∙ sym e) c.state (c, xs) config;
        spent = w.spent;
      }

  pub did-keyword : Wrote 1 (stored (context.write_keyword config (fixed text) c.state) (c, xs)) c r ys → ActedOn 1 config text (write_keyword ∷ []) c xs r ys
  unfolding step
  did-keyword w =
      record {
        did = λ source token e. w.did ∙ stored-keyword (span_cells source token.start token.end) text (bytes-span source token.start token.end ∙ sym e) c.state (c, xs) config;
        spent = w.spent;
      }

  -- one after the other
  pub then : {m n : ℕ} {x y : List Act} {q : FormatterContext} {zs : List ℕ} → ActedOn m config text x c xs r ys → ActedOn n config text y r ys q zs
      → ActedOn (m + n) config text (x ++ y) c xs q zs
  then {x = x} {y = y} a b =
      record {
        did =
            λ source token e.
            b.did source token e ∙ ap (run config source (map (act_at token) y)) (a.did source token e) ∙ sym (run-acts config source token x y (c, xs));
        spent = spent-twice a.spent b.spent;
      }

  -- at most n is at most m; the acts are what the routine does
  pub acted : {n : ℕ} {x : List Act} (m : ℕ) (y : List Act) → n ≤ m → y ≡ x → ActedOn n config text x c xs r ys → ActedOn m config text y c xs r ys
  acted m y h e d =
      record {
        did = λ source token q. d.did source token q ∙ ap (λ (l : List Act). run config source (map (act_at token) l) (c, xs)) (sym e);
        spent = record { level = omega arith; length = omega arith };
      }

module _ {config : FormatConfig} {text : List ℕ} {c : FormatterContext} {xs : List ℕ} where
  pub no_acts : ActedOn 0 config text [] c xs c xs
  no_acts = record { did = λ source token e. refl; spent = spent-none }

  pub noted : {r : FormatterContext} (bs : List ℕ) → Changed 0 (note_skipped_whitespace bs c.state) c r → ActedOn 0 config text (spacing (arms.note bs) ∷ []) c xs r xs
  unfolding do_spacing
  noted bs d = as_acts (changed (arms.note bs) refl d)

-- ── the same at a head

-- what an arm did is what the routine does at the head that its token is made of
module _ {token : Token} {source : Text} {head : Head} (is : IsTokenAt source head token) where
  pub seen_at : seen_as token.kind token.text.now ≡ seen source head
  unfolding seen
  seen_at = ap (λ (k : ℕ). seen_as k token.text.now) is.kind ∙ ap (seen_as head.kind) is.text

  pub acted_at : {n : ℕ} (settings : Settings) {c r : FormatterContext} {xs ys : List ℕ} (at_token : Seen → List Act) → ArmActed n settings token at_token c xs r ys
      → Acted n settings.config source head (at_token (seen source head)) c xs r ys
  acted_at settings {c = c} {xs = xs} at_token d =
      record {
        did = d.did source head is.text ∙ ap (λ (t : Seen). run settings.config source (map (act_at head) (at_token t)) (c, xs)) seen_at;
        spent = d.spent;
      }

-- ── spacing that reads the state

-- a step after a change of the state
pub step-after : {x : Spacing} {t : State} {c next r : FormatterContext} {xs ys : List ℕ} (f : State → Step) → do_spacing x c.state ≡ f t → Changed 0 t c next → Wrote 1 (stored (f next.state) (next, xs)) next r ys
    → Spaced 1 (x ∷ []) c xs r ys
unfolding appended
step-after {c = c} {xs = xs} f e d w =
    record {
      did = w.did ∙ ap (λ (q : FormatterContext). stored (f q.state) (q, xs)) d.did ∙ ap (λ (q : Step). stored q (c, xs)) (sym e);
      spent = spent-twice d.spent w.spent;
    }

-- a change after another
pub changed_after : {n : ℕ} {t : State} {c next r : FormatterContext} (f : State → State) → Changed 0 t c next → Changed n (f next.state) next r → Changed n (f t) c r
changed_after f d e = record { did = e.did ∙ ap (λ (q : FormatterContext). with_state (f q.state) q) d.did; spent = record { level = omega (arith, d.spent.level, e.spent.level); length = omega (arith, d.spent.length, e.spent.length) } }

-- line start, as the code reads it after a mark was taken
pub start_is : {t : State} {c next : FormatterContext} {b : Bool} → Changed 0 t c next → b ≡ next.state.at_line_start → t.at_line_start ≡ b
start_is d e = sym (e ∙ ap (λ (q : FormatterContext). q.state.at_line_start) d.did)

-- ── emit_comment, emit_token

-- a newline where it is wanted, as a step
pub newline-step : {c r : FormatterContext} {xs ys : List ℕ} (t : Bool) → Spaced 1 (cond t (arms.newline ∷ []) []) c xs r ys → Wrote 1 (stored (newline_if t c.state) (c, xs)) c r ys
unfolding do_spacing
newline-step true w = record { did = w.did; spent = w.spent }
newline-step {c} {xs = xs} false w = record { did = w.did ∙ appended-none c.state c xs; spent = w.spent }

pub line-short : (b : List ℕ) → length b < 2 → is_line_comment b ≡ false
unfolding is_line_comment
line-short [] h = refl
line-short (x ∷ []) h = refl
line-short (x ∷ y ∷ b) h = absurd (omega arith)

comment_acts : (b : List ℕ) (t : Bool) → is_line_comment b ≡ t → emit_comment b ≡ map spacing (arms.line_or_space ∷ []) ++ ((write_text ∷ []) ++ map spacing (cond t (arms.newline ∷ []) []))
unfolding emit_comment
comment_acts b t e = grind arith

pub did-comment : {config : FormatConfig} {text : List ℕ} {c a b r : FormatterContext} {xs ys zs us : List ℕ} {t : Bool} → Spaced 1 (arms.line_or_space ∷ []) c xs a ys
    → Wrote 1 (stored (write_token config (fixed text) a.state) (a, ys)) a b zs → t ≡ is_line_comment text → Spaced 1 (cond t (arms.newline ∷ []) []) b zs r us
    → ActedOn 3 config text (emit_comment text) c xs r us
did-comment {text = text} {t = t} first second e third =
    acted 3 _ (omega arith) (comment_acts text t (sym e)) (then (as_acts first) (then (did-text second) (as_acts third)))

pub token-acts : (kind : ℕ) (text : List ℕ) → (kind ≡ Whitespace → ⊥) → emit_token (seen_as kind text) ≡ write_by (in_case (casing_of kind) text)
unfolding emit_token
token-acts kind text h = grind (arith, nat_tests)

-- white space without a newline changes nothing
unnoted : (bs : List ℕ) (c : FormatterContext) → count 10 bs ≡ 0 → c ≡ with_state (note_skipped_whitespace bs c.state) c
unfolding note_skipped_whitespace
unnoted bs c z = rw z refl

pub blank_acted : (kind : ℕ) {config : FormatConfig} {text : List ℕ} {c : FormatterContext} {xs : List ℕ}
    → (kind ≡ Whitespace) × (count 10 text ≡ 0) → ActedOn 0 config text (emit_trivia (eqb kind Whitespace) text) c xs c xs
blank_acted kind {text = text} {c = c} z = rw z.0 (noted text (record { did = unnoted text c z.1; spent = spent-none }))

-- where the space is full nothing is written, whatever the text is
pub full_put : (at blanks : ℕ) (bs us xs : List ℕ) → length xs ≤ at → xs ≡ splice (at + blanks) us (splice at bs xs)
full_put at blanks bs us xs h = sym (rw (splice-past at bs xs h) (splice-past (at + blanks) us xs (omega arith)))

-- a token's text as `put_text` and `after_text` write it
pub put-acted : {config : FormatConfig} {c r : FormatterContext} {xs ys : List ℕ} {j : ℕ} (text : List ℕ) → length text ≤ 2 ^ 18
    → (n : ℕ) → (bytes_of (lead config c.state) ≡ replicate n 32) × (n ≤ 2 ^ 24) → (b : Bool) → PutText c.position.length n text b config.uppercase_keywords xs j ys
    → r ≡ after_text n (length text) j c → ActedOn 1 config text (write_by b) c xs r ys
put-acted {config} {c} {xs = xs} text k n l true w a = did-keyword (keyword-put config text c n l.0 l.1 k xs w.left a w.written)
put-acted {config} {c} {xs = xs} text k n l false w a = did-text (token-put config text c n l.0 l.1 k xs w.left a w.written)

-- ── format_error_verbatim

module _ {config : FormatConfig} {source : Text} (node : Head) {c : FormatterContext} {xs : List ℕ} where
  pub copied_none : node.end < node.start → Ran 1 config source (format_error_verbatim node) c xs c xs
  unfolding format_error_verbatim
  copied_none h = rw (lt-leb node.start node.end h) record { did = refl; spent = record { level = omega arith; length = omega arith } }

  pub copied-raw : {r : FormatterContext} {ys : List ℕ} (bs : List ℕ) → bs ≡ token_text source node.start node.end → node.start ≤ node.end
      → Wrote 1 (stored (write_raw (fixed bs) c.state) (c, xs)) c r ys → Ran 1 config source (format_error_verbatim node) c xs r ys
  unfolding format_error_verbatim step
  copied-raw bs e h w =
      rw (le-leb node.start node.end h) record {
        did = w.did ∙ stored-raw (span_cells source node.start node.end) bs (bytes-span source node.start node.end ∙ sym e) c.state (c, xs);
        spent = w.spent;
      }
