-- The limits of a reading: what is accepted at each, and what is refused one past it.
use Prim.Native.Nat.{ℕ, zero, suc, ◌+◌, ◌-◌, ◌*◌, ◌≤◌, ◌<◌}
use native.Mathlib.Omega.{arith}
use mathlib.Core.Path.{◌≡◌, refl, sym, ap, ◌∙◌}
use mathlib.Core.Bool.{Bool, true, false, cond}
use mathlib.Core.List.{List, [], ◌++◌}
use lib.ListN.{length, drop, get_or, replicate, length-append, length-replicate, length-drop}
use lib.Seq.{drop_at, drop-drop, get_or-drop}
use lib.Dec.{eqb}
use borrow.Author.Tests.{le-ltb, lt-ltb, lt-leb}
use Rattle.utf8.specs.Table.{is_ascii, holds, character_length}
use Rattle.utf8.specs.Pieces.{cut, first_ill_formed}
use Rattle.utf8.proofs.CharacterLength.{ascii-well}
use Rattle.tape.specs.declared.Fault.TheVariants.{TextTooLong, TapeTooLong, TooDeep}
use Rattle.tape.specs.declared.Head.{Head}
use Rattle.tape.specs.Kinds.{BareWord, not_carried}
use Rattle.tape.specs.Tree.{Children, done, token, node, Tree}
use Rattle.tape.specs.Tape.{u16_at, u32_at, opens, is_token, closes, SpanTests, length_alone, Read, refused, got, and_then, by_root, by_end, head_at, command_at, check_open, check_token, checked_at, read_children, read_tape, read_tree}
use Rattle.tape.specs.Call.{read_input, read_call}
use Rattle.tape.specs.ReadingInputs.{command, file, close, times}
use Rattle.tape.proofs.KnownCommands.{at-end, at-close, at_open, at-token, checked-of}
use Rattle.tape.proofs.Reading.{step, read, reads}
use Rattle.tape.proofs.AsciiTexts.{ascii-reading}

-- ── the text: 262,144 bytes

blanks-ascii : (n : ℕ) → is_ascii (replicate n 32) ≡ true
blanks-ascii zero = refl
blanks-ascii (suc n) = blanks-ascii n

-- n blanks with a File that has no child
pub text-accepted : (n : ℕ) → n ≤ 262144 → read_call 4 1 (replicate n 32) (file ++ close) ≡ got (record { head = head_at (file ++ close) 0; kids = done }) 12
unfolding read_input read_call not_carried head_at command_at check_open check_token checked_at read_children read_tape read_tree
text-accepted n h =
    rw (ascii-well 0 (replicate n 32) (blanks-ascii n), ascii-reading (replicate n 32) (blanks-ascii n) (file ++ close), length-replicate, le-ltb 262144 n h, le-ltb n 0 (omega arith))

pub text-refused : (n : ℕ) (tape : List ℕ) → 262144 < n → read_call 4 1 (replicate n 32) tape ≡ refused TextTooLong 0
unfolding read_input read_call
text-refused n tape h = rw (length-replicate, lt-ltb 262144 n h)

-- ── the tape: 262,144 bytes

-- the empty text
abbrev none : SpanTests
none = length_alone 0

-- an empty BareWord
abbrev word : List ℕ
word = command 2 BareWord 0 0

module _ (tape : List ℕ) (p : ℕ) where
  -- what follows the first n bytes of what lies at p
  after : (n : ℕ) {r : List ℕ} → drop p tape ≡ r → drop (p + n) tape ≡ drop n r
  after n e = sym (drop-drop n p tape) ∙ ap (drop n) e

  byte_at : {r : List ℕ} → drop p tape ≡ r → (i : ℕ) {q : ℕ} → q ≡ p + i → get_or tape q 0 ≡ get_or r i 0
  byte_at e i f = ap (λ (q : ℕ). get_or tape q 0) f ∙ sym (get_or-drop p tape i 0) ∙ ap (λ (l : List ℕ). get_or l i 0) e

  room : {r : List ℕ} → drop p tape ≡ r → length tape - p ≡ length r
  room e = sym (length-drop p tape) ∙ ap length e

  u16_at_lem : {r : List ℕ} → drop p tape ≡ r → (i : ℕ) {q : ℕ} → q ≡ p + i → u16_at tape q ≡ u16_at r i
  u16_at_lem e i {q} f = rw (byte_at e i f, byte_at e (i + 1) {q = q + 1} (omega arith))

  u32_at_lem : {r : List ℕ} → drop p tape ≡ r → (i : ℕ) {q : ℕ} → q ≡ p + i → u32_at tape q ≡ u32_at r i
  u32_at_lem e i {q} f = rw (u16_at_lem e i f, u16_at_lem e (i + 2) {q = q + 2} (omega arith))

  module _ {more : List ℕ} where
    file-checked : (depth : ℕ) → depth < 64 → drop p tape ≡ file ++ more → checked_at none tape depth p ≡ opens
    unfolding check_open head_at not_carried
    file-checked depth h e =
        checked-of none tape depth p (at_open tape p (omega (arith, room e)) (byte_at e 0 (omega arith)))
        ∙ rw (u16_at_lem e 1 refl, u32_at_lem e 3 refl, u32_at_lem e 7 refl, lt-leb 64 depth h)

    word-checked : (depth : ℕ) → eqb depth 0 ≡ false → drop p tape ≡ word ++ more → checked_at none tape depth p ≡ is_token
    unfolding check_token head_at
    word-checked depth z e =
        checked-of none tape depth p (at-token tape p (omega (arith, room e)) (byte_at e 0 (omega arith)))
        ∙ rw (z, u16_at_lem e 1 refl, u32_at_lem e 3 refl, u32_at_lem e 7 refl)

    close-checked : (depth : ℕ) → eqb depth 0 ≡ false → drop p tape ≡ close ++ more → checked_at none tape depth p ≡ closes
    close-checked depth z e = checked-of none tape depth p (at-close tape p (omega (arith, room e)) (byte_at e 0 (omega arith))) ∙ rw z

module _ (tape : List ℕ) where
  read-close : (depth p : ℕ) → checked_at none tape depth p ≡ closes → read none tape depth p ≡ got done (p + 1)
  read-close depth p e = reads none tape depth p ∙ ap (step none tape (read none tape) depth p) e

  read-token : (depth p : ℕ) {rest : Children} {q : ℕ} → checked_at none tape depth p ≡ is_token → read none tape depth (p + 11) ≡ got rest q
      → read none tape depth p ≡ got (token (head_at tape p) rest) q
  read-token depth p e r =
      reads none tape depth p ∙ ap (step none tape (read none tape) depth p) e ∙ ap (λ x. and_then x (λ c m. got (token (head_at tape p) c) m)) r

  read-node : (depth p : ℕ) {kids rest : Children} {m q : ℕ} → checked_at none tape depth p ≡ opens → read none tape (suc depth) (p + 11) ≡ got kids m
      → read none tape depth m ≡ got rest q → read none tape depth p ≡ got (node (head_at tape p) kids rest) q
  read-node depth p {kids} e r s =
      reads none tape depth p ∙ ap (step none tape (read none tape) depth p) e
      ∙ ap (λ x. and_then x (λ c m. and_then (read none tape depth m) (λ d n. got (node (head_at tape p) c d) n))) r
      ∙ ap (λ x. and_then x (λ d n. got (node (head_at tape p) kids d) n)) s

  -- so many tokens from p on
  abbrev pub tokens_from : ℕ → ℕ → Children
  tokens_from p zero = done
  tokens_from p (suc k) = token (head_at tape p) (tokens_from (p + 11) k)

  read-words : (k p : ℕ) (more : List ℕ) → drop p tape ≡ times k word ++ (close ++ more) → read none tape 3 p ≡ got (tokens_from p k) (p + 11 * k + 1)
  read-words zero p more e = read-close 3 p (close-checked tape p 3 refl e) ∙ ap (got done) (omega arith)
  read-words (suc k) p more e =
      read-token 3 p (word-checked tape p 3 refl e) (read-words k (p + 11) more (after tape p 11 e))
      ∙ ap (got (tokens_from p (suc k))) (omega arith)

words-length : (k : ℕ) → length (times k word) ≡ 11 * k
words-length zero = refl
words-length (suc k) = omega (arith, words-length k)

-- k words in three nodes
abbrev pub many_words : ℕ → List ℕ
many_words k = times 3 file ++ times k word ++ times 3 close

pub many_words_length : (k : ℕ) → length (many_words k) ≡ 36 + 11 * k
many_words_length k = simp length-append (omega (arith, words-length k))

-- the longest tape
pub longest-length : length (many_words 23828) ≡ 262144
longest-length = many_words_length 23828

pub tape-accepted : (k : ℕ) → 36 + 11 * k ≤ 262144 → let tape = many_words k in
    read_call 4 1 [] tape
    ≡ got (record { head = head_at tape 0; kids = node (head_at tape 11) (node (head_at tape 22) (tokens_from tape 33 k) done) done }) (36 + 11 * k)
unfolding read_input read_call read_tape read_tree
tape-accepted k h =
    rw (ascii-well 0 [] refl, ascii-reading [] refl tape)
    (ap (λ (b : Bool). cond b (refused TapeTooLong 0) (read_tree 0 tape)) (le-ltb 262144 (length tape) (omega (arith, many_words_length k)))
    ∙ ap (λ x. by_root tape x (λ h. and_then (read none tape 1 11) (ended h))) (file-checked tape 0 0 (omega arith) refl)
    ∙ ap (λ x. and_then x (ended (head_at tape 0))) kids-read
    ∙ ap (λ x. by_end x (record { head = head_at tape 0; kids = kids }) (end + 1 + 1)) (at-end tape (end + 1 + 1) (omega (arith, many_words_length k)))
    ∙ ap (got (record { head = head_at tape 0; kids = kids })) (omega arith))
  where
    tape : List ℕ
    tape = many_words k

    -- after the first close
    end : ℕ
    end = 33 + 11 * k + 1

    kids : Children
    kids = node (head_at tape 11) (node (head_at tape 22) (tokens_from tape 33 k) done) done

    ended : Head → Children → ℕ → Read Tree
    ended h c p = by_end (command_at tape p) (record { head = h; kids = c }) p

    closes-from : (n : ℕ) → drop (33 + 11 * k + n) tape ≡ drop n (times 3 close)
    closes-from n = after tape (33 + 11 * k) n (after tape 33 (11 * k) refl ∙ drop_at (times k word) (times 3 close) (11 * k) (words-length k))

    closed : (depth n : ℕ) {q : ℕ} {more : List ℕ} → eqb depth 0 ≡ false → q ≡ 33 + 11 * k + n → drop n (times 3 close) ≡ close ++ more → read none tape depth q ≡ got done (q + 1)
    closed depth n {q} z e f = read-close tape depth q (close-checked tape q depth z (ap (λ (x : ℕ). drop x tape) e ∙ closes-from n ∙ f))

    kids-read : read none tape 1 11 ≡ got kids (end + 1 + 1)
    kids-read =
        read-node tape 1 11 (file-checked tape 11 1 (omega arith) refl)
        (read-node tape 2 22 (file-checked tape 22 2 (omega arith) refl) (read-words tape k 33 (times 2 close) refl) (closed 2 1 refl refl refl))
        (closed 1 2 refl (omega arith) refl)

-- n closes
pub tape-refused : (n : ℕ) → 262144 < n → read_call 4 1 [] (replicate n 3) ≡ refused TapeTooLong 0
unfolding read_input read_call
tape-refused n h = rw (ascii-well 0 [] refl, length-replicate, lt-ltb 262144 n h)

-- ── the open nodes: 64; one File in another

abbrev pub nested : ℕ → List ℕ
nested n = times n file ++ times n close

-- so many of them from p on
abbrev pub nodes_from : List ℕ → ℕ → ℕ → Children
nodes_from tape p zero = done
nodes_from tape p (suc n) = node (head_at tape p) (nodes_from tape (p + 11) n) done

pub nodes-accepted : read_call 4 1 [] (nested 64) ≡ got (record { head = head_at (nested 64) 0; kids = nodes_from (nested 64) 11 63 }) 768
unfolding read_input read_call not_carried head_at command_at check_open check_token checked_at read_children read_tape holds character_length cut first_ill_formed
nodes-accepted = refl

pub nodes-refused : read_call 4 1 [] (nested 65) ≡ refused TooDeep 704
unfolding read_input read_call not_carried head_at command_at check_open check_token checked_at read_children read_tape holds character_length cut first_ill_formed
nodes-refused = refl
