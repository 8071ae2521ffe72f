-- Laws of writes: what code did is what a step stores, writes in a row, and what writes use up of the room.
use mathlib.Core.Path.{◌≡◌, refl, sym, ap, ap₂, ◌∙◌}
use mathlib.Core.Bool.{Bool, false}
use mathlib.Core.List.{List, [], ◌++◌, map}
use Prim.Native.Nat.{ℕ, ◌+◌, ◌^◌, ◌≤◌}
use native.Mathlib.Nat.{add_assoc, add-zero}
use native.Mathlib.Omega.{arith}
use lib.ListN.{length, replicate, length-append, length-replicate, length-map}
use Rattle.utf8.specs.Pieces.{Starts}
use Rattle.utf8.specs.Trimming.{trimmed_length, trimmed_after}
use Rattle.utf8.proofs.Trimming.{trimmed-append, trimmed-nothing}
use Rattle.context.specs.Cells.{Cell, to_case, bytes_of, fixed, cell_in_case}
use Rattle.context.specs.Splice.{splice}
use Rattle.context.specs.Context.{Step, after_write, lead, write_token, write_keyword, write_raw, ends_in_newline}
use Rattle.context.specs.Store.{advanced, Store, appended, stored, with_state, after_text, Spent, Wrote}
use Rattle.context.specs.declared.FormatConfig.{FormatConfig}
use Rattle.context.specs.declared.State.{State}
use Rattle.context.specs.declared.Position.{Position}
use Rattle.context.specs.declared.FormatterContext.{FormatterContext}
use Rattle.context.proofs.Splicing.{splice-nil, splice-splice}
use Rattle.context.proofs.Trimming.{trimmed-lead, after-after}
use Rattle.context.proofs.Bytes.{bytes-append, bytes-fixed, bytes-in_case, trimmed-in_case}

-- ── what writes use up of the room

pub spent-none : {c : FormatterContext} → Spent 0 c c
spent-none = record { level = omega arith; length = omega arith }

pub spent-twice : {m n : ℕ} {c r q : FormatterContext} → Spent m c r → Spent n r q → Spent (m + n) c q
spent-twice a b = record { level = omega arith; length = omega arith }

-- ── the position

-- after n blanks and bs
pub advanced-blanks : (n : ℕ) (bs : List ℕ) (p : Position) (l k : ℕ) → l ≡ p.length + n + length bs
    → k ≡ trimmed_after (p.length + n) p.trimmed (trimmed_length bs)
    → record { length = l; trimmed = k } ≡ advanced (replicate n 32 ++ bs) p
unfolding advanced
advanced-blanks n bs p l k e f =
    let x : l ≡ p.length + length (replicate n 32 ++ bs) = e ∙ rw (length-append, length-replicate) (add_assoc p.length n (length bs)) in
    let y = f ∙ sym (trimmed-lead n bs p.length p.trimmed) in
    λ i. record { length = x i; trimmed = y i }

-- a change of case does not move it
advanced-in_case : (uppercase : Bool) (n : ℕ) (bs : List ℕ) (p : Position) → advanced (replicate n 32 ++ bs) p ≡ advanced (replicate n 32 ++ map (to_case uppercase) bs) p
unfolding advanced
advanced-in_case uppercase n bs p =
    advanced-blanks n (map (to_case uppercase) bs) p _ _
    (rw (length-append, length-replicate, length-map) (sym (add_assoc p.length n (length bs))))
    (trimmed-lead n bs p.length p.trimmed ∙ ap (trimmed_after (p.length + n) p.trimmed) (sym (trimmed-in_case uppercase bs)))

-- ── two writes in a row are one, and none is one of nothing

pub appended-twice : (s s' : State) (a b : List ℕ) (w : Store) → Starts b → appended s b (appended s' a w) ≡ appended s (a ++ b) w
unfolding appended advanced
appended-twice s s' a b w h =
    let p = w.0.position in
    let x : p.length + length a + length b ≡ p.length + length (a ++ b) = omega (arith, length-append a b) in
    let k = trimmed_length in
    let y = sym (after-after p.length p.trimmed (length a) (k a) (k b)) ∙ ap (trimmed_after p.length p.trimmed) (sym (trimmed-append a b h)) in
    let z = splice-splice p.length a b w.1 in
    λ i. (record { state = s; position = record { length = x i; trimmed = y i } }, z i)

pub appended-none : (s : State) (c : FormatterContext) (xs : List ℕ) → ◌≡◌ {A = Store} (with_state s c, xs) (appended s [] (c, xs))
unfolding appended advanced
appended-none s c xs =
    let x = sym (add-zero c.position.length) in
    let z = sym (splice-nil c.position.length xs) in
    let y = sym (ap (trimmed_after c.position.length c.position.trimmed) trimmed-nothing) in
    λ i. (record { state = s; position = record { length = x i; trimmed = y i } }, z i)

-- ── a text that the code wrote as bytes, as the cells that have these bytes

module _ (cs : List Cell) (bs : List ℕ) (e : bytes_of cs ≡ bs) (s : State) (w : Store) where
  same_bytes : (t : State) (l x y : List Cell) → bytes_of x ≡ bytes_of y → stored (t, record { lead = l; body = x }) w ≡ stored (t, record { lead = l; body = y }) w
  same_bytes t l x y q = cc (bytes-append l x, bytes-append l y)

  fixed-bytes : bytes_of (fixed bs) ≡ bytes_of cs
  fixed-bytes = bytes-fixed bs ∙ sym e

  pub stored-token : (config : FormatConfig) → stored (write_token config (fixed bs) s) w ≡ stored (write_token config cs s) w
  unfolding write_token
  stored-token config = same_bytes _ (lead config s) (fixed bs) cs fixed-bytes

  pub stored-keyword : (config : FormatConfig) → stored (write_keyword config (fixed bs) s) w ≡ stored (write_keyword config cs s) w
  unfolding write_keyword write_token
  stored-keyword config =
      let u = config.uppercase_keywords in
      same_bytes _ (lead config s) (map (cell_in_case u) (fixed bs)) (map (cell_in_case u) cs)
      (cc (bytes-in_case u (fixed bs), bytes-in_case u cs, fixed-bytes))

  pub stored-raw : stored (write_raw (fixed bs) s) w ≡ stored (write_raw cs s) w
  unfolding write_raw
  stored-raw = ap (λ (z : List ℕ). appended (after_write (ends_in_newline z) s) z w) fixed-bytes

-- ── what code did is what a step stores

module _ (x : Step) (bs : List ℕ) (e : bytes_of (x.1.lead ++ x.1.body) ≡ bs) (c : FormatterContext) (xs : List ℕ) where
  pub wrote : {s : State} {p : Position} {ys : List ℕ} → s ≡ x.0 → x.0.indent_level ≡ c.state.indent_level → p ≡ advanced bs c.position
      → length bs ≤ 2 ^ 26 → ys ≡ splice c.position.length bs xs → Wrote 1 (stored x (c, xs)) c (record { state = s; position = p }) ys
  unfolding appended advanced
  wrote {s} {p} {ys} f l g k h =
      let m = ap (λ (q : Position). q.length) g in
      let n = ap (λ (t : State). t.indent_level) f in
      record {
        did = (λ i. (record { state = f i; position = g i }, h i)) ∙ ap (λ (z : List ℕ). appended x.0 z (c, xs)) (sym e);
        spent = record { level = omega arith; length = omega arith };
      }

-- a token: n blanks, and then its bytes
module _ (config : FormatConfig) (cs : List Cell) (bs : List ℕ) (e : bytes_of cs ≡ bs) (c : FormatterContext) (n : ℕ) (b : bytes_of (lead config c.state) ≡ replicate n 32) where
  pub token-wrote : {s : State} {p : Position} (xs : List ℕ) {ys zs : List ℕ} → n ≤ 2 ^ 24 → length bs ≤ 2 ^ 18
      → s ≡ after_write false c.state → p ≡ advanced (replicate n 32 ++ bs) c.position
      → ys ≡ splice c.position.length (replicate n 32) xs → zs ≡ splice (c.position.length + n) bs ys
      → Wrote 1 (stored (write_token config cs c.state) (c, xs)) c (record { state = s; position = p }) zs
  unfolding write_token
  token-wrote xs h k f g v w =
      wrote (write_token config cs c.state) (replicate n 32 ++ bs) (bytes-append (lead config c.state) cs ∙ ap₂ (λ (y z : List ℕ). y ++ z) b e) c xs
      f refl g
      (rw (length-append, length-replicate) (omega arith))
      (w ∙ rw v (rw length-replicate at (splice-splice c.position.length (replicate n 32) bs xs)))

module _ (config : FormatConfig) (bs : List ℕ) (c : FormatterContext) (n : ℕ) (b : bytes_of (lead config c.state) ≡ replicate n 32) where
  pub keyword-wrote : {s : State} {p : Position} (xs : List ℕ) {ys zs : List ℕ} → n ≤ 2 ^ 24 → length bs ≤ 2 ^ 18
      → s ≡ after_write false c.state → p ≡ advanced (replicate n 32 ++ bs) c.position
      → ys ≡ splice c.position.length (replicate n 32) xs → zs ≡ splice (c.position.length + n) (map (to_case config.uppercase_keywords) bs) ys
      → Wrote 1 (stored (write_keyword config (fixed bs) c.state) (c, xs)) c (record { state = s; position = p }) zs
  unfolding write_keyword
  keyword-wrote xs h k f g v w =
      let u = config.uppercase_keywords in
      token-wrote config (map (cell_in_case u) (fixed bs)) (map (to_case u) bs) (bytes-in_case u (fixed bs) ∙ ap (map (to_case u)) (bytes-fixed bs)) c n b xs h (rw length-map k)
      f (g ∙ advanced-in_case u n bs c.position) v w

-- the same by `put` and `after_text`: the blanks and the text with its trimmed length
module _ (config : FormatConfig) (bs : List ℕ) (c : FormatterContext) (n : ℕ) (b : bytes_of (lead config c.state) ≡ replicate n 32) (h : n ≤ 2 ^ 24) (k : length bs ≤ 2 ^ 18) where
  put-position : {j : ℕ} → j ≡ trimmed_length bs → (after_text n (length bs) j c).position ≡ advanced (replicate n 32 ++ bs) c.position
  put-position {j} e = advanced-blanks n bs c.position _ _ refl (ap (trimmed_after (c.position.length + n) c.position.trimmed) e)

  pub token-put : {j : ℕ} (xs : List ℕ) {r : FormatterContext} {zs : List ℕ} → j ≡ trimmed_length bs → r ≡ after_text n (length bs) j c
      → zs ≡ splice (c.position.length + n) bs (splice c.position.length (replicate n 32) xs) → Wrote 1 (stored (write_token config (fixed bs) c.state) (c, xs)) c r zs
  token-put xs e f w = rw f (token-wrote config (fixed bs) bs (bytes-fixed bs) c n b xs h k refl (put-position e) refl w)

  pub keyword-put : {j : ℕ} (xs : List ℕ) {r : FormatterContext} {zs : List ℕ} → j ≡ trimmed_length bs → r ≡ after_text n (length bs) j c
      → zs ≡ splice (c.position.length + n) (map (to_case config.uppercase_keywords) bs) (splice c.position.length (replicate n 32) xs)
      → Wrote 1 (stored (write_keyword config (fixed bs) c.state) (c, xs)) c r zs
  keyword-put xs e f w = rw f (keyword-wrote config bs c n b xs h k refl (put-position e) refl w)
