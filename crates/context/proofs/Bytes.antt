-- The bytes of cells, what a change of case keeps, and the text of a span.
use mathlib.Core.Path.{◌≡◌, refl, sym, ap, ◌∙◌}
use mathlib.Core.Bool.{Bool}
use mathlib.Core.List.{List, [], ◌∷◌, ◌++◌, map}
use Prim.Native.Nat.{ℕ, zero, suc, min, ◌+◌, ◌-◌, ◌≤◌, ◌<◌}
use native.Mathlib.Nat.{min-le_left}
use native.Mathlib.Omega.{arith}
use lib.Dec.{eqb}
use lib.ListN.{length, get_or, drop, replicate, length-take, length-drop}
use Rattle.std.proofs.lemmas.List.{map-append}
use lib.Seq.{length-take-le, get_or-take, get_or-drop, ext_get_or}
use Rattle.std.proofs.lemmas.Bool.Decides.{nat_tests}
use Rattle.basics.specs.Case.{to_uppercase, to_lowercase}
use Rattle.utf8.specs.Table.{holds}
use Rattle.utf8.specs.Pieces.{is_trailing}
use Rattle.utf8.specs.Trimming.{trimmed_length, is_white_byte}
use Rattle.utf8.proofs.InCase.{trimmed_length-map}
use Rattle.context.specs.Cells.{Text, Cell, to_case, token_text, bytes_of, fresh, fixed, copied_from, span_cells, cell_in_case}
use Rattle.context.specs.Context.{last_byte}

pub bytes-append : (a b : List Cell) → bytes_of (a ++ b) ≡ bytes_of a ++ bytes_of b
bytes-append = map-append (λ (c : Cell). c.byte)

pub bytes-fixed : (bs : List ℕ) → bytes_of (fixed bs) ≡ bs
bytes-fixed [] = refl
bytes-fixed (b ∷ bs) = ap {B = List ℕ} (λ r. b ∷ r) (bytes-fixed bs)

pub bytes-blanks : (n : ℕ) → bytes_of (replicate n (fresh 32)) ≡ replicate n 32
bytes-blanks zero = refl
bytes-blanks (suc n) = ap {B = List ℕ} (λ r. 32 ∷ r) (bytes-blanks n)

bytes-copied : (p : ℕ) (bs : List ℕ) → bytes_of (copied_from p bs) ≡ bs
bytes-copied p [] = refl
bytes-copied p (b ∷ bs) = ap {B = List ℕ} (λ r. b ∷ r) (bytes-copied (suc p) bs)

pub bytes-span : (source : Text) (start end : ℕ) → bytes_of (span_cells source start end) ≡ token_text source start end
bytes-span source start end = bytes-copied start (token_text source start end)

pub bytes-in_case : (uppercase : Bool) (cs : List Cell) → bytes_of (map (cell_in_case uppercase) cs) ≡ map (to_case uppercase) (bytes_of cs)
bytes-in_case uppercase [] = refl
bytes-in_case uppercase (c ∷ cs) = ap {B = List ℕ} (λ r. to_case uppercase c.byte ∷ r) (bytes-in_case uppercase cs)

-- ── a change of case

white_in_case : (uppercase : Bool) (b : ℕ) → is_white_byte (to_case uppercase b) ≡ is_white_byte b
unfolding is_white_byte to_uppercase to_lowercase
white_in_case uppercase b = grind (arith, nat_tests)

pub newline-in_case : (uppercase : Bool) (b : ℕ) → eqb (to_case uppercase b) 10 ≡ eqb b 10
unfolding to_uppercase to_lowercase
newline-in_case uppercase b = grind (arith, nat_tests)

-- bytes above 127 stay, and no other becomes one
case-high : (uppercase : Bool) (b : ℕ) → 128 ≤ b → to_case uppercase b ≡ b
unfolding to_uppercase to_lowercase
case-high uppercase b h = grind (arith, nat_tests)

case-low : (uppercase : Bool) (b : ℕ) → b < 128 → to_case uppercase b < 128
unfolding to_uppercase to_lowercase
case-low uppercase b h = grind (arith, nat_tests)

-- so the later bytes of characters are the same
pub trailing_in_case : (uppercase : Bool) (b : ℕ) → is_trailing (to_case uppercase b) ≡ is_trailing b
unfolding is_trailing holds to_uppercase to_lowercase
trailing_in_case uppercase b = grind (arith, nat_tests)

pub trimmed-in_case : (uppercase : Bool) (bs : List ℕ) → trimmed_length (map (to_case uppercase) bs) ≡ trimmed_length bs
trimmed-in_case uppercase = trimmed_length-map (to_case uppercase) (case-high uppercase) (case-low uppercase) (white_in_case uppercase)

-- ── the text of a span

pub token-length : (t : Text) (s e : ℕ) → s ≤ e → e ≤ length t → length (token_text t s e) ≡ e - s
unfolding token_text
token-length t s e h k = length-take-le (e - s) (drop s t) (omega (arith, length-drop s t))

token-inside : (t : Text) (s e i : ℕ) → i < length (token_text t s e) → i < e - s
unfolding token_text
token-inside t s e i h = omega (arith, length-take (e - s) (drop s t), min-le_left (e - s) (length (drop s t)))

pub token-at : (t : Text) (s e i : ℕ) → i < length (token_text t s e) → get_or (token_text t s e) i 0 ≡ get_or t (s + i) 0
unfolding token_text
token-at t s e i h = get_or-take (e - s) (drop s t) i 0 (token-inside t s e i h) ∙ get_or-drop s t i 0

-- its last byte
pub token-last : (t : Text) (s e : ℕ) → s < e → e ≤ length t → last_byte (token_text t s e) ≡ get_or t (e - 1) 0
token-last t s e h k =
    let l = token-length t s e (omega arith) k in
    let i : s + (length (token_text t s e) - 1) ≡ e - 1 = omega arith in
    token-at t s e (length (token_text t s e) - 1) (omega arith) ∙ ap (λ (p : ℕ). get_or t p 0) i

-- texts of one length have as many bytes there
pub token-length_same : (a b : Text) (s e : ℕ) → length a ≡ length b → length (token_text a s e) ≡ length (token_text b s e)
unfolding token_text
token-length_same a b s e h =
    length-take (e - s) (drop s a)
    ∙ ap (min (e - s)) (length-drop s a ∙ ap (λ (n : ℕ). n - s) h ∙ sym (length-drop s b))
    ∙ sym (length-take (e - s) (drop s b))

-- and the same text, if they agree there
pub token-same : (a b : Text) (s e : ℕ) → length a ≡ length b → ((p : ℕ) → s ≤ p → p < e → get_or a p 0 ≡ get_or b p 0) → token_text a s e ≡ token_text b s e
token-same a b s e h f =
    let l = token-length_same a b s e h in
    ext_get_or 0 (token_text a s e) (token_text b s e) l
    (λ i k.
    let q : i < e - s = token-inside a s e i k in
    token-at a s e i k ∙ f (s + i) (omega arith) (omega arith) ∙ sym (token-at b s e i (omega arith)))
