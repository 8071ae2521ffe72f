-- The masking rule for one write: cells that are alike before it are alike after it, and so is what `finish` makes of them.
use mathlib.Core.Path.{◌≡◌, refl, sym, ap, subst, ◌∙◌}
use mathlib.Core.Bool.{Bool}
use mathlib.Core.List.{List, [], ◌∷◌, ◌++◌, map}
use Prim.Native.Nat.{ℕ, zero, suc, ◌+◌, ◌<◌}
use native.Mathlib.Nat.{add-zero, add-suc, suc-add}
use native.Mathlib.Omega.{arith}
use lib.Dec.{eqb}
use lib.ListN.{length, get_or, take}
use Rattle.context.specs.Cells.{Text, Cell, to_case, token_text, bytes_of, fresh, copied_from, span_cells, cell_in_case}
use Rattle.utf8.specs.Trimming.{trimmed_length}
use Rattle.context.specs.Context.{Step, write_token, write_keyword, end_line, trim_end, finish}
use Rattle.context.specs.Alike.{CellLike, Like}
use Rattle.context.specs.declared.FormatConfig.{FormatConfig}
use Rattle.context.specs.declared.State.{State}
use Rattle.context.proofs.Bytes.{newline-in_case, token-at, token-length_same}

module _ (a b : Text) where
  cell_self : {c : Cell} → CellLike a b c c
  cell_self = record { origins = refl; bytes = λ e. refl; lines = λ e. refl }

  pub like_self : (cs : List Cell) → Like a b cs cs
  like_self [] = tt
  like_self (c ∷ cs) = (cell_self, like_self cs)

  pub like_append : (xs ys zs ws : List Cell) → Like a b xs ys → Like a b zs ws → Like a b (xs ++ zs) (ys ++ ws)
  like_append [] [] zs ws h k = k
  like_append (x ∷ xs) (y ∷ ys) zs ws h k = (h.0, like_append xs ys zs ws h.1 k)
  like_append _ _ zs ws h k = absurd h

  pub like_length : (xs ys : List Cell) → Like a b xs ys → length xs ≡ length ys
  like_length [] [] h = refl
  like_length (x ∷ xs) (y ∷ ys) h = ap suc (like_length xs ys h.1)
  like_length _ _ h = absurd h

  pub like_at : (xs ys : List Cell) → Like a b xs ys → (i : ℕ) → CellLike a b (get_or xs i (fresh 0)) (get_or ys i (fresh 0))
  like_at [] [] h i = cell_self
  like_at (x ∷ xs) (y ∷ ys) h zero = h.0
  like_at (x ∷ xs) (y ∷ ys) h (suc i) = like_at xs ys h.1 i
  like_at _ _ h i = absurd h

  like_take : (n : ℕ) (xs ys : List Cell) → Like a b xs ys → Like a b (take n xs) (take n ys)
  like_take zero xs ys h = tt
  like_take (suc n) [] [] h = tt
  like_take (suc n) (x ∷ xs) (y ∷ ys) h = (h.0, like_take n xs ys h.1)
  like_take (suc n) _ _ h = absurd h

  pub like_in_case : (uppercase : Bool) (xs ys : List Cell) → Like a b xs ys → Like a b (map (cell_in_case uppercase) xs) (map (cell_in_case uppercase) ys)
  like_in_case u [] [] h = tt
  like_in_case u (x ∷ xs) (y ∷ ys) h =
      let k = h.0 in (
        record {
          origins = k.origins;
          bytes = λ e. ap (to_case u) (k.bytes e);
          lines = λ e. newline-in_case u x.byte ∙ k.lines e ∙ sym (newline-in_case u y.byte);
        },
        like_in_case u xs ys h.1,
      )
  like_in_case u _ _ h = absurd h

  -- ── the same span of two texts of one length

  copied-like : (p : ℕ) (xs ys : List ℕ) → length xs ≡ length ys → ((i : ℕ) → i < length xs → get_or xs i 0 ≡ get_or a (p + i) 0)
      → ((i : ℕ) → i < length ys → get_or ys i 0 ≡ get_or b (p + i) 0) → Like a b (copied_from p xs) (copied_from p ys)
  copied-like p [] [] l f g = tt
  copied-like p (x ∷ xs) (y ∷ ys) l f g =
      let u : x ≡ get_or a p 0 = f 0 (omega arith) ∙ ap (λ (n : ℕ). get_or a n 0) (add-zero p) in
      let v : y ≡ get_or b p 0 = g 0 (omega arith) ∙ ap (λ (n : ℕ). get_or b n 0) (add-zero p) in (
        record {
          origins = refl;
          bytes = λ e. u ∙ e ∙ sym v;
          lines = λ e. ap (λ (n : ℕ). eqb n 10) u ∙ e ∙ sym (ap (λ (n : ℕ). eqb n 10) v);
        },
        copied-like (suc p) xs ys (omega arith)
            (λ i h. f (suc i) (omega arith) ∙ ap (λ (n : ℕ). get_or a n 0) (add-suc p i ∙ sym (suc-add p i)))
            (λ i h. g (suc i) (omega arith) ∙ ap (λ (n : ℕ). get_or b n 0) (add-suc p i ∙ sym (suc-add p i))),
      )
  copied-like p _ _ l f g = absurd (omega arith)

  pub span-like : length a ≡ length b → (start end : ℕ) → Like a b (span_cells a start end) (span_cells b start end)
  span-like h s e = copied-like s (token_text a s e) (token_text b s e) (token-length_same a b s e h) (token-at a s e) (token-at b s e)

  -- ── one write

  -- the same next state, the same before the text, and texts alike
  pub record StepLike (x y : Step) : Type 0 where
    pub next : x.0 ≡ y.0
    pub leads : x.1.lead ≡ y.1.lead
    pub bodies : Like a b x.1.body y.1.body

  module _ (cs ds : List Cell) (alike : Like a b cs ds) where
    pub keyword-like : (config : FormatConfig) (s : State) → StepLike (write_keyword config cs s) (write_keyword config ds s)
    unfolding write_keyword write_token
    keyword-like config s = record { next = refl; leads = refl; bodies = like_in_case config.uppercase_keywords cs ds alike }

    -- ── finish

    pub finish-like : trimmed_length (bytes_of cs) ≡ trimmed_length (bytes_of ds) → Like a b (finish cs) (finish ds)
    unfolding finish trim_end
    finish-like e =
        go (trim_end cs) (trim_end ds) (subst (λ (n : ℕ). Like a b (trim_end cs) (take n ds)) e (like_take (trimmed_length (bytes_of cs)) cs ds alike))
      where
        go : (xs ys : List Cell) → Like a b xs ys → Like a b (end_line xs) (end_line ys)
        go [] [] h = tt
        go (x ∷ xs) (y ∷ ys) h = like_append (x ∷ xs) (y ∷ ys) (fresh 10 ∷ []) (fresh 10 ∷ []) h (like_self (fresh 10 ∷ []))
        go _ _ h = absurd h
