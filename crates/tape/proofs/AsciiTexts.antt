-- Where a whole text is ASCII, no place lies inside a character and no span holds a byte above 127: only its length counts.
use Prim.Native.Nat.{ℕ, ◌<◌}
use native.Mathlib.Omega.{arith}
use mathlib.Core.Path.{◌≡◌, refl, ap, ap₂, ◌∙◌, fun_ext}
use mathlib.Core.Bool.{Bool, true, false, cond, not, ◌||◌}
use mathlib.Core.List.{List}
use lib.ListN.{length, get_or}
use lib.Dec.{ltb}
use Rattle.utf8.specs.Table.{is_ascii}
use Rattle.utf8.specs.Pieces.{pieces, inside}
use Rattle.utf8.proofs.Rows.{trailing_below}
use Rattle.utf8.proofs.Bounds.{inside-trailing}
use Rattle.utf8.proofs.CharacterLength.{ascii-well, ascii-bytes, ascii-part}
use Rattle.tape.specs.declared.Fault.TheVariants.{IndentWidth, CaseByte, TextTooLong, TapeTooLong}
use Rattle.tape.specs.Tree.{Tree}
use Rattle.tape.specs.Tape.{tests_of, length_alone, Read, refused, read_tape, read_tree}
use Rattle.tape.specs.Call.{read_input, read_call, let_pass}
use Rattle.tape.proofs.LengthAlone.{alone_passes}

module _ (text : List ℕ) (ascii : is_ascii text ≡ true) where
  nowhere_inside : (p : ℕ) → inside p (pieces text) ≡ false
  nowhere_inside p =
      let l : get_or text p 0 < 128 = omega (arith, ascii-bytes text ascii p) in
      inside-trailing text (ascii-well 0 text ascii) p ∙ trailing_below (get_or text p 0) l

  pub ascii-tests : tests_of text ≡ length_alone (length text)
  ascii-tests =
      ap₂ (λ f g. record { length = length text; inside_character = f; not_ascii = g })
      (fun_ext (λ h. ap₂ (λ s t. s || t) (nowhere_inside h.start) (nowhere_inside h.end)))
      (fun_ext (λ h. ap not (ascii-part text ascii h.start h.end)))

  pub ascii-reading : (tape : List ℕ) → read_tape (tests_of text) tape ≡ read_tree (length text) tape
  unfolding read_tree
  ascii-reading tape = ap (λ t. read_tape t tape) ascii-tests

  -- 4, 15 and 16 let it pass
  pub ascii-passes : (width case : ℕ) (tape : List ℕ) → let_pass (read_call width case text tape) ≡ true
  unfolding read_call read_input
  ascii-passes width case tape =
      rw (ascii-well 0 text ascii, ascii-reading tape)
      (go (ltb 16 width) (ltb 1 case) (ltb 262144 (length text)) (ltb 262144 (length tape)) (read_tree (length text) tape) (alone_passes (length text) tape))
    where
      go : (w c t n : Bool) (r : Read Tree) → let_pass r ≡ true
          → let_pass (cond w (refused IndentWidth 0) (cond c (refused CaseByte 0) (cond t (refused TextTooLong 0) (cond n (refused TapeTooLong 0) r)))) ≡ true
      go true c t n r e = refl
      go false true t n r e = refl
      go false false true n r e = refl
      go false false false true r e = refl
      go false false false false r e = e
