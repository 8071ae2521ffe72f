-- The place that the code notes of a token is that of the token in its text: a text is empty where its start is its end.
use Rattle.std.proofs.Common.{◌≡◌, ◌∙◌, ◌≤◌, ◌-◌, List, ℕ, eqb, length, refl, sym, inl, inr, arith}
use Rattle.std.proofs.lemmas.Bool.{cases_eq}
use borrow.Author.Tests.{eq-eqb, ne_eqb}
use Rattle.context.specs.Cells.{Text, token_text}
use Rattle.context.specs.declared.Position.{Position}
use Rattle.context.proofs.Bytes.{token-length}
use Rattle.tape.specs.declared.Head.{Head}
use Rattle.token_map.specs.declared.Signs.{Signs}
use Rattle.token_map.specs.Notes.{noted}
use Rattle.token_map.specs.Signs.{place_by, place_from}

empty-text : (text : Text) (s e : ℕ) → s ≤ e → e ≤ length text → eqb (length (token_text text s e)) 0 ≡ eqb s e
empty-text text s e h k =
    rw (token-length text s e h k)
    (elim (cases_eq s e) as (λ _. eqb (e - s) 0 ≡ eqb s e) [ inl x ↦ eq-eqb (e - s) 0 (omega arith) ∙ sym (eq-eqb s e x) | inr n ↦ ne_eqb (e - s) 0 (λ z. n (omega arith)) ∙ sym (ne_eqb s e n) ])

-- what is noted by kind and text of a token is what is noted by its head
pub noted-by_head : (text : Text) (h : Head) (signs : Signs) (p : Position) (ns : List ℕ) {kind : ℕ} {t : Text} {ms : List ℕ}
    → h.start ≤ h.end → h.end ≤ length text → kind ≡ h.kind → t ≡ token_text text h.start h.end
    → ms ≡ noted (place_from signs kind t p) ns → ms ≡ noted (place_by signs text h p) ns
unfolding place_by place_from
noted-by_head text h signs p ns l k e f m = rw (m, e, f, empty-text text h.start h.end l k) refl
