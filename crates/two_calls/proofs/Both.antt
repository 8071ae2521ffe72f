-- From two calls to the masking rule, and to one length.
use mathlib.Core.Path.{◌≡◌, sym, ap, ◌∙◌}
use mathlib.Core.List.{List}
use Prim.Native.Nat.{ℕ}
use Rattle.context.specs.Cells.{Text}
use Rattle.layout.specs.Layout.{original}
use Rattle.layout.specs.Outcome.{Result, laid_out, outcome}
use Rattle.layout.specs.MapCall.{Mapped, mapped, numbers}
use Rattle.layout.proofs.TwoCalls.{masking_original, cells_after_lem}
use Rattle.layout.proofs.MapCalls.{masking_maps, map-cells_after, maps-masked}
use Rattle.layout.proofs.OneLength.{one_value_lem}
use Rattle.layout.specs.declared.Answer.{Answer}
use Rattle.two_calls.specs.Both.{LaysOutBoth, LaysOutTwice, MapsBoth}

module _ (a b : Text) (tape : List ℕ) (width case : ℕ) (r : Answer × Answer) where
  pub lays_out-both : (xs us : List ℕ) {ys zs : List ℕ}
      → ◌≡◌ {A = Result} (record { answer = r.0; space = ys }) (laid_out (outcome original width case a tape) xs)
      → ◌≡◌ {A = Result} (record { answer = r.1; space = zs }) (laid_out (outcome original width case b tape) us)
      → LaysOutBoth a b tape width case xs us r ys zs
  lays_out-both xs us {ys} {zs} p q =
      record {
        first = p;
        second = q;
        masked =
            λ m e.
            let k = masking_original width case a b tape m xs in
            let q' = rw (← e) at q in
            let u = ap (λ (z : Result). z.space) p in
            let v = ap (λ (z : Result). z.space) q' in (
              ap (λ (z : Result). z.answer) p ∙ k.answers ∙ sym (ap (λ (z : Result). z.answer) q'),
              record {
                first = u ∙ sym (cells_after_lem (outcome original width case a tape) xs);
                second = v ∙ sym (cells_after_lem (outcome original width case b tape) xs);
                alike = k.spaces;
                lines = λ w. rw (u, v) (k.lines w);
              },
            );
      }

  pub maps-both : (xs us ms ls : List ℕ) {ys zs ns os : List ℕ}
      → ◌≡◌ {A = Mapped} (record { answer = r.0; space = ys; map = ns }) (mapped width case a tape xs ms)
      → ◌≡◌ {A = Mapped} (record { answer = r.1; space = zs; map = os }) (mapped width case b tape us ls)
      → MapsBoth a b tape width case xs us ms ls r ys zs ns os
  unfolding mapped
  maps-both xs us ms ls {ys} {zs} {ns} {os} p q =
      record {
        first = p;
        second = q;
        masked =
            λ m e d.
            let k = masking_maps width case a b tape m xs ms in
            let q' = rw (← e, ← d) at q in
            let u = ap (λ (z : Mapped). z.space) p in
            let v = ap (λ (z : Mapped). z.space) q' in (
              ap (λ (z : Mapped). z.answer) p ∙ k.answers ∙ sym (ap (λ (z : Mapped). z.answer) q'),
              record {
                first = u ∙ sym (map-cells_after (outcome original width case a tape) (numbers width case a tape) xs ms);
                second = v ∙ sym (map-cells_after (outcome original width case b tape) (numbers width case b tape) xs ms);
                alike = k.spaces;
                lines = λ w. rw (u, v) (k.lines w);
              },
              λ w. ap (λ (z : Mapped). z.map) p ∙ k.maps w ∙ sym (ap (λ (z : Mapped). z.map) q'),
            );
        by_lines =
            λ m e d.
            let k = maps-masked width case a b tape m xs ms in
            let q' = rw (← e, ← d) at q in (
              rw (ap (λ (z : Mapped). z.space) p, ap (λ (z : Mapped). z.space) q') k.lines,
              ap (λ (z : Mapped). z.map) p ∙ k.maps ∙ sym (ap (λ (z : Mapped). z.map) q'),
            );
      }

module _ (text : Text) (tape : List ℕ) (width case : ℕ) (r : Answer × Answer) where
  pub lays_out-twice : (xs us : List ℕ) {ys zs : List ℕ}
      → ◌≡◌ {A = Result} (record { answer = r.0; space = ys }) (laid_out (outcome original width case text tape) xs)
      → ◌≡◌ {A = Result} (record { answer = r.1; space = zs }) (laid_out (outcome original width case text tape) us)
      → LaysOutTwice text tape width case xs us r ys zs
  lays_out-twice xs us p q =
      record {
        first = p;
        second = q;
        one_value = value p ∙ one_value_lem (outcome original width case text tape) xs us ∙ sym (value q);
      }
    where
      value : {x y : Result} → x ≡ y → x.answer.value ≡ y.answer.value
      value e = ap (λ (z : Result). z.answer.value) e
