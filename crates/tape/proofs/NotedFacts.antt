-- What the check notes of each node is true of it: of the byte after all children, then of all bytes after a whole tree.
use Prim.Native.Nat.{ℕ, zero, suc, ◌+◌, ◌*◌, ◌/◌, ◌%◌, ◌≤◌, ◌<◌}
use native.Mathlib.Omega.{arith}
use mathlib.Core.Path.{◌≡◌, refl, sym, ap, ◌∙◌, subst}
use mathlib.Core.Bool.{Bool, true, false, cond, ◌||◌, or-false, or_assoc}
use mathlib.Core.List.{List, [], ◌∷◌}
use mathlib.Core.Logic.{◌⊎◌, inl, inr, ⊎_elim}
use lib.ListN.{length, get_or, set, length-set}
use lib.Seq.{lt-length-set, get_or-set_same, get_or-set_other}
use lib.Dec.{eqb, ltb, leb-suc-suc}
use borrow.Author.Tests.{ltb-true, eqb-true, lt-ltb, le-ltb}
use Rattle.tape.specs.declared.Head.{Head}
use Rattle.tape.specs.Kinds.{Error, GroupByList, OrderByList}
use Rattle.tape.specs.Tree.{Children, done, token, node, Tree, size, has_child, has_error_child, count_list_items, EachNode}
use Rattle.tape.specs.Tape.{head_at}
use Rattle.tape.specs.SpelledAt.{OpenAt, SpelledAt}
use Rattle.std.specs.Prelude.{Option, Some, None}
use Rattle.tape.specs.NodeFacts.{notes_error, notes_several, notes_list, NodeFacts, NotedNode, Noted, opened, with_child, noted_open}
use Rattle.tape.proofs.AddedBits.{with_bits}

-- the byte f after all children
pub noted : ℕ → Children → ℕ
noted f done = f
noted f (token h rest) = noted f rest
noted f (node h kids rest) = noted (with_child f h.kind) rest

-- two functions agree at every number below n where their lists of values are one: so a fact of all bytes is computed by one refl
table : {A : Type 0} → ℕ → (ℕ → A) → List A
table zero f = []
table (suc n) f = f 0 ∷ table n (λ i. f (suc i))

below : {A : Type 0} (n : ℕ) (f g : ℕ → A) → table n f ≡ table n g → (i : ℕ) → i < n → f i ≡ g i
unfolding table
below zero f g e i l = absurd (omega arith)
below (suc n) f g e zero l = cc
below (suc n) f g e (suc i) l = below n (λ j. f (suc j)) (λ j. g (suc j)) (cc) i (omega arith)

-- all that a byte says, any that a node was among the children, and whether it is below 32
record Notes : Type 0 where
  error : Bool
  any : Bool
  several : Bool
  group_by_list : Bool
  order_by_list : Bool
  fits : Bool

abbrev notes : ℕ → Notes
notes f =
    record {
      error = notes_error f;
      any = eqb (f / 2 % 2) 1;
      several = notes_several f;
      group_by_list = notes_list GroupByList f;
      order_by_list = notes_list OrderByList f;
      fits = ltb f 32;
    }

-- what there is to say after one more child, by whether it is an Error node, a GroupByList, an OrderByList
abbrev after : Bool → Bool → Bool → Notes → Notes
after e g o n =
    record {
      error = n.error || e;
      any = true;
      several = n.several || n.any;
      group_by_list = n.group_by_list || g;
      order_by_list = n.order_by_list || o;
      fits = n.fits;
    }

-- the byte says so after each of the four sorts of child: computed for every byte below 32
child_noted : (f k : ℕ) → ltb f 32 ≡ true → notes (with_child f k) ≡ after (eqb k Error) (eqb k GroupByList) (eqb k OrderByList) (notes f)
unfolding table
child_noted f k l = go (eqb k Error) (eqb k GroupByList) (eqb k OrderByList) refl refl refl
  where
    computed : (b : ℕ) (e g o : Bool) → table 32 (λ x. notes (with_bits b x)) ≡ table 32 (λ x. after e g o (notes x))
        → notes (with_bits b f) ≡ after e g o (notes f)
    computed b e g o t = below 32 (λ x. notes (with_bits b x)) (λ x. after e g o (notes x)) t f (ltb-true f 32 l)

    go : (e g o : Bool) → eqb k Error ≡ e → eqb k GroupByList ≡ g → eqb k OrderByList ≡ o
        → notes (with_bits (cond e 3 (cond g 10 (cond o 18 2))) f) ≡ after e g o (notes f)
    go true true o u v w = absurd (omega (arith, eqb-true k Error u, eqb-true k GroupByList v))
    go true false true u v w = absurd (omega (arith, eqb-true k Error u, eqb-true k OrderByList w))
    go true false false u v w = computed 3 true false false refl
    go false true true u v w = absurd (omega (arith, eqb-true k GroupByList v, eqb-true k OrderByList w))
    go false true false u v w = computed 10 false true false refl
    go false false true u v w = computed 18 false false true refl
    go false false false u v w = computed 2 false false false refl

-- what the byte g says after these children, where n was said before them
record Told (n : Notes) (g : ℕ) (c : Children) : Type 0 where
  error : notes_error g ≡ (n.error || has_error_child c)
  several : notes_several g ≡ (n.several || ltb (cond n.any 0 1) (count_list_items c))
  group_by_list : notes_list GroupByList g ≡ (n.group_by_list || has_child GroupByList c)
  order_by_list : notes_list OrderByList g ≡ (n.order_by_list || has_child OrderByList c)

-- several after one more node: where one was among them before, the next is enough
one_more : (several any : Bool) (n : ℕ) → (several || any || ltb 0 n) ≡ (several || ltb (cond any 0 1) (suc n))
one_more true any n = refl
one_more false true n = sym (lt-ltb 0 (suc n) (omega arith))
one_more false false n = sym (leb-suc-suc 1 n)

told : (f : ℕ) (c : Children) → ltb f 32 ≡ true → Told (notes f) (noted f c) c
unfolding noted has_child count_list_items
told f done l =
    record {
      error = sym (or-false (notes f).error);
      several = rw (le-ltb (cond (notes f).any 0 1) 0 (omega arith)) (sym (or-false (notes f).several));
      group_by_list = sym (or-false (notes f).group_by_list);
      order_by_list = sym (or-false (notes f).order_by_list);
    }
told f (token h rest) l =
    let t = told f rest l in
    record { error = t.error; several = t.several; group_by_list = t.group_by_list; order_by_list = t.order_by_list }
told f (node h kids rest) l =
    let s = child_noted f h.kind l in
    let t = subst (λ n. Told n (noted (with_child f h.kind) rest) rest) s (told (with_child f h.kind) rest (ap (λ n. n.fits) s ∙ l)) in
    record {
      error = t.error ∙ or_assoc (notes f).error (eqb h.kind Error) (has_error_child rest);
      several = t.several ∙ one_more (notes f).several (notes f).any (count_list_items rest);
      group_by_list = t.group_by_list ∙ or_assoc (notes f).group_by_list (eqb h.kind GroupByList) (has_child GroupByList rest);
      order_by_list = t.order_by_list ∙ or_assoc (notes f).order_by_list (eqb h.kind OrderByList) (has_child OrderByList rest);
    }

pub noted-facts : (k : ℕ) (kids : Children) → NodeFacts (noted (opened k) kids) k kids
noted-facts k kids =
    let s = start (eqb k Error) in
    let t = subst (λ n. Told n (noted (opened k) kids) kids) s (told (opened k) kids (ap (λ n. n.fits) s)) in
    record { error = t.error; several = t.several; group_by_list = t.group_by_list; order_by_list = t.order_by_list }
  where
    start : (e : Bool) → notes (cond e 1 0) ≡ record { error = e; any = false; several = false; group_by_list = false; order_by_list = false; fits = true }
    start true = refl
    start false = refl

-- what the check does with the bytes at an open: i is the node's place among them, q its parent's. The root has none, and its own
-- place serves: the node's byte is set last
abbrev pub opened_at : ℕ → ℕ → ℕ → List ℕ → List ℕ
opened_at i q k fs = set (set fs q (with_child (get_or fs q 0) k)) i (opened k)

-- and at all children of the node whose place is q, and at a whole tree
unfoldable pub fill : ℕ → Children → List ℕ → List ℕ
fill q done fs = fs
fill q (token h rest) fs = fill q rest fs
fill q (node h kids rest) fs = fill q rest (fill (h.at / 11) kids (opened_at (h.at / 11) q h.kind fs))

abbrev pub fill_tree : Tree → List ℕ → List ℕ
fill_tree t fs = fill (t.head.at / 11) t.kids (set fs (t.head.at / 11) (opened t.head.kind))

module _ (i q k : ℕ) (fs : List ℕ) where
  opened-length : length (opened_at i q k fs) ≡ length fs
  opened-length = simp length-set

  opened-node : i < length fs → get_or (opened_at i q k fs) i 0 ≡ opened k
  opened-node l = search (get_or-set_same, lt-length-set)

  opened-parent : (q ≡ i → ⊥) → q < length fs → get_or (opened_at i q k fs) q 0 ≡ with_child (get_or fs q 0) k
  opened-parent n l = rw (get_or-set_other, get_or-set_same)

  opened-other : (j : ℕ) → (j ≡ i → ⊥) → (j ≡ q → ⊥) → get_or (opened_at i q k fs) j 0 ≡ get_or fs j 0
  opened-other j n m = simp get_or-set_other

pub noted_open-length : (o : Option ℕ) (i k : ℕ) (fs : List ℕ) → length (noted_open o i k fs) ≡ length fs
noted_open-length None i k fs = length-set fs i (opened k)
noted_open-length (Some q) i k fs = opened-length i q k fs

pub fill_length : (q : ℕ) (c : Children) (fs : List ℕ) → length (fill q c fs) ≡ length fs
unfolding fill
fill_length q done fs = refl
fill_length q (token h rest) fs = fill_length q rest fs
fill_length q (node h kids rest) fs =
    let i = h.at / 11 in
    fill_length q rest (fill i kids (opened_at i q h.kind fs)) ∙ fill_length i kids (opened_at i q h.kind fs) ∙ opened-length i q h.kind fs

-- what the children from p on change of the bytes fs before them, gs being those after them: their parent's byte, at q, and those of the nodes
-- among them and below. These are true in whatever bytes ys agree with gs there, as do those after later children
record Filled (p q : ℕ) (c : Children) (fs gs : List ℕ) : Type 0 where
  parent : get_or gs q 0 ≡ noted (get_or fs q 0) c
  other : (j : ℕ) → (j ≡ q → ⊥) → (j * 11 + 11 ≤ p) ⊎ (p + size c < j * 11 + 11) → get_or gs j 0 ≡ get_or fs j 0
  each : (ys : List ℕ) → ((j : ℕ) → p < j * 11 + 11 → j * 11 + 11 ≤ p + size c → get_or ys j 0 ≡ get_or gs j 0) → EachNode (NotedNode ys) c

-- for a node, from what its own children and then the rest change: the rest leaves its byte and theirs alone
filled-node : (p q : ℕ) (h : Head) (kids rest : Children) (fs ks gs : List ℕ) → h.at ≡ p → q * 11 + 11 ≤ p → p + 11 ≤ 11 * length fs
    → Filled (p + 11) (h.at / 11) kids (opened_at (h.at / 11) q h.kind fs) ks → Filled (p + 11 + size kids) q rest ks gs → Filled p q (node h kids rest) fs gs
unfolding noted size
filled-node p q h kids rest fs ks gs at a r t w =
    let i = h.at / 11 in
    let k = h.kind in
    let apart : q ≡ i → ⊥ = omega arith in
    record {
      parent =
          w.parent
          ∙ ap (λ f. noted f rest) (t.other q apart (inl (omega arith)) ∙ opened-parent i q k fs apart (omega arith));
      other = λ j n o.
          w.other j n (⊎_elim (λ u. inl (omega arith)) (λ u. inr (omega arith)) o)
          ∙ t.other j (⊎_elim (λ u. omega arith) (λ u. omega arith) o) (⊎_elim (λ u. inl (omega arith)) (λ u. inr (omega arith)) o)
          ∙ opened-other i q k fs j (⊎_elim (λ u. omega arith) (λ u. omega arith) o) n;
      each = λ ys s. (
        rw (
            s i (omega arith) (omega arith)
            ∙ w.other i (λ e. apart (sym e)) (inl (omega arith))
            ∙ t.parent
            ∙ ap (λ f. noted f kids) (opened-node i q k fs (omega arith))
            ) (noted-facts k kids),
        t.each ys (λ j u v. s j (omega arith) (omega arith) ∙ w.other j (omega arith) (inl (omega arith))),
        w.each ys (λ j u v. s j (omega arith) (omega arith)),
      );
    }

module _ (len : ℕ) (tape : List ℕ) where
  filled : (p q : ℕ) (c : Children) (fs : List ℕ) → SpelledAt len tape p c → q * 11 + 11 ≤ p → p + size c ≤ 11 * length fs → Filled p q c fs (fill q c fs)
  unfolding SpelledAt fill noted size head_at
  filled p q done fs l a r = record { parent = refl; other = λ j n o. refl; each = λ ys s. tt }
  filled p q (token h rest) fs l a r =
      let t = filled (p + 11) q rest fs l.1 (omega arith) (omega arith) in
      record {
        parent = t.parent;
        other = λ j n o. t.other j n (⊎_elim (λ u. inl (omega arith)) (λ u. inr (omega arith)) o);
        each = λ ys s. t.each ys (λ j u v. s j (omega arith) (omega arith));
      }
  filled p q (node h kids rest) fs l a r =
      let i = h.at / 11 in
      let os = opened_at i q h.kind fs in
      let ks = fill i kids os in
      let at : h.at ≡ p = ap (λ x. x.at) l.0.head in
      let same-open = opened-length i q h.kind fs in
      let same-kids = fill_length i kids os in
      filled-node p q h kids rest fs ks (fill q rest ks) at a (omega arith)
      (filled (p + 11) i kids os l.1 (omega arith) (omega arith))
      (filled (p + 11 + size kids) q rest ks l.2 (omega arith) (omega arith))

  pub tree-noted : (t : Tree) (fs : List ℕ) → OpenAt len tape 0 t.head → SpelledAt len tape 11 t.kids → 11 + size t.kids ≤ length tape
      → length tape ≤ 11 * length fs → Noted (fill_tree t fs) t
  unfolding head_at
  tree-noted t fs o l a r =
      let i = t.head.at / 11 in
      let k = t.head.kind in
      let at : t.head.at ≡ 0 = ap (λ x. x.at) o.head in
      let same-open = length-set fs i (opened k) in
      let f = filled 11 i t.kids (set fs i (opened k)) l (omega arith) (omega arith) in (
        rw (f.parent ∙ ap (λ x. noted x t.kids) (get_or-set_same fs i (opened k) 0 (omega arith))) (noted-facts k t.kids),
        f.each (fill_tree t fs) (λ j u v. refl),
      )
