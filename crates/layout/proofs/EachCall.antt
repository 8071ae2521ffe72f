-- Each call of a layout is on a token of the tree, or copies a node that is copied as typed.
use Prim.Native.Nat.{ℕ}
use mathlib.Core.Bool.{Bool, true, false, cond}
use mathlib.Core.List.{List, [], ◌∷◌, ◌++◌, map}
use lib.Dec.{T, leb}
use Rattle.context.specs.Cells.{Text}
use Rattle.tape.specs.declared.Head.{Head}
use Rattle.tape.specs.Tree.{Children, done, token, node, Tree, count_list_items, copied, EachToken, EachNode}
use Rattle.layout.specs.declared.Local.{Local}
use Rattle.layout.specs.Arms.{Spacing, Act, seen, Arms}
use Rattle.layout.specs.Calls.{Call, put_spacing, act_at, raw, format_error_verbatim, walk, calls}
use Rattle.layout.specs.Masking.{EachCopied, OfCopied, EachReachedBelow, EachReachedCopy}

of_copy : (t : Bool) (A B : Type 0) → (T t → A) → B → OfCopied t A B
of_copy true A B f y = f tt
of_copy false A B f y = y

-- what holds of each copied node holds of those that the layout reaches
reached_below : (P : Head → Type 0) (c : Children) → EachNode (λ h kids. T (copied h.kind kids) → P h) c → EachReachedBelow P c
reached_below P done u = tt
reached_below P (token h rest) u = reached_below P rest u
reached_below P (node h kids rest) u =
    (of_copy (copied h.kind kids) (P h) (EachReachedBelow P kids) u.0 (reached_below P kids u.1), reached_below P rest u.2)

pub reached_copy : (P : Head → Type 0) (t : Tree) → EachCopied P t → EachReachedCopy P t
reached_copy P t u = of_copy (copied t.head.kind t.kids) (P t.head) (EachReachedBelow P t.kids) u.0 (reached_below P t.kids u.1)

-- P of each token, Q of the span of each node that is copied
module _ (P : Head → Type 0) (Q : ℕ → ℕ → Type 0) where
  abbrev pub OfCall : Call → Type 0
  OfCall (put_spacing x) = Unit {0}
  OfCall (act_at h x) = P h
  OfCall (raw s e) = Q s e

  unfoldable pub Every : List Call → Type 0
  Every [] = Unit {0}
  Every (c ∷ cs) = OfCall c × Every cs

  every_append : (x y : List Call) → Every x → Every y → Every (x ++ y)
  unfolding Every
  every_append [] y u v = v
  every_append (c ∷ x) y u v = (u.0, every_append x y u.1 v)

  pub every_spacing : (xs : List Spacing) → Every (map put_spacing xs)
  unfolding Every
  every_spacing [] = tt
  every_spacing (x ∷ xs) = (tt, every_spacing xs)

  pub every_act : (h : Head) → P h → (xs : List Act) → Every (map (act_at h) xs)
  unfolding Every
  every_act h w [] = tt
  every_act h w (x ∷ xs) = (w, every_act h w xs)

  abbrev pub OfCopy : Head → Type 0
  OfCopy h = Q h.start h.end

  pub every_verbatim : (h : Head) → OfCopy h → Every (format_error_verbatim h)
  unfolding format_error_verbatim Every
  every_verbatim h w = go (leb h.start h.end)
    where
      go : (t : Bool) → Every (cond t (raw h.start h.end ∷ []) [])
      go true = (w, tt)
      go false = tt

  pub every_cond : (t : Bool) (x y : List Call) (A B : Type 0) → OfCopied t A B → (A → Every x) → (B → Every y) → Every (cond t x y)
  every_cond true x y A B w f g = f w
  every_cond false x y A B w f g = g w

  module _ (pick : ℕ → Children → Arms) (text : Text) where
    pub each-walk : (c : Children) → EachToken P c → EachReachedBelow OfCopy c → (r : Arms) (l : Local) → Every (walk pick text r l c)
    unfolding walk
    each-walk done w v r l = every_spacing (r.at_end l)
    each-walk (token h rest) w v r l =
        every_append _ _ (every_act h w.0 (r.at_token l (seen text h)).1) (each-walk rest w.1 v r (r.at_token l (seen text h)).0)
    each-walk (node h kids rest) w v r l =
        let q = pick h.kind kids in
        let n = r.at_node l h.kind (count_list_items kids) in
        every_append _ _ (every_spacing n.1)
        (every_append _ _
        (every_cond (copied h.kind kids) _ _ _ _ v.0 (every_verbatim h) (λ u. each-walk kids w.0 u q q.begin))
        (every_append _ _ (every_spacing n.2) (each-walk rest w.1 v.1 r n.0)))

    pub each-call : (t : Tree) → EachToken P t.kids → EachReachedCopy OfCopy t → Every (calls pick text t)
    unfolding calls
    each-call t w v =
        let q = pick t.head.kind t.kids in
        every_cond (copied t.head.kind t.kids) _ _ _ _ v (every_verbatim t.head) (λ u. each-walk t.kids w u q q.begin)
