-- The machine over derivations: items spell at most one derivation; the effect of citations.
use Rattle.verify.proofs.Words.{◌≡◌, ℕ, zero, suc, List, [], ◌∷◌, ◌++◌, length, refl, ◌<◌, ◌≤◌, map, get_or, sym, ◌∙◌, ap, subst, append_assoc, append-nil, arith, same_from_push, Name, Stmt, Expr, Database, stmt_at, before, is_assertion, hypotheses, Item, Cite, Recall, Mark, Derivation, Derivations, hyp, apply, none, more, from_list, ConcludeAll, IsHypothesis, premises, Carries, IsCitable, Spells, SpellsAll, cites_hypothesis, cites_assertion, recalls, marks, spells_none, spells_more, HasLabelsOnce, Trees, trees, Builds, a_hypothesis, an_assertion, IsSavedTree, Grows, GrowsBy, with_tree, some-same, below, top, IsRight, Derives}
use Rattle.verify.proofs.Decide.{append_cut, length-premises, not_both}
use Rattle.verify.proofs.Named.{halves, length-top}

abbrev pub to_list : Derivations → List Derivation
to_list none = []
to_list (more t children) = t ∷ to_list children

from-to : (children : Derivations) → from_list (to_list children) ≡ children
from-to none = refl
from-to (more t children) = ap (λ r. more t r) (from-to children)

module _ (S : Database) (at : ℕ) where
  -- if the stack grows by the first items, and then by the rest, it grows by all items
  pub grows_append : (front rest : List Item) (st mid end : Trees) → GrowsBy S at st front mid → GrowsBy S at mid rest end → GrowsBy S at st (front ++ rest) end
  grows_append [] rest st mid end p q = subst (λ r. GrowsBy S at r rest end) (sym p) q
  grows_append (item ∷ front) rest st mid end p q = (p.0, p.1, grows_append front rest p.0 mid end p.2 q)

  -- the same, for items and an end state that are equal to these
  grows_behind : (front rest items : List Item) (st mid end end' : Trees) → items ≡ front ++ rest → GrowsBy S at st front mid → GrowsBy S at mid rest end → end ≡ end' → GrowsBy S at st items end'
  grows_behind front rest items st mid end end' whole p q same = subst (λ is. GrowsBy S at st is end') (sym whole) (subst (GrowsBy S at st (front ++ rest)) same (grows_append front rest st mid end p q))

  -- the items push these derivations on any stack
  abbrev pub Yields : List Derivation → List Item → List Derivation → List Derivation → Type 0
  Yields marked items ts after = (below : List Derivation) → GrowsBy S at (trees below marked) items (trees (below ++ ts) after)

  count-children : (children : Derivations) (es : List Expr) → ConcludeAll S at children es → length (to_list children) ≡ length es
  count-children none [] p = refl
  count-children (more t children) (e ∷ es) p = ap suc (count-children children es p.1)
  count-children children es p = absurd p

  mutual
    pub yields : {marked after : List Derivation} {items : List Item} {t : Derivation} {weight : ℕ} → Spells S at marked items t after weight → Yields marked items (t ∷ []) after
    yields {marked} (cites_hypothesis {i = i} s e carries active ends) = λ below. (trees (below ++ hyp i ∷ []) marked, (below, hyp i, a_hypothesis i s carries active refl refl, refl), refl)
    yields {marked} {after} {items} (cites_assertion {a = a} {children = children} s e label front front_weight carries citable ends all whole weighs) = λ below.
        let many : length (to_list children) ≡ length (hypotheses (before S a) s)
        = count-children children (premises S a ends.0 ends.1) ends.3 ∙ (length-premises S a ends.0 ends.1 ∙ ap (λ u. length (hypotheses (before S a) u)) (some-same ends.2.stands carries.stands)) in
        let end = trees (below ++ apply a children ∷ []) after in
        grows_behind front (Cite label ∷ []) items (trees below marked) (trees (below ++ to_list children) after) end end whole (yields_all all below)
        (end, (below, apply a children, an_assertion a s (to_list children) carries citable many refl (ap (λ r. apply a r) (sym (from-to children))), refl), refl) refl
    yields {marked} {t = t} (recalls e found ends) = λ below. (trees (below ++ t ∷ []) marked, (t, found, refl), refl)
    yields {marked} {after} {items} {t} (marks front before one whole added) = λ below.
        let end = trees (below ++ t ∷ []) (before ++ t ∷ []) in
        grows_behind front (Mark ∷ []) items (trees below marked) (trees (below ++ t ∷ []) before) end (trees (below ++ t ∷ []) after) whole (yields one below) (end, (below, t, refl, refl), refl) (ap (trees (below ++ t ∷ [])) (sym added))

    pub yields_all : {marked after : List Derivation} {items : List Item} {children : Derivations} {weight : ℕ} → SpellsAll S at marked items children after weight → Yields marked items (to_list children) after
    yields_all {marked} spells_none = λ below. ap (λ r. trees r marked) (sym (append-nil below))
    yields_all {marked} {after} {items} (spells_more {t = t} {children = children} first rest middle first_weight rest_weight one all whole weighs) = λ below.
        grows_behind first rest items (trees below marked) (trees (below ++ t ∷ []) middle) (trees ((below ++ t ∷ []) ++ to_list children) after) (trees (below ++ t ∷ to_list children) after) whole
        (yields one below) (yields_all all (below ++ t ∷ [])) (ap (λ v. trees v after) (append_assoc below (t ∷ []) (to_list children)))

  module _ (once : HasLabelsOnce S) where
    -- the label of an active hypothesis is not the label of an assertion that can be cited
    pub apart_kinds : (i a : ℕ) (s r : Stmt) (label : Name) → Carries S i s label → IsHypothesis S at i s → Carries S a r label → IsCitable S at a r → ⊥
    apart_kinds i a s r label p h q f = not_both s h.kind (ap is_assertion (some-same p.stands (ap (stmt_at S) (once i a s r label p q) ∙ q.stands)) ∙ f.assertion)

    -- the citation of a label builds at most one derivation
    builds_same : (label : Name) (stack b c : List Derivation) (t u : Derivation) → Builds S at label stack b t → Builds S at label stack c u → (b ≡ c) × (t ≡ u)
    builds_same label stack b c t u (a_hypothesis i s p active same whole) (a_hypothesis j r q active' same' whole') = (sym whole ∙ whole', same ∙ (ap (λ n. hyp n) (once i j s r label p q) ∙ sym same'))
    builds_same label stack b c t u (a_hypothesis i s p active same whole) (an_assertion a r children q citable many whole' same') = absurd (apart_kinds i a s r label p active q citable)
    builds_same label stack b c t u (an_assertion a r children q citable many whole' same') (a_hypothesis i s p active same whole) = absurd (apart_kinds i a s r label p active q citable)
    builds_same label stack b c t u (an_assertion a s children p citable many whole same) (an_assertion d r children' q citable' many' whole' same') =
        let n : a ≡ d = once a d s r label p q in
        let v : s ≡ r = some-same p.stands (ap (stmt_at S) n ∙ q.stands) in
        let cut = append_cut b c children children' (sym whole ∙ whole') (many ∙ (ap (λ k. length (hypotheses (before S k) s)) n ∙ (ap (λ w. length (hypotheses (before S d) w)) v ∙ sym many'))) in
        (cut.0, same ∙ (ap (λ k. apply k (from_list children)) n ∙ (ap (λ ks. apply d (from_list ks)) cut.1 ∙ sym same')))

    -- a number recalls at most one saved derivation
    kept_same : (saved : List Derivation) (k : ℕ) (t u : Derivation) → IsSavedTree saved k t → IsSavedTree saved k u → t ≡ u
    kept_same saved zero t u p q = absurd p
    kept_same saved (suc k) t u p q = some-same p q

    -- an item has at most one effect on a stack of derivations
    pub grows_same : (st x y : Trees) (item : Item) → Grows S at st item x → Grows S at st item y → x ≡ y
    grows_same st x y (Cite label) p q =
        let r = builds_same label st.stack p.0 q.0 p.1 q.1 p.2 q.2 in
        p.3 ∙ (ap (λ b. trees (b ++ p.1 ∷ []) st.saved) r.0 ∙ (ap (λ t. trees (q.0 ++ t ∷ []) st.saved) r.1 ∙ sym q.3))
    grows_same st x y (Recall k) p q = p.2 ∙ (ap (λ t. trees (st.stack ++ t ∷ []) st.saved) (kept_same st.saved k p.0 q.0 p.1 q.1) ∙ sym q.2)
    grows_same st x y Mark p q = p.3 ∙ (ap (λ t. trees st.stack (st.saved ++ t ∷ [])) (same_from_push p.0 q.0 p.1 q.1 (sym p.2 ∙ q.2)).1 ∙ sym q.3)

    -- items one after another have at most one effect
    pub grows_by_same : (items : List Item) (st x y : Trees) → GrowsBy S at st items x → GrowsBy S at st items y → x ≡ y
    grows_by_same [] st x y p q = sym p ∙ q
    grows_by_same (item ∷ items) st x y p q = grows_by_same items p.0 x y p.2 (subst (λ r. GrowsBy S at r items y) (sym (grows_same st p.0 q.0 item p.1 q.1)) q.2)

    -- UNIQUE: items spell at most one derivation
    pub spelled_once : (marked after after' : List Derivation) (items : List Item) (t u : Derivation) (w v : ℕ) → Spells S at marked items t after w → Spells S at marked items u after' v → t ≡ u
    spelled_once marked after after' items t u w v p q =
        let e = grows_by_same items (trees [] marked) (trees (t ∷ []) after) (trees (u ∷ []) after') (yields p []) (yields q []) in
        let f : t ∷ [] ≡ u ∷ [] = ap (λ s. s.stack) e in cc

module _ (S : Database) (at : ℕ) (label : Name) where
  pub assertion-grows : (a : ℕ) (s : Stmt) → Carries S a s label → IsCitable S at a s → (old new : Trees) (count : ℕ) → count ≡ length (hypotheses (before S a) s) → count ≤ length old.stack
      → new ≡ with_tree old (below count old.stack) (apply a (from_list (top count old.stack))) → Grows S at old (Cite label) new
  assertion-grows a s carries citable old new count same enough grown = (
    below count old.stack,
    apply a (from_list (top count old.stack)),
    an_assertion a s (top count old.stack) carries citable (length-top count old.stack enough ∙ same) (halves count old.stack) refl,
    grown,
  )

  pub hypothesis-grows : (i : ℕ) (s : Stmt) → Carries S i s label → IsHypothesis S at i s → (old new : Trees) → new ≡ with_tree old old.stack (hyp i) → Grows S at old (Cite label) new
  hypothesis-grows i s carries active old new grown = (old.stack, hyp i, a_hypothesis i s carries active refl refl, grown)

-- ---- a right proof

pub grows-on : (S : Database) (at : ℕ) (items : List Item) (item : Item) (st new : Trees) → GrowsBy S at (trees [] []) items st → Grows S at st item new → GrowsBy S at (trees [] []) (items ++ item ∷ []) new
grows-on S at items item st new p g = grows_append S at items (item ∷ []) (trees [] []) st new p (new, g, refl)

-- after the items of a right proof its derivation is alone on the stack
pub leaves : (S : Database) (at : ℕ) → HasLabelsOnce S → (items : List Item) (end : Trees) → IsRight S at items → GrowsBy S at (trees [] []) items end → (t : Derivation) × Derives S at items t × (end.stack ≡ t ∷ [])
leaves S at once items end (t, d) p =
    (t, d, ap (λ r. r.stack) (grows_by_same S at once items (trees [] []) end (trees (t ∷ []) d.after) p (yields S at d.spelled [])))

-- if a list of numbers stands for one derivation alone, its first number stands for that
pub only-number : (f : ℕ → Derivation) (numbers : List ℕ) (t : Derivation) → map f numbers ≡ t ∷ [] → (0 < length numbers) × ((d : ℕ) → f (get_or numbers 0 d) ≡ t)
only-number f [] t h = cc
only-number f (n ∷ []) t h = let e : f n ≡ t = cc in (omega arith, λ d. e)
only-number f (n ∷ m ∷ numbers) t h = absurd (omega (arith, ap length h))
