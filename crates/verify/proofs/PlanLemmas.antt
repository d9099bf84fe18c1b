-- A plan grows as a stack of derivations does; the extents of its derivations, and the derivation
-- of a node.
use Rattle.verify.proofs.Words.{◌≡◌, ℕ, zero, suc, ◌+◌, ◌-◌, ◌<◌, ◌≤◌, List, [], ◌∷◌, ◌++◌, length, map, take, drop, get_or, slice_get, Some, refl, min, max, Vec, sym, ◌∙◌, ap, subst, arith, length-append, append_assoc, length-map, take-map, map_push, take_more, take_all, take-append-drop, length-take-le, Global, AreBelow, Recall, Node, TreePlan, Derivation, hyp, from_list, node_count, nodes_in, depth, depth_in, apply, trees, with_tree, below, top, pick, derive, built_from, built, IsAfter, AreOrdered, trees_of, IsPlan, get-front, get-last, below-more, below-push, below-at, Extent, extent_of, Hyp, Apply, Numbered, Walk, walk_on, walk_start, Item, Cite, Mark, HeldResults, IsDone, CitesHypothesis, CitesAssertion, IsMark, IsRecall, Hears, IsPlanOf, AddsNode, Grows, GrowsBy, SymbolRange, symbols_in, below-take, below-drop}
use Rattle.verify.proofs.ResultPlaceLemmas.{map-drop, get-map-some}
use Rattle.verify.proofs.GrowthLemmas.{grows-on, hypothesis-grows, assertion-grows}
use Rattle.verify.proofs.WalkLemmas.{cite-saved, mark-counts, recall-counts}

pub built-snoc : (ts : List Derivation) (ns : List Node) (n : Node) → built_from ts (ns ++ n ∷ []) ≡ built_from ts ns ++ derive (built_from ts ns) n ∷ []
built-snoc ts [] n = refl
built-snoc ts (m ∷ ns) n = built-snoc (ts ++ derive ts m ∷ []) ns n

pub length-built : (ts : List Derivation) (ns : List Node) → length (built_from ts ns) ≡ length ts + length ns
length-built ts [] = omega arith
length-built ts (n ∷ ns) =
    omega (arith, length-built (ts ++ derive ts n ∷ []) ns, length-append ts (derive ts n ∷ []))

pub length-built' : (ns : List Node) → length (built ns) ≡ length ns
length-built' ns = let r = length-built [] ns in omega (arith, r)

pub map-pick : (ts us : List Derivation) (ks : List ℕ) → AreBelow (length ts) ks → map (pick (ts ++ us)) ks ≡ map (pick ts) ks
map-pick ts us [] b = refl
map-pick ts us (k ∷ ks) b = ap (λ t. t ∷ map (pick (ts ++ us)) ks) (get-front ts us k (hyp 0) b.0) ∙ ap (λ r. pick ts k ∷ r) (map-pick ts us ks b.1)

pub ordered-snoc : (k : ℕ) (ns : List Node) (n : Node) → AreOrdered k ns → IsAfter (k + length ns) n → AreOrdered k (ns ++ n ∷ [])
ordered-snoc k [] n o h = (let e : k + 0 ≡ k = omega arith in subst (λ m. IsAfter m n) e h, tt)
ordered-snoc k (m ∷ ns) n o h = (o.0, ordered-snoc (k + 1) ns n o.1 (let e : k + suc (length ns) ≡ k + 1 + length ns = omega arith in subst (λ j. IsAfter j n) e h))

-- ---- a node is added

pub added-plan : (old new : TreePlan) (n : Node) → IsPlan old → IsAfter (length old.nodes.items) n
    → new.nodes.items ≡ old.nodes.items ++ n ∷ [] → new.stack.items ≡ old.stack.items ++ length old.nodes.items ∷ [] → new.saved.items ≡ old.saved.items → IsPlan new
added-plan old new n is behind_children nodes stack saved =
    let l = length-append old.nodes.items (n ∷ []) in
    let m = ap length nodes in
    let longer : length old.nodes.items ≤ length new.nodes.items = omega (arith, l, m) in
    record {
      ordered = subst (AreOrdered 0) (sym nodes) (ordered-snoc 0 old.nodes.items n is.ordered (let e : 0 + length old.nodes.items ≡ length old.nodes.items = omega arith in subst (λ j. IsAfter j n) (sym e) behind_children));
      stack_below = subst (AreBelow (length new.nodes.items)) (sym stack) (below-push (length new.nodes.items) old.stack.items (length old.nodes.items) (below-more _ _ old.stack.items longer is.stack_below) (omega (arith, l, m)));
      saved_below = subst (AreBelow (length new.nodes.items)) (sym saved) (below-more _ _ old.saved.items longer is.saved_below);
    }

-- states with equal stacks and equal saved derivations are equal
pub trees-same : (a b c d : List Derivation) → a ≡ b → c ≡ d → trees a c ≡ trees b d
trees-same a b c d p q = ap (λ v. trees v c) p ∙ ap (trees b) q

pub added-trees : (old new : TreePlan) (n : Node) → IsPlan old
    → new.nodes.items ≡ old.nodes.items ++ n ∷ [] → new.stack.items ≡ old.stack.items ++ length old.nodes.items ∷ [] → new.saved.items ≡ old.saved.items
    → trees_of new ≡ with_tree (trees_of old) (trees_of old).stack (derive (built old.nodes.items) n)
added-trees old new n is nodes stack saved =
    let ts = built old.nodes.items in
    let grown : built new.nodes.items ≡ ts ++ derive ts n ∷ [] = ap built nodes ∙ built-snoc [] old.nodes.items n in
    let len : length ts ≡ length old.nodes.items = length-built' old.nodes.items in
    let same : (ks : List ℕ) → AreBelow (length old.nodes.items) ks → map (pick (ts ++ derive ts n ∷ [])) ks ≡ map (pick ts) ks = λ ks low. map-pick ts (derive ts n ∷ []) ks (subst (λ k. AreBelow k ks) (sym len) low) in
    trees-same _ _ _ _
    (ap (λ us. map (pick us) new.stack.items) grown ∙ (ap (map (pick (ts ++ derive ts n ∷ []))) stack
    ∙ (map_push (pick (ts ++ derive ts n ∷ [])) old.stack.items (length old.nodes.items)
    ∙ (ap (λ r. r ++ pick (ts ++ derive ts n ∷ []) (length old.nodes.items) ∷ []) (same old.stack.items is.stack_below)
    ∙ ap (λ t. map (pick ts) old.stack.items ++ t ∷ []) (get-last ts (derive ts n) (length old.nodes.items) (hyp 0) (sym len))))))
    (ap (λ us. map (pick us) new.saved.items) grown ∙ (ap (map (pick (ts ++ derive ts n ∷ []))) saved ∙ same old.saved.items is.saved_below))

-- ---- marks and recalls

pub below-get : (n : ℕ) (xs : List ℕ) (i x : ℕ) → AreBelow n xs → slice_get xs i ≡ Some x → x < n
below-get n [] i x b h = cc
below-get n (y ∷ xs) zero x b h = let e : y ≡ x = cc in subst (λ v. v < n) e b.0
below-get n (y ∷ xs) (suc i) x b h = below-get n xs i x b.1 h

pub children-top : (ts : List Derivation) (stack children : List ℕ) (keep count : ℕ) → keep ≡ length stack - count → children ≡ drop keep stack
    → map (pick ts) children ≡ top count (map (pick ts) stack)
children-top ts stack children keep count at whole =
    let l = length-map stack (pick ts) in
    ap (map (pick ts)) whole ∙ (map-drop (pick ts) keep stack ∙ ap (λ n. drop n (map (pick ts) stack)) (omega (arith, at, l)))

pub rest-below : (ts : List Derivation) (stack rest : List ℕ) (keep count : ℕ) → keep ≡ length stack - count → rest ≡ take keep stack → map (pick ts) rest ≡ below count (map (pick ts) stack)
rest-below ts stack rest keep count at whole =
    let l = length-map stack (pick ts) in
    ap (map (pick ts)) whole ∙ (sym (take-map (pick ts) keep stack) ∙ ap (λ n. take n (map (pick ts) stack)) (omega (arith, at, l)))

-- ---- the plan follows a walk

pub plan-start : (f : Numbered) (at : ℕ) (p : TreePlan) → p.nodes.items ≡ [] → p.stack.items ≡ [] → p.saved.items ≡ [] → IsPlanOf (walk_start f at) p
plan-start f at p nodes stack saved = record {
  is_plan = record {
    ordered = subst (AreOrdered 0) (sym nodes) tt;
    stack_below = subst (AreBelow (length p.nodes.items)) (sym stack) tt;
    saved_below = subst (AreBelow (length p.nodes.items)) (sym saved) tt;
  };
  grown = trees-same _ _ _ _ (ap (map (pick (built p.nodes.items))) (sym stack)) (ap (map (pick (built p.nodes.items))) (sym saved));
  stack_count = ap length stack;
  saved_count = ap length saved;
}

module _ (old new : TreePlan) (w : Walk) (item : Item) (held : HeldResults) (p : IsPlanOf w old) where
  -- the plan grows as the item does
  grown-on : (i : Item) → item ≡ i → Grows w.statements w.at (trees_of old) i (trees_of new) → GrowsBy w.statements w.at (trees [] []) (w.items ++ item ∷ []) (trees_of new)
  grown-on i is grows = subst (λ j. GrowsBy w.statements w.at (trees [] []) (w.items ++ j ∷ []) (trees_of new)) (sym is) (grows-on w.statements w.at w.items i (trees_of old) (trees_of new) p.grown grows)

  module _ (done : IsDone w item held) where
    hypothesis-on : (position : ℕ) (range : SymbolRange) → AddsNode old new (Hyp position) → CitesHypothesis position range w item held → IsPlanOf (walk_on w item held) new
    hypothesis-on position range adds told = record {
      is_plan = added-plan old new (Hyp position) p.is_plan tt adds.nodes adds.stack adds.saved;
      grown = grown-on (Cite told.label) told.cites
          (hypothesis-grows w.statements w.at told.label position told.entry.0 told.entry.1 told.entry.2 (trees_of old) (trees_of new) (added-trees old new (Hyp position) p.is_plan adds.nodes adds.stack adds.saved));
      stack_count = (let s = ap length adds.stack in let l = length-append old.stack.items (length old.nodes.items ∷ []) in let c = p.stack_count in let n = told.pushes in omega (arith, s, l, c, n));
      saved_count = ap length adds.saved ∙ (p.saved_count ∙ sym (cite-saved w item held done told.label told.cites));
    }

    mark-on : (k d : ℕ) → item ≡ Mark → k ≡ get_or old.stack.items (length old.stack.items - 1) d
        → new.nodes.items ≡ old.nodes.items → new.stack.items ≡ old.stack.items → new.saved.items ≡ old.saved.items ++ k ∷ [] → IsPlanOf (walk_on w item held) new
    mark-on k d is last nodes stack saved =
        let counts = mark-counts w item held done is in
        let count = p.stack_count in let some = counts.0 in
        let n = length old.stack.items in
        let ts = built old.nodes.items in
        let within : n - 1 < n = omega (arith, count, some) in
        let split : old.stack.items ≡ take (n - 1) old.stack.items ++ k ∷ [] = sym (take_all (n - 1 + 1) old.stack.items (omega (arith, within))) ∙ (take_more old.stack.items (n - 1) d within ∙ ap (λ x. take (n - 1) old.stack.items ++ x ∷ []) (sym last)) in
        record {
          is_plan = record {
            ordered = subst (AreOrdered 0) (sym nodes) p.is_plan.ordered;
            stack_below = subst (λ ns. AreBelow (length ns) new.stack.items) (sym nodes) (subst (AreBelow (length old.nodes.items)) (sym stack) p.is_plan.stack_below);
            saved_below = subst (λ ns. AreBelow (length ns) new.saved.items) (sym nodes) (subst (AreBelow (length old.nodes.items)) (sym saved)
                (below-push _ old.saved.items k p.is_plan.saved_below (subst (λ v. v < length old.nodes.items) (sym last) (below-at _ old.stack.items (n - 1) d p.is_plan.stack_below within))));
          };
          grown = grown-on Mark is (
            map (pick ts) (take (n - 1) old.stack.items),
            pick ts k,
            ap (map (pick ts)) split ∙ map_push (pick ts) (take (n - 1) old.stack.items) k,
            trees-same _ _ _ _ (ap (λ ns. map (pick (built ns)) new.stack.items) nodes ∙ ap (map (pick ts)) stack)
                (ap (λ ns. map (pick (built ns)) new.saved.items) nodes ∙ (ap (map (pick ts)) saved ∙ map_push (pick ts) old.saved.items k)),
          );
          stack_count = ap length stack ∙ (p.stack_count ∙ sym counts.1);
          saved_count = (let s = ap length saved in let l = length-append old.saved.items (k ∷ []) in let c = p.saved_count in let m = counts.2 in omega (arith, s, l, c, m));
        }

    recall-on : (i k d : ℕ) → item ≡ Recall (suc i) → i < length old.saved.items → k ≡ get_or old.saved.items i d
        → new.nodes.items ≡ old.nodes.items → new.stack.items ≡ old.stack.items ++ k ∷ [] → new.saved.items ≡ old.saved.items → IsPlanOf (walk_on w item held) new
    recall-on i k d is lt at_i nodes stack saved =
        let counts = recall-counts w item held done i is in
        let ts = built old.nodes.items in
        record {
          is_plan = record {
            ordered = subst (AreOrdered 0) (sym nodes) p.is_plan.ordered;
            stack_below = subst (λ ns. AreBelow (length ns) new.stack.items) (sym nodes) (subst (AreBelow (length old.nodes.items)) (sym stack)
                (below-push _ old.stack.items k p.is_plan.stack_below (subst (λ v. v < length old.nodes.items) (sym at_i) (below-at _ old.saved.items i d p.is_plan.saved_below lt))));
            saved_below = subst (λ ns. AreBelow (length ns) new.saved.items) (sym nodes) (subst (AreBelow (length old.nodes.items)) (sym saved) p.is_plan.saved_below);
          };
          grown = grown-on (Recall (suc i)) is (
            pick ts k,
            get-map-some (pick ts) old.saved.items i d lt ∙ ap (λ v. Some (pick ts v)) (sym at_i),
            trees-same _ _ _ _ (ap (λ ns. map (pick (built ns)) new.stack.items) nodes ∙ (ap (map (pick ts)) stack ∙ map_push (pick ts) old.stack.items k))
                (ap (λ ns. map (pick (built ns)) new.saved.items) nodes ∙ ap (map (pick ts)) saved),
          );
          stack_count = (let s = ap length stack in let l = length-append old.stack.items (k ∷ []) in let c = p.stack_count in let m = counts.1 in omega (arith, s, l, c, m));
          saved_count = ap length saved ∙ (p.saved_count ∙ sym counts.2);
        }

-- an assertion takes the last `count` numbers
module _ (old mid new : TreePlan) (position count : ℕ) (range : SymbolRange) (children : Vec ℕ Global) (keep : ℕ) (kept : keep ≡ length old.stack.items - count)
    (nodes : mid.nodes.items ≡ old.nodes.items) (stack : mid.stack.items ≡ take keep old.stack.items) (tail : children.items ≡ drop keep old.stack.items) (saved : mid.saved.items ≡ old.saved.items) (adds : AddsNode mid new (Apply position children))
    (w : Walk) (item : Item) (held : HeldResults) (p : IsPlanOf w old) (done : IsDone w item held) (told : CitesAssertion position count range w item held) where
  abbrev ts : List Derivation
  ts = built old.nodes.items

  enough : count ≤ length old.stack.items
  enough = let c = p.stack_count in let n = told.pops in let l = ap length told.range_is.last in omega (arith, c, n, l, length-append told.range_is.stack (symbols_in held.symbols range ∷ []))

  mid-plan : IsPlan mid
  mid-plan = record {
    ordered = subst (AreOrdered 0) (sym nodes) p.is_plan.ordered;
    stack_below = subst (λ ns. AreBelow (length ns) mid.stack.items) (sym nodes) (subst (AreBelow (length old.nodes.items)) (sym stack) (below-take _ keep old.stack.items p.is_plan.stack_below));
    saved_below = subst (λ ns. AreBelow (length ns) mid.saved.items) (sym nodes) (subst (AreBelow (length old.nodes.items)) (sym saved) p.is_plan.saved_below);
  }

  behind : AreBelow (length mid.nodes.items) children.items
  behind = subst (λ ns. AreBelow (length ns) children.items) (sym nodes) (subst (AreBelow (length old.nodes.items)) (sym tail) (below-drop _ keep old.stack.items p.is_plan.stack_below))

  grown-trees : trees_of new ≡ with_tree (trees_of old) (below count (trees_of old).stack) (apply position (from_list (top count (trees_of old).stack)))
  grown-trees =
      added-trees mid new (Apply position children) mid-plan adds.nodes adds.stack adds.saved
      ∙ trees-same _ _ _ _
      (ap (λ ns. map (pick (built ns)) mid.stack.items ++ apply position (from_list (map (pick (built ns)) children.items)) ∷ []) nodes
      ∙ (ap (λ b. b ++ apply position (from_list (map (pick ts) children.items)) ∷ []) (rest-below ts old.stack.items mid.stack.items keep count kept stack)
      ∙ ap (λ cs. below count (map (pick ts) old.stack.items) ++ apply position (from_list cs) ∷ []) (children-top ts old.stack.items children.items keep count kept tail)))
      (ap (λ ns. map (pick (built ns)) mid.saved.items) nodes ∙ ap (map (pick ts)) saved)

  pub assertion-on : IsPlanOf (walk_on w item held) new
  assertion-on = record {
    is_plan = added-plan mid new (Apply position children) mid-plan behind adds.nodes adds.stack adds.saved;
    grown = grown-on old new w item held p (Cite told.label) told.cites
        (assertion-grows w.statements w.at told.label position told.entry.0 told.entry.1 told.entry.2 (trees_of old) (trees_of new) count (told.taken told.entry.0 told.entry.1.stands)
        (let e = enough in let l = length-map old.stack.items (pick ts) in omega (arith, e, l)) grown-trees);
    stack_count = (let s = ap length adds.stack in let l = length-append mid.stack.items (length mid.nodes.items ∷ []) in let c = p.stack_count in let n = told.pops in let t = ap length stack in let u = length-take-le keep old.stack.items (omega (arith, kept)) in let e = enough in omega (arith, s, l, c, n, t, u, e, kept));
    saved_count = ap length adds.saved ∙ (ap length saved ∙ (p.saved_count ∙ sym (cite-saved w item held done told.label told.cites)));
  }

-- ---- what the listener hears

pub hears-hypothesis : (old new : TreePlan) (position : ℕ) (range : SymbolRange) → AddsNode old new (Hyp position) → Hears IsPlanOf (CitesHypothesis position range) old new
hears-hypothesis old new position range adds w item held done told p = hypothesis-on old new w item held p done position range adds told

pub hears-assertion : (old mid new : TreePlan) (position count : ℕ) (range : SymbolRange) (children : Vec ℕ Global) (keep : ℕ) → keep ≡ length old.stack.items - count
    → mid.nodes.items ≡ old.nodes.items → mid.stack.items ≡ take keep old.stack.items → children.items ≡ drop keep old.stack.items → mid.saved.items ≡ old.saved.items → AddsNode mid new (Apply position children) → Hears IsPlanOf (CitesAssertion position count range) old new
hears-assertion old mid new position count range children keep kept nodes stack tail saved adds w item held done told p = assertion-on old mid new position count range children keep kept nodes stack tail saved adds w item held p done told

pub hears-mark : (old new : TreePlan) (k d : ℕ) → k ≡ get_or old.stack.items (length old.stack.items - 1) d → new.nodes.items ≡ old.nodes.items → new.stack.items ≡ old.stack.items → new.saved.items ≡ old.saved.items ++ k ∷ [] → Hears IsPlanOf IsMark old new
hears-mark old new k d last nodes stack saved w item held done told p = mark-on old new w item held p done k d told last nodes stack saved

pub hears-no-mark : (old new : TreePlan) → length old.stack.items ≤ 0 → Hears IsPlanOf IsMark old new
hears-no-mark old new none w item held done told p = absurd (let c = p.stack_count in let some = (mark-counts w item held done told).0 in omega (arith, none, c, some))

pub hears-recall : (old new : TreePlan) (i k d : ℕ) → i < length old.saved.items → k ≡ get_or old.saved.items i d → new.nodes.items ≡ old.nodes.items → new.stack.items ≡ old.stack.items ++ k ∷ [] → new.saved.items ≡ old.saved.items → Hears IsPlanOf (IsRecall i) old new
hears-recall old new i k d lt at_i nodes stack saved w item held done told p = recall-on old new w item held p done i k d told lt at_i nodes stack saved

pub hears-no-recall : (old new : TreePlan) (i : ℕ) → length old.saved.items ≤ i → Hears IsPlanOf (IsRecall i) old new
hears-no-recall old new i over w item held done told p = absurd (let c = p.saved_count in let some = (recall-counts w item held done i told).0 in omega (arith, over, c, some))

-- ---- extents

nodes_in-snoc : (ts : List Derivation) (t : Derivation) → nodes_in (from_list (ts ++ t ∷ [])) ≡ nodes_in (from_list ts) + node_count t
nodes_in-snoc [] t = omega arith
nodes_in-snoc (u ∷ ts) t = let r = nodes_in-snoc ts t in omega (arith, r)

depth_in-snoc : (ts : List Derivation) (t : Derivation) → depth_in (from_list (ts ++ t ∷ [])) ≡ max (depth_in (from_list ts)) (depth t)
depth_in-snoc [] t = omega arith
depth_in-snoc (u ∷ ts) t = let r = depth_in-snoc ts t in omega (arith, r)

-- the extent at the index of a child is that of its derivation
pub child-extent : (extents : List Extent) (ts : List Derivation) (k : ℕ) (e : Extent) → extents ≡ map extent_of ts → slice_get extents k ≡ Some e → e ≡ extent_of (pick ts k)
child-extent extents ts k e is h = at_place ts k (ap (λ v. slice_get v k) (sym is) ∙ h)
  where
    at_place : (us : List Derivation) (j : ℕ) → slice_get (map extent_of us) j ≡ Some e → e ≡ extent_of (pick us j)
    at_place [] j h = cc
    at_place (u ∷ us) zero h = cc
    at_place (u ∷ us) (suc j) h = at_place us j h

pub extent-low : (extents : List Extent) (ts : List Derivation) (k : ℕ) (e : Extent) → extents ≡ map extent_of ts → slice_get extents k ≡ Some e → (e.nodes ≤ 65537) × (e.depth ≤ 1025)
extent-low extents ts k e is h =
    let x = child-extent extents ts k e is h in
    let n : e.nodes ≡ min (node_count (pick ts k)) 65537 = ap (λ v. v.nodes) x in
    let m : e.depth ≡ min (depth (pick ts k)) 1025 = ap (λ v. v.depth) x in
    (omega (arith, n), omega (arith, m))

pub record IsSoFar (ts : List Derivation) (children : List ℕ) (i nodes deep : ℕ) : Type 0 where
  pub counted : nodes ≡ min (1 + nodes_in (from_list (map (pick ts) (take i children)))) 65537
  pub reached : deep ≡ min (1 + depth_in (from_list (map (pick ts) (take i children)))) 1025

pub so-far-step : (ts : List Derivation) (children : List ℕ) (extents : List Extent) (i nodes deep nodes' deep' : ℕ) (e : Extent) → IsSoFar ts children i nodes deep → extents ≡ map extent_of ts → i < length children
    → slice_get extents (get_or children i 0) ≡ Some e
    → nodes' ≡ min (nodes + e.nodes) 65537 → deep' ≡ max deep (min (e.depth + 1) 1025) → IsSoFar ts children (i + 1) nodes' deep'
so-far-step ts children extents i nodes deep nodes' deep' e far is h at p q =
    let k = get_or children i 0 in
    let x : e ≡ extent_of (pick ts k) = child-extent extents ts k e is at in
    let en : e.nodes ≡ min (node_count (pick ts k)) 65537 = ap (λ v. v.nodes) x in
    let ed : e.depth ≡ min (depth (pick ts k)) 1025 = ap (λ v. v.depth) x in
    let more : map (pick ts) (take (i + 1) children) ≡ map (pick ts) (take i children) ++ pick ts k ∷ [] = ap (map (pick ts)) (take_more children i 0 h) ∙ map_push (pick ts) (take i children) k in
    let n : nodes_in (from_list (map (pick ts) (take (i + 1) children))) ≡ nodes_in (from_list (map (pick ts) (take i children))) + node_count (pick ts k) = ap (λ v. nodes_in (from_list v)) more ∙ nodes_in-snoc (map (pick ts) (take i children)) (pick ts k) in
    let d : depth_in (from_list (map (pick ts) (take (i + 1) children))) ≡ max (depth_in (from_list (map (pick ts) (take i children)))) (depth (pick ts k)) = ap (λ v. depth_in (from_list v)) more ∙ depth_in-snoc (map (pick ts) (take i children)) (pick ts k) in
    let a = far.counted in
    let b = far.reached in
    record { counted = omega (arith, en, n, a, p); reached = omega (arith, ed, d, b, q) }

pub so-far-end : (ts : List Derivation) (ks : List ℕ) (i nodes deep a : ℕ) (children : Vec ℕ Global) (n : Node) → IsSoFar ts ks i nodes deep → length ks ≤ i → ks ≡ children.items → n ≡ Apply a children
    → (let e : Extent = record { nodes = nodes; depth = deep } in e) ≡ extent_of (derive ts n)
so-far-end ts ks i nodes deep a children n far over same is = rw (is, far.counted, far.reached, take_all i ks over, same) refl

-- a node takes only nodes before it
take-ordered : (k : ℕ) (ns : List Node) (i : ℕ) (d : Node) → AreOrdered k ns → i < length ns → IsAfter (k + i) (get_or ns i d)
take-ordered k [] i d o h = absurd (omega (arith, h))
take-ordered k (n ∷ ns) zero d o h = let e : k + 0 ≡ k = omega arith in subst (λ j. IsAfter j n) (sym e) o.0
take-ordered k (n ∷ ns) (suc i) d o h = let e : k + 1 + i ≡ k + suc i = omega arith in subst (λ j. IsAfter j (get_or ns i d)) e (take-ordered (k + 1) ns i d o.1 (omega (arith, h)))

pub node-after : (ns : List Node) (i : ℕ) (d : Node) → AreOrdered 0 ns → i < length ns → IsAfter i (get_or ns i d)
node-after ns i d o h = let e : 0 + i ≡ i = omega arith in subst (λ j. IsAfter j (get_or ns i d)) e (take-ordered 0 ns i d o h)

pub built-more : (ns : List Node) (i : ℕ) (d : Node) → i < length ns → built (take (i + 1) ns) ≡ built (take i ns) ++ derive (built (take i ns)) (get_or ns i d) ∷ []
built-more ns i d h = ap built (take_more ns i d h) ∙ built-snoc [] (take i ns) (get_or ns i d)

pub measured-more : (ns : List Node) (i : ℕ) (d : Node) (extents extents' : List Extent) (e : Extent) → i < length ns → extents ≡ map extent_of (built (take i ns)) → e ≡ extent_of (derive (built (take i ns)) (get_or ns i d)) → extents' ≡ extents ++ e ∷ []
    → extents' ≡ map extent_of (built (take (i + 1) ns))
measured-more ns i d extents extents' e h so is grown =
    grown ∙ (ap (λ v. v ++ e ∷ []) so ∙ (ap (λ v. map extent_of (built (take i ns)) ++ v ∷ []) is
    ∙ (sym (map_push extent_of (built (take i ns)) (derive (built (take i ns)) (get_or ns i d))) ∙ ap (map extent_of) (sym (built-more ns i d h)))))

pub measured-length : (ns : List Node) (i : ℕ) (extents : List Extent) → i ≤ length ns → extents ≡ map extent_of (built (take i ns)) → length extents ≡ i
measured-length ns i extents h so =
    omega (arith, ap length so, length-map (built (take i ns)) extent_of, length-built' (take i ns), Rattle.std.proofs.lemmas.List.length-take-le i ns h)

-- further nodes only append derivations
built-grows : (ts : List Derivation) (ns : List Node) → (us : List Derivation) × (built_from ts ns ≡ ts ++ us)
built-grows ts [] = ([], sym (Rattle.std.proofs.Common.append-nil ts))
built-grows ts (n ∷ ns) = let r = built-grows (ts ++ derive ts n ∷ []) ns in (derive ts n ∷ r.0, r.1 ∙ append_assoc ts (derive ts n ∷ []) r.0)

built-append : (ts : List Derivation) (ns ms : List Node) → built_from ts (ns ++ ms) ≡ built_from (built_from ts ns) ms
built-append ts [] ms = refl
built-append ts (n ∷ ns) ms = built-append (ts ++ derive ts n ∷ []) ns ms

pub built-front : (ns : List Node) (i : ℕ) → (us : List Derivation) × (built ns ≡ built (take i ns) ++ us)
built-front ns i =
    let r = built-grows (built (take i ns)) (drop i ns) in
    (r.0, ap built (sym (take-append-drop i ns)) ∙ (built-append [] (take i ns) (drop i ns) ∙ r.1))

-- the derivation at an index is the one that its node makes of the derivations before it
pub picked : (ns : List Node) (i : ℕ) (d : Node) → i < length ns → pick (built ns) i ≡ derive (built (take i ns)) (get_or ns i d)
picked ns i d h =
    let f = built-front ns (i + 1) in
    let l = length-built' (take i ns) in
    let t = length-take-le i ns (omega (arith, h)) in
    let e : i ≡ length (built (take i ns)) = omega (arith, l, t) in
    let l' = length-built' (take (i + 1) ns) in
    let t' = length-take-le (i + 1) ns (omega (arith, h)) in
    ap (λ ts. pick ts i) f.1 ∙ (get-front (built (take (i + 1) ns)) f.0 i (hyp 0) (omega (arith, l', t'))
    ∙ (ap (λ ts. pick ts i) (built-more ns i d h) ∙ get-last (built (take i ns)) (derive (built (take i ns)) (get_or ns i d)) i (hyp 0) e))

pub picked-hyp : (ns : List Node) (i p : ℕ) (n : Node) → i < length ns → n ≡ get_or ns i n → n ≡ Hyp p → pick (built ns) i ≡ hyp p
picked-hyp ns i p n h at is = picked ns i n h ∙ (ap (derive (built (take i ns))) (sym at) ∙ ap (derive (built (take i ns))) is)

children-after : (ns : List Node) (i p : ℕ) (children : Vec ℕ Global) (n : Node) → AreOrdered 0 ns → i < length ns → n ≡ get_or ns i n → n ≡ Apply p children → AreBelow i children.items
children-after ns i p children n o h at is = subst (IsAfter i) is (subst (IsAfter i) (sym at) (node-after ns i n o h))

pub picked-apply : (ns : List Node) (i p : ℕ) (children : Vec ℕ Global) (n : Node) → AreOrdered 0 ns → i < length ns → n ≡ get_or ns i n → n ≡ Apply p children → pick (built ns) i ≡ apply p (from_list (map (pick (built ns)) children.items))
picked-apply ns i p children n o h at is =
    let f = built-front ns i in
    let l = length-built' (take i ns) in
    let t = length-take-le i ns (omega (arith, h)) in
    let e : i ≡ length (built (take i ns)) = omega (arith, l, t) in
    picked ns i n h ∙ (ap (derive (built (take i ns))) (sym at) ∙ (ap (derive (built (take i ns))) is
    ∙ ap (λ ks. apply p (from_list ks)) (sym (ap (λ ts. map (pick ts) children.items) f.1 ∙ map-pick (built (take i ns)) f.0 children.items (subst (λ k. AreBelow k children.items) e (children-after ns i p children n o h at is))))))

pub child-low : (ns : List Node) (i p : ℕ) (children : Vec ℕ Global) (n : Node) (items : List ℕ) (j : ℕ) → AreOrdered 0 ns → i < length ns → n ≡ get_or ns i n → n ≡ Apply p children → items ≡ children.items → j < length items → get_or items j 0 < i
child-low ns i p children n items j o h at is same lt = below-at i items j 0 (subst (AreBelow i) (sym same) (children-after ns i p children n o h at is)) lt
