-- The answers for a right proof, and for a compressed proof that was read.
use Rattle.verify.proofs.Words.{◌≡◌, ℕ, ◌≤◌, ◌<◌, ◌↔◌, min, List, [], length, map, get_or, Some, Result, Ok, Err, IfOk, refl, option_map, Bool, true, false, not, ◌∷◌, ◌++◌, take, sym, ◌∙◌, ap, subst, arith, inl, inr, true≢false, length-map, take_at, slice_get-get_or, not-false, not-true, Database, Stmt, HasLabelsOnce, Item, Extent, Node, TreePlan, Derivation, node_count, depth, IsRight, Derives, IsSmall, IsProvable, IsAnswerIfAny, trees, GrowsBy, pick, built, trees_of, IsPlan, extent_of, below-at, bare, bares, stmt_at, is_provable, before, stmt_at-bares, Name, hypotheses, items_of, share_label, IsHeadingWithNumbers, label_or_empty, mandatory_labels, Proves, some-same, bare-same, is_compressed, right_parenthesis, Writes, WritesCompressed, compressed_finished, one_list, Answer, Proved, Wrong}
use Rattle.proof_code.specs.Writes.{WritesFinishedNormal}
use Rattle.verify.specs.declared.answer.Answer.TheVariants.{TooCostly}
use Rattle.verify.specs.declared.answer.TreeFault.TheVariants.{Wrong}
use Rattle.verify.proofs.GrowthLemmas.{spelled_once, leaves, only-number}
use Rattle.verify.proofs.PlanLemmas.{length-built', child-extent}

-- items derive at most one derivation
pub derives-same : (S : Database) (at : ℕ) → HasLabelsOnce S → (items : List Item) (t u : Derivation) → Derives S at items t → Derives S at items u → t ≡ u
derives-same S at once items t u p q = spelled_once S at once [] p.after q.after items t u p.weight q.weight p.spelled q.spelled

-- the number of the derivation that is left on the stack
pub record IsRoot (S : Database) (at : ℕ) (items : List Item) (p : TreePlan) (root : ℕ) : Type 0 where
  pub tree : Derivation
  pub derives : Derives S at items tree
  pub there : root < length p.nodes.items
  pub stands : pick (built p.nodes.items) root ≡ tree

pub some-number : (S : Database) (at : ℕ) → HasLabelsOnce S → (items : List Item) (p : TreePlan) → IsRight S at items → GrowsBy S at (trees [] []) items (trees_of p) → 0 < length p.stack.items
some-number S at once items p right grown =
    let l = leaves S at once items (trees_of p) right grown in
    (only-number (pick (built p.nodes.items)) p.stack.items l.0 l.2).0

-- the first number on the stack is that of the derivation that right items spell
pub root : (S : Database) (at : ℕ) → HasLabelsOnce S → (items : List Item) (p : TreePlan) (k d : ℕ) → IsRight S at items → IsPlan p → GrowsBy S at (trees [] []) items (trees_of p) → k ≡ get_or p.stack.items 0 d → IsRoot S at items p k
root S at once items p k d right is grown at_root =
    let l = leaves S at once items (trees_of p) right grown in
    let o = only-number (pick (built p.nodes.items)) p.stack.items l.0 l.2 in
    record {
      tree = l.0;
      derives = l.1;
      there = subst (λ n. n < length p.nodes.items) (sym at_root) (below-at (length p.nodes.items) p.stack.items 0 d is.stack_below o.0);
      stands = ap (pick (built p.nodes.items)) at_root ∙ o.1 d;
    }

pub extents-length : (ns : List Node) (extents : List Extent) → extents ≡ map extent_of (built ns) → length extents ≡ length ns
extents-length ns extents e = let a = ap length e in let b = length-map (built ns) extent_of in let c = length-built' ns in omega (arith, a, b, c)

-- the derivation that is left is small if and only if its extent is within the limits
pub root-small : (S : Database) (at : ℕ) (items : List Item) (p : TreePlan) (ns : List Node) (extents : List Extent) (k : ℕ) (e : Extent) (r : IsRoot S at items p k) → ns ≡ p.nodes.items → extents ≡ map extent_of (built ns)
    → e ≡ get_or extents k e → IsSmall r.tree ↔ ((e.nodes ≤ 65536) × (e.depth ≤ 1024))
root-small S at items p ns extents k e r same are at_root =
    let within : k < length extents = omega (arith, r.there, extents-length ns extents are, ap length same) in
    let is : e ≡ extent_of r.tree = child-extent extents (built ns) k e are (slice_get-get_or extents k e within ∙ ap Some (sym at_root)) ∙ ap extent_of (ap (λ ms. pick (built ms) k) same ∙ r.stands) in
    let n : e.nodes ≡ min (node_count r.tree) 65537 = ap (λ v. v.nodes) is in
    let d : e.depth ≡ min (depth r.tree) 1025 = ap (λ v. v.depth) is in
    (λ h. (omega (arith, n, h.0), omega (arith, d, h.1)), λ h. (omega (arith, n, h.0), omega (arith, d, h.1)))

-- a `$p` is still a `$p` among the statements without their proofs
pub provable-bare : (S F : Database) (at : ℕ) (s : Stmt) → F ≡ bares S → IsProvable S at s → IsProvable F at (bare s)
provable-bare S F at s same p = record {
  stands = ap (λ U. stmt_at U at) same ∙ (stmt_at-bares S at ∙ ap (option_map bare) p.stands);
  provable = bare-same is_provable (λ label expr proof. refl) s ∙ p.provable;
}

module _ (S : Database) (at : ℕ) (s : Stmt) (tokens : List Name) (provable : IsProvable S at s) (compressed : is_compressed tokens ≡ true) where
  written-by : (items : List Item) → Writes tokens (mandatory_labels S at s) items → WritesCompressed tokens (mandatory_labels S at s) items
  written-by items w = elim w [ inl p ↦ p.1.1 | inr p ↦ absurd (true≢false (sym compressed ∙ p.0)) ]

  written-of : (p : Proves S at tokens) → Writes tokens (mandatory_labels S at s) p.items
  written-of p = subst (λ t. Writes tokens (mandatory_labels S at t) p.items) (some-same p.provable.stands provable.stands) p.written

  -- there are as many mandatory labels as mandatory hypotheses
  pub many : (hs : List ℕ) → hs ≡ hypotheses (before S at) s → length (mandatory_labels S at s) ≡ length hs
  many hs are = length-map (hypotheses (before S at) s) (λ i. label_or_empty (stmt_at S i)) ∙ ap length (sym are)

  -- tokens that write no items under any list of so many labels do not prove the statement
  pub unwritten : (hs : List ℕ) → hs ≡ hypotheses (before S at) s → ((labels : List Name) → length labels ≡ length hs → (items : List Item) → WritesCompressed tokens labels items → ⊥) → Proves S at tokens → ⊥
  unwritten hs are none p = none (mandatory_labels S at s) (many hs are) p.items (written-by p.items (written-of p))

  module _ (m : ℕ) (words : List Name) (count : ℕ) (numbers : List ℕ) (heading : IsHeadingWithNumbers tokens m words count numbers) where
    listed-is : take count words ≡ heading.listed
    listed-is = ap (take count) heading.whole ∙ take_at heading.listed (right_parenthesis ∷ heading.rest) count heading.many

    -- if a mandatory label is listed, the tokens write no items
    pub none-listed : (b : Bool) → b ≡ false → b ≡ not (share_label (mandatory_labels S at s) (take count words)) → (items : List Item) → WritesCompressed tokens (mandatory_labels S at s) items → ⊥
    none-listed b e is =
        heading.shared (mandatory_labels S at s) (ap (share_label (mandatory_labels S at s)) (sym listed-is) ∙ not-false (share_label (mandatory_labels S at s) (take count words)) (sym is ∙ e))

    -- and do not prove the statement
    pub one-listed : (b : Bool) → b ≡ false → b ≡ not (share_label (mandatory_labels S at s) (take count words)) → Proves S at tokens → ⊥
    one-listed b e is p = none-listed b e is p.items (written-by p.items (written-of p))

    -- if no mandatory label is listed, the tokens write the items of the numbers
    pub read-writes : (b : Bool) → b ≡ true → b ≡ not (share_label (mandatory_labels S at s) (take count words)) → length (mandatory_labels S at s) ≡ m
        → WritesCompressed tokens (mandatory_labels S at s) (items_of (mandatory_labels S at s ++ take count words) numbers)
    read-writes b e is long =
        let apart : share_label (mandatory_labels S at s) heading.listed ≡ false =
        ap (share_label (mandatory_labels S at s)) (sym listed-is) ∙ not-true (share_label (mandatory_labels S at s) (take count words)) (sym is ∙ e) in
        subst (λ l. WritesCompressed tokens (mandatory_labels S at s) (items_of (mandatory_labels S at s ++ l) numbers)) (sym listed-is) (heading.none_shared (mandatory_labels S at s) long apart)

    -- and these decide
    pub read-proves : {E : Type 0} (b : Bool) → b ≡ true → b ≡ not (share_label (mandatory_labels S at s) (take count words)) → length (mandatory_labels S at s) ≡ m
        → (r : Result Answer E) → IfOk r (λ answer. IsAnswerIfAny answer (IsRight S at (items_of (mandatory_labels S at s ++ take count words) numbers)))
        → IfOk r (λ answer. IsAnswerIfAny answer (Proves S at tokens))
    read-proves {E = E} b e is long r says = by r says
      where
        writes : WritesCompressed tokens (mandatory_labels S at s) (items_of (mandatory_labels S at s ++ take count words) numbers)
        writes = read-writes b e is long

        written : Writes tokens (mandatory_labels S at s) (items_of (mandatory_labels S at s ++ take count words) numbers)
        written = inl (compressed, (compressed_finished tokens (mandatory_labels S at s) (items_of (mandatory_labels S at s ++ take count words) numbers) writes, writes))

        by : (r : Result Answer E) → IfOk r (λ answer. IsAnswerIfAny answer (IsRight S at (items_of (mandatory_labels S at s ++ take count words) numbers))) → IfOk r (λ answer. IsAnswerIfAny answer (Proves S at tokens))
        by (Err x) h = tt
        by (Ok TooCostly) h = tt
        by (Ok Proved) h = record { stmt = s; items = items_of (mandatory_labels S at s ++ take count words) numbers; provable = provable; written = written; right = h }
        by (Ok Wrong) h = λ p.
            h (subst (IsRight S at) (one_list tokens (mandatory_labels S at s) p.items (items_of (mandatory_labels S at s ++ take count words) numbers) (written-of p) written) p.right)

-- the items of a normal proof decide
pub normal-proves : {E : Type 0} (S : Database) (at : ℕ) (s : Stmt) (tokens : List Name) → IsProvable S at s → is_compressed tokens ≡ false → (items : List Item) → WritesFinishedNormal tokens items
    → (r : Result Answer E) → IfOk r (λ answer. IsAnswerIfAny answer (IsRight S at items)) → IfOk r (λ answer. IsAnswerIfAny answer (Proves S at tokens))
normal-proves {E = E} S at s tokens provable normal items w r says = by r says
  where
    same : (others : List Item) → Writes tokens (mandatory_labels S at s) others → others ≡ items
    same others v = elim v [ inl p ↦ absurd (true≢false (sym p.0 ∙ normal)) | inr p ↦ p.1.1.cites ∙ sym w.1.cites ]

    by : (r : Result Answer E) → IfOk r (λ answer. IsAnswerIfAny answer (IsRight S at items)) → IfOk r (λ answer. IsAnswerIfAny answer (Proves S at tokens))
    by (Err x) h = tt
    by (Ok TooCostly) h = tt
    by (Ok Proved) h = record { stmt = s; items = items; provable = provable; written = inr (normal, w); right = h }
    by (Ok Wrong) h = λ p. h (subst (IsRight S at) (same p.items (subst (λ t. Writes tokens (mandatory_labels S at t) p.items) (some-same p.provable.stands provable.stands) p.written)) p.right)
