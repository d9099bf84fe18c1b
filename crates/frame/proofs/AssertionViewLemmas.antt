-- Reading an assertion that is stored, and its parts by numbers: those that are kept with it, or
-- those that are made of its mandatory hypotheses.
use Rattle.frame.proofs.Words.{AllBelow, Database, AreDescribed, AreGroupsOf, AreMandatoryPairs, AreReordered, Hypothesis, [], are_together, disjoint_symbols, filter, float_variables, groups_in, has_two_or_more_items, hypotheses, is_numbered_pair, pairs_by, stored_pairs, sym, ◌∙◌, ap, subst, arith, ◌≡◌, ℕ, zero, suc, ◌+◌, ◌-◌, true, List, length, take, slice_get, Some, refl, Stmt, expr_of, is_assertion, name_at, decode, HasAssertion, AssertionView, Entry, Assertion, IsWholeView, Storage, AreBelow, AreListsOf, IsViewOf, IsWellTyped, HasLegalProperties, names_in, labels_in, stmt_of, statements_of, AreStored, IsKeptAs}
use Rattle.frame.specs.Sizes.{assertion_size}
use Rattle.frame.proofs.DeclaredSymbolLemmas.{stored-distinct}
use Rattle.frame.proofs.FoundByNumber.{map-back, own-expr, numbered-at}
use Rattle.frame.proofs.KeptStatementLemmas.{kept-groups, kept-lists, lists-cited}
use Rattle.frame.proofs.PairListLemmas.{pair-lists-same, pairs-below, reordered-below}
use Rattle.frame.proofs.PairTableLemmas.{together-is}
use Rattle.frame.proofs.WellTypedLemmas.{bound, bound-single}
use Rattle.frame.proofs.LegalLabels.{legal-labels}
use Rattle.frame.proofs.AssertionLemmas.{kept-more}

-- the entry of the assertion s, and the parts that are kept with it
pub record IsThere (k : Storage) (a i : ℕ) (s : Stmt) (e : Entry) : Type 0 where
  pub place : a ≡ i + 1
  pub here : slice_get k.entries i ≡ Some e
  pub got : slice_get k.entries (a - 1) ≡ Some e
  pub is : stmt_of (names_in k) (labels_in k) e ≡ s
  pub kept : IsKeptAs k.entries (take (a - 1) (statements_of k)) s e.assertion
  pub size : e.size ≡ assertion_size (take (a - 1) (statements_of k)) s

pub is-there : (k : Storage) (a : ℕ) (s : Stmt) → AreStored k → HasAssertion (statements_of k) a s → (i : ℕ) × (e : Entry) × IsThere k a i s e
is-there k zero s stored h = let g = h.0 in cc
is-there k (suc i) s stored h =
    let e = map-back (stmt_of (names_in k) (labels_in k)) k.entries i s h.0 in
    let is = sym e.2 in
    let back : i ≡ suc i - 1 = omega arith in
    let asserts = ap is_assertion is ∙ h.1 in
    let own = stored.kept.each i e.0 e.1 in
    let kept = kept-more (names_in k) (labels_in k) k.entries i (stmt_of (names_in k) (labels_in k) e.0) e.0.assertion own.parts in (
      i,
      e.0,
      record {
        place = omega arith;
        here = e.1;
        got = ap (slice_get k.entries) (sym back) ∙ e.1;
        is = is;
        kept = subst (λ n. IsKeptAs k.entries (take n (statements_of k)) s e.0.assertion) back (subst (λ t. IsKeptAs k.entries (take i (statements_of k)) t e.0.assertion) is kept);
        size = own.size.is asserts ∙ (ap (assertion_size (take i (statements_of k))) is ∙ ap (λ n. assertion_size (take n (statements_of k)) s) back);
      },
    )

module _ (k : Storage) (a i : ℕ) (s : Stmt) (e : Entry) (stored : AreStored k) (asserts : is_assertion s ≡ true) (t : IsThere k a i s e) where
  -- the statements earlier than the assertion
  abbrev T : Database
  T = take (a - 1) (statements_of k)

  -- the expression of the assertion, by numbers
  pub there-expr : (decode (names_in k) e.symbols ≡ expr_of s) × AreBelow (length (names_in k)) e.symbols
  there-expr = (
    sym (ap expr_of (sym t.is) ∙ own-expr (names_in k) e.kind (name_at (labels_in k) e.label_count) e.symbols (ap is_assertion t.is ∙ asserts)),
    (numbered-at (length (names_in k)) (length (labels_in k)) k.entries i e stored.kept.coded t.here).0,
  )

  -- lists made of all its mandatory hypotheses describe the assertion
  module _ (ps : List ℕ) (d : Assertion) (are : AreDescribed k.entries ps d) (all : ps ≡ hypotheses T s) where
    own-described : AreDescribed k.entries (hypotheses T (stmt_of (names_in k) (labels_in k) e)) d
    own-described = subst (λ qs. AreDescribed k.entries qs d) (all ∙ ap (hypotheses T) (sym t.is)) are

    pub there-lists : AreListsOf (statements_of k) (names_in k) a d s
    there-lists =
        subst (AreListsOf (statements_of k) (names_in k) a d) t.is
        (kept-lists k.entries (names_in k) (labels_in k) (length (labels_in k)) a e d (stored-distinct k stored) stored.kept.coded stored.kept.legal (let q = t.place in omega (arith, q)) t.got (ap is_assertion t.is ∙ asserts) own-described)

    -- the groups by their variables are those of the assertion
    pub there-groups : AreGroupsOf (statements_of k) (names_in k) a s (groups_in (float_variables d.numbered_hypotheses) (disjoint_symbols k.entries T))
    there-groups =
        subst (λ x. AreGroupsOf (statements_of k) (names_in k) a x (groups_in (float_variables d.numbered_hypotheses) (disjoint_symbols k.entries T))) t.is
        (kept-groups k.entries (names_in k) (labels_in k) (length (labels_in k)) a e d (stored-distinct k stored) stored.kept.coded stored.kept.legal (let q = t.place in omega (arith, q)) t.got (ap is_assertion t.is ∙ asserts) own-described)

-- pairs by the symbols of the active `$d` are those by their names
pub stored-pairs : (k : Storage) → AreStored k → (m : ℕ) (hs : List Hypothesis) → AreBelow (length (names_in k)) (float_variables hs)
    → stored_pairs k.entries (take m (statements_of k)) hs ≡ pairs_by (is_numbered_pair (record { statements = take m (statements_of k); names = names_in k })) (float_variables hs)
stored-pairs k stored m hs low =
    ap (filter has_two_or_more_items)
    (pair-lists-same (length (names_in k)) (are_together (disjoint_symbols k.entries (take m (statements_of k)))) (is_numbered_pair (record { statements = take m (statements_of k); names = names_in k })) [] (float_variables hs)
    (λ x y a b. together-is k stored (stored-distinct k stored) m x y a b) tt low)

pub there-cited : (k : Storage) (a i : ℕ) (s : Stmt) (e : Entry) (c : AssertionView) → AreStored k → is_assertion s ≡ true → IsThere k a i s e → IsWholeView e c → IsViewOf (statements_of k) (names_in k) a s c
there-cited k a i s e c stored asserts t w =
    let x = there-expr k a i s e stored asserts t in
    let T = take (a - 1) (statements_of k) in
    let filled = t.kept w.whole in
    let lists = there-lists k a i s e stored asserts t (hypotheses T s) e.assertion filled.described refl in
    let pairs = subst (λ l. AreReordered l e.assertion.groups) (stored-pairs k stored (a - 1) e.assertion.numbered_hypotheses lists.variables.below) filled.pairs_made in
    lists-cited (statements_of k) (names_in k) a s e.assertion e.symbols lists x.0 x.1 c w.typecodes w.hypotheses w.conclusion
    (λ listed. subst (AreMandatoryPairs (record { statements = T; names = names_in k }) e.assertion.numbered_hypotheses) (sym w.pairs) pairs)
    (subst (AllBelow (length (names_in k))) (sym w.pairs) (reordered-below (length (names_in k)) _ e.assertion.groups pairs (pairs-below (length (names_in k)) (is_numbered_pair (record { statements = T; names = names_in k })) (float_variables e.assertion.numbered_hypotheses) lists.variables.below)))

pub all-legal : (k : Storage) → AreStored k → HasLegalProperties (statements_of k) (names_in k)
all-legal k stored =
    let each : (a : ℕ) (s : Stmt) → HasAssertion (statements_of k) a s → IsWellTyped (statements_of k) a s = λ a s h. bound (statements_of k) a s stored.kept.legal h in
    record {
      once = legal-labels (statements_of k) stored.kept.legal;
      single = λ at. bound-single (statements_of k) at each;
      well_typed = each;
      distinct = stored-distinct k stored;
    }
