-- The mandatory pairs of an assertion, kept or made one list at a time, decide whether images are
-- disjoint as its groups do.
use Rattle.frame.proofs.Words.{◌≡◌, ℕ, Bool, true, false, ◌||◌, ◌&&◌, ◌==◌, List, [], ◌∷◌, map, filter, refl, sym, ◌∙◌, ap, arith, and_from, and_parts, or_left, or_right, true≢false, list_all, list_all-map, Hypothesis, Name, name_eq, name_at, decode, Numbered, has_name, Stmt, Database, Images, image, is_mandatory, mandatory_groups, are_disjoint, are_groups_disjoint, are_lists_disjoint, is_list_disjoint, is_numbered_pair, has_number, float_variables, pair_lists, has_two_or_more_items, pairs_by, IsReordered, AreReordered, AreMandatoryPairs}
use Rattle.std.specs.Cmp.{both_ways}
use Rattle.frame.proofs.PairLawLemmas.{lists-groups}
use Rattle.frame.proofs.PairListLemmas.{own, pair-lists-named}

-- ---- the others in another order are disjoint as they were

all-each : (p : ℕ → Bool) (xs : List ℕ) → ((c : ℕ) → has_number xs c ≡ true → p c ≡ true) → list_all p xs ≡ true
all-each p [] h = refl
all-each p (x ∷ xs) h = and_from (p x) (list_all p xs) (h x (or_left (x == x) (has_number xs x) (own x))) (all-each p xs (λ c k. h c (or_right (x == c) (has_number xs c) k)))

each-all : (p : ℕ → Bool) (xs : List ℕ) (c : ℕ) → list_all p xs ≡ true → has_number xs c ≡ true → p c ≡ true
each-all p [] c h k = absurd (true≢false (sym k))
each-all p (x ∷ xs) c h k = by (x == c) refl k (and_parts (p x) (list_all p xs) h) (each-all p xs c)
  where
    by : (t : Bool) → (x == c) ≡ t → (t || has_number xs c) ≡ true → (p x ≡ true) × (list_all p xs ≡ true) → (list_all p xs ≡ true → has_number xs c ≡ true → p c ≡ true) → p c ≡ true
    by true e j parts more = let same : x ≡ c = grind (arith, e) in ap p (sym same) ∙ parts.0
    by false e j parts more = more parts.1 j

pub list-disjoint : (S : Database) (σ : Images) (names : List Name) (l m : List ℕ) → IsReordered l m → is_list_disjoint S σ (decode names m) ≡ is_list_disjoint S σ (decode names l)
list-disjoint S σ names (x ∷ xs) (y ∷ ys) h =
    ap (λ c. list_all (clear (name_at names c)) (decode names ys)) h.0
    ∙ list_all-map (clear (name_at names x)) (name_at names) ys
    ∙ both_ways (list_all p ys) (list_all p xs) (λ e. all-each p xs (λ c k. each-all p ys c e (h.1.each c ∙ k))) (λ e. all-each p ys (λ c k. each-all p xs c e (sym (h.1.each c) ∙ k)))
    ∙ sym (list_all-map (clear (name_at names x)) (name_at names) xs)
  where
    clear : Name → Name → Bool
    clear u v = name_eq u v || are_disjoint S (image σ u) (image σ v)

    p : ℕ → Bool
    p c = clear (name_at names x) (name_at names c)
list-disjoint S σ names l m h = absurd h

module _ (S : Database) (σ : Images) (names : List Name) where
  abbrev test : List ℕ → Bool
  test l = is_list_disjoint S σ (decode names l)

  reordered-disjoint : (a b : List (List ℕ)) → AreReordered a b → list_all test b ≡ list_all test a
  reordered-disjoint [] [] all = refl
  reordered-disjoint (l ∷ a) (m ∷ b) all = ap (λ t. t && list_all test b) (list-disjoint S σ names l m all.0) ∙ ap (λ t. test l && t) (reordered-disjoint a b all.1)
  reordered-disjoint a b all = absurd all

  -- lists of fewer than two numbers can be left out
  few-disjoint : (lists : List (List ℕ)) → list_all test (filter has_two_or_more_items lists) ≡ list_all test lists
  few-disjoint [] = refl
  few-disjoint ([] ∷ lists) = few-disjoint lists
  few-disjoint ((x ∷ []) ∷ lists) = few-disjoint lists
  few-disjoint ((x ∷ y ∷ l) ∷ lists) = ap (λ t. test (x ∷ y ∷ l) && t) (few-disjoint lists)

  -- the lists that are made one by one decide as the groups of the assertion do
  pub made-decide : (v : Numbered) (s : Stmt) (variables : List ℕ) → v.names ≡ names → ((x : Name) → has_name x (decode names variables) ≡ is_mandatory v.statements s x)
      → list_all test (pair_lists (is_numbered_pair v) [] variables) ≡ are_groups_disjoint S σ (mandatory_groups v.statements s)
  made-decide v s variables same known =
      sym (list_all-map (is_list_disjoint S σ) (decode names) (pair_lists (is_numbered_pair v) [] variables))
      ∙ ap (are_lists_disjoint S σ) (ap (λ ns. map (decode ns) (pair_lists (is_numbered_pair v) [] variables)) (sym same) ∙ pair-lists-named v [] variables)
      ∙ lists-groups v.statements s S σ (decode v.names variables) (λ x. ap (λ ns. has_name x (decode ns variables)) same ∙ known x)

  -- so do the lists that are kept
  pub kept-decide : (v : Numbered) (s : Stmt) (hs : List Hypothesis) (lists : List (List ℕ)) → v.names ≡ names → ((x : Name) → has_name x (decode names (float_variables hs)) ≡ is_mandatory v.statements s x)
      → AreMandatoryPairs v hs lists → list_all test lists ≡ are_groups_disjoint S σ (mandatory_groups v.statements s)
  kept-decide v s hs lists same known all =
      reordered-disjoint (pairs_by (is_numbered_pair v) (float_variables hs)) lists all
      ∙ few-disjoint (pair_lists (is_numbered_pair v) [] (float_variables hs))
      ∙ made-decide v s (float_variables hs) same known
