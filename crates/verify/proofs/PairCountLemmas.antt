-- What is counted for the lists of the mandatory pairs of a citation.
use Rattle.verify.proofs.Words.{◌≡◌, ℕ, zero, suc, ◌+◌, ◌-◌, ◌<◌, ◌≤◌, ◌==◌, cond, get_or, below-group, AllBelow, IsPairList, TellsDisjoint, are_groups_disjoint, are_numbered_lists_disjoint, mandatory_groups, drop, take-append-drop, append_assoc, option_map, Option, None, ◌||◌, Bool, true, false, List, [], ◌∷◌, ◌++◌, filter, length, take, slice_get, Some, refl, sym, ◌∙◌, ap, subst, arith, nat_eq, nat_tests, true≢false, append-nil, CodeImages, Numbered, Name, Stmt, Database, stmt_at, before, decode, Hypothesis, AssertionView, AreBelow, AreDistinct, AreOver, HasAssertion, images_of_names, float_variables, is_numbered_pair, pair_lists, some-same}
use Rattle.frame.specs.MandatoryPairs.{AreMandatoryPairs, AreReordered, IsEachOnce, IsReordered, has_number, has_two_or_more_items, pairs_by}
use Rattle.frame.proofs.BlockWalkLemmas.{take-one}
use Rattle.frame.proofs.DisjointWorkLemmas.{lists-disjointness, read-push, work-push}
use Rattle.frame.proofs.MandatoryVariableLemmas.{floats-once, variables-named}
use Rattle.frame.proofs.PairDisjointLemmas.{kept-decide, made-decide}
use Rattle.frame.proofs.PairListLemmas.{list-below, pair-lists-below, pair-lists-length, pairs-below}
use Rattle.frame.proofs.SumLemmas.{filter-once}
use Rattle.frame.specs.DisjointWork.{disjointness}
use Rattle.frame.specs.Parts.{VariablePairs}
use Rattle.frame.specs.NumberedWork.{list_work_after, lists_work, lists_work_after, read_after, read_all}
use Rattle.frame.specs.Sizes.{mandatory_variables}
use Rattle.std.proofs.lemmas.Bool.{or_parts}
use Rattle.std.proofs.lemmas.List.Elements.{filter-append}
use Rattle.std.proofs.lemmas.List.Folds.{list_any-append}
use Rattle.subst.proofs.PastLemmas.{past-more}
use Rattle.subst.specs.ReadImages.{HasCounted, HasRead, IsPastList, ReadImages, is_over}
use Rattle.verify.proofs.CountLemmas.{with-none}
use Rattle.verify.specs.CitedPairs.{AreCitedAt, IsCitedList, cited_lists, list_of}
use Rattle.verify.specs.Counted.{AreCounted, AreCountedPairs, AreMadeCounted, AreMadePast, ArePastLists, CountsIf, HasCountedMade, HasCountedPairs, IsPastPairs, is_past_with}
use Rattle.verify.specs.Metered.{Metered, left_of, with_work}
use Rattle.verify.specs.RunsItemByNumber.{IsCitedView, IsReady}
use Rattle.verify.specs.declared.citation.ProofContext.{ProofContext}
use Rattle.verify.specs.declared.disjointness.CitedPairs.{CitedPairs}

-- ---- lists in another order

self-number : (y : ℕ) (xs : List ℕ) → has_number (y ∷ xs) y ≡ true
self-number y xs = let e : nat_eq y y ≡ true = grind (arith, nat_tests) in ap (λ b. b || has_number xs y) e

-- a list in another order has two numbers or more if it has
has-two : (xs ys : List ℕ) → IsReordered xs ys → has_two_or_more_items ys ≡ has_two_or_more_items xs
has-two [] ys h = absurd h
has-two (x ∷ xs) [] h = absurd h
has-two (x ∷ []) (y ∷ []) h = refl
has-two (x ∷ []) (y ∷ z ∷ ys) h = absurd (true≢false (sym (self-number z ys) ∙ h.1.each z))
has-two (x ∷ w ∷ xs) (y ∷ []) h = absurd (true≢false (sym (self-number w xs) ∙ sym (h.1.each w)))
has-two (x ∷ w ∷ xs) (y ∷ z ∷ ys) h = refl

reordered-append : (a b c d : List (List ℕ)) → AreReordered a b → AreReordered c d → AreReordered (a ++ c) (b ++ d)
reordered-append [] [] c d all rest = rest
reordered-append [] (m ∷ b) c d all rest = absurd all
reordered-append (l ∷ a) [] c d all rest = absurd all
reordered-append (l ∷ a) (m ∷ b) c d all rest = (all.0, reordered-append a b c d all.1 rest)

reordered-drop : (n : ℕ) (a b : List (List ℕ)) → AreReordered a b → AreReordered (drop n a) (drop n b)
reordered-drop zero a b all = all
reordered-drop (suc n) [] [] all = tt
reordered-drop (suc n) [] (m ∷ b) all = absurd all
reordered-drop (suc n) (l ∷ a) [] all = absurd all
reordered-drop (suc n) (l ∷ a) (m ∷ b) all = reordered-drop n a b all.1

once-front : (xs ys : List ℕ) → IsEachOnce (xs ++ ys) → IsEachOnce xs
once-front [] ys once = tt
once-front (x ∷ xs) ys once = ((or_parts (has_number xs x) (has_number ys x) (sym (list_any-append (λ n. n == x) xs ys) ∙ once.0)).0, once-front xs ys once.1)

-- the lists of the pairs of different variables are in their own order
own-order : (p : ℕ → ℕ → Bool) (front xs : List ℕ) → IsEachOnce (front ++ xs) → AreReordered (pair_lists p front xs) (pair_lists p front xs)
own-order p front [] once = tt
own-order p front (x ∷ xs) once = (
  (refl, record { each = λ c. refl; once = filter-once (p x) front (once-front front (x ∷ xs) once) }),
  own-order p (front ++ x ∷ []) xs (subst IsEachOnce (sym (append_assoc front (x ∷ []) xs)) once),
)

-- leaving out the lists of fewer than two numbers keeps the order
pub filter-reordered : (a b : List (List ℕ)) → AreReordered a b → AreReordered (filter has_two_or_more_items a) (filter has_two_or_more_items b)
filter-reordered [] [] all = tt
filter-reordered [] (m ∷ b) all = absurd all
filter-reordered (l ∷ a) [] all = absurd all
filter-reordered (l ∷ a) (m ∷ b) all = by (filter-reordered a b all.1) (has_two_or_more_items l) refl
  where
    by : AreReordered (filter has_two_or_more_items a) (filter has_two_or_more_items b) → (t : Bool) → has_two_or_more_items l ≡ t
        → AreReordered (filter has_two_or_more_items (l ∷ a)) (filter has_two_or_more_items (m ∷ b))
    by rest true e = rw (e, has-two l m all.0 ∙ e) (all.0, rest)
    by rest false e = rw (e, has-two l m all.0 ∙ e) rest

-- leaving them out once more leaves out nothing
filter-twice : (xs : List (List ℕ)) → filter has_two_or_more_items (filter has_two_or_more_items xs) ≡ filter has_two_or_more_items xs
filter-twice [] = refl
filter-twice (x ∷ xs) = by (filter-twice xs) (has_two_or_more_items x) refl
  where
    by : filter has_two_or_more_items (filter has_two_or_more_items xs) ≡ filter has_two_or_more_items xs → (t : Bool) → has_two_or_more_items x ≡ t
        → filter has_two_or_more_items (filter has_two_or_more_items (x ∷ xs)) ≡ filter has_two_or_more_items (x ∷ xs)
    by rest true e = rw (e, e) (ap (λ r. x ∷ r) rest)
    by rest false e = rw e rest

-- ---- the lists of a cited assertion

pub reordered-length : (a b : List (List ℕ)) → AreReordered a b → length b ≡ length a
reordered-length [] [] all = refl
reordered-length [] (m ∷ b) all = absurd all
reordered-length (l ∷ a) [] all = absurd all
reordered-length (l ∷ a) (m ∷ b) all = ap suc (reordered-length a b all.1)

-- the list at an index of lists that are kept
pub kept-list : (c : CitedPairs) (names : List Name) (made : VariablePairs) (i : ℕ) → AreCitedAt names c → c.are_kept ≡ true → i < length (cited_lists c) → IsCitedList c i (list_of c made i)
kept-list c names made i cited kept low =
    let lists = pairs_by (is_numbered_pair c.active) (float_variables c.hypotheses) in
    let here = at lists c.kept i (cited.kept kept) (subst (λ b. i < length (cond b lists (pair_lists (is_numbered_pair c.active) [] (float_variables c.hypotheses)))) kept low) in
    subst (λ b. IsCitedList c i (cond b (get_or c.kept i []) made.list)) (sym kept)
    (record { whole = here.0; stands = subst (λ b. slice_get (cond b lists (pair_lists (is_numbered_pair c.active) [] (float_variables c.hypotheses))) i ≡ Some here.0) (sym kept) here.1; reordered = here.2 })
  where
    at : (a b : List (List ℕ)) (i : ℕ) → AreReordered a b → i < length a → (whole : List ℕ) × (slice_get a i ≡ Some whole) × IsReordered whole (get_or b i [])
    at [] b i all low = absurd (omega (arith, low))
    at (l ∷ a) [] i all low = absurd all
    at (l ∷ a) (m ∷ b) zero all low = (l, refl, all.0)
    at (l ∷ a) (m ∷ b) (suc i) all low = at a b i all.1 (omega (arith, low))

-- the list at an index of lists that are made
pub made-list : (c : CitedPairs) (variables : List ℕ) (made : VariablePairs) (i : ℕ) → c.are_kept ≡ false → variables ≡ float_variables c.hypotheses → IsPairList c.active variables i made.list → IsCitedList c i (list_of c made i)
made-list c variables made i kept same is =
    subst (λ b. IsCitedList c i (cond b (get_or c.kept i []) made.list)) (sym kept)
    (record {
      whole = is.whole;
      stands = subst (λ b. slice_get (cond b (pairs_by (is_numbered_pair c.active) (float_variables c.hypotheses)) (pair_lists (is_numbered_pair c.active) [] (float_variables c.hypotheses))) i ≡ Some is.whole) (sym kept)
          (subst (λ vs. slice_get (pair_lists (is_numbered_pair c.active) [] vs) i ≡ Some is.whole) same is.stands);
      reordered = is.reordered;
    })

-- how many lists there are
pub count-kept : (c : CitedPairs) (names : List Name) → AreCitedAt names c → c.are_kept ≡ true → length c.kept ≡ length (cited_lists c)
count-kept c names cited kept =
    reordered-length (pairs_by (is_numbered_pair c.active) (float_variables c.hypotheses)) c.kept (cited.kept kept)
    ∙ ap (λ b. length (cond b (pairs_by (is_numbered_pair c.active) (float_variables c.hypotheses)) (pair_lists (is_numbered_pair c.active) [] (float_variables c.hypotheses)))) (sym kept)

pub count-made : (c : CitedPairs) → c.are_kept ≡ false → length (float_variables c.hypotheses) ≡ length (cited_lists c)
count-made c kept =
    sym (pair-lists-length (is_numbered_pair c.active) [] (float_variables c.hypotheses))
    ∙ ap (λ b. length (cond b (pairs_by (is_numbered_pair c.active) (float_variables c.hypotheses)) (pair_lists (is_numbered_pair c.active) [] (float_variables c.hypotheses)))) (sym kept)

-- its numbers are those of variables
pub list-inside : (c : CitedPairs) (names : List Name) (i : ℕ) (list : List ℕ) → AreCitedAt names c → IsCitedList c i list → AreBelow (length names) list
list-inside c names i list cited is = list-below (length names) is.whole list is.reordered (below-group (length names) (cited_lists c) i is.whole (all c.are_kept) is.stands)
  where
    p : ℕ → ℕ → Bool
    p = is_numbered_pair c.active

    all : (b : Bool) → AllBelow (length names) (cond b (pairs_by p (float_variables c.hypotheses)) (pair_lists p [] (float_variables c.hypotheses)))
    all true = pairs-below (length names) p (float_variables c.hypotheses) cited.below
    all false = pair-lists-below (length names) p [] (float_variables c.hypotheses) tt cited.below

-- the lists are in their own order
self-order : (c : CitedPairs) → AreReordered (cited_lists c) (cited_lists c)
self-order c = by c.are_kept
  where
    all : List (List ℕ)
    all = pair_lists (is_numbered_pair c.active) [] (float_variables c.hypotheses)

    by : (b : Bool) → AreReordered (cond b (filter has_two_or_more_items all) all) (cond b (filter has_two_or_more_items all) all)
    by true = filter-reordered all all (own-order (is_numbered_pair c.active) [] (float_variables c.hypotheses) (floats-once c.hypotheses))
    by false = own-order (is_numbered_pair c.active) [] (float_variables c.hypotheses) (floats-once c.hypotheses)

-- lists in their order are the mandatory pairs, but for those of fewer than two numbers
pairs-ordered : (c : CitedPairs) (lists : List (List ℕ)) → AreReordered (cited_lists c) lists → AreReordered (pairs_by (is_numbered_pair c.active) (float_variables c.hypotheses)) (filter has_two_or_more_items lists)
pairs-ordered c lists are = by c.are_kept are
  where
    all : List (List ℕ)
    all = pair_lists (is_numbered_pair c.active) [] (float_variables c.hypotheses)

    by : (b : Bool) → AreReordered (cond b (filter has_two_or_more_items all) all) lists → AreReordered (filter has_two_or_more_items all) (filter has_two_or_more_items lists)
    by true h = subst (λ ls. AreReordered ls (filter has_two_or_more_items lists)) (filter-twice all) (filter-reordered (filter has_two_or_more_items all) lists h)
    by false h = filter-reordered all lists h

-- ---- one list more

module _ (v : Numbered) (σ : CodeImages) where
  counted-more : (lists : List (List ℕ)) (list : List ℕ) (old new : ReadImages) → AreCounted v σ lists old → HasCounted v σ list old new → AreCounted v σ (lists ++ list ∷ []) new
  counted-more lists list old new before more = record {
    read = subst (λ read. HasRead read new) (sym (read-push [] lists list)) (more.read (read_all [] lists) before.read);
    work =
        let a = more.work (read_all [] lists) before.read in
        let b = before.work in
        let d = work-push v σ [] lists list in
        omega (arith, a, b, d);
  }

  counts-more : (lists : List (List ℕ)) (list : List ℕ) (old new : ReadImages) → AreCountedPairs v σ lists old → CountsIf (has_two_or_more_items list) v σ list old new → AreCountedPairs v σ (lists ++ list ∷ []) new
  counts-more lists list old new before more = by (has_two_or_more_items list) refl more
    where
      by : (b : Bool) → has_two_or_more_items list ≡ b → CountsIf b v σ list old new → AreCountedPairs v σ (lists ++ list ∷ []) new
      by true e h =
          let last : filter has_two_or_more_items (list ∷ []) ≡ list ∷ [] = rw e refl in
          subst (λ ls. AreCounted v σ ls new) (sym (filter-append has_two_or_more_items lists (list ∷ []) ∙ ap (λ r. filter has_two_or_more_items lists ++ r) last))
          (counted-more (filter has_two_or_more_items lists) list old new before h)
      by false e h =
          let last : filter has_two_or_more_items (list ∷ []) ≡ [] = rw e refl in
          subst (λ ls. AreCounted v σ ls new) (sym (filter-append has_two_or_more_items lists (list ∷ []) ∙ (ap (λ r. filter has_two_or_more_items lists ++ r) last ∙ append-nil (filter has_two_or_more_items lists))))
          (subst (AreCounted v σ (filter has_two_or_more_items lists)) (sym h) before)

  -- one list more was counted
  pub made-more : (lists : List (List ℕ)) (i : ℕ) (whole list : List ℕ) (old new : ReadImages) → slice_get lists i ≡ Some whole → IsReordered whole list → AreMadeCounted v σ (take i lists) old
      → CountsIf (has_two_or_more_items list) v σ list old new → AreMadeCounted v σ (take (i + 1) lists) new
  made-more lists i whole list old new stands same before more =
      let e : take (i + 1) lists ≡ take i lists ++ whole ∷ [] = ap (λ n. take n lists) (let one : i + 1 ≡ suc i = omega arith in one) ∙ take-one lists i whole stands in
      record {
        made = before.made ++ list ∷ [];
        reordered = subst (λ ls. AreReordered ls (before.made ++ list ∷ [])) (sym e) (reordered-append (take i lists) before.made (whole ∷ []) (list ∷ []) before.reordered (same, tt));
        counted = counts-more before.made list old new before.counted more;
      }

-- ---- lists with which a count is past its limit

-- the first of several lists count no more than all
works-front : (v : Numbered) (σ : CodeImages) (read : List ℕ) (xs ys : List (List ℕ)) → lists_work_after v σ read xs ≤ lists_work_after v σ read (xs ++ ys)
works-front v σ read [] ys = omega arith
works-front v σ read (l ∷ xs) ys = let more = works-front v σ (read_after read l) xs ys in omega (arith, more)

module _ (v : Numbered) (σ : CodeImages) (left : Option ℕ) where
  past-front : (first rest : List (List ℕ)) (list : List ℕ) (a : ReadImages) → a.left ≡ left → AreCountedPairs v σ first a → (has_two_or_more_items list ≡ true) × IsPastList v σ list a
      → ArePastLists (is_over left) v σ (first ++ list ∷ rest)
  past-front first rest list a same before past =
      let ls = filter has_two_or_more_items first in
      let one : filter has_two_or_more_items (list ∷ rest) ≡ list ∷ filter has_two_or_more_items rest = rw (past.0) refl in
      let all : filter has_two_or_more_items (first ++ list ∷ rest) ≡ (ls ++ list ∷ []) ++ filter has_two_or_more_items rest
      = filter-append has_two_or_more_items first (list ∷ rest) ∙ (ap (λ r. ls ++ r) one ∙ sym (append_assoc ls (list ∷ []) (filter has_two_or_more_items rest))) in
      let whole = ap (lists_work v σ) all in
      let w = before.work in
      let d = work-push v σ [] ls list in
      let front = works-front v σ [] (ls ++ list ∷ []) (filter has_two_or_more_items rest) in
      past-more left (a.work + list_work_after v σ (read_all [] ls) list) (lists_work v σ (filter has_two_or_more_items (first ++ list ∷ rest))) (omega (arith, whole, w, d, front))
      (subst (λ l. is_over l (a.work + list_work_after v σ (read_all [] ls) list) ≡ true) same (past.1 (read_all [] ls) before.read))

  next-list : (lists : List (List ℕ)) (i : ℕ) (list : List ℕ) → slice_get lists i ≡ Some list → take (i + 1) lists ≡ take i lists ++ list ∷ []
  next-list lists i list stands = ap (λ n. take n lists) (let one : i + 1 ≡ suc i = omega arith in one) ∙ take-one lists i list stands

  -- lists with one of which the count is past the limit
  pub past-made : (lists : List (List ℕ)) (i : ℕ) (whole list : List ℕ) (a : ReadImages) → slice_get lists i ≡ Some whole → IsReordered whole list → a.left ≡ left → AreMadeCounted v σ (take i lists) a
      → (has_two_or_more_items list ≡ true) × IsPastList v σ list a → AreMadePast (is_over left) v σ lists
  past-made lists i whole list a stands same limit before past = record {
    count = i + 1;
    made = before.made ++ list ∷ [];
    reordered = subst (λ ls. AreReordered ls (before.made ++ list ∷ [])) (sym (next-list lists i whole stands))
        (reordered-append (take i lists) before.made (whole ∷ []) (list ∷ []) before.reordered (same, tt));
    past = past-front before.made [] list a limit before.counted past;
  }

-- what is left of a limit is passed with what passes the limit
pub past-left : (m : Metered) (work : ℕ) → is_over (left_of m) work ≡ true → is_past_with m work ≡ true
past-left m work past = by m.limit past
  where
    by : (limit : Option ℕ) → is_over (option_map (λ l. l - m.count) limit) work ≡ true → is_over limit (m.count + work) ≡ true
    by None h = h
    by (Some l) h = grind (arith, nat_tests, h)

-- ---- the work of the lists

pub numbered-same : (v : Numbered) (D : Database) (names : List Name) → v.statements ≡ D → v.names ≡ names → v ≡ record { statements = D; names = names }
numbered-same v D names p q = ap (λ E. record { statements = E; names = v.names }) p ∙ ap (λ ns. record { statements = D; names = ns }) q

-- the work of the lists of the mandatory pairs of an assertion is the disjointness of its citation
pairs-work : (v : Numbered) (D : Database) (names : List Name) (ρ : CodeImages) (A : Database) (s : Stmt) (hs : List Hypothesis) (lists : List (List ℕ)) → v.statements ≡ D → v.names ≡ names
    → AreDistinct names → AreOver names ρ → AreBelow (length names) (float_variables hs) → decode names (float_variables hs) ≡ mandatory_variables A s
    → AreReordered (pairs_by (is_numbered_pair (record { statements = A; names = names })) (float_variables hs)) lists → lists_work v ρ lists ≡ disjointness A s D (images_of_names names ρ)
pairs-work v D names ρ A s hs lists p q distinct over low named are =
    ap (λ w. lists_work w ρ lists) (numbered-same v D names p q)
    ∙ lists-disjointness (record { statements = D; names = names }) ρ A s hs lists distinct over low named are

module _ (t : ProofContext) (a : ℕ) (ρ : CodeImages) (ready : IsReady t) (over : AreOver t.frames.now.names ρ) (view : AssertionView) (cited : IsCitedView t a view) (assertion : (s : Stmt) × HasAssertion t.frames.now.statements a s)
    (c : CitedPairs) (known : c.active ≡ record { statements = before t.frames.now.statements a; names = t.frames.now.names }) (same : c.hypotheses ≡ view.hypotheses) (m : Metered) where
  abbrev S : Database
  S = t.frames.now.statements

  listed : (s : Stmt) → stmt_at S a ≡ Some s → (lists : List (List ℕ)) → AreReordered (cited_lists c) lists → lists_work t.pairs ρ (filter has_two_or_more_items lists) ≡ disjointness (before S a) s (before S t.at) (images_of_names t.frames.now.names ρ)
  listed s stands lists are =
      let is = cited s stands in
      pairs-work t.pairs (before S t.at) t.frames.now.names ρ (before S a) s view.hypotheses (filter has_two_or_more_items lists) ready.active ready.names ready.legal.distinct over is.variables.below
      (variables-named S t.frames.now.names a s view ready.legal (subst (HasAssertion S a) (some-same assertion.1.0 stands) assertion.1) is)
      (subst (λ hs. AreReordered (pairs_by (is_numbered_pair (record { statements = before S a; names = t.frames.now.names })) (float_variables hs)) (filter has_two_or_more_items lists)) same
      (subst (λ v. AreReordered (pairs_by (is_numbered_pair v) (float_variables c.hypotheses)) (filter has_two_or_more_items lists)) known (pairs-ordered c lists are)))

  pub cited-pairs : (m' : Metered) → HasCountedMade t.pairs ρ (cited_lists c) m m' → HasCountedPairs t a ρ m m'
  cited-pairs m' counted = λ s stands. counted.counted ∙ ap (with_work m) (listed s stands counted.made counted.reordered)

  pub cited-past : AreMadePast (is_past_with m) t.pairs ρ (cited_lists c) → IsPastPairs t a ρ m
  cited-past past = λ s stands.
      let lists = cited_lists c in
      let all = past.made ++ drop past.count lists in
      let reordered : AreReordered lists all
      = subst (λ ls. AreReordered ls all) (take-append-drop past.count lists)
      (reordered-append (take past.count lists) past.made (drop past.count lists) (drop past.count lists) past.reordered (reordered-drop past.count lists lists (self-order c))) in
      let first = filter has_two_or_more_items past.made in
      let whole = ap (lists_work t.pairs ρ) (filter-append has_two_or_more_items past.made (drop past.count lists)) in
      let front = works-front t.pairs ρ [] first (filter has_two_or_more_items (drop past.count lists)) in
      subst (λ n. is_past_with m n ≡ true) (listed s stands all reordered)
      (past-more m.limit (m.count + lists_work t.pairs ρ first) (m.count + lists_work t.pairs ρ (filter has_two_or_more_items all)) (omega (arith, whole, front)) past.past)

  -- the lists decide whether the images are disjoint as the groups of the assertion do
  pub cited-disjoint : (ok : Bool) → ok ≡ are_numbered_lists_disjoint t.pairs ρ (cited_lists c) → TellsDisjoint t a ρ ok
  cited-disjoint ok told = λ s stands.
      told
      ∙ (ap (λ v. are_numbered_lists_disjoint v ρ (cited_lists c)) (numbered-same t.pairs (before S t.at) t.frames.now.names ready.active ready.names)
      ∙ (ap (are_numbered_lists_disjoint (record { statements = before S t.at; names = t.frames.now.names }) ρ)
      (ap (λ v. cond c.are_kept (pairs_by (is_numbered_pair v) (float_variables c.hypotheses)) (pair_lists (is_numbered_pair v) [] (float_variables c.hypotheses))) known
      ∙ ap (λ hs. cond c.are_kept (pairs_by (is_numbered_pair own) (float_variables hs)) (pair_lists (is_numbered_pair own) [] (float_variables hs))) same)
      ∙ decides s stands c.are_kept))
    where
      own : Numbered
      own = record { statements = before S a; names = t.frames.now.names }

      all : List (List ℕ)
      all = pair_lists (is_numbered_pair own) [] (float_variables view.hypotheses)

      decides : (s : Stmt) → stmt_at S a ≡ Some s → (b : Bool)
          → are_numbered_lists_disjoint (record { statements = before S t.at; names = t.frames.now.names }) ρ (cond b (filter has_two_or_more_items all) all) ≡ are_groups_disjoint (before S t.at) (images_of_names t.frames.now.names ρ) (mandatory_groups (before S a) s)
      decides s stands true =
          kept-decide (before S t.at) (images_of_names t.frames.now.names ρ) t.frames.now.names own s view.hypotheses (filter has_two_or_more_items all) refl (cited s stands).variables.mandatory
          (filter-reordered all all (own-order (is_numbered_pair own) [] (float_variables view.hypotheses) (floats-once view.hypotheses)))
      decides s stands false = made-decide (before S t.at) (images_of_names t.frames.now.names ρ) t.frames.now.names own s (float_variables view.hypotheses) refl (cited s stands).variables.mandatory

  pub cited-at : c.are_kept ≡ view.pairs_listed → c.kept ≡ view.pairs → AreCitedAt t.pairs.names c
  cited-at listed kept =
      let is = cited assertion.0 assertion.1.0 in
      subst (λ names. AreCitedAt names c) (sym ready.names)
      (record {
        active = ap (λ v. v.names) known;
        below = subst (λ hs. AreBelow (length t.frames.now.names) (float_variables hs)) (sym same) is.variables.below;
        kept = λ h. subst (λ v. AreMandatoryPairs v c.hypotheses c.kept) (sym known)
            (subst (λ hs. AreMandatoryPairs (record { statements = before S a; names = t.frames.now.names }) hs c.kept) (sym same)
            (subst (AreMandatoryPairs (record { statements = before S a; names = t.frames.now.names }) view.hypotheses) (sym kept) (is.pairs (sym listed ∙ h))));
      })

-- an assertion without pairs
pub none-listed : (t : ProofContext) (a : ℕ) (ρ : CodeImages) (ready : IsReady t) (over : AreOver t.frames.now.names ρ) (view : AssertionView) (cited : IsCitedView t a view) (assertion : (s : Stmt) × HasAssertion t.frames.now.statements a s) (m : Metered)
    → view.pairs_listed ≡ true → length view.pairs ≡ 0 → HasCountedPairs t a ρ m m × TellsDisjoint t a ρ true
none-listed t a ρ ready over view cited assertion m listed none =
    let own : Numbered = record { statements = before t.frames.now.statements a; names = t.frames.now.names } in
    let c : CitedPairs = record { are_kept = true; kept = view.pairs; hypotheses = view.hypotheses; active = own } in
    let empty : AreReordered (pairs_by (is_numbered_pair own) (float_variables view.hypotheses)) [] = by (pairs_by (is_numbered_pair own) (float_variables view.hypotheses)) view.pairs none ((cited assertion.0 assertion.1.0).pairs listed) in (
      cited-pairs t a ρ ready over view cited assertion c refl refl m m (record { made = []; reordered = empty; counted = with-none m }),
      cited-disjoint t a ρ ready over view cited assertion c refl refl m true (all (pairs_by (is_numbered_pair own) (float_variables view.hypotheses)) empty),
    )
  where
    by : (lists kept : List (List ℕ)) → length kept ≡ 0 → AreReordered lists kept → AreReordered lists []
    by lists [] none are = are
    by lists (l ∷ kept) none are = absurd (omega (arith, none))

    all : (lists : List (List ℕ)) → AreReordered lists [] → true ≡ are_numbered_lists_disjoint t.pairs ρ lists
    all [] are = refl
    all (l ∷ lists) are = absurd are
