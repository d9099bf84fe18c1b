-- Steps over numbers are steps over the names that they stand for.
use Rattle.verify.proofs.Words.{◌≡◌, ℕ, zero, suc, ◌+◌, ◌-◌, ◌≤◌, Bool, true, false, List, [], ◌∷◌, ◌++◌, length, drop, get_or, slice_get, refl, map, take, Some, option_map, sym, ◌∙◌, ap, arith, subst, length-append, length-drop, length-map, take-append-drop, map_push, slice_get-map, AreBelow, AllBelow, Results, IsSaved, with_result, with_mark, below, top, Marks, Recalls, below-group, Name, Expr, Database, name_at, decode, Recall, Mark, named, AreNamed, RunsItemByNumber}
use Rattle.verify.proofs.ResultPlaceLemmas.{results-same}

-- ---- lists

pub all-snoc : (n : ℕ) (es : List (List ℕ)) (e : List ℕ) → AllBelow n es → AreBelow n e → AllBelow n (es ++ e ∷ [])
all-snoc n [] e p q = (q, tt)
all-snoc n (x ∷ es) e p q = (p.0, all-snoc n es e p.1 q)

pub all-take : (n k : ℕ) (es : List (List ℕ)) → AllBelow n es → AllBelow n (take k es)
all-take n zero es p = tt
all-take n (suc k) [] p = tt
all-take n (suc k) (e ∷ es) p = (p.0, all-take n k es p.1)

pub all-drop : (n k : ℕ) (es : List (List ℕ)) → AllBelow n es → AllBelow n (drop k es)
all-drop n zero es p = p
all-drop n (suc k) [] p = tt
all-drop n (suc k) (e ∷ es) p = all-drop n k es p.1

module _ (names : List Name) where
  pub named-result : (st : Results ℕ) (b : List (List ℕ)) (e : List ℕ) → named names (with_result st b e) ≡ with_result (named names st) (map (decode names) b) (decode names e)
  named-result st b e =
      results-same (map (decode names) (b ++ e ∷ [])) (map (decode names) b ++ decode names e ∷ []) (map (decode names) st.saved) (map (decode names) st.saved) (st.weight + length e) (st.weight + length (decode names e))
      (map_push (decode names) b e) refl (ap (λ n. st.weight + n) (sym (length-map e (name_at names))))

  pub named-mark : (st : Results ℕ) (e : List ℕ) → named names (with_mark st e) ≡ with_mark (named names st) (decode names e)
  named-mark st e =
      results-same (map (decode names) st.stack) (map (decode names) st.stack) (map (decode names) (st.saved ++ e ∷ [])) (map (decode names) st.saved ++ decode names e ∷ []) st.weight st.weight
      refl (map_push (decode names) st.saved e) refl

  pub result-named : (st : Results ℕ) (b : List (List ℕ)) (e : List ℕ) → AreNamed names st → AllBelow (length names) b → AreBelow (length names) e → AreNamed names (with_result st b e)
  result-named st b e a p q = record { stack_named = all-snoc (length names) b e p q; saved_named = a.saved_named }

  pub get-map-on : (es : List (List ℕ)) (k : ℕ) (e : List ℕ) → slice_get es k ≡ Some e → slice_get (map (decode names) es) k ≡ Some (decode names e)
  get-map-on es k e h = slice_get-map (decode names) es k ∙ ap (option_map (decode names)) h

  get-map-back : (es : List (List ℕ)) (k : ℕ) (f : Expr) → slice_get (map (decode names) es) k ≡ Some f → (e : List ℕ) × (slice_get es k ≡ Some e) × (f ≡ decode names e)
  get-map-back [] k f h = cc
  get-map-back (x ∷ es) zero f h = let q : f ≡ decode names x = cc in (x, refl, q)
  get-map-back (x ∷ es) (suc k) f h = get-map-back es k f h

  saved-on : (es : List (List ℕ)) (k : ℕ) (e : List ℕ) → IsSaved es k e → IsSaved (map (decode names) es) k (decode names e)
  saved-on es zero e h = absurd h
  saved-on es (suc k) e h = get-map-on es k e h

  saved-back : (es : List (List ℕ)) (k : ℕ) (f : Expr) → IsSaved (map (decode names) es) k f → (e : List ℕ) × IsSaved es k e × (f ≡ decode names e)
  saved-back es zero f h = absurd h
  saved-back es (suc k) f h = get-map-back es k f h

  saved-named : (es : List (List ℕ)) (k : ℕ) (e : List ℕ) → AllBelow (length names) es → IsSaved es k e → AreBelow (length names) e
  saved-named es zero e p h = absurd h
  saved-named es (suc k) e p h = below-group (length names) es k e p h

  module _ (S : Database) (at : ℕ) where
    -- ---- a recall, a mark, a hypothesis

    pub goes-recall : (ok : Bool) (old new : Results ℕ) (k : ℕ) → AreNamed names old → Recalls ok old new k → RunsItemByNumber ok S at names (Recall k) old new
    goes-recall true old new k a r = (
      (decode names r.0, saved-on old.saved k r.0 r.1, ap (named names) r.2 ∙ named-result old old.stack r.0),
      subst (AreNamed names) (sym r.2) (result-named old old.stack r.0 a a.stack_named (saved-named old.saved k r.0 a.saved_named r.1)),
    )
    goes-recall false old new k a r = λ next p.
        let b = saved-back old.saved k p.0 p.1 in
        let heavy = r b.0 b.1 in
        let len : length p.0 ≡ length b.0 = ap length b.2 ∙ length-map b.0 (name_at names) in
        let w = ap (λ s. s.weight) p.2 in
        omega (arith, heavy, len, w)

    pub goes-mark : (ok : Bool) (old new : Results ℕ) → AreNamed names old → Marks ok old new → RunsItemByNumber ok S at names Mark old new
    goes-mark true old new a m = (
      (map (decode names) m.0, decode names m.1, ap (map (decode names)) m.2 ∙ map_push (decode names) m.0 m.1, ap (named names) m.3 ∙ named-mark old m.1),
      subst (AreNamed names) (sym m.3) (record { stack_named = a.stack_named; saved_named = all-snoc (length names) old.saved m.1 a.saved_named (last-named m.0 m.1 (subst (AllBelow (length names)) m.2 a.stack_named)) }),
    )
      where
        last-named : (b : List (List ℕ)) (e : List ℕ) → AllBelow (length names) (b ++ e ∷ []) → AreBelow (length names) e
        last-named [] e p = p.0
        last-named (x ∷ b) e p = last-named b e p.1
    goes-mark false old new a m = λ next p.
        let e : [] ≡ p.0 ++ p.1 ∷ [] = ap (map (decode names)) (sym m) ∙ p.2 in
        absurd (omega (arith, ap length e, length-append p.0 (p.1 ∷ [])))

-- ---- an element of a list of lists of numbers with names

pub all-at : (n k : ℕ) (es : List (List ℕ)) → AllBelow n es → AreBelow n (get_or es k [])
all-at n k [] p = tt
all-at n zero (e ∷ es) p = p.0
all-at n (suc k) (e ∷ es) p = all-at n k es p.1

-- ---- the citation of an assertion

-- a list is the elements below its last r elements, followed by these
pub halves : {A : Type 0} (r : ℕ) (xs : List A) → xs ≡ below r xs ++ top r xs
halves r xs = sym (take-append-drop (length xs - r) xs)

pub length-top : {A : Type 0} (r : ℕ) (xs : List A) → r ≤ length xs → length (top r xs) ≡ r
length-top r xs h = let e = length-drop (length xs - r) xs in omega (arith, e, h)
