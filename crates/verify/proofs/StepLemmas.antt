-- The exits of a step in the code are steps of the machine.
use Rattle.verify.proofs.Words.{◌≡◌, ℕ, suc, ◌+◌, ◌-◌, ◌<◌, ◌≤◌, Bool, true, false, List, [], ◌∷◌, ◌++◌, length, map, take, get_or, Some, refl, sym, ◌∙◌, ap, subst, arith, length-map, take_all, map_more, item-cite, item-recall, Name, Stmt, Database, stmt_at, expr_of, name_at, decode, Item, Cite, Recall, Results, start, Cites, Runs, Adds, AreBelow, AllBelow, named, AreNamed, RunsItemByNumber, HasLegalProperties, item_of, IsRight, weight_limit, decode-injective, LabelEntry, AreEntries}
use Rattle.verify.proofs.Named.{named-result, result-named}
use Rattle.verify.proofs.Decide.{cites_same, refuted_at_end, accepts_right}
use Rattle.verify.proofs.Complete.{runs_append}

module _ (S : Database) (names : List Name) (at : ℕ) (legal : HasLegalProperties S names) where
  module _ (old new : Results ℕ) (an : AreNamed names old) where
    pub given-result : (label : Name) (ok : Bool) (e : List ℕ) → Cites S at label (map (decode names) old.stack) (map (decode names) old.stack) (decode names e) → AreBelow (length names) e → Adds ok old new old.stack e → RunsItemByNumber ok S at names (Cite label) old new
    given-result label true e cites codes adds = (
      (map (decode names) old.stack, decode names e, cites, ap (named names) adds ∙ named-result names old old.stack e),
      subst (AreNamed names) (sym adds) (result-named names old old.stack e an an.stack_named codes),
    )
    given-result label false e cites codes heavy = λ next p.
        let one = (cites_same S at (legal.single at) legal.once label (map (decode names) old.stack) p.0 (map (decode names) old.stack) p.1 (decode names e) p.2 cites).1 in
        let len : length p.1 ≡ length e = ap length one ∙ length-map e (name_at names) in
        let w = ap (λ s'. s'.weight) p.3 in
        omega (arith, heavy, len, w)

  -- ---- the whole proof

  pub record Reached (items : List Item) (st : Results ℕ) : Type 0 where
    pub runs : Runs S at start items (named names st)
    pub are_named : AreNamed names st

  pub reached-start : (st : Results ℕ) → st ≡ (let r : Results ℕ = record { stack = []; saved = []; weight = 0 } in r) → Reached [] st
  reached-start st e = subst (Reached []) (sym e) (record { runs = refl; are_named = record { stack_named = tt; saved_named = tt } })

  pub reached-step : (items : List Item) (item : Item) (old new : Results ℕ) → Reached items old → RunsItemByNumber true S at names item old new → Reached (items ++ item ∷ []) new
  reached-step items item old new r g =
      record { runs = runs_append S at (legal.single at) items (item ∷ []) start (named names old) (named names new) r.runs (named names new, g.0, refl); are_named = g.1 }

  pub right-end : (items : List Item) (st : Results ℕ) (s : Stmt) (e : List ℕ) → stmt_at S at ≡ Some s → Reached items st → decode names e ≡ expr_of s → st.stack ≡ e ∷ [] → st.weight ≤ weight_limit → IsRight S at items
  right-end items st s e stands r same one light =
      accepts_right S at (legal.single at) legal.once items s stands (record { end = named names st; runs = r.runs; one = ap (map (decode names)) one ∙ ap (λ x. x ∷ []) same; light = light })

  pub wrong-end : (items : List Item) (st : Results ℕ) (s : Stmt) (e : List ℕ) → stmt_at S at ≡ Some s → Reached items st → decode names e ≡ expr_of s → AreBelow (length names) e → (st.stack ≡ e ∷ [] → ⊥) → IsRight S at items → ⊥
  wrong-end items st s e stands r same codes other right =
      refuted_at_end S at (legal.single at) legal.once items (named names st) s stands r.runs (λ one. other (back st.stack r.are_named.stack_named (one ∙ ap (λ x. x ∷ []) (sym same)))) right
    where
      back : (stack : List (List ℕ)) → AllBelow (length names) stack → map (decode names) stack ≡ decode names e ∷ [] → stack ≡ e ∷ []
      back [] b h = cc
      back (x ∷ []) b h = ap (λ y. y ∷ []) (decode-injective names x e legal.distinct b.0 codes (let q : decode names x ≡ decode names e = cc in q))
      back (x ∷ y ∷ stack) b h = absurd (omega (arith, ap length h))

pub items-more : (labels : List Name) (numbers : List ℕ) (i : ℕ) → i < length numbers → map (item_of labels) (take (i + 1) numbers) ≡ map (item_of labels) (take i numbers) ++ item_of labels (get_or numbers i 0) ∷ []
items-more labels numbers i h = map_more (item_of labels) numbers i 0 h

pub all-taken : {A B : Type 0} (f : A → B) (xs : List A) (n : ℕ) → length xs ≤ n → map f (take n xs) ≡ map f xs
all-taken f xs n h = ap (map f) (take_all n xs h)

-- ---- an item by its number

module _ (S : Database) (at : ℕ) (labels : List Name) (table : List LabelEntry) (are : AreEntries S at labels table) (number k : ℕ) (is : number ≡ suc k) where
  pub cite-item : k < length table → Cite (get_or labels k []) ≡ item_of labels number
  cite-item within = let c = are.count in sym (item-cite labels number k is (omega (arith, within, c)))

  pub recall-item : length table ≤ k → Recall (suc (k - length table)) ≡ item_of labels number
  recall-item high = let c = are.count in ap (λ n. Recall (suc (k - n))) c ∙ sym (item-recall labels number k is (omega (arith, high, c)))
