-- A run of the machine spells derivations of its results.
use Rattle.verify.proofs.Words.{◌≡◌, ℕ, zero, suc, ◌+◌, List, [], ◌∷◌, ◌++◌, length, Some, slice_get, refl, sym, ◌∙◌, ap, subst, append_assoc, append-nil, add_assoc, zero-add, add-zero, Name, Expr, Database, Item, Cite, Recall, Mark, Derivation, Derivations, hyp, apply, none, more, Concludes, ConcludeAll, premises, Spells, SpellsAll, cites_hypothesis, cites_assertion, recalls, marks, spells_none, spells_more, State, start, Cites, of_hypothesis, of_assertion, IsSaved, with_result, with_mark, RunsItem, Runs}

module _ (S : Database) (at : ℕ) where
  abbrev pub AllConclude : List Derivation → List Expr → Type 0
  AllConclude [] [] = Unit {0}
  AllConclude (t ∷ ts) (e ∷ es) = Concludes S at t e × AllConclude ts es
  AllConclude ts es = ⊥

  -- ---- derivations one after the other

  -- with the first derivations marked, the items spell derivations of these expressions
  pub record Stacked (marked : List Derivation) (items : List Item) (es : List Expr) (after : List Derivation) (weight : ℕ) : Type 0 where
    pub children : Derivations
    pub spelled : SpellsAll S at marked items children after weight
    pub concluded : ConcludeAll S at children es

  -- one more derivation is appended
  pushed : {marked between after : List Derivation} {front more_items : List Item} {t : Derivation} {front_weight more_weight : ℕ} (children : Derivations) (below : List Expr) (e : Expr) (items : List Item) (weight : ℕ)
      → SpellsAll S at marked front children between front_weight → ConcludeAll S at children below → Spells S at between more_items t after more_weight → Concludes S at t e
      → items ≡ front ++ more_items → weight ≡ front_weight + more_weight → Stacked marked items (below ++ e ∷ []) after weight
  pushed {after = after} {more_items = more_items} {t = t} {more_weight = more_weight} none [] e items weight spells_none p one last whole weighs =
      record {
        children = more t none;
        spelled = spells_more more_items [] after more_weight 0 one spells_none (whole ∙ sym (append-nil more_items)) (weighs ∙ (zero-add more_weight ∙ sym (add-zero more_weight)));
        concluded = (last, tt);
      }
  pushed {more_items = more_items} {more_weight = more_weight} (more u children) (b ∷ below) e items weight (spells_more first rest middle first_weight rest_weight other all q r) p one last whole weighs =
      let s = pushed children below e (rest ++ more_items) (rest_weight + more_weight) all p.1 one last refl refl in
      record {
        children = more u s.children;
        spelled = spells_more first (rest ++ more_items) middle first_weight (rest_weight + more_weight) other s.spelled
            (whole ∙ (ap (λ is. is ++ more_items) q ∙ append_assoc first rest more_items)) (weighs ∙ (ap (λ w. w + more_weight) r ∙ add_assoc first_weight rest_weight more_weight));
        concluded = (p.0, s.concluded);
      }
  pushed none (b ∷ below) e items weight all p one last whole weighs = absurd p
  pushed (more u children) [] e items weight all p one last whole weighs = absurd p

  pub record Cut (marked : List Derivation) (items : List Item) (below tops : List Expr) (after : List Derivation) (weight : ℕ) : Type 0 where
    pub between : List Derivation
    pub front : List Item
    pub rest : List Item
    pub front_weight : ℕ
    pub rest_weight : ℕ
    pub first : Stacked marked front below between front_weight
    pub second : Stacked between rest tops after rest_weight
    pub whole : items ≡ front ++ rest
    pub weighs : weight ≡ front_weight + rest_weight

  -- the items can be split before those that spell the derivations of the last expressions
  cut : {marked after : List Derivation} {items : List Item} {weight : ℕ} (children : Derivations) (below tops : List Expr)
      → SpellsAll S at marked items children after weight → ConcludeAll S at children (below ++ tops) → Cut marked items below tops after weight
  cut {marked} {items = items} {weight = weight} children [] tops all p =
      record {
        between = marked;
        front = [];
        rest = items;
        front_weight = 0;
        rest_weight = weight;
        first = record { children = none; spelled = spells_none; concluded = tt };
        second = record { children = children; spelled = all; concluded = p };
        whole = refl;
        weighs = sym (zero-add weight);
      }
  cut none (b ∷ below) tops all p = absurd p
  cut (more t children) (b ∷ below) tops (spells_more first others middle first_weight others_weight one all q r) p =
      let c = cut children below tops all p.1 in
      record {
        between = c.between;
        front = first ++ c.front;
        rest = c.rest;
        front_weight = first_weight + c.front_weight;
        rest_weight = c.rest_weight;
        first = record { children = more t c.first.children; spelled = spells_more first c.front middle first_weight c.front_weight one c.first.spelled refl refl; concluded = (p.0, c.first.concluded) };
        second = c.second;
        whole = q ∙ (ap (λ r. first ++ r) c.whole ∙ sym (append_assoc first c.front c.rest));
        weighs = r ∙ (ap (λ w. first_weight + w) c.weighs ∙ sym (add_assoc first_weight c.front_weight c.rest_weight));
      }

  -- derivations of a list of one expression are one derivation
  one_of : {marked after : List Derivation} {items : List Item} {weight : ℕ} (children : Derivations) (e : Expr) → SpellsAll S at marked items children after weight → ConcludeAll S at children (e ∷ [])
      → (t : Derivation) × Spells S at marked items t after weight × Concludes S at t e
  one_of none e all p = absurd p
  one_of (more t (more u children)) e all p = absurd p.1
  one_of {marked = marked} {after = after} {items = items} {weight = weight} (more t none) e (spells_more first others middle first_weight others_weight one spells_none q r) p = (
    t,
    subst (λ is. Spells S at marked is t after weight) (sym (q ∙ append-nil first)) (subst (λ w. Spells S at marked first t after w) (sym (r ∙ add-zero first_weight)) one),
    p.0,
  )

  -- a derivation is saved, and its conclusion at the same index
  pub conclude_snoc : (ts : List Derivation) (t : Derivation) (es : List Expr) (e : Expr) → AllConclude ts es → Concludes S at t e → AllConclude (ts ++ t ∷ []) (es ++ e ∷ [])
  conclude_snoc [] t [] e p q = (q, tt)
  conclude_snoc (y ∷ ts) t (x ∷ es) e p q = (p.0, conclude_snoc ts t es e p.1 q)
  conclude_snoc ts t es e p q = absurd p

  -- if a result was saved, its derivation was saved at the same index
  pub saved_derivation : (ts : List Derivation) (es : List Expr) (k : ℕ) (e : Expr) → AllConclude ts es → slice_get es k ≡ Some e
      → (t : Derivation) × (slice_get ts k ≡ Some t) × Concludes S at t e
  saved_derivation [] [] k e p h = cc
  saved_derivation (t ∷ ts) (x ∷ es) zero e p h = (t, refl, subst (λ r. Concludes S at t r) (cc) p.0)
  saved_derivation (t ∷ ts) (x ∷ es) (suc k) e p h = saved_derivation ts es k e p.1 h
  saved_derivation ts es k e p h = absurd p

  -- ---- the machine's results have derivations, which the items spell

  pub record Backed (items : List Item) (st : State) : Type 0 where
    pub marked : List Derivation
    pub stacked : Stacked [] items st.stack marked st.weight
    pub kept : AllConclude marked st.saved

  -- the items can be split before those that spell the last results
  backed_cut : (items : List Item) (st : State) (b : Backed items st) (below tops : List Expr) → st.stack ≡ below ++ tops → Cut [] items below tops b.marked st.weight
  backed_cut items st b below tops whole = cut b.stacked.children below tops b.stacked.spelled (subst (ConcludeAll S at b.stacked.children) whole b.stacked.concluded)

  -- further items that spell one derivation push its conclusion
  backed_new : (items more_items : List Item) (st : State) (b : Backed items st) (t : Derivation) (below : List Expr) (e : Expr)
      → Spells S at b.marked more_items t b.marked (length e) → st.stack ≡ below → Concludes S at t e → Backed (items ++ more_items) (with_result st below e)
  backed_new items more_items st b t below e one same last =
      let s = b.stacked in
      record { marked = b.marked; stacked = pushed s.children below e (items ++ more_items) (st.weight + length e) s.spelled (subst (ConcludeAll S at s.children) same s.concluded) one last refl refl; kept = b.kept }

  -- a citation pushes a result with a derivation: the hypothesis, or the assertion over the
  -- derivations of the results it takes
  backed_cite : (items : List Item) (st : State) (label : Name) (below : List Expr) (e : Expr) → Backed items st → Cites S at label st.stack below e
      → Backed (items ++ Cite label ∷ []) (with_result st below e)
  backed_cite items st label below e b (of_hypothesis i s carries active same whole) =
      backed_new items (Cite label ∷ []) st b (hyp i) below e (cites_hypothesis s e carries active (s, active, same)) whole (s, active, same)
  backed_cite items st label below e b (of_assertion a s σ carries fits whole same) =
      let c = backed_cut items st b below (premises S a s σ) whole in
      let ends : Concludes S at (apply a c.second.children) e = (s, σ, fits, c.second.concluded, same) in
      record {
        marked = b.marked;
        stacked = pushed c.first.children below e (items ++ Cite label ∷ []) (st.weight + length e) c.first.spelled c.first.concluded
            (cites_assertion s e label c.rest c.rest_weight carries (record { earlier = fits.earlier; assertion = fits.assertion }) ends c.second.spelled refl refl) ends
            (ap (λ r. r ++ Cite label ∷ []) c.whole ∙ append_assoc c.front c.rest (Cite label ∷ [])) (ap (λ w. w + length e) c.weighs ∙ add_assoc c.front_weight c.rest_weight (length e));
        kept = b.kept;
      }

  -- a recalled result has the derivation that was saved for it
  backed_recall : (items : List Item) (st : State) (k : ℕ) (e : Expr) → Backed items st → IsSaved st.saved k e → Backed (items ++ Recall k ∷ []) (with_result st st.stack e)
  backed_recall items st zero e b h = absurd h
  backed_recall items st (suc k) e b h =
      let d = saved_derivation b.marked st.saved k e b.kept h in
      backed_new items (Recall (suc k) ∷ []) st b d.0 st.stack e (recalls e d.1 d.2) refl d.2

  -- a mark saves the derivation of the result on top
  backed_mark : (items : List Item) (st : State) (below : List Expr) (e : Expr) → Backed items st → st.stack ≡ below ++ e ∷ [] → Backed (items ++ Mark ∷ []) (with_mark st e)
  backed_mark items st below e b whole =
      let c = backed_cut items st b below (e ∷ []) whole in
      let o = one_of c.second.children e c.second.spelled c.second.concluded in
      record {
        marked = b.marked ++ o.0 ∷ [];
        stacked = subst (λ es. Stacked [] (items ++ Mark ∷ []) es (b.marked ++ o.0 ∷ []) st.weight) (sym whole)
            (pushed c.first.children below e (items ++ Mark ∷ []) st.weight c.first.spelled c.first.concluded (marks c.rest b.marked o.1 refl refl) o.2
            (ap (λ r. r ++ Mark ∷ []) c.whole ∙ append_assoc c.front c.rest (Mark ∷ [])) c.weighs);
        kept = conclude_snoc b.marked o.0 st.saved e b.kept o.2;
      }

  -- after a step each result has a derivation
  pub backed_step : (items : List Item) (st st' : State) (item : Item) → Backed items st → RunsItem S at st item st' → Backed (items ++ item ∷ []) st'
  backed_step items st st' (Cite label) b p = subst (Backed (items ++ Cite label ∷ [])) (sym p.3) (backed_cite items st label p.0 p.1 b p.2)
  backed_step items st st' (Recall k) b p = subst (Backed (items ++ Recall k ∷ [])) (sym p.2) (backed_recall items st k p.0 b p.1)
  backed_step items st st' Mark b p = subst (Backed (items ++ Mark ∷ [])) (sym p.3) (backed_mark items st p.0 p.1 b p.2)

  -- after a run each result has a derivation
  pub backed_run : (items more_items : List Item) (st st' : State) → Backed items st → Runs S at st more_items st' → Backed (items ++ more_items) st'
  backed_run items [] st st' b p = subst (λ is. Backed is st') (sym (append-nil items)) (subst (Backed items) p b)
  backed_run items (item ∷ more_items) st st' b p =
      subst (λ is. Backed is st') (append_assoc items (item ∷ []) more_items)
      (backed_run (items ++ item ∷ []) more_items p.0 st' (backed_step items st p.0 item b p.1) p.2)

  -- at the start there are no results
  pub backed_start : Backed [] start
  backed_start = record { marked = []; stacked = record { children = none; spelled = spells_none; concluded = tt }; kept = tt }

  -- the items spell a derivation of the expression, with this weight
  pub record Spelled (items : List Item) (e : Expr) (weight : ℕ) : Type 0 where
    pub tree : Derivation
    pub after : List Derivation
    pub spelled : Spells S at [] items tree after weight
    pub concludes : Concludes S at tree e

  -- SOUND: a run from the empty state to one result spells a derivation of it, of this weight
  pub sound : (items : List Item) (st : State) (e : Expr) → Runs S at start items st → st.stack ≡ e ∷ [] → Spelled items e st.weight
  sound items st e p one =
      let b : Backed items st = backed_run [] items start st backed_start p in
      let o = one_of b.stacked.children e b.stacked.spelled (subst (ConcludeAll S at b.stacked.children) one b.stacked.concluded) in
      record { tree = o.0; after = b.marked; spelled = o.1; concludes = o.2 }
