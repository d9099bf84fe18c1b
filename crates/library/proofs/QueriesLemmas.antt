-- The `$p` of a label, and the answers for it.
use Rattle.library.proofs.Words.{◌≡◌, ◌↔◌, ◌⊎◌, ℕ, List, Option, Some, None, Result, Err, MatchOption, refl, inl, inr, sym, ◌∙◌, ap, subst, true≢false, Name, Stmt, Database, bare, bares, proof_of, stmt_at, is_provable, Carries, HasLabelsOnce, Item, Derivation, mandatory_labels, IsProvable, IsRight, Derives, Good, HasItems, HasNoLabel, NamesNoProvable, NamesProvable, SpellsTree, IsTreeOf, AskFault, NoLabel, NotProvable, TooLarge}
use Rattle.library.specs.declared.queries.AskFault.TheVariants.{Memory}
use Rattle.library.proofs.ProvingLemmas.{Found, has-items, written-of}
use Rattle.library.proofs.CitationWalkLemmas.{carries-bare, carries-whole, labels-once, one-items}

module _ (S F : Database) (same : F ≡ bares S) where
  -- a label of the statements without their proofs is a label of the statements
  pub named : (label : Name) (at : ℕ) → (s : Stmt) × Carries F at s label → (t : Stmt) × Carries S at t label
  named label at c = carries-whole S at c.0 label (subst (λ U. Carries U at c.0 label) same c.1)

  pub no-label : (label : Name) → ((i : ℕ) (s : Stmt) → Carries F i s label → ⊥) → HasNoLabel S label
  no-label label none i s c = none i (bare s) (subst (λ U. Carries U i (bare s) label) (sym same) (carries-bare S i s label c))

  pub one-place : (label : Name) (i j : ℕ) (s r : Stmt) → HasLabelsOnce F → Carries S i s label → Carries S j r label → i ≡ j
  one-place label i j s r once c d =
      once i j (bare s) (bare r) label (subst (λ U. Carries U i (bare s) label) (sym same) (carries-bare S i s label c)) (subst (λ U. Carries U j (bare r) label) (sym same) (carries-bare S j r label d))

module _ (S : Database) (good : Good S) (label : Name) where
  same-place : (i j : ℕ) (s r : Stmt) → Carries S i s label → Carries S j r label → i ≡ j
  same-place i j s r c d = one-place S (bares S) refl label i j s r (labels-once S good) c d

  pub not-both : (at : ℕ) → NamesProvable S label at → NamesNoProvable S label → ⊥
  not-both at p q =
      let e : at ≡ q.position = same-place at q.position p.stmt q.stmt p.carries q.carries in
      let stands : Some p.stmt ≡ Some q.stmt = sym p.provable.stands ∙ (ap (stmt_at S) e ∙ q.carries.stands) in
      let same : p.stmt ≡ q.stmt = cc in
      true≢false (sym p.provable.provable ∙ (ap is_provable same ∙ q.other))

  pub one-tree : (at : ℕ) (t : Derivation) → NamesProvable S label at → IsTreeOf S label t → SpellsTree S at t
  one-tree at t p q = subst (λ j. SpellsTree S j t) (sym (same-place at q.0 p.stmt q.1.stmt p.carries q.1.carries)) q.2

  -- if the label has a derivation, the limits and memory are the only faults
  pub large-fault : {A B : Type 0} (fault : AskFault) (t : Derivation) → IsTreeOf S label t → (◌≡◌ {A = Result A AskFault} (Err fault) (Err NoLabel)) ↔ HasNoLabel S label → (◌≡◌ {A = Result A AskFault} (Err fault) (Err NotProvable)) ↔ NamesNoProvable S label
      → (◌≡◌ {A = Result B AskFault} (Err fault) (Err TooLarge)) ⊎ (◌≡◌ {A = Result B AskFault} (Err fault) (Err Memory))
  large-fault NoLabel t q none other = absurd (none.0 refl q.0 q.1.stmt q.1.carries)
  large-fault NotProvable t q none other = absurd (not-both q.0 q.1 (other.0 refl))
  large-fault TooLarge t q none other = inl refl
  large-fault Memory t q none other = inr refl

module _ (S F : Database) (same : F ≡ bares S) where
  -- the items of a `$p` of good statements are right
  pub is-right : (at : ℕ) (items : List Item) → Good S → HasItems S at items → IsRight F at items
  is-right at items good h =
      let p = good.proved at h.stmt h.provable in
      let e = one-items S at p.items items (record { stmt = p.stmt; provable = p.provable; written = p.written }) h in
      subst (λ U. IsRight U at items) (sym same) (subst (λ is. IsRight (bares S) at is) e p.right)

  -- the items that are found for the tokens of the `$p` s are its items, and are right
  pub found-good : (at : ℕ) (s : Stmt) (tokens : List Name) → Good S → IsProvable S at s → proof_of s ≡ tokens → (found : Option (List Item)) → Found tokens (mandatory_labels (bares S) at s) found
      → MatchOption found ((r : Stmt) → ¬ IsProvable S at r) (λ items. HasItems S at items × IsRight F at items)
  found-good at s tokens good provable e None none = λ r p.
      let q = good.proved at r p in
      none q.items (written-of S at s tokens provable e q.items (record { stmt = q.stmt; provable = q.provable; written = q.written }))
  found-good at s tokens good provable e (Some items) w = let has = has-items S at s tokens provable e items w in (has, is-right at items good has)

  -- the derivation of the `$p` is one that these items derive
  pub derives-these : (at : ℕ) (items : List Item) (t : Derivation) → HasItems S at items → SpellsTree S at t → Derives F at items t
  derives-these at items t h p =
      subst (λ U. Derives U at items t) (sym same) (subst (λ is. Derives (bares S) at is t) (one-items S at p.0 items p.1 h) p.2)

-- ---- the users of the statement with the label

module _ (S F : Database) (same : F ≡ bares S) (label : Name) (at : ℕ) where
  pub usage-label : {P : Type 0} → (s : Stmt) × Carries F at s label → (P → ⊥) → P ↔ HasNoLabel S label
  usage-label c other = ((λ p. absurd (other p)), λ none. absurd (let n = named S F same label at c in none at n.0 n.1))
